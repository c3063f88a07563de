use Rattle.kcr_room.proofs.Common.{ap, ◌∙◌, is_crowded_in_by, stays_by}
use Rattle.kcr_room.proofs.Moments.{crowded-is_ever, crowded-by_rows}
use Rattle.kcr_room.proofs.presence.is_crowded.Goals as goal

pub returns : goal.returns
returns c =
    let found = c.in_ok-crowding.ensures.crowded ∙ ap (λ stays. is_crowded_in_by stays c.args.ceremony) (c.deref.ensures.value ∙ c.in_ok-stays.ensures) in
    rw found (crowded-by_rows c.args.rows.now c.args.ceremony _ (crowded-is_ever (stays_by c.args.rows.now) c.args.ceremony))
