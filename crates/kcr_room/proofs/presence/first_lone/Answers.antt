use Rattle.kcr_room.proofs.Common.{ap, ◌∙◌, first_lone_in_by, stays_by}
use Rattle.kcr_room.proofs.Moments.{first_lone-is_first, first_lone-by_rows}
use Rattle.kcr_room.proofs.presence.first_lone.Goals as goal

pub returns : goal.returns
returns c =
    let found = c.in_ok-crowding.ensures.lone ∙ ap (λ stays. first_lone_in_by stays c.args.ceremony) (c.deref.ensures.value ∙ c.in_ok-stays.ensures) in
    rw found (first_lone-by_rows c.args.rows.now c.args.ceremony _ (first_lone-is_first (stays_by c.args.rows.now) c.args.ceremony))
