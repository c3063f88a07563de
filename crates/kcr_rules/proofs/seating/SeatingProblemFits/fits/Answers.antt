use Rattle.kcr_rules.proofs.Common.{List, [], ap, ◌∙◌, get_or, get_or_default, Training, Staff, fits_by}
use Rattle.kcr_base.specs.declared.place.Role.TheVariants.{Ca}
use Rattle.kcr_rules.proofs.Own.{fits_own, fits_there, own_row}
use Rattle.kcr_rules.proofs.seating.SeatingProblemFits.fits.Goals as goal

pub returns : goal.returns
returns c =
    let room = c.args.self.now in
    let who = get_or room.people.now c.args.person [] in
    let seat = get_or room.seats.now c.args.seat (Staff Ca) in
    let fit = λ (trainings : List Training). fits_by trainings room.withdrawals.now room.rows.now room.facility room.day in
    c.fits.ensures
    ∙ ap (fit c.deref.result.now seat) (get_or_default room.people.now c.args.person _ [] c.requires.person)
    ∙ ap (λ rows. fit rows seat who)
    (c.deref.ensures.value
    ∙ own_row (λ rows. rows.items) room.trainings.now room.people.now room.own.now room.split c.args.person _ c.requires.person)
    ∙ fits_own room.trainings.now room.withdrawals.now room.rows.now room.facility room.day seat who
    ∙ fits_there (fit room.trainings.now) room.seats.now room.people.now c.args.seat c.args.person (Staff Ca) [] c.requires.seat c.requires.person
