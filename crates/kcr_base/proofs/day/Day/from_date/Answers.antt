use Rattle.std.proofs.Common.{◌≡◌, ℕ, arith, ◌∙◌, pos, w8, w16, w32, to_z, of_z}
use Rattle.std.proofs.lemmas.Int.{to_z-of_z, to_z_pos}
use Rattle.jiff_core.proofs.SignedLemmas.{signed_arith}
use Rattle.kcr_base.specs.Day.{IsDayOf, IsDay}
use Rattle.kcr_base.proofs.DayLemmas.{date_found, number_in_range}
use Rattle.kcr_base.proofs.day.Day.from_date.Goals as goal

-- the number that the calendar gave, and its cast
found : (c : goal.After-to_unix_epoch_day)
    → (n : ℕ) × (to_z w32 (of_z w32 c.to_unix_epoch_day.result) ≡ pos n) × IsDayOf c.args.year c.args.month c.args.day n × IsDay n
found c =
    let h = c.in-Ok.ensures.value in
    let r = date_found c.args.year c.args.month c.args.day c.in-Ok.date _ (omega arith) (omega arith) (h.0 ∙ to_z_pos w16 _ (omega arith))
    (h.1 ∙ to_z_pos w8 _ (omega arith)) (h.2 ∙ to_z_pos w8 _ (omega arith)) c.to_unix_epoch_day.ensures.value in
    let range = number_in_range c.args.year c.args.month c.args.day r.0 r.2 in
    (r.0, to_z-of_z w32 c.to_unix_epoch_day.result (rw r.1 (omega (arith, signed_arith, range.until))) ∙ r.1, r.2, range)

pub overflow_cast-result : goal.overflow_cast-result
overflow_cast-result c = let f = found c in rw f.1 (omega (arith, f.3.until))

pub invariant_of-result : goal.invariant_of-result
invariant_of-result c = let f = found c in rw f.1 f.3

pub returns-in-Ok-clause-found : goal.returns-in-Ok-clause-found
returns-in-Ok-clause-found c = let f = found c in rw f.1 f.2
