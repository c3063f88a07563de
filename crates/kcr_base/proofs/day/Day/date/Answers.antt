use Rattle.std.proofs.Common.{◌≡◌, arith, ◌∙◌, ap, pos, w16, to_z, of_z, unsigned_abs}
use Rattle.std.proofs.lemmas.Int.{to_z-of_z}
use Rattle.jiff_core.proofs.SignedLemmas.{signed_arith}
use Rattle.kcr_base.specs.Day.{year_of, month_of, day_of_month}
use Rattle.kcr_base.proofs.DayLemmas.{date_of_number, date_is}
use Rattle.kcr_base.proofs.day.Day.date.Goals as goal

-- the parts that the calendar gave, and the cast of the year
found : (c : goal.After-struct_told-1) → (to_z w16 (of_z w16 c.from_days_since_min-date.result.year) ≡ pos (year_of c.args.self))
    × (c.from_days_since_min-date.result.month ≡ month_of c.args.self) × (c.from_days_since_min-date.result.day ≡ day_of_month c.args.self)
found c =
    let told = rw c.number-number.ensures.value at c.from_days_since_min-date.ensures in
    let h = date_is c.args.self c.from_days_since_min-date.result c.number-number.ensures.range told in
    let d = date_of_number c.args.self c.number-number.ensures.range in
    (to_z-of_z w16 c.from_days_since_min-date.result.year (rw h.0 (omega (arith, signed_arith, d.until))) ∙ h.0, h.1, h.2)

pub overflow_cast-result : goal.overflow_cast-result
overflow_cast-result c = rw (found c).0 (omega (arith, (date_of_number c.args.self c.number-number.ensures.range).until))

pub returns-clause-parts : goal.returns-clause-parts
returns-clause-parts c = let f = found c in (ap unsigned_abs f.0, f.1, f.2)

pub returns-clause-date : goal.returns-clause-date
returns-clause-date c = let f = found c in rw (f.0, f.1, f.2) (date_of_number c.args.self c.number-number.ensures.range)
