use Rattle.std.proofs.Common.{◌/◌, ◌%◌, ap, arith}
use Rattle.kcr_base.proofs.DayLemmas.{two_at}
use Rattle.kcr_base.proofs.digits.read_date.Goals as goal

pub returns-clause-only : goal.returns-clause-only
returns-clause-only c y m d p e =
    let century = c.in_ok-century.ensures.only (y / 100) (omega (arith, p.year)) (omega (arith, p.year)) (ap (two_at 0) e) in
    let year = c.in_ok-year.ensures.only (y % 100) (omega arith) (omega arith) (ap (two_at 2) e) in
    let month = c.in_ok-month.ensures.only m p.month p.month (ap (two_at 5) e) in
    grind (arith, century, year, month, c.in_ok-day.ensures.only d p.day p.day (ap (two_at 8) e))
