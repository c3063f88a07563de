use Rattle.std.proofs.Common.{◌/◌, ◌%◌, ap, arith}
use Rattle.kcr_base.proofs.DayLemmas.{two_at}
use Rattle.kcr_base.proofs.digits.read_clock.Goals as goal

pub returns-clause-only : goal.returns-clause-only
returns-clause-only c s p e =
    let hours = c.in_ok-hours.ensures.only (s / 3600) (omega arith) (omega arith) (ap (two_at 1) e) in
    let minutes = c.in_ok-minutes.ensures.only (s / 60 % 60) (omega arith) (omega arith) (ap (two_at 4) e) in
    grind (arith, hours, minutes, c.in_ok-seconds.ensures.only (s % 60) (omega arith) (omega arith) (ap (two_at 7) e))
