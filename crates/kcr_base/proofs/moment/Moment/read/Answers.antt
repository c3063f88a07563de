use Rattle.std.proofs.Common.{◌/◌, ◌%◌, ◌∙◌, sym, arith}
use Rattle.kcr_base.proofs.DayLemmas.{moment_parts, moment_whole, day_of_moment}
use Rattle.kcr_base.proofs.moment.Moment.read.Goals as goal

pub returns-then-bytes-ne20-clause-only : goal.returns-then-bytes-ne20-clause-only
returns-then-bytes-ne20-clause-only c t valid e = absurd (omega (arith, (moment_parts t c.args.bytes.now e).0))

pub returns-in_err-day-clause-only : goal.returns-in_err-day-clause-only
returns-in_err-day-clause-only c t valid e =
    cc (c.in_err-day.ensures.only (t / 86400) (day_of_moment t valid) ((moment_parts t c.args.bytes.now e).1 ∙ sym c.split_at.ensures.front))

pub returns-in_err-second-clause-only : goal.returns-in_err-second-clause-only
returns-in_err-second-clause-only c t valid e =
    cc (c.in_err-second.ensures.only (t % 86400) (omega arith) ((moment_parts t c.args.bytes.now e).2 ∙ sym c.split_at.ensures.back))

pub returns-clause-found : goal.returns-clause-found
returns-clause-found c =
    let d = c.in_ok-day.ensures.found in
    let s = c.in_ok-second.ensures.found in
    rw c.at.ensures (omega (arith, d.0, s.0), moment_whole _ _ c.args.bytes.now s.0 (d.1 ∙ c.split_at.ensures.front) (s.1 ∙ c.split_at.ensures.back))

pub returns-clause-only : goal.returns-clause-only
returns-clause-only c t valid e =
    let p = moment_parts t c.args.bytes.now e in
    let d = c.in_ok-day.ensures.only (t / 86400) (day_of_moment t valid) (p.1 ∙ sym c.split_at.ensures.front) in
    grind (arith, d, c.in_ok-second.ensures.only (t % 86400) (omega arith) (p.2 ∙ sym c.split_at.ensures.back), c.at.ensures)
