use Rattle.kcr_reading.proofs.Common.{sym, subst, rules, IsSome, true≢false, fails_as, reads_to}
use Rattle.kcr_reading.proofs.FirstLemmas.{popped, no_rows}
use Rattle.kcr_reading.proofs.seek.first_row.Goals as goal

pub returns-in_err-rows-clause-frame : goal.returns-in_err-rows-clause-frame
returns-in_err-rows-clause-frame g c choice shows = fails_as c.from_residual.ensures.1 (c.in_err-rows.ensures.frame 1 choice shows)

pub returns-clause-row : goal.returns-clause-row
returns-clause-row g c choice shows clean t held those same up =
    let rows = c.in_ok-rows.rows.items in
    popped rows c.pop.new.self.items those c.pop.result (c.in_ok-rows.ensures.rows 1 choice shows clean t held those same up) c.pop.ensures.items
    (λ none. no_rows c.in_ok-rows.rows.len rows (search (rules, c.in_ok-rows.rows.ok))
    (λ low. true≢false (sym (subst IsSome none (c.pop.ensures.variant.1 low)))))

pub returns-clause-frame : goal.returns-clause-frame
returns-clause-frame g c choice shows = reads_to tt (c.in_ok-rows.ensures.frame 1 choice shows)
