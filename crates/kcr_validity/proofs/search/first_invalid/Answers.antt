use Rattle.kcr_rows.proofs.FailLemmas.{if_ok}
use Rattle.kcr_tables.proofs.FrameLemmas.{fails_as, reads_to}
use Rattle.kcr_validity.proofs.SearchLemmas.{found_among}
use Rattle.kcr_validity.proofs.search.first_invalid.Goals as goal

pub returns-clause-found : goal.returns-clause-found
returns-clause-found g c clean has =
    let told = rw c.deref.ensures.value at c.first_among.ensures.found in
    if_ok _ _ (λ found. found_among g.T.Columns.kinds _ _ found (c.in_ok-rows.ensures.rows clean has)) c.first_among.result told

pub returns-in_err-rows-clause-frame : goal.returns-in_err-rows-clause-frame
returns-in_err-rows-clause-frame g c = fails_as c.from_residual.ensures.1 c.in_err-rows.ensures.frame

pub returns-clause-frame : goal.returns-clause-frame
returns-clause-frame g c = reads_to c.first_among.ensures.cause c.in_ok-rows.ensures.frame
