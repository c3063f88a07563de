use Rattle.kcr_store.proofs.Common.{[], IsTrue, state, tables, IsListed}
use Rattle.kcr_store.proofs.ListingLemmas.{given_rows}
use Rattle.kcr_store.proofs.database_rows.rows_as.Goals as goal

pub returns-in-Empty-clause-gives : goal.returns-in-Empty-clause-gives
returns-in-Empty-clause-gives g c clean live =
    let is = c.given.ensures in
    rw c.in-Empty.is (record { rows = λ has. given_rows (IsListed (tables [])) c.empty_register_rows.result _ is.rows (c.empty_register_rows.ensures.rows clean has); kind = is.kind })

pub returns-in-Empty-clause-opened : goal.returns-in-Empty-clause-opened
returns-in-Empty-clause-opened g c clean inside =
    given_rows (λ _. IsTrue (state g.S.Store c.args.tx.now.conn.now).is_open) c.empty_register_rows.result _ c.given.ensures.rows (c.empty_register_rows.ensures.opened clean inside)

pub returns-in-Current-clause-gives : goal.returns-in-Current-clause-gives
returns-in-Current-clause-gives g c clean live = rw c.in-Current.is (c.current_rows.ensures.gives clean live)

pub returns-in-Version2-clause-gives : goal.returns-in-Version2-clause-gives
returns-in-Version2-clause-gives g c clean live = rw c.in-Version2.is (c.older_rows.ensures.gives clean live)

pub returns-in-Version1-clause-gives : goal.returns-in-Version1-clause-gives
returns-in-Version1-clause-gives g c clean live = rw c.in-Version1.is (c.older_rows-in-Version1.ensures.gives clean live)
