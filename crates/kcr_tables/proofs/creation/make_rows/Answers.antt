use Rattle.kcr_tables.proofs.Common.{subst, OnOk, rules, state, StoredTables, Holds, within_then, within_fails, clean_before}
use Rattle.kcr_tables.proofs.SafeLemmas.{first_is}
use Rattle.kcr_tables.proofs.creation.make_rows.Goals as goal

pub returns-clause-holds : goal.returns-clause-holds
returns-clause-holds g c clean has =
    let new = state g.S.Store c.put.new.tx.conn.now in
    let clean3 = clean_before c.put.ensures.frame clean in
    let clean2 = clean_before c.put_pair-2.ensures.frame clean3 in
    let held1 = c.in_ok-create_all.ensures.holds (clean_before c.put_pair.ensures.frame clean2) has in
    let held2 = c.in_ok-put_pair.ensures.holds clean2 _ held1 in
    subst (λ (t : StoredTables). OnOk c.put.result (Holds new.now t)) first_is
    (c.put.ensures.holds clean _ (c.in_ok-put_pair-2.ensures.holds clean3 _ held2))

pub returns-in_err-put_pair-clause-frame : goal.returns-in_err-put_pair-clause-frame
returns-in_err-put_pair-clause-frame g c = search (rules, within_then, within_fails)

pub returns-in_err-put_pair-2-clause-frame : goal.returns-in_err-put_pair-2-clause-frame
returns-in_err-put_pair-2-clause-frame g c = search (rules, within_then, within_fails)

pub returns-clause-frame : goal.returns-clause-frame
returns-clause-frame g c = search (rules, within_then)
