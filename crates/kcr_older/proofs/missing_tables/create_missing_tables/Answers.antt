use Rattle.kcr_older.proofs.{Common.state, Common.on_ok_then, Common.clean_before, Grown.grown_from_1, Grown.grown_from_2}
use Rattle.kcr_older.proofs.missing_tables.create_missing_tables.Goals as goal

pub returns-in_ok-create_stays-in-V1-clause-holds : goal.returns-in_ok-create_stays-in-V1-clause-holds
returns-in_ok-create_stays-in-V1-clause-holds g c clean t held =
    let old = state g.S.Store c.args.tx.now.conn.now in
    let mid = state g.S.Store c.create_stays.new.tx.conn.now in
    let new = state g.S.Store c.create_withdrawals.new.tx.conn.now in
    let before = clean_before c.create_withdrawals.ensures.frame clean in
    let own = rw c.in-V1.is at held in
    let one = c.in_ok-create_stays-in-V1.ensures.gains before own.schema in
    rw c.in-V1.is (on_ok_then _ _ (grown_from_1 old.now mid.now new.now t own one) c.create_withdrawals.result
    (c.create_withdrawals.ensures.gains clean one.schema))

pub returns-in-V2-clause-holds : goal.returns-in-V2-clause-holds
returns-in-V2-clause-holds g c clean t held =
    let old = state g.S.Store c.args.tx.now.conn.now in
    let new = state g.S.Store c.create_withdrawals-in-V2.new.tx.conn.now in
    let own = rw c.in-V2.is at held in
    rw c.in-V2.is (on_ok_then _ _ (grown_from_2 old.now new.now t own) c.create_withdrawals-in-V2.result
    (c.create_withdrawals-in-V2.ensures.gains clean own.schema))
