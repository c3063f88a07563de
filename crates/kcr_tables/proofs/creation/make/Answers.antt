use Rattle.kcr_tables.proofs.{Common.state, Common.on_ok_then, JointLemmas.first_holds}
use Rattle.kcr_tables.proofs.creation.make.Goals as goal

pub returns-clause-made : goal.returns-clause-made
returns-clause-made g c clean has = on_ok_then _ _ (first_holds (state g.S.Store c.make_rows.new.tx.conn.now).now) c.make_rows.result
    (c.make_rows.ensures.holds clean has)
