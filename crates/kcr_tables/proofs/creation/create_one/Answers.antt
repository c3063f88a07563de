use Rattle.kcr_tables.proofs.{Common.state, Common.HasCleanDisk, Common.on_ok_then, MakeLemmas.create_next}
use Rattle.kcr_tables.proofs.creation.create_one.Goals as goal

pub returns : goal.returns
returns g c =
    let at = c.args.at in
    let old = state g.S.Store c.args.tx.now.conn.now in
    let new = state g.S.Store c.run_statement.new.tx.conn.now in
    let ran = λ (clean : HasCleanDisk new). rw c.create_table_sql-text.ensures at (c.run_statement.ensures.runs clean) in record {
      made = λ clean has. on_ok_then _ _ (λ h.
          let it = create_next at c.requires old new h.0 has.schema has.empty h.1 in record { schema = it.0; empty = it.1 }) c.run_statement.result (ran clean);
      sound = λ clean has. on_ok_then _ _ (λ h. (create_next at c.requires old new h.0 has.schema has.empty h.1).2) c.run_statement.result (ran clean);
      frame = c.run_statement.ensures.frame;
    }
