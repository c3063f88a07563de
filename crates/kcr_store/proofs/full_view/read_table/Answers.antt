use Rattle.kcr_store.proofs.Common.{rules, if_both, held_of, was_clean, AreRows}
use Rattle.kcr_store.proofs.{StoreLemmas.in_table, WholeLemmas.of_durable, WholeLemmas.read_back}
use Rattle.kcr_store.proofs.full_view.read_table.Goals as goal

pub returns-clause-rows : goal.returns-clause-rows
returns-clause-rows g c clean m held =
    let before = was_clean _ _ _ c.rollback.ensures.survives (search rules) in
    let rows = rw c.transaction-tx.ensures.begun at c.all_rows-rows.ensures.rows in
    let machine = rw c.transaction-tx.ensures.begun at c.all_rows-rows.ensures.machine in
    if_both _ _ _ (λ rows. in_table g.R.TableRow.table held.tables.kept) c.all_rows-rows.result (rows before _ (held_of m _ held))
    (machine before m held)

pub returns-clause-frame : goal.returns-clause-frame
returns-clause-frame g c =
    let left = read_back g.S.Store c.args.conn.now c.rollback.new.self.0 c.all_rows-rows.ensures.frame.within c.transaction-tx.ensures.begun
    c.rollback.ensures.survives c.rollback.ensures.undone c.rollback.ensures.ended in
    search rules

pub returns-clause-register : goal.returns-clause-register
returns-clause-register g c =
    let opened = rw c.transaction-tx.ensures.begun at c.all_rows-rows.ensures.opened in
    of_durable (λ m rows. AreRows g.R.TableRow.table.rows_in m rows.items) (returns-clause-frame g c) (returns-clause-rows g c)
    (λ clean. opened (was_clean _ _ _ c.rollback.ensures.survives (search rules)))
