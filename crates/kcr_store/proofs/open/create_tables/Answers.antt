use Rattle.kcr_store.proofs.{Common.rules, RowLemmas.within, WholeLemmas.nothing_made}
use Rattle.kcr_store.proofs.open.create_tables.Goals as goal

-- the store that met out of memory at the commit is still open
pub returns-in-Err-SqliteFailure-OutOfMemory-clause-left : goal.returns-in-Err-SqliteFailure-OutOfMemory-clause-left
returns-in-Err-SqliteFailure-OutOfMemory-clause-left g c memory =
    nothing_made g.S.Store c.args.conn.now (within g.S.Store c.args.conn.now c.make.ensures.frame c.transaction-tx.ensures.begun)
    g.met.S.Store.stays g.met.S.Store.settled c.commit.ensures.survives c.commit_fault.new.conn (search rules)
    c.in-Err-SqliteFailure-OutOfMemory.ensures.err (search rules) (search rules)
