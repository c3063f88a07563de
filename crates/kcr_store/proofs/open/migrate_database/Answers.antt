use Rattle.kcr_store.proofs.Common.{rules, state, HasCleanDisk, was_clean, migrated_tables, IsMigrated, IsOpened, ShowsRows}
use Rattle.kcr_store.proofs.OpenLemmas.{opened_by, renewed_outside, shown_by}
use Rattle.kcr_store.proofs.{RowLemmas.within, StoreLemmas.brought_stores, WholeLemmas.nothing_made, WholeLemmas.outside_then}
use Rattle.kcr_store.proofs.open.migrate_database.Goals as goal

pub returns-in-Err-clause-answer : goal.returns-in-Err-clause-answer
returns-in-Err-clause-answer g c clean = let said = rw c.transaction-tx.ensures.begun at c.in-Err.ensures.answer in search (rules, was_clean, said)

pub returns-in-Ok-commit-clause-shows : goal.returns-in-Ok-commit-clause-shows
returns-in-Ok-commit-clause-shows g c clean A s =
    let opened : HasCleanDisk (state g.S.Store c.commit.new.self.0) → IsOpened A c.in-Ok.count (state g.S.Store c.commit.new.self.0) = λ at.
    let brought = rw c.transaction-tx.ensures.begun at c.in-Ok.ensures.brought in
    let made = brought (was_clean _ _ _ c.commit.ensures.survives at) A s in
    opened_by (c.in-Ok-commit.ensures.ok at).1 (brought_stores A _ s.tables.register made.1) made.0 in
    search rules

pub returns-in-Ok-commit-clause-rows : goal.returns-in-Ok-commit-clause-rows
returns-in-Ok-commit-clause-rows g c clean t held =
    let shown : HasCleanDisk (state g.S.Store c.commit.new.self.0) → ShowsRows (migrated_tables c.args.from t)
    (state g.S.Store c.commit.new.self.0) = λ at.
    let rows = rw c.transaction-tx.ensures.begun at c.in-Ok.ensures.rows in
    shown_by (c.in-Ok-commit.ensures.ok at).1 (rows (was_clean _ _ _ c.commit.ensures.survives at) t held) in
    search rules

pub returns-in-Ok-commit-clause-frame : goal.returns-in-Ok-commit-clause-frame
returns-in-Ok-commit-clause-frame g c =
    let left = renewed_outside g.S.Store c.args.conn.now c.renewed_count.ensures.frame c.transaction-tx.ensures.begun c.args.from
    c.in-Ok.ensures.brought c.in-Ok.ensures.rows c.commit.new.self.0 c.commit.ensures.survives c.commit.ensures.ended in
    search rules

-- ---- out of memory at the commit: the store is asked whether it is still open

pub returns-in-Err-SqliteFailure-OutOfMemory-clause-left : goal.returns-in-Err-SqliteFailure-OutOfMemory-clause-left
returns-in-Err-SqliteFailure-OutOfMemory-clause-left g c other =
    nothing_made g.S.Store c.args.conn.now (within g.S.Store c.args.conn.now c.renewed_count.ensures.frame c.transaction-tx.ensures.begun)
    g.met.S.Store.stays g.met.S.Store.settled c.commit.ensures.survives c.commit_fault.new.conn (search rules)
    c.in-Err-SqliteFailure-OutOfMemory.ensures.err (search rules) (search rules)

pub returns-in-Err-SqliteFailure-OutOfMemory-clause-frame : goal.returns-in-Err-SqliteFailure-OutOfMemory-clause-frame
returns-in-Err-SqliteFailure-OutOfMemory-clause-frame g c =
    let left = renewed_outside g.S.Store c.args.conn.now c.renewed_count.ensures.frame c.transaction-tx.ensures.begun c.args.from
    c.in-Ok.ensures.brought c.in-Ok.ensures.rows c.commit.new.self.0 c.commit.ensures.survives c.commit.ensures.ended in
    outside_then g.S.Store (IsMigrated c.args.from (state g.S.Store c.args.conn.now).now) c.args.conn.now c.commit.new.self.0
    c.commit_fault.new.conn left (search rules)

-- ---- the device failed at the commit, which may have been made

pub returns-in-Err-commit : goal.returns-in-Err-commit
returns-in-Err-commit g c =
    let left = renewed_outside g.S.Store c.args.conn.now c.renewed_count.ensures.frame c.transaction-tx.ensures.begun c.args.from
    c.in-Ok.ensures.brought c.in-Ok.ensures.rows c.commit.new.self.0 c.commit.ensures.survives c.commit.ensures.ended in
    search rules
