use Rattle.kcr_store.proofs.Common.{inl, inr, refl, rules, Ok, ℕ, true≢false, Error, HasCleanDisk, State, Survives, state, was_clean}
use Rattle.kcr_store.proofs.Common.{History, Command, EndsByRows, RepliesBy, Memory, Disk, EndsCommand, Accepted, InDoubt, Refused}
use Rattle.kcr_store.proofs.ByRows.{accepted_rows, begun_had, committed_by, doubtful_rows, refused_by, refused_rows}
use Rattle.kcr_store.proofs.RowLemmas.{rows_back, stood, within}
use Rattle.kcr_store.proofs.WholeLemmas.{accepted_ends, counted_as, doubtful_ends, either, either_last, made_by, read_back}
use Rattle.kcr_store.proofs.WholeLemmas.{nothing_made, refused_ends, still_counted, whole_done, whole_undone}
use Rattle.kcr_machine.proofs.Decided.{fault-refused}
use Rattle.kcr_store.proofs.transaction.run_command.Goals as goal

-- ---- what the command may get, whatever the tables hold

pub returns-in-Err-clause-kind : goal.returns-in-Err-clause-kind
returns-in-Err-clause-kind g c = c.in-Err.ensures.kind

pub returns-in-Ok-commit-clause-kind : goal.returns-in-Ok-commit-clause-kind
returns-in-Ok-commit-clause-kind g c = c.in-Ok.ensures.kind

pub returns-clause-kind : goal.returns-clause-kind
returns-clause-kind g c = fault-refused c.args.command.now Disk (inr refl)

pub returns-in-Err-SqliteFailure-OutOfMemory-clause-kind : goal.returns-in-Err-SqliteFailure-OutOfMemory-clause-kind
returns-in-Err-SqliteFailure-OutOfMemory-clause-kind g c = fault-refused c.args.command.now Disk (inr refl)

pub returns-in-Ok-prepare-clause-kind : goal.returns-in-Ok-prepare-clause-kind
returns-in-Ok-prepare-clause-kind g c = fault-refused c.args.command.now Memory (inl refl)

-- ---- by whatever rows the tables hold

pub returns-in-Err-clause-by_rows : goal.returns-in-Err-clause-by_rows
returns-in-Err-clause-by_rows g c clean m had =
    refused_by (c.in-Err.ensures.by_rows (was_clean _ _ _ c.drop-tx.ensures.survives (search rules)) m
    (begun_had g.S.Store c.args.conn.now _ c.transaction-tx.ensures.begun m had)).decided

pub returns-in-Ok-commit-clause-by_rows : goal.returns-in-Ok-commit-clause-by_rows
returns-in-Ok-commit-clause-by_rows g c clean m had =
    let at : HasCleanDisk (state g.S.Store c.commit.new.self.0) = search rules in
    let by = c.in-Ok.ensures.by_rows (was_clean _ _ _ c.commit.ensures.survives at) m
    (begun_had g.S.Store c.args.conn.now _ c.transaction-tx.ensures.begun m had) in
    let done : RepliesBy m c.args.count c.args.command.now (Ok c.in-Ok.verdict.reply) (state g.S.Store c.commit.new.self.0) =
    committed_by {mid = state g.S.Store c.decide_and_write.new.tx.conn.now} by (c.in-Ok-commit.ensures.ok at).1 in
    search rules

pub returns-clause-by_rows : goal.returns-clause-by_rows
returns-clause-by_rows g c clean m had = refused_by (inl (inr refl))

pub returns-in-Err-SqliteFailure-OutOfMemory-clause-by_rows : goal.returns-in-Err-SqliteFailure-OutOfMemory-clause-by_rows
returns-in-Err-SqliteFailure-OutOfMemory-clause-by_rows g c clean m had = refused_by (inl (inr refl))

pub returns-in-Ok-prepare-clause-by_rows : goal.returns-in-Ok-prepare-clause-by_rows
returns-in-Ok-prepare-clause-by_rows g c clean m had = refused_by (inl (inl refl))

-- ---- the rows after it

pub returns-in-Err-clause-rows : goal.returns-in-Err-clause-rows
returns-in-Err-clause-rows g c clean m had =
    let end : HasCleanDisk (state g.S.Store c.drop-tx.new.self.0) = search rules in
    let back = c.drop-tx.ensures in
    let begun = c.transaction-tx.ensures.begun in
    let left = read_back g.S.Store c.args.conn.now c.drop-tx.new.self.0 c.decide_and_write.ensures.frame begun back.survives back.undone back.ended in
    let by = c.in-Err.ensures.by_rows (was_clean _ _ _ back.survives end) m
    (begun_had g.S.Store c.args.conn.now _ begun m (λ live. (had (left.clean end) live).now)) in
    let ended : EndsByRows m c.args.count c.args.command.now (Refused c.in-Err.refusal) (state g.S.Store c.drop-tx.new.self.0) =
    refused_rows by.decided (left.rows m had) in
    search rules

pub returns-in-Ok-commit-clause-rows : goal.returns-in-Ok-commit-clause-rows
returns-in-Ok-commit-clause-rows g c clean m had =
    let end : HasCleanDisk (state g.S.Store c.commit.new.self.0) = search rules in
    let begun = c.transaction-tx.ensures.begun in
    let mid = was_clean _ _ _ c.commit.ensures.survives end in
    let before = was_clean _ _ _ (within g.S.Store c.args.conn.now c.decide_and_write.ensures.frame begun).survives mid in
    let by = c.in-Ok.ensures.by_rows mid m (begun_had g.S.Store c.args.conn.now _ begun m (λ live. (had before live).now)) in
    let ended : EndsByRows m c.args.count c.args.command.now (Accepted c.in-Ok.verdict) (state g.S.Store c.commit.new.self.0) =
    accepted_rows {mid = state g.S.Store c.decide_and_write.new.tx.conn.now} by (c.in-Ok-commit.ensures.ok end).1 in
    search rules

pub returns-clause-rows : goal.returns-clause-rows
returns-clause-rows g c clean m had = doubtful_rows _

pub returns-in-Err-SqliteFailure-OutOfMemory-clause-rows : goal.returns-in-Err-SqliteFailure-OutOfMemory-clause-rows
returns-in-Err-SqliteFailure-OutOfMemory-clause-rows g c clean m had = doubtful_rows _

pub returns-in-Ok-prepare-clause-rows : goal.returns-in-Ok-prepare-clause-rows
returns-in-Ok-prepare-clause-rows g c clean m had =
    let w = within g.S.Store c.args.conn.now c.decide_and_write.ensures.frame c.transaction-tx.ensures.begun in
    let back = stood _ _ (state g.S.Store c.prepare.new.self) c.commit.ensures.survives (search rules) c.in-Err-SqliteFailure-OutOfMemory.field-0
    (search rules) (λ clean. c.in-Err-SqliteFailure-OutOfMemory.ensures.err clean) (λ clean. search rules) in
    refused_rows (inl (inl refl)) (rows_back w m had (λ clean. (back clean).1))

-- ---- refused: the transaction is dropped

pub returns-in-Err-clause-step : goal.returns-in-Err-clause-step
returns-in-Err-clause-step g c clean A was =
    let back = c.drop-tx.ensures in
    let left = read_back g.S.Store c.args.conn.now c.drop-tx.new.self.0 c.decide_and_write.ensures.frame c.transaction-tx.ensures.begun
    back.survives back.undone back.ended in
    let ended : HasCleanDisk (state g.S.Store c.drop-tx.new.self.0)
    → EndsCommand c.args.count A c.args.command.now (Refused c.in-Err.refusal) (state g.S.Store c.drop-tx.new.self.0) = λ end.
    let before = left.clean end in
    let refuses = rw c.transaction-tx.ensures.begun at c.in-Err.ensures.frame.cause in
    refused_ends (refuses (was_clean _ _ _ back.survives end) A (λ live. (was.whole.shows before live).now) (was.counts before))
    (still_counted left was) in
    search rules

pub returns-in-Err-clause-clean : goal.returns-in-Err-clause-clean
returns-in-Err-clause-clean g c clean =
    let within = rw c.transaction-tx.ensures.begun at c.decide_and_write.ensures.frame.survives in search (rules, was_clean, within)

-- ---- accepted: the commit stands

pub returns-in-Ok-commit-clause-step : goal.returns-in-Ok-commit-clause-step
returns-in-Ok-commit-clause-step g c clean A was =
    let w = within g.S.Store c.args.conn.now c.decide_and_write.ensures.frame c.transaction-tx.ensures.begun in
    let made = made_by g.S.Store c.args.conn.now _ c.transaction-tx.ensures.begun w c.args.command.now _ c.in-Ok.verdict c.in-Ok.ensures.done was in
    let mid = was_clean _ _ _ c.commit.ensures.survives in
    let whole = whole_done w was.whole _ _ c.commit.ensures.survives (λ clean. (made clean).1)
    (λ db. g.met.S.Store.settled c.commit.new.self.0.store db)
    (λ clean. (c.in-Ok-commit.ensures.ok clean).1) in
    let ended : EndsCommand c.args.count A c.args.command.now (Accepted c.in-Ok.verdict) (state g.S.Store c.commit.new.self.0) =
    accepted_ends (made (mid (search rules))).0 (counted_as whole (λ clean. (made (mid clean)).2)) in
    search rules

pub returns-in-Ok-commit-clause-clean : goal.returns-in-Ok-commit-clause-clean
returns-in-Ok-commit-clause-clean g c clean =
    let within = rw c.transaction-tx.ensures.begun at c.decide_and_write.ensures.frame.survives in search (rules, was_clean, within)

-- ---- the commit failed, and may stand

-- whatever error it failed with
doubtful_by : {error other : Error} {count : ℕ} {A : History} {x : Command} {new : State} → EndsCommand count A x (InDoubt error) new
    → EndsCommand count A x (InDoubt other) new
doubtful_by e = record { next = e.next; step = e.step; candidate = e.candidate; shows = λ is. absurd (true≢false is); crash = e.crash }

pub returns-clause-step : goal.returns-clause-step
returns-clause-step g c clean A was =
    let w = within g.S.Store c.args.conn.now c.decide_and_write.ensures.frame c.transaction-tx.ensures.begun in
    let made = made_by g.S.Store c.args.conn.now _ c.transaction-tx.ensures.begun w c.args.command.now _ c.in-Ok.verdict c.in-Ok.ensures.done was in
    let left = either w was.whole _ _ c.commit.ensures.survives (λ clean. (made clean).1) in
    let ended : EndsCommand c.args.count A c.args.command.now (InDoubt c.in-Err-commit.error) (state g.S.Store c.commit.new.self.0) =
    doubtful_ends c.in-Ok.verdict (made (was_clean _ _ _ c.commit.ensures.survives (search rules))).0 left in
    doubtful_by {error = c.in-Err-commit.error} (search rules)

pub returns-clause-clean : goal.returns-clause-clean
returns-clause-clean g c clean =
    let within = rw c.transaction-tx.ensures.begun at c.decide_and_write.ensures.frame.survives in search (rules, was_clean, within)

-- ---- memory ran out at the commit, and the store is asked whether it is still open

pub returns-in-Err-SqliteFailure-OutOfMemory-clause-step : goal.returns-in-Err-SqliteFailure-OutOfMemory-clause-step
returns-in-Err-SqliteFailure-OutOfMemory-clause-step g c clean A was =
    let w = within g.S.Store c.args.conn.now c.decide_and_write.ensures.frame c.transaction-tx.ensures.begun in
    let made = made_by g.S.Store c.args.conn.now _ c.transaction-tx.ensures.begun w c.args.command.now _ c.in-Ok.verdict c.in-Ok.ensures.done was in
    let probed : Survives (state g.S.Store c.commit.new.self.0) (state g.S.Store c.prepare.new.self) (λ _. ⊥) = search rules in
    let left = either_last w was.whole _ _ c.commit.ensures.survives (λ clean. (made clean).1) (state g.S.Store c.prepare.new.self) probed in
    doubtful_ends c.in-Ok.verdict (made (was_clean _ _ _ c.commit.ensures.survives (was_clean _ _ _ probed clean))).0 left

pub returns-in-Ok-prepare-clause-step : goal.returns-in-Ok-prepare-clause-step
returns-in-Ok-prepare-clause-step g c clean A was =
    let w = within g.S.Store c.args.conn.now c.decide_and_write.ensures.frame c.transaction-tx.ensures.begun in
    let back = stood _ _ (state g.S.Store c.prepare.new.self) c.commit.ensures.survives (search rules) c.in-Err-SqliteFailure-OutOfMemory.field-0
    (search rules) (λ clean. c.in-Err-SqliteFailure-OutOfMemory.ensures.err clean) (λ clean. search rules) in
    let left = nothing_made g.S.Store c.args.conn.now w g.met.S.Store.stays g.met.S.Store.settled c.commit.ensures.survives c.prepare.new.self
    (search rules) (λ clean. c.in-Err-SqliteFailure-OutOfMemory.ensures.err clean) (search rules) (λ clean. search rules) in
    let stands = whole_undone w was.whole left (λ clean. (back clean).1) in
    refused_ends (refl, λ memory disk. absurd (memory refl)) (counted_as stands
    (λ clean. was.counts (was_clean _ _ _ w.survives (back clean).1.clean)))
