use Rattle.kcr_store.proofs.Common.{refl, rules, inl, inr, ℕ, state, HasCleanDisk, was_clean, on_ok, Ok, Err, ◌≡◌}
use Rattle.kcr_store.proofs.WholeLemmas.{if_ok, outside_weaker}
use Rattle.kcr_store.proofs.OpenLemmas.{found_in, is_taken, nothing_accepted, number_answer, of_ours, of_strange, of_version}
use Rattle.kcr_store.proofs.OpenLemmas.{empty_answer, foreign_answer, none_older, none_strange, older_kept, stranger_answer}
use Rattle.kcr_older.specs.declared.migration.OldVersion.TheVariants as older
use Rattle.kcr_tables.specs.Creation.{schema_prefix}
use Rattle.kcr_store.proofs.open.open_or_migrate.Goals as goal

-- ---- it was empty

pub returns-in-Ok-clause-found : goal.returns-in-Ok-clause-found
returns-in-Ok-clause-found g c clean accepted genuine =
    let made = c.in-Ok.ensures.made clean in
    let found = found_in {old = state g.S.Store c.args.conn.now} (search rules) c.inspect.ensures.live
    (was_clean _ _ _ c.create_tables.ensures.frame.survives clean) made.2 genuine in
    let none = nothing_accepted found (search rules) in
    record { shows = rw none made.0; live = made.1; counts = rw none refl }

pub returns-in-Ok-clause-older : goal.returns-in-Ok-clause-older
returns-in-Ok-clause-older g c clean = none_older {X = ℕ} (state g.S.Store c.args.conn.now) _ (Ok 0) (inl (search rules))

pub returns-in-Ok-clause-frame : goal.returns-in-Ok-clause-frame
returns-in-Ok-clause-frame g c = outside_weaker (λ db made. inl (search rules, made)) c.create_tables.ensures.frame

pub returns-in-Err-clause-answer : goal.returns-in-Err-clause-answer
returns-in-Err-clause-answer g c clean =
    empty_answer {A = ℕ} (state g.S.Store c.args.conn.now).now (Err c.in-Err.fault) (search rules) c.in-Err.ensures.kind

pub returns-in-Err-clause-frame : goal.returns-in-Err-clause-frame
returns-in-Err-clause-frame g c = outside_weaker (λ db made. inl (search rules, made)) c.create_tables.ensures.frame

-- ---- it has this version

pub returns-in-Current-clause-answer : goal.returns-in-Current-clause-answer
returns-in-Current-clause-answer g c clean = search (rules, number_answer)

pub returns-in-Current-clause-known : goal.returns-in-Current-clause-known
returns-in-Current-clause-known g c = on_ok _ c.open_current.result (λ strange. none_strange 3 _ strange (search rules) (inr (inr refl)))

pub returns-in-Current-clause-found : goal.returns-in-Current-clause-found
returns-in-Current-clause-found g c clean accepted genuine =
    let before = was_clean _ _ _ c.open_current.ensures.frame.survives clean in
    c.open_current.ensures.shows clean accepted (λ live. of_ours (found_in (search rules) c.inspect.ensures.live before live genuine) (search rules))

pub returns-in-Current-clause-taken : goal.returns-in-Current-clause-taken
returns-in-Current-clause-taken g c clean live accepted genuine =
    let before = was_clean _ _ _ c.open_current.ensures.frame.survives clean in
    is_taken (found_in {old = state g.S.Store c.args.conn.now} (search rules) c.inspect.ensures.live before live genuine) c.open_current.result
    (returns-in-Current-clause-answer g c clean)

pub returns-in-Current-clause-older : goal.returns-in-Current-clause-older
returns-in-Current-clause-older g c clean = none_older (state g.S.Store c.args.conn.now) _ c.open_current.result (inr (search rules))

pub returns-in-Current-clause-frame : goal.returns-in-Current-clause-frame
returns-in-Current-clause-frame g c = outside_weaker (λ db none. absurd none) c.open_current.ensures.frame

-- ---- it has an older version

pub returns-in-Version2 : goal.returns-in-Version2
returns-in-Version2 g c =
    let old = state g.S.Store c.args.conn.now in
    let it = c.migrate_database.ensures in
    let live = c.inspect.ensures.live in
    let schema : old.now.schema ≡ schema_prefix 16 = search rules in
    let before = λ (clean : HasCleanDisk (state g.S.Store c.migrate_database.new.conn)). was_clean _ _ _ it.frame.survives clean in
    record {
      found = λ clean A genuine.
          if_ok _ _ c.migrate_database.result (it.opened clean)
          (λ open_now. it.shows clean A (of_version (found_in {old = old} (search rules) live (before clean) open_now genuine) older.V2 schema));
      taken = λ clean open_now A genuine.
          is_taken (found_in {old = old} (search rules) live (before clean) open_now genuine) c.migrate_database.result
          (number_answer 2 (inr (inl refl)) old.now c.migrate_database.result schema (it.answer clean live schema));
      older = λ clean. older_kept older.V2 old _ c.migrate_database.result schema (it.answer clean live schema) (it.rows clean);
      answer = λ clean. number_answer 2 (inr (inl refl)) old.now c.migrate_database.result schema (it.answer clean live schema);
      known = on_ok _ c.migrate_database.result (λ strange. none_strange 2 old.now.schema strange schema (inr (inl refl)));
      left = it.left;
      frame = outside_weaker (λ db made. inr (inr (schema, made))) it.frame;
    }

pub returns-in-Version1 : goal.returns-in-Version1
returns-in-Version1 g c =
    let old = state g.S.Store c.args.conn.now in
    let it = c.migrate_database-in-Version1.ensures in
    let live = c.inspect.ensures.live in
    let schema : old.now.schema ≡ schema_prefix 15 = search rules in
    let before = λ (clean : HasCleanDisk (state g.S.Store c.migrate_database-in-Version1.new.conn)). was_clean _ _ _ it.frame.survives clean in
    record {
      found = λ clean A genuine.
          if_ok _ _ c.migrate_database-in-Version1.result (it.opened clean)
          (λ open_now. it.shows clean A (of_version (found_in {old = old} (search rules) live (before clean) open_now genuine) older.V1 schema));
      taken = λ clean open_now A genuine.
          is_taken (found_in {old = old} (search rules) live (before clean) open_now genuine) c.migrate_database-in-Version1.result
          (number_answer 1 (inl refl) old.now c.migrate_database-in-Version1.result schema (it.answer clean live schema));
      older = λ clean. older_kept older.V1 old _ c.migrate_database-in-Version1.result schema (it.answer clean live schema) (it.rows clean);
      answer = λ clean. number_answer 1 (inl refl) old.now c.migrate_database-in-Version1.result schema (it.answer clean live schema);
      known = on_ok _ c.migrate_database-in-Version1.result (λ strange. none_strange 1 old.now.schema strange schema (inl refl));
      left = it.left;
      frame = outside_weaker (λ db made. inr (inl (schema, made))) it.frame;
    }

-- ---- it is not taken

pub returns-in-Versioned-clause-answer : goal.returns-in-Versioned-clause-answer
returns-in-Versioned-clause-answer g c clean = search (rules, stranger_answer)

pub returns-in-Versioned-clause-taken : goal.returns-in-Versioned-clause-taken
returns-in-Versioned-clause-taken g c clean live accepted genuine =
    let before = was_clean _ _ _ c.unknown_database_fault.ensures.frame.survives clean in
    absurd (of_strange (found_in {old = state g.S.Store c.args.conn.now} (search rules) c.inspect.ensures.live before live genuine) (search rules))

pub returns-in-Versioned-clause-frame : goal.returns-in-Versioned-clause-frame
returns-in-Versioned-clause-frame g c = outside_weaker (λ db none. absurd none) c.unknown_database_fault.ensures.frame

pub returns-in-Versioned-clause-left : goal.returns-in-Versioned-clause-left
returns-in-Versioned-clause-left g c _ = c.unknown_database_fault.ensures.frame.survives

pub returns-in-Foreign-clause-answer : goal.returns-in-Foreign-clause-answer
returns-in-Foreign-clause-answer g c clean = foreign_answer (state g.S.Store c.args.conn.now).now (search rules) (search rules)

pub returns-in-Foreign-clause-taken : goal.returns-in-Foreign-clause-taken
returns-in-Foreign-clause-taken g c clean live accepted genuine =
    absurd (of_strange (found_in {old = state g.S.Store c.args.conn.now} (search rules) c.inspect.ensures.live clean live genuine) (search rules))
