use Rattle.kcr_store.proofs.Common.{refl, inr, ◌≢◌, rules, IsTrue, IfOk-weaker, state, HasCleanDisk, IsOfKind, Versioned, was_clean, History}
use Rattle.kcr_store.proofs.{Common.IsGenuine, WholeLemmas.if_ok}
use Rattle.kcr_store.proofs.ListingLemmas.{answer_by, own_by, rows_by, older_by, version_by, known_by, not_strange}
use Rattle.kcr_store.proofs.OpenLemmas.{found_in, is_taken, none_strange, of_strange, stranger_answer}
use Rattle.kcr_store.proofs.database_rows.read_tables.Goals as goal

pub returns-in-Versioned-clause-taken : goal.returns-in-Versioned-clause-taken
returns-in-Versioned-clause-taken g c clean live A founded =
    let before = was_clean _ _ _ c.unknown_database_fault.ensures.frame.survives clean in
    absurd (of_strange (found_in {old = state g.S.Store c.args.conn.now} (search rules) c.inspect.ensures.live before live founded) (search rules))

pub returns-in-Versioned-clause-version : goal.returns-in-Versioned-clause-version
returns-in-Versioned-clause-version g c clean t held = absurd (none_strange 3 _ (search rules) held.schema (inr (inr refl)))

pub returns-in-Versioned-clause-older : goal.returns-in-Versioned-clause-older
returns-in-Versioned-clause-older g c clean from t held = absurd (not_strange from t (state g.S.Store c.args.conn.now).now (search rules) held)

pub returns-in-Versioned-clause-answer : goal.returns-in-Versioned-clause-answer
returns-in-Versioned-clause-answer g c clean = search (rules, stranger_answer)

pub returns-in_default : goal.returns-in_default
returns-in_default g c =
    let old = state g.S.Store c.args.conn.now in
    let standing = c.in_ok-standing.standing in
    let result = c.rows_then_rollback.result in
    let stands : IsOfKind old.now.schema standing = search rules in
    let gives = λ (clean : HasCleanDisk (state g.S.Store c.rows_then_rollback.new.conn)). c.rows_then_rollback.ensures.gives clean c.inspect.ensures.live in
    let found = λ (clean : HasCleanDisk (state g.S.Store c.rows_then_rollback.new.conn)) (live : IsTrue old.is_open) (A : History)
    (genuine : IsGenuine A old).
    found_in {old = old} (search rules) c.inspect.ensures.live (was_clean _ _ _ c.rows_then_rollback.ensures.frame.survives clean) live genuine in
    let other : standing ≢ Versioned = search rules in
    let answer = λ (clean : HasCleanDisk (state g.S.Store c.rows_then_rollback.new.conn)). answer_by standing old.now result stands (gives clean) other in
    record {
      own = λ clean A founded.
          if_ok (IsTrue old.is_open) _ result (c.rows_then_rollback.ensures.opened clean)
          (λ live. own_by (found clean live A founded) standing result stands (gives clean));
      taken = λ clean live A founded. is_taken (found clean live A founded) result (answer clean);
      rows = λ clean. rows_by standing old.now result stands (gives clean);
      version = λ clean. version_by standing old.now result stands (gives clean);
      older = λ clean. older_by standing old.now result stands (gives clean);
      answer = answer;
      known = IfOk-weaker result _ _ (λ view read. known_by standing old.now.schema stands read) c.rows_then_rollback.ensures.read;
      frame = search rules;
    }
