-- What a statement leaves, whatever its text is.
use Rattle.kcr_rows.proofs.Common.{arith, ◌≡◌, ◌⊎◌, inl, inr, ℕ, List, Result, OnOk, IfOk, IsTrue, sym, subst, rules, Row, State, IsUnchanged}
use Rattle.kcr_rows.proofs.Common.{KeepsCommit, Fails, IsTooLate, IsPlain, Schema}
use Rattle.std.proofs.lemmas.Result.{IfOk-weaker}
use Rattle.sqlite.specs.{declared.error.Error.Error, Listing.understood, State.IsNotRun, State.FailsToQuery, State.Shown}

unchanged_keeps : (old new : State) → IsUnchanged old new → KeepsCommit old new
unchanged_keeps old new u = record { was_open = λ _. u.0.was_open; committed = λ _. u.0.committed_is }

failure_keeps : (old new : State) (big : Type 0) (e : Error) → Fails old new big e → KeepsCommit old new
failure_keeps old new big e f = record { was_open = f.3.was_open; committed = λ live. (f.3.undone live).1 }

-- a query that fails leaves what is committed
pub failed_query_keeps : (sql : List ℕ) (params : Row) (old new : State) (e : Error) → FailsToQuery sql params old new e ⊎ IsTooLate sql params old new e
    → KeepsCommit old new
unfolding FailsToQuery IsNotRun
failed_query_keeps sql params old new e (inl (inl (inl h))) = unchanged_keeps old new h.1
failed_query_keeps sql params old new e (inl (inl (inr f))) = failure_keeps old new _ e f
failed_query_keeps sql params old new e (inl (inr h)) = search (rules, unchanged_keeps, failure_keeps)
failed_query_keeps sql params old new e (inr h) = unchanged_keeps old new h.5

-- a text that shows rows, and has no RETURNING, changes nothing
pub shown_same : (old new : State) (sql : List ℕ) (params : Row) (rows : List Row) → IsPlain (understood old.now.schema sql) → Shown sql params old new rows
    → IsUnchanged old new
unfolding Shown
shown_same old new sql params rows plain h = search rules

-- if rows are shown, the database was open
pub shown_opened : (sql : List ℕ) (params : Row) (old new : State) (rows : List Row) → Shown sql params old new rows → IsTrue old.is_open
unfolding Shown
shown_opened sql params old new rows h = search rules

-- a transaction goes on after rows are shown in it
pub shown_inside : (sql : List ℕ) (params : Row) (old new : State) (rows : List Row) → IsTrue old.in_transaction → Shown sql params old new rows
    → IsTrue new.in_transaction
unfolding Shown
shown_inside sql params old new rows inside h = search rules

-- rows that are shown in a transaction leave what is committed
pub shown_keeps : (sql : List ℕ) (params : Row) (old new : State) (rows : List Row) → IsTrue old.in_transaction → Shown sql params old new rows
    → KeepsCommit old new
unfolding Shown
shown_keeps sql params old new rows inside h = search (rules, unchanged_keeps)

-- what holds holds if there is a value
pub on_ok : {A E : Type 0} (P : Type 0) (r : Result A E) → P → OnOk r P
on_ok P r h = grind arith

-- what holds of the value, if there is one, is weakened to what follows from it
pub if_ok : {A E : Type 0} (P Q : A → Type 0) → ((x : A) → P x → Q x) → (r : Result A E) → IfOk r P → IfOk r Q
if_ok P Q f r h = IfOk-weaker r P Q f h

-- what follows from two facts on a value holds of it, if there is one
pub if_both : {A E : Type 0} (P Q R : A → Type 0) → ((x : A) → P x → Q x → R x) → (r : Result A E) → IfOk r P → IfOk r Q → IfOk r R
if_both P Q R f r h k = grind arith

-- what follows from a fact holds if there is a value, if the fact does
pub on_ok_then : {A E : Type 0} (P Q : Type 0) → (P → Q) → (r : Result A E) → OnOk r P → OnOk r Q
on_ok_then P Q f r h = grind arith

-- a text that is plain for a schema is plain for a database of that schema
pub plain_in : (schema : Schema) (text : List ℕ) → IsPlain (understood schema text) → (s : State) → s.now.schema ≡ schema
    → IsPlain (understood s.now.schema text)
plain_in schema text plain s has = subst (λ x. IsPlain (understood x text)) (sym has) plain
