-- What INSERT of one row does to a table.
use Rattle.kcr_rows.proofs.Common.{◌≡◌, ◌≢◌, ◌⊎◌, inl, inr, ℕ, ℤ, ◌/◌, Bool, false, cond, List, [], ◌∷◌, ◌++◌, length, slice_get, Option, Some, None}
use Rattle.kcr_rows.proofs.Common.{Result, Ok, Err, arith, rules, and_parts, not-true, Null, Int, Row, Term, cast, cast_row, Trees, put_row, Table}
use Rattle.kcr_rows.proofs.Common.{Schema, Values, Insert, edit_of, is_taken, IsNoIndex, taken_by, with_rowid, Chosen, Fits, Enforced, works, Tally}
use Rattle.kcr_rows.proofs.Common.{Does, Database, value_rows, one_step, simple_as}
use Rattle.sqlite.specs.Ops.{unary}
use Rattle.sqlite.specs.Kind.TheVariants as kind

either : {X : Type 0} (b : Bool) (x : X) → cond b x x ≡ x
either b x = grind arith

-- NULL is stored in a column of integers as it is
pub cast_null : cast kind.Integer Null ≡ Null
unfolding unary
cast_null = either _ Null

-- an integer is stored in a column of integers as it is
pub cast_int : (n : ℤ) → cast kind.Integer (Int n) ≡ Int n
unfolding unary
cast_int n = either _ (Int n)

-- a part that gave a value did not stop on the way
pub went : {B E R : Type 0} {b : B} {Stops : E → Type 0} → ((stop : E) × Stops stop × (◌≡◌ {A = Result B E} (Ok b) (Err stop))) ⊎ R → R
went (inl stopped) = absurd (let e = stopped.2 in cc)
went (inr on) = on

-- two equal successes have equal values
pub same_value : {B E : Type 0} {a b : B} → ◌≡◌ {A = Result B E} (Ok a) (Ok b) → a ≡ b
same_value e = cc

-- a row as it is stored: with the rowid that it has, or else the next one
abbrev pub entered : List Row → Row → Row
entered entries given = with_rowid Chosen entries given

-- the entry went in beside those that were there
pub record IsInserted (schema : Schema) (tree : ℕ) (old new : Trees) (entry : Row) : Type 0 where
  pub free : is_taken (old tree) entry ≡ false
  pub is : new tree ≡ put_row entry (old tree)
  pub fits : Fits schema new
  pub others : (t : ℕ) → t ≢ tree → IsNoIndex schema t → new t ≡ old t

-- a statement gives one row to a table, which gets a rowid if it has NULL in place of one
module _ (schema : Schema) (at : ℕ) (tree : ℕ) (like : Table) (terms : List Term) (width : ℕ) (values given : Row)
    (here : slice_get schema.tables at ≡ Some (simple_as tree like))
    (alone : (olds news : List Row) → works schema Enforced 0 tree olds news ≡ [])
    (gives : value_rows (values ++ []) width (length terms / width) terms ≡ given ∷ [])
    (casts : cast_row (simple_as tree like) given ≡ given) where
  abbrev table : Table
  table = simple_as tree like

  -- INSERT puts the entry in, whose rowid was free, and each rule of the schema holds after it
  pub inserts : (limit : Option ℕ) (trees : Trees) (text : List ℕ) (tally : Tally) (next : Database)
      → Does limit (record { keys = Enforced; in_doubt = false; may_wait = false }) values (record { schema = schema; trees = trees }) text None
      (Insert at (Values terms width)) (Ok (tally, next))
      → (next.schema ≡ schema) × IsInserted schema tree trees next.trees (entered (trees tree) given)
  inserts limit trees text tally next h =
      let on = rw here at h in
      let done = went on in
      let wrote = went done.1 in
      let counted = went wrote.2 in
      let edited_as = went counted.2 in
      let edit = λ (rows : List Row). edit_of trees table [] Chosen 0 rows in
      let applies = one_step schema Enforced trees edited_as.0 (edit wrote.0) (alone (taken_by trees (edit wrote.0)) (edit wrote.0).news) edited_as.1 in
      search (rules, not-true, and_parts, same_value)
