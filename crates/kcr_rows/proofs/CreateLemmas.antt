-- What CREATE TABLE does to tables, and what tables without rows keep.
use Rattle.kcr_rows.proofs.Common.{◌≡◌, Err, ℕ, List, [], ◌∷◌, false, Option, None, Ok, refl, ap, subst, ◌∙◌, rules, Trees, Schema, Table, Command}
use Rattle.kcr_rows.proofs.Common.{CreateTable, first, planned, with_command, table_in, lacks_sequence, State, Executes, text_of, IsPlain, command_of}
use Rattle.kcr_rows.proofs.Common.{statement_of, runs_as, IsSound, Writes, IsPermutation-same, AreEmpty, TableLayout, TreeHolds}
use Rattle.sqlite.specs.{Compile.table_defined_by, Listing.understood, Change.created, Change.next_tree, Change.KeepsRows}
use Rattle.sqlite_resolve.specs.{Compile.compiled, declared.compiled.Compiled.Compiled, Lowering.Checked, Lowering.and_then}
use Rattle.sqlite_schema.specs.declared.command.Returning.{Returning}
use Rattle.kcr_rows.proofs.WriteLemmas.{went, same_value}

-- rows that are kept are none if there were none
pub keeps_empty : (tables : List Table) (old new : Trees) → KeepsRows tables old new → AreEmpty tables old → AreEmpty tables new
keeps_empty [] old new keeps are = tt
keeps_empty (t ∷ more) old new keeps are = (keeps.0 ∙ are.0, keeps_empty more old new keeps.1 are.1)

-- what one reading of a text that makes a table gives
abbrev pub creation : Schema → List ℕ → Checked (Compiled × Table)
creation schema text =
    and_then (first text) (λ p. and_then (planned schema p) (λ plan. and_then (table_in p.formats p.statement) (λ table.
    Ok (with_command p plan, table))))

-- what is asked of it: its command, its statement, what it returns, the times that it reads, and the table
abbrev pub gist : List ℕ → Compiled × Table → Command × List ℕ × Option Returning × List (List ℕ) × Table
gist text made = (made.0.command, text_of text made.0, made.0.returning, made.0.formats, made.1)

-- the text makes this table over this schema, and leaves the schema after it
abbrev pub Makes : Schema → List ℕ → Table → Schema → Type 0
Makes schema text table after =
    (and_then (creation schema text) (λ made. Ok (gist text made)) ≡ Ok (CreateTable, text, None, [], record table { tree = 0 }))
    × (created schema (record table { tree = 0 }) ≡ after)
    × (next_tree schema ≡ table.tree)
    × (lacks_sequence after ≡ false)

then_ok : {A B : Type 0} (r : Checked A) (f : A → B) (b : B) → and_then r (λ a. Ok (f a)) ≡ Ok b → (a : A) × (r ≡ Ok a) × (f a ≡ b)
then_ok (Ok a) f b h = (a, refl, same_value h)
then_ok (Err e) f b h = absurd cc

-- what one reading gives, given by two
planned_as : {Q C T : Type 0} (plan : Checked Q) (table : Checked T) (build : Q → C) (out : C × T)
    → and_then plan (λ q. and_then table (λ t. Ok (build q, t))) ≡ Ok out → (and_then plan (λ q. Ok (build q)) ≡ Ok out.0) × (table ≡ Ok out.1)
planned_as (Ok q) (Ok t) build out h = (ap (λ m. Ok m.0) (same_value h), ap (λ m. Ok m.1) (same_value h))
planned_as (Ok q) (Err e) build out h = absurd cc
planned_as (Err e) table build out h = absurd cc

read_as : {P Q C T : Type 0} (read : Checked P) (plan : P → Checked Q) (table : P → Checked T) (build : P → Q → C) (out : C × T)
    → and_then read (λ p. and_then (plan p) (λ q. and_then (table p) (λ t. Ok (build p q, t)))) ≡ Ok out
    → (and_then read (λ p. and_then (plan p) (λ q. Ok (build p q))) ≡ Ok out.0) × (and_then read table ≡ Ok out.1)
read_as (Ok p) plan table build out h = planned_as (plan p) (table p) (build p) out h
read_as (Err e) plan table build out h = absurd cc

module _ (schema : Schema) (text : List ℕ) (table : Table) (after : Schema) (makes : Makes schema text table after) where
  -- its command, its statement, whether it is plain, and the table that it defines
  reads : (command_of (understood schema text) ≡ CreateTable) × (statement_of text (understood schema text) ≡ text)
      × IsPlain (understood schema text) × (table_defined_by text ≡ Ok (record table { tree = 0 }))
  unfolding understood compiled table_defined_by
  reads = search (rules, then_ok, read_as)

  -- the statement leaves the schema after it, the rows of the tables that were there, and none in the new one
  pub creates : (old new : State) (count : ℕ) → old.now.schema ≡ schema → Executes text [] old new (Ok count)
      → (new.now.schema ≡ after) × KeepsRows schema.tables old.now.trees new.now.trees × (new.now.trees table.tree ≡ []) × IsSound after new.now.trees
  creates old new count has h =
      let w = subst (λ t. Writes old new None CreateTable t [] count) reads.1 (runs_as text [] old new schema has CreateTable reads.0 reads.2 count h) in
      search (rules, went, same_value, reads)

-- a tree without entries keeps no rows
pub bare : (place : TableLayout) (db : Trees) → db place.tree ≡ [] → TreeHolds place db []
bare place db none = search (rules, IsPermutation-same)
