-- What a text shows whose order is of no account.
use Rattle.std.specs.Prelude.{◌≡◌, ℕ, negsuc, ◌^◌, nat_le, Bool, false, List, [], ◌∷◌}
use Rattle.std.specs.List.{list_all}
use Rattle.sqlite.specs.{Order.Row, Term.Term, Term.holds, Query.Query, Query.output, Command.TheVariants.Select}
use Rattle.sqlite_resolve.specs.Compile.{compiled}
use Rattle.sqlite_value.specs.declared.keys.Key.{Key}
use Rattle.kcr_rows.specs.{Keyed.TableLayout, Keyed.cells, Texts.Means}
use Rattle.kcr_rows.proofs.ReadLemmas.{asking}
use Rattle.kcr_tables.specs.Schema.{register_schema}

-- what is computed of a query whose order is of no account
pub record Passing : Type 0 where
  pub is_far : Bool
  pub passes : Row → Bool
  pub shows : Row → Row

-- of this one
abbrev pub passing : TableLayout → Row → List Term → Query → Passing
passing place params test query = record {
  is_far = nat_le (2 ^ 31) place.tree;
  passes = λ r. list_all (holds (params ∷ r ∷ [])) test;
  shows = λ r. (output query (params ∷ r ∷ [])).1;
}

-- of one that shows the rows that pass
abbrev pub wanted_passing : TableLayout → (Row → Bool) → Passing
wanted_passing place passes = record {
  is_far = false;
  passes = λ r. passes (cells place r);
  shows = cells place;
}

-- The text shows, with these parameters, all rows of a table that pass, in whatever order.
pub record SelectsUnordered (sql : List ℕ) (place : TableLayout) (params : Row) (passes : Row → Bool) : Type 0 where
  pub test : List Term
  pub project : List Term
  pub order : List (Term × Key)
  pub names : List (List ℕ)
  pub means : Means (Select (record { lets = []; body = asking place.tree test project order (negsuc 0) }) names)
      (compiled register_schema sql)
  pub is : passing place params test (asking place.tree test project order (negsuc 0)) ≡ wanted_passing place passes
