-- What is alike in the laws of all tables: what a text says follows from the table, from the parts that are told here, and
-- from `refl` for all that is computed of the text.
use Rattle.std.proofs.Common.{◌≡◌, ℕ, ℤ, suc, List, [], ◌∷◌, map, drop, length}
use Rattle.sqlite.specs.{declared.types.Value.TheVariants.Null, Order.Row, Term.Term, Source.TheVariants.Values}
use Rattle.sqlite.specs.Command.TheVariants.{Insert, Select, Update}
use Rattle.sqlite_resolve.specs.Compile.{compiled}
use Rattle.kcr_rows.specs.{Texts.Means, Keyed.TableLayout}
use Rattle.kcr_rows.proofs.{OverLemmas.finding, ReadLemmas.asking}
pub use Rattle.sqlite.specs.Cast.{cast_all, cast_row}
use Rattle.sqlite_schema.specs.declared.schema.Table.{Table}
unfoldable pub use Rattle.sqlite_tied.specs.Compute.{everything}
pub use Rattle.kcr_base.specs.Same.{same_text}
pub use Rattle.kcr_rows.specs.Columns.{simple_as}
pub use Rattle.kcr_rows.proofs.{FilterLemmas.has_value, FilterLemmas.value_is, TableLemmas.each_is, WriteLemmas.cast_int, WriteLemmas.cast_null}
pub use Rattle.kcr_rows.proofs.SameLemmas.{one_number, one_facility, one_role, one_place, text_ties, number_ties}
pub use Rattle.kcr_rows.proofs.StateLemmas.{cast_loose, cast_or_null, cast_within, one_ceremony_state, one_rest, one_safe}
pub use Rattle.kcr_rows.proofs.StateLemmas.{one_seats, one_spot, one_step_state, one_truth, one_way, within_is}
pub use Rattle.kcr_tables.specs.{Parts.number_in, Parts.text_in, Still.still_at}
use Rattle.kcr_tables.specs.Schema.{register_schema}
use Rattle.kcr_tables.specs.Statements.{shown_columns, key_order, showing, wanted_showing, Choice, Selects}
use Rattle.kcr_tables.specs.Statements.{new_terms, inserting, inserting_new, key_test, update_terms, updating, updating_by_key}
pub use Rattle.kcr_tables.specs.Statements.{is_given, SelectsRows, InsertsRow, UpdatesRow}
pub use Rattle.kcr_tables.specs.Table.{TableSpec, IsTable, LookupSpec, IsLookup}

-- the names of a table's columns
abbrev pub column_names : Table → List (List ℕ)
column_names table = map (λ c. c.name) table.columns

-- a text shows rows in the order of their keys, if it is this query, of which a row passes the test if and only if it is
-- asked for
pub shows : {sql : List ℕ} {place : TableLayout} {params : Row} {choice : Choice} {limit : ℤ} (table : Table) (test : List Term)
    → Means (Select (record { lets = []; body = asking place.tree test (shown_columns place) (key_order place) limit }) (column_names table))
    (compiled register_schema sql)
    → showing place params choice test (asking place.tree test (shown_columns place) (key_order place) limit) ≡ wanted_showing place choice
    → Selects sql place params choice limit
shows {place = place} table test means is = record {
  test = test;
  project = shown_columns place;
  order = key_order place;
  names = column_names table;
  means = means;
  is = is;
}

-- a text adds a row that it gives so, whose values are stored as they are
pub inserts_as : {X : Type 0} {sql : List ℕ} {place : TableLayout} {row_of : X → Row} (at : ℕ) (table : Table) (terms : List Term)
    (given : X → Row) → ((x : X) → cast_row (simple_as place.tree table) (given x) ≡ given x)
    → Means (Insert at (Values terms (suc (length place.at)))) (compiled register_schema sql)
    → inserting place row_of at (simple_as place.tree table) terms given
    ≡ inserting_new place row_of (simple_as place.tree table) given (drop 1 table.uniques)
    → InsertsRow sql place row_of
inserts_as at table terms given casts means is = record {
  at = at;
  table = table;
  terms = terms;
  given = given;
  others = drop 1 table.uniques;
  casts = casts;
  means = means;
  is = is;
}

-- of a table with row ids of its own it gives NULL in place of one
pub inserts_row : {X : Type 0} {sql : List ℕ} {place : TableLayout} {row_of : X → Row} (at : ℕ) (table : Table)
    → ((x : X) → cast_all table.columns (row_of x) ≡ row_of x)
    → Means (Insert at (Values (new_terms (length table.columns)) (suc (length place.at)))) (compiled register_schema sql)
    → inserting place row_of at (simple_as place.tree table) (new_terms (length table.columns)) (λ x. Null ∷ row_of x)
    ≡ inserting_new place row_of (simple_as place.tree table) (λ x. Null ∷ row_of x) (drop 1 table.uniques)
    → InsertsRow sql place row_of
inserts_row {row_of = row_of} at table casts means is =
    inserts_as at table (new_terms (length table.columns)) (λ x. Null ∷ row_of x) (λ x i. cast_null i ∷ casts x i) means is

-- a text puts a row in the place of the one with its key
pub updates_row : {X : Type 0} {sql : List ℕ} {place : TableLayout} {row_of : X → Row} (at : ℕ) (table : Table)
    → ((x : X) → cast_all table.columns (row_of x) ≡ row_of x)
    → Means (Update at (record { lets = []; body = finding place.tree (key_test place.keys) (update_terms (length table.columns)) }))
    (compiled register_schema sql)
    → updating place row_of at (key_test place.keys) (update_terms (length table.columns))
    ≡ updating_by_key place row_of (simple_as place.tree table)
    → UpdatesRow sql place row_of
updates_row {place = place} at table casts means is = record {
  at = at;
  table = table;
  test = key_test place.keys;
  sets = update_terms (length table.columns);
  casts = casts;
  means = means;
  is = is;
}
