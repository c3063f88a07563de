-- What `SELECT number FROM versions` means over a schema that has a table `versions` of the one column `number`.
use Rattle.kcr_older.proofs.Common.{slice_get, Bool, ◌≡◌, ℕ, List, [], ◌∷◌, codes, Some, None, Ok, Err, inl, inr, refl, true, false, cases_Bool}
use Rattle.kcr_older.proofs.Common.{Schema, Table, inner, end, lit, col, Int, table_named, place_of, Column, State as SqlState, Row}
use Rattle.kcr_older.proofs.Common.{overlay, IsAnswer, Null, reads_as, reads_listing, Command, if◌then◌else◌}
use Rattle.sqlite.specs.{State.Shown as Shown', Given.IsPlain, Listing.understood}
use Rattle.std.specs.Prelude.{negsuc}
use Rattle.sqlite_catalog.proofs.StepLemmas.{same_itself}
use Rattle.sqlite_tied.specs.Compute.{everything}
use Rattle.sqlite_resolve.specs.Compile.{compiled, first, read, command, meaning, returning, planned, timed, with_command}
use Rattle.sqlite_syntax.specs.declared.statement.Parsed.{Parsed}
use Rattle.sqlite_ast.specs.declared.Statement.TheVariants as written
use Rattle.sqlite_ast.specs.declared.{Select.Select, Select.out-Select, Source.Source, Source.out-Source}
use Rattle.sqlite_ast.specs.declared.{Core.Core, Core.out-Core, Shown.Shown, Shown.out-Shown}
use Rattle.sqlite_ast.specs.declared.Expr.{Expr, out-Expr, TheOpen.Expr-F, TheOpen.Shown-F}
use Rattle.sqlite_ast.specs.declared.Origin.TheVariants as origin
use Rattle.sqlite_resolve.specs.declared.{state.State.State, state.Carried.Carried, body.Body.Body, error.CompileError.TheVariants.Mismatch}
use Rattle.sqlite_resolve.specs.declared.scope.{Bound.Bound, Level.Level, Output.Output}
use Rattle.sqlite_resolve.specs.declared.scope.Found.TheVariants as found
use Rattle.sqlite_resolve.specs.Lowering.{fresh, max_budget, take_slot, spend, begin, finish}
use Rattle.sqlite_resolve.specs.Scope.{Context, Name, column_in, find, in_level, only, hit, is_among, column_at, column, term_of, declared}
use Rattle.sqlite_resolve.specs.Body.{table_in, bound, bounds, heading, is_column, within, result, outputs, shown, matching, joins, join, shared, inner_join, tests, body}
use Rattle.sqlite_draft.specs.{declared.join.Step.TheVariants.Inner, declared.query.Draft.Draft, Query.query_of}
use Rattle.sqlite_resolve.specs.Select.{outermost, parts, having, named, assembled, ungrouped, paging, constant_or}
use Rattle.sqlite_resolve.specs.{Order.keys, Order.sorts, Terms.number}
use Rattle.sqlite_resolve.specs.Program.{query, query_to, level, with, whole, alone, single, sources, source, viewing, program}
use Rattle.sqlite_typing.specs.Types.{accepts_program}
use Rattle.sqlite.specs.Command.TheVariants as sql
use Rattle.sqlite_resolve.specs.Expr.{lower, lower_to, node, opened, passes}

-- the text of the query for the number of the version
abbrev pub text : List ℕ
text = codes "SELECT number FROM versions"

abbrev versions : List ℕ
versions = codes "versions"

abbrev number_name : List ℕ
number_name = codes "number"

-- the parts of the text
pub record Read : Type 0 where
  parsed : Parsed
  select : Select
  core : Core
  source : Source
  item : Shown
  expr : Expr
  parsed_is : first text ≡ Ok parsed
  statement_is : parsed.statement ≡ written.Select select
  formats_are : parsed.formats ≡ []
  select_is : out-Select select ≡ record { with = []; first = core; others = []; order = []; limit = None; offset = None }
  core_is : out-Core core ≡ record { distinct = false; shown = item ∷ []; from = source ∷ []; filter = None; group = []; having = None }
  source_is : out-Source source ≡ record { is_left = false; origin = origin.Table versions; alias = None; on = None; using = [] }
  item_is : out-Shown item ≡ Shown-F.One expr None number_name
  expr_is : out-Expr expr ≡ Expr-F.Column None number_name

-- the text has these parts
pub read_it : Read
unfolding everything
read_it = record {
  parsed = _;
  select = _;
  core = _;
  source = _;
  item = _;
  expr = _;
  parsed_is = refl;
  statement_is = refl;
  formats_are = refl;
  select_is = refl;
  core_is = refl;
  source_is = refl;
  item_is = refl;
  expr_is = refl;
}

-- if the table `versions` stands in the schema, and its column
pub record Stands (schema : Schema) (table : Table) : Type 0 where
  pub at : ℕ
  pub finds : table_named schema versions ≡ Some at
  pub is : slice_get schema.tables at ≡ Some table
  pub column : Column
  pub columns : table.columns ≡ record column { name = number_name } ∷ []

-- what the text means, whatever else the schema has
module _ (schema : Schema) (table : Table) (there : Stands schema table) (r : Read) where
  abbrev b : Bound
  b = record { name = versions; table = there.at; slot = 1; shared = [] }

  abbrev carried : Carried
  carried = declared table 0 (record there.column { name = number_name })

  column_in-is : column_in schema number_name b ≡ Some (found.Column 1 there.at 0)
  unfolding column_in
  column_in-is = rw (there.is, there.columns, same_itself number_name) refl

  -- ---- one SELECT

  abbrev s2 : State
  s2 = record (fresh 1 max_budget) { next = 2 }

  abbrev s3 : State
  s3 = record s2 { budget = 99999; last = carried }

  abbrev level_with : List Output → Level
  level_with shown = record { tables = b ∷ []; shown = shown }

  abbrev cx1 : Context
  cx1 = within (outermost schema) (level_with []) true

  lower-is : lower cx1 r.expr s2 ≡ Ok (col 1 (place_of table 0), s3)
  unfolding lower_to node opened spend begin finish passes column term_of column_at find in_level only hit is_among
  lower-is = rw (r.expr_is, column_in-is, there.is, there.columns) refl

  abbrev shown_is : Output
  shown_is = record { name = heading cx1 r.expr number_name; is_alias = false; is_column = is_column r.expr; term = col 1 (place_of table 0); carried = carried }

  abbrev body_of : Body
  body_of = record { level = level_with (shown_is ∷ []); steps = Inner table.tree ∷ []; filter = [] }

  matching-is : matching lower (outermost schema) (level_with (shown_is ∷ [])) r.core s3
      ≡ Ok (record { steps = Inner table.tree ∷ []; filter = [] }, s3)
  unfolding matching joins join shared inner_join tests
  matching-is = rw (r.core_is, r.source_is, there.is) refl

  body-is : body lower (outermost schema) r.core (fresh 1 max_budget) ≡ Ok (body_of, s3)
  unfolding body bounds bound take_slot table_in result outputs shown
  body-is = rw (r.core_is, r.source_is, there.finds, r.item_is, lower-is, matching-is) refl

  abbrev draft : Draft
  draft = record {
    from = inner table.tree end;
    filter = [];
    group = None;
    project = col 1 (place_of table 0) ∷ [];
    distinct = false;
    collations = [];
    order = [];
    limit = lit (Int (negsuc 0));
    offset = number 0;
  }

  abbrev names : List Name
  names = heading cx1 r.expr number_name ∷ []

  named-is : named schema r.core [] (lit (Int (negsuc 0)), number 0) ≡ Ok (draft, names, carried.collation ∷ [])
  unfolding named assembled ungrouped parts keys having sorts tests
  named-is = rw (r.core_is, body-is) refl

  query-is : query schema r.select ≡ Ok ((draft, names, carried.collation ∷ []), [])
  unfolding query query_to level with whole alone single sources source viewing paging constant_or
  query-is = rw (r.select_is, r.core_is, r.source_is, named-is) refl

  -- ---- the statement, if the types of its columns are accepted

  abbrev accepted : Bool
  accepted = accepts_program schema [] (query_of draft) []

  abbrev shows_number : Command
  shows_number = sql.Select (record { lets = []; body = query_of draft }) names

  understood-is : (b : Bool) → accepted ≡ b → (reads_listing schema text ≡ false)
      × (understood schema text ≡ (if b then Ok (with_command r.parsed ([], (shows_number, None))) else Err Mismatch))
  unfolding understood compiled planned timed meaning returning command read program
  understood-is true ok = rw (r.parsed_is, r.formats_are, r.statement_is, query-is, ok) (refl, refl)
  understood-is false refused = rw (r.parsed_is, r.formats_are, r.statement_is, query-is, refused) (refl, refl)

  -- the rows that the text shows are the answer to its query, and it has no RETURNING and does not read the time
  pub answered : (old new : SqlState) (rows : List Row) → old.now.schema ≡ schema → Shown' text [] old new rows
      → IsAnswer (query_of draft) (overlay old.now.trees []) [] rows × IsPlain (understood schema text)
  unfolding Shown'
  answered old new rows has h = elim (cases_Bool accepted) [
    | inl ok ↦ (
        let e = understood-is true ok in
        let plain : IsPlain (understood schema text) = rw e.1 (refl, refl) in
        ((reads_as text [] old new schema has shows_number (rw e.1 refl) plain e.0 rows h).answer Null, plain))
    | inr refused ↦ absurd (let e = (understood-is false refused).1 in let is = h.1.is in cc)
  ]
