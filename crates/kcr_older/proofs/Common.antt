-- The names that most proofs cite, passed on from one place. Declares nothing.
pub use Rattle.sqlite.proofs.Callers.{IsPlain, command_of, one_permutation, one_step, reads_as, runs_as, statement_of}
pub use Rattle.sqlite.specs.{Change.KeepsRows, Program.overlay, Command.Command, Effect.Database}
pub use Rattle.sqlite.specs.{Held.state, Order.Row, Listing.reads_listing, Tree.Trees, Tree.put_row, Tree.rowid}
pub use Rattle.sqlite.specs.Query.{IsAnswer, Output, end, inner, output}
pub use Rattle.sqlite.specs.{Schema.Schema, Table.Table, Term.Term, Term.col, Term.lit}
pub use Rattle.sqlite.specs.State.{Executes, IsUnchanged, Shown, State, mode_of}
pub use Rattle.sqlite.specs.declared.types.Value.{Value, TheVariants.Int, TheVariants.Null}
pub use Rattle.sqlite_catalog.specs.Listing.{IsSound, IsTableRow}
pub use Rattle.sqlite_schema.specs.{Names.place_of, Names.table_named, declared.schema.Column.Column}
pub use Rattle.sqlite_trees.proofs.ListLemmas.{map-map}
pub use Rattle.sqlite_trees.specs.View.{IsShaped}
pub use Rattle.std.proofs.Common.{Err, IsTrue, List, None, Ok, Option, Some, [], ap, append-nil, arith, codes, drop, eq-eqb, false, inl, inr, length}
pub use Rattle.std.proofs.Common.{map, nat_le, negsuc, not, pos, refl, reverse, rules, subst, subst₂, suc, sym, take, true, zero, ℕ, ℤ, ◌&&◌, ◌++◌}
pub use Rattle.std.proofs.Common.{◌+◌, ◌==◌, ◌^◌, ◌∙◌, ◌∷◌, ◌≡◌, ◌≤◌, ◌⊎◌}
pub use Rattle.std.proofs.lemmas.{Bool.cases_Bool, List.Sorted.length_permutation}
pub use Rattle.std.proofs.lemmas.List.Sorted.{IsPermutation-map, IsPermutation-refl, IsPermutation-reverse, IsPermutation-sym, IsPermutation-trans}
pub use Rattle.std.specs.List.{count_by, list_all, list_any, Sorted.IsPermutation}
pub use Rattle.std.specs.Prelude.{Bool, IsSomeAnd, if◌then◌else◌, is_some, option_and_then, slice_get}
pub use Rattle.kcr_history.specs.{History.History, declared.views.Change.TheVariants.PutStay, Tables.SameTables, Tables.Tables, Tables.tables}
pub use Rattle.kcr_room.specs.Stays.{next_of, stay_from, stays_by, stays_of}
pub use Rattle.kcr_room.specs.declared.Stay.{Stay}
pub use Rattle.kcr_rows.proofs.{FailLemmas.on_ok_then, FailLemmas.shown_same, FrameLemmas.clean_before, ReadLemmas.kept_from, ReadLemmas.reading}
pub use Rattle.kcr_rows.proofs.TableLemmas.{filter_every, keeps_on, keeps_still}
pub use Rattle.kcr_rows.specs.{Keyed.TableLayout, Keyed.TreeHolds, Keyed.cells, declared.row_impls.Version.Version}
pub use Rattle.kcr_rows.specs.Rows.{stay_row, version_row, withdrawal_row}
pub use Rattle.kcr_tables.proofs.MakeLemmas.{MakesAt, makes_stays, makes_withdrawals}
pub use Rattle.kcr_tables.specs.Creation.{schema_prefix, text_at}
pub use Rattle.kcr_tables.specs.Schema.{all_tables, register_schema, stays, versions, withdrawals}
pub use Rattle.kcr_tables.specs.StoredTables.{Holds, StoredTables, TreesHold, stays_place, versions_place, withdrawals_place}
pub use Rattle.kcr_older.specs.Kind.{if_number, is_number, numbered_table, numbers_in, only_number, version_in}
pub use Rattle.kcr_older.specs.Migrated.{migrated_tables, with_bare_tables, with_own_stays}
pub use Rattle.kcr_older.specs.{OldFiles.HoldsFirst, OldFiles.HoldsHistoryAs, OldFiles.numbered, Versions.number_of}
