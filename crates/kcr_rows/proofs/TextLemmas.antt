-- What the calls of the database do with a text, from what it means.
use Rattle.kcr_rows.proofs.Common.{◌≡◌, ℕ, List, false, rules, Command, Reads, reads_listing, Row, Schema, State, IsPlain, command_of, reads_as}
use Rattle.kcr_rows.proofs.Common.{Means}
use Rattle.sqlite.specs.{Listing.understood, State.Shown}
use Rattle.sqlite_resolve.specs.Compile.{compiled}

module _ (schema : Schema) (sql : List ℕ) (command : Command) (means : Means command (compiled schema sql)) where
  known : (command_of (understood schema sql) ≡ command) × (reads_listing schema sql ≡ false) × IsPlain (understood schema sql)
  unfolding understood
  known = search (rules, command_of)

  -- the database takes it for this command
  pub command_is : command_of (understood schema sql) ≡ command
  command_is = known.0

  -- it returns no rows if it is no query, and does not read the time
  pub is_plain : IsPlain (understood schema sql)
  is_plain = known.2

  -- a query shows what the command reads
  pub reads_shown : (params : Row) (old new : State) → old.now.schema ≡ schema → (rows : List Row) → Shown sql params old new rows
      → Reads command old.now params rows
  reads_shown params old new has = reads_as sql params old new schema has command known.0 known.2 known.1
