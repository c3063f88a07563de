use Rattle.kcr_older.proofs.Common.{refl}
use Rattle.sqlite_trees.specs.View.{doubt}
use Rattle.kcr_older.proofs.kind.reference_tables.Goals as goal

-- the disk of a store in memory is never in doubt
pub returns-clause-schema : goal.returns-clause-schema
unfolding doubt
returns-clause-schema c = c.in_ok-make_tables.ensures.schema refl
