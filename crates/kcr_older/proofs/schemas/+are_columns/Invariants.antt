use Rattle.kcr_older.proofs.Common.{length}
use Rattle.kcr_older.proofs.schemas.+are_columns.Given as goal

abbrev pub decreases-are_columns : goal.decreases-are_columns
decreases-are_columns l = length l.found.now
