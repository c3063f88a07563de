use Rattle.kcr_older.proofs.Common.{length}
use Rattle.kcr_older.proofs.schemas.+are_indexes.Given as goal

abbrev pub decreases-are_indexes : goal.decreases-are_indexes
decreases-are_indexes l = length l.found.now
