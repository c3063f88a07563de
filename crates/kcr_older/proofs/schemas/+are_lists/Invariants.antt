use Rattle.kcr_older.proofs.Common.{length}
use Rattle.kcr_older.proofs.schemas.+are_lists.Given as goal

abbrev pub decreases-are_lists : goal.decreases-are_lists
decreases-are_lists l = length l.found.now
