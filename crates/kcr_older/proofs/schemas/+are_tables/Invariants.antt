use Rattle.kcr_older.proofs.Common.{length}
use Rattle.kcr_older.proofs.schemas.+are_tables.Given as goal

abbrev pub decreases-are_tables : goal.decreases-are_tables
decreases-are_tables l = length l.found.now
