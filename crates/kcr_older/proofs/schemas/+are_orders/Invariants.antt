use Rattle.kcr_older.proofs.Common.{length}
use Rattle.kcr_older.proofs.schemas.+are_orders.Given as goal

abbrev pub decreases-are_orders : goal.decreases-are_orders
decreases-are_orders l = length l.found.now
