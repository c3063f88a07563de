use Rattle.kcr_older.proofs.Common.{◌≡◌, ◌++◌, map, drop, PutStay}
use Rattle.kcr_older.proofs.backfill.changes_of.Given as goal

-- what is there and the stays left are all
abbrev pub invariant-loop-stay : goal.invariant-loop-stay
invariant-loop-stay l = l.changes.items ++ map PutStay (drop l.stay-index l.stays) ≡ map PutStay l.stays
