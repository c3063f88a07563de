use Rattle.kcr_room.proofs.Common.{◌≡◌, ◌++◌, drop, sheet_events_from}
use Rattle.kcr_room.proofs.stays.sheet_events.Given as goal

abbrev pub invariant-loop-place : goal.invariant-loop-place
invariant-loop-place l = l.steps.items ++ sheet_events_from l.place (drop l.place l.rows) ≡ sheet_events_from 0 l.rows
