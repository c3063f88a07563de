-- What connections make of the history at which a register stood.
use Rattle.kcr_tool.proofs.Common.{ℕ, Result, Ok, Err, HasCleanDisk, RegisterHistory, RegisterState, StandsAt, Fault, ConnectsUpTo, ServesTo}
use Rattle.sqlite.specs.{Held.state, Store.Ghosts}

-- connections lead by runs of the machine from the history of a register to the one after them
pub served_to : {S T : Type 0} (g : Ghosts S) (connections : ℕ) (old new : RegisterState S) (result : Result T Fault)
    → ConnectsUpTo g connections old new result → HasCleanDisk (state g new.conn) → (s : RegisterHistory) → StandsAt g s old
    → (after : RegisterHistory) × StandsAt g after new × ServesTo s after connections result
served_to g connections old new (Ok served) connects clean s stands = connects.answers clean s stands
served_to g connections old new (Err why) (count, few, connects) clean s stands =
    let (after, stood, led) = connects.answers clean s stands in (after, stood, (count, few, led))
