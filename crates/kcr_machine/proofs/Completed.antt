-- A command that is cleared by the rows that are read first is so by the view with the others.
use Rattle.kcr_machine.proofs.Common.{Bool, arith, Act, View, Completes, IsCleared}

-- an act cleared by the rows read first is cleared by the view with the others
pub still-cleared : (early view : View) (full : Bool) (act : Act) → Completes early view → IsCleared early full act → IsCleared view full act
still-cleared early view full act e h = grind arith
