-- What the words name, and what is told of it.
use Rattle.kcr_tool.proofs.Common.{◌≡◌, ◌⊎◌, arith, ℕ, List, Bool, Option, Some, None, Err, IsSome, IsTrue, option_map, Streams, Writing, writing}
use Rattle.kcr_tool.proofs.Common.{AreLinesOf, HasCause, TellsFault, IsNoted, MayNote, WritesLines, Fault, Task}
use Rattle.kcr_base.specs.declared.counted.Counted.{Counted}
use Rattle.kcr_tool.proofs.Notes.{asked_of_fault, task_noted}

-- the lines and the cause of a fault are those of the words that name this task and these files
pub fault_told : {R W F : Type 0} (said : Option Task) (file_said into_said : Option (List ℕ)) (explained_said : Bool) (task : Task)
    (file into : Option (List ℕ)) (is_explained : Bool) → said ≡ Some task → file_said ≡ file → into_said ≡ into → explained_said ≡ is_explained
    → (why : Fault) (s : Streams R W) (w : Writing F) (between : Counted F)
    → IsNoted (MayNote {E = Fault} is_explained (Err why)) (Some task) file (writing w.contents w.before between)
    → (lines : List ℕ) × AreLinesOf is_explained (Some task) file into why lines × WritesLines (writing w.contents between w.after) lines
    → HasCause (Some task) file s why
    → TellsFault explained_said said file_said into_said why w × HasCause said file_said s why
fault_told said file_said into_said explained_said task file into is_explained t f n e why s w between noted told cause =
    rw (t, f, n, e) (
      (between, task_noted _ (IsTrue is_explained) (Some task) file (writing w.contents w.before between) (asked_of_fault is_explained why) noted, told),
      cause,
    )

-- a file that is not unnamed is named
pub is_named : {X : Type 0} (f : X → List ℕ) (o : Option X) (said : Option (List ℕ)) → said ≡ option_map f o → (o ≡ None → ⊥) → IsSome said
is_named f o said e some = grind (arith, some)

-- a task whose status is 0 was done
pub done_at_zero : {Done Problem : Type 0} (status : ℕ) → status ≡ 0 → ((status ≡ 0) × Done) ⊎ ((status ≡ 1) × Problem) → Done
done_at_zero status zero ends = grind (arith, ends)

-- and one whose status is 1 found a problem
pub found_at_one : {Done Problem : Type 0} (status : ℕ) → status ≡ 1 → ((status ≡ 0) × Done) ⊎ ((status ≡ 1) × Problem) → Problem
found_at_one status one ends = grind (arith, ends)
