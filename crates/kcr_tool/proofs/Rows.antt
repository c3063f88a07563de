-- A report whose fault has an invalid row in place of an I/O error.
use Rattle.kcr_tool.proofs.Common.{arith, inl, inr, ℕ, Bool, Result, Err, Disk, MayNote, Fault, Invalid, Refused, MayNameRow}
use Rattle.kcr_verify.specs.declared.invalid.InvalidRow.{InvalidRow}

-- what is said of how a task ended, and as well of a row as of an I/O error
pub row_said : (Says : Result ℕ Fault → Type 0) (ended result : Result ℕ Fault) → ((row : InvalidRow) → Says (Err (Refused Disk)) → Says (Err (Invalid row)))
    → MayNameRow ended result → Says ended → Says result
row_said Says ended result same (inl is) says = rw is says
row_said Says ended result same (inr (row, was, is)) says = rw is (same row (rw was at says))

-- notes are told all the same
pub row_noted : (is_explained : Bool) (ended result : Result ℕ Fault) → MayNameRow ended result → MayNote is_explained ended → MayNote is_explained result
row_noted is_explained ended result named noted = grind arith
