-- The bytes that were taken in and those that are still to be read.
use Rattle.std.specs.Prelude.{◌≡◌, ◌+◌, ◌*◌, ◌<◌, ◌≤◌, ◌⊎◌, ℕ, List, Option, Some, Result, OnOk, IsErrOf, drop, length}
use Rattle.std.specs.Io.KnownBytes.{prepend_known}
use Rattle.kcr_base.specs.{Counted.inner_of, Counted.failures_of, Counted.nonempty_reads_of, declared.counted.Counted.Counted}
use Rattle.kcr_desk.specs.declared.fault.DeskFault.{DeskFault, TheVariants.Read, TheVariants.Write}
use Rattle.kcr_desk.specs.{declared.input_buffer.InputBuffer.InputBuffer, Streams.Streams, Streams.HasFailed}

-- what stays known of a stream
abbrev pub Stays : Option (List ℕ) → Option (List ℕ) → Type 0
Stays old new = (bytes : List ℕ) → old ≡ Some bytes → new ≡ Some bytes

-- the bytes that were read and not taken yet
abbrev pub unread : InputBuffer → List ℕ
unread intake = drop intake.start intake.bytes.items

-- the stream that is left, if it is known: these bytes, and those that the reader has
abbrev pub left : {R : Type 0} → (R → Option (List ℕ)) → InputBuffer → Counted R → Option (List ℕ)
left remaining intake reader = prepend_known (unread intake) (remaining (inner_of reader))

-- what a call that takes bytes in leaves: the stream stays, each read gave 4,096 bytes at most, and each that gave a
-- byte is counted; of a fault of reading the reader's count tells, or that no read is left, and of one of writing the
-- writer's count
pub record TakesIn {R W A : Type 0} (s : Streams R W) (old new : InputBuffer) (result : Result A DeskFault)
    : Type 0 where
  pub kept : OnOk result (Stays (left s.remaining old s.before) (left s.remaining new s.after))
  pub room : OnOk result (length (unread new) + 4096 * old.reads ≤ length (unread old) + 4096 * new.reads)
  pub calm : OnOk result (failures_of s.after ≡ failures_of s.before)
  pub counted : nonempty_reads_of s.after + old.reads ≡ nonempty_reads_of s.before + new.reads
  pub fault : IsErrOf result Read → (failures_of s.before < failures_of s.after) ⊎ (new.reads ≡ 1000000)
  pub calm_writer : OnOk result (failures_of s.output.after ≡ failures_of s.output.before)
  pub write_fault : IsErrOf result Write → HasFailed s.output
