-- What a call reads and writes.
use Rattle.std.specs.Prelude.{◌≡◌, ◌+◌, ◌<◌, ◌⊎◌, ℕ, List, Option}
use Rattle.std.specs.Io.KnownBytes.{Appends}
use Rattle.kcr_base.specs.{Counted.inner_of, Counted.failures_of, Counted.nonempty_reads_of, declared.counted.Counted.Counted}
use Rattle.kcr_desk.specs.declared.fault.DeskFault.{DeskFault, TheVariants.Read, TheVariants.Write, TheVariants.Memory}
use Rattle.kcr_print.specs.Written.{WritesPrefix}

-- a writer before a call and after it, and the bytes that it holds, if it tells them
pub record Writing (W : Type 0) : Type 0 where
  pub contents : W → Option (List ℕ)
  pub before : Counted W
  pub after : Counted W

abbrev pub writing : {W : Type 0} → (W → Option (List ℕ)) → Counted W → Counted W → Writing W
writing contents before after = record { contents = contents; before = before; after = after }

abbrev pub bytes_before : {W : Type 0} → Writing W → Option (List ℕ)
bytes_before w = w.contents (inner_of w.before)

abbrev pub bytes_after : {W : Type 0} → Writing W → Option (List ℕ)
bytes_after w = w.contents (inner_of w.after)

-- the text was written, or a prefix of it, or nothing
abbrev pub WritesText : {W : Type 0} → Writing W → List ℕ → Type 0
WritesText w text = Appends (bytes_before w) (bytes_after w) text

abbrev pub WritesPart : {W : Type 0} → Writing W → List ℕ → Type 0
WritesPart w text = WritesPrefix (bytes_before w) (bytes_after w) text

abbrev pub WritesNothing : {W : Type 0} → Writing W → Type 0
WritesNothing w = w.after ≡ w.before

-- a write has failed
abbrev pub HasFailed : {W : Type 0} → Writing W → Type 0
HasFailed w = failures_of w.before < failures_of w.after

-- a reader and a writer before a call and after it, and the bytes that the reader has left, if it tells them
pub record Streams (R W : Type 0) : Type 0 where
  pub remaining : R → Option (List ℕ)
  pub before : Counted R
  pub after : Counted R
  pub output : Writing W

abbrev pub streams : {R W : Type 0} → (R → Option (List ℕ)) → (W → Option (List ℕ)) → Counted R → Counted R
    → Counted W → Counted W → Streams R W
streams remaining contents reader read writer wrote =
    record { remaining = remaining; before = reader; after = read; output = writing contents writer wrote }

-- the bytes of the input
abbrev pub input_of : {R W : Type 0} → Streams R W → Option (List ℕ)
input_of s = s.remaining (inner_of s.before)

-- nothing was read and nothing was written
abbrev pub IsUntouched : {R W : Type 0} → Streams R W → Type 0
IsUntouched s = (s.after ≡ s.before) × WritesNothing s.output

-- why a stream was not answered to its end: a read failed, or 1,000,000 reads gave a byte; a write failed; or memory
-- ran out
abbrev pub BreaksStream : {R W : Type 0} → Streams R W → DeskFault → Type 0
BreaksStream s Read =
    (failures_of s.before < failures_of s.after) ⊎ (nonempty_reads_of s.after ≡ nonempty_reads_of s.before + 1000000)
BreaksStream s Write = HasFailed s.output
BreaksStream s Memory = Unit {0}
