-- Answers that wait to be written.
use Rattle.std.specs.Prelude.{◌≡◌, ℕ, List, ◌++◌, Option, Result, Err, MatchResult, OnOk, OnErr}
use Rattle.std.specs.Io.KnownBytes.{Appends}
use Rattle.kcr_base.specs.Counted.{failures_of}
use Rattle.kcr_print.specs.Written.{Writes}
use Rattle.kcr_desk.specs.Streams.{Writing, HasFailed, WritesPart, bytes_before, bytes_after}
use Rattle.kcr_desk.specs.declared.fault.DeskFault.{DeskFault}
use Rattle.kcr_desk.specs.declared.fault.DeskFault.TheVariants as faults

-- of all that is to be written a beginning was sent, and the rest of it waits
pub record IsQueued (old new : Option (List ℕ)) (all queue : List ℕ) : Type 0 where
  pub sent : List ℕ
  pub written : Appends old new sent
  pub rest : sent ++ queue ≡ all

-- after Ok it is so, and after a fault a prefix of all was written
abbrev pub Enqueues : {T E W : Type 0} → Result T E → Writing W → List ℕ → List ℕ → Type 0
Enqueues r w all queue =
    MatchResult r (λ _. IsQueued (bytes_before w) (bytes_after w) all queue) (λ _. WritesPart w all)

-- so it is, and a fault is a failed write, which the writer's count tells
pub record Queues {W T : Type 0} (w : Writing W) (all queue : List ℕ) (result : Result T DeskFault) : Type 0 where
  pub gathered : Enqueues result w all queue
  pub calm : OnOk result (failures_of w.after ≡ failures_of w.before)
  pub fault : OnErr result ((result ≡ Err faults.Write) × HasFailed w)

-- the same of a text that is written at once
pub record Puts {W T : Type 0} (w : Writing W) (text : List ℕ) (result : Result T DeskFault) : Type 0 where
  pub written : Writes result (bytes_before w) (bytes_after w) text
  pub calm : OnOk result (failures_of w.after ≡ failures_of w.before)
  pub fault : OnErr result ((result ≡ Err faults.Write) × HasFailed w)
