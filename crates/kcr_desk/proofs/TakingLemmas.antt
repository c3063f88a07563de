-- What a loop that takes bytes in keeps.
use Rattle.kcr_desk.proofs.Common.{arith, ◌≡◌, ◌≤◌, ◌+◌, ◌*◌, ◌++◌, List, ℕ, length, append_assoc, Option, prepend_known, Consumes}
use Rattle.kcr_desk.proofs.Common.{inner_of, failures_of, nonempty_reads_of, Counted, Stays, unread, left, IsQueued}
use Rattle.kcr_desk.specs.declared.input_buffer.InputBuffer.{InputBuffer}

-- no read and no write failed so far, and each read that gave a byte is counted
pub record TakesSoFar {R W : Type 0} (remaining : R → Option (List ℕ)) (contents : W → Option (List ℕ)) (old new : InputBuffer)
    (reader read : Counted R) (writer written : Counted W) (waited queue : List ℕ) : Type 0 where
  pub kept : Stays (left remaining old reader) (left remaining new read)
  pub room : length (unread new) + 4096 * old.reads ≤ length (unread old) + 4096 * new.reads
  pub gathered : IsQueued (contents (inner_of writer)) (contents (inner_of written)) waited queue
  pub calm_reader : failures_of read ≡ failures_of reader
  pub calm_writer : failures_of written ≡ failures_of writer
  pub counted : nonempty_reads_of read + old.reads ≡ nonempty_reads_of reader + new.reads

-- bytes that were read go behind those that were held
pub read_behind : (old new chunk : List ℕ) (unread after : Option (List ℕ)) → new ≡ old ++ chunk → Consumes unread after chunk
    → Stays (prepend_known old unread) (prepend_known new after)
read_behind old new chunk unread after e c bytes is = grind (arith, append_assoc)
