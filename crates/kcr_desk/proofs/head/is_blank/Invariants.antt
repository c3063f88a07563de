use Rattle.kcr_desk.proofs.Common.{◌≡◌, drop, blank_from}
use Rattle.std.specs.Prelude.{false}
use Rattle.kcr_desk.proofs.head.is_blank.Given as goal

abbrev pub invariant-loop-byte : goal.invariant-loop-byte
invariant-loop-byte l = blank_from l.after_cr (drop l.byte-index l.bytes) ≡ blank_from false l.bytes
