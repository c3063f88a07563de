use Rattle.kcr_verify.proofs.Common.{◌≡◌, ◌++◌, take, doubled}
use Rattle.kcr_verify.proofs.quoted.push_doubled.Given as goal

abbrev pub invariant-loop-byte : goal.invariant-loop-byte
invariant-loop-byte l = l.line.items ≡ l.fn.line.items ++ doubled (take l.byte-index l.text)
