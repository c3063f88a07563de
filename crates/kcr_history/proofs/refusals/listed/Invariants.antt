use Rattle.kcr_history.proofs.Common.{◌≡◌, map, take, string_bytes, decimal, join_with_byte}
use Rattle.kcr_history.proofs.refusals.listed.Given as goal

-- the text so far is that of the positions so far
abbrev pub invariant-loop-i : goal.invariant-loop-i
invariant-loop-i l = string_bytes l.text ≡ join_with_byte 44 (map decimal (take l.i l.fn.seats))
