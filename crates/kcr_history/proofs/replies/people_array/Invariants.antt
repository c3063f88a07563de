use Rattle.kcr_history.proofs.Common.{◌++◌, map, take, codes, string_bytes, join_with_byte, quoted}
use Rattle.kcr_history.proofs.Listed.{IsJoined}
use Rattle.kcr_history.proofs.replies.people_array.Given as goal

-- the text so far is a bracket and the people so far, in quotes
abbrev pub invariant-loop-who : goal.invariant-loop-who
invariant-loop-who l =
    let so_far = take l.who-index l.who-items in IsJoined (string_bytes l.text) (codes "[" ++ join_with_byte 44 (map quoted so_far)) l.separator so_far
