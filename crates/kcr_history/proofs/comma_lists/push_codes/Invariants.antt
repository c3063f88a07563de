use Rattle.kcr_history.proofs.Common.{◌++◌, take, string_bytes}
use Rattle.kcr_history.specs.Texts.{listed}
use Rattle.kcr_history.proofs.Listed.{IsJoined}
use Rattle.kcr_history.proofs.comma_lists.push_codes.Given as goal

-- the text so far is the one before, and the codes so far behind it
abbrev pub invariant-loop-code : goal.invariant-loop-code
invariant-loop-code g l =
    let so_far = take l.code-index l.codes in
    IsJoined (string_bytes l.text) (string_bytes l.fn.text ++ listed (g.T.ListElement.texts so_far)) l.separator so_far
