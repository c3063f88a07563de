use Rattle.std.proofs.Common.{take, string_bytes}
use Rattle.kcr_journal.specs.Sentences as said
use Rattle.kcr_journal.proofs.Commas.{IsJoined}
use Rattle.kcr_journal.proofs.comma_lists.items_text.Given as goal

-- the text so far is that of the items so far
abbrev pub invariant-loop-item : goal.invariant-loop-item
invariant-loop-item l =
    let so_far = take l.item-index l.items in IsJoined (string_bytes l.text) (said.comma_list so_far) l.separator so_far
