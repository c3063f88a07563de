use Rattle.std.proofs.Common.{take, string_bytes}
use Rattle.kcr_journal.specs.Sentences as said
use Rattle.kcr_journal.proofs.Commas.{IsJoined}
use Rattle.kcr_journal.proofs.comma_lists.people_text.Given as goal

-- the text so far is that of the people so far
abbrev pub invariant-loop-person : goal.invariant-loop-person
invariant-loop-person l =
    let so_far = take l.person-index l.people in IsJoined (string_bytes l.text) (said.people_text so_far) l.separator so_far
