use Rattle.std.proofs.Common.{◌≡◌, List, ℕ, map, take}
use denote.Ref.{Bor}
use Rattle.std.specs.List.{filter_map}
use Rattle.kcr_forms.specs.Forms.{initials_of}
use Rattle.kcr_journal.proofs.reply.initials_among.Given as goal

-- the initials among the texts so far
abbrev pub invariant-loop-text : goal.invariant-loop-text
invariant-loop-text l = l.people.items ≡ filter_map initials_of (map (λ (text : Bor (List ℕ)). text.now) (take l.text-index l.texts))
