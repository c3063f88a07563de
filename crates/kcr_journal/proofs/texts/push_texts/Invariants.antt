use Rattle.std.proofs.Common.{◌≡◌, ◌++◌, List, ℕ, take}
use denote.Ref.{Bor}
use Rattle.std.specs.List.{flat_map}
use Rattle.kcr_journal.proofs.texts.push_texts.Given as goal

-- behind what was there stand the texts so far
abbrev pub invariant-loop-text : goal.invariant-loop-text
invariant-loop-text l = l.out.items ≡ l.initial.out.items ++ flat_map (λ (text : Bor (List ℕ)). text.now) (take l.text-index l.texts)
