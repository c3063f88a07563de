use Rattle.kcr_print.proofs.Common.{◌≡◌, ◌++◌, List, ℕ, map, take, Bor, words}
use denote.Shadow.{shadow}
use denote.Text.{Utf8}
use Rattle.kcr_print.proofs.LineLemmas.{separator}
use Rattle.kcr_print.proofs.line.push_words.Given as goal

-- behind what was there stand the words so far
abbrev pub invariant-loop-word : goal.invariant-loop-word
invariant-loop-word l = record {
  text : l.out.items ≡ l.initial.out.items ++ words (map (λ (w : Bor (List ℕ)). w.now) (take l.word-index l.words));
  blank : l.separator ≡ separator (take l.word-index l.words);
  utf8 : shadow (Utf8 l.separator);
}
