-- Answers that may be out of memory, and one reading after another.
use Rattle.std.specs.Prelude.{◌≡◌, ◌≢◌, Result, Ok, Err, MatchResult}
use Rattle.kcr_base.specs.declared.refusal.Refusal.{Refusal, TheVariants.Memory}

-- the answer that is expected, or out of memory
abbrev pub OrMemory : {T : Type 0} → Result T Refusal → Result T Refusal → Type 0
OrMemory result expected = MatchResult result (λ v. expected ≡ Ok v) (λ e. e ≢ Memory → expected ≡ Err e)

-- continues with what was read, or stops at the refusal
abbrev pub and_then : {A B : Type 0} → Result A Refusal → (A → Result B Refusal) → Result B Refusal
and_then (Ok a) go = go a
and_then (Err e) go = Err e
