-- A reader of the number of commands that a client has.
use Rattle.kcr_wire.proofs.Common.{◌≡◌, ℕ, ◌<◌, ◌≤◌, ◌^◌, List, Option, Some, None, sym, ap, subst, ◌∙◌, arith, SomeIff, decimal}
use Rattle.kcr_base.specs.Reads.{HasText, ReadsText}
use Rattle.kcr_base.proofs.TextLemmas.{number-read}
use Rattle.kcr_wire.specs.Endpoints.{after_of}

abbrev IsAfter : ℕ → Type 0
IsAfter n = n ≤ 4000000000

is_after : (bytes : List ℕ) (r : Option ℕ) → HasText IsAfter decimal bytes r → ReadsText IsAfter decimal bytes r → r ≡ after_of bytes
unfolding after_of
is_after bytes r found only = number-read IsAfter decimal 0 4000000000 bytes r (λ n low high. high) (λ n h. (omega arith, h)) found only

-- no number has this text
pub after-none : (bytes : List ℕ) → ((m : ℕ) → m < 2 ^ 32 → decimal m ≡ bytes → ◌≡◌ {A = Option ℕ} None (Some m)) → None ≡ after_of bytes
after-none bytes only = is_after bytes None tt (λ m h e. only m (omega (arith, h)) e)

found : (bytes : List ℕ) (r : Option ℕ) (n : ℕ) → SomeIff r (n ≤ 4000000000) n → decimal n ≡ bytes → HasText IsAfter decimal bytes r
found bytes None n new text = tt
found bytes (Some x) n new text = (subst IsAfter (sym new.1) new.0, ap decimal new.1 ∙ text)

chosen : (r : Option ℕ) (n m : ℕ) → SomeIff r (n ≤ 4000000000) n → n ≡ m → m ≤ 4000000000 → r ≡ Some m
chosen None n m new same h = absurd (new (subst IsAfter (sym same) h))
chosen (Some x) n m new same h = ap Some (new.1 ∙ same)

-- this number has it, and no other
pub after-read : (bytes : List ℕ) (r : Option ℕ) (n : ℕ) → SomeIff r (n ≤ 4000000000) n → decimal n ≡ bytes
    → ((m : ℕ) → m < 2 ^ 32 → decimal m ≡ bytes → Some n ≡ Some m) → r ≡ after_of bytes
after-read bytes r n new text only =
    is_after bytes r (found bytes r n new text) (λ m h e. let one = only m (omega (arith, h)) e in let same : n ≡ m = cc in chosen r n m new same h)
