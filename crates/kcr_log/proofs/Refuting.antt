-- Why no other damage is there.
use Rattle.std.proofs.Common.{◌≡◌, ℕ, ◌+◌, ◌-◌, ◌/◌, ◌<◌, ◌||◌, true, false, List, length, sym, ◌∙◌, inl, inr, arith}
use Rattle.std.proofs.lemmas.Bool.{false≢true, true≢false, Decides.nat_tests}
use Rattle.std.proofs.Math.Nat.{div-mul-le_self, mul-le-mul_right}
use Rattle.kcr_log.specs.{declared.frames.Header.Header, declared.judgement.Log.Log, Damage.IsWrongHead, Damage.IsDamage}
use Rattle.kcr_log.specs.declared.judgement.Log.TheVariants.{Sound, WrongHead, WrongFrame, NoFile}
use Rattle.kcr_log.specs.Frames.{header_of, is_signed, frame_count, checks}
use Rattle.kcr_log.specs.Pages.{told_header, second_header, turned, page_size_of, HasLost}
use Rattle.kcr_log.proofs.{Counting.carried, Counting.checked, Safe.none-safe}

-- nor has one with a head that does not check, if neither its head nor a page is known to be lost
pub sound-head : (file log : List ℕ) → is_signed log ≡ false → ((ended : ℕ) → ¬ IsWrongHead file log ended)
    → ((ended : ℕ) → ¬ HasLost (second_header file log) file log ended)
    → (damage : Log) → ¬ IsDamage file log damage
sound-head file log wrong head lost Sound damage = damage
sound-head file log wrong head lost (WrongHead ended) damage =
    elim damage [ inl here ↦ head ended here | inr here ↦ lost ended here.lost ]
sound-head file log wrong head lost (NoFile ended) damage = false≢true (sym wrong ∙ damage.signed)
sound-head file log wrong head lost (WrongFrame first count) damage = false≢true (sym wrong ∙ damage.signed)

-- a log too short for a frame has none
no-frames : (header : Header) (log : List ℕ) → length log < 56 → frame_count header log ≡ 0
no-frames header log short =
    let d = 24 + header.page_size in
    let m = length log - 32 in
    grind (arith, div-mul-le_self m d, λ (some : 0 < m / d). mul-le-mul_right d some)

none-checked : (header : Header) (log : List ℕ) (i : ℕ) → length log < 56 → checks header log i ≡ true → ⊥
none-checked header log i short h = omega (arith, carried header log i (checked header log i h), no-frames header log short)

-- of two heads neither lets a frame check
neither-checked : (one two : Header) (log : List ℕ) (i : ℕ) → length log < 56
    → (checks one log i || checks two log i) ≡ true → ⊥
neither-checked one two log i short h = grind (arith, nat_tests, none-checked one log i short, none-checked two log i short)

-- nor does it have damage
pub sound-short : (file log : List ℕ) → length log < 56 → (damage : Log) → ¬ IsDamage file log damage
sound-short file log short Sound damage = damage
sound-short file log short (WrongHead ended) damage = elim damage [
  | inl head ↦ neither-checked (told_header false (page_size_of file log) log) (told_header true (page_size_of file log) log)
      log 1 short head.agree
  | inr head ↦ neither-checked (second_header file log) (turned (second_header file log)) log head.lost.frame short
      head.lost.lost.checked
]
sound-short file log short (NoFile ended) damage = none-checked (header_of log) log 0 short damage.first
sound-short file log short (WrongFrame first count) damage =
    let none : frame_count (header_of log) log ≡ 0 = no-frames (header_of log) log short in
    true≢false (sym damage.safe ∙ none-safe (header_of log) log (first - 1) (omega arith))
