-- Days and moments with one text are one.
use Rattle.std.proofs.Common.{◌≡◌, ℕ, ◌/◌, ◌%◌, ◌≤◌, [], ◌∷◌, ◌++◌, refl, sym, subst, ◌∙◌, arith, pos, rules}
use Rattle.std.proofs.lemmas.List.Elements.{All-from_recursion}
use Rattle.kcr_base.specs.Day.{IsDay, IsDayOf, date_text, day_text}
use Rattle.kcr_base.specs.Moment.{IsMoment, clock_text, moment_text}
use Rattle.kcr_base.proofs.DayLemmas.{date_of_number, parts_of_day, moment_parts, day_of_moment}
use Rattle.kcr_forms.proofs.Readers.{AtLeast}

date-same : (y m d z n e : ℕ) → date_text y m d ≡ date_text z n e → (y ≡ z) × (m ≡ n) × (d ≡ e)
date-same y m d z n e same = (grind (arith, same), grind (arith, same), grind (arith, same))

-- a date has one number
same-number : (y m d a b : ℕ) → IsDayOf y m d a → IsDayOf y m d b → a ≡ b
same-number y m d a b is_a is_b = let same : pos a ≡ pos b = sym is_a.number ∙ is_b.number in cc

-- days with one text are one
pub day-same : (m n : ℕ) → IsDay m → IsDay n → day_text m ≡ day_text n → m ≡ n
day-same m n is_m is_n e =
    let p = parts_of_day m is_m in
    let q = parts_of_day n is_n in
    let parts = date-same _ _ _ _ _ _ (p.1 ∙ e ∙ sym q.1) in
    let a = date_of_number m is_m in
    let b = date_of_number n is_n in
    same-number _ _ _ m n (subst (λ (date : ℕ × ℕ × ℕ). IsDayOf date.0 date.1 date.2 m) (λ j. (parts.0 j, parts.1 j, parts.2 j)) a) b

clock-same : (s t : ℕ) → 84 ∷ clock_text s ++ 90 ∷ [] ≡ 84 ∷ clock_text t ++ 90 ∷ [] → s ≡ t
clock-same s t same = grind (arith, same)

-- moments with one text are one
pub moment-same : (s t : ℕ) → IsMoment s → IsMoment t → moment_text s ≡ moment_text t → s ≡ t
moment-same s t is_s is_t e =
    let p = moment_parts s (moment_text t) e in
    let q = moment_parts t (moment_text t) refl in
    let day = day-same (s / 86400) (t / 86400) (day_of_moment s is_s) (day_of_moment t is_t) (p.1 ∙ sym q.1) in
    let second = clock-same (s % 86400) (t % 86400) (p.2 ∙ sym q.2) in
    omega (arith, day, second)

-- ---- their bytes

-- a day's text has no control character
pub day-printing : (n : ℕ) → AtLeast 32 (day_text n)
unfolding day_text
day-printing n = All-from_recursion (λ b. 32 ≤ b) (day_text n) (search (rules, arith))

-- nor has a moment's
pub moment-printing : (n : ℕ) → AtLeast 32 (moment_text n)
unfolding moment_text day_text
moment-printing n = All-from_recursion (λ b. 32 ≤ b) (moment_text n) (search (rules, arith))
