-- How long the phrase of a status may be.
use Rattle.kcr_desk.proofs.Common.{◌≡◌, ℕ, zero, suc, ◌<◌, ◌≤◌, ◌&&◌, [], length, nat_lt, arith, refl, ltb-true, Decides-below_and}
use Rattle.std.proofs.Common.{Bool, true, unwrap_or}
use Rattle.http.specs.StatusCode.{reason_phrase}
use Rattle.kcr_desk.specs.Texts.{phrase_of}

abbrev is_short : ℕ → Bool
is_short n = nat_lt (length (unwrap_or (reason_phrase n) [])) 32

abbrev short_below : ℕ → Bool
short_below zero = true
short_below (suc n) = is_short n && short_below n

-- the phrase of a status below 1000 has at most 31 bytes
pub phrase_short : (n : ℕ) → n < 1000 → length (phrase_of n) ≤ 31
unfolding phrase_of
phrase_short n h =
    let short : length (unwrap_or (reason_phrase n) []) < 32 =
    ltb-true _ 32 ((Decides-below_and is_short (λ k. is_short k ≡ true) short_below (λ k. (λ x. x, λ x. x)) refl (λ _. refl) 1000).0 refl n h) in
    omega arith
