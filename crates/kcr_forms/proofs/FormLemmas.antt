-- Whole numbers and lists of their forms.
use Rattle.std.proofs.Common.{◌≡◌, ◌≤◌, ℕ, ◌&&◌, List, length, Option, None, refl}
use Rattle.std.specs.Prelude.{SomeIff}
use Rattle.std.proofs.lemmas.Bool.{and_parts, false_from_ne_true}
use Rattle.kcr_base.specs.{Lists.IsListed, Lists.are_apart, Number.IsNumber}
use Rattle.kcr_base.proofs.FormLemmas.{if_form-is, within-from, within-to}
use Rattle.kcr_forms.specs.Forms.{is_between, number_to, listed_of}

-- a reader that answers a number exactly if it is of 1 to the limit reads as `number_to`
pub number-new : (limit n : ℕ) (r : Option ℕ) → SomeIff r (IsNumber limit n) n → r ≡ number_to limit n
unfolding number_to
number-new limit n r h =
    if_form-is r (IsNumber limit n) n (is_between 1 limit n) h
    (λ e. let bounds = within-from 1 limit n e in record { from = bounds.0; until = bounds.1 })
    (λ i. within-to 1 limit n (i.from, i.until))

-- a number that is too large for the reader is beyond the limit
pub number-large : (limit n : ℕ) → (n ≤ limit → ⊥) → number_to limit n ≡ None
unfolding number_to
number-large limit n h = rw (false_from_ne_true (is_between 1 limit n) (λ e. h (within-from 1 limit n e).1))

-- a reader that answers a list exactly if its values may be listed reads as `listed_of`
pub listed_new : {V : Type 0} (limit : ℕ) (texts : List V → List (List ℕ)) (list : List V) (r : Option (List V))
    → SomeIff r (IsListed limit (texts list)) list → r ≡ listed_of limit texts list
unfolding listed_of
listed_new limit texts list r h =
    if_form-is r (IsListed limit (texts list)) list (is_between 1 limit (length (texts list)) && are_apart (texts list)) h
    (λ e. let parts = and_parts (is_between 1 limit (length (texts list))) (are_apart (texts list)) e in
    let long = within-from 1 limit (length (texts list)) parts.0 in
    record { at_least_one = long.0; at_most = long.1; apart = parts.1 })
    (λ i. rw (within-to 1 limit (length (texts list)) (i.at_least_one, i.at_most), i.apart) refl)
