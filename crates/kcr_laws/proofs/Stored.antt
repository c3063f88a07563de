-- What the rows of a register say of bags and boxes.
use Rattle.kcr_laws.proofs.Common.{◌≡◌, ℕ, Bool, true, cond, List, [], ◌∷◌, Option, Some, None, is_some, refl, subst, arith, list_any, cons_option}
use Rattle.kcr_laws.proofs.Common.{false≢true, there, same-is, option_or, same_text, Facility, Unknown, Spot, is_box, unknown_bag_refusal}
use Rattle.kcr_laws.proofs.Common.{unknown_item_refusal, Act, History, values_of_acts, facility_of, spot_after, spot, rest, added_box_place}
use Rattle.kcr_laws.proofs.Common.{place_of_box, sealed_serial, boxes, box_row, fault, IsRegister, took}
use Rattle.kcr_base.proofs.RefuseLemmas.{unmet}
use Rattle.kcr_base.specs.declared.refusal.Thing.TheVariants as Things

-- a bag that was there before says no more than that it is there
pub moved_there : (t s : List ℕ) (new : Spot) (old : Option Spot) (here : Bool) → (same_text t s ≡ true → is_some old ≡ true) → here ≡ is_some old
    → here ≡ is_some (option_or (cond (same_text t s) (Some new) None) old)
moved_there t s new old here known ih = grind (arith, known, ih)

-- the bag of a command is there
pub bag_known : (A : History) (t s : List ℕ) → unknown_bag_refusal (spot A t) t ≡ None → same_text t s ≡ true → is_some (spot A s) ≡ true
bag_known A t s n e = subst (λ k. is_some (spot A k) ≡ true) (same-is t s e) (there (spot A t) (unmet _ (Unknown (Things.Bag t)) n))

-- each of the items of a command is somewhere
pub items_known : (A : History) (k : List ℕ) (codes : List (List ℕ)) → unknown_item_refusal (rest A) codes ≡ None → list_any (same_text k) codes ≡ true
    → is_some (rest A k) ≡ true
items_known A k [] n m = absurd (false≢true m)
items_known A k (code ∷ codes) n m = grind (arith, same-is k code, items_known A k codes)

abbrev pub is_sealed : History → List ℕ → Bool
is_sealed A s = list_any (λ k. same_text k s) (values_of_acts sealed_serial A)

-- with a further command a bag still is somewhere if and only if it was sealed
pub sealed_after : (A : History) (act : Act) (s : List ℕ) → fault A act ≡ None → is_sealed A s ≡ is_some (spot A s)
    → list_any (λ k. same_text k s) (cons_option (sealed_serial act) (values_of_acts sealed_serial A)) ≡ is_some (option_or (spot_after (facility_of A) s act) (spot A s))
sealed_after A act s f ih = grind (arith, ih, bag_known A)

-- a bag is somewhere if and only if it was sealed
pub sealed_somewhere : (A : History) → IsRegister A → (s : List ℕ) → list_any (λ k. same_text k s) (values_of_acts sealed_serial A) ≡ is_some (spot A s)
sealed_somewhere [] h s = refl
sealed_somewhere (entry ∷ A) h s = sealed_after A entry.command.act s (took A entry h.0).no_fault (sealed_somewhere A h.1 s)

-- with a further command a box still has a row if and only if it has a place
pub box_after : (A : History) (act : Act) (f : Facility) (n : ℕ) → list_any (is_box f n) (boxes A) ≡ is_some (place_of_box A f n)
    → list_any (is_box f n) (cons_option (box_row act) (boxes A)) ≡ is_some (option_or (added_box_place f n act) (place_of_box A f n))
box_after A act f n ih = grind (arith, ih)

-- a box is there if and only if it has a place
pub box-there : (A : History) (f : Facility) (n : ℕ) → list_any (is_box f n) (boxes A) ≡ is_some (place_of_box A f n)
box-there [] f n = refl
box-there (entry ∷ A) f n = box_after A entry.command.act f n (box-there A f n)
