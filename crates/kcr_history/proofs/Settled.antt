-- The settled day by the rows of marks, in any order, is the settled day by history.
use Rattle.kcr_history.proofs.Common.{◌≡◌, ℕ, Bool, true, ◌||◌, eqb, List, [], ◌∷◌, map, filter, Option, Some, None, option_map, is_some, refl, ap}
use Rattle.kcr_history.proofs.Common.{◌∙◌, arith, list_any, list_all, filter_map, cons_option, IsPermutation, IsPermutation-map, false≢true, and_from}
use Rattle.kcr_history.proofs.Common.{or_right, eq-eqb, Shuffled, nothing, under, flipped, after, shuffled, all-more, Act, Ceremony, History}
use Rattle.kcr_history.proofs.Common.{values_of_acts, greatest, max_with, marked_moment, mark, opened_number, settled, marks, mark_row}
use Rattle.kcr_base.specs.Days.{day_of}
use Rattle.kcr_history.specs.declared.{commands.Deed.TheVariants.Open, row_types.MarkRow.MarkRow}

-- THE GREATEST OF A LIST IN ANY ORDER

greatest-shuffled : {xs ys : List ℕ} → Shuffled xs ys → greatest ys ≡ greatest xs
greatest-shuffled nothing = refl
greatest-shuffled (under x xs ys s) = ap (λ rest. Some (max_with x rest)) (greatest-shuffled s)
greatest-shuffled (flipped x y xs) = grind arith
greatest-shuffled (after xs ys zs s t) = greatest-shuffled t ∙ greatest-shuffled s

-- the same numbers in any order have the same greatest
pub greatest-order : (xs ys : List ℕ) → IsPermutation xs ys → greatest ys ≡ greatest xs
greatest-order xs ys p = greatest-shuffled (shuffled xs ys p)

-- EACH CEREMONY THAT WAS OPENED HAS A MARK

abbrev has_mark : History → ℕ → Bool
has_mark A ceremony = list_any (λ m. eqb m.0 ceremony) (values_of_acts marked_moment A)

some_mark : (ceremony : ℕ) (ms : List (ℕ × ℕ)) → list_any (λ m. eqb m.0 ceremony) ms ≡ true
    → is_some (greatest (map (λ m. m.1) (filter (λ m. eqb m.0 ceremony) ms))) ≡ true
some_mark ceremony [] h = absurd (false≢true h)
some_mark ceremony (m ∷ ms) h = grind (arith, some_mark ceremony ms)

all_more : (o : Option (ℕ × ℕ)) (ms : List (ℕ × ℕ)) (cs : List ℕ) → list_all (λ c. list_any (λ m. eqb m.0 c) ms) cs ≡ true
    → list_all (λ c. list_any (λ m. eqb m.0 c) (cons_option o ms)) cs ≡ true
all_more None ms cs h = h
all_more (Some m) ms cs h = all-more (λ c. list_any (λ m. eqb m.0 c) ms) _ cs (λ c. or_right (eqb m.0 c) _) h

marked_after : (act : Act) (ms : List (ℕ × ℕ)) (cs : List ℕ) → list_all (λ c. list_any (λ m. eqb m.0 c) ms) cs ≡ true
    → list_all (λ c. list_any (λ m. eqb m.0 c) (cons_option (marked_moment act) ms)) (cons_option (opened_number act) cs) ≡ true
marked_after (Ceremony ceremony at Open) ms cs h =
    and_from (eqb ceremony ceremony || list_any (λ m. eqb m.0 ceremony) ms) _ (rw (eq-eqb ceremony ceremony refl))
    (all_more (Some (ceremony, at)) ms cs h)
marked_after act ms cs h = all_more (marked_moment act) ms cs h

opened_marked : (A : History) → list_all (has_mark A) (values_of_acts opened_number A) ≡ true
opened_marked [] = refl
opened_marked (entry ∷ A) = marked_after entry.command.act (values_of_acts marked_moment A) (values_of_acts opened_number A) (opened_marked A)

-- the moments of the rows are the marks
row_marks : (A : History) (cs : List ℕ) → list_all (has_mark A) cs ≡ true → map (λ row. row.at) (map (mark_row A) cs) ≡ filter_map (mark A) cs
row_marks A [] h = refl
row_marks A (c ∷ cs) h = grind (arith, some_mark c (values_of_acts marked_moment A), row_marks A cs)

-- the settled day is the day of the greatest moment among the rows of marks, in any order
pub settled-rows : (A : History) (rows : List MarkRow) → IsPermutation (marks A) rows → option_map day_of (greatest (map (λ row. row.at) rows)) ≡ settled A
settled-rows A rows p =
    let own = row_marks A (values_of_acts opened_number A) (opened_marked A) in
    let moments : List MarkRow → List ℕ = map (λ row. row.at) in
    let same = greatest-order (moments (marks A)) (moments rows) (IsPermutation-map (λ row. row.at) (marks A) rows p) in
    ap (option_map day_of) (same ∙ ap greatest own)
