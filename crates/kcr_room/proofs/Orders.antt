-- Stays in another order: who is in the room, and what a request is refused for.
use Rattle.kcr_room.proofs.Common.{append-nil, get_or, length, take, ◌+◌, ◌<◌, ◌≡◌, ℕ, Bool, true, false, cond, ◌||◌, List, [], ◌∷◌, ◌++◌, map, refl}
use Rattle.kcr_room.proofs.Common.{sym, ap, ◌∙◌, arith, filter, take_more, map-append, filter-append, IsPermutation, Shuffled, shuffled, filter-order}
use Rattle.kcr_room.proofs.Common.{IsPermutation-map, IsPermutation-append_left, sum_by-IsPermutation, list_any-IsPermutation, ascending, put_person}
use Rattle.kcr_room.proofs.Common.{stay_covers, headcount_in_by, present_in_by, reaches, is_inside, is_inside_of, is_out_of_turn_in, new_stay}
use Rattle.kcr_room.proofs.Common.{with_end, of_ceremony, stays_after_request, clipped_to_moment, stays_from_moment, is_overfull, stays_refusal}
use Rattle.kcr_room.proofs.{Common.same-is, Rising.ranked, Rising.other-before, Refusals.refused-same, Refusals.find-same}
use Rattle.kcr_room.proofs.Words.{nat_tests, is_before, Way, Enter, Leave, Stay}

-- the headcount is the same for the stays in any order
pub crowd-order : (xs ys : List Stay) → IsPermutation xs ys → (c t : ℕ) → headcount_in_by ys c t ≡ headcount_in_by xs c t
crowd-order xs ys p c t = sum_by-IsPermutation (λ s. cond (stay_covers c t s) 1 0) xs ys p

-- WHO

-- a code that is before another is not behind it
pub before-turned : (a b : List ℕ) → is_before a b ≡ true → is_before b a ≡ false
before-turned a b h = ranked.one_way a b h

-- of two codes neither of which is before the other
level : (a b : List ℕ) → is_before a b ≡ false → is_before b a ≡ false → a ≡ b
level a b f g = grind (arith, nat_tests, f, g, same-is a b, other-before a b)

-- what is not before b, but before a
pub behind : (x b a : List ℕ) → is_before x b ≡ false → is_before x a ≡ true → is_before b a ≡ true
behind x b a f h = grind (arith, nat_tests, f, h, ranked.chain x b a)

-- two people put in one after the other
put-put : (a b : List ℕ) (people : List (List ℕ)) → put_person a (put_person b people) ≡ put_person b (put_person a people)
put-put a b [] = grind (arith, nat_tests, before-turned a b, level a b)
put-put a b (x ∷ rest) = grind (arith, nat_tests, before-turned a b, level a b, behind x a b, behind x b a, put-put a b rest)

-- people in another order are one in byte order
same-ascending : {xs ys : List (List ℕ)} → Shuffled xs ys → ascending xs ≡ ascending ys
same-ascending Shuffled.nothing = refl
same-ascending (Shuffled.under x xs ys s) = ap (put_person x) (same-ascending s)
same-ascending (Shuffled.flipped x y xs) = put-put x y (ascending xs)
same-ascending (Shuffled.after xs ys zs s t) = same-ascending s ∙ same-ascending t

-- the last of some people is put among the others
pub put-last : (people : List (List ℕ)) (who : List ℕ) → ascending (people ++ (who ∷ [])) ≡ put_person who (ascending people)
put-last [] who = refl
put-last (first ∷ rest) who = ap (put_person first) (put-last rest who) ∙ put-put first who (ascending rest)

-- one stay more
pub present-more : (stays : List Stay) (i c t : ℕ) (d : Stay) → i < length stays
    → present_in_by (take (i + 1) stays) c t
    ≡ cond (stay_covers c t (get_or stays i d)) (put_person (get_or stays i d).who (present_in_by (take i stays) c t)) (present_in_by (take i stays) c t)
present-more stays i c t d h =
    let stay : Stay = get_or stays i d in
    let own = map (λ (stay : Stay). stay.who) (filter (stay_covers c t) (take i stays)) in
    grind (arith, nat_tests, take_more stays i d h, filter-append, map-append, put-last own stay.who, append-nil)

-- those present are the same for the stays in any order
pub present-order : (xs ys : List Stay) → IsPermutation xs ys → (c t : ℕ) → present_in_by ys c t ≡ present_in_by xs c t
present-order xs ys p c t =
    let moved = IsPermutation-map (λ stay. stay.who) (filter (stay_covers c t) xs) (filter (stay_covers c t) ys) (filter-order (stay_covers c t) xs ys p) in
    sym (same-ascending (shuffled _ _ moved))

-- WHAT A REQUEST IS REFUSED FOR

-- the stays after a request are the same up to their order, for the stays before it in any order
pub after-order : (xs ys : List Stay) → IsPermutation xs ys → (c : ℕ) (way : Way) (people : List (List ℕ)) (at : ℕ)
    → IsPermutation (stays_after_request xs c way people at) (stays_after_request ys c way people at)
after-order xs ys p c Enter people at = IsPermutation-append_left (map (new_stay c at) people) _ _ (filter-order (of_ceremony c) xs ys p)
after-order xs ys p c Leave people at = IsPermutation-map (with_end people at) _ _ (filter-order (of_ceremony c) xs ys p)

-- as many people are there from the moment on
pub later-order : (xs ys : List Stay) → IsPermutation xs ys → (c : ℕ) (way : Way) (people : List (List ℕ)) (at t : ℕ)
    → headcount_in_by (stays_from_moment ys c way people at) c t ≡ headcount_in_by (stays_from_moment xs c way people at) c t
later-order xs ys p c way people at t =
    crowd-order _ _ (IsPermutation-map (clipped_to_moment at) _ _ (after-order xs ys p c way people at)) c t

-- whether it is a person's turn is the same for the stays in any order
pub turn-order : (xs ys : List Stay) → IsPermutation xs ys → (c : ℕ) (way : Way) (at : ℕ) (who : List ℕ)
    → is_out_of_turn_in ys c way at who ≡ is_out_of_turn_in xs c way at who
turn-order xs ys p c Enter at who = rw (list_any-IsPermutation (reaches who at) xs ys p, list_any-IsPermutation (is_inside who) xs ys p)
turn-order xs ys p c Leave at who = rw (list_any-IsPermutation (reaches who at) xs ys p, list_any-IsPermutation (is_inside_of c who) xs ys p)

-- a request is refused alike for the stays in any order
pub refusal-order : (xs ys : List Stay) → IsPermutation xs ys → (entered c mark : ℕ) (full : Bool) (way : Way) (people : List (List ℕ)) (at : ℕ)
    → stays_refusal ys entered c mark full way people at ≡ stays_refusal xs entered c mark full way people at
refusal-order xs ys p entered c mark full way people at =
    let turns = find-same (is_out_of_turn_in ys c way at) (is_out_of_turn_in xs c way at) (turn-order xs ys p c way at) people in
    let later = later-order xs ys p c way people at in
    rw (turns, refused-same _ (stays_from_moment xs c way people at) c (full || is_overfull entered way people) later)
