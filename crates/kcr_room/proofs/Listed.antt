-- A law: an attendance has each stay of the ceremony once and no other (`attendance-moves`), by beginning, then initials (`attendance-listed`).
use Rattle.kcr_room.proofs.Common.{◌≡◌, ℕ, Bool, true, false, cond, not, ◌==◌, List, [], ◌∷◌, ◌++◌, refl, arith, list_all, filter, IsPermutation}
use Rattle.kcr_room.proofs.Common.{IsPermutation-refl, IsPermutation-cons, IsPermutation-trans, IsPermutation-middle, all-more, is_listed_before}
use Rattle.kcr_room.proofs.Common.{put_stay, in_order, attendance_in_by, are_listed}
use Rattle.kcr_room.proofs.{Words.nat_tests, Words.Stay, Orders.before-turned, Orders.behind}

put-moves : (stay : Stay) (stays : List Stay) → IsPermutation (stay ∷ stays) (put_stay stay stays)
put-moves stay [] = IsPermutation-refl (stay ∷ [])
put-moves stay (other ∷ rest) =
    let turned = IsPermutation-middle (stay ∷ []) other rest in
    let under = IsPermutation-cons other (stay ∷ rest) (put_stay stay rest) (put-moves stay rest) in
    grind (arith, IsPermutation-refl {X = Stay}, IsPermutation-trans _ _ _ turned under)

order-moves : (stays : List Stay) → IsPermutation stays (in_order stays)
order-moves [] = IsPermutation-refl []
order-moves (stay ∷ rest) =
    IsPermutation-trans _ _ _ (IsPermutation-cons stay rest (in_order rest) (order-moves rest)) (put-moves stay (in_order rest))

-- the attendance of a ceremony has each of its stays once and no other, in some order
pub attendance-moves : (stays : List Stay) (c : ℕ) → IsPermutation (filter (λ stay. stay.ceremony == c) stays) (attendance_in_by stays c)
attendance-moves stays c = order-moves (filter (λ stay. stay.ceremony == c) stays)

listed-turned : (a b : Stay) → is_listed_before a b ≡ true → is_listed_before b a ≡ false
listed-turned a b h = grind (arith, nat_tests, before-turned a.who b.who)

-- what is not listed before a second, which is not listed before a third
listed-behind : (a b c : Stay) → is_listed_before a b ≡ false → is_listed_before b c ≡ false → is_listed_before a c ≡ false
listed-behind a b c h k = grind (arith, nat_tests, behind a.who b.who c.who)

all-put : (p : Stay → Bool) (stay : Stay) (stays : List Stay) → p stay ≡ true → list_all p stays ≡ true → list_all p (put_stay stay stays) ≡ true
all-put p stay [] h a = rw h refl
all-put p stay (other ∷ rest) h a = grind (arith, nat_tests, h, a, all-put p stay rest)

all-behind : (stay other : Stay) (stays : List Stay) → is_listed_before other stay ≡ false → list_all (λ s. not (is_listed_before s other)) stays ≡ true
    → list_all (λ s. not (is_listed_before s stay)) stays ≡ true
all-behind stay other stays h a =
    all-more (λ s. not (is_listed_before s other)) (λ s. not (is_listed_before s stay)) stays
    (λ s k. grind (arith, nat_tests, listed-behind s other stay)) a

listed-put : (stay : Stay) (stays : List Stay) → are_listed stays ≡ true → are_listed (put_stay stay stays) ≡ true
listed-put stay [] r = refl
listed-put stay (other ∷ rest) r =
    let put = all-put (λ s. not (is_listed_before s other)) stay rest in
    grind (arith, nat_tests, r, listed-put stay rest, listed-turned other stay, put, all-behind stay other rest)

order-listed : (stays : List Stay) → are_listed (in_order stays) ≡ true
order-listed [] = refl
order-listed (stay ∷ rest) = listed-put stay (in_order rest) (order-listed rest)

-- the attendance is listed by beginning, then initials
pub attendance-listed : (stays : List Stay) (c : ℕ) → are_listed (attendance_in_by stays c) ≡ true
attendance-listed stays c = order-listed (filter (λ stay. stay.ceremony == c) stays)

-- the ceremony's stays of a list, from its last on, put among others
abbrev pub in_order_onto : ℕ → List Stay → List Stay → List Stay
in_order_onto c [] listed = listed
in_order_onto c (stay ∷ rest) listed =
    cond (stay.ceremony == c) (put_stay stay (in_order_onto c rest listed)) (in_order_onto c rest listed)

-- the ceremony's stays put among no others are its attendance
pub onto-none : (c : ℕ) (stays : List Stay) → in_order_onto c stays [] ≡ attendance_in_by stays c
onto-none c [] = refl
onto-none c (stay ∷ rest) = grind (arith, nat_tests, onto-none c rest)

-- the last stay of a list is put first
pub onto-last : (c : ℕ) (stays listed : List Stay) (stay : Stay)
    → in_order_onto c (stays ++ (stay ∷ [])) listed ≡ in_order_onto c stays (cond (stay.ceremony == c) (put_stay stay listed) listed)
onto-last c [] listed stay = refl
onto-last c (other ∷ rest) listed stay = rw (onto-last c rest listed stay)
