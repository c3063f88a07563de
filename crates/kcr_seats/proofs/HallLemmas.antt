-- The theorem of Hall, by one seat after the other: of every relation there is a seating (`seating_or_short`) or there is a short list of seats, and never
-- both (`not_both`).
use Rattle.std.proofs.Common.{◌≡◌, ◌≢◌, ℕ, zero, suc, ◌+◌, ◌<◌, ◌≤◌, ◌⊎◌, inl, inr, Bool, true, false, cond, ◌==◌, List, [], ◌∷◌, ◌++◌}
use Rattle.std.proofs.Common.{length, get_or, set, replicate, refl, arith, sym, ◌∙◌, subst, eq-eqb, add-one, length-append, rules}
use Rattle.std.proofs.{lemmas.Bool.eqb-true, lemmas.List.length-set, Math.ListN.get_or-append}
use Rattle.kcr_seats.specs.{Hall.NotBoth, Hall.SeatingOrShort, Seating.IsSeating, Seating.IsShort, Seating.can_take}
use Rattle.kcr_seats.specs.Search.{IsClosed, IsListed, IsMarked, IsReached, IsRootAlone, IsSeatedBut, IsStuck}
use Rattle.kcr_seats.proofs.{Between.IsAlternatingPath, Least.first_below, Least.rising_apart, Least.short}
use Rattle.kcr_seats.proofs.Counting.{length_under, same_or_not, true_or_false}
use Rattle.kcr_seats.proofs.SearchLemmas.{can_take_at, can_take_some, listed_more, listed_same, marked_more, order_short, placed, reached_more}
use Rattle.kcr_seats.proofs.SearchLemmas.{root_marked, root_reached, way_back}

-- a relation that has a seating has no short list of seats: a seating gives the seats of a list as many people who fit one of them
pub not_both : NotBoth
not_both fits seats people w s y z =
    let enough = length_under s (λ k. get_or w k 0) (can_take fits s) people
    (λ i h. y.in_range (get_or s i 0) (z.in_range i h))
    (λ i h. can_take_some fits s (get_or w (get_or s i 0) 0) i h (y.fitting (get_or s i 0) (z.in_range i h)))
    (λ i j h k e. rising_apart s z.rising i j h k (y.distinct (get_or s i 0) (get_or s j 0) (z.in_range i h) (z.in_range j k) e)) in
    omega (arith, enough, z.few)

-- some pair of numbers below n and m passes the test, or none does
abbrev APair : (ℕ → ℕ → Bool) → ℕ → ℕ → Type 0
APair t n m = (i : ℕ) × (j : ℕ) × (i < n) × (j < m) × (t i j ≡ true)

some_pair : (t : ℕ → ℕ → Bool) (n m : ℕ) → APair t n m ⊎ ((i j : ℕ) → i < n → j < m → t i j ≡ false)
some_pair t n m = elim (first_below (λ i. (j : ℕ) × (j < m) × (t i j ≡ true)) (λ i. (j : ℕ) → j < m → t i j ≡ false) row n) [
  | inl a ↦ inl (a.0, a.2.0, a.1, a.2.1, a.2.2)
  | inr none ↦ inr (λ i j h k. none i h j k)
]
  where
    row : (i : ℕ) → ((j : ℕ) × (j < m) × (t i j ≡ true)) ⊎ ((j : ℕ) → j < m → t i j ≡ false)
    row i = elim (first_below (λ j. t i j ≡ true) (λ j. t i j ≡ false) (λ j. true_or_false (t i j)) m)
        [ inl a ↦ inl (a.0, a.1, a.2) | inr none ↦ inr none ]

-- what the second test says if the first one fails
unless_yes : (m f : Bool) → cond m false f ≡ true → (m ≡ false) × (f ≡ true)
unless_yes m f h = (grind arith, grind arith)

unless_no : (m f : Bool) → cond m false f ≡ false → f ≡ true → m ≡ true
unless_no m f h k = grind arith

-- the seats reached from the root, if no further one is
record Closure (fits : ℕ → ℕ → Bool) (root : ℕ) (w : List ℕ) : Type 0 where
  pub order : List ℕ
  pub from : List ℕ
  pub marked : List Bool
  pub reached : IsReached fits root 0 w order from
  pub marks : IsMarked w order marked
  pub closed : IsClosed fits 0 (length order) (length w) w order marked

-- a further seat is reached, and the search goes on with it, or there is none
closure_step : {fits : ℕ → ℕ → Bool} {root : ℕ} {w order from : List ℕ} {marked : List Bool} → IsReached fits root 0 w order from → IsMarked w order marked
    → ((order' from' : List ℕ) (marked' : List Bool) → IsReached fits root 0 w order' from' → IsMarked w order' marked'
    → length order' ≡ length order + 1 → Closure fits root w)
    → Closure fits root w
closure_step {fits} {root} {w} {order} {from} {marked} r m go_on =
    let seated = λ (i j : ℕ). fits (get_or order i 0) (get_or w j 0) in
    elim (some_pair (λ i j. cond (get_or marked j false) false (seated i j)) (length order) (length w)) [
      | inl a ↦
          let b = unless_yes (get_or marked a.1 false) (seated a.0 a.1) a.4 in
          go_on (order ++ a.1 ∷ []) (from ++ a.0 ∷ []) (set marked a.1 true)
          (reached_more r a.0 a.1 m a.3 (omega arith) b.0 a.2 b.1) (marked_more a.1 m a.3) (simp length-append)
      | inr none ↦ record {
        order = order;
        from = from;
        marked = marked;
        reached = r;
        marks = m;
        closed = λ i j h f k e. unless_no (get_or marked j false) (seated i j) (none i j h k) e;
      }
    ]

closure : {fits : ℕ → ℕ → Bool} {root : ℕ} {w : List ℕ} (fuel : ℕ) (order from : List ℕ) (marked : List Bool)
    → IsReached fits root 0 w order from → IsMarked w order marked → length w ≤ length order + fuel → Closure fits root w
closure zero order from marked r m room = closure_step r m (λ o f t reached _ longer. absurd (omega (arith, order_short reached)))
closure (suc fuel) order from marked r m room = closure_step r m (λ o f t reached marks longer. closure fuel o f t reached marks (omega arith))

-- the way from a free person back to the root
walk : {fits : ℕ → ℕ → Bool} {people root index person : ℕ} {old w order from : List ℕ} (fuel : ℕ)
    → IsReached fits root 0 old order from → IsAlternatingPath fits people root index person w order from → length w ≡ length old → index ≤ fuel
    → (v : List ℕ) × IsSeating fits (length old) people v
walk {root = root} {person = person} {w = w} zero r y long room =
    (set w root person, (placed y {fixed = 0} (omega arith) r.starts (omega arith) long (λ k l. absurd (omega arith))).seating)
walk {root = root} {index = index} {person = person} {w = w} {order = order} {from = from} (suc fuel) r y long room = elim (same_or_not index 0) [
  | inl e ↦ (set w root person, (placed y {fixed = 0} e r.starts (omega arith) long (λ k l. absurd (omega arith))).seating)
  | inr ne ↦ walk fuel r (way_back y r long (omega arith) refl refl refl)
      (length-set w (get_or order index 0) person ∙ long) (omega (arith, y.before index (omega arith) (omega arith)))
]

-- the marked seats below n, rising
list_of : (marked : List Bool) (n : ℕ) → (s : List ℕ) × IsListed marked n s
list_of marked zero = ([], search rules)
list_of marked (suc n) = let r = list_of marked n in rw (← add-one) (elim (true_or_false (get_or marked n false)) [
  | inl passes ↦ (r.0 ++ n ∷ [], listed_more r.1 passes)
  | inr not_so ↦ (r.0, listed_same r.1 not_so)
])

module _ (fits : ℕ → ℕ → Bool) (seats people n : ℕ) (w : List ℕ) (y : IsSeating fits n people w) (room : n < seats) where
  -- whether the person has a seat
  abbrev sits : ℕ → Bool
  sits p = can_take (λ k q. k == q) w p

  -- a place for one more
  abbrev longer : List ℕ
  longer = w ++ 0 ∷ []

  long : length longer ≡ n + 1
  long = simp length-append (omega (arith, y.each_seat))

  same : (k : ℕ) → k < n → get_or longer k 0 ≡ get_or w k 0
  same k h = get_or-append w (0 ∷ []) 0 k (omega (arith, y.each_seat))

  below : (k : ℕ) → k < length longer → k ≢ n → k < n
  below k h ne = omega (arith, long)

  seated : IsSeatedBut fits people n longer
  seated = record {
    in_range = λ k h ne. rw (same k (below k h ne)) (y.in_range k (below k h ne));
    fitting = λ k h ne. rw (same k (below k h ne)) (y.fitting k (below k h ne));
    distinct = λ j k h l nj nk e. y.distinct j k (below j h nj) (below k l nk) (sym (same j (below j h nj)) ∙ e ∙ same k (below k l nk));
  }

  all_reached : Closure fits n longer
  all_reached =
      let inside : n < length longer = omega (arith, long) in
      let alone : IsRootAlone (length longer) n (n ∷ []) (0 ∷ []) (set (replicate (length longer) false) n true) =
      record { order_is = refl; from_is = refl; marked_is = refl } in
      closure (length longer) (n ∷ []) (0 ∷ []) (set (replicate (length longer) false) n true)
      (root_reached alone inside fits 0 (omega arith)) (root_marked alone inside) (omega arith)

  -- who has no seat, and fits a seat that was reached, lets the others move
  way : (i p : ℕ) → i < length all_reached.order → p < people → sits p ≡ false → fits (get_or all_reached.order i 0) p ≡ true
      → IsAlternatingPath fits people n i p longer all_reached.order all_reached.from
  way i p h known free fit = record {
    seated = seated;
    known = known;
    free = λ k l ne e. (
        let taken = can_take_some (λ k q. k == q) w p k (omega (arith, below k l ne, y.each_seat))
        (eq-eqb (get_or w k 0) p (sym (same k (below k l ne)) ∙ e)) in absurd (cc (taken, free)));
    inside = h;
    fitting = fit;
    before = λ j a b. all_reached.reached.before j a (omega arith);
    edge = λ j a b. all_reached.reached.edge j a (omega arith);
  }

  -- if everybody who fits a seat that was reached has a seat, too few people fit these
  stuck : ((i p : ℕ) → i < length all_reached.order → p < people → cond (sits p) false (fits (get_or all_reached.order i 0) p) ≡ false)
      → IsStuck fits people n 0 longer all_reached.order all_reached.marked
  stuck none = record {
    taken = λ i p h known fit. (
        let a = can_take_at (λ k q. k == q) w p (unless_no (sits p) (fits (get_or all_reached.order i 0) p) (none i p h known) fit) in
        let low : a.0 < n = omega (arith, y.each_seat, a.1) in
        let high : a.0 < length longer = omega (arith, long) in
        let is : get_or longer a.0 0 ≡ p = same a.0 low ∙ eqb-true (get_or w a.0 0) p a.2 in
        (a.0, high, (λ e. absurd (omega arith), is, λ f. all_reached.closed i a.0 h (omega arith) high (rw is fit))));
  }

  -- one seat more is seated with the others, or some seats are short of people
  pub one_more : ((v : List ℕ) × IsSeating fits (n + 1) people v) ⊎ ((s : List ℕ) × IsShort fits seats people s)
  one_more = elim (some_pair (λ i p. cond (sits p) false (fits (get_or all_reached.order i 0) p)) (length all_reached.order) people) [
    | inl a ↦
        let b = unless_yes (sits a.1) (fits (get_or all_reached.order a.0 0) a.1) a.4 in
        let v = walk a.0 all_reached.reached (way a.0 a.1 a.2 a.3 b.0 b.1) refl (omega arith) in
        inl (v.0, subst (λ m. IsSeating fits m people v.0) long v.1)
    | inr none ↦
        let l = list_of all_reached.marked (length all_reached.marked) in
        inr (l.0, short seated all_reached.reached all_reached.marks (stuck none) l.1 (omega (arith, long)))
  ]

up_to : (fits : ℕ → ℕ → Bool) (seats people n : ℕ) → n ≤ seats
    → ((w : List ℕ) × IsSeating fits n people w) ⊎ ((s : List ℕ) × IsShort fits seats people s)
up_to fits seats people zero h = inl ([], search rules)
up_to fits seats people (suc n) h = elim (up_to fits seats people n (omega arith)) [
  | inl a ↦ rw (← add-one) (one_more fits seats people n a.0 a.1 (omega arith))
  | inr s ↦ inr s
]

-- every relation has a seating or a short list of seats
pub seating_or_short : SeatingOrShort
seating_or_short fits seats people = up_to fits seats people seats (omega arith)
