-- Which seatings a try rules out.
use Rattle.std.proofs.Common.{◌≡◌, ℕ, ◌+◌, ◌<◌, ◌≤◌, inl, inr, Bool, ◌==◌, List, [], ◌∷◌, length, get_or, set, arith, ◌∙◌, ap, eq-eqb}
use Rattle.std.specs.Prelude.{SomeIndex}
use Rattle.std.proofs.lemmas.{Bool.eqb-true, List.length-set}
use Rattle.kcr_seats.specs.{Seating.can_take, Seating.count_below, Seating.IsSeating, Placement.IsHallViolator}
use Rattle.kcr_seats.specs.Search.{IsReached, IsMarked, IsStuck, IsNotReassigned, IsLowered}
use Rattle.kcr_seats.proofs.{Between.IsFirstBelow, Moves.set_at, Least.below_or_not, SearchLemmas.can_take_some, SearchLemmas.can_take_at}
use Rattle.kcr_seats.proofs.Counting.{later, length_under, length_over, same_or_not}

-- f takes the elements of s apart, each to what g makes of one of t: s is not the longer
outnumbered : (s t : List ℕ) (f g : ℕ → ℕ) (n : ℕ)
    → ((i : ℕ) → i < length s → f (get_or s i 0) < n)
    → ((i : ℕ) → i < length s → SomeIndex t (λ j. g (get_or t j 0) ≡ f (get_or s i 0)))
    → ((i j : ℕ) → i < length s → j < length s → f (get_or s i 0) ≡ f (get_or s j 0) → i ≡ j)
    → length s ≤ length t
outnumbered s t f g n low comes apart =
    let test : ℕ → ℕ → Bool = λ (k p : ℕ). g k == p in
    let under : length s ≤ count_below (can_take test t) n = length_under s f (can_take test t) n low
    (λ i h. let a = comes i h in can_take_some test t (f (get_or s i 0)) a.0 a.1 (eq-eqb _ _ a.2)) apart in
    let over : count_below (can_take test t) n ≤ length t = length_over t g (can_take test t) n
    (λ p h e. let a = can_take_at test t p e in (a.0, a.1, eqb-true (g (get_or t a.0 0)) p a.2)) in
    omega arith

-- no seating is like the list before `fixed`, if only people of the seats that were reached fit these
enclosed : {fits : ℕ → ℕ → Bool} {seats people root fixed : ℕ} {w from v : List ℕ} {marked : List Bool} (order : List ℕ)
    → length w ≡ seats → IsSeating fits seats people v → ((k : ℕ) → k < fixed → get_or v k 0 ≡ get_or w k 0)
    → IsReached fits root fixed w order from → IsMarked w order marked → IsStuck fits people root fixed w order marked → ⊥
enclosed [] long y same r m c = absurd (omega (arith, r.some))
enclosed {fits} {seats} {people} {root} {fixed} {w} {from} {v} (o ∷ os) long y same r m c =
    let seat : ℕ → ℕ = λ (i : ℕ). get_or (o ∷ os) i 0 in
    let low : (i : ℕ) → i < length (o ∷ os) → seat i < seats = λ (i : ℕ) (h : i < length (o ∷ os)). rw long at (r.high i h) in
    let comes : (i : ℕ) → i < length (o ∷ os) → SomeIndex os (λ j. get_or w (get_or os j 0) 0 ≡ get_or v (seat i) 0) =
    λ (i : ℕ) (h : i < length (o ∷ os)). (
    let k = c.taken i (get_or v (seat i) 0) h (y.in_range (seat i) (low i h)) (y.fitting (seat i) (low i h)) in
    let after : fixed ≤ k.0 =
    grind (arith, below_or_not k.0 fixed, r.low i h, same k.0, k.2.1, y.distinct k.0 (seat i) (rw long at k.1) (low i h)) in
    let j = later (λ k. k) o os k.0 (λ z. k.2.0 (z ∙ r.starts)) (m.only k.0 k.1 (k.2.2 after)) in
    (j.0, j.1, ap (λ n. get_or w n 0) j.2 ∙ k.2.1)) in
    let no_more = outnumbered (o ∷ os) os (λ k. get_or v k 0) (λ k. get_or w k 0) people (λ i h. y.in_range (seat i) (low i h)) comes
    (λ i j h k e. r.distinct i j h k (y.distinct (seat i) (seat j) (low i h) (low j k) e)) in
    absurd (omega (arith, no_more))

-- the later seats are too many
pub refused_stuck : {fits : ℕ → ℕ → Bool} {seats people seat person root : ℕ} {w new : List ℕ} {marked : List Bool}
    → IsSeating fits seats people w → seat < seats → new ≡ w → IsHallViolator fits people root (seat + 1) (set w seat person) marked
    → IsNotReassigned fits seats people seat person w new
refused_stuck {fits} {seats} {people} {seat} {person} {root} {w} y lo back c = record {
  same = back;
  none = λ v z same e. enclosed c.order (length-set w seat person ∙ y.each_seat) z
      (λ k h. grind (arith, set_at w seat person 0 k (rw y.each_seat (omega arith)), same k))
      c.reached c.marks c.stuck;
}

-- one seat more
pub first_more : {fits : ℕ → ℕ → Bool} {seats people seat : ℕ} {old new : List ℕ} → IsFirstBelow fits seats people seat old
    → IsLowered fits seats people seat old new → IsFirstBelow fits seats people (seat + 1) new
first_more {fits} {seats} {people} {seat} y z = record {
  seating = z.seating;
  first = λ v k s h same. elim (same_or_not k seat) [
    | inl e ↦ rw e (z.lowest v s (λ j b. same j (omega arith) ∙ z.same j b))
    | inr ne ↦ rw (z.same k (omega arith)) (y.first v k s (omega arith) (λ j b. same j b ∙ z.same j (omega arith)))
  ];
}
