-- Relations that agree on the seats and people there are have the same answers.
use Rattle.std.proofs.Common.{◌≡◌, ℕ, ◌<◌, ◌≤◌, Bool, List, get_or, arith, sym, ◌∙◌}
use Rattle.kcr_seats.specs.declared.{Answer.Answer, Answer.TheVariants.Seated, Answer.TheVariants.Short, matrix.FitsMatrix.FitsMatrix}
use Rattle.kcr_seats.specs.Answer.{IsAnswer}
use Rattle.kcr_seats.specs.Seating.{IsSeating, IsShort, can_take, count_below}
use Rattle.kcr_seats.specs.Matrix.{IsMatrixOf, fits_of, people_of, seats_of}
use Rattle.kcr_seats.proofs.{Counting.count_mono, SearchLemmas.can_take_at, SearchLemmas.can_take_some}

-- the relations say the same of each of these seats and people
record Agree (fits other : ℕ → ℕ → Bool) (seats people : ℕ) : Type 0 where
  pub same : (seat person : ℕ) → seat < seats → person < people → fits seat person ≡ other seat person

module _ {fits other : ℕ → ℕ → Bool} {seats people : ℕ} (agree : Agree fits other seats people) where
  back : Agree other fits seats people
  back = record { same = λ seat person l m. sym (agree.same seat person l m) }

  seating_same : {w : List ℕ} → IsSeating fits seats people w → IsSeating other seats people w
  seating_same {w} y = record {
    each_seat = y.each_seat;
    in_range = y.in_range;
    fitting = λ k h. sym (agree.same k (get_or w k 0) h (y.in_range k h)) ∙ y.fitting k h;
    distinct = y.distinct;
  }

  -- who fits one of the seats by the one fits it by the other
  short_same : {s : List ℕ} → IsShort fits seats people s → IsShort other seats people s
  short_same {s} y =
      let few : count_below (can_take other s) people ≤ count_below (can_take fits s) people =
      count_mono (can_take other s) (can_take fits s) people (λ p h e. let a = can_take_at other s p e in
      can_take_some fits s p a.0 a.1 (agree.same (get_or s a.0 0) p (y.in_range a.0 a.1) h ∙ a.2)) in
      record { rising = y.rising; in_range = y.in_range; few = omega (arith, y.few) }

answer_same : {fits other : ℕ → ℕ → Bool} {seats people : ℕ} → Agree fits other seats people → (a : Answer)
    → IsAnswer fits seats people a → IsAnswer other seats people a
answer_same agree (Seated w) y =
    record { seating = seating_same agree y.seating; first = λ v k z. y.first v k (seating_same (back agree) z) }
answer_same agree (Short s) y = record { short = short_same agree y.short; least = λ t z. y.least t (short_same (back agree) z) }

-- an answer by the table is one by the relation that the table was taken from
pub answer_taken : {fits : ℕ → ℕ → Bool} {seats people : ℕ} (table : FitsMatrix) → IsMatrixOf fits seats people table → (a : Answer)
    → IsAnswer (fits_of table) (seats_of table) (people_of table) a → IsAnswer fits seats people a
answer_taken table t a y = answer_same (record { same = t.same }) a (rw (t.seats_are, t.people_are) at y)
