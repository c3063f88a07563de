-- What is answered is fixed, apart from which of several least shortages is named.
use Rattle.kcr_laws.proofs.Common.{◌≡◌, ◌≢◌, ℕ, suc, true, List, [], ◌∷◌, map, Option, Some, None, MatchOption, ◌⊎◌, inl, inr, sym, ap, ◌∙◌, arith}
use Rattle.kcr_laws.proofs.Common.{false≢true, both_ways, cases_Bool, lists_equiv, nat_list_eq_equiv, Refusal, Short, same-turned, before-turned}
use Rattle.kcr_laws.proofs.Common.{Seat, ReplyData, Command, Entry, History, entry_of, comes_first, IsFirst, fault, Outcome, Accepts, Refuses}
use Rattle.kcr_laws.proofs.Common.{SeatRequest, seat_request, reply_to, IsAcceptedWith, seats, DecidesNew, DecidesRepeat, machine, same_reply}
use Rattle.kcr_laws.proofs.{Trials.same_people, Trials.people-are, Halves.one_half, Accepted.same_refusal, Accepted.other_outcome}

-- of two lists at most one comes first
not_both : (a b : List (List ℕ)) → comes_first a b ≡ true → comes_first b a ≡ true → ⊥
not_both [] b h k = false≢true h
not_both (x ∷ xs) [] h k = false≢true h
not_both (x ∷ xs) (y ∷ ys) h k = grind (arith, same-turned x y, before-turned x y, not_both xs ys)

-- there is one first seating
first_unique : (A : History) (c t : ℕ) (seats : List Seat) (a b : List (List ℕ)) → IsFirst A c t seats a → IsFirst A c t seats b → a ≡ b
first_unique A c t seats a b f g = elim (cases_Bool (same_people a b)) [
  | inl e ↦ people-are a b e
  | inr e ↦
      let apart : a ≢ b = λ k. both_ways _ (ap (λ z. same_people z b) (sym k) ∙ e) ((lists_equiv nat_list_eq_equiv).refl b) in
      absurd (not_both a b (f.first b g.seating (λ k. apart (sym k))) (g.first a f.seating apart))
]

-- two outcomes, and the histories after them, are the same, or both tell of want of people
abbrev AreAlike : Outcome → Outcome → History → History → Type 0
AreAlike o p B C = ((o ≡ p) × (B ≡ C)) ⊎ ((r : List ℕ) × (q : List ℕ) × (o ≡ Refuses (Short r)) × (p ≡ Refuses (Short q)))

-- so are any two steps of the machine
alike : (A : History) (x : Command) (o p : Outcome) (B C : History) → machine A x o B → machine A x p C → AreAlike o p B C
alike A x o p B C h k = by_entry (entry_of A x.key) (fault A x.act) h k
  where
    by_sitting : (s : Option SeatRequest) → MatchOption s (IsAcceptedWith A x (reply_to A x.act None) o B) (λ q. seats A x q o B)
        → MatchOption s (IsAcceptedWith A x (reply_to A x.act None) p C) (λ q. seats A x q p C) → AreAlike o p B C
    by_sitting None f g = inl (f.0 ∙ sym g.0, f.1 ∙ sym g.1)
    by_sitting (Some s) (inl v) (inl w) =
        let same : v.0 ≡ w.0 = first_unique A s.ceremony s.at s.seats v.0 w.0 v.1 w.1 in
        inl (cc (same, v.2.0, w.2.0), cc (same, v.2.1, w.2.1))
    by_sitting (Some s) (inl v) (inr w) = absurd (one_half A s.ceremony s.at s.seats v.0 w.0 v.1.seating w.1.short)
    by_sitting (Some s) (inr v) (inl w) = absurd (one_half A s.ceremony s.at s.seats w.0 v.0 w.1.seating v.1.short)
    by_sitting (Some s) (inr v) (inr w) = inr (map suc v.0, map suc w.0, v.2.0, w.2.0)

    by_entry : (e : Option Entry) (r : Option Refusal) → MatchOption e (DecidesNew A x r o B) (λ kept. DecidesRepeat A x kept o B)
        → MatchOption e (DecidesNew A x r p C) (λ kept. DecidesRepeat A x kept p C) → AreAlike o p B C
    by_entry (Some kept) r f g = inl (f.0 ∙ sym g.0, f.1 ∙ sym g.1)
    by_entry None (Some refusal) f g = inl (f.0 ∙ sym g.0, f.1 ∙ sym g.1)
    by_entry None None f g = by_sitting (seat_request A x.act) f g

-- a command that is accepted is accepted with one answer, and leads to one history
pub accepted_fixed : (A : History) (x : Command) (a b : ReplyData) (B C : History) → machine A x (Accepts a) B → machine A x (Accepts b) C → (a ≡ b) × (B ≡ C)
accepted_fixed A x a b B C h k = elim (alike A x (Accepts a) (Accepts b) B C h k) [
  | inl w ↦ (same_reply a b w.0, w.1)
  | inr w ↦ absurd (other_outcome _ _ w.2)
]

-- no command is accepted here and refused there
pub never_both : (A : History) (x : Command) (a : ReplyData) (r : Refusal) (B C : History) → machine A x (Accepts a) B → machine A x (Refuses r) C → ⊥
never_both A x a r B C h k = elim (alike A x (Accepts a) (Refuses r) B C h k) [ inl w ↦ other_outcome a r w.0 | inr w ↦ other_outcome _ _ w.2 ]

-- one refusal, or two shortages
pub refused_fixed : (A : History) (x : Command) (r q : Refusal) (B C : History) → machine A x (Refuses r) B → machine A x (Refuses q) C
    → (r ≡ q) ⊎ ((p : List ℕ) × (o : List ℕ) × (r ≡ Short p) × (q ≡ Short o))
refused_fixed A x r q B C h k = elim (alike A x (Refuses r) (Refuses q) B C h k) [
  | inl w ↦ inl (same_refusal r q w.0)
  | inr w ↦ inr (w.0, w.1, same_refusal _ _ w.2, same_refusal _ _ w.3)
]
