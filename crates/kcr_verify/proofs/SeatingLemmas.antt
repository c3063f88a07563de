-- What a register that has a history answers to the command that came next: the same reply, or another seating in it.
use Rattle.kcr_verify.proofs.Common.{◌≡◌, ◌≢◌, ◌⊎◌, inl, inr, ℕ, ◌+◌, true, List, length, Option, Some, None}
use Rattle.kcr_verify.proofs.Common.{MatchOption, refl, sym, ap, ◌∙◌, false≢true, cases_Bool}
use Rattle.kcr_verify.proofs.Common.{lists_equiv, nat_list_eq_equiv, Refusal, Act, reply_text, other_outcome, same_reply, AreValues}
use Rattle.kcr_verify.proofs.Common.{Ceremony, Sign, RecordException, ReplyData, Command, fault, History, entry_of, IsSeatedFirst}
use Rattle.kcr_verify.proofs.Common.{Accepts, Refuses, SeatRequest, seat_request, reply_to, with_command, IsAcceptedWith, seats, machine, IsReplyTo}
use Rattle.kcr_base.specs.Initials.{IsInitials}
use Rattle.kcr_history.specs.Seating.{is_seating, IsFirst}
use Rattle.kcr_journal.specs.Replies.{seated_in}
use Rattle.kcr_journal.proofs.{ReplyLemmas.signed-people, ReplyLemmas.passing-people, SeatedLemmas.seated-initials}
use Rattle.std.specs.List.{AllByRecursion}
use Rattle.kcr_laws.proofs.{Fixed.accepted_fixed, Halves.one_half, Trials.same_people, Trials.people-are}

-- an answer with these people
abbrev pub seated : ℕ → Option ℕ → Option ℕ → List (List ℕ) → ReplyData
seated n exception step people = record { accepted = n; exception = exception; seating = Some people; step = step }

-- THE NEXT COMMAND OF A REGISTER

-- of a step that accepts a command with an answer: it is this answer, and the history is with it; or its text is another, and
-- this answer's seating is not the first one
abbrev pub IsThisOrOther : History → Command → ReplyData → ReplyData → History → Type 0
IsThisOrOther A x this answer A' =
    ((answer ≡ this) × (A' ≡ with_command A x this))
    ⊎ ((reply_text answer ≢ reply_text this) × (IsSeatedFirst A (seat_request A x.act) this.seating → ⊥))

-- of an act that asks for seats and that nothing refuses: its replies differ in the seating alone
module _ (A : History) (v : AreValues A) (x : Command) (s : SeatRequest) (exception step : Option ℕ) (asks : seat_request A x.act ≡ Some s)
    (replies : (people : List (List ℕ)) → reply_to A x.act (Some people) ≡ seated (length A + 1) exception step people)
    (free : (entry_of A x.key ≡ None) × (fault A x.act ≡ None))
    (reads : (people : List (List ℕ)) → AllByRecursion IsInitials people
    → seated_in (reply_text (seated (length A + 1) exception step people)) ≡ people) where
  abbrev with : List (List ℕ) → ReplyData
  with people = seated (length A + 1) exception step people

  -- the first seating is recorded
  recorded : (q : List (List ℕ)) → IsFirst A s.ceremony s.at s.seats q → machine A x (Accepts (with q)) (with_command A x (with q))
  recorded q first = rw (free.0, free.1, asks) (inl (q, first, rw (replies q) (refl, refl)))

  -- if these people fill the seats, they are that seating, or the text of the answer is another
  one_seated : (q : List (List ℕ)) (answer : ReplyData) (A' : History) → is_seating A s.ceremony s.at s.seats q ≡ true → machine A x (Accepts answer) A'
      → IsThisOrOther A x (with q) answer A'
  one_seated q answer A' fill m = elim (let h : seats A x s (Accepts answer) A' = rw (free.0, free.1, asks) at m in h) [
    | inr w ↦ absurd (other_outcome _ _ w.2.0)
    | inl w ↦
        let is : answer ≡ with w.0 = same_reply _ _ w.2.0 ∙ replies w.0 in
        elim (cases_Bool (same_people w.0 q)) [
          | inl e ↦ let same : w.0 ≡ q = people-are w.0 q e in inl (rw same at is, rw (← replies q, ← same) w.2.1)
          | inr e ↦
              let apart : w.0 ≢ q = λ k. false≢true (sym e ∙ ap (same_people w.0) (sym k) ∙ (lists_equiv nat_list_eq_equiv).refl w.0) in
              let ps = reads w.0 (seated-initials A v s.ceremony s.at s.seats w.0 w.1.seating) in
              let qs = reads q (seated-initials A v s.ceremony s.at s.seats q fill) in
              let fixed = λ (first : IsFirst A s.ceremony s.at s.seats q). (accepted_fixed A x answer (with q) A' _ m (recorded q first)).0 in
              inr (
                λ t. apart (sym ps ∙ ap seated_in (rw is at t) ∙ qs),
                λ first. apart (let both : Some w.0 ≡ Some q = ap (λ (a : ReplyData). a.seating) (sym is ∙ fixed (rw asks at first)) in cc),
              )
        ]
  ]

module _ (A : History) (key : List ℕ) where
  abbrev of : Act → Command
  of act = record { key = key; act = act }

  -- the key is new, and nothing refuses the act
  abbrev IsFree : Act → Type 0
  IsFree act = (entry_of A key ≡ None) × (fault A act ≡ None)

  -- an act that nothing refuses gets this reply, or, if its seating is not the first one, a reply with another text
  pub accepted_step : AreValues A → (act : Act) (this answer : ReplyData) (A' : History) → IsFree act → IsReplyTo A act this (seat_request A act)
      → machine A (of act) (Accepts answer) A' → IsThisOrOther A (of act) this answer A'
  accepted_step v (Ceremony c at (Sign k)) this answer A' free (q, fill, is) m =
      rw is (one_seated A v (of (Ceremony c at (Sign k))) _ None (Some k) refl (λ _. refl) free
      (λ people each. signed-people people each (length A + 1) k) q answer A' fill m)
  accepted_step v (Ceremony c at (RecordException text true)) this answer A' free (q, fill, is) m =
      rw is (one_seated A v (of (Ceremony c at (RecordException text true))) _ _ _ refl (λ _. refl) free
      (λ people each. passing-people people each (length A + 1) _ _) q answer A' fill m)
  accepted_step v act this answer A' free is m =
      let step : IsAcceptedWith A (of act) (reply_to A act None) (Accepts answer) A' = rw (free.0, free.1) at m in
      inl (same_reply _ _ step.0 ∙ sym is, step.1 ∙ ap (with_command A (of act)) (sym is))

  never_refused : (act : Act) (this : ReplyData) (refusal : Refusal) (A' : History) (o : Option SeatRequest) → IsReplyTo A act this o
      → MatchOption o (IsAcceptedWith A (of act) (reply_to A act None) (Refuses refusal) A') (λ s. seats A (of act) s (Refuses refusal) A') → ⊥
  never_refused act this refusal A' None is step = other_outcome _ _ (sym step.0)
  never_refused act this refusal A' (Some s) is (inl w) = other_outcome _ _ (sym w.2.0)
  never_refused act this refusal A' (Some s) is (inr w) = one_half A s.ceremony s.at s.seats is.0 w.0 is.1 w.1.short

  -- an act that no condition refuses, and whose seats people can fill, is not refused
  pub refused_step : (act : Act) (this : ReplyData) (refusal : Refusal) (A' : History) → IsFree act → IsReplyTo A act this (seat_request A act)
      → machine A (of act) (Refuses refusal) A' → ⊥
  refused_step act this refusal A' free is m = never_refused act this refusal A' (seat_request A act) is (rw (free.0, free.1) at m)
