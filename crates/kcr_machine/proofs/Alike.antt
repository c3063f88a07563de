-- Two decisions of one command come to the same.
use Rattle.kcr_machine.proofs.Common.{◌≡◌, suc, List, [], ◌∷◌, length, Option, Some, None, Result, Ok, Err, MatchOption, refl, sym, ap, arith, rules}
use Rattle.kcr_machine.proofs.Common.{Refusal, ReplyData, Command, Entry, Change, Verdict, History, all_changed, tables, SameTables, Accepts, machine}
use Rattle.kcr_machine.proofs.{Common.IsAcceptance, Common.IsRepeat, Common.IsDecision, Leads.same-tables}
use Rattle.kcr_laws.proofs.Fixed.{accepted_fixed, never_both, refused_fixed}
use Rattle.kcr_machine.specs.Whole.{AcceptAlike, DecideAlike}

-- a history with one more entry is another
grown : (A : History) (entry : Entry) → entry ∷ A ≡ A → ⊥
grown A entry e = let l : suc (length A) ≡ length A = ap length e in omega (arith, l)

module _ (A : History) (x : Command) where
  -- what an acceptance is, by its answer
  abbrev Accepted : Verdict → Option ReplyData → Type 0
  Accepted v o = MatchOption o ((kept : Entry) × IsRepeat A x v kept) (IsAcceptance A x v)

  -- no change leaves the tables
  kept-tables : (changes : List Change) → changes ≡ [] → SameTables (all_changed changes (tables A)) (tables A)
  kept-tables changes none = same-tables _ _ (ap (λ all. all_changed all (tables A)) none)

  accepted-alike : (v w : Verdict) (o p : Option ReplyData) → v.new_reply ≡ o → w.new_reply ≡ p → Accepted v o → Accepted w p → AcceptAlike A v w
  accepted-alike v w None None e f g h = search (rules, accepted_fixed, kept-tables)
  accepted-alike v w None (Some b) e f g h = absurd (grown A _ (sym (accepted_fixed A x _ _ A _ g.1.step h.step).1))
  accepted-alike v w (Some a) None e f g h = absurd (grown A _ (accepted_fixed A x _ _ _ A g.step h.1.step).1)
  accepted-alike v w (Some a) (Some b) e f g h =
      let same : a ≡ b = (accepted_fixed A x a b _ _ g.step h.step).0 in
      let own : IsAcceptance A x w a = rw same h in
      search rules

  -- some step of the machine accepts
  step-of : (v : Verdict) (o : Option ReplyData) → Accepted v o → (a : ReplyData) × (B : History) × machine A x (Accepts a) B
  step-of v o g = grind arith

-- two decisions of one command by one history agree, unless memory ran out in one of them
pub decisions-alike : (A : History) (x : Command) (r s : Result Verdict Refusal) → IsDecision A x r → IsDecision A x s → DecideAlike A r s
decisions-alike A x (Ok v) (Ok w) g h = accepted-alike A x v w v.new_reply w.new_reply refl refl g h
decisions-alike A x (Ok v) (Err q) g h = λ ne. let s = step-of A x v v.new_reply g in never_both A x s.0 q s.1 A s.2 (h ne)
decisions-alike A x (Err q) (Ok w) g h = λ ne. let s = step-of A x w w.new_reply h in never_both A x s.0 q s.1 A s.2 (g ne)
decisions-alike A x (Err r) (Err q) g h = λ ne me. refused_fixed A x r q A A (g ne) (h me)
