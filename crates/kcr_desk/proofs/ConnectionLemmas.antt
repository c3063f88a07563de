-- Connections one after the other.
use Rattle.kcr_desk.proofs.Common.{ℕ, ◌+◌, List, [], ◌∷◌, ◌++◌, refl, sym, subst, arith, length-append, Result, Ghosts, RegisterState}
use Rattle.kcr_desk.proofs.Common.{RegisterHistory, AreOfMachine, AreRegisters, IsAnswer, IsReply, Connects, Ends, Runs, Request, Exchange, Run}
use Rattle.kcr_desk.proofs.Common.{Streams, ResponseValue, DeskFault, Served}
use Rattle.kcr_desk.specs.Connections.{Leads}
use Rattle.kcr_desk.proofs.{RegisterLemmas.run_keeps, RegisterLemmas.run_leads, StandingLemmas.ran}

module _ {S : Type 0} (step : S → Request → ResponseValue → S → Type 0) where
  runs_both : (a b c : S) (xs ys : List (List Exchange)) → Runs step a xs b → Runs step b ys c → Runs step a (xs ++ ys) c
  runs_both a b c [] ys first later = subst (λ (s : S). Runs step s ys c) (sym first) later
  runs_both a b c (x ∷ xs) ys first later = (first.0, first.1, runs_both first.0 b c xs ys first.2 later)

  -- some connections and then others lead on as all of them together
  pub leads_both : (a b c : S) (m n : ℕ) → Leads step a b m → Leads step b c n → Leads step a c (m + n)
  leads_both a b c m n first later =
      let both = length-append first.0 later.0 in let p = first.1 in let q = later.1 in
      (first.0 ++ later.0, omega (arith, both), runs_both a b c first.0 later.0 first.2 later.2)

  -- of a connection that was not read
  pub leads_unread : (s : S) → Leads step s s 1
  leads_unread s = ([] ∷ [], refl, (s, refl, refl))

  -- a stream that was answered, whole or in part, leads on as one connection
  pub leads_one : {R W : Type 0} (s : Streams R W) (a b : S) (result : Result Served DeskFault) → Ends step s a b result → Leads step a b 1
  leads_one s a b result ends = let of = ran step s a b result ends in (of.0 ∷ [], refl, (b, of.1, refl))

module _ {S : Type 0} (g : Ghosts S) where
  -- no connection was served
  pub connects_none : (a : RegisterState S) → Connects g a a 0
  connects_none a = record { answers = λ clean s at. (s, at, ([], refl, refl)); replies = ([], refl, refl); clean = λ clean. clean }

  -- one was served that was not read
  pub connects_unread : (a : RegisterState S) → Connects g a a 1
  connects_unread a =
      record { answers = λ clean s at. (s, at, leads_unread IsAnswer s); replies = leads_unread IsReply a.is_broken; clean = λ clean. clean }

  -- some were served, and then others
  pub connects_both : (a b c : RegisterState S) (m n : ℕ) → Connects g a b m → Connects g b c n → Connects g a c (m + n)
  connects_both a b c m n first later = record {
    answers = λ clean s at.
        let one = first.answers (later.clean clean) s at in
        let two = later.answers clean one.0 one.1 in
        (two.0, two.1, leads_both IsAnswer s one.0 two.0 m n one.2 two.2);
    replies = leads_both IsReply a.is_broken b.is_broken c.is_broken m n first.replies later.replies;
    clean = λ clean. first.clean (later.clean clean);
  }

-- what each run keeps, connections keep
module _ (P : RegisterHistory → Type 0) (keeps : (before : RegisterHistory) (xs : List Exchange) (after : RegisterHistory) → P before → Run IsAnswer before xs after → P after) where
  runs_keep : (before : RegisterHistory) (connections : List (List Exchange)) (after : RegisterHistory) → P before → Runs IsAnswer before connections after → P after
  runs_keep before [] after are runs = subst P runs are
  runs_keep before (xs ∷ connections) after are runs = runs_keep runs.0 connections after (keeps before xs runs.0 are runs.1) runs.2

-- connections lead from registers to registers
pub leads_keep : (before after : RegisterHistory) (count : ℕ) → AreRegisters before → Leads IsAnswer before after count → AreRegisters after
leads_keep before after count are leads = runs_keep AreRegisters run_keeps before leads.0 after are leads.2

-- connections lead from histories that the machine leads to, to such ones
pub leads_follow : (before after : RegisterHistory) (count : ℕ) → AreOfMachine before → Leads IsAnswer before after count → AreOfMachine after
leads_follow before after count are leads = runs_keep AreOfMachine run_leads before leads.0 after are leads.2
