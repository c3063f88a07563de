-- Seatings confirmed by trying every list, and commands played one after the other.
use Rattle.std.proofs.Common.{◌≡◌, ◌≢◌, ℕ, suc, Bool, true, false, cond, not, ◌&&◌, ◌||◌, List, [], ◌∷◌, map, length, Option}
use Rattle.std.proofs.Common.{Some, None, MatchOption, is_none, inl, inr, refl, sym, ap, subst, arith}
use Rattle.std.specs.Prelude.{if◌then◌else◌, IsTrue, option_and_then}
use Rattle.std.proofs.lemmas.Bool.{and_parts}
use Rattle.kcr_base.specs.{Same.same_text, declared.refusal.Refusal.Refusal, declared.refusal.Refusal.TheVariants.Short}
use Rattle.kcr_base.proofs.SameLemmas.{same-is}
use Rattle.kcr_script.specs.declared.seat.Seat.{Seat}
use Rattle.kcr_history.specs.{declared.commands.Act.Act, declared.commands.Entry.Entry, Seating.is_seating, Seating.comes_first, Seating.IsFirst}
use Rattle.kcr_history.specs.{History.History, History.entry_of, Room.present, Conditions.fault}
use Rattle.kcr_history.specs.Machine.{Outcome, Accepts, Refuses, SeatRequest, seat_request, reply_to, seats, DecidesNew, DecidesRepeat, machine}
use Rattle.kcr_laws.specs.Runs.{outcome_text, new_command, AreSteps, AreAnswered}
use Rattle.kcr_laws.proofs.Trials.{every, every_holds, is_least_by_trial, least_by_trial, people-are, same_people, seated_inside}
use Rattle.kcr_worked.specs.Examples.{with_act}

-- FIRST SEATINGS

-- the people are no seating, or these, or come later
abbrev pub is_no_better : History → ℕ → ℕ → List Seat → List (List ℕ) → List (List ℕ) → Bool
is_no_better A c t seats people others = not (is_seating A c t seats others) || (same_people others people || comes_first people others)

-- a seating, and no list of people present is a better one
abbrev pub is_first_by_trial : History → ℕ → ℕ → List Seat → List (List ℕ) → Bool
is_first_by_trial A c t seats people = is_seating A c t seats people && every (is_no_better A c t seats people) (present A c t) (length seats)

-- a seating that trying every list confirms as the first is the first
pub first_by_trial : (A : History) (c t : ℕ) (seats : List Seat) (people : List (List ℕ)) → is_first_by_trial A c t seats people ≡ true
    → IsFirst A c t seats people
first_by_trial A c t seats people h = record { seating = parts.0; first = better }
  where
    parts : (is_seating A c t seats people ≡ true) × (every (is_no_better A c t seats people) (present A c t) (length seats) ≡ true)
    parts = and_parts (is_seating A c t seats people) (every (is_no_better A c t seats people) (present A c t) (length seats)) h

    better : (others : List (List ℕ)) → IsTrue (is_seating A c t seats others) → others ≢ people → IsTrue (comes_first people others)
    better others s d =
        let inside = seated_inside A c t seats others s in
        let passes = every_holds same_text same-is (present A c t) others (length seats) inside.0 inside.1 (is_no_better A c t seats people) parts.1 in
        grind (arith, people-are others people, passes)

-- COMMANDS

-- how seats are filled, or not: by these people, or for want of people for these positions, counted from 0
pub data Filling : Type 0 where
  Seated : List (List ℕ) → Filling
  Lacking : List ℕ → Filling

-- an outcome, the history after it, and the fillings that are left
pub record Played : Type 0 where
  pub outcome : Outcome
  pub history : History
  pub fillings : List Filling

-- seats are filled, or lack people, as the next filling says, if trying every list confirms it
abbrev pub fill : History → Act → SeatRequest → List Filling → Option Played
fill A act s [] = None
fill A act s (Seated people ∷ fillings) =
    if is_first_by_trial A s.ceremony s.at s.seats people
    then Some (record { outcome = Accepts (reply_to A act (Some people)); history = with_act A act (Some people); fillings = fillings })
    else None
fill A act s (Lacking positions ∷ fillings) =
    if is_least_by_trial A s.ceremony s.at s.seats positions
    then Some (record { outcome = Refuses (Short (map suc positions)); history = A; fillings = fillings })
    else None

-- an act that needs no seats is accepted, and the seats of another are filled
abbrev pub seat_if : History → Act → Option SeatRequest → List Filling → Option Played
seat_if A act None fillings = Some (record { outcome = Accepts (reply_to A act None); history = with_act A act None; fillings = fillings })
seat_if A act (Some s) fillings = fill A act s fillings

-- an act with a refusal is refused and changes nothing, and another takes its seats
abbrev pub act_if : History → Act → Option Refusal → Option SeatRequest → List Filling → Option Played
act_if A act (Some refusal) s fillings = Some (record { outcome = Refuses refusal; history = A; fillings = fillings })
act_if A act None s fillings = seat_if A act s fillings

-- one new command
abbrev pub play : History → Act → List Filling → Option Played
play A act fillings = if is_none (entry_of A (new_command A act).key) then act_if A act (fault A act) (seat_request A act) fillings else None

some-is : {X : Type 0} (a b : X) → Some a ≡ Some b → a ≡ b
some-is a b e = cc

no-some : {X : Type 0} {Y : Type 0} (x : X) → None ≡ Some x → Y
no-some x e = absurd (let f : None ≡ Some x = e in cc)

-- a result that depends on a test, or on another result
if-some : {X : Type 0} (b : Bool) (o : Option X) (x : X) → cond b o None ≡ Some x → (b ≡ true) × (o ≡ Some x)
if-some true o x e = (refl, e)
if-some false o x e = no-some x e

then-some : {X Y : Type 0} (f : X → Option Y) (o : Option X) (y : Y) → option_and_then f o ≡ Some y → (x : X) × (o ≡ Some x) × (f x ≡ Some y)
then-some f None y e = no-some y e
then-some f (Some x) y e = (x, refl, e)

-- it is a step of the machine
abbrev IsStep : History → Act → Played → Type 0
IsStep A act p = machine A (new_command A act) p.outcome p.history

fill_seats : (A : History) (act : Act) (s : SeatRequest) (fillings : List Filling) (p : Played) → fill A act s fillings ≡ Some p
    → seats A (new_command A act) s p.outcome p.history
fill_seats A act s [] p e = no-some p e
fill_seats A act s (Seated people ∷ fillings) p e =
    let t = if-some (is_first_by_trial A s.ceremony s.at s.seats people) _ p e in
    subst (λ (q : Played). seats A (new_command A act) s q.outcome q.history) (some-is _ p t.1)
    (inl (people, first_by_trial A s.ceremony s.at s.seats people t.0, (refl, refl)))
fill_seats A act s (Lacking positions ∷ fillings) p e =
    let t = if-some (is_least_by_trial A s.ceremony s.at s.seats positions) _ p e in
    subst (λ (q : Played). seats A (new_command A act) s q.outcome q.history) (some-is _ p t.1)
    (inr (positions, least_by_trial A s.ceremony s.at s.seats positions t.0, (refl, refl)))

seats_if : (A : History) (act : Act) (s : Option SeatRequest) (fillings : List Filling) (p : Played) → seat_if A act s fillings ≡ Some p
    → MatchOption s ((p.outcome ≡ Accepts (reply_to A act None)) × (p.history ≡ with_act A act None)) (λ q. seats A (new_command A act) q p.outcome p.history)
seats_if A act None fillings p e = (sym (ap (λ (q : Played). q.outcome) (some-is _ p e)), sym (ap (λ (q : Played). q.history) (some-is _ p e)))
seats_if A act (Some s) fillings p e = fill_seats A act s fillings p e

acts_if : (A : History) (act : Act) (f : Option Refusal) (fillings : List Filling) (p : Played) → act_if A act f (seat_request A act) fillings ≡ Some p
    → DecidesNew A (new_command A act) f p.outcome p.history
acts_if A act (Some refusal) fillings p e = (sym (ap (λ (q : Played). q.outcome) (some-is _ p e)), sym (ap (λ (q : Played). q.history) (some-is _ p e)))
acts_if A act None fillings p e = seats_if A act (seat_request A act) fillings p e

play_is_step : (A : History) (act : Act) (fillings : List Filling) (p : Played) → play A act fillings ≡ Some p → IsStep A act p
play_is_step A act fillings p e = by_key (entry_of A (new_command A act).key) e
  where
    by_key : (k : Option Entry) → cond (is_none k) (act_if A act (fault A act) (seat_request A act) fillings) None ≡ Some p
        → MatchOption k (DecidesNew A (new_command A act) (fault A act) p.outcome p.history) (λ kept. DecidesRepeat A (new_command A act) kept p.outcome p.history)
    by_key None g = acts_if A act (fault A act) fillings p g
    by_key (Some kept) g = no-some p g

-- commands one after the other, each answered its text
abbrev pub plays : History → List (Act × List ℕ) → List Filling → Option History
plays A [] fillings = Some A
plays A (said ∷ rest) fillings =
    option_and_then (λ (p : Played). if same_text (outcome_text p.outcome) said.1 then plays p.history rest p.fillings else None) (play A said.0 fillings)

are_steps : (A : History) (exchanges : List (Act × List ℕ)) (fillings : List Filling) (A' : History) → plays A exchanges fillings ≡ Some A'
    → AreSteps A exchanges A'
are_steps A [] fillings A' e = sym (some-is A A' e)
are_steps A (said ∷ rest) fillings A' e =
    let further = λ (p : Played). if same_text (outcome_text p.outcome) said.1 then plays p.history rest p.fillings else None in
    let p = then-some further (play A said.0 fillings) A' e in
    let t = if-some (same_text (outcome_text p.0.outcome) said.1) (plays p.0.history rest p.0.fillings) A' p.2 in
    let told = same-is (outcome_text p.0.outcome) said.1 t.0 in
    (p.0.outcome, p.0.history, play_is_step A said.0 fillings p.0 p.1, told, are_steps p.0.history rest p.0.fillings A' t.1)

-- commands that were played to a history are answered so by the machine
pub answered : (A : History) (exchanges : List (Act × List ℕ)) (fillings : List Filling) (A' : History) → plays A exchanges fillings ≡ Some A'
    → AreAnswered A exchanges A'
answered A exchanges fillings A' e = record { steps = are_steps A exchanges fillings A' e }
