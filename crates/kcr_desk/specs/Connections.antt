-- How a connection ends, and what connections make of a register.
use Rattle.std.specs.Prelude.{◌≡◌, ℕ, List, [], ◌∷◌, length, Result, MatchResult}
use Rattle.sqlite.specs.{Held.state, Store.Ghosts, State.HasCleanDisk}
use Rattle.kcr_store.specs.{Register.RegisterState, Calls.Leads as Moves}
use Rattle.kcr_desk.specs.{Answers.IsAnswer, Answers.IsReply, Texts.ResponseValue, declared.fault.DeskFault.DeskFault, declared.stream.Served.Served}
use Rattle.kcr_desk.specs.Run.{Request, Exchange, Run, IsServed, IsServedInPart}
use Rattle.kcr_desk.specs.Streams.{Streams, input_of, bytes_before, bytes_after}

-- a stream was answered whole, or a prefix of it before a fault
abbrev pub Ends
    : {S R W : Type 0} → (S → Request → ResponseValue → S → Type 0) → Streams R W → S → S → Result Served DeskFault
    → Type 0
Ends step s before after result =
    MatchResult result
    (λ served. IsServed step (input_of s) (bytes_before s.output) (bytes_after s.output) before after served.requests)
    (λ _. IsServedInPart step (input_of s) (bytes_before s.output) (bytes_after s.output) before after)

-- runs over the messages of connections, a list for each connection, one run after the other
abbrev pub Runs : {S : Type 0} → (S → Request → ResponseValue → S → Type 0) → S → List (List Exchange) → S → Type 0
Runs step before [] after = before ≡ after
Runs {S} step before (xs ∷ connections) after = (next : S) × Run step before xs next × Runs step next connections after

-- the messages of this number of connections lead from before to after
abbrev pub Leads : {S : Type 0} → (S → Request → ResponseValue → S → Type 0) → S → S → ℕ → Type 0
Leads step before after count =
    (connections : List (List Exchange)) × (length connections ≡ count) × Runs step before connections after

-- this number of connections was served, one after the other, and nothing else changed the register. A socket does not
-- tell its bytes to proofs, so the messages are those that were answered
pub record Connects {S : Type 0} (g : Ghosts S) (before after : RegisterState S) (count : ℕ) : Type 0 where
  pub answers : Moves g before after (λ s end. Leads IsAnswer s end count)
  pub replies : Leads IsReply before.is_broken after.is_broken count
  pub clean : HasCleanDisk (state g after.conn) → HasCleanDisk (state g before.conn)
