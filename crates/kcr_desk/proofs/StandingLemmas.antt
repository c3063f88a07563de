-- From runs over registers to runs over their histories.
use Rattle.kcr_desk.proofs.Common.{arith, Exchange, Run, request_of, Streams, BreaksStream, ResponseValue}
use Rattle.kcr_desk.proofs.Common.{◌≡◌, ◌+◌, ◌<◌, ◌⊎◌, List, [], ◌∷◌, refl, ap, subst, sym, IsErrOf, Result, IfErr, failures_of}
use Rattle.kcr_desk.proofs.Common.{nonempty_reads_of, state, HasCleanDisk, Ghosts, RegisterState, DeskFault, Served, Answers, IsReply, Ends, Request}
use Rattle.kcr_desk.specs.declared.fault.DeskFault.TheVariants.{Read, Write}

-- the run of a stream that was served whole or in part; by any other run over its messages the stream ended so too
pub ran : {S R W : Type 0} (step : S → Request → ResponseValue → S → Type 0) (s : Streams R W) (before after : S) (result : Result Served DeskFault)
    → Ends step s before after result → (xs : List Exchange) × Run step before xs after
    × ((T : Type 0) (other : T → Request → ResponseValue → T → Type 0) (first last : T) → Run other first xs last → Ends other s first last result)
ran step s before after result ends = grind arith

module _ {S : Type 0} (g : Ghosts S) where
  abbrev is_clean : RegisterState S → Type 0
  is_clean register = HasCleanDisk (state g register.conn)

  -- a disk that is clean after a run was clean before it
  pub run_clean : (before after : RegisterState S) (xs : List Exchange) → Run (Answers g) before xs after → is_clean after → is_clean before
  run_clean before after [] run clean = subst is_clean (sym run) clean
  run_clean before after (x ∷ xs) run clean = run.1.clean (run_clean run.0 after xs run.2 clean)

  -- each response of a run is a reply by whether the register is broken before and after it
  pub run_replies : (before after : RegisterState S) (xs : List Exchange) → Run (Answers g) before xs after → Run IsReply before.is_broken xs after.is_broken
  run_replies before after [] run = ap (λ (r : RegisterState S). r.is_broken) run
  run_replies before after (x ∷ xs) run = (run.0.is_broken, run.1.reply, run_replies run.0 after xs run.2)

-- from wherever a register stands, in either sense, each message leads to where it stands afterwards; so a run does
module _ {S Stand : Type 0} (g : Ghosts S) (Stands : Stand → RegisterState S → Type 0) (step : Stand → Request → ResponseValue → Stand → Type 0) where
  -- as `Leads` and `RowsLead`
  abbrev pub Moves : RegisterState S → RegisterState S → (Stand → Stand → Type 0) → Type 0
  Moves before after Says = HasCleanDisk (state g after.conn) → (s : Stand) → Stands s before → (end : Stand) × Stands end after × Says s end

  module _ (one : (a b : RegisterState S) (asked : Request) (told : ResponseValue) → Answers g a asked told b → Moves a b (λ s end. step s asked told end)) where
    run_moves : (before after : RegisterState S) (xs : List Exchange) → Run (Answers g) before xs after → Moves before after (λ s end. Run step s xs end)
    run_moves before after [] run clean s at = (s, subst (Stands s) run at, refl)
    run_moves before after (x ∷ xs) run clean s at =
        let now = one before run.0 (request_of x.message) x.reply run.1 (run_clean g run.0 after xs run.2 clean) s at in
        let rest = run_moves run.0 after xs run.2 clean now.0 now.1 in
        (rest.0, rest.1, (now.0, now.2, rest.2))

    -- and so does a stream
    pub ends_moved : {R W : Type 0} (s : Streams R W) (before after : RegisterState S) (result : Result Served DeskFault)
        → Ends (Answers g) s before after result → Moves before after (λ stand end. Ends step s stand end result)
    ends_moved s before after result ends clean stand at =
        let of = ran (Answers g) s before after result ends in
        let run = run_moves before after of.0 of.1 clean stand at in (run.0, run.1, of.2 Stand step stand run.0 run.2)

-- what the counts of the reader and of the writer tell of a fault
pub broken_stream : {T R W : Type 0} (s : Streams R W) (result : Result T DeskFault)
    → (IsErrOf result Read → (failures_of s.before < failures_of s.after) ⊎ (nonempty_reads_of s.after ≡ nonempty_reads_of s.before + 1000000))
    → (IsErrOf result Write → failures_of s.output.before < failures_of s.output.after) → IfErr result (BreaksStream s)
broken_stream s result read write = grind arith
