-- A decision by the rows of a view is a step of the machine.
use Rattle.kcr_machine.proofs.Common.{◌≡◌, ℕ, suc, true, false, nat_le, List, [], ◌∷◌, ◌++◌, map, length, Option, Some, None, refl, sym, ap, ◌∙◌}
use Rattle.kcr_machine.proofs.Common.{subst, ◌⊎◌, Result, Ok, Err, MatchOption, arith, IfErr, first_of, Refusal, Short, Memory, Disk, Act, Enter}
use Rattle.kcr_machine.proofs.Common.{Train, Withdraw, Appoint, Replace, Release, AddBox, Plan, Ceremony, AddItem, Open, Close, RecordSheet, SetSafe}
use Rattle.kcr_machine.proofs.Common.{Sign, RecordException, Seal, Take, Put, Cut, ReplyData, Command, Verdict, View, History, entry_of, IsLeast}
use Rattle.kcr_machine.proofs.Common.{keys, tables, SameTables, people, KeyRow, row_of_key, greatest_number, IsViewOf, asks_of_act, asks_of}
use Rattle.kcr_machine.proofs.Common.{early_asks, fault, is_full, conditions, by_history, early_conditions, late_conditions, Refuses, SeatRequest}
use Rattle.kcr_machine.proofs.Common.{seat_request, reply_to, with_command, IsAcceptedWith, seats, DecidesNew, IsRegister, IsAcceptance, IsDecision}
use Rattle.kcr_machine.proofs.Common.{greatest-keys, row_of_key-keys, none-some, early_refusal_by, late_refusal_by, IsCleared, IsCheckResult}
use Rattle.kcr_machine.proofs.Common.{has_too_many_steps, seat_request_by, IsSeatedFor, IsUnseatedFor, all_changes_by, IsReplyDataOf, IsOfKind}
use Rattle.kcr_machine.proofs.Common.{IsOwnRefusal, MayBeRefused, is_full_by, IsRowRepeat, reply_by, AcceptsNew, IsRowDecision, IsUnseatedBy}
use Rattle.kcr_machine.proofs.{Common.none_holds, Common.is_memory, StepRows.sign-there, StepRows.stated-shown}
use Rattle.kcr_machine.proofs.Ceremonies.{close-early, close-late, close-leads, open-late, open-leads, plan-late, plan-leads}
use Rattle.kcr_machine.proofs.CustodyFaults.{add_box-late, add_item-early, ca-late, cut-early, put-early, put-late, seal-early, take-early, take-late}
use Rattle.kcr_machine.proofs.CustodyFaults.{turn-early, turn-late}
use Rattle.kcr_machine.proofs.CustodyLeads.{add_box-leads, add_item-leads, cut-leads, put-leads, seal-leads, take-leads, turn-leads}
use Rattle.kcr_machine.proofs.Leads.{EarlyShown, changed_with, command_of, front-of, same-tables}
use Rattle.kcr_machine.proofs.People.{appoint-late, appoint-leads, enter-late, enter-leads, release-late, release-leads, replace-late, replace-leads}
use Rattle.kcr_machine.proofs.People.{train-late, train-leads, withdraw-late, withdraw-leads}
use Rattle.kcr_machine.proofs.SheetFaults.{named_once, sheet-early, sheet-late, sheet-made}
use Rattle.kcr_machine.proofs.{SheetLeads.sheet-leads, Signed.unseated-least, LastSeated.done-shown, LastSeated.not_overdone}
use Rattle.kcr_machine.proofs.Signed.{except-early, pass-leads, seated-first, seats-shown, sign-early, sign-leads, sitting-is, state-leads, the_next}

-- THE REFUSALS OF BOTH STAGES by the rows are the history's

early-shown : (A : History) → IsRegister A → (act : Act) → EarlyShown A act
early-shown A h (Ceremony ceremony at Close) view v = close-early A h ceremony at view v
early-shown A h (Ceremony c at (AddItem item)) view v = add_item-early A h c item at view v
early-shown A h (Ceremony c at (RecordSheet way all)) view v = sheet-early A h c way all at view v
early-shown A h (Ceremony c at (SetSafe safe state by)) view v = turn-early A h c safe state by at view v
early-shown A h (Ceremony ceremony at (Sign step)) view v = sign-early A h ceremony step at view v
early-shown A h (Ceremony ceremony at (RecordException text pass)) view v = except-early A h ceremony text pass at view v
early-shown A h (Ceremony ceremony at (Seal serial items)) view v = seal-early A h ceremony serial items at view v
early-shown A h (Ceremony ceremony at (Take serial)) view v = take-early A h ceremony serial at view v
early-shown A h (Ceremony ceremony at (Put serial to)) view v = put-early A h ceremony serial to at view v
early-shown A h (Ceremony ceremony at (Cut serial)) view v = cut-early A h ceremony serial at view v
early-shown A h act view v = refl

-- of an act that is cleared
late-shown : (A : History) → IsRegister A → (act : Act) (view : View) → IsViewOf (asks_of_act act) (tables A) view → first_of (early_conditions (by_history A) act) ≡ None
    → late_refusal_by view (is_full A) act ≡ first_of (late_conditions (by_history A) act)
late-shown A h (Enter who name) view v e = enter-late A who name view v
late-shown A h (Train who role since until) view v e = train-late A h who role since until view v
late-shown A h (Withdraw who role day) view v e = withdraw-late A who role day view v
late-shown A h (Appoint place who day) view v e = appoint-late A h place who day view v
late-shown A h (Replace place who day) view v e = replace-late A h place who day view v
late-shown A h (Release place day) view v e = release-late A h place day view v
late-shown A h (AddBox facility number place) view v e = add_box-late A facility number place view v
late-shown A h (Plan number facility day script) view v e = plan-late A number facility day script view v
late-shown A h (Ceremony ceremony at Open) view v e = open-late A ceremony at view v
late-shown A h (Ceremony ceremony at Close) view v e = close-late A h ceremony at view v
late-shown A h (Ceremony ceremony at (Seal serial items)) view v e = ca-late A h ceremony at view v.stays.room v.trainings v.withdrawals
late-shown A h (Ceremony ceremony at (Take serial)) view v e = take-late A h ceremony serial at view v
late-shown A h (Ceremony ceremony at (Put serial to)) view v e = put-late A h ceremony serial to at view v
late-shown A h (Ceremony ceremony at (Cut serial)) view v e = ca-late A h ceremony at view v.stays.room v.trainings v.withdrawals
late-shown A h (Ceremony c at (AddItem item)) view v e = ca-late A h c at view v.stays.room v.trainings v.withdrawals
late-shown A h (Ceremony c at (RecordSheet way all)) view v e = sheet-late A h (sheet-made A h) c way all at e view v
late-shown A h (Ceremony c at (SetSafe safe state by)) view v e = turn-late A h c safe state by at view v
late-shown A h act view v e = refl

-- a first refusal among the early ones is the first of all; behind those, if none holds, it is the first of the others
early_first : (os xs : List (Option Refusal)) (r : Refusal) → first_of os ≡ Some r → first_of (os ++ xs) ≡ Some r
early_first [] xs r h = absurd (none-some r h)
early_first (o ∷ os) xs r h = grind (arith, early_first os xs r)

late_first : (os xs : List (Option Refusal)) → first_of os ≡ None → first_of (os ++ xs) ≡ first_of xs
late_first [] xs h = refl
late_first (o ∷ os) xs h = grind (arith, late_first os xs)

-- an act that is cleared by the rows after the command of this number is so by the history
cleared-shown : (A : History) → IsRegister A → (act : Act) (view : View) (last : ℕ) → last ≡ length A → IsViewOf (early_asks (asks_of_act act)) (tables A) view
    → IsCleared view (is_full_by last) act → first_of (early_conditions (by_history A) act) ≡ None
cleared-shown A h act view last e v cleared = grind (arith, early-shown)

-- and the first of its other refusals is its fault
fault-shown : (A : History) → IsRegister A → (act : Act) (view : View) (last : ℕ) → last ≡ length A → IsViewOf (asks_of_act act) (tables A) view
    → first_of (early_conditions (by_history A) act) ≡ None → late_refusal_by view (is_full_by last) act ≡ fault A act
fault-shown A h act view last e v none = grind (arith, late-shown, late_first)

-- SEATS

-- the seats that an act needs by the rows are those by the history
sitting-shown : (A : History) → IsRegister A → (act : Act) (view : View) → IsViewOf (asks_of_act act) (tables A) view
    → fault A act ≡ None → seat_request_by view act ≡ seat_request A act
sitting-shown A h (Ceremony c at (Sign k)) view v none =
    ap (λ seats. Some (record { ceremony = c; at = at; seats = seats }))
    (seats-shown A h c k view v.steps.step (sign-there A c k at none))
sitting-shown A h (Ceremony c at (RecordException text true)) view v none = refl
sitting-shown A h (Ceremony c at (RecordException text false)) view v none = refl
sitting-shown A h act view v none = refl

-- the seats that lack people by the rows are a least shortage of the history
abbrev Lacks : History → SeatRequest → Refusal → Type 0
Lacks A s refusal = (positions : List ℕ) × IsLeast A s.ceremony s.at s.seats positions × (refusal ≡ Short (map suc positions))

-- the rows tell of no more steps done than a script has
not_overdone-shown : (A : History) → IsRegister A → (act : Act) (view : View) → IsViewOf (early_asks (asks_of_act act)) (tables A) view
    → has_too_many_steps view act ≡ false
not_overdone-shown A h (Ceremony c at (Sign k)) view v = not_overdone A h _ view v.steps
not_overdone-shown A h (Ceremony c at (RecordException text pass)) view v = not_overdone A h _ view v.steps
not_overdone-shown A h act view v = refl

-- ANSWERS

-- the answer by the rows is the one by the history
answer-shown : (A : History) → IsRegister A → (act : Act) (view : View) → IsViewOf (asks_of_act act) (tables A) view → (last : ℕ) → last ≡ length A
    → (people : Option (List (List ℕ))) → IsSeatedFor view (seat_request_by view act) people → reply_by view last act people ≡ reply_to A act people
answer-shown A h (Ceremony c at (Sign k)) view v last e people g = rw e refl
answer-shown A h (Ceremony c at (RecordException text true)) view v last e people g =
    rw (e, stated-shown A h c view.exceptions.items v.exceptions, done-shown A h (the_next c) view v.steps) refl
answer-shown A h (Ceremony c at (RecordException text false)) view v last e people g = rw (e, stated-shown A h c view.exceptions.items v.exceptions, g) refl
answer-shown A h act view v last e people g = rw (e, g) refl

-- CHANGES

-- the changes of an act that has no fault, with those of its seats, lead from the tables before it to those after it
leads : (A : History) → IsRegister A → (key : List ℕ) (act : Act) (view : View) (seats : Option (List (List ℕ))) (answer : ReplyData)
    → IsViewOf (asks_of_act act) (tables A) view → entry_of A key ≡ None → fault A act ≡ None
    → IsSeatedFor view (seat_request_by view act) seats → answer ≡ reply_to A act seats
    → SameTables (changed_with (all_changes_by view act seats) (command_of key act) answer (tables A)) (tables (with_command A (command_of key act) answer))
leads A h key (Enter who name) view seats answer v k f g e = same-tables _ _ (enter-leads A who name key view answer v k f)
leads A h key (Train who role since until) view seats answer v k f g e = same-tables _ _ (train-leads A who role since until key view answer v k f)
leads A h key (Withdraw who role day) view seats answer v k f g e = withdraw-leads A h key who role day view answer v k
leads A h key (Appoint place who day) view seats answer v k f g e = same-tables _ _ (appoint-leads A h place who day key view answer v k f)
leads A h key (Replace place who day) view seats answer v k f g e = same-tables _ _ (replace-leads A h place who day key view answer v k f)
leads A h key (Release place day) view seats answer v k f g e = same-tables _ _ (release-leads A h place day key view answer v k f)
leads A h key (AddBox facility number place) view seats answer v k f g e = same-tables _ _ (add_box-leads A facility number place key view answer v k f)
leads A h key (Plan number facility day script) view seats answer v k f g e = same-tables _ _ (plan-leads A h key answer number facility day script f view k)
leads A h key (Ceremony ceremony at Open) view seats answer v k f g e = same-tables _ _ (open-leads A h key answer ceremony at f view v.ceremonies k)
leads A h key (Ceremony ceremony at Close) view seats answer v k f g e = same-tables _ _ (close-leads A key answer ceremony at f view v.ceremonies k)
leads A h key (Ceremony c at (Seal serial codes)) view seats answer v k f g e = same-tables _ _ (seal-leads A h c serial codes at key view answer v k f)
leads A h key (Ceremony c at (Take serial)) view seats answer v k f g e = same-tables _ _ (take-leads A h c serial at key view answer v k f)
leads A h key (Ceremony c at (Put serial to)) view seats answer v k f g e = same-tables _ _ (put-leads A h c serial to at key view answer v k f)
leads A h key (Ceremony c at (Cut serial)) view seats answer v k f g e = same-tables _ _ (cut-leads A h c serial at key view answer v k f)
leads A h key (Ceremony c at (AddItem item)) view seats answer v k f g e = same-tables _ _ (add_item-leads A h c item at key view answer v k f)
leads A h key (Ceremony c at (RecordSheet way all)) view seats answer v k f g e =
    let n = none_holds (conditions A (Ceremony c at (RecordSheet way all))) f in
    sheet-leads A (sheet-made A h) key c way all at (named_once all (assumption n)) view answer v k (assumption n)
leads A h key (Ceremony c at (SetSafe safe state by)) view seats answer v k f g e = same-tables _ _ (turn-leads A h c safe state by at key view answer v k f)
leads A h key (Ceremony c at (Sign k)) view None answer v q f g e = absurd g
leads A h key (Ceremony c at (Sign k)) view (Some seats) answer v q f g e = same-tables _ _ (sign-leads A h c k at seats key view answer v q f e)
leads A h key (Ceremony c at (RecordException text true)) view None answer v q f g e = absurd g
leads A h key (Ceremony c at (RecordException text true)) view (Some seats) answer v q f g e = same-tables _ _ (pass-leads A h c text at seats key view answer v q f e)
leads A h key (Ceremony c at (RecordException text false)) view seats answer v q f g e = same-tables _ _ (state-leads A h c text at key view answer v q f e)

-- ACCEPTED

accepted : (A : History) (x : Command) (view : View) (last : ℕ) (verdict : Verdict) (answer : ReplyData) → IsRegister A
    → IsViewOf (asks_of x) (tables A) view → last ≡ length A → first_of (early_conditions (by_history A) x.act) ≡ None
    → entry_of A x.key ≡ None → AcceptsNew view last x verdict answer → IsAcceptance A x verdict answer
accepted A x view last verdict answer h v e c k g =
    let fine : fault A x.act ≡ None = sym (fault-shown A h x.act view last e v c) ∙ g.fine in
    let next : answer ≡ reply_to A x.act answer.seating = g.next ∙ answer-shown A h x.act view v last e answer.seating g.seated in
    let request = sitting-shown A h x.act view v fine in
    let first = λ (s : SeatRequest) (ps : List (List ℕ)) (e : seat_request A x.act ≡ Some s).
    seated-first A h view s (sitting-is A h x.act view v s e) ps in
    let led = leads A h x.key x.act view answer.seating answer v k fine g.seated next in
    grind arith

-- REFUSED

unseated : (A : History) (x : Command) (view : View) (refusal : Refusal) → (o : Option SeatRequest) → IsUnseatedFor view o refusal
    → ((s : SeatRequest) → o ≡ Some s → IsUnseatedBy view s refusal → Lacks A s refusal)
    → MatchOption o (IsAcceptedWith A x (reply_to A x.act None) (Refuses refusal) A) (λ s. seats A x s (Refuses refusal) A)
unseated A x view refusal o g least = grind arith

refused_new : (A : History) → IsRegister A → (x : Command) (view : View) (refusal : Refusal) → IsViewOf (asks_of x) (tables A) view
    → (o : Option Refusal) → o ≡ fault A x.act
    → MatchOption o (IsUnseatedFor view (seat_request_by view x.act) refusal) (λ first. refusal ≡ first) → DecidesNew A x (fault A x.act) (Refuses refusal) A
refused_new A h x view refusal v (Some first) f g = rw (sym f) (ap Refuses g, refl)
refused_new A h x view refusal v None f g =
    let w : IsUnseatedFor view (seat_request A x.act) refusal = subst (λ o. IsUnseatedFor view o refusal) (sitting-shown A h x.act view v (sym f)) g in
    rw (sym f) (unseated A x view refusal (seat_request A x.act) w (λ s e. unseated-least A h view s (sitting-is A h x.act view v s e) refusal))

-- A KEY WITH A ROW

no_entry : (A : History) (key : List ℕ) → row_of_key key (keys A) ≡ None → entry_of A key ≡ None
no_entry A key none = let e = sym (row_of_key-keys A key) ∙ none in grind arith

-- a decision by the row of the key is a step of the machine
pub repetition : (A : History) (x : Command) (row : KeyRow) (result : Result Verdict Refusal) → row_of_key x.key (keys A) ≡ Some row
    → IsRowRepeat row x result → IsDecision A x result
repetition A x row result there g = grind (arith, row_of_key-keys)

-- A NEW KEY

-- a decision by the rows of a view and the number of the last command, of a command that is cleared, is a step of the machine
pub decision : (A : History) (x : Command) (view : View) (last : ℕ) (result : Result Verdict Refusal) → IsRegister A
    → row_of_key x.key (keys A) ≡ None → IsViewOf (asks_of x) (tables A) view → last ≡ greatest_number (keys A)
    → IsCleared view (is_full_by last) x.act → IsRowDecision view last x result → IsDecision A x result
decision A x view last result h new v e cleared = grind (arith, greatest-keys, cleared-shown, front-of, accepted, no_entry, refused_new, fault-shown)

-- a refusal by the part of the rows that is read first is a step of the machine
pub refused-early : {X : Type 0} (A : History) (x : Command) (view : View) (last : ℕ) (result : Result X Refusal) → IsRegister A → row_of_key x.key (keys A) ≡ None
    → IsViewOf (early_asks (asks_of x)) (tables A) view → last ≡ greatest_number (keys A) → IsCheckResult view (is_full_by last) x.act result
    → IfErr result (λ refusal. IsDecision A x (Err refusal))
refused-early A x view last (Ok y) h new v e g = tt
refused-early A x view last (Err refusal) h new v e g = λ ne.
    let here = sym (early-shown A h x.act view v) ∙ sym (ap (λ n. early_refusal_by view (nat_le 4000000000 n) x.act) (e ∙ greatest-keys A h))
    ∙ g (not_overdone-shown A h x.act view v) in
    let first = early_first (early_conditions (by_history A) x.act) (late_conditions (by_history A) x.act) refusal here in
    rw (no_entry A x.key new) (rw first (refl, refl))

-- WHATEVER THE ROWS ARE

-- an answer by rows is one of the act's kind
of-kind : (view : View) (last : ℕ) (act : Act) (answer : ReplyData) → answer ≡ reply_by view last act answer.seating
    → IsSeatedFor view (seat_request_by view act) answer.seating → IsReplyDataOf act answer
of-kind view last act answer next seated = grind arith

-- a decision by rows is of the act's kind
pub decision-kind : (x : Command) (view : View) (last : ℕ) (result : Result Verdict Refusal) → IsRowDecision view last x result
    → IfErr result (IsOwnRefusal x) → IsOfKind x result
decision-kind x view last result g kind = grind (arith, of-kind)

-- every command may be refused because memory ran out, or for an I/O error
pub fault-refused : (x : Command) (refusal : Refusal) → (refusal ≡ Memory) ⊎ (refusal ≡ Disk) → MayBeRefused x refusal
fault-refused x refusal h = grind arith

-- a repeat is refused for its key, or because memory ran out
pub repeat-kind : (x : Command) (row : KeyRow) (result : Result Verdict Refusal) → IsRowRepeat row x result → IfErr result (MayBeRefused x)
repeat-kind x row result g = grind (arith, is_memory)

-- a decision under a new key is refused only for what its command may be refused for
pub new-kind : (x : Command) (result : Result Verdict Refusal) → IsOfKind x result → IfErr result (MayBeRefused x)
new-kind x result g = grind arith
