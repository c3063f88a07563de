-- People, trainings and places: what the rows of a view say of them, the first refusal of an act on them, and where its changes lead.
use Rattle.kcr_machine.proofs.Common.{◌≡◌, ℕ, true, false, ◌||◌, ◌&&◌, nat_le, max, List, filter, refl, sym, ap, ◌∙◌, subst, arith, [], ◌∷◌, map}
use Rattle.kcr_machine.proofs.Common.{None, rules, list_any, IsPermutation, leb-true, le-leb, or_left, or_parts, IsPermutation-map}
use Rattle.kcr_machine.proofs.Common.{IsPermutation-refl, IsPermutation-sym, same_text, Role, Training, Withdrawal, is_of, is_withdrawn_by, covers}
use Rattle.kcr_machine.proofs.Common.{trains, trained_by, trained_from_by, ends_from, least_day, withdrawal_of, withdrawn_rows, is_person_by}
use Rattle.kcr_machine.proofs.Common.{ever_trained_by, same_training, open_row_by, end_of, nobody, place_held_from_by, person_holds_from_by}
use Rattle.kcr_machine.proofs.Common.{is_training_of, is_withdrawal_of, is_of_people, IsViewOf, Place, Person, Enter, Train, Withdraw, Appoint}
use Rattle.kcr_machine.proofs.Common.{Replace, Release, View, History, has_command, entry_of, is_person, ever_trained, is_training, people, trainings}
use Rattle.kcr_machine.proofs.Common.{withdrawals, appointments, tables, SameTables, ended, asks_of_act, conditions, IsRegister, with_command}
use Rattle.kcr_machine.proofs.Common.{is_person-people, ever_trained-trainings, is_training-trainings, ever_put-appointments, closing, lasts-ended}
use Rattle.kcr_machine.proofs.Common.{no_begin, put-ended, orderly, standing, changes_by, new_appointment, put, put_all, Taken, Held, Range, Vacant}
use Rattle.kcr_machine.proofs.Common.{none_holds, unmet, put_all-order, any-same, ReplyData, Command, PutWithdrawal, PutKey, same_person}
use Rattle.kcr_machine.proofs.Common.{same_appointment, new_key_row, in-filter, map-same-in}
use Rattle.kcr_people.proofs.{Withdrawn.is_of-true, Withdrawn.least-day, Keys.same_withdrawn-keys, Keys.withdrawn_rows-apart}
use Rattle.std.specs.Cmp.Lexicographic.{bytes_decides}
use Rattle.kcr_history.proofs.{Settled.settled-rows, Distinct.trainings-apart}
use Rattle.kcr_people.specs.Laws.{same_withdrawn}
use Rattle.kcr_machine.proofs.LastAppointments.{open-last, person-last, place-last, put-last}
use Rattle.kcr_machine.proofs.Keyed.{Shown, any-shown, filter-shown, put-new}
use Rattle.kcr_machine.proofs.Leads.{LateShown, LeadsOn, all_changed-rows, changed_with, command_of, new_key}

-- WITHDRAWALS

-- a withdrawal of a person's training is the person's
withdrawal-who : (who : List ℕ) (row : Training) (w : Withdrawal) → same_text row.who who ≡ true → is_of row w ≡ true → same_text w.who who ≡ true
withdrawal-who who row w own h = subst (λ t. same_text t.who who ≡ true) (sym (is_of-true row w h)) own

-- whether a training of the person is withdrawn
withdrawn-shown : (who : List ℕ) (table rows : List Withdrawal) → Shown (is_withdrawal_of who) table rows → (row : Training) → same_text row.who who ≡ true
    → (day : ℕ) → is_withdrawn_by rows row day ≡ is_withdrawn_by table row day
withdrawn-shown who table rows p row own day =
    any-shown (λ w. is_of row w && nat_le w.day day) (is_withdrawal_of who) (λ w h. withdrawal-who who row w own (grind arith)) table rows p

-- WHO IS TRAINED

covers-who : (who : List ℕ) (role : Role) (day : ℕ) (row : Training) → covers who role day row ≡ true → same_text row.who who ≡ true
covers-who who role day row h = grind arith

trains-shown : (who : List ℕ) (table rows : List Withdrawal) → Shown (is_withdrawal_of who) table rows → (role : Role) (day : ℕ) (row : Training)
    → trains rows who role day row ≡ trains table who role day row
trains-shown who table rows p role day row = grind (arith, covers-who who role day row, withdrawn-shown who table rows p row)

-- whether some training of the person holds on a day of its own
trains-any : (who : List ℕ) (ts us : List Training) (ws vs : List Withdrawal) → Shown (is_training_of who) ts us → Shown (is_withdrawal_of who) ws vs
    → (role : Role) (on : Training → ℕ)
    → list_any (λ row. trains vs who role (on row) row) us ≡ list_any (λ row. trains ws who role (on row) row) ts
trains-any who ts us ws vs p q role on =
    any-same (λ row. trains vs who role (on row) row) (λ row. trains ws who role (on row) row) us (λ row. trains-shown who ws vs q role (on row) row)
    ∙ any-shown (λ row. trains ws who role (on row) row) (is_training_of who)
    (λ row h. covers-who who role (on row) row (grind arith)) ts us p

-- whether the person is trained on the day or a later one
pub trained_from-shown : (who : List ℕ) (ts us : List Training) (ws vs : List Withdrawal) → Shown (is_training_of who) ts us
    → Shown (is_withdrawal_of who) ws vs → (role : Role) (day : ℕ)
    → trained_from_by us vs who role day ≡ trained_from_by ts ws who role day
trained_from-shown who ts us ws vs p q role day = trains-any who ts us ws vs p q role (λ row. max row.since day)

-- whether the person is trained on the day
pub trained-shown : (who : List ℕ) (ts us : List Training) (ws vs : List Withdrawal) → Shown (is_training_of who) ts us → Shown (is_withdrawal_of who) ws vs
    → (role : Role) (day : ℕ)
    → trained_by us vs who role day ≡ trained_by ts ws who role day
trained-shown who ts us ws vs p q role day = trains-any who ts us ws vs p q role (λ row. day)

-- THE ROWS OF A WITHDRAWAL

-- numbers that are at most the same numbers are one
one_number : (a b : ℕ) → ((d : ℕ) → nat_le a d ≡ nat_le b d) → a ≡ b
one_number a b h =
    let p = leb-true a b (h b ∙ le-leb b b (omega arith)) in
    let q = leb-true b a (sym (h a) ∙ le-leb a a (omega arith)) in
    omega arith

least-shown : (who : List ℕ) (table rows : List Withdrawal) → Shown (is_withdrawal_of who) table rows → (row : Training) → same_text row.who who ≡ true
    → (day : ℕ) → least_day rows row day ≡ least_day table row day
least-shown who table rows p row own day =
    one_number (least_day rows row day) (least_day table row day)
    (λ d. least-day rows row day d ∙ ap (λ b. nat_le day d || b) (withdrawn-shown who table rows p row own d) ∙ sym (least-day table row day d))

ends_from-who : (who : List ℕ) (role : Role) (day : ℕ) (row : Training) → ends_from who role day row ≡ true → same_text row.who who ≡ true
ends_from-who who role day row h = grind arith

-- the same rows are to be put, in some order
pub withdrawn_rows-shown : (who : List ℕ) (ts us : List Training) (ws vs : List Withdrawal) → Shown (is_training_of who) ts us
    → Shown (is_withdrawal_of who) ws vs → (role : Role) (day : ℕ)
    → IsPermutation (withdrawn_rows ts ws who role day) (withdrawn_rows us vs who role day)
withdrawn_rows-shown who ts us ws vs p q role day =
    rw (map-same-in (withdrawal_of vs day) (withdrawal_of ws day) (filter (ends_from who role day) us)
    (λ row i. ap (λ d. record { who = row.who; role = row.role; since = row.since; until = row.until; day = d })
    (least-shown who ws vs q row (ends_from-who who role day row (in-filter (ends_from who role day) row us i).1) day)))
    (IsPermutation-map (withdrawal_of ws day) (filter (ends_from who role day) ts) (filter (ends_from who role day) us)
    (filter-shown (ends_from who role day) (is_training_of who) (λ row h. ends_from-who who role day row h) ts us p))

text-turn : (a b : List ℕ) → same_text a b ≡ true → same_text b a ≡ true
text-turn a b h = (bytes_decides b a).1 (sym ((bytes_decides a b).0 h))

-- WORDS ON THE ROWS THAT A VIEW SHOWS

-- a person has a row among those shown if and only if a command entered the person
pub person-shown : (A : History) (who : List ℕ) (rows : List Person) → Shown (is_of_people (who ∷ [])) (people A) rows → is_person_by rows who ≡ is_person A who
person-shown A who rows p =
    any-shown (λ row. same_text row.who who) (is_of_people (who ∷ [])) (λ row h. or_left (same_text row.who who) false h) (people A) rows p
    ∙ is_person-people A who

ever_trained-shown : (A : History) (who : List ℕ) (rows : List Training) → Shown (is_training_of who) (trainings A) rows
    → ever_trained_by rows who ≡ ever_trained A who
ever_trained-shown A who rows p = any-shown (is_training_of who) (is_training_of who) (λ row h. h) (trainings A) rows p ∙ ever_trained-trainings A who

-- a training of the same four values is the person's
same-who : (new old : Training) → same_training new old ≡ true → same_text old.who new.who ≡ true
same-who new old h = grind (arith, text-turn new.who old.who)

training-shown : (A : History) (new : Training) (rows : List Training) → Shown (is_training_of new.who) (trainings A) rows
    → list_any (same_training new) rows ≡ list_any (same_training new) (trainings A)
training-shown A new rows p = any-shown (same_training new) (is_training_of new.who) (same-who new) (trainings A) rows p

-- THE FIRST REFUSAL OF AN ACT

-- an entry of a person has the same late refusal by the rows of a view as by the history
pub enter-late : (A : History) (who name : List ℕ) → LateShown A (Enter who name)
enter-late A who name view v = rw (person-shown A who view.people.items v.people)

-- a training has the same late refusal by the rows of a view as by the history
pub train-late : (A : History) → IsRegister A → (who : List ℕ) (role : Role) (since until : ℕ) → LateShown A (Train who role since until)
train-late A h who role since until view v =
    let new : Training = record { who = who; role = role; since = since; until = until } in
    rw (
      person-shown A who view.people.items v.people,
      training-shown A new view.trainings.items v.trainings ∙ is_training-trainings A new,
      put-last A h who view.appointments.items v.appointments.0 v.appointments.1 ∙ ever_put-appointments A who,
    )

-- a withdrawal has the same late refusal by the rows of a view as by the history
pub withdraw-late : (A : History) (who : List ℕ) (role : Role) (day : ℕ) → LateShown A (Withdraw who role day)
withdraw-late A who role day view v =
    rw (
      person-shown A who view.people.items v.people,
      trained_from-shown who (trainings A) view.trainings.items (withdrawals A) view.withdrawals.items v.trainings v.withdrawals role day,
      settled-rows A view.marks.items v.marks,
    )

-- an appointment has the same late refusal by the rows of a view as by the history
pub appoint-late : (A : History) → IsRegister A → (place : Place) (who : List ℕ) (day : ℕ) → LateShown A (Appoint place who day)
appoint-late A h place who day view v =
    rw (
      person-shown A who view.people.items v.people,
      ever_trained-shown A who view.trainings.items v.trainings,
      place-last A h place view.appointments.items v.appointments.0 v.appointments.1.0 day,
      person-last A h who view.appointments.items v.appointments.0 v.appointments.1.1 day,
      settled-rows A view.marks.items v.marks,
    )

-- a replacement has the same late refusal by the rows of a view as by the history
pub replace-late : (A : History) → IsRegister A → (place : Place) (who : List ℕ) (day : ℕ) → LateShown A (Replace place who day)
replace-late A h place who day view v =
    rw (
      person-shown A who view.people.items v.people,
      ever_trained-shown A who view.trainings.items v.trainings,
      open-last A h place view.appointments.items v.appointments.0 v.appointments.1.0,
      person-last A h who view.appointments.items v.appointments.0 v.appointments.1.1 day,
      settled-rows A view.marks.items v.marks,
    )

-- a release has the same late refusal by the rows of a view as by the history
pub release-late : (A : History) → IsRegister A → (place : Place) (day : ℕ) → LateShown A (Release place day)
release-late A h place day view v = grind (arith, open-last, settled-rows)

-- WHERE ITS CHANGES LEAD

-- the changes of an entry of a person lead to the tables of the history with it
pub enter-leads : (A : History) (who name : List ℕ) → LeadsOn A (Enter who name)
enter-leads A who name key view answer v k f =
    let absent = is_person-people A who ∙ unmet (is_person A who) Taken (none_holds (conditions A (Enter who name)) f).0 in
    rw (put-new same_person (record { who = who; name = name }) (people A) absent, new_key A (command_of key (Enter who name)) answer k)

-- the changes of a training lead to the tables of the history with it
pub train-leads : (A : History) (who : List ℕ) (role : Role) (since until : ℕ) → LeadsOn A (Train who role since until)
train-leads A who role since until key view answer v k f =
    let new : Training = record { who = who; role = role; since = since; until = until } in
    let absent = is_training-trainings A new ∙ unmet (has_command (is_training who role since until) A) Taken
    (none_holds (conditions A (Train who role since until)) f).1.0 in
    rw (put-new same_training new (trainings A) absent, new_key A (command_of key (Train who role since until)) answer k)

-- by the rows shown the same rows are put, in some order; no two of them have one key
withdrawals-put : (A : History) → IsRegister A → (who : List ℕ) (role : Role) (day : ℕ) (us : List Training) (vs : List Withdrawal)
    → Shown (is_training_of who) (trainings A) us → Shown (is_withdrawal_of who) (withdrawals A) vs
    → IsPermutation (put_all same_withdrawn (withdrawn_rows us vs who role day) (withdrawals A))
    (put_all same_withdrawn (withdrawn_rows (trainings A) (withdrawals A) who role day) (withdrawals A))
withdrawals-put A h who role day us vs p q =
    IsPermutation-sym _ _
    (put_all-order same_withdrawn same_withdrawn-keys (withdrawn_rows (trainings A) (withdrawals A) who role day) (withdrawn_rows us vs who role day)
    (withdrawals A)
    (withdrawn_rows-shown who (trainings A) us (withdrawals A) vs p q role day)
    (withdrawn_rows-apart (trainings A) (withdrawals A) who role day (trainings-apart A h)))

-- the changes of a withdrawal lead to the tables of the history with it, up to the order of rows
pub withdraw-leads : (A : History) → IsRegister A → (key who : List ℕ) (role : Role) (day : ℕ) (view : View) (answer : ReplyData)
    → IsViewOf (asks_of_act (Withdraw who role day)) (tables A) view → entry_of A key ≡ None
    → SameTables (changed_with (changes_by view (Withdraw who role day)) (command_of key (Withdraw who role day)) answer (tables A))
    (tables (with_command A (command_of key (Withdraw who role day)) answer))
withdraw-leads A h key who role day view answer v k =
    let x : Command = command_of key (Withdraw who role day) in
    let rows = withdrawn_rows view.trainings.items view.withdrawals.items who role day in
    rw (
      all_changed-rows PutWithdrawal same_withdrawn (λ rows t. record t { withdrawals = rows }) (λ row rows t. refl) rows (withdrawals A)
          (PutKey (new_key_row x answer) ∷ []) (tables A),
      new_key A x answer k,
    )
    (search (rules, IsPermutation-refl, withdrawals-put))

-- the changes of an appointment lead to the tables of the history with it
pub appoint-leads : (A : History) → IsRegister A → (place : Place) (who : List ℕ) (day : ℕ) → LeadsOn A (Appoint place who day)
appoint-leads A h place who day key view answer v k f =
    let n = none_holds (conditions A (Appoint place who day)) f in
    let free = (or_parts (place_held_from_by (appointments A) place day) (person_holds_from_by (appointments A) who day) (unmet _ Held (assumption n))).0 in
    let absent = no_begin place day (appointments A) (orderly A h).1 free in
    rw (put-new same_appointment (new_appointment place who day) (appointments A) absent, new_key A (command_of key (Appoint place who day)) answer k)

-- the changes of a replacement lead to the tables of the history with it
pub replace-leads : (A : History) → IsRegister A → (place : Place) (who : List ℕ) (day : ℕ) → LeadsOn A (Replace place who day)
replace-leads A h place who day key view answer v k f =
    let shown = open-last A h place view.appointments.items v.appointments.0 v.appointments.1.0 in
    let n = none_holds (conditions A (Replace place who day)) f in
    let st = standing (open_row_by (appointments A) place) day (unmet _ Range (assumption n)) (unmet _ Vacant (assumption n)) in
    let o = orderly A h in
    let p : put same_appointment (end_of (open_row_by view.appointments.items place) day (new_appointment place who day)) (appointments A)
    ≡ map (ended place day) (appointments A)
    = rw (shown ∙ st.1) (put-ended place day st.0 (appointments A) o.0 o.1 st.1) in
    let free = closing place day st.0 (appointments A) o.0 st.1 st.2 in
    let fresh = no_begin place day (map (ended place day) (appointments A)) (lasts-ended place day st.0 (appointments A) o.0 o.1 st.1 st.2) free in
    rw (
      p,
      put-new same_appointment (new_appointment place who day) (map (ended place day) (appointments A)) fresh,
      new_key A (command_of key (Replace place who day)) answer k,
    )

-- the changes of a release lead to the tables of the history with it
pub release-leads : (A : History) → IsRegister A → (place : Place) (day : ℕ) → LeadsOn A (Release place day)
release-leads A h place day key view answer v k f =
    let shown = open-last A h place view.appointments.items v.appointments.0 v.appointments.1 in
    let n = none_holds (conditions A (Release place day)) f in
    let st = standing (open_row_by (appointments A) place) day (unmet _ Range n.0) (unmet _ Vacant n.1.0) in
    let o = orderly A h in
    let p : put same_appointment (end_of (open_row_by view.appointments.items place) day (nobody place day)) (appointments A)
    ≡ map (ended place day) (appointments A)
    = rw (shown ∙ st.1) (put-ended place day st.0 (appointments A) o.0 o.1 st.1) in
    rw (p, new_key A (command_of key (Release place day)) answer k)
