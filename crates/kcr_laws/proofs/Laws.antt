-- The laws of the machine and of every register.
use Rattle.kcr_laws.proofs.Common.{IsTrue, ◌↔◌, inl, inr, ◌∙◌, or_cases, or_left, or_right, Place, Role, Refusal, Short, Crowd, Lone, Range, Vacant}
use Rattle.kcr_laws.proofs.Common.{same_text, person_holds_from_by, trained_from_by, open_row_by, vacant_refusal, first_day_refusal}
use Rattle.kcr_laws.proofs.Common.{place_or_person_holds, place_held_from_by, Way, IsFirstMoment, IsEver, headcount_by, stays_by, first_lone_in_by}
use Rattle.kcr_laws.proofs.Common.{is_crowded_in_by, Act, Ceremony, RecordSheet, ReplyData, Command, Entry, History, entry_of, holder, trained}
use Rattle.kcr_laws.proofs.Common.{is_ceremony, settled, steps_of, next, IsLeast, IsFirst, sheet, sheet_after, trainings, withdrawals, appointments}
use Rattle.kcr_laws.proofs.Common.{seats_at, fault, crowd_refusal, lone_room_refusal, same_command, Outcome, Accepts, Refuses, machine, IsOfMachine}
use Rattle.kcr_laws.proofs.Common.{IsRegister, HasFirstSeatings, IsOnce, IsSound, IsBalanced, orderly, of_machine, trained-rows, signature}
use Rattle.kcr_laws.proofs.Common.{IsAccepted, CanFill, IsShortOf, IsEverCrowded, IsFirstAlone, IsNeverAlone, IsHeldOnOrAfter, HoldsPlaceOnOrAfter}
use Rattle.kcr_laws.proofs.Common.{IsTrainedOnOrAfter, BeginsFrom, held_since, AreAnswered}
use Rattle.std.specs.Prelude.{◌≡◌, ◌∷◌, ◌==◌, map, option_map, ℕ, suc, ◌<◌, ◌≤◌, nat_lt, true, List, length, Some, None, ◌⊎◌}
use Rattle.kcr_base.specs.declared.limits.TheConstants.{MAX_COMMANDS, MAX_PRESENT}
use Rattle.kcr_people.proofs.Days.{trained_on_some_day, trained_on_no_other, held_on_some_day, held_on_no_other, place_on_some_day, place_on_no_other}
use Rattle.kcr_laws.proofs.{Alone.rooms, Once.once, Seated.seated, Answered.always, Seatings.machine_first, Seatings.first_machine}
use Rattle.kcr_laws.proofs.Crowding.{first, ever, lone_told, lone_holds, never_told, never_holds, lone_fault, crowd_told, crowd_holds, crowd_fault}
use Rattle.kcr_laws.proofs.Signing.{next_known, signed_next, next_signed, first_recorded, short_next, next_short, short_named}
use Rattle.kcr_laws.proofs.{Stays.trained_stays, Stays.holder_stays, Places.trained_told, Balance.balanced}
use Rattle.kcr_laws.proofs.Places.{since_said, early_told, early_holds, vacant_told, vacant_holds, place_told, place_holds, person_told, person_holds}
use Rattle.kcr_laws.proofs.Fixed.{accepted_fixed, never_both, refused_fixed}
use Rattle.kcr_laws.proofs.Accepted.{repeated, step_keeps, answers_keep}

-- WHAT THE MACHINE DOES

-- no key was accepted twice
pub keys_are_unique : (A : History) → IsRegister A → IsOnce A
keys_are_unique = once

-- a command under a key that was accepted with the same command leaves the history as it is and gets the kept reply,
-- whatever has changed since
pub repeats_change_nothing : (A : History) (x : Command) (kept : Entry) → entry_of A x.key ≡ Some kept → IsTrue (same_command kept.command.act x.act)
    → (outcome : Outcome) (A' : History) → machine A x outcome A' → (outcome ≡ Accepts kept.reply) × (A' ≡ A)
repeats_change_nothing = repeated

-- every command gets an answer: from every history the machine has a step, whatever the command
pub every_command_is_answered : (A : History) (x : Command) → (outcome : Outcome) × (after : History) × machine A x outcome after
every_command_is_answered = always

-- whatever is answered, a register stays one
pub machine_preserves_registers : (A : History) (x : Command) (outcome : Outcome) (A' : History) → IsRegister A → machine A x outcome A'
    → IsRegister A'
machine_preserves_registers = step_keeps

-- so it does over any number of answers
pub answers_preserve_registers : (A A' : History) (said : List (Act × List ℕ)) → IsRegister A → AreAnswered A said A' → IsRegister A'
answers_preserve_registers = answers_keep

-- the machine leads to exactly those registers whose recorded seatings are the first ones; in any other register each
-- recorded seating is one, if not the first
pub machine_leads_to_first_seatings : (A : History) → IsOfMachine A ↔ (IsRegister A × HasFirstSeatings A)
machine_leads_to_first_seatings A = (λ m. (of_machine A m, machine_first A m), λ r. first_machine A r.0 r.1)

-- a command is accepted with one reply, the first seating in it, and leads to one history
pub acceptances_are_fixed : (A : History) (x : Command) (a b : ReplyData) (B C : History) → machine A x (Accepts a) B → machine A x (Accepts b) C
    → (a ≡ b) × (B ≡ C)
acceptances_are_fixed = accepted_fixed

-- it is not refused as well: if there is a seating, nothing is short
pub never_accepted_and_refused : (A : History) (x : Command) (a : ReplyData) (r : Refusal) (B C : History) → machine A x (Accepts a) B
    → machine A x (Refuses r) C → ⊥
never_accepted_and_refused = never_both

-- it is refused with one refusal, apart from which of several least shortages is named
pub refusals_are_fixed : (A : History) (x : Command) (r q : Refusal) (B C : History) → machine A x (Refuses r) B → machine A x (Refuses q) C
    → (r ≡ q) ⊎ ((p : List ℕ) × (o : List ℕ) × (r ≡ Short p) × (q ≡ Short o))
refusals_are_fixed = refused_fixed

-- WHAT EVERY REGISTER HAS

-- each recorded seating is one by the whole history, whatever came later; and at no moment is exactly one person in a
-- room, or more than `MAX_PRESENT`
pub registers_are_sound : (A : History) → IsRegister A → IsSound A
registers_are_sound A h = record { seated = seated A h; rooms = rooms A h }

-- items are neither lost nor doubled
pub registers_are_balanced : (A : History) → IsRegister A → IsBalanced A
registers_are_balanced = balanced

-- after any accepted command the holder of a place on a settled day is who it was
pub holders_stay : (A : History) (entry : Entry) (place : Place) (last day : ℕ) → fault A entry.command.act ≡ None → settled A ≡ Some last
    → day ≤ last → holder (entry ∷ A) place day ≡ holder A place day
holders_stay = holder_stays

-- after any accepted command, withdrawals among them, who was trained on a settled day still was
pub trainings_stay : (A : History) (entry : Entry) (who : List ℕ) (role : Role) (last day : ℕ) → fault A entry.command.act ≡ None
    → settled A ≡ Some last → day ≤ last → trained A who role day ≡ true → trained (entry ∷ A) who role day ≡ true
trainings_stay = trained_stays

-- SIGNATURES

-- a step is signed exactly when it is next and distinct people then in the room can fill its seats: under a new key, and
-- before the register is full, a signature is accepted if and only if the ceremony is open, the step is the next one of
-- its script, the moment is not before the ceremony's mark, and some people, all distinct and in the room at the moment,
-- are each eligible for one of the step's seats
pub signed_iff_seats_can_be_filled : (A : History) (key : List ℕ) (ceremony step at : ℕ) → entry_of A key ≡ None → length A < MAX_COMMANDS
    → IsAccepted A (signature key ceremony step at) ↔ (IsTrue (next A ceremony step at) × CanFill A ceremony step at)
signed_iff_seats_can_be_filled A key ceremony step at new l = (signed_next A key ceremony step at new, λ h. next_signed A key ceremony step at new l h.0 h.1)

-- a ceremony with a next step was planned
pub next_step_is_planned : (A : History) (ceremony step at : ℕ) → IsTrue (next A ceremony step at) → IsTrue (is_ceremony A ceremony)
next_step_is_planned = next_known

-- the reply of a signature names the first people who can fill the seats
pub recorded_seating_is_first : (A : History) (key : List ℕ) (ceremony step at : ℕ) (reply : ReplyData) (after : History) → entry_of A key ≡ None
    → machine A (signature key ceremony step at) (Accepts reply) after
    → (people : List (List ℕ)) × IsFirst A ceremony at (seats_at (steps_of A ceremony) step) people × (reply.seating ≡ Some people)
recorded_seating_is_first = first_recorded

-- a step is short of people exactly when it is next and nobody can fill its seats: under a new key, and before the
-- register is full, a signature is refused with a least set of the step's seats, which fewer people in the room fit than
-- it has seats, if and only if the step is next and no people, all distinct, are each eligible for one of its seats
pub short_iff_seats_cannot_be_filled : (A : History) (key : List ℕ) (ceremony step at : ℕ) → entry_of A key ≡ None → length A < MAX_COMMANDS
    → IsShortOf A key ceremony step at ↔ (IsTrue (next A ceremony step at) × (CanFill A ceremony step at → ⊥))
short_iff_seats_cannot_be_filled A key ceremony step at new l = (short_next A key ceremony step at new, λ h. next_short A key ceremony step at new l h.0 h.1)

-- the refusal `short` of a signature always names such a set, its positions counted from 1
pub named_shortage_is_least : (A : History) (key : List ℕ) (ceremony step at : ℕ) (named : List ℕ) (after : History) → entry_of A key ≡ None
    → machine A (signature key ceremony step at) (Refuses (Short named)) after
    → (positions : List ℕ) × IsLeast A ceremony at (seats_at (steps_of A ceremony) step) positions × (named ≡ map suc positions)
named_shortage_is_least = short_named

-- THE ROOM

-- the moment that a sheet request is refused for is the first of all moments at which exactly one person would be in the
-- room, though it is sought at the moments of rows only
pub lone_moment_is_first : (A : History) (act : Act) (ceremony : ℕ)
    → IsFirstMoment (λ t. headcount_by (sheet_after act (sheet A)) ceremony t == 1) (first_lone_in_by (stays_by (sheet_after act (sheet A))) ceremony)
lone_moment_is_first A act = first (sheet_after act (sheet A))

-- a room that is too full by the moments of rows is so at some moment, and the other way round
pub crowd_is_at_some_moment : (A : History) (act : Act) (ceremony : ℕ)
    → IsEver (λ t. nat_lt MAX_PRESENT (headcount_by (sheet_after act (sheet A)) ceremony t)) (is_crowded_in_by (stays_by (sheet_after act (sheet A))) ceremony)
crowd_is_at_some_moment A act = ever (sheet_after act (sheet A))

-- the refusal `crowd` holds of a sheet request if and only if at some moment more than `MAX_PRESENT` people would be in
-- the room, by the sheet with its rows
pub crowd_iff_ever_crowded : (A : History) (act : Act) (ceremony : ℕ)
    → crowd_refusal (sheet_after act (sheet A)) ceremony ≡ Some Crowd ↔ IsEverCrowded (sheet_after act (sheet A)) ceremony
crowd_iff_ever_crowded A act ceremony = (crowd_told (sheet_after act (sheet A)) ceremony, crowd_holds (sheet_after act (sheet A)) ceremony)

-- a request that is answered so would have such a moment
pub refused_crowd_is_ever : (A : History) (ceremony : ℕ) (way : Way) (people : List (List ℕ)) (at : ℕ)
    → fault A (Ceremony ceremony at (RecordSheet way people)) ≡ Some Crowd
    → IsEverCrowded (sheet_after (Ceremony ceremony at (RecordSheet way people)) (sheet A)) ceremony
refused_crowd_is_ever = crowd_fault

-- the refusal `lone` holds of a sheet request with a moment if and only if that is the first one at which exactly one
-- person would be in the room, by the sheet with its rows
pub lone_iff_first_alone : (A : History) (act : Act) (ceremony t : ℕ)
    → lone_room_refusal (sheet_after act (sheet A)) ceremony ≡ Some (Lone t) ↔ IsFirstAlone (sheet_after act (sheet A)) ceremony t
lone_iff_first_alone A act ceremony t = (lone_told (sheet_after act (sheet A)) ceremony t, lone_holds (sheet_after act (sheet A)) ceremony t)

-- it does not hold if and only if there is no such moment
pub not_lone_iff_never_alone : (A : History) (act : Act) (ceremony : ℕ)
    → lone_room_refusal (sheet_after act (sheet A)) ceremony ≡ None ↔ IsNeverAlone (sheet_after act (sheet A)) ceremony
not_lone_iff_never_alone A act ceremony = (never_told (sheet_after act (sheet A)) ceremony, never_holds (sheet_after act (sheet A)) ceremony)

-- a request that is answered so would have that first moment
pub refused_lone_is_first : (A : History) (ceremony : ℕ) (way : Way) (people : List (List ℕ)) (at t : ℕ)
    → fault A (Ceremony ceremony at (RecordSheet way people)) ≡ Some (Lone t)
    → IsFirstAlone (sheet_after (Ceremony ceremony at (RecordSheet way people)) (sheet A)) ceremony t
refused_lone_is_first = lone_fault

-- PLACES AND ROLES

-- the refusal `held` holds of an appointment if and only if on its day or a later one somebody holds the place, or the
-- person holds some place
pub held_iff_on_some_day : (A : History) → IsRegister A → (place : Place) (who : List ℕ) (day : ℕ)
    → IsTrue (place_or_person_holds (appointments A) place who day) ↔ (IsHeldOnOrAfter A place day ⊎ HoldsPlaceOnOrAfter A who day)
held_iff_on_some_day A register place who day = (
  λ h. elim (or_cases (place_held_from_by (appointments A) place day) (person_holds_from_by (appointments A) who day) h) [
    | inl e ↦ inl (place_told A register place day (place_on_some_day (appointments A) (orderly A register).1 place day e))
    | inr e ↦ inr (person_told A register who day (held_on_some_day (λ row. same_text row.who who) (appointments A) day (orderly A register).1 e))
  ],
  λ h. elim h [
    | inl e ↦ let w = place_holds A register place day e in
        or_left (place_held_from_by (appointments A) place day) _ (place_on_no_other (appointments A) place day w.0 w.1 w.2)
    | inr e ↦ let w = person_holds A register who day e in
        or_right (place_held_from_by (appointments A) place day) _ (held_on_no_other (λ row. same_text row.who who) (appointments A) day w.0 w.1 w.2)
  ],
)

-- of a replacement if and only if the person does
pub person_held_iff_on_some_day : (A : History) → IsRegister A → (who : List ℕ) (day : ℕ)
    → IsTrue (person_holds_from_by (appointments A) who day) ↔ HoldsPlaceOnOrAfter A who day
person_held_iff_on_some_day A register who day = (
  λ h. person_told A register who day (held_on_some_day (λ row. same_text row.who who) (appointments A) day (orderly A register).1 h),
  λ h. let w = person_holds A register who day h in held_on_no_other (λ row. same_text row.who who) (appointments A) day w.0 w.1 w.2,
)

-- the row of a place that has no end begins on the day from which on the place's last command puts somebody there
pub open_row_is_last_command : (A : History) (place : Place) → option_map (λ row. row.since) (open_row_by (appointments A) place) ≡ held_since A place
open_row_is_last_command = since_said

-- of a replacement and of a release `range` holds if and only if the last command of the place puts somebody there from
-- that very day or a later one on
pub range_iff_begins_from : (A : History) (place : Place) (day : ℕ)
    → first_day_refusal (appointments A) place day ≡ Some Range ↔ BeginsFrom A place day
range_iff_begins_from A place day = (early_told A place day, early_holds A place day)

-- `vacant` holds of them if and only if the last command is a release, or there is none
pub vacant_iff_nobody_follows : (A : History) (place : Place) → vacant_refusal (appointments A) place ≡ Some Vacant ↔ held_since A place ≡ None
vacant_iff_nobody_follows A place = (vacant_told A place, vacant_holds A place)

-- the test of a withdrawal, whether there is something to withdraw, passes if and only if on its day or a later one the
-- person is trained for the role
pub trained_iff_on_some_day : (A : History) → IsRegister A → (who : List ℕ) (role : Role) (day : ℕ)
    → IsTrue (trained_from_by (trainings A) (withdrawals A) who role day) ↔ IsTrainedOnOrAfter A who role day
trained_iff_on_some_day A register who role day = (
  λ h. trained_told A register who role day (trained_on_some_day (trainings A) (withdrawals A) who role day h),
  λ h. trained_on_no_other (trainings A) (withdrawals A) who role day h.0 h.1 (trained-rows A register who role h.0 ∙ h.2),
)
