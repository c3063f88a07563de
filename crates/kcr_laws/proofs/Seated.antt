-- A later command never makes an earlier seating wrong.
use Rattle.kcr_laws.proofs.Common.{◌≡◌, ℕ, ◌<◌, ◌≤◌, Bool, true, false, ◌||◌, ◌&&◌, ◌==◌, nat_le, List, [], ◌∷◌, map, filter, Option, Some, None}
use Rattle.kcr_laws.proofs.Common.{MatchOption, option_map, refl, sym, ap, ◌∙◌, arith, inl, inr, unwrap_or, list_any, list_all, filter_map}
use Rattle.kcr_laws.proofs.Common.{cons_option, true≢false, and_from, eqb-true, eq-eqb, leb-true, le-leb, false≢true, or_left, cases_Bool, nat_tests}
use Rattle.kcr_laws.proofs.Common.{not_after_mark_refusal, option_or, is_this, Facility, Place, Role, any-same, all-more, still, Seat, Staff, AnyCo}
use Rattle.kcr_laws.proofs.Common.{AnyRksh, Co, Rksh, Act, Plan, Ceremony, Open, Close, RecordSheet, Sign, RecordException, ReplyData, Entry, History}
use Rattle.kcr_laws.proofs.Common.{values_of_acts, greatest, max_with, trained, holder, Planned, planned_as, plan_of, is_ceremony, facility_of}
use Rattle.kcr_laws.proofs.Common.{steps_of, opened_at, marked_moment, mark, opened_number, opening_moment, all_marks, settled, sheet, is_in, fits}
use Rattle.kcr_laws.proofs.Common.{eligible, is_seating, one_to_seven, seats_at, fault, seat_request, IsReplyTo, IsRegister, is_seated, are_seated}
use Rattle.std.specs.Prelude.{is_some}
use Rattle.kcr_base.specs.Days.{day_of}
use Rattle.kcr_base.specs.declared.place.{Facility.TheVariants.East, Role.TheVariants.Ca, Role.TheVariants.Iw}
use Rattle.kcr_base.specs.declared.place.Place.TheVariants as Places
use Rattle.kcr_laws.proofs.{Accepted.entry_from, Alone.turns, Rooms.in_before, Rooms.in_other, Stays.trained_stays, Stays.holder_stays}

-- MOMENTS OF THE PAST

-- there is a greatest moment, and t is not later
abbrev at_most : ℕ → Option ℕ → Bool
at_most t None = false
at_most t (Some m) = nat_le t m

abbrev moments_of : ℕ → List (ℕ × ℕ) → List ℕ
moments_of c ms = map (λ m. m.1) (filter (λ m. m.0 == c) ms)

-- what is not later than one of some moments is not later than the greatest
max_at_most : (t m : ℕ) (o : Option ℕ) → (nat_le t m || at_most t o) ≡ true → nat_le t (max_with m o) ≡ true
max_at_most t m o h = grind (arith, nat_tests)

one_at_most : (t : ℕ) (o : Option ℕ) (ns : List ℕ) → (at_most t o || at_most t (greatest ns)) ≡ true → at_most t (greatest (cons_option o ns)) ≡ true
one_at_most t o ns h = grind (arith, max_at_most t)

-- one moment more leaves what was not later than the greatest so
older_of : (c t : ℕ) (o : Option (ℕ × ℕ)) (ms : List (ℕ × ℕ)) → at_most t (greatest (moments_of c ms)) ≡ true
    → at_most t (greatest (moments_of c (cons_option o ms))) ≡ true
older_of c t o ms h = grind (arith, max_at_most t)

-- the ceremony was opened
abbrev was_opened : ℕ → List ℕ → Bool
was_opened c numbers = list_any (λ n. n == c) numbers

-- the ceremony is planned and was opened, and the moment is not later than its mark
abbrev is_past : History → ℕ × ℕ → Bool
is_past A m = is_ceremony A m.0 && (at_most m.1 (mark A m.0) && was_opened m.0 (values_of_acts opened_number A))

-- so for the moment of a command, if it has one
abbrev is_past_if : History → Option (ℕ × ℕ) → Bool
is_past_if A None = true
is_past_if A (Some m) = is_past A m

still_opened : (c : ℕ) (o : Option ℕ) (numbers : List ℕ) → was_opened c numbers ≡ true → was_opened c (cons_option o numbers) ≡ true
still_opened c o numbers h = grind arith

still_past : (A : History) (entry : Entry) (o : Option (ℕ × ℕ)) → is_past_if A o ≡ true → is_past_if (entry ∷ A) o ≡ true
still_past A entry o h = grind (arith, still {X = Planned}, older_of, still_opened)

-- a ceremony that is open was opened
opened_after : (act : Act) (c : ℕ) (o : Option ℕ) (numbers : List ℕ) → (is_some o ≡ true → was_opened c numbers ≡ true)
    → is_some (option_or (opening_moment c act) o) ≡ true → was_opened c (cons_option (opened_number act) numbers) ≡ true
opened_after (Ceremony d at Open) c o numbers ih h = grind (arith, ih)
opened_after act c o numbers ih h = ih h

opened_there : (A : History) (c : ℕ) → is_some (opened_at A c) ≡ true → was_opened c (values_of_acts opened_number A) ≡ true
opened_there [] c h = absurd (false≢true h)
opened_there (entry ∷ A) c h = opened_after entry.command.act c (opened_at A c) (values_of_acts opened_number A) (opened_there A c) h

-- a command with a moment is one of a ceremony that is planned and was opened
abbrev IsKnown : History → Act → ℕ × ℕ → Type 0
IsKnown A act m = (is_ceremony A m.0 ≡ true) × (was_opened m.0 (cons_option (opened_number act) (values_of_acts opened_number A)) ≡ true)

marks_known : (A : History) (act : Act) → fault A act ≡ None → MatchOption (marked_moment act) (Unit {0}) (IsKnown A act)
marks_known A (Ceremony c at Open) f = (grind arith, or_left (c == c) _ (eq-eqb c c refl))
marks_known A (Ceremony c at Close) f = tt
marks_known A (Ceremony c at (RecordSheet way people)) f = tt
marks_known A (Ceremony c at deed) f = (grind arith, opened_there A c (grind arith))
marks_known A act f = tt

-- the same, if the history has one command more, and it has this moment
abbrev is_past_with : History → Act → Option (ℕ × ℕ) → Option (ℕ × ℕ) → Bool
is_past_with A act o None = true
is_past_with A act o (Some m) =
    is_some (option_or (planned_as m.0 act) (plan_of A m.0))
    && (at_most m.1 (greatest (moments_of m.0 (cons_option o (values_of_acts marked_moment A))))
    && was_opened m.0 (cons_option (opened_number act) (values_of_acts opened_number A)))

-- once it is accepted its moment is past
now_past : (A : History) (entry : Entry) → fault A entry.command.act ≡ None → is_past_if (entry ∷ A) (marked_moment entry.command.act) ≡ true
now_past A entry f = by_mark (marked_moment entry.command.act) (marks_known A entry.command.act f)
  where
    own : (m : ℕ × ℕ) → at_most m.1 (greatest (moments_of m.0 (m ∷ values_of_acts marked_moment A))) ≡ true
    own m =
        rw (eq-eqb m.0 m.0 refl) (max_at_most m.1 m.1 (greatest (moments_of m.0 (values_of_acts marked_moment A))) (or_left _ _ (le-leb m.1 m.1 (omega arith))))

    by_mark : (o : Option (ℕ × ℕ)) → MatchOption o (Unit {0}) (IsKnown A entry.command.act) → is_past_with A entry.command.act o o ≡ true
    by_mark None k = refl
    by_mark (Some m) k =
        let planned = still (planned_as m.0 entry.command.act) (plan_of A m.0) k.0 in
        and_from _ _ planned (and_from (at_most m.1 (greatest (moments_of m.0 (cons_option (Some m) (values_of_acts marked_moment A))))) _ (own m) k.1)

-- WHAT A LATER COMMAND LEAVES AS IT IS

-- no ceremony is planned twice
not_planned : (A : History) (act : Act) (c : ℕ) → fault A act ≡ None → is_ceremony A c ≡ true → planned_as c act ≡ None
not_planned A (Plan number facility day script) c f k =
    let taken : is_ceremony A number ≡ false = grind arith in
    grind (arith, nat_tests, ap (is_ceremony A))
not_planned A act c f k = refl

same_plan : (A : History) (entry : Entry) (c : ℕ) → fault A entry.command.act ≡ None → is_ceremony A c ≡ true → plan_of (entry ∷ A) c ≡ plan_of A c
same_plan A entry c f k = ap (λ o. option_or o (plan_of A c)) (not_planned A entry.command.act c f k)

-- a sheet row of the ceremony is later than its mark
behind : (at t : ℕ) (o : Option ℕ) → not_after_mark_refusal at o ≡ None → at_most t o ≡ true → t < at
behind at t o h k = grind (arith, nat_tests)

-- everybody was if the sheet says so at a past moment
same_in : (A : History) (key : List ℕ) (act : Act) (answer : ReplyData) (who : List ℕ) (c t : ℕ) → fault A act ≡ None → at_most t (mark A c) ≡ true
    → is_in (entry_from key act answer ∷ A) who c t ≡ is_in A who c t
same_in A key (Ceremony d at (RecordSheet way people)) answer who c t f k = elim (cases_Bool (d == c)) [
  | inl e ↦ in_before (sheet A) d way at people who c t (behind at t (mark A d) (grind arith) (rw (eqb-true d c e) k))
  | inr e ↦ in_other (sheet A) d way at people who c t (turns A d way at people (grind arith)) e
]
same_in A key act answer who c t f k = refl

-- a moment that is not later than one of the marks is not later than the greatest
one_of_marks : (A : History) (c t : ℕ) (numbers : List ℕ) → was_opened c numbers ≡ true → at_most t (mark A c) ≡ true
    → at_most t (greatest (filter_map (mark A) numbers)) ≡ true
one_of_marks A c t [] w k = absurd (false≢true w)
one_of_marks A c t (n ∷ numbers) w k = grind (arith, nat_tests, one_at_most t (mark A n) (filter_map (mark A) numbers), one_of_marks A c t numbers)

-- so its day is not later than the settled one
settled_at : (A : History) (t : ℕ) (o : Option ℕ) → greatest (all_marks A) ≡ o → at_most t o ≡ true → (s : ℕ) × (settled A ≡ Some s) × (day_of t ≤ s)
settled_at A t None e k = absurd (true≢false (sym k))
settled_at A t (Some m) e k = (day_of m, ap (option_map day_of) e, omega (arith, leb-true t m k))

-- whoever fits a seat in one history does in another if who is trained stays so and places have the same holders
fits_mono : (A B : History) (facility : Facility) (d : ℕ) → ((who : List ℕ) (role : Role) → trained A who role d ≡ true → trained B who role d ≡ true)
    → ((place : Place) → holder B place d ≡ holder A place d)
    → (seat : Seat) (who : List ℕ) → fits A facility d seat who ≡ true → fits B facility d seat who ≡ true
fits_mono A B facility d train hold (Staff role) who h = train who role h
fits_mono A B facility d train hold AnyCo who h = any-same _ _ one_to_seven (λ n. ap (is_this who) (hold (Places.Co facility n))) ∙ h
fits_mono A B facility d train hold (Co n) who h = ap (is_this who) (hold (Places.Co facility n)) ∙ h
fits_mono A B facility d train hold AnyRksh who h = any-same _ _ one_to_seven (λ n. ap (is_this who) (hold (Places.Rksh n))) ∙ h
fits_mono A B facility d train hold (Rksh n) who h = ap (is_this who) (hold (Places.Rksh n)) ∙ h

-- a seating in one history is one in another, if whoever is eligible in the one is in the other
seating_mono : (A B : History) (c t : ℕ) → ((seat : Seat) (who : List ℕ) → eligible A c t seat who ≡ true → eligible B c t seat who ≡ true)
    → (seats : List Seat) (people : List (List ℕ)) → is_seating A c t seats people ≡ true → is_seating B c t seats people ≡ true
seating_mono A B c t g [] people h = h
seating_mono A B c t g (seat ∷ seats) [] h = absurd (false≢true h)
seating_mono A B c t g (seat ∷ seats) (who ∷ people) h = grind (arith, g seat who, seating_mono A B c t g seats people)

-- so whoever is eligible in the one is in the other, if the room and the facility are as before too
eligible_mono : (A B : History) (c t : ℕ) → ((who : List ℕ) → is_in B who c t ≡ is_in A who c t) → facility_of B c ≡ facility_of A c
    → ((who : List ℕ) (role : Role) → trained A who role (day_of t) ≡ true → trained B who role (day_of t) ≡ true)
    → ((place : Place) → holder B place (day_of t) ≡ holder A place (day_of t))
    → (seat : Seat) (who : List ℕ) → eligible A c t seat who ≡ true → eligible B c t seat who ≡ true
eligible_mono A B c t room here train hold seat who h =
    let same = ap (λ z. fits B z (day_of t) seat who) here in
    grind (arith, room who, same, fits_mono A B (facility_of A c) (day_of t) train hold seat who)

-- whoever was eligible at a past moment still is
eligible_still : (A : History) (entry : Entry) (c t : ℕ) → fault A entry.command.act ≡ None → is_past A (c, t) ≡ true → (seat : Seat) (who : List ℕ)
    → eligible A c t seat who ≡ true → eligible (entry ∷ A) c t seat who ≡ true
eligible_still A entry c t f past =
    let s = settled_at A t (greatest (all_marks A)) refl (one_of_marks A c t (values_of_acts opened_number A) (grind arith) (grind arith)) in
    let facility : facility_of (entry ∷ A) c ≡ facility_of A c =
    ap (λ o. unwrap_or (option_map (λ (plan : Planned). plan.facility) o) East) (same_plan A entry c f (grind arith)) in
    eligible_mono A (entry ∷ A) c t (λ who. same_in A entry.command.key entry.command.act entry.reply who c t f (grind arith)) facility
    (λ who role. trained_stays A entry who role s.0 (day_of t) f s.1 s.2) (λ place. holder_stays A entry place s.0 (day_of t) f s.1 s.2)

same_seats : (A : History) (entry : Entry) (c k : ℕ) → fault A entry.command.act ≡ None → is_ceremony A c ≡ true
    → seats_at (steps_of (entry ∷ A) c) k ≡ seats_at (steps_of A c) k
same_seats A entry c k f p = ap (λ o. seats_at (unwrap_or (option_map (λ (plan : Planned). plan.steps) o) []) k) (same_plan A entry c f p)

-- a seating that was recorded before is one still
old_seated : (A : History) (entry : Entry) (act : Act) (people : Option (List (List ℕ))) → fault A entry.command.act ≡ None → is_past_if A (marked_moment act) ≡ true
    → is_seated A (seat_request A act) people ≡ true → is_seated (entry ∷ A) (seat_request (entry ∷ A) act) people ≡ true
old_seated A entry (Ceremony c at (Sign k)) None f past h = absurd (false≢true h)
old_seated A entry (Ceremony c at (Sign k)) (Some people) f past h =
    seating_mono A (entry ∷ A) c at (eligible_still A entry c at f past) (seats_at (steps_of (entry ∷ A) c) k) people
    (rw (same_seats A entry c k f (grind arith)) h)
old_seated A entry (Ceremony c at (RecordException text true)) None f past h = absurd (false≢true h)
old_seated A entry (Ceremony c at (RecordException text true)) (Some people) f past h =
    seating_mono A (entry ∷ A) c at (eligible_still A entry c at f past) (Staff Ca ∷ Staff Iw ∷ []) people h
old_seated A entry (Ceremony c at (RecordException text false)) people f past h = refl
old_seated A entry act people f past h = refl

-- THE NEW SEATING

-- a signature and an exception leave everybody as eligible as before, so the people of their answer are a seating
new_seated : (A : History) (key : List ℕ) (act : Act) (answer : ReplyData) → IsReplyTo A act answer (seat_request A act)
    → is_seated (entry_from key act answer ∷ A) (seat_request (entry_from key act answer ∷ A) act) answer.seating ≡ true
new_seated A key (Ceremony c at (Sign k)) answer w =
    rw w.2 (seating_mono A (entry_from key (Ceremony c at (Sign k)) answer ∷ A) c at (λ seat who h. h) (seats_at (steps_of A c) k) w.0 w.1)
new_seated A key (Ceremony c at (RecordException text true)) answer w =
    let B = entry_from key (Ceremony c at (RecordException text true)) answer ∷ A in
    rw w.2 (seating_mono A B c at (λ seat who h. h) (Staff Ca ∷ Staff Iw ∷ []) w.0 w.1)
new_seated A key (Ceremony c at (RecordException text false)) answer w = refl
new_seated A key act answer w = refl

-- EVERY SEATING

-- of some commands each moment is past, and each recorded seating is one
abbrev all_past : History → History → Bool
all_past A entries = list_all (λ entry. is_past_if A (marked_moment entry.command.act)) entries

abbrev all_seated : History → History → Bool
all_seated A entries = list_all (λ entry. is_seated A (seat_request A entry.command.act) entry.reply.seating) entries

past_still : (A : History) (entry : Entry) (entries : History) → all_past A entries ≡ true → all_past (entry ∷ A) entries ≡ true
past_still A entry entries h = all-more _ _ entries (λ old. still_past A entry (marked_moment old.command.act)) h

seated_still : (A : History) (entry : Entry) (entries : History) → fault A entry.command.act ≡ None → all_past A entries ≡ true → all_seated A entries ≡ true
    → all_seated (entry ∷ A) entries ≡ true
seated_still A entry [] f p h = refl
seated_still A entry (old ∷ entries) f p h =
    grind (arith, old_seated A entry old.command.act old.reply.seating f, seated_still A entry entries f)

-- the marked moment of each command of a register is past by the whole of it
pub all_pasts : (A : History) → IsRegister A → all_past A A ≡ true
all_pasts [] h = refl
all_pasts (entry ∷ A) h =
    and_from (is_past_if (entry ∷ A) (marked_moment entry.command.act)) _ (now_past A entry h.0.no_fault) (past_still A entry A (all_pasts A h.1))

-- every recorded seating of a register is one by the whole of it
pub seated : (A : History) → IsRegister A → are_seated A ≡ true
seated [] h = refl
seated (entry ∷ A) h =
    and_from (is_seated (entry ∷ A) (seat_request (entry ∷ A) entry.command.act) entry.reply.seating) _
    (new_seated A entry.command.key entry.command.act entry.reply h.0.answered) (seated_still A entry A h.0.no_fault (all_pasts A h.1) (seated A h.1))
