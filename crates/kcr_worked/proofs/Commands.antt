-- What commands are answered one after the other. Most examples begin with a ceremony that was opened at 20:00:00, when
-- sixteen commands had been accepted.
use Rattle.std.specs.Prelude.{◌≡◌, [], ◌∷◌, codes, Some, None}
use Rattle.std.proofs.Common.{refl, List, ℕ, ap}
use Rattle.std.proofs.lemmas.Bool.{false≢true, true≢false}
use Rattle.kcr_base.specs.Day.{day_text}
use Rattle.kcr_history.specs.declared.commands.{Act.TheVariants.Ceremony, Deed.TheVariants.Sign}
use Rattle.kcr_history.specs.{History.History, Tables.seats_at, Ceremonies.steps_of, Seating.IsFirst, Seating.IsLeast}
use Rattle.kcr_laws.specs.Runs.{AreAnswered}
use Rattle.kcr_laws.proofs.Trials.{same_people, least_by_trial}
use Rattle.kcr_worked.specs.Examples.{AA, BB, CC, EA, EB, EE, new_year, that_day, clock, come, leave, with_act, accepted_from, script_of_one}
use Rattle.kcr_worked.specs.Examples.{opening_acts, opened_with, opened_with_people, signed_by_two}
use Rattle.kcr_worked.proofs.{OnLiterals.rows_on_literals, Played.answered, Played.Seated, Played.Lacking}

-- The days of the examples, and the commands with which they begin.
pub opening-new_year : day_text new_year ≡ codes "2025-01-01"
unfolding rows_on_literals
opening-new_year = refl

pub opening-that_day : day_text that_day ≡ codes "2025-02-13"
unfolding rows_on_literals
opening-that_day = refl

pub opening-two_seats : AreAnswered [] (accepted_from 1 (opening_acts (script_of_one (codes "CA;IW"))))
    (opened_with (script_of_one (codes "CA;IW")))
unfolding rows_on_literals
opening-two_seats = answered _ _ [] _ refl

pub opening-one_seat : AreAnswered [] (accepted_from 1 (opening_acts (script_of_one (codes "IW"))))
    (opened_with (script_of_one (codes "IW")))
unfolding rows_on_literals
opening-one_seat = answered _ _ [] _ refl

-- AA and BB sign a step with the seats CA and IW: BB, who is no IW, sits as CA.
pub signature_of_a_step : AreAnswered (opened_with (script_of_one (codes "CA;IW")))
    ((come (AA ∷ BB ∷ []) (clock 20 5 0), codes "{\"accepted\":17}")
    ∷ (Ceremony 61 (clock 20 10 0) (Sign 1), codes "{\"accepted\":18,\"seating\":[\"BB\",\"AA\"],\"step\":1}")
    ∷ [])
    signed_by_two
unfolding rows_on_literals
signature_of_a_step = answered _ _ (Seated (BB ∷ AA ∷ []) ∷ []) _ refl

-- Nobody comes in at the second of a signature; a second later somebody does.
pub sheet_row_at_the_mark : AreAnswered signed_by_two
    ((
      come (CC ∷ []) (clock 20 10 0),
      codes "{\"mark\":\"2025-02-13T20:10:00Z\",\"number\":22,\"refusal\":\"late\"}",
    )
    ∷ (come (CC ∷ []) (clock 20 10 1), codes "{\"accepted\":19}")
    ∷ [])
    (with_act signed_by_two (come (CC ∷ []) (clock 20 10 1)) None)
unfolding rows_on_literals
sheet_row_at_the_mark = answered _ _ [] _ refl

-- Nobody is alone in the room, nor comes in twice: one does not come in, two do; two of three do not leave, all three
-- do.
pub rules_of_the_room-coming : AreAnswered (opened_with (script_of_one (codes "CA;IW")))
    ((
      come (AA ∷ []) (clock 20 5 0),
      codes "{\"moment\":\"2025-02-13T20:05:00Z\",\"number\":26,\"refusal\":\"lone\"}",
    )
    ∷ (come (AA ∷ BB ∷ []) (clock 20 5 0), codes "{\"accepted\":17}")
    ∷ (come (AA ∷ []) (clock 20 6 0), codes "{\"number\":24,\"refusal\":\"turn\",\"who\":\"AA\"}")
    ∷ [])
    (opened_with_people (script_of_one (codes "CA;IW")) (AA ∷ BB ∷ []))
unfolding rows_on_literals
rules_of_the_room-coming = answered _ _ [] _ refl

pub rules_of_the_room-leaving : AreAnswered (opened_with_people (script_of_one (codes "CA;IW")) (AA ∷ BB ∷ CC ∷ []))
    ((
      leave (AA ∷ BB ∷ []) (clock 20 20 0),
      codes "{\"moment\":\"2025-02-13T20:20:00Z\",\"number\":26,\"refusal\":\"lone\"}",
    )
    ∷ (leave (AA ∷ BB ∷ CC ∷ []) (clock 20 20 0), codes "{\"accepted\":18}")
    ∷ [])
    (with_act (opened_with_people (script_of_one (codes "CA;IW")) (AA ∷ BB ∷ CC ∷ []))
    (leave (AA ∷ BB ∷ CC ∷ []) (clock 20 20 0)) None)
unfolding rows_on_literals
rules_of_the_room-leaving = answered _ _ [] _ refl

-- Of several seatings the first in the byte order of initials is recorded: of EA, EB and EE, who all fit, EA. With a
-- second seat that only EA fits, EB takes the first one.
pub first_seatings-one_seat : AreAnswered (opened_with (script_of_one (codes "CO")))
    ((come (EE ∷ EB ∷ EA ∷ []) (clock 20 5 0), codes "{\"accepted\":17}")
    ∷ (Ceremony 61 (clock 20 10 0) (Sign 1), codes "{\"accepted\":18,\"seating\":[\"EA\"],\"step\":1}")
    ∷ [])
    (with_act (opened_with_people (script_of_one (codes "CO")) (EE ∷ EB ∷ EA ∷ [])) (Ceremony 61 (clock 20 10 0) (Sign 1))
    (Some (EA ∷ [])))
unfolding rows_on_literals
first_seatings-one_seat = answered _ _ (Seated (EA ∷ []) ∷ []) _ refl

pub first_seatings-two_seats : AreAnswered (opened_with (script_of_one (codes "CO;CO/1")))
    ((come (EA ∷ EB ∷ EE ∷ []) (clock 20 5 0), codes "{\"accepted\":17}")
    ∷ (Ceremony 61 (clock 20 10 0) (Sign 1), codes "{\"accepted\":18,\"seating\":[\"EB\",\"EA\"],\"step\":1}")
    ∷ [])
    (with_act (opened_with_people (script_of_one (codes "CO;CO/1")) (EA ∷ EB ∷ EE ∷ [])) (Ceremony 61 (clock 20 10 0) (Sign 1))
    (Some (EB ∷ EA ∷ [])))
unfolding rows_on_literals
first_seatings-two_seats = answered _ _ (Seated (EB ∷ EA ∷ []) ∷ []) _ refl

pub first_seatings-not_the_second : let A : History = opened_with_people (script_of_one (codes "CO")) (EE ∷ EB ∷ EA ∷ []) in
    IsFirst A 61 (clock 20 10 0) (seats_at (steps_of A 61) 1) (EB ∷ []) → ⊥
unfolding rows_on_literals
first_seatings-not_the_second = λ h. absurd (false≢true (h.first (EA ∷ []) refl
    (λ e. absurd (true≢false (ap (λ (people : List (List ℕ)). same_people people (EA ∷ [])) e)))))

-- CC fits no seat of CA, IW and CO, and EA the last one. So the first seat is a least shortage, and so is the second;
-- both together are none, nor are the first and the last.
pub least_shortages-first_seat : let A : History = opened_with_people (script_of_one (codes "CA;IW;CO")) (CC ∷ EA ∷ []) in
    IsLeast A 61 (clock 20 10 0) (seats_at (steps_of A 61) 1) (0 ∷ [])
unfolding rows_on_literals
least_shortages-first_seat = least_by_trial _ _ _ _ _ refl

pub least_shortages-second_seat : let A : History = opened_with_people (script_of_one (codes "CA;IW;CO")) (CC ∷ EA ∷ []) in
    IsLeast A 61 (clock 20 10 0) (seats_at (steps_of A 61) 1) (1 ∷ [])
unfolding rows_on_literals
least_shortages-second_seat = least_by_trial _ _ _ _ _ refl

pub least_shortages-not_both : let A : History = opened_with_people (script_of_one (codes "CA;IW;CO")) (CC ∷ EA ∷ []) in
    IsLeast A 61 (clock 20 10 0) (seats_at (steps_of A 61) 1) (0 ∷ 1 ∷ []) → ⊥
unfolding rows_on_literals
least_shortages-not_both = λ h. absurd (true≢false (h.least (0 ∷ []) refl))

pub least_shortages-not_the_officer : let A : History = opened_with_people (script_of_one (codes "CA;IW;CO")) (CC ∷ EA ∷ []) in
    IsLeast A 61 (clock 20 10 0) (seats_at (steps_of A 61) 1) (0 ∷ 2 ∷ []) → ⊥
unfolding rows_on_literals
least_shortages-not_the_officer = λ h. absurd (true≢false (h.least (0 ∷ []) refl))

-- Where two shortages are least, the machine may name either.
pub run_with_a_choice-first_seat : AreAnswered (opened_with_people (script_of_one (codes "CA;IW;CO")) (CC ∷ EA ∷ []))
    ((Ceremony 61 (clock 20 10 0) (Sign 1), codes "{\"number\":32,\"refusal\":\"short\",\"seats\":[1]}") ∷ [])
    (opened_with_people (script_of_one (codes "CA;IW;CO")) (CC ∷ EA ∷ []))
unfolding rows_on_literals
run_with_a_choice-first_seat = answered _ _ (Lacking (0 ∷ []) ∷ []) _ refl

pub run_with_a_choice-second_seat : AreAnswered (opened_with_people (script_of_one (codes "CA;IW;CO")) (CC ∷ EA ∷ []))
    ((Ceremony 61 (clock 20 10 0) (Sign 1), codes "{\"number\":32,\"refusal\":\"short\",\"seats\":[2]}") ∷ [])
    (opened_with_people (script_of_one (codes "CA;IW;CO")) (CC ∷ EA ∷ []))
unfolding rows_on_literals
run_with_a_choice-second_seat = answered _ _ (Lacking (1 ∷ []) ∷ []) _ refl
