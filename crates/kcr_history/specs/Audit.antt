-- What an audit may find in rows, whether a register has stored them or not.
use Rattle.std.specs.Prelude.{◌≡◌, ℕ, suc, ◌<◌, ◌==◌, Bool, true, false, not, ◌&&◌, ◌||◌, nat_lt, List, [], ◌∷◌, find, Option, Some, None, IsTrue}
use Rattle.std.specs.List.{list_any, count_by}
use Rattle.kcr_base.specs.{Days.day_of, Same.same_text, declared.limits.TheConstants.MAX_PRESENT}
use Rattle.kcr_room.specs.Room.{in_by, headcount_by}
use Rattle.kcr_custody.specs.{Balance.holds_items, Custody.is_box}
use Rattle.kcr_custody.specs.declared.{Rest.Rest, Rest.TheVariants.Loose, Rest.TheVariants.Within, Spot.Spot, Spot.TheVariants.InBox}
use Rattle.kcr_script.specs.declared.seat.Seat.{Seat}
use Rattle.kcr_history.specs.declared.row_types.{CeremonyRow.CeremonyRow, SeatingRow.SeatingRow, StepRow.StepRow}
use Rattle.kcr_history.specs.declared.row_types.StepState.{StepState, TheVariants.Undone}
use Rattle.kcr_history.specs.declared.views.{Finding.Finding, FullView.FullView}
use Rattle.kcr_history.specs.declared.views.Finding.TheVariants as Findings
use Rattle.kcr_history.specs.{Prints.seatings_at, Prints.seated_at, Prints.seats_filled, Fitting.fits_by}

-- SEATINGS, BY THE ROWS

-- the person is in the room of the ceremony at t and fits the seat on its day
abbrev pub eligible_by : FullView → CeremonyRow → ℕ → Seat → List ℕ → Bool
eligible_by view ceremony t seat who =
    in_by view.sheet.items who ceremony.number t
    && fits_by view.view.trainings.items view.view.withdrawals.items view.view.appointments.items ceremony.facility
    (day_of t) seat who

-- the people, all distinct, are each eligible for the seat in their position
abbrev pub is_seating_by : FullView → CeremonyRow → ℕ → List Seat → List (List ℕ) → Bool
is_seating_by view ceremony t [] [] = true
is_seating_by view ceremony t (seat ∷ seats) (who ∷ people) =
    eligible_by view ceremony t seat who && not (list_any (same_text who) people)
    && is_seating_by view ceremony t seats people
is_seating_by view ceremony t seats people = false

-- the step was signed or passed
abbrev pub is_done : StepState → Bool
is_done Undone = false
is_done other = true

-- the rows are of this seat, of the next one, and so on
abbrev pub are_numbered : ℕ → List SeatingRow → Bool
are_numbered seat [] = true
are_numbered seat (row ∷ rows) = row.seat == seat && are_numbered (suc seat) rows

-- the recorded seats are numbered from 1, and the recorded people fill the step's seats, in its ceremony and at its
-- moment
abbrev pub has_valid_seating : FullView → StepRow → Option CeremonyRow → Option ℕ → Bool
has_valid_seating view row (Some ceremony) (Some t) =
    are_numbered 1 (seatings_at view.view.seatings.items row.ceremony row.step)
    && is_seating_by view ceremony t (seats_filled row) (seated_at view.view.seatings.items row.ceremony row.step)
has_valid_seating view row ceremony at = false

-- the row of the ceremony
abbrev pub ceremony_in : FullView → ℕ → Option CeremonyRow
ceremony_in view number = find (λ row. row.number == number) view.view.ceremonies.items

-- the row is of this step, which was signed or passed, and its recorded people are no seating
abbrev pub has_invalid_seating : FullView → ℕ → ℕ → StepRow → Bool
has_invalid_seating view ceremony step row =
    row.ceremony == ceremony && row.step == step && is_done row.state
    && not (has_valid_seating view row (ceremony_in view row.ceremony) row.at)

-- CUSTODY, BY THE ROWS

-- there is a row of the bag that says it is not spent
abbrev pub is_bag_there : FullView → List ℕ → Bool
is_bag_there view serial =
    list_any (λ bag. same_text bag.serial serial && holds_items (Some bag.spot)) view.view.bags.items

-- the item is within a bag that is spent or not there
abbrev pub is_lost : FullView → Rest → Bool
is_lost view (Loose facility) = false
is_lost view (Within serial) = not (is_bag_there view serial)

-- the bag is in a box that is not there
abbrev pub is_in_missing_box : FullView → Spot → Bool
is_in_missing_box view (InBox facility number) = not (list_any (is_box facility number) view.view.boxes.items)
is_in_missing_box view spot = false

-- more than one row passes the test
abbrev pub is_duplicate : {X : Type 0} → (X → Bool) → List X → Bool
is_duplicate test rows = nat_lt 1 (count_by test rows)

-- FINDINGS

-- the finding is true of the rows
abbrev pub IsTrueOf : FullView → Finding → Type 0
IsTrueOf view (Findings.Seating ceremony step) =
    IsTrue (list_any (has_invalid_seating view ceremony step) view.view.steps.items)
IsTrueOf view (Findings.Custody item) =
    IsTrue (is_duplicate (λ row. same_text row.code item) view.view.items.items
    || list_any (λ row. same_text row.code item && is_lost view row.rest) view.view.items.items)
IsTrueOf view (Findings.Bag serial) =
    IsTrue (is_duplicate (λ row. same_text row.serial serial) view.view.bags.items
    || list_any (λ row. same_text row.serial serial && is_in_missing_box view row.spot) view.view.bags.items)
IsTrueOf view (Findings.Key key) = IsTrue (is_duplicate (λ row. same_text row.key key) view.keys.items)
IsTrueOf view (Findings.Lone ceremony moment) = headcount_by view.sheet.items ceremony moment ≡ 1
IsTrueOf view (Findings.Crowd ceremony moment) = MAX_PRESENT < headcount_by view.sheet.items ceremony moment

-- the kinds of finding in the order in which they are sought
abbrev pub rank : Finding → ℕ
rank (Findings.Seating ceremony step) = 0
rank (Findings.Custody item) = 1
rank (Findings.Bag serial) = 2
rank (Findings.Key key) = 3
rank (Findings.Lone ceremony moment) = 4
rank (Findings.Crowd ceremony moment) = 5

-- what an audit answers: a finding that is true of the rows, while none of an earlier kind is; `None` if none is true
abbrev pub IsAudit : FullView → Option Finding → Type 0
IsAudit view None = (finding : Finding) → IsTrueOf view finding → ⊥
IsAudit view (Some found) =
    IsTrueOf view found × ((other : Finding) → rank other < rank found → IsTrueOf view other → ⊥)
