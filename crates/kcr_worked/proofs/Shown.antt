-- What a register has and shows: a report, rows of tables, and answers.
use Rattle.std.specs.Prelude.{◌≡◌, ◌++◌, ℕ, List, [], ◌∷◌, codes, Some}
use Rattle.std.specs.Global.{Vec}
use Rattle.std.proofs.Common.{refl}
use Rattle.kcr_base.specs.declared.place.{Facility.TheVariants.East, Role.TheVariants.Ca, Role.TheVariants.Iw}
use Rattle.kcr_custody.specs.declared.Spot.TheVariants as Spots
use Rattle.kcr_custody.specs.declared.Rest.TheVariants as Rests
use Rattle.kcr_script.specs.declared.seat.Seat.TheVariants.{Staff}
use Rattle.kcr_history.specs.{declared.questions.PersonShown.PersonShown, declared.questions.RoleShown.RoleShown, Prints.custody, Tables.tables}
use Rattle.kcr_history.specs.declared.questions.Shown.TheVariants as Shown
use Rattle.kcr_history.specs.declared.row_types.StepState.TheVariants as StepStates
use Rattle.kcr_wire.specs.ShownJson.{shown_text}
use Rattle.kcr_worked.specs.Examples.{AA, BB, HSM4, bag_7, bag_8, bag_on_table, clock, entered, lines, new_year, signed_by_two, that_day}
use Rattle.kcr_worked.proofs.OnLiterals.{rows_on_literals, answers_on_literals}

-- Safes, and bags with their items: one is spent, the other lies on the table.
pub custody_of_two_bags : custody bag_on_table ≡ lines
    (codes "safe 1 EAST shut"
    ∷ codes "safe 2 EAST shut"
    ∷ codes "safe 1 WEST shut"
    ∷ codes "safe 2 WEST shut"
    ∷ codes "BB51184287 spent"
    ∷ codes "BB51184288 table EAST"
    ∷ codes "  HSM4"
    ∷ [])
unfolding rows_on_literals
custody_of_two_bags = refl

-- What the tables hold: the row that was put first stands last.
pub rows_of_a_history-keys : (tables entered).keys ≡
    record {
      key = codes "k1";
      accepted = 1;
      command = codes "/people\nAA\nAnn Abel";
      reply = codes "{\"accepted\":1}";
    } ∷ []
unfolding rows_on_literals
rows_of_a_history-keys = refl

pub rows_of_a_history-steps : (tables signed_by_two).steps ≡
    record {
      ceremony = 61;
      step = 1;
      activity = codes "Check bags";
      seats = Staff Ca ∷ Staff Iw ∷ [];
      state = StepStates.Signed;
      at = Some (clock 20 10 0);
    } ∷ []
unfolding rows_on_literals
rows_of_a_history-steps = refl

pub rows_of_a_history-seatings : (tables signed_by_two).seatings ≡
    record { ceremony = 61; step = 1; seat = 2; who = AA } ∷ record { ceremony = 61; step = 1; seat = 1; who = BB }
    ∷ []
unfolding rows_on_literals
rows_of_a_history-seatings = refl

pub rows_of_a_history-marks : (tables signed_by_two).marks ≡ record { ceremony = 61; at = clock 20 10 0 } ∷ []
unfolding rows_on_literals
rows_of_a_history-marks = refl

pub rows_of_a_history-bags : (tables bag_on_table).bags ≡
    record { serial = bag_8; spot = Spots.Table East } ∷ record { serial = bag_7; spot = Spots.Spent } ∷ []
unfolding rows_on_literals
rows_of_a_history-bags = refl

pub rows_of_a_history-items : (tables bag_on_table).items ≡ record { code = HSM4; rest = Rests.Within bag_8 } ∷ []
unfolding rows_on_literals
rows_of_a_history-items = refl

-- Answers to two questions, as JSON.
pub texts_of_answers-people : (people : Vec PersonShown) (roles : Vec RoleShown)
    → people.items ≡ record { who = AA; name = codes "Ann Abel"; roles = roles } ∷ []
    → roles.items ≡ record { since = new_year; role = Ca; until = that_day; withdrawn = Some that_day } ∷ []
    → shown_text (Shown.People people) ≡
    codes "{\"people\":[{\"name\":\"Ann Abel\",\"roles\":[{\"from\":\"2025-01-01\",\"role\":\"CA\","
    ++ codes "\"until\":\"2025-02-13\",\"withdrawn\":\"2025-02-13\"}],\"who\":\"AA\"}]}"
unfolding answers_on_literals
texts_of_answers-people = λ people roles are have. rw are (rw have refl)

pub texts_of_answers-bag : (items : Vec (List ℕ)) → items.items ≡ HSM4 ∷ []
    → shown_text (Shown.Bag (record { serial = bag_8; spot = Spots.Table East; items = items })) ≡
    codes "{\"items\":[\"HSM4\"],\"serial\":\"BB51184288\",\"spot\":\"table EAST\"}"
unfolding answers_on_literals
texts_of_answers-bag = λ items are. rw are refl
