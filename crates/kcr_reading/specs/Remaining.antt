-- What of the rows that are read one at a time is still to come, by the tables of the machine.
use Rattle.std.specs.Prelude.{◌≡◌, ℕ, ◌+◌, ◌*◌, ◌==◌, Bool, true, ◌&&◌, not, nat_lt, List, [], ◌∷◌, ◌++◌, map, filter, Option, Some, None}
use Rattle.std.specs.{Global.Global, Vec.Iter.into_iter_items, declared.vec.IntoIter.IntoIter}
use Rattle.kcr_base.specs.Same.{is_before, facility_number}
use Rattle.kcr_rows.specs.States.{safe_digit}
use Rattle.kcr_custody.specs.declared.{Bag.Bag, Item.Item, SafeRow.SafeRow}
use Rattle.kcr_room.specs.{Stays.is_listed_before, Stays.attendance_in_by, declared.Stay.Stay}
use Rattle.kcr_history.specs.Prints.{in_order, item_before, bag_before}
use Rattle.kcr_history.specs.Questions.{with_seated, with_name, with_items, is_loose}
use Rattle.kcr_history.specs.Tables as machine
use Rattle.kcr_history.specs.declared.row_types.{ExceptionRow.ExceptionRow, SeatingRow.SeatingRow, StepRow.StepRow}
use Rattle.kcr_history.specs.declared.report_rows.{BagWithItems.BagWithItems, SeatedStep.SeatedStep, StayWithName.StayWithName}
use Rattle.kcr_reading.specs.declared.stays.StayRange.{StayRange, TheVariants.SameStart, TheVariants.LaterStart}

-- the row is the next of those to come, and without one none comes
abbrev pub IsNextOf : {X : Type 0} → List X → Option X → List X → Type 0
IsNextOf all None rest = (all ≡ []) × (rest ≡ [])
IsNextOf all (Some row) rest = all ≡ row ∷ rest

-- the rows are the next of those to come, and without one none comes
pub record IsNextBatchOf {X : Type 0} (all rows rest : List X) : Type 0 where
  pub next : all ≡ rows ++ rest
  pub ends : rows ≡ [] → rest ≡ []

-- the rows are the first of these, and there is one if these have one
pub record Begin {X : Type 0} (all rows : List X) : Type 0 where
  pub rest : List X
  pub first : all ≡ rows ++ rest
  pub some : rows ≡ [] → all ≡ []

-- the rows that were read ahead; none before the first were
abbrev pub read_ahead : {X : Type 0} → Option (IntoIter X Global) → List X
read_ahead None = []
read_ahead (Some rows) = into_iter_items rows

-- the number stands behind this one; behind none stands each
abbrev pub is_past : Option ℕ → ℕ → Bool
is_past None number = true
is_past (Some last) number = nat_lt last number

-- the text stands behind this one, in byte order; behind none stands each
abbrev pub is_behind : Option (List ℕ) → List ℕ → Bool
is_behind None text = true
is_behind (Some last) text = is_before last text

-- STEPS

-- the steps of a ceremony in order
abbrev pub steps_of : ℕ → machine.Tables → List StepRow
steps_of ceremony m = in_order (λ a b. nat_lt a.step b.step) (filter (λ row. row.ceremony == ceremony) m.steps)

-- all steps of a ceremony
abbrev pub seated_steps : ℕ → machine.Tables → List SeatedStep
seated_steps ceremony m = map (with_seated m.seatings) (steps_of ceremony m)

-- those past this one
abbrev pub rows_past : Option ℕ → ℕ → machine.Tables → List StepRow
rows_past last ceremony m = filter (λ row. is_past last row.step) (steps_of ceremony m)

-- the step stands past the one and not past the other
abbrev pub is_past_until : Option ℕ → Option ℕ → ℕ → Bool
is_past_until from until step = is_past from step && not (is_past until step)

-- it is one of the ceremony, and stands so
pub record IsStepWithin (ceremony : ℕ) (from until : Option ℕ) (row : StepRow) : Type 0 where
  pub of : row.ceremony ≡ ceremony
  pub within : is_past_until from until row.step ≡ true

-- the people among these rows who filled the seats of a step
abbrev pub people_at : ℕ → List SeatingRow → List (List ℕ)
people_at step rows = map (λ row. row.who) (filter (λ row. row.step == step) rows)

-- a step with its people among these rows
abbrev pub with_people : List SeatingRow → StepRow → SeatedStep
with_people rows row = record { step = row; seated = people_at row.step rows }

-- with their people
abbrev pub steps_past : Option ℕ → ℕ → machine.Tables → List SeatedStep
steps_past last ceremony m = map (with_seated m.seatings) (rows_past last ceremony m)

-- EXCEPTIONS

-- the exceptions of a ceremony in order
abbrev pub exceptions_of : ℕ → machine.Tables → List ExceptionRow
exceptions_of ceremony m =
    in_order (λ a b. nat_lt a.exception b.exception) (filter (λ row. row.ceremony == ceremony) m.exceptions)

-- those past this one
abbrev pub exceptions_past : Option ℕ → ℕ → machine.Tables → List ExceptionRow
exceptions_past last ceremony m = filter (λ row. is_past last row.exception) (exceptions_of ceremony m)

-- STAYS

-- all stays of a ceremony, by their beginning, then initials
abbrev pub named_stays : ℕ → machine.Tables → List StayWithName
named_stays ceremony m = map (with_name m.people) (attendance_in_by m.stays ceremony)

-- the stay is listed behind this one; behind none is each
abbrev pub is_stay_past : Option Stay → Stay → Bool
is_stay_past None stay = true
is_stay_past (Some last) stay = is_listed_before last stay

-- the moment at which it begins
abbrev pub since_of : Option Stay → Option ℕ
since_of None = None
since_of (Some stay) = Some stay.since

-- it begins with this one, and its initials stand behind
abbrev pub begins_with : Stay → Stay → Bool
begins_with last stay = stay.since == last.since && is_behind (Some last.who) stay.who

-- it begins later than this one; behind none begins each
abbrev pub begins_after : Option Stay → Stay → Bool
begins_after last stay = is_past (since_of last) stay.since

-- it is one of those among which is sought
abbrev pub is_stay_in_range : StayRange → Stay → Bool
is_stay_in_range (SameStart last) = begins_with last
is_stay_in_range (LaterStart last) = begins_after last

-- those past this one
abbrev pub listed_past : Option Stay → ℕ → machine.Tables → List Stay
listed_past last ceremony m = filter (is_stay_past last) (attendance_in_by m.stays ceremony)

-- with their names
abbrev pub stays_past : Option Stay → ℕ → machine.Tables → List StayWithName
stays_past last ceremony m = map (with_name m.people) (listed_past last ceremony m)

-- SAFES

-- where a safe stands among the four: those of EAST first, and by number
abbrev pub safe_place : SafeRow → ℕ
safe_place row = facility_number row.facility * 2 + safe_digit row.safe

-- all safes in this order
abbrev pub safes_in_order : machine.Tables → List SafeRow
safes_in_order m = in_order (λ a b. nat_lt (safe_place a) (safe_place b)) m.safes

-- those past this place
abbrev pub safes_past : Option ℕ → machine.Tables → List SafeRow
safes_past last m = filter (λ row. is_past last (safe_place row)) (safes_in_order m)

-- BAGS

-- all items by code, and all bags by serial
abbrev pub items_by_code : machine.Tables → List Item
items_by_code m = in_order item_before m.items

abbrev pub bags_by_serial : machine.Tables → List Bag
bags_by_serial m = in_order bag_before m.bags

-- all bags
abbrev pub packed_bags : machine.Tables → List BagWithItems
packed_bags m = map (with_items (items_by_code m)) (bags_by_serial m)

-- those behind this one
abbrev pub serials_past : Option (List ℕ) → machine.Tables → List Bag
serials_past last m = filter (λ bag. is_behind last bag.serial) (bags_by_serial m)

-- with their items
abbrev pub bags_past : Option (List ℕ) → machine.Tables → List BagWithItems
bags_past last m = map (with_items (items_by_code m)) (serials_past last m)

-- LOOSE ITEMS

-- all loose items
abbrev pub loose_items : machine.Tables → List Item
loose_items m = filter is_loose (items_by_code m)

-- those behind this one
abbrev pub loose_past : Option (List ℕ) → machine.Tables → List Item
loose_past last m = filter (λ item. is_loose item && is_behind last item.code) (items_by_code m)
