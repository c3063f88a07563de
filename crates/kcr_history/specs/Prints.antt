-- The three reports, byte by byte: the annotated script of a ceremony, its attendance, and custody.
use Rattle.std.specs.Prelude.{ℕ, ◌==◌, Bool, true, false, ◌&&◌, ◌||◌, nat_lt, List, [], ◌∷◌, ◌++◌, map, filter, find}
use Rattle.std.specs.Prelude.{codes, Option, Some, None, option_map, unwrap_or, if◌then◌else◌}
use Rattle.std.specs.{Fmt.decimal, List.list_any, List.flat_map, List.join_with_byte}
use Rattle.kcr_base.specs.{Same.same_text, Same.is_before, Facility.facility_text, Day.day_text, Moment.moment_text}
use Rattle.kcr_base.specs.declared.place.Role.TheVariants.{Ca, Iw}
use Rattle.kcr_people.specs.declared.Person.{Person}
use Rattle.kcr_custody.specs.{Custody.lies_in, Spots.spot_text}
use Rattle.kcr_custody.specs.declared.{Bag.Bag, Item.Item, SafeRow.SafeRow, Rest.Rest, Rest.TheVariants.Loose, Rest.TheVariants.Within}
use Rattle.kcr_room.specs.{Stays.stays_by, Stays.attendance_in_by, declared.Stay.Stay}
use Rattle.kcr_script.specs.{Seat.seat_text, Seats.written, declared.seat.Seat.Seat, declared.seat.Seat.TheVariants.Staff}
use Rattle.kcr_history.specs.declared.row_types.{CeremonyRow.CeremonyRow, ExceptionRow.ExceptionRow}
use Rattle.kcr_history.specs.declared.row_types.{CeremonyState.CeremonyState, SeatingRow.SeatingRow, StepRow.StepRow}
use Rattle.kcr_history.specs.declared.row_types.CeremonyState.TheVariants as States
use Rattle.kcr_history.specs.declared.row_types.StepState.{StepState, TheVariants.Undone, TheVariants.Signed, TheVariants.Passed}
use Rattle.kcr_history.specs.{History.History, Room.sheet, Texts.safe_text}
use Rattle.kcr_history.specs.Tables.{people, safes, bags, items, ceremony_row, steps, seatings, exceptions}

-- ORDER

-- a thing put in its place among others that are in order
abbrev pub put_in_order : {X : Type 0} → (X → X → Bool) → X → List X → List X
put_in_order before x [] = x ∷ []
put_in_order before x (y ∷ ys) = if before y x then y ∷ put_in_order before x ys else x ∷ y ∷ ys

-- things in order, if `before` tells which of two comes first
abbrev pub in_order : {X : Type 0} → (X → X → Bool) → List X → List X
in_order before [] = []
in_order before (x ∷ xs) = put_in_order before x (in_order before xs)

-- LINES

-- a line: its text, and the line feed that ends it
abbrev pub ends_line : List ℕ → List ℕ
ends_line text = text ++ codes "\n"

-- words with a blank between each two
abbrev pub words : List (List ℕ) → List ℕ
words texts = join_with_byte 32 texts

abbrev pub line_of : List (List ℕ) → List ℕ
line_of texts = ends_line (words texts)

-- THE ANNOTATED SCRIPT

abbrev pub state_text : CeremonyState → List ℕ
state_text States.Planned = codes "planned"
state_text States.Open = codes "open"
state_text States.Closed = codes "closed"

-- a word and a moment, if there is one
abbrev pub moment_line : List ℕ → Option ℕ → List ℕ
moment_line word None = []
moment_line word (Some at) = line_of (word ∷ moment_text at ∷ [])

-- the rows of the step's seating, seat by seat
abbrev pub seatings_at : List SeatingRow → ℕ → ℕ → List SeatingRow
seatings_at rows ceremony step =
    in_order (λ a b. nat_lt a.seat b.seat) (filter (λ row. row.ceremony == ceremony && row.step == step) rows)

-- the people of the step, seat by seat
abbrev pub seated_at : List SeatingRow → ℕ → ℕ → List (List ℕ)
seated_at rows ceremony step = map (λ row. row.who) (seatings_at rows ceremony step)

-- the seats that were filled: the step's own, or CA and IW if it was passed
abbrev pub seats_filled : StepRow → List Seat
seats_filled row = by_state row.state
  where
    by_state : StepState → List Seat
    by_state Passed = Staff Ca ∷ Staff Iw ∷ []
    by_state other = row.seats

-- a line for each seat: two spaces, the seat's item, its person
abbrev pub seat_lines : List Seat → List (List ℕ) → List ℕ
seat_lines (seat ∷ seats) (who ∷ people) =
    ends_line (codes "  " ++ words (seat_text seat ∷ who ∷ [])) ++ seat_lines seats people
seat_lines seats people = []

-- a step that is done, with the word for how, and its people
abbrev pub done_lines : List ℕ → List SeatingRow → StepRow → List ℕ
done_lines word rows row =
    line_of (decimal row.step ∷ word ∷ moment_text (unwrap_or row.at 0) ∷ row.activity ∷ [])
    ++ seat_lines (seats_filled row) (seated_at rows row.ceremony row.step)

-- a step that is not done, and its seats
abbrev pub open_lines : StepRow → List ℕ
open_lines row =
    line_of (decimal row.step ∷ codes "open" ∷ row.activity ∷ []) ++ ends_line (codes "  seats " ++ written row.seats)

abbrev pub step_lines : List SeatingRow → StepRow → List ℕ
step_lines rows row = by_state row.state
  where
    by_state : StepState → List ℕ
    by_state Undone = open_lines row
    by_state Signed = done_lines (codes "signed") rows row
    by_state Passed = done_lines (codes "passed") rows row

-- the step that an exception passed, as two words
abbrev pub passed_words : Option ℕ → List (List ℕ)
passed_words None = []
passed_words (Some step) = codes "step" ∷ decimal step ∷ []

abbrev pub exception_line : ExceptionRow → List ℕ
exception_line row =
    line_of
    (codes "Exception" ∷ decimal row.exception ∷ moment_text row.at ∷ (passed_words row.passed ++ row.text ∷ []))

-- the first line: the ceremony's number, facility, day and state
abbrev pub head_line : CeremonyRow → List ℕ
head_line row =
    line_of
    (codes "Ceremony" ∷ decimal row.number ∷ facility_text row.facility ∷ day_text row.day ∷ state_text row.state ∷ [])

-- the steps of the ceremony in order
abbrev pub steps_in_order : History → ℕ → List StepRow
steps_in_order A ceremony = in_order (λ a b. nat_lt a.step b.step) (filter (λ row. row.ceremony == ceremony) (steps A))

-- the exceptions of the ceremony in order
abbrev pub exceptions_in_order : History → ℕ → List ExceptionRow
exceptions_in_order A ceremony =
    in_order (λ a b. nat_lt a.exception b.exception) (filter (λ row. row.ceremony == ceremony) (exceptions A))

-- the annotated script of a planned ceremony
abbrev pub annotated : History → ℕ → List ℕ
annotated A ceremony =
    head_line (ceremony_row A ceremony)
    ++ moment_line (codes "Opened") (ceremony_row A ceremony).opened
    ++ flat_map (step_lines (seatings A)) (steps_in_order A ceremony)
    ++ flat_map exception_line (exceptions_in_order A ceremony)
    ++ moment_line (codes "Closed") (ceremony_row A ceremony).closed

-- ATTENDANCE

-- the person's name
abbrev pub name_of : List Person → List ℕ → List ℕ
name_of rows who = unwrap_or (option_map (λ row. row.name) (find (λ row. same_text row.who who) rows)) []

-- a field wants quotes: it has a comma, a quote or a line break
abbrev pub wants_quotes : List ℕ → Bool
wants_quotes text = list_any (λ c. c == 44 || c == 34 || c == 10 || c == 13) text

-- a text with each quote doubled
abbrev pub quotes_doubled : List ℕ → List ℕ
quotes_doubled text = flat_map (λ c. if c == 34 then 34 ∷ 34 ∷ [] else c ∷ []) text

-- a field of CSV
abbrev pub csv_field : List ℕ → List ℕ
csv_field text = if wants_quotes text then codes "\"" ++ quotes_doubled text ++ codes "\"" else text

-- a row of CSV: the fields with commas between them
abbrev pub csv_line : List (List ℕ) → List ℕ
csv_line fields = ends_line (join_with_byte 44 (map csv_field fields))

-- who, with their name, and when they came and went
abbrev pub stay_line : List Person → Stay → List ℕ
stay_line rows stay =
    csv_line (stay.who ∷ name_of rows stay.who ∷ moment_text stay.since
    ∷ unwrap_or (option_map moment_text stay.until) [] ∷ [])

-- the attendance of a ceremony: a row for each stay, by its beginning, then initials
abbrev pub attendance : History → ℕ → List ℕ
attendance A ceremony =
    csv_line (codes "who" ∷ codes "name" ∷ codes "in" ∷ codes "out" ∷ [])
    ++ flat_map (stay_line (people A)) (attendance_in_by (stays_by (sheet A)) ceremony)

-- CUSTODY

abbrev pub open_text : Bool → List ℕ
open_text true = codes "open"
open_text false = codes "shut"

abbrev pub safe_line : SafeRow → List ℕ
safe_line row = line_of (codes "safe" ∷ safe_text row.safe ∷ facility_text row.facility ∷ open_text row.is_open ∷ [])

abbrev pub item_before : Item → Item → Bool
item_before a b = is_before a.code b.code

abbrev pub bag_before : Bag → Bag → Bool
bag_before a b = is_before a.serial b.serial

-- all items by code
abbrev pub items_in_order : History → List Item
items_in_order A = in_order item_before (items A)

-- all bags by serial
abbrev pub bags_in_order : History → List Bag
bags_in_order A = in_order bag_before (bags A)

-- an item in a bag: two spaces, and its code
abbrev pub packed_line : Item → List ℕ
packed_line item = ends_line (codes "  " ++ item.code)

-- a bag, where it is, and its items
abbrev pub bag_lines : List Item → Bag → List ℕ
bag_lines rows bag =
    line_of (bag.serial ∷ spot_text bag.spot ∷ []) ++ flat_map packed_line (filter (lies_in bag.serial) rows)

-- an item that is loose: where, and its code
abbrev pub loose_line : Item → List ℕ
loose_line item = by_rest item.rest
  where
    by_rest : Rest → List ℕ
    by_rest (Loose facility) = line_of (codes "loose" ∷ facility_text facility ∷ item.code ∷ [])
    by_rest (Within serial) = []

-- custody: the four safes; bags by serial, each with its items by code; loose items by code
abbrev pub custody : History → List ℕ
custody A =
    flat_map safe_line (safes A)
    ++ flat_map (bag_lines (items_in_order A)) (bags_in_order A)
    ++ flat_map loose_line (items_in_order A)
