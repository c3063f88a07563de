-- The seats that a text stands for, and the steps of a script, as values that compute.
use Rattle.std.specs.Prelude.{ℕ, ◌+◌, ◌==◌, nat_lt, nat_le, Bool, not, ◌&&◌, if◌then◌else◌, List, [], ◌∷◌, ◌++◌, length}
use Rattle.std.specs.Prelude.{map, Option, Some, None, option_map, Result, Ok, Err}
use Rattle.std.specs.List.{flat_map, find, list_all, slice_split}
use Rattle.std.specs.{Option.option_and_then, Str.is_utf8, Fmt.decimal, Cmp.Lexicographic.pointwise}
use Rattle.csv.specs.Reading.{records, default_config, strip_bom}
use Rattle.kcr_base.specs.{Same.same_text, declared.limits.TheConstants.MAX_STEPS}
use Rattle.kcr_base.specs.declared.place.Role.TheVariants.{Ca, Iw, Sa, Ssc1, Ssc2, Rkos, Sw}
use Rattle.kcr_script.specs.{declared.seat.Seat.Seat, declared.script.Step.Step, Script.Fields, Script.header}
use Rattle.kcr_script.specs.declared.seat.Seat.TheVariants.{Staff, AnyCo, AnyRksh, Co, Rksh}
use Rattle.kcr_script.specs.Seats.{Item, item_text, item_seats, pair_item}

-- how many of a seat one item may stand for, and the numbers of places
abbrev pub one_to_seven : List ℕ
one_to_seven = 1 ∷ 2 ∷ 3 ∷ 4 ∷ 5 ∷ 6 ∷ 7 ∷ []

-- the seats without a number
abbrev pub free_seats : List Seat
free_seats = Staff Ca ∷ Staff Iw ∷ Staff Sa ∷ Staff Ssc1 ∷ Staff Ssc2 ∷ Staff Rkos ∷ Staff Sw ∷ AnyCo ∷ AnyRksh ∷ []

-- a seat without a number, once to seven times
abbrev pub repeated : Seat → List Item
repeated seat = map (λ count. pair_item (seat, count)) one_to_seven

-- every item: one to seven of a seat without a number, or one seat with a number
abbrev pub all_items : List Item
all_items =
    flat_map repeated free_seats ++ map (λ n. pair_item (Co n, 1)) one_to_seven
    ++ map (λ n. pair_item (Rksh n, 1)) one_to_seven

-- the item with this text
abbrev pub item_of : List ℕ → Option Item
item_of text = find (λ item. same_text (item_text item) text) all_items

-- the texts between semicolons
abbrev pub between_semicolons : List ℕ → List (List ℕ)
between_semicolons text = slice_split (λ b. b == 59) text

-- the seats of an item before those of the others, if each is an item
abbrev pub join_items : Option Item → Option (List Seat) → Option (List Seat)
join_items None others = None
join_items (Some item) others = option_map (λ seats. item_seats item ++ seats) others

-- the seats of the items with these texts
abbrev pub seats_of_items : List (List ℕ) → Option (List Seat)
seats_of_items [] = Some []
seats_of_items (text ∷ texts) = join_items (item_of text) (seats_of_items texts)

-- the seats, if they are at most 16
abbrev pub at_most_sixteen : List Seat → Option (List Seat)
at_most_sixteen seats = if nat_le (length seats) 16 then Some seats else None

-- the seats that a text stands for
unfoldable pub seats_of : List ℕ → Option (List Seat)
seats_of text = option_and_then at_most_sixteen (seats_of_items (between_semicolons text))

-- whether a byte belongs to no control character
abbrev pub is_printing : ℕ → Bool
is_printing b = nat_le 32 b && not (b == 127)

-- whether a text can be an activity
abbrev pub is_activity : List ℕ → Bool
is_activity text = nat_le 1 (length text) && nat_le (length text) 500 && is_utf8 text && list_all is_printing text

-- the step of row k + 1, if the row is that of step k
abbrev pub step_of : ℕ → Fields → Option Step
step_of k (number ∷ activity ∷ seat_text ∷ []) =
    if same_text number (decimal k) && is_activity activity
    then option_map (λ seats. record { activity = activity; seats = seats }) (seats_of seat_text)
    else None
step_of k row = None

-- step k before the steps behind it, or the number of the first row that is not that of its step
abbrev pub join_steps : ℕ → Option Step → Result (List Step) ℕ → Result (List Step) ℕ
join_steps k None others = Err (k + 1)
join_steps k (Some step) (Ok steps) = Ok (step ∷ steps)
join_steps k (Some step) (Err row) = Err row

-- step k and those behind it; there is no step 401
abbrev pub steps_from : ℕ → List Fields → Result (List Step) ℕ
steps_from k [] = Ok []
steps_from k (row ∷ rows) = if nat_lt MAX_STEPS k then Err (k + 1) else join_steps k (step_of k row) (steps_from (k + 1) rows)

-- the steps of the rows under row 1, of which there is one at least
abbrev pub some_steps : List Fields → Result (List Step) ℕ
some_steps [] = Err 2
some_steps (row ∷ rows) = steps_from 1 (row ∷ rows)

-- the steps of all rows
abbrev pub steps_of_rows : List Fields → Result (List Step) ℕ
steps_of_rows [] = Err 1
steps_of_rows (first ∷ rows) = if pointwise same_text first header then some_steps rows else Err 1

-- the steps of the script that a text is, or the number of the first row that breaks a rule: row 1 is the first
unfoldable pub script_of : List ℕ → Result (List Step) ℕ
script_of text = steps_of_rows (records default_config (strip_bom text))
