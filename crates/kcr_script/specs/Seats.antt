-- Which text stands for which list of seats.
use Rattle.std.specs.Prelude.{◌≡◌, ℕ, suc, ◌+◌, ◌/◌, ◌%◌, ◌<◌, ◌≤◌, ◌==◌, ◌&&◌, if◌then◌else◌, false, All, List, [], ◌∷◌, ◌++◌, length, replicate}
use Rattle.std.specs.List.{flat_map, AllByRecursion}
use Rattle.kcr_script.specs.declared.seat.Seat.{Seat}
use Rattle.kcr_script.specs.Seat.{seat_text, IsSeat, can_repeat, kind}

-- an item of a seat text: a seat and how many of it
pub record Item : Type 0 where
  pub seat : Seat
  pub count : ℕ

-- one seat, or from two to seven of a seat without a number
pub record IsItem (item : Item) : Type 0 where
  pub seat : IsSeat item.seat
  pub one : 1 ≤ item.count
  pub seven : item.count ≤ 7
  pub numbered : can_repeat item.seat ≡ false → item.count ≡ 1

abbrev pub pair_item : Seat × ℕ → Item
pair_item p = record { seat = p.0; count = p.1 }

abbrev pub star_text : ℕ → List ℕ
star_text n = if n == 1 then [] else 42 ∷ (48 + n) ∷ []

abbrev pub item_text : Item → List ℕ
item_text item = seat_text item.seat ++ star_text item.count

abbrev pub after_semicolon : Item → List ℕ
after_semicolon item = 59 ∷ item_text item

-- the items' texts, with semicolons between them
abbrev pub joined : Item → List Item → List ℕ
joined first more = item_text first ++ flat_map after_semicolon more

-- the seats of an item
abbrev pub item_seats : Item → List Seat
item_seats item = replicate item.count item.seat

-- the text is made of items, and these are their seats, written out
pub record Spells (text : List ℕ) (seats : List Seat) : Type 0 where
  pub first : Item
  pub more : List Item
  pub is_first : IsItem first
  pub each_more : AllByRecursion IsItem more
  pub text_is : text ≡ joined first more
  pub seats_are : seats ≡ item_seats first ++ flat_map item_seats more

-- the text stands for the list
pub record StandsFor (text : List ℕ) (seats : List Seat) : Type 0 where
  pub spells : Spells text seats
  pub sixteen : length seats ≤ 16

-- the seats that a text can stand for
pub record IsSeats (seats : List Seat) : Type 0 where
  pub some_seat : 1 ≤ length seats
  pub sixteen : length seats ≤ 16
  pub each : All IsSeat seats

-- what a reader of one item answers: the seats, how many bytes of them, and the text after the semicolon
pub record Leads (text : List ℕ) (seat : Seat) (count : ℕ) (rest : List ℕ) : Type 0 where
  pub count_at_most : count ≤ 7
  pub shorter : length rest < length text
  pub on : (seats : List Seat) → Spells rest seats → Spells text (replicate count seat ++ seats)
  pub back : (all : List Seat) → Spells text all → (seats : List Seat) × Spells rest seats
      × (all ≡ replicate count seat ++ seats)

pub record IsLast (text : List ℕ) (seat : Seat) (count : ℕ) : Type 0 where
  pub count_at_most : count ≤ 7
  pub spells : Spells text (replicate count seat)
  pub only : (all : List Seat) → Spells text all → all ≡ replicate count seat

-- ---- the one written text

-- one more seat before the runs: seats without a number that are equal make one run
abbrev pub before_runs : Seat → List Item → List Item
before_runs s [] = record { seat = s; count = 1 } ∷ []
before_runs s (run ∷ more) =
    if can_repeat s && (kind s == kind run.seat) then record { seat = s; count = suc run.count } ∷ more
    else record { seat = s; count = 1 } ∷ run ∷ more

-- the longest runs of a list
abbrev pub runs : List Seat → List Item
runs [] = []
runs (s ∷ more) = before_runs s (runs more)

-- a run in groups of seven, then one group of the rest
abbrev pub groups : Item → List Item
groups run =
    replicate (run.count / 7) (record { seat = run.seat; count = 7 })
    ++ (if run.count % 7 == 0 then [] else record { seat = run.seat; count = run.count % 7 } ∷ [])

-- the text of some items
abbrev pub items_text : List Item → List ℕ
items_text [] = []
items_text (first ∷ more) = joined first more

unfoldable pub written : List Seat → List ℕ
written seats = items_text (flat_map groups (runs seats))

-- a text with one more item at its end
abbrev pub appended : List ℕ → Item → List ℕ
appended [] item = item_text item
appended (b ∷ bytes) item = (b ∷ bytes) ++ after_semicolon item

-- with some more
abbrev pub all_appended : List ℕ → List Item → List ℕ
all_appended text [] = text
all_appended text (item ∷ items) = all_appended (appended text item) items
