-- Written by tools/tables.py from tools/table_list.py: do not edit.
-- The schema: a table for each kind of row, with the index that its key gets.
use Rattle.std.specs.Prelude.{List, [], ◌∷◌, codes}
use Rattle.sqlite.specs.{Table.Table, Schema.Schema}
use Rattle.kcr_rows.specs.Columns.{words, number, words_or_null, number_or_null, keyed, aliased, schema_of}

-- a person under their initials
abbrev pub people : Table
people = keyed (codes "people") 0 (words (codes "who") ∷ words (codes "name") ∷ []) (1 ∷ []) []

-- a training of a person for a role, all of it its key
abbrev pub trainings : Table
trainings = keyed (codes "trainings") 2
    (words (codes "who") ∷ words (codes "role") ∷ number (codes "since") ∷ number (codes "until") ∷ [])
    (1 ∷ 2 ∷ 3 ∷ 4 ∷ []) []

-- who holds a custodian's place, under the place and the first day
abbrev pub appointments : Table
appointments = keyed (codes "appointments") 4
    (words (codes "place") ∷ number (codes "since") ∷ words (codes "who") ∷ number_or_null (codes "until") ∷ [])
    (1 ∷ 2 ∷ []) ((3 ∷ 2 ∷ 1 ∷ []) ∷ [])

-- a box under its facility and number
abbrev pub boxes : Table
boxes = keyed (codes "boxes") 7 (words (codes "facility") ∷ number (codes "box") ∷ words (codes "place") ∷ [])
    (1 ∷ 2 ∷ []) []

-- a safe under its facility and number
abbrev pub safes : Table
safes = keyed (codes "safes") 9 (words (codes "facility") ∷ number (codes "safe") ∷ number (codes "state") ∷ [])
    (1 ∷ 2 ∷ []) []

-- a bag under its serial
abbrev pub bags : Table
bags = keyed (codes "bags") 11 (words (codes "serial") ∷ words (codes "spot") ∷ []) (1 ∷ []) []

-- an item under its code
abbrev pub items : Table
items = keyed (codes "items") 13
    (words (codes "code") ∷ words_or_null (codes "facility") ∷ words_or_null (codes "serial") ∷ []) (1 ∷ [])
    ((3 ∷ 1 ∷ []) ∷ [])

-- a ceremony under its number
abbrev pub ceremonies : Table
ceremonies = keyed (codes "ceremonies") 16
    (number (codes "number") ∷ words (codes "facility") ∷ number (codes "day") ∷ number (codes "state")
    ∷ number_or_null (codes "opened") ∷ number_or_null (codes "closed") ∷ []) (1 ∷ []) []

-- the mark of a ceremony that was opened, under its number
abbrev pub marks : Table
marks = keyed (codes "marks") 18 (number (codes "ceremony") ∷ number (codes "at") ∷ []) (1 ∷ []) []

-- a step of a ceremony under both numbers
abbrev pub steps : Table
steps = keyed (codes "steps") 20
    (number (codes "ceremony") ∷ number (codes "step") ∷ words (codes "activity") ∷ words (codes "seats")
    ∷ number (codes "state") ∷ number_or_null (codes "at") ∷ []) (1 ∷ 2 ∷ []) []

-- who filled a seat of a step, under the ceremony, the step and the seat
abbrev pub seatings : Table
seatings = keyed (codes "seatings") 22
    (number (codes "ceremony") ∷ number (codes "step") ∷ number (codes "seat") ∷ words (codes "who") ∷ [])
    (1 ∷ 2 ∷ 3 ∷ []) []

-- a row of a ceremony's entry and exit sheet, under the person and the moment
abbrev pub sheet : Table
sheet = keyed (codes "sheet") 24
    (words (codes "who") ∷ number (codes "at") ∷ number (codes "ceremony") ∷ number (codes "way") ∷ []) (1 ∷ 2 ∷ []) []

-- a script exception of a ceremony under both numbers
abbrev pub exceptions : Table
exceptions = keyed (codes "exceptions") 26
    (number (codes "ceremony") ∷ number (codes "exception") ∷ words (codes "text") ∷ number (codes "at")
    ∷ number_or_null (codes "passed") ∷ []) (1 ∷ 2 ∷ []) []

-- one row with the number of the schema
abbrev pub versions : Table
versions = keyed (codes "versions") 28 (number (codes "number") ∷ []) (1 ∷ []) []

-- a row for each accepted command, under its key; its number is the row id, and that of no other row
abbrev pub keys : Table
keys = aliased (codes "keys") 30
    (words (codes "key") ∷ number_or_null (codes "accepted") ∷ words (codes "command") ∷ words (codes "reply") ∷ []) 1
    ((1 ∷ []) ∷ [])

-- a stay of a person in the room of a ceremony, under the person and its beginning
abbrev pub stays : Table
stays = keyed (codes "stays") 32
    (words (codes "who") ∷ number (codes "since") ∷ number (codes "ceremony") ∷ number_or_null (codes "until") ∷ [])
    (1 ∷ 2 ∷ []) ((3 ∷ 2 ∷ 1 ∷ []) ∷ [])

-- from which day a training is withdrawn, under the training's key
abbrev pub withdrawals : Table
withdrawals = keyed (codes "withdrawals") 35
    (words (codes "who") ∷ words (codes "role") ∷ number (codes "since") ∷ number (codes "until")
    ∷ number (codes "day") ∷ []) (1 ∷ 2 ∷ 3 ∷ 4 ∷ []) []

abbrev pub all_tables : List Table
all_tables = people ∷ trainings ∷ appointments ∷ boxes ∷ safes ∷ bags ∷ items ∷ ceremonies ∷ marks ∷ steps ∷ seatings
    ∷ sheet ∷ exceptions ∷ versions ∷ keys ∷ stays ∷ withdrawals ∷ []

abbrev pub register_schema : Schema
register_schema = schema_of all_tables
