-- Of the rows with a value that at most one row has, the first is the machine's.
use Rattle.kcr_tables.proofs.Common.{◌≡◌, Bool, true, List, [], ◌∷◌, ◌++◌, filter, find, length, slice_get, Option, Some, None, refl, ap, ◌∙◌, arith}
use Rattle.kcr_tables.proofs.Common.{IsPermutation, is_eq, Database, Row, all_from, has_found, has_same, by_key, HoldsTables, TableSpec, IsTable}
use Rattle.kcr_tables.proofs.{Common.machine_rows, HasLemmas.one_key_of}
use Rattle.std.specs.Option.{option_to_list}
use Rattle.sqlite_keyed.proofs.ListLemmas.{slice_get-filter}
use Rattle.kcr_base.proofs.ListLemmas.{find-order}
use Rattle.kcr_history.specs.Tables as machine

-- the first of a table's rows that pass is the one that the machine finds, if all that pass have one key
pub first_is : {X : Type 0} (table : TableSpec X) (row_of : X → Row) (is_read : X → Type 0) → IsTable table row_of is_read → (p : X → Bool)
    → ((x y : X) → p x ≡ true → p y ≡ true → is_eq (by_key table.place.keys (row_of x) (row_of y)) ≡ true) → (m : machine.Tables) (db : Database)
    → (h : HoldsTables m db) → (rows : List X) → rows ≡ filter p (table.rows_in h.tables.t) → slice_get rows 0 ≡ find p (machine_rows table m)
first_is {X = X} table row_of is_read laws p one m db h rows is =
    let t = h.tables.t in
    let held : List X = table.rows_in t in
    let same : IsPermutation (machine_rows table m) held = laws.stands m t h.tables.stands in
    let rising = (laws.keeps db.trees t h.tables.kept).rising in
    ap (λ (l : List X). slice_get l 0) is ∙ slice_get-filter p held
    ∙ find-order p (machine_rows table m) held same (λ x found. all_from (λ y. p y ≡ true → y ≡ x) (machine_rows table m) (λ y there e.
    let it = has_found p (machine_rows table m) x found in
    one_key_of table.place.keys row_of held rising y x (has_same _ held y same there) (has_same _ held x same it.0) (one y x e it.1)))

-- what an iterator gives first is the first of its rows
pub given_first : {X : Type 0} (rows left : List X) (given : Option X) → rows ≡ option_to_list given ++ left → (given ≡ None → length rows ≡ 0) → slice_get rows 0 ≡ given
given_first [] left None split none = refl
given_first (row ∷ rows) left None split none = absurd (omega (arith, none refl))
given_first rows left (Some row) split none = ap (λ l. slice_get l 0) split
