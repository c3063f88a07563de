-- The row of a key, sought along the rows.
use Rattle.kcr_machine.proofs.Common.{◌≡◌, ℕ, ◌<◌, ◌≤◌, true, List, length, get_or, drop, Some, None, arith, drop_all, KeyRow, is_of_key, row_of_key}
use Rattle.std.proofs.Math.Seq.{drop-cons}

-- a row of the key that no row of the key precedes is the key's row, where the rows are seen through a reference
pub key-seen : (key : List ℕ) (seen rows : List KeyRow) (i : ℕ) (row : KeyRow) → seen ≡ rows → i < length seen → row ≡ get_or seen i row
    → is_of_key key row ≡ true → row_of_key key (drop i rows) ≡ row_of_key key rows → row_of_key key rows ≡ Some row
key-seen key seen rows i row same low is own left = grind (arith, drop-cons rows i row)

-- if the search has passed all of them, none is the key's
pub none-seen : (key : List ℕ) (seen rows : List KeyRow) (i : ℕ) → seen ≡ rows → length seen ≤ i
    → row_of_key key (drop i rows) ≡ row_of_key key rows → row_of_key key rows ≡ None
none-seen key seen rows i same past left = grind (arith, drop_all i rows)
