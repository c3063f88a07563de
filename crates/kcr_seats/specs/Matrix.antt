-- What a table of the people who fit the seats says.
use Rattle.std.specs.Prelude.{◌≡◌, ℕ, ◌<◌, Bool, length, slice_index_or}
use Rattle.kcr_seats.specs.{People.contains, People.nobody, declared.matrix.FitsMatrix.FitsMatrix}

-- whether the person fits the seat, by the table
unfoldable pub fits_of : FitsMatrix → ℕ → ℕ → Bool
fits_of table seat person = contains (slice_index_or table.rows.items seat nobody) person

-- how many seats the table has
unfoldable pub seats_of : FitsMatrix → ℕ
seats_of table = length table.rows.items

-- how many people the table has
unfoldable pub people_of : FitsMatrix → ℕ
people_of table = table.people

-- the table has these seats and people, and says of each of them what the relation says
pub record IsMatrixOf (fits : ℕ → ℕ → Bool) (seats people : ℕ) (table : FitsMatrix) : Type 0 where
  pub seats_are : seats_of table ≡ seats
  pub people_are : people_of table ≡ people
  pub same : (seat person : ℕ) → seat < seats → person < people → fits_of table seat person ≡ fits seat person
