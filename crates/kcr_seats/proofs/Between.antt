-- What loops of the search know in between.
use Rattle.std.specs.Prelude.{◌≡◌, ◌≢◌, ℕ, ◌<◌, ◌≤◌, Bool, false, true, IsTrue, List, length, slice_index, slice_index_or}
use Rattle.kcr_seats.specs.Seating.{IsSeating}
use Rattle.kcr_seats.specs.Search.{IsSeatedBut, IsReached, IsMarked, IsClosed}

-- how far the seats have been asked whose people fit the seat at the index `next` of the order
pub record IsRow (fits : ℕ → ℕ → Bool) (root fixed next other seat : ℕ) (w order from : List ℕ)
    (marked : List Bool) : Type 0 where
  pub reached : IsReached fits root fixed w order from
  pub marks : IsMarked w order marked
  pub closed : IsClosed fits fixed next (length w) w order marked
  pub row : (j : ℕ) → fixed ≤ j → j < other → IsTrue (fits seat (slice_index w j))
      → slice_index_or marked j false ≡ true
  pub inside : next < length order
  pub here : slice_index order next ≡ seat

-- the first n seats of the list have people who fit them, each another
pub record IsGoodBelow (fits : ℕ → ℕ → Bool) (people n : ℕ) (w : List ℕ) : Type 0 where
  pub in_range : (k : ℕ) → k < n → slice_index w k < people
  pub fitting : (k : ℕ) → k < n → IsTrue (fits k (slice_index w k))
  pub apart : (j k : ℕ) → j < k → k < n → slice_index w j ≢ slice_index w k

-- the way from the seat at an index of the order back to the root, open to a person who has no seat
pub record IsAlternatingPath (fits : ℕ → ℕ → Bool) (people root index person : ℕ) (w order from : List ℕ) : Type 0 where
  pub seated : IsSeatedBut fits people root w
  pub known : person < people
  pub free : (k : ℕ) → k < length w → k ≢ root → slice_index w k ≢ person
  pub inside : index < length order
  pub fitting : IsTrue (fits (slice_index order index) person)
  pub before : (i : ℕ) → 0 < i → i ≤ index → slice_index from i < i
  pub edge : (i : ℕ) → 0 < i → i ≤ index
      → IsTrue (fits (slice_index order (slice_index from i)) (slice_index w (slice_index order i)))

-- a seating, and no seating that is like it before a seat below n has a lower person there
pub record IsFirstBelow (fits : ℕ → ℕ → Bool) (seats people n : ℕ) (w : List ℕ) : Type 0 where
  pub seating : IsSeating fits seats people w
  pub first : (v : List ℕ) (k : ℕ) → IsSeating fits seats people v → k < n
      → ((j : ℕ) → j < k → slice_index v j ≡ slice_index w j) → slice_index w k ≤ slice_index v k
