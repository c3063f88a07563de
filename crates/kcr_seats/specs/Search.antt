-- What the search knows in between.
use Rattle.std.specs.Prelude.{◌≡◌, ◌≢◌, ℕ, ◌+◌, ◌*◌, ◌<◌, ◌≤◌, Bool, true, false, IsTrue, List, [], ◌∷◌, ◌++◌, length}
use Rattle.std.specs.Prelude.{replicate, slice_index, slice_index_or, slice_set, SomeIndex}
use Rattle.kcr_seats.specs.{Seating.IsSeating, People.contains, declared.people.People.People, declared.search.Reached.Reached}
use Rattle.std.specs.List.Sorted.{IsStrictlyIncreasing}

-- each seat of the list but the root has a person who fits it, and nobody has two of them
pub record IsSeatedBut (fits : ℕ → ℕ → Bool) (people root : ℕ) (w : List ℕ) : Type 0 where
  pub in_range : (k : ℕ) → k < length w → k ≢ root → slice_index w k < people
  pub fitting : (k : ℕ) → k < length w → k ≢ root → IsTrue (fits k (slice_index w k))
  pub distinct : (j k : ℕ) → j < length w → k < length w → j ≢ root → k ≢ root → slice_index w j ≡ slice_index w k
      → j ≡ k

-- the seats reached from the root, in the order in which they were reached: the person of each fits an earlier one, at
-- the index `from`
pub record IsReached (fits : ℕ → ℕ → Bool) (root fixed : ℕ) (w order from : List ℕ) : Type 0 where
  pub some : 0 < length order
  pub starts : slice_index order 0 ≡ root
  pub linked : length from ≡ length order
  pub low : (i : ℕ) → i < length order → fixed ≤ slice_index order i
  pub high : (i : ℕ) → i < length order → slice_index order i < length w
  pub distinct : (i j : ℕ) → i < length order → j < length order → slice_index order i ≡ slice_index order j → i ≡ j
  pub before : (i : ℕ) → 0 < i → i < length order → slice_index from i < i
  pub edge : (i : ℕ) → 0 < i → i < length order
      → IsTrue (fits (slice_index order (slice_index from i)) (slice_index w (slice_index order i)))

-- of N seats only the root is reached, and marked
pub record IsRootAlone (seats root : ℕ) (order from : List ℕ) (marked : List Bool) : Type 0 where
  pub order_is : order ≡ root ∷ []
  pub from_is : from ≡ 0 ∷ []
  pub marked_is : marked ≡ slice_set (replicate seats false) root true

-- the seat is put last, as reached from the seat at the index, and marked
pub record IsPut (seat from : ℕ) (old new : Reached) : Type 0 where
  pub order_is : new.order.items ≡ old.order.items ++ seat ∷ []
  pub from_is : new.from.items ≡ old.from.items ++ from ∷ []
  pub marked_is : new.marked.items ≡ slice_set old.marked.items seat true

-- the table marks the seats of the list, and no others
pub record IsMarked (w order : List ℕ) (marked : List Bool) : Type 0 where
  pub table : length marked ≡ length w
  pub all : (i : ℕ) → i < length order → slice_index_or marked (slice_index order i) false ≡ true
  pub only : (j : ℕ) → j < length w → slice_index_or marked j false ≡ true
      → SomeIndex order (λ i. slice_index order i ≡ j)

-- whom the first n seats of the order fit sits, from `fixed` on, on a marked seat, among the seats below `high`
abbrev pub IsClosed : (ℕ → ℕ → Bool) → ℕ → ℕ → ℕ → List ℕ → List ℕ → List Bool → Type 0
IsClosed fits fixed n high w order marked =
    (i j : ℕ) → i < n → fixed ≤ j → j < high → IsTrue (fits (slice_index order i) (slice_index w j))
    → slice_index_or marked j false ≡ true

-- the set has the people who have a seat of the list other than the root
pub record IsBusy (root : ℕ) (w : List ℕ) (busy : People) : Type 0 where
  pub all : (k : ℕ) → k < length w → k ≢ root → contains busy (slice_index w k) ≡ true
  pub only : (p : ℕ) → contains busy p ≡ true → SomeIndex w (λ k. (k ≢ root) × (slice_index w k ≡ p))

-- a person who fits a reached seat sits on a marked seat, or before `fixed`
pub record IsStuck (fits : ℕ → ℕ → Bool) (people root fixed : ℕ) (w order : List ℕ) (marked : List Bool) : Type 0 where
  pub taken : (i p : ℕ) → i < length order → p < people → IsTrue (fits (slice_index order i) p)
      → SomeIndex w (λ k. (k ≢ root) × (slice_index w k ≡ p) × (fixed ≤ k → slice_index_or marked k false ≡ true))

-- the list has the indices below n that the table marks, rising
pub record IsListed (marked : List Bool) (n : ℕ) (s : List ℕ) : Type 0 where
  pub rising : IsStrictlyIncreasing s
  pub low : (i : ℕ) → i < length s → slice_index s i < n
  pub only : (i : ℕ) → i < length s → slice_index_or marked (slice_index s i) false ≡ true
  pub all : (j : ℕ) → j < n → slice_index_or marked j false ≡ true → SomeIndex s (λ i. slice_index s i ≡ j)

-- a new seating, like the old before the seat, where the person sits now
pub record IsReassigned (fits : ℕ → ℕ → Bool) (seats people seat person : ℕ) (old new : List ℕ) : Type 0 where
  pub seating : IsSeating fits seats people new
  pub same : (k : ℕ) → k < seat → slice_index new k ≡ slice_index old k
  pub here : slice_index new seat ≡ person

-- the old seating, and no seating like it before the seat has the person there
pub record IsNotReassigned (fits : ℕ → ℕ → Bool) (seats people seat person : ℕ) (old new : List ℕ) : Type 0 where
  pub same : new ≡ old
  pub none : (v : List ℕ) → IsSeating fits seats people v → ((k : ℕ) → k < seat → slice_index v k ≡ slice_index old k)
      → slice_index v seat ≢ person

-- a new seating, like the old before the seat, and no such seating has a lower person there
pub record IsLowered (fits : ℕ → ℕ → Bool) (seats people seat : ℕ) (old new : List ℕ) : Type 0 where
  pub seating : IsSeating fits seats people new
  pub same : (k : ℕ) → k < seat → slice_index new k ≡ slice_index old k
  pub lowest : (v : List ℕ) → IsSeating fits seats people v
      → ((k : ℕ) → k < seat → slice_index v k ≡ slice_index old k) → slice_index new seat ≤ slice_index v seat

-- a bound on the steps of a try to seat one more, and of a try to give a seat to a person
unfoldable pub search_steps : ℕ → ℕ → ℕ
search_steps seats people = 4 * (seats + 1) * (people + 1)

-- a bound on the steps of the search for the lowest person of a seat
unfoldable pub lower_steps : ℕ → ℕ → ℕ
lower_steps seats people = people * (1 + seats + search_steps seats people)

-- a bound on the steps of the whole search
unfoldable pub all_steps : ℕ → ℕ → ℕ
all_steps seats people = seats * (1 + search_steps seats people) + seats + seats * (1 + lower_steps seats people)
