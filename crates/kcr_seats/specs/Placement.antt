-- What a try to seat one more seat ends with.
use Rattle.std.specs.Prelude.{◌≡◌, ℕ, ◌<◌, Bool, List, length, slice_index}
use Rattle.kcr_seats.specs.Seating.{IsSeating}
use Rattle.kcr_seats.specs.Search.{IsSeatedBut, IsReached, IsMarked, IsStuck}
use Rattle.kcr_seats.specs.declared.search.Placement.{Placement, TheVariants.Placed, TheVariants.Stuck}

-- all seats have people now, and those before `fixed` have theirs
pub record IsPlaced (fits : ℕ → ℕ → Bool) (people fixed : ℕ) (old new : List ℕ) : Type 0 where
  pub seating : IsSeating fits (length old) people new
  pub same : (k : ℕ) → k < fixed → slice_index new k ≡ slice_index old k

-- the marked seats were reached from the root, and nobody else fits them
pub record IsHallViolator (fits : ℕ → ℕ → Bool) (people root fixed : ℕ) (w : List ℕ) (marked : List Bool) : Type 0 where
  pub seated : IsSeatedBut fits people root w
  pub order : List ℕ
  pub from : List ℕ
  pub reached : IsReached fits root fixed w order from
  pub marks : IsMarked w order marked
  pub stuck : IsStuck fits people root fixed w order marked

abbrev pub IsPlacement : (ℕ → ℕ → Bool) → ℕ → ℕ → ℕ → List ℕ → List ℕ → Placement → Type 0
IsPlacement fits people root fixed old new Placed = IsPlaced fits people fixed old new
IsPlacement fits people root fixed old new (Stuck marked) = (new ≡ old) × IsHallViolator fits people root fixed old marked.items
