-- Moments of rooms.
use Rattle.std.specs.Prelude.{◌≡◌, ℕ, ◌==◌, Bool, true, false, ◌&&◌, nat_lt, List, Option, Some, None}
use Rattle.std.specs.List.{All}
use Rattle.kcr_base.specs.declared.limits.TheConstants.{MAX_PRESENT}
use Rattle.kcr_room.specs.{declared.SheetRow.SheetRow, declared.Stay.Stay, Room.headcount_by, Stays.is_crowd_in_by}

-- exactly one person is in the room
abbrev pub is_lone : List SheetRow → ℕ → ℕ → Bool
is_lone rows ceremony t = headcount_by rows ceremony t == 1

-- more than `MAX_PRESENT` people are in the room
abbrev pub is_crowd : List SheetRow → ℕ → ℕ → Bool
is_crowd rows ceremony t = nat_lt MAX_PRESENT (headcount_by rows ceremony t)

-- at the beginning of this stay of the ceremony more than `MAX_PRESENT` people are in its room
abbrev pub is_crowd_at : List Stay → ℕ → Stay → Bool
is_crowd_at stays ceremony stay = stay.ceremony == ceremony && is_crowd_in_by stays ceremony stay.since

-- a moment that passes; `None` if none does
abbrev pub IsSometime : (ℕ → Bool) → Option ℕ → Type 0
IsSometime test None = (t : ℕ) → test t ≡ false
IsSometime test (Some moment) = test moment ≡ true

-- a ceremony and a moment that pass; `None` if no moment of any of these ceremonies does
abbrev pub IsSoughtAmong : (ℕ → ℕ → Bool) → List ℕ → Option (ℕ × ℕ) → Type 0
IsSoughtAmong test numbers None = All (λ c. (t : ℕ) → test c t ≡ false) numbers
IsSoughtAmong test numbers (Some found) = test found.0 found.1 ≡ true
