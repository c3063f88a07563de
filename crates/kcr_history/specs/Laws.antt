-- What holds of every register.
use Rattle.std.specs.Prelude.{ℕ, Bool, true, false, ◌&&◌, List, [], ◌∷◌, map, Option, Some, None, is_some, ◌↔◌, IsTrue}
use Rattle.std.specs.List.{list_any, list_all}
use Rattle.kcr_base.specs.Same.{same_text}
use Rattle.kcr_custody.specs.{Balance.all_differ, Balance.holds_items, Custody.is_on_table, Custody.is_loose_at}
use Rattle.kcr_custody.specs.declared.{Rest.Rest, Rest.TheVariants.Loose, Rest.TheVariants.Within, Spot.Spot, Spot.TheVariants.InBox}
use Rattle.kcr_room.specs.{Laws.IsAllowed, Room.headcount_by}
use Rattle.kcr_history.specs.declared.commands.{Act.Act, Act.TheVariants.Ceremony, Deed.TheVariants.Seal, Deed.TheVariants.Cut}
use Rattle.kcr_history.specs.{History.History, History.values_of_acts, Tables.sealed_serial, Tables.added_item}
use Rattle.kcr_history.specs.{Ceremonies.facility_of, Room.sheet, Seating.is_seating, Seating.IsFirst}
use Rattle.kcr_history.specs.{Custody.spot, Custody.rest, Custody.place_of_box, Machine.SeatRequest, Machine.seat_request}

-- ONCE

-- no key was accepted twice
abbrev pub IsOnce : History → Type 0
IsOnce A = IsTrue (all_differ (map (λ entry. entry.command.key) A))

-- SOUND

-- the recorded people are a seating by the whole of A; a command that needs no seats has nothing to show
abbrev pub is_seated : History → Option SeatRequest → Option (List (List ℕ)) → Bool
is_seated A None people = true
is_seated A (Some s) None = false
is_seated A (Some s) (Some people) = is_seating A s.ceremony s.at s.seats people

-- every recorded seating is one by the whole of A
abbrev pub are_seated : History → Bool
are_seated A = list_all (λ entry. is_seated A (seat_request A entry.command.act) entry.reply.seating) A

-- every recorded seating is one by the whole of A, and at no moment is exactly one person, or more than `MAX_PRESENT`, in
-- a room
pub record IsSound (A : History) : Type 0 where
  pub seated : IsTrue (are_seated A)
  pub rooms : (ceremony t : ℕ) → IsAllowed (headcount_by (sheet A) ceremony t)

-- FIRST SEATINGS

-- the recorded people are the first seating by A; a command that needs no seats has nothing to show
abbrev pub IsSeatedFirst : History → Option SeatRequest → Option (List (List ℕ)) → Type 0
IsSeatedFirst A None people = Unit {0}
IsSeatedFirst A (Some s) None = ⊥
IsSeatedFirst A (Some s) (Some people) = IsFirst A s.ceremony s.at s.seats people

-- every recorded seating is the first one by the history before it
abbrev pub HasFirstSeatings : History → Type 0
HasFirstSeatings [] = Unit {0}
HasFirstSeatings (entry ∷ A) =
    IsSeatedFirst A (seat_request A entry.command.act) entry.reply.seating × HasFirstSeatings A

-- BALANCED

-- the command adds the item
abbrev pub is_added : History → List ℕ → Bool
is_added A item = list_any (same_text item) (values_of_acts added_item A)

-- the item is loose at a facility, or within a bag that is there and not spent
abbrev pub is_kept : History → Option Rest → Bool
is_kept A None = false
is_kept A (Some (Loose facility)) = true
is_kept A (Some (Within serial)) = holds_items (spot A serial)

-- a spot in a box names a box that is there
abbrev pub has_its_box : History → Option Spot → Bool
has_its_box A (Some (InBox facility number)) = is_some (place_of_box A facility number)
has_its_box A other = true

-- a seal takes items that are loose at its ceremony's facility, a cut a bag that lies on its table
abbrev pub is_in_place : History → Act → Bool
is_in_place A (Ceremony ceremony at (Seal serial items)) =
    list_all (λ item. is_loose_at (facility_of A ceremony) (rest A item)) items
is_in_place A (Ceremony ceremony at (Cut serial)) = is_on_table (facility_of A ceremony) (spot A serial)
is_in_place A act = true

-- each command was in place by the history before it
abbrev pub were_in_place : History → Bool
were_in_place [] = true
were_in_place (entry ∷ A) = is_in_place A entry.command.act && were_in_place A

-- items are neither lost nor doubled: those that were added are those that are loose or within a bag that is not spent,
-- each once; each serial was sealed once; what was sealed was loose, and what was cut lay on the table; each box that
-- is named is there
pub record IsBalanced (A : History) : Type 0 where
  pub added_once : IsTrue (all_differ (values_of_acts added_item A))
  pub added_kept : (item : List ℕ) → IsTrue (is_added A item) ↔ IsTrue (is_kept A (rest A item))
  pub sealed_once : IsTrue (all_differ (values_of_acts sealed_serial A))
  pub in_place : IsTrue (were_in_place A)
  pub boxed : (serial : List ℕ) → IsTrue (has_its_box A (spot A serial))
