-- The form of the ways in and out of a room.
use Rattle.std.specs.Prelude.{ℕ, List, [], ◌∷◌, Option}
use Rattle.kcr_base.specs.Forms.{by_text}
use Rattle.kcr_room.specs.{declared.Way.Way, declared.Way.TheVariants.Enter, declared.Way.TheVariants.Leave, Room.way_text}

-- the way whose text this is
unfoldable pub way_of : List ℕ → Option Way
way_of text = by_text way_text (Enter ∷ Leave ∷ []) text
