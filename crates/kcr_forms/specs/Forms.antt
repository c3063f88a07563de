-- The forms of texts, numbers and lists, as the value that each of them tells.
use Rattle.std.specs.Prelude.{ℕ, ◌&&◌, List, [], ◌∷◌, length, Bool, true, false, Option, Some, None, if◌then◌else◌}
use Rattle.kcr_base.specs.Lists.{are_apart}
pub use Rattle.kcr_base.specs.Forms.{is_between, is_key_byte, by_text}
unfoldable pub use Rattle.kcr_base.specs.Forms.{initials_of, key_of, serial_of, script_of, number_by_text, day_of, moment_of}
unfoldable pub use Rattle.kcr_base.specs.Forms.{ceremony_of, box_of, step_of, number_of, role_of, facility_of, place_of}
unfoldable pub use Rattle.kcr_room.specs.Forms.{way_of}
unfoldable pub use Rattle.kcr_custody.specs.Destinations.{destination_of}
use Rattle.kcr_custody.specs.declared.SafeNumber.{SafeNumber, TheVariants.One, TheVariants.Two}
use Rattle.kcr_history.specs.Texts.{safe_text, truth_text}

-- `true` or `false`
unfoldable pub truth_of : List ℕ → Option Bool
truth_of text = by_text truth_text (true ∷ false ∷ []) text

-- the safe whose text this is
unfoldable pub safe_of : List ℕ → Option SafeNumber
safe_of text = by_text safe_text (One ∷ Two ∷ []) text

-- the number, if it is of 1 to `limit`
unfoldable pub number_to : ℕ → ℕ → Option ℕ
number_to limit n = if is_between 1 limit n then Some n else None

-- the list, if it has 1 to `limit` values, none of them twice by their texts
unfoldable pub listed_of : {V : Type 0} → ℕ → (List V → List (List ℕ)) → List V → Option (List V)
listed_of limit texts list = if is_between 1 limit (length (texts list)) && are_apart (texts list) then Some list else None
