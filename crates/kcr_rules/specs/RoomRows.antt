-- What is decided of safes and of items, by the rows of a view.
use Rattle.std.specs.Prelude.{ℕ, Bool, List, [], ◌∷◌}
use Rattle.kcr_base.specs.{Days.day_of, declared.place.Role.TheVariants.Ssc1, declared.place.Role.TheVariants.Ssc2}
use Rattle.kcr_custody.specs.declared.{SafeOperator.SafeOperator, SafeNumber.SafeNumber, Rest.TheVariants.Loose}
use Rattle.kcr_history.specs.declared.views.Change.{Change, TheVariants.PutSafe, TheVariants.PutItem, TheVariants.PutMark}
use Rattle.kcr_history.specs.declared.views.View.{View}
use Rattle.kcr_rules.specs.CeremonyStatus.{is_in_by, is_trained_by, facility_by}

-- SAFES

-- who opens or shuts a safe, in the room of the ceremony at the moment
abbrev pub safe_operator_by : View → List ℕ → ℕ → ℕ → SafeOperator
safe_operator_by view by ceremony at =
    record {
      who = by;
      is_present = is_in_by view.stays.items by ceremony at;
      has_ssc1 = is_trained_by view by Ssc1 (day_of at);
      has_ssc2 = is_trained_by view by Ssc2 (day_of at);
    }

-- the rows that it puts: the safe's and the mark's
abbrev pub turn_changes_by : View → ℕ → SafeNumber → Bool → ℕ → List Change
turn_changes_by view ceremony safe state at =
    PutSafe (record { facility = facility_by view ceremony; safe = safe; is_open = state })
    ∷ PutMark (record { ceremony = ceremony; at = at }) ∷ []

-- ITEMS

-- the rows that it puts: the item's and the mark's
abbrev pub add_item_changes_by : View → ℕ → List ℕ → ℕ → List Change
add_item_changes_by view ceremony item at =
    PutItem (record { code = item; rest = Loose (facility_by view ceremony) })
    ∷ PutMark (record { ceremony = ceremony; at = at }) ∷ []
