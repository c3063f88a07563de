-- The texts of an array, read one after another.
use Rattle.kcr_wire.proofs.Common.{◌≡◌, ◌<◌, ◌≤◌, ◌+◌, ℕ, List, [], ◌∷◌, ◌++◌, Option, Some, None, option_and_then, drop, length, get_or, drop_more}
use Rattle.kcr_wire.proofs.Common.{drop_all, refl, as_str, items_view, view, after_codes, one_more}
use Rattle.std.proofs.lemmas.List.{append-nil}
use Rattle.serde_json.specs.declared.value.Value.{Value}
use Rattle.kcr_wire.specs.Members.{each_in}

module _ {V : Type 0} (form : List ℕ → Option V) (items : List Value) (i : ℕ) where
  -- an item that is of the form
  pub value_taken : (v : Value) (done : List V) (value : V) → i < length items → v ≡ get_or items i v
      → option_and_then form (as_str (view v)) ≡ Some value
      → after_codes (done ++ value ∷ []) (each_in form (items_view (drop (i + 1) items))) ≡ after_codes done (each_in form (items_view (drop i items)))
  unfolding each_in
  value_taken v done value lt e h = rw (drop_more items i v lt, ← e, h) (one_more done value (each_in form (items_view (drop (i + 1) items))))

  -- an item that is not
  pub value_missing : (v : Value) (done : List V) → i < length items → v ≡ get_or items i v
      → option_and_then form (as_str (view v)) ≡ None → after_codes done (each_in form (items_view (drop i items))) ≡ None
  unfolding each_in
  value_missing v done lt e h = rw (drop_more items i v lt, ← e, h) refl

  -- all the items are read
  pub values_end : (done : List V) → length items ≤ i → after_codes done (each_in form (items_view (drop i items))) ≡ Some done
  unfolding each_in
  values_end done le = rw (drop_all i items le, append-nil) refl
