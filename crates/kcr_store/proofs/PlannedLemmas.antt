-- The row of a ceremony of a history.
use Rattle.kcr_store.proofs.Common.{◌≡◌, ℕ, filter, IsPermutation-refl, is_ceremony, History, ceremonies, ceremony_row, tables, is_of_number}
use Rattle.kcr_store.proofs.Common.{ceremony_by}
use Rattle.kcr_base.proofs.ListLemmas.{some_if}
use Rattle.kcr_machine.proofs.Scenes.{ceremony-shown}

-- a ceremony has a row if it was planned
pub planned_row : (A : History) (ceremony : ℕ) → ceremony_by (tables A).ceremonies ceremony ≡ some_if (is_ceremony A ceremony) (ceremony_row A ceremony)
planned_row A ceremony = ceremony-shown A ceremony (ceremonies A) (IsPermutation-refl (filter (is_of_number ceremony) (ceremonies A)))
