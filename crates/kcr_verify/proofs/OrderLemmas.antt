-- Rows in the order of their keys stand in one order alone.
use Rattle.kcr_verify.proofs.Common.{◌≡◌, ℕ, false, List, map, ap, IsPermutation, Ordering, Less, is_gt, machine_rows}
use Rattle.kcr_verify.proofs.Common.{IsTotalOrder, on_total, IsPermutation-sym, IsPermutation-trans, Row, IsAscending}
use Rattle.kcr_verify.proofs.Common.{ascending_weaker, sorted_unique, Tables, AreRows, TableSpec, IsTable}
use Rattle.sqlite_exec.proofs.PartitionLemmas.{sorted_from_ascending}
use Rattle.kcr_rows.specs.Keyed.{by_key}
use Rattle.kcr_rows.proofs.{OrderLemmas.from_map, SameLemmas.key_total}
use Rattle.kcr_tables.specs.KeysLaws as keys

module _ {X : Type 0} (keys : ℕ) (row_of : X → Row) where
  abbrev cmp : X → X → Ordering
  cmp a b = by_key keys (row_of a) (row_of b)

  total : IsTotalOrder cmp
  total = on_total row_of (key_total keys)

  -- the same values, each list of them by rising keys
  one_order : (m xs ys : List X) → IsAscending (λ a b. by_key keys a b ≡ Less) (map row_of xs) → IsAscending (λ a b. by_key keys a b ≡ Less) (map row_of ys)
      → IsPermutation m xs → IsPermutation m ys → ys ≡ xs
  one_order m xs ys up down first second =
      sorted_unique cmp total xs ys (from_map (λ a b. by_key keys a b ≡ Less) row_of xs up) (IsPermutation-trans xs m ys (IsPermutation-sym m xs first) second)
      (sorted_from_ascending cmp total ys
      (ascending_weaker (λ a b. cmp a b ≡ Less) (λ a b. is_gt (cmp a b) ≡ false) (λ a b less. ap is_gt less) ys
      (from_map (λ a b. by_key keys a b ≡ Less) row_of ys down)))

-- the machine's rows of one table are kept in one order
pub one_table : {X : Type 0} (table : TableSpec X) (row_of : X → Row) (is_read : X → Type 0) → IsTable table row_of is_read
    → (m : Tables) (xs ys : List X) → AreRows table.rows_in m xs → AreRows table.rows_in m ys → ys ≡ xs
one_table {X} table row_of is_read laws m xs ys a b =
    one_order table.place.keys row_of (machine_rows table m) xs ys
    (rw a.lists (laws.keeps a.db a.t a.kept).rising) (rw b.lists (laws.keeps b.db b.t b.kept).rising) a.same b.same
