-- The number of a database that holds the tables of a register.
use Rattle.kcr_older.proofs.Common.{inl, inr, take, ◌≡◌, ◌⊎◌, ◌∙◌, ap, sym, subst₂, refl, ℕ, ◌+◌, pos, ℤ, List, [], ◌∷◌, map, Option, Some, None}
use Rattle.kcr_older.proofs.Common.{IsPermutation, IsPermutation-map, KeepsRows, Database, Row, Int, Trees, map-map, TreeHolds, cells, version_row}
use Rattle.kcr_older.proofs.Common.{Version, keeps_on, StoredTables, versions_place, schema_prefix, all_tables, versions, HoldsFirst, numbered}
use Rattle.kcr_older.proofs.Common.{rules, numbered_table, numbers_in, only_number, version_in}
use Rattle.sqlite.specs.Order.{column}
use Rattle.sqlite_schema.specs.Names.{same_name}
use Rattle.kcr_older.proofs.NumberLemmas.{same_number}

-- the versions are 1, 2 and 3
abbrev pub IsKnown : ℕ → Type 0
IsKnown version = (version ≡ 1) ⊎ ((version ≡ 2) ⊎ (version ≡ 3))

-- every version has the table of its number
pub has_versions : (version : ℕ) → IsKnown version → numbered_table (schema_prefix (14 + version)) ≡ Some versions
unfolding same_name
has_versions version (inl one) = rw one refl
has_versions version (inr (inl two)) = rw two refl
has_versions version (inr (inr three)) = rw three refl

-- the number in the one row
abbrev pub only_version : List Version → Option ℤ
only_version [] = None
only_version (version ∷ []) = Some (pos version.number)
only_version (version ∷ next ∷ more) = None

by_number : (rows : List Version) → only_number (map (λ v. Int (pos v.number)) rows) ≡ only_version rows
by_number [] = refl
by_number (version ∷ []) = refl
by_number (version ∷ next ∷ more) = refl

-- the number of a database of a version is that in the one row of its table of versions
pub held_version : (version : ℕ) → IsKnown version → (db : Database) (rows : List Version) → db.schema ≡ schema_prefix (14 + version)
    → TreeHolds versions_place db.trees (map version_row rows) → version_in db ≡ only_version rows
held_version version known db rows schema keeps =
    let head = λ (r : Row). column r 0 in
    let number = λ (v : Version). Int (pos v.number) in
    let same = IsPermutation-map head _ _ keeps.same in
    let mine = map-map head version_row rows in
    let theirs = map-map head (cells versions_place) (db.trees 28) in
    let there : numbered_table db.schema ≡ Some versions = ap numbered_table schema ∙ has_versions version known in
    (rw there refl) ∙ sym (same_number (map number rows) (numbers_in versions db.trees) (subst₂ IsPermutation mine theirs same)) ∙ by_number rows

shares_versions : (version : ℕ) → IsKnown version → (old new : Trees) → KeepsRows (take (14 + version) all_tables) old new → new 28 ≡ old 28
shares_versions version (inl one) old new s = let keeps = rw one at s in search (rules, keeps)
shares_versions version (inr (inl two)) old new s = let keeps = rw two at s in search (rules, keeps)
shares_versions version (inr (inr three)) old new s = let keeps = rw three at s in search (rules, keeps)

-- the number of a file of a version that holds rows is that in the one row of its versions
pub older_version : (version : ℕ) → IsKnown version → (db : Database) (t : StoredTables) → HoldsFirst (14 + version) db t → version_in db ≡ only_version t.versions
older_version version known db t h =
    held_version version known db t.versions h.schema
    (keeps_on versions_place h.kept.whole db.trees _ (shares_versions version known h.kept.whole db.trees h.kept.shared) h.kept.kept.versions)

-- one number is one row
pub is_numbered : (rows : List Version) (number : ℕ) → only_version rows ≡ Some (pos number) → rows ≡ numbered number
is_numbered [] number h = absurd cc
is_numbered (version ∷ []) number h = (let same : version.number ≡ number = cc in rw same refl)
is_numbered (version ∷ next ∷ more) number h = absurd cc
