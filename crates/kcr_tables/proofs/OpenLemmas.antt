-- The trees of a file tell its schema.
use Rattle.kcr_tables.proofs.Common.{refl, filter, false, ◌≡◌, List, [], ◌∷◌, sym, ap, ◌∙◌, rules, AllZip, append_cancel_left, Row, Trees, IsSound}
use Rattle.kcr_tables.proofs.Common.{IsTableRow, IsIndexRow, IsViewRow, is_table_row, is_index_row, is_view_row, Has}
use Rattle.std.proofs.lemmas.Fmt.{decimal_injective}
use Rattle.sqlite.specs.{Schema.Schema, Table.Table}
use Rattle.sqlite_trees.specs.{Objects.catalog_tree, Tree.IsAscending}
use Rattle.sqlite_catalog.proofs.StepLemmas.{same_itself}
use Rattle.sqlite_schema.specs.{Names.same_name, declared.schema.Index.Index}
use Rattle.kcr_tables.proofs.HasLemmas.{one_of_rising}

zip_same : {A B : Type 0} (R : A → B → Type 0) → ((x : A) (a b : B) → R x a → R x b → a ≡ b) → (xs : List A) (ys bs : List B) → AllZip R xs ys → AllZip R xs bs
    → ys ≡ bs
zip_same R same [] [] [] p q = refl
zip_same R same [] [] (b ∷ bs) p q = absurd q
zip_same R same [] (a ∷ more) bs p q = absurd p
zip_same R same (x ∷ xs) [] bs p q = absurd p
zip_same R same (x ∷ xs) (a ∷ more) [] p q = absurd q
zip_same R same (x ∷ xs) (a ∷ more) (b ∷ bs) p q = search (rules, zip_same R same xs more bs p.1 q.1)

zip_nil : {A B C : Type 0} (R : A → B → Type 0) (Q : A → C → Type 0) (xs : List A) (cs : List C) → AllZip R xs [] → AllZip Q xs cs → cs ≡ []
zip_nil R Q [] [] p q = refl
zip_nil R Q [] (c ∷ cs) p q = absurd q
zip_nil R Q (x ∷ xs) cs p q = absurd p

table_same : (row : Row) (a b : Table) → IsTableRow row a → IsTableRow row b → a ≡ b
table_same row a b p q = search rules

-- ---- with the indexes of its tables

-- two tables of one name are one
one_name : (tables : List Table) → IsAscending (λ s t. same_name s.name t.name ≡ false) tables → (a b : Table)
    → Has tables a → Has tables b → a.name ≡ b.name → a ≡ b
one_name tables = one_of_rising (λ s t. same_name s.name t.name ≡ false) (λ s t. s.name ≡ t.name)
    (λ x y e. let is = same_itself x.name in (λ r. cc (ap (λ n. same_name x.name n) e), λ r. cc (ap (λ n. same_name n x.name) e))) tables

index_same : (tables : List Table) → IsAscending (λ s t. same_name s.name t.name ≡ false) tables → (row : Row) (a b : Index) → IsIndexRow tables row a
    → IsIndexRow tables row b → a ≡ b
index_same tables up row a b p q = search (rules, one_name, append_cancel_left, decimal_injective)

-- of a schema with tables, and indexes that its tables or texts define
pub one_schema : (s t : Schema) (db : Trees) → t.views ≡ [] → IsSound s db → IsSound t db → s ≡ t
one_schema s t db plain p q =
    let a = p.lists.listed in
    let b = q.lists.listed in
    let tables : s.tables ≡ t.tables = zip_same IsTableRow table_same (filter is_table_row (db catalog_tree)) s.tables t.tables a.tables b.tables in
    let indexes : s.indexes ≡ t.indexes = zip_same (IsIndexRow t.tables) (index_same t.tables b.named)
    (filter is_index_row (db catalog_tree)) s.indexes t.indexes (rw tables at a.indexes) b.indexes in
    let views : s.views ≡ [] = zip_nil IsViewRow IsViewRow (filter is_view_row (db catalog_tree)) s.views (rw plain at b.views) a.views in
    ap (λ x. record s { tables = x }) tables ∙ ap (λ x. record s { tables = t.tables; indexes = x }) indexes
    ∙ ap (λ x. record t { views = x }) (views ∙ sym plain)
