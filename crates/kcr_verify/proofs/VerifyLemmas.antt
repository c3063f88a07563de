-- What a verification shows of the tables that it compares.
use Rattle.kcr_verify.proofs.Common.{rules, ◌≡◌, ◌+◌, ◌<◌, ◌∷◌, [], ℕ, List, map, length, take, drop, get_or, inl, inr, Ok, refl, sym, ap, ◌∙◌}
use Rattle.kcr_verify.proofs.Common.{IsPermutation, IsSorted, AllByRecursion, IfSome, length-map, length-reverse, take_more, drop_more}
use Rattle.kcr_verify.proofs.Common.{take-append-drop, IsPermutation-sym, IsPermutation-trans, length_permutation, in-order, each-append, each-weaker}
use Rattle.kcr_verify.proofs.Common.{of_machine, History, IsRegister, Tables, tables, key_row, KeyRow, FullView, IsListed, AreInOrder, AreValues}
use Rattle.kcr_verify.proofs.Common.{DiffersIn, GivesRows, HasRows, HaveOwnKeys, IsDifference, IsFirst, IsFirstTable, Rebuilds, Says, StopsFor}
use Rattle.kcr_verify.proofs.Common.{by_number, compared, rows_by_number, RowDifference, Difference}
use Rattle.std.specs.Prelude.{Option, Some, None}
use Rattle.kcr_verify.specs.declared.verification.Difference.TheVariants as Differences
use Rattle.kcr_verify.specs.declared.verification.Verification.{Verification, TheVariants.Verified, TheVariants.Differs}
use Rattle.kcr_verify.specs.declared.compare.TableName.{TableName, TheVariants.Keys}
use Rattle.kcr_verify.proofs.{NumberLemmas.in_number_order, StepLemmas.never_other}

-- rows that have keys of their own have them in any order
own_along : (rows sorted : List KeyRow) → IsPermutation rows sorted → HaveOwnKeys rows → HaveOwnKeys sorted
own_along rows sorted p own a b i j same = own a b (in-order a rows sorted p i) (in-order b rows sorted p j) same

-- the rows of a view, with those of the accepted commands in another order
pub record IsInOrder (view rows : FullView) : Type 0 where
  pub others : rows ≡ record view { keys = rows.keys }
  pub keys : IsPermutation view.keys.items rows.keys.items

-- the rows of each table are the same
pub same_rows : (m : Tables) (view rows : FullView) → IsInOrder view rows → (table : TableName)
    → (HasRows table m rows → HasRows table m view) × (HasRows table m view → HasRows table m rows)
same_rows m view rows o Keys = (λ h. IsPermutation-trans _ _ _ h (IsPermutation-sym _ _ o.keys), λ h. IsPermutation-trans _ _ _ h o.keys)
same_rows m view rows o other = rw o.others (λ h. h, λ h. h)

-- and so is the first table that differs
pub first_in_view : (tables_in : List TableName) (A : History) (view rows : FullView) → IsInOrder view rows → (table : TableName)
    → IsFirstTable tables_in A rows table → IsFirstTable tables_in A view table
first_in_view tables_in A view rows o table f = record {
  before = f.before;
  behind = f.behind;
  listed = f.listed;
  same = each-weaker (λ one. HasRows one (tables A) rows) (λ one. HasRows one (tables A) view) (λ one. (same_rows (tables A) view rows o one).0) f.before f.same;
  other = λ h. f.other ((same_rows (tables A) view rows o table).1 h);
}

-- and so is its first row that differs
differs_in_view : (m : Tables) (view rows : FullView) → IsInOrder view rows → (table : TableName) (row : RowDifference) → DiffersIn table m rows row
    → DiffersIn table m view row
differs_in_view m view rows o Keys row d =
    record {
      own_sorted = d.own_sorted;
      sorted = d.sorted;
      own_order = d.own_order;
      order = record { same = IsPermutation-trans _ _ _ o.keys d.order.same; order = d.order.order };
      differs = d.differs;
    }
differs_in_view m view rows o other row d = rw o.others at d

-- what is told if all commands were taken, and then this was found in the tables
abbrev pub told_of : Option (TableName × RowDifference) → ℕ → Verification
told_of None count = Verified count
told_of (Some found) count = Differs (Differences.Rows found.0 found.1)

says_of : (A : History) (view rows : FullView) → IsInOrder view rows → IsSorted by_number rows.keys.items → (HaveOwnKeys rows.keys.items → rows.keys.items ≡ rows_by_number A)
    → (found : Option (TableName × RowDifference)) → (found ≡ None → (table : TableName) → HasRows table (tables A) rows) → IfSome found (IsFirst compared A rows)
    → Says view A (told_of found (length rows.keys.items))
says_of A view rows o order all None none some = (
  λ table. (same_rows (tables A) view rows o table).0 (none refl table),
  sym (length_permutation (map key_row A) rows.keys.items (none refl Keys) ∙ length-map A key_row),
)
says_of A view rows o order all (Some found) none some = (
  (first_in_view compared A view rows o found.0 some.0, differs_in_view (tables A) view rows o found.0 found.1 some.1),
  λ own. rw (← all (own_along view.keys.items rows.keys.items o.keys own)) (record { same = o.keys; order = order }),
)

-- of a history's own tables none differs
none_differs : (A : History) (view rows : FullView) → IsInOrder view rows → IsListed (tables A) view
    → (found : Option (TableName × RowDifference)) → IfSome found (IsFirst compared A rows) → found ≡ None
none_differs A view rows o v None f = refl
none_differs A view rows o v (Some it) f = absurd (f.0.other (listed it.0))
  where
    listed : (table : TableName) → HasRows table (tables A) rows
    listed Keys = IsPermutation-trans _ _ _ v.same.keys o.keys
    listed other = rw o.others (record { same = search rules; db = v.db; t = v.t; kept = v.kept; lists = cc })

-- if all commands were taken
pub compared_all : (view rows : FullView) (B : History) (found : Option (TableName × RowDifference)) → IsInOrder view rows → IsSorted by_number rows.keys.items
    → GivesRows rows.keys.items B (Ok None) → (found ≡ None → (table : TableName) → HasRows table (tables B) rows) → IfSome found (IsFirst compared B rows)
    → Rebuilds view B (Ok (told_of found (length rows.keys.items)))
compared_all view rows B found o order gives none some =
    let told = told_of found (length rows.keys.items) in
    let all : (A : History) → IsRegister A → AreValues A → IsListed (tables A) view → (told ≡ Verified (length A)) × (B ≡ A) = λ A h values listed.
    let by_number = in_number_order A view.keys.items rows.keys.items h listed.same.keys o.keys order in
    let again : B ≡ A = gives.own A h values by_number in
    let nothing : found ≡ None = none_differs B view rows o (rw again listed) found some in
    (rw (nothing, by_number, length-reverse, length-map) refl, again) in
    record {
      of_machine = gives.of_machine;
      told = record { of_machine = gives.of_machine; says = says_of B view rows o order gives.told found none some };
      own = λ A h values listed. all A (of_machine A h) values listed;
      register = λ A h values listed. (let is = all A h values listed in inl (is.0, rw (← is.1) gives.of_machine));
    }

-- if the commands stopped before the tables were compared
pub stopped : (view : FullView) (sorted : List KeyRow) (B : History) (difference : Difference) → AreInOrder view.keys.items sorted
    → GivesRows sorted B (Ok (Some difference)) → Rebuilds view B (Ok (Differs difference))
stopped view sorted B difference order gives =
    let all = λ (A : History) (h : IsRegister A) (values : AreValues A) (listed : IsListed (tables A) view).
    gives.own A h values (in_number_order A view.keys.items sorted h listed.same.keys order.same order.order) in
    record {
      of_machine = gives.of_machine;
      told = record { of_machine = gives.of_machine; says = by difference gives.told };
      own = λ A h values listed. (let other = all A (of_machine A h) values listed in absurd (never_other A h other.0 other.2));
      register = λ A h values listed. (let other = all A h values listed in inr (other.0, difference, refl, other.1, other.2));
    }
  where
    by : (d : Difference) → StopsFor d sorted B → IsDifference view B d
    by (Differences.Rows table row) stops = absurd stops
    by other stops = λ own. (sorted, order, stops (own_along view.keys.items sorted order.same own))

-- one more table was looked at
pub one_more_table : (P : TableName → Type 0) (tables : List TableName) (i : ℕ) (table : TableName) → i < length tables → get_or tables i table ≡ table
    → AllByRecursion P (take i tables) → P table → AllByRecursion P (take (i + 1) tables)
one_more_table P tables i table low at all h = rw (take_more tables i table low, at) (each-append P (take i tables) (table ∷ []) all (h, tt))

-- every table but that of the accepted commands
abbrev pub other_tables : List TableName
other_tables = drop 1 compared

-- a table that differs, behind those that were looked at
pub first_at : (A : History) (view : FullView) (tables_in : List TableName) (i : ℕ) (table : TableName) → i < length tables_in → get_or tables_in i table ≡ table
    → AllByRecursion (λ one. HasRows one (tables A) view) (take i tables_in) → ¬ HasRows table (tables A) view → IsFirstTable tables_in A view table
first_at A view tables_in i table low at all not = record {
  before = take i tables_in;
  behind = drop (i + 1) tables_in;
  listed = cc (take-append-drop i tables_in, drop_more tables_in i table low);
  same = all;
  other = not;
}

-- a weaker statement holds of an optional value if a stronger one does
pub some_weaker : {X : Type 0} (P Q : X → Type 0) → ((x : X) → P x → Q x) → (found : Option X) → IfSome found P → IfSome found Q
some_weaker P Q weaker None h = tt
some_weaker P Q weaker (Some x) h = weaker x h

-- the accepted commands are compared before the others
pub first_with_keys : (A : History) (view : FullView) (table : TableName) → HasRows Keys (tables A) view → IsFirstTable other_tables A view table
    → IsFirstTable compared A view table
first_with_keys A view table keys f = record {
  before = Keys ∷ f.before;
  behind = f.behind;
  listed = ap (λ l. Keys ∷ l) f.listed;
  same = (keys, f.same);
  other = f.other;
}

-- if the accepted commands differ, theirs is the first table that does
pub first_is_keys : (A : History) (view : FullView) → ¬ HasRows Keys (tables A) view → IsFirstTable compared A view Keys
first_is_keys A view not = record { before = []; behind = other_tables; listed = refl; same = tt; other = not }

-- what holds of the accepted commands and of each table in the list of the others holds of every table
pub at_each : (P : TableName → Type 0) → P Keys → AllByRecursion P other_tables → (table : TableName) → P table
at_each P keys others Keys = keys
at_each P keys others other = search rules depth 20
