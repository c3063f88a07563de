-- Rows of a table, read one at a time: what a text chooses, and which of them comes next.
use Rattle.kcr_reading.proofs.Common.{◌≡◌, ℕ, ◌&&◌, Bool, true, List, [], ◌∷◌, ◌++◌, map, filter, take, slice_get, Option, Some, Ordering, Less}
use Rattle.kcr_reading.proofs.Common.{Result, false, sym, ap, subst, ◌∙◌, AllByRecursion, map-append, list_all, IsTotalOrder, Null, Row, Term, holds}
use Rattle.kcr_reading.proofs.Common.{IsAscending, all_both, all_weaker, all-filter, ascending_weaker, ascending_from_map, ascending-filter}
use Rattle.kcr_reading.proofs.Common.{IsPermutation-same, TableLayout, by_key, if_ok, filter_as, filter-and, StoredTables, Holds, HoldsTables}
use Rattle.kcr_reading.proofs.Common.{TreesHoldTables, held_of, Choice, ShowsSome, InOrder, IsNextOf, IsNextBatchOf, Begin}
use Rattle.std.specs.Prelude.{IfOk}
use Rattle.sqlite.specs.Effect.{Database}
use Rattle.kcr_base.specs.declared.refusal.Refusal.{Refusal}
use Rattle.kcr_rows.proofs.GreatestLemmas.{none_from}
use Rattle.kcr_history.specs.Tables as machine
use Rattle.kcr_reading.proofs.{FirstLemmas.all_take, FirstLemmas.ascending_take, NumberLemmas.passing, NumberLemmas.rises_among}
use Rattle.kcr_reading.proofs.OrderLemmas.{later, moved, moved_on, gives_first, gives_several, none_past}

-- ---- texts

-- the first of the rows that pass these tests, in the order of N keys
abbrev pub by_test : ℕ → List Term → Row → Choice
by_test keys test params = record {
  passes = λ row. list_all (holds (params ∷ (Null ∷ row) ∷ [])) test;
  rank = take keys;
  compare = by_key keys;
}

-- the text chooses the same by other words for its parameters
pub shown_by : {count : ℕ} {sql : List ℕ} {place : TableLayout} {params given : Row} {choice : Choice} → ShowsSome count sql place params choice → given ≡ params
    → ShowsSome count sql place given choice
shown_by {count} {sql} {place} {choice = choice} shown is = subst (λ v. ShowsSome count sql place v choice) (sym is) shown

-- ---- calls

-- what a call says of the tables as the database has them, it says of the machine's
pub by_tables : {A Clean : Type 0} {db : Database} (r : Result A Refusal) (Found : StoredTables → A → Type 0) (Says : machine.Tables → A → Type 0)
    → (Clean → (t : StoredTables) → Holds db t → IfOk r (Found t)) → ((m : machine.Tables) (k : TreesHoldTables m db.trees) (a : A) → Found k.t a → Says m a)
    → Clean → (m : machine.Tables) → HoldsTables m db → IfOk r (Says m)
by_tables {db = db} r Found Says found says clean m h = if_ok _ _ (says m h.tables) r (found clean h.tables.t (held_of m db h))

-- what is made of the rows is the next of what is made of all
pub several_made : {X Y : Type 0} (make : X → Y) (all rows rest : List X) → IsNextBatchOf all rows rest → (made : List Y) → made ≡ map make rows
    → IsNextBatchOf (map make all) made (map make rest)
several_made make all rows rest gives made is = record {
  next = ap (map make) gives.next ∙ map-append make rows rest ∙ ap (λ l. l ++ map make rest) (sym is);
  ends = λ none. ap (map make) (gives.ends (none_from make rows (sym is ∙ none)));
}

-- what is made of the row that was found is the next of what is made of the rows
pub gives_made : {X Y : Type 0} (make : X → Y) (all rest : List X) (found : Option X) (row : X) → found ≡ Some row → IsNextOf all found rest
    → (made : Y) → made ≡ make row → map make all ≡ made ∷ map make rest
gives_made make all rest found row is gives made same =
    ap (map make) (subst (λ f. IsNextOf all f rest) is gives) ∙ ap (λ y. y ∷ map make rest) (sym same)

-- ---- the next row

-- of a table whose rows under one test rise as a key of theirs: those that pass are still to come while they are past the last
module _ {X K : Type 0} (row_of : X → Row) (compare : K → K → Ordering) (total : IsTotalOrder compare) (key : X → K)
    (past : Option K → X → Bool) (behind : (last : Option K) (x : X) → past last x ≡ later compare total key last x)
    (keys : ℕ) (test : X → Bool) (among : (a b : X) → test a ≡ true → test b ≡ true → by_key keys (row_of a) (row_of b) ≡ compare (key a) (key b))
    (ts : List X) (rising : IsAscending (λ a b. by_key keys a b ≡ Less) (map row_of ts)) where
  abbrev ByKey : X → X → Type 0
  ByKey a b = by_key keys (row_of a) (row_of b) ≡ Less

  by_keys : IsAscending ByKey ts
  by_keys = ascending_from_map (λ a b. by_key keys a b ≡ Less) row_of ts rising

  -- the rows that pass the test rise by the key
  pub rise : IsAscending (λ a b. compare (key a) (key b) ≡ Less) (filter test ts)
  rise = rises_among test _ ts (ascending_weaker ByKey _ (λ a b h p q. sym (among a b p q) ∙ h) ts by_keys)

  module _ (come : Option K → List X) (come_is : (last : Option K) → come last ≡ filter (past last) (filter test ts)) (last : Option K) where
    -- what holds of those that the text chooses, in order, holds of those to come
    pub chosen_come : (terms : List Term) (params : Row) → ((x : X) → (by_test keys terms params).passes (row_of x) ≡ (test x && past last x))
        → (Holds : List X → Type 0) → InOrder row_of (by_test keys terms params) ts Holds → Holds (come last)
    chosen_come terms params chosen Holds holds =
        let chooses = filter_as _ _ chosen ts ∙ sym (filter-and test (past last) ts) in
        subst Holds (sym (come_is last)) (holds (filter (past last) (filter test ts)) (IsPermutation-same _ _ chooses)
        (ascending-filter ByKey (past last) _ (ascending-filter ByKey test ts by_keys)))

    -- it is the next row, and the others come behind it
    pub next_come : (found : Option X) → found ≡ slice_get (come last) 0 → IsNextOf (come last) found (come (moved compare total key last found))
    next_come found is =
        rw (come_is last, come_is (moved compare total key last found))
        (gives_first compare total key past behind last (filter test ts) rise found (is ∙ ap (λ l. slice_get l 0) (come_is last)))

    -- several of the first are the next rows, and the others come behind the last of them
    pub several_come : (rows : List X) → Begin (come last) rows → IsNextBatchOf (come last) rows (come (moved_on compare total key last rows))
    several_come rows begin =
        rw (come_is last, come_is (moved_on compare total key last rows))
        (gives_several compare total key past behind last (filter test ts) rise rows (subst (λ l. Begin l rows) (come_is last) begin))

    -- each of them passes the test and stands behind the last, and none behind the last of them
    pub within_come : (count : ℕ) (rows : List X) → rows ≡ take count (come last)
        → AllByRecursion (λ x. (test x ≡ true) × ((past last x ≡ true) × (past (moved_on compare total key last rows) x ≡ false))) rows
    within_come count rows is =
        let those : List X = filter (past last) (filter test ts) in
        let taken : rows ≡ take count those = is ∙ ap (take count) (come_is last) in
        let every = λ (P : X → Type 0) (all : AllByRecursion P those). subst (AllByRecursion P) (sym taken) (all_take P count those all) in
        let up : IsAscending (λ a b. compare (key a) (key b) ≡ Less) rows =
        subst (IsAscending _) (sym taken) (ascending_take _ count those (ascending-filter _ (past last) (filter test ts) rise)) in
        let tests = every (λ x. test x ≡ true) (all-filter (λ x. test x ≡ true) (past last) (filter test ts) (passing test ts)) in
        let from = every (λ x. past last x ≡ true) (passing (past last) (filter test ts)) in
        let until = all_weaker _ (λ x. past (moved_on compare total key last rows) x ≡ false) (λ x e. behind _ x ∙ e) rows
        (none_past compare total key last rows up) in
        all_both _ _ _ (λ x t b. (t, b)) rows tests (all_both _ _ _ (λ x f u. (f, u)) rows from until)
