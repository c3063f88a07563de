-- Tables whose rows are functions of their keys: what is found among the rows that a view shows, and what a row put under its key makes of them.
use Rattle.kcr_machine.proofs.Common.{◌≡◌, Bool, true, false, cond, ◌&&◌, ◌||◌, List, [], ◌∷◌, map, filter, find, Option, Some, option_map, is_some}
use Rattle.kcr_machine.proofs.Common.{refl, sym, ap, ◌∙◌, inl, inr, arith, rules, unwrap_or, list_any, IsPermutation, list_any-IsPermutation}
use Rattle.kcr_machine.proofs.Common.{All-from_recursion, recursion_from_All, All-filter, put, put_all, filter-order, any-same, find-all, find-order}
use Rattle.kcr_machine.proofs.Common.{some_if, any-map, Only, all-keys, map-map, filter-kept, IsIn, Implies, map-same-in, none-in}
use Rattle.kcr_room.proofs.Lists as RoomLists

-- ROWS THAT ARE SHOWN: those of a table that pass `of`, in any order. Only such rows pass the test

-- the rows that are shown of a table, in some order
abbrev pub Shown : {X : Type 0} → (X → Bool) → List X → List X → Type 0
Shown of table rows = IsPermutation (filter of table) (filter of rows)

-- if only rows that are asked for pass the test, some of them passes if and only if some row does
pub any-filter : {X : Type 0} (test of : X → Bool) → Implies test of → (rows : List X) → list_any test (filter of rows) ≡ list_any test rows
any-filter test of inside rows = RoomLists.any-filter of test rows ∙ any-same (λ x. of x && test x) test rows (λ x. let i = inside x in grind arith)

-- what the test finds in the table it finds among them
pub any-shown : {X : Type 0} (test of : X → Bool) → Implies test of → (table rows : List X) → Shown of table rows
    → list_any test rows ≡ list_any test table
any-shown test of inside table rows p =
    sym (any-filter test of inside rows) ∙ sym (list_any-IsPermutation test (filter of table) (filter of rows) p) ∙ any-filter test of inside table

-- what it keeps of the table it keeps of them, in some order
pub filter-shown : {X : Type 0} (test of : X → Bool) → Implies test of → (table rows : List X) → Shown of table rows
    → Shown test table rows
filter-shown test of inside table rows p =
    rw (← filter-kept test of table inside, ← filter-kept test of rows inside) (filter-order test (filter of table) (filter of rows) p)

-- the test finds the same row among those that are asked for
find-filter : {X : Type 0} (test of : X → Bool) → Implies test of → (rows : List X) → find test (filter of rows) ≡ find test rows
find-filter test of inside [] = refl
find-filter test of inside (x ∷ rows) = grind (arith, inside x, find-filter test of inside rows)

-- if all rows of the table that pass are the first that passes, the same one is found
pub find-shown : {X : Type 0} (test of : X → Bool) → Implies test of → (table rows : List X) → Shown of table rows
    → ((x : X) → find test table ≡ Some x → Only test x table) → find test rows ≡ find test table
find-shown {X} test of inside table rows p only =
    sym (find-filter test of inside rows) ∙ find-order test (filter of table) (filter of rows) p (λ x e.
    let P = λ (y : X). test y ≡ true → y ≡ x in
    recursion_from_All P (filter of table) (All-filter of P table (All-from_recursion P table (only x (sym (find-filter test of inside table) ∙ e)))))
    ∙ find-filter test of inside table

-- if all of them are one, that one is found
pub found-shown : {X : Type 0} (test of : X → Bool) (v : X) → Implies test of → (table rows : List X) → Shown of table rows
    → Only test v table → find test rows ≡ some_if (list_any test table) v
found-shown test of v inside table rows p only =
    find-shown test of inside table rows p (λ x e. let is : v ≡ x = grind (arith, find-all test v table only) in rw is at only)
    ∙ find-all test v table only

-- what that one says is what the history says, if it is there if and only if the history says something
pub said-shown : {X Y : Type 0} (test of : X → Bool) (v : X) (says : X → Y) (said : Option Y) (other : Y) → Implies test of → (table rows : List X)
    → Shown of table rows → Only test v table → list_any test table ≡ is_some said → says v ≡ unwrap_or said other
    → option_map says (find test rows) ≡ said
said-shown test of v says said other inside table rows p only there own = grind (arith, found-shown test of v inside table rows p only)

-- THE SAME OF ROWS THAT ARE FUNCTIONS OF THEIR KEYS

-- among the rows shown the test finds the one row that passes, if a key of the table has it
pub find-view : {K X : Type 0} (test of : X → Bool) (row_of : K → X) (v : X) → Implies test of → ((k : K) → test (row_of k) ≡ true → row_of k ≡ v)
    → (keys : List K) (rows : List X) → Shown of (map row_of keys) rows → find test rows ≡ some_if (list_any (λ k. test (row_of k)) keys) v
find-view test of row_of v inside same keys rows p =
    found-shown test of v inside (map row_of keys) rows p (all-keys test row_of v same keys) ∙ ap (λ b. some_if b v) (any-map test row_of keys)

-- the row found among them has the history's value, if it is there if and only if the history has one
pub said-view : {K X Y : Type 0} (test of : X → Bool) (row_of : K → X) (v : X) (says : X → Y) (said : Option Y) (other : Y) → Implies test of
    → ((k : K) → test (row_of k) ≡ true → row_of k ≡ v) → (keys : List K) (rows : List X) → Shown of (map row_of keys) rows
    → list_any (λ k. test (row_of k)) keys ≡ is_some said → says v ≡ unwrap_or said other → option_map says (find test rows) ≡ said
said-view test of row_of v says said other inside same keys rows p there own = search (rules, said-shown, all-keys, any-map)

-- ROWS ARE PUT

-- a row whose key is not there is put in front
pub put-new : {X : Type 0} (same : X → X → Bool) (row : X) (rows : List X) → list_any (same row) rows ≡ false → put same row rows ≡ row ∷ rows
put-new same row rows h = rw h

-- if no other key changes its row
pub put-first : {K X : Type 0} (same : X → X → Bool) (f g : K → X) (row : X) → ((k : K) → same row (f k) ≡ false → f k ≡ g k) → (ks : List K)
    → list_any (λ k. same row (f k)) ks ≡ false → put same row (map f ks) ≡ row ∷ map g ks
put-first same f g row keep ks new =
    put-new same row (map f ks) (any-map (same row) f ks ∙ new)
    ∙ ap (λ rows. row ∷ rows) (map-same-in f g ks (λ k i. keep k (none-in (λ k. same row (f k)) k ks new i)))

-- a row under a key that is there: g gives the new row at the key, and elsewhere what f gives
put-there : {K X : Type 0} (same : X → X → Bool) (f g : K → X) (row : X) (ks : List K) → list_any (λ k. same row (f k)) ks ≡ true
    → ((k : K) → IsIn k ks → cond (same row (f k)) row (f k) ≡ g k) → put same row (map f ks) ≡ map g ks
put-there same f g row ks there now = grind (arith, any-map, map-map, map-same-in)

-- a row put under a key that is there gives the new rows, if no other key changes its row
pub put-at : {K X : Type 0} (same : X → X → Bool) (f g : K → X) (row : X) → ((k : K) → same row (f k) ≡ true → row ≡ g k)
    → ((k : K) → same row (f k) ≡ false → f k ≡ g k) → (ks : List K)
    → list_any (λ k. same row (f k)) ks ≡ true → put same row (map f ks) ≡ map g ks
put-at same f g row here elsewhere ks there = put-there same f g row ks there (λ k i. grind (arith, here k, elsewhere k))

-- rows under keys that are all there, one after the other: each that is put is the new row of its key
module _ {K X : Type 0} (same : X → X → Bool) (is : K → K → Bool) (new : K → X) (new_key : (c k : K) → same (new c) (new k) ≡ is c k) (all : List K) where
  -- the keys among those put get their new rows, the others keep theirs
  pub put-rows : (cs : List K) → ((c : K) → IsIn c cs → list_any (is c) all ≡ true) → ((c k : K) → IsIn c cs → IsIn k all → is c k ≡ true → new c ≡ new k)
      → (f : K → X) → ((c k : K) → same (new c) (f k) ≡ is c k)
      → put_all same (map new cs) (map f all) ≡ map (λ k. cond (list_any (λ c. is c k) cs) (new k) (f k)) all
  put-rows [] there one f key = refl
  put-rows (c ∷ cs) there one f key =
      ap (put_all same (map new cs)) (put-there same f next (new c) all (any-same (λ k. same (new c) (f k)) (is c) all (key c) ∙ there c (inl refl)) now)
      ∙ put-rows cs (λ d i. there d (inr i)) (λ d k i. one d k (inr i)) next next-key
      ∙ map-same-in (λ k. cond (list_any (λ d. is d k) cs) (new k) (next k)) (λ k. cond (is c k || list_any (λ d. is d k) cs) (new k) (f k)) all
      (λ k i. grind arith)
    where
      next : K → X
      next k = cond (is c k) (new k) (f k)

      now : (k : K) → IsIn k all → cond (same (new c) (f k)) (new c) (f k) ≡ next k
      now k i = grind (arith, key c k, one c k (inl refl) i)

      next-key : (d k : K) → same (new d) (next k) ≡ is d k
      next-key d k = grind (arith, new_key d k, key d k)
