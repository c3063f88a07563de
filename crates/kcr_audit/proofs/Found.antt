-- What is found is true, and if nothing is found nothing is true.
use Rattle.kcr_audit.proofs.Common.{◌≡◌, ℕ, ◌≤◌, Bool, true, false, ◌||◌, ◌&&◌, nat_lt, List, [], ◌∷◌, Option, Some, None, refl, sym, subst, arith}
use Rattle.kcr_audit.proofs.Common.{option_map, find, list_any, count_by, true≢false, and_from, and_parts, cases_Bool, or_cases, or_left, or_right}
use Rattle.kcr_audit.proofs.Common.{eq-eqb, lt-ltb, ltb-true, same_text, same-is, none-find, any-more, count-cons, Finding, FullView, StepRow}
use Rattle.kcr_audit.proofs.Common.{IsTrueOf, rank, has_invalid_seating, is_duplicate, is_lost, is_in_missing_box, is_step_wrong, is_item_wrong}
use Rattle.kcr_audit.proofs.Common.{is_bag_wrong}
use Rattle.kcr_history.specs.declared.views.Finding.TheVariants as Findings
use Rattle.kcr_audit.specs.Kinds.{IsFindingOfKind}

-- what is found passes the test, and if it passes another too, some row passes that one
pub record IsFound {X : Type 0} (p : X → Bool) (xs : List X) (x : X) : Type 0 where
  pub passes : p x ≡ true
  pub any : (q : X → Bool) → q x ≡ true → list_any q xs ≡ true

-- the row that is found passes the test and is one of the rows
pub is-found : {X : Type 0} (p : X → Bool) (xs : List X) (x : X) → find p xs ≡ Some x → IsFound p xs x
is-found p [] x e = absurd (let g : None ≡ Some x = e in cc)
is-found p (y ∷ ys) x e = grind (arith, or_left, or_right, is-found p ys x)

-- some row passes the test if some are counted
pub any-counted : {X : Type 0} (p : X → Bool) (xs : List X) → list_any p xs ≡ nat_lt 0 (count_by p xs)
any-counted p [] = refl
any-counted p (x ∷ xs) = grind (arith, cases_Bool, count-cons, or_left, lt-ltb, any-counted p xs)

-- if no row passes the test, none is counted
pub none-counted : {X : Type 0} (p : X → Bool) (xs : List X) → list_any p xs ≡ false → count_by p xs ≡ 0
none-counted p xs h = grind (arith, any-counted)

-- if some row passes the test, at least one is counted
pub some-counted : {X : Type 0} (p : X → Bool) (xs : List X) → list_any p xs ≡ true → 1 ≤ count_by p xs
some-counted p xs h = grind (arith, any-counted)

-- if at least one row is counted, some row passes the test
pub counted-any : {X : Type 0} (p : X → Bool) (xs : List X) → 1 ≤ count_by p xs → list_any p xs ≡ true
counted-any p xs h = grind (arith, any-counted)

-- if a text is wrong that is doubled, or that a row has which is also bad, some row has a wrong text
text-any : {X : Type 0} (key : X → List ℕ) (bad : X → Bool) (wrong : List ℕ → Bool) (text : List ℕ) (xs : List X)
    → (is_duplicate (λ x. same_text (key x) text) xs || list_any (λ x. same_text (key x) text && bad x) xs) ≡ true → wrong text ≡ true
    → list_any (λ x. wrong (key x)) xs ≡ true
text-any {X} key bad wrong text xs e f = any-more same (λ x. wrong (key x)) xs (λ x h. subst (λ t. wrong t ≡ true) (sym (same-is (key x) text h)) f) some
  where
    same : X → Bool
    same x = same_text (key x) text

    some : list_any same xs ≡ true
    some = grind (arith, or_cases, same, ltb-true, counted-any, any-more, and_parts)

-- the first row that passes the test, by its finding
sought : {X : Type 0} (view : FullView) (kind : ℕ) (test : X → Bool) (name : X → Finding) (xs : List X) (found : Option Finding)
    → ((x : X) → rank (name x) ≡ kind)
    → ((x : X) → IsFound test xs x → IsTrueOf view (name x))
    → ((finding : Finding) → rank finding ≡ kind → IsTrueOf view finding → list_any test xs ≡ true)
    → found ≡ option_map name (find test xs)
    → IsFindingOfKind view kind found
sought view kind test name xs found ranked true_of any e = grind (arith, true≢false, none-find, is-found)

step-is_ill : (view : FullView) (row : StepRow) → is_step_wrong view row ≡ true → has_invalid_seating view row.ceremony row.step row ≡ true
step-is_ill view row h = rw (eq-eqb row.ceremony row.ceremony refl, eq-eqb row.step row.step refl) h

-- the first step that is wrong is a finding of its kind, and without one no finding of the kind is true
pub steps : (view : FullView) (found : Option Finding)
    → found ≡ option_map (λ row. Findings.Seating row.ceremony row.step) (find (is_step_wrong view) view.view.steps.items) → IsFindingOfKind view 0 found
steps view found e = grind (arith, sought, step-is_ill, any-more, and_parts, and_from)

-- the first item that is wrong is a finding of its kind, and without one no finding of the kind is true
pub items : (view : FullView) (found : Option Finding)
    → found ≡ option_map (λ row. Findings.Custody row.code) (find (λ row. is_item_wrong view row.code) view.view.items.items) → IsFindingOfKind view 1 found
items view found e =
    sought view 1 (λ row. is_item_wrong view row.code) (λ row. Findings.Custody row.code) view.view.items.items found (λ row. refl) (λ row f. f.passes)
    by_kind e
  where
    by_kind : (finding : Finding) → rank finding ≡ 1 → IsTrueOf view finding → list_any (λ row. is_item_wrong view row.code) view.view.items.items ≡ true
    by_kind (Findings.Custody item) r t = text-any (λ row. row.code) (λ row. is_lost view row.rest) (is_item_wrong view) item view.view.items.items t t
    by_kind other r t = absurd (omega (arith, r))

-- the first bag that is wrong is a finding of its kind, and without one no finding of the kind is true
pub bags : (view : FullView) (found : Option Finding)
    → found ≡ option_map (λ row. Findings.Bag row.serial) (find (λ row. is_bag_wrong view row.serial) view.view.bags.items) → IsFindingOfKind view 2 found
bags view found e =
    sought view 2 (λ row. is_bag_wrong view row.serial) (λ row. Findings.Bag row.serial) view.view.bags.items found (λ row. refl) (λ row f. f.passes) by_kind e
  where
    by_kind : (finding : Finding) → rank finding ≡ 2 → IsTrueOf view finding → list_any (λ row. is_bag_wrong view row.serial) view.view.bags.items ≡ true
    by_kind (Findings.Bag serial) r t = text-any (λ row. row.serial) (λ row. is_in_missing_box view row.spot) (is_bag_wrong view) serial view.view.bags.items t t
    by_kind other r t = absurd (omega (arith, r))
