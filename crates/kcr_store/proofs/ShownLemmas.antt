-- What is shown of people: trainings in their order, and the same out of rows in another order.
use Rattle.kcr_store.proofs.Common.{◌≡◌, ℕ, ◌<◌, true, false, ◌&&◌, List, [], ◌∷◌, ◌++◌, map, filter, length, get_or}
use Rattle.kcr_store.proofs.Common.{Ordering, Less, refl, sym, ap, ◌∙◌, subst, append_assoc, arith, All, AllPairs, ◌==◌, AllByRecursion}
use Rattle.kcr_store.proofs.{Common.IsPermutation, Common.ArePeopleShownBy, Common.IsPersonShownBy, StoreLemmas.all_pairs, StoreLemmas.by_initials}
use Rattle.kcr_store.proofs.Common.{IsSortedBy, nat_cmp, ordering_then, is_lt, is_eq, sorted_far, IsPermutation-map}
use Rattle.kcr_store.proofs.Common.{IsPermutation-sym, IsPermutation-trans, IsAscending, along_permutation, ascending_from_map, ascending_weaker}
use Rattle.kcr_store.proofs.Common.{same_text, role_number, filter-order, Person, Training, Withdrawal, is_of, same_training, History, Tables}
use Rattle.kcr_store.proofs.Common.{SameTables, tables, is_training_of, training_row, withdrawal_row, Rises, key_of_trainings, key_of_withdrawals}
use Rattle.kcr_store.proofs.Common.{PersonShown, role_shown, is_role_before, IsByInitials, roles_of, person_of, ArePeopleShown, AreRolesOf}
use Rattle.std.specs.{Prelude.IsTrue, Cmp.IsTotalOrder, Cmp.Lexicographic.bytes_decides}
use Rattle.std.proofs.lemmas.{Bool.Decides.nat_tests, Cmp.nat_cmp_total, Cmp.on_total, Cmp.then_total}
use Rattle.std.proofs.lemmas.List.{map-append, get_or_default, MinMax.ranks_by}
use Rattle.sqlite_keyed.proofs.ListLemmas.{map_same}
use Rattle.kcr_people.specs.Laws.{AtMostOne, same_withdrawn}
use Rattle.kcr_people.proofs.{Orders.find-one, Withdrawn.is_of-true}
use Rattle.kcr_rows.specs.Keyed.{by_key}
use Rattle.kcr_history.specs.declared.questions.RoleShown.{RoleShown}

-- ---- people one after the other

-- one more person is shown, of those that are left
pub one_more : (done : List PersonShown) (shown : PersonShown) (person : Person) (all left rest : List Person) → map person_of done ++ left ≡ all
    → left ≡ person ∷ rest → person_of shown ≡ person → map person_of (done ++ shown ∷ []) ++ rest ≡ all
one_more done shown person all left rest had first is = rw (map-append person_of done (shown ∷ []), append_assoc, is, ← first) had

-- ---- the order of the trainings that are shown

-- by first day, then role, then last day
abbrev pub role_cmp : RoleShown → RoleShown → Ordering
role_cmp a b = ordering_then (ordering_then (nat_cmp a.since b.since) (nat_cmp (role_number a.role) (role_number b.role))) (nat_cmp a.until b.until)

role_cmp_total : IsTotalOrder role_cmp
role_cmp_total =
    then_total (then_total (on_total (λ (a : RoleShown). a.since) nat_cmp_total) (on_total (λ (a : RoleShown). role_number a.role) nat_cmp_total))
    (on_total (λ (a : RoleShown). a.until) nat_cmp_total)

before : (a b : RoleShown) → is_lt (role_cmp a b) ≡ is_role_before a b
before a b = grind arith

-- of sorted trainings none is before one that is listed ahead of it
pub in_order : (roles : List RoleShown) → IsSortedBy (λ a b. is_lt (role_cmp a b)) roles → AllPairs (λ a b. is_role_before b a ≡ false) roles
in_order roles up = grind (arith, before, sorted_far (λ a b. is_lt (role_cmp a b)) (ranks_by role_cmp_total (λ a. a)) roles up)

-- ---- no two are alike

-- they differ in a day or the role
abbrev Differ : RoleShown → RoleShown → Type 0
Differ a b = (a.since == b.since && role_number a.role == role_number b.role) && a.until == b.until ≡ false

-- of two that differ one stands before the other
one_before : (a b : RoleShown) → Differ a b → is_role_before b a ≡ false → is_role_before a b ≡ true
one_before a b differ not_after = grind (arith, nat_tests)

turned : (a b : RoleShown) → Differ a b → Differ b a
turned a b differ = grind arith

-- what holds of each two holds in another order
abbrev Reordered : {X : Type 0} → (X → X → Type 0) → List X → List X → Type 0
Reordered R xs ys = ((y : _) → AllByRecursion (R y) xs → AllByRecursion (R y) ys) × (IsAscending R xs → IsAscending R ys)

reordered : {X : Type 0} (R : X → X → Type 0) → ((x y : X) → R x y → R y x) → (xs ys : List X) → IsPermutation xs ys → Reordered R xs ys
reordered R turn =
    along_permutation (Reordered R) (λ l. (λ y all. all, λ up. up)) (λ x l k h. (λ y all. (all.0, h.0 y all.1), λ up. (h.0 x up.0, h.1 up.1)))
    (λ x y l. (λ z all. (all.1.0, (all.0, all.1.1)), λ up. ((turn x y up.0.0, up.1.0), (up.0.1, up.1.1))))
    (λ a b c p q. (λ y all. q.0 y (p.0 y all), λ up. q.1 (p.1 up)))

-- those that are in order and differ each stand before the next
strictly : (roles : List RoleShown) → IsAscending Differ roles → AllPairs (λ a b. is_role_before b a ≡ false) roles
    → AllPairs (λ a b. IsTrue (is_role_before a b)) roles
strictly roles differ order = grind (arith, one_before, all_pairs Differ roles differ)

-- ---- trainings of different keys

module _ (withdrawn : List Withdrawal) (who : List ℕ) where
  -- of one person they differ in a day or the role
  apart : (x y : Training) → is_training_of who x ≡ true → is_training_of who y ≡ true → by_key 4 (training_row x) (training_row y) ≡ Less
      → Differ (role_shown withdrawn x) (role_shown withdrawn y)
  apart x y p q less =
      let other : same_training y x ≡ false = key_of_trainings y x ∙ ap is_eq less in
      let own : same_text y.who x.who ≡ true = (bytes_decides y.who x.who).1 ((bytes_decides y.who who).0 q ∙ sym ((bytes_decides x.who who).0 p)) in
      grind arith

  first_apart : (x : Training) → is_training_of who x ≡ true → (xs : List Training)
      → AllByRecursion (λ row. by_key 4 (training_row x) row ≡ Less) (map training_row xs)
      → AllByRecursion (Differ (role_shown withdrawn x)) (roles_of xs withdrawn who)
  first_apart x p [] up = tt
  first_apart x p (y ∷ xs) up = grind (arith, apart x y p, first_apart x p xs up.1)

  all_apart : (xs : List Training) → IsAscending (λ a b. by_key 4 a b ≡ Less) (map training_row xs) → IsAscending Differ (roles_of xs withdrawn who)
  all_apart [] up = tt
  all_apart (x ∷ xs) up = grind (arith, first_apart, all_apart xs up.1)

-- ---- the withdrawal of a training

-- two rows of the table are of two trainings
other_training : (rows : List Withdrawal) → IsAscending (λ a b. by_key 4 a b ≡ Less) (map withdrawal_row rows)
    → AllPairs (λ a b. same_withdrawn b a ≡ false) rows
other_training rows up =
    all_pairs _ rows
    (ascending_weaker _ _ (λ a b less. key_of_withdrawals b a ∙ ap is_eq less) rows (ascending_from_map (λ a b. by_key 4 a b ≡ Less) withdrawal_row rows up))

-- of two rows of one training none stands before the other
not_before : (row : Training) (rows : List Withdrawal) → AllPairs (λ a b. same_withdrawn b a ≡ false) rows → (i : ℕ) (c : Withdrawal)
    → is_of row (get_or rows i c) ≡ true → (j : ℕ) (d : Withdrawal) → j < length rows → is_of row (get_or rows j d) ≡ true → i < j → ⊥
not_before row rows differ i c p j d below q lt =
    grind (arith, get_or_default rows j d c below, is_of-true row (get_or rows j c), differ i j c lt below)

at_most_one : (row : Training) (rows : List Withdrawal) → AllPairs (λ a b. same_withdrawn b a ≡ false) rows → AtMostOne (is_of row) rows
at_most_one row rows differ i c low p j d below q =
    grind (arith, get_or_default rows j d c below, not_before row rows differ i c p j d below q, not_before row rows differ j d q i c low p)

-- the same day in whatever order the rows are
same_shown : (table rows : List Withdrawal) → IsPermutation table rows → IsAscending (λ a b. by_key 4 a b ≡ Less) (map withdrawal_row rows) → (row : Training)
    → role_shown table row ≡ role_shown rows row
same_shown table rows p up row =
    rw (find-one (is_of row) rows table (IsPermutation-sym table rows p) (at_most_one row rows (other_training rows up))) refl

-- ---- what rows show, in whatever order they are

module _ (m t : Tables) (same : SameTables m t) (rises : Rises t) where
  roles_shown : (who : List ℕ) → IsPermutation (roles_of m.trainings m.withdrawals who) (roles_of t.trainings t.withdrawals who)
  roles_shown who =
      rw (map_same (role_shown m.withdrawals) (role_shown t.withdrawals) (same_shown m.withdrawals t.withdrawals same.withdrawals rises.withdrawals)
      (filter (is_training_of who) m.trainings))
      (IsPermutation-map (role_shown t.withdrawals) (filter (is_training_of who) m.trainings) (filter (is_training_of who) t.trainings)
      (filter-order (is_training_of who) m.trainings t.trainings same.trainings))

  person_shown : (shown : PersonShown) → AreRolesOf t.trainings t.withdrawals shown.who shown.roles.items → IsPersonShownBy m shown
  person_shown shown are =
      let differ = (reordered Differ turned _ shown.roles.items are.roles).1 (all_apart t.withdrawals shown.who t.trainings rises.trainings) in
      record { roles = IsPermutation-trans _ _ _ (roles_shown shown.who) are.roles; order = strictly shown.roles.items differ are.order }

  -- the people with their trainings, out of the rows of the tables
  pub people_shown : (rows : List PersonShown) → map person_of rows ≡ t.people
      → All (λ shown. AreRolesOf t.trainings t.withdrawals shown.who shown.roles.items) rows → ArePeopleShownBy m rows
  people_shown rows is each = record {
    people = subst (IsPermutation m.people) (sym is) same.people;
    order = subst IsByInitials (sym is) (by_initials t.people rises.people);
    each = λ k d below. person_shown (get_or rows k d) (each k d below);
  }

-- so does a history, by its tables
pub people_of_history : (A : History) (rows : List PersonShown) → ArePeopleShownBy (tables A) rows → ArePeopleShown A rows
people_of_history A rows are = grind arith
