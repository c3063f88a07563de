-- Runs of seats and their groups, and the written text of a list, which stands for it.
use Rattle.kcr_script.proofs.Common.{◌≡◌, ◌≢◌, ℕ, zero, suc, ◌+◌, ◌/◌, ◌%◌, ◌<◌, ◌≤◌, true, false, cond, eqb, nat_lt, ◌&&◌, List, [], ◌∷◌, length}
use Rattle.kcr_script.proofs.Common.{drop, get_or, refl, sym, ap, subst, ◌∙◌, arith, ◌*◌, inl, inr, ◌++◌, replicate, All, append_assoc, append-nil}
use Rattle.kcr_script.proofs.Common.{nat_tests, cond_both, ne_eqb, false_from_ne_true, cases_Bool, Ca, Seat, Staff, kind, can_repeat, IsSeat}
use Rattle.kcr_script.proofs.Common.{seat_text, Item, runs, before_runs, groups, pair_item, IsItem, item_seats, star_text, after_semicolon, appended}
use Rattle.kcr_script.proofs.Common.{all_appended, items_text, Spells, StandsFor, IsSeats, flat_map, AllByRecursion, replicate-append-replicate}
use Rattle.kcr_script.proofs.{Common.All-head, Common.All-tail, Common.each-append, SeatLemmas.one_item, SeatLemmas.more_items}
use Rattle.kcr_script.specs.Seats.{written}
use Rattle.std.proofs.lemmas.List.Concat.{flat_map-append}

-- two seats of one kind, which have no number, are equal
pub merged_same : (s t : Seat) → (nat_lt (kind s) 9 && eqb (kind s) (kind t)) ≡ true → s ≡ t
merged_same s t h = grind (arith, nat_tests)

merged : (s : Seat) → kind s < 9 → (nat_lt (kind s) 9 && eqb (kind s) (kind s)) ≡ true
merged s h = grind (arith, nat_tests)

-- the first of the runs is of the first seat
first_run : (s : Seat) (rs : List Item) → (n : ℕ) × (more : List Item) × (before_runs s rs ≡ pair_item (s, n) ∷ more)
first_run s [] = (1, [], refl)
first_run s (run ∷ more) =
    cond_both (nat_lt (kind s) 9 && eqb (kind s) (kind run.seat)) _ _ (λ (rs : List Item). (n : ℕ) × (m : List Item) × (rs ≡ pair_item (s, n) ∷ m))
    (λ e. (suc run.count, more, refl)) (λ e. (1, run ∷ more, refl))

-- a seat before another makes a run of its own
alone : (s : Seat) (rest : List Seat) → ((d : Seat) → 0 < length rest → get_or rest 0 d ≢ s)
    → before_runs s (runs rest) ≡ pair_item (s, 1) ∷ runs rest
alone s [] differ = refl
alone s (t ∷ ts) differ = rw ((first_run t (runs ts)).2, false_from_ne_true _ (λ e. differ t (omega arith) (sym (merged_same s t e))))

-- the run of a seat that is there i more times, and then no more
pub run_of : (xs : List Seat) (i : ℕ) (s : Seat) → kind s < 9 → i ≤ length xs → ((k : ℕ) (d : Seat) → k < i → get_or xs k d ≡ s)
    → ((d : Seat) → i < length xs → get_or xs i d ≢ s)
    → runs (s ∷ xs) ≡ pair_item (s, i + 1) ∷ runs (drop i xs)
run_of xs zero s low h same differ = alone s xs differ
run_of [] (suc i) s low h same differ = absurd (omega arith)
run_of (x ∷ xs) (suc i) s low h same differ =
    let again = run_of xs i s low (omega arith) (λ k d g. same (suc k) d (omega arith)) (λ d g. differ d (omega arith)) in
    grind (arith, nat_tests, same 0 x (omega arith), merged s low)

-- ---- groups of a run

-- a run with seven more seats has one more group of seven in front
pub groups_more : (s : Seat) (n : ℕ) → groups (pair_item (s, n + 7)) ≡ pair_item (s, 7) ∷ groups (pair_item (s, n))
groups_more s n = grind arith

-- ---- appending items

-- two lists of items are appended one after the other
pub all_appended-append : (text : List ℕ) (items more : List Item) → all_appended text (items ++ more) ≡ all_appended (all_appended text items) more
all_appended-append text [] more = refl
all_appended-append text (item ∷ items) more = all_appended-append (appended text item) items more

appended_after : (b : ℕ) (bytes : List ℕ) (items : List Item) → all_appended (b ∷ bytes) items ≡ (b ∷ bytes) ++ flat_map after_semicolon items
appended_after b bytes [] = sym (append-nil (b ∷ bytes))
appended_after b bytes (item ∷ items) =
    appended_after b (bytes ++ after_semicolon item) items ∙ append_assoc (b ∷ bytes) (after_semicolon item) (flat_map after_semicolon items)

seat_front : (s : Seat) (star : List ℕ) → (b : ℕ) × (bytes : List ℕ) × (seat_text s ++ star ≡ b ∷ bytes)
seat_front (Staff Ca) star = (_, _, refl)
seat_front other star = (_, _, refl)

-- items appended to the empty text give the items' text
pub all_appended_is : (items : List Item) → all_appended [] items ≡ items_text items
all_appended_is [] = refl
all_appended_is (first ∷ more) =
    let f = seat_front first.seat (star_text first.count) in
    rw f.2 (appended_after f.0 f.1 more)

-- ---- the items of a list are items

record IsRun (run : Item) : Type 0 where
  seat : IsSeat run.seat
  some : 1 ≤ run.count
  numbered : can_repeat run.seat ≡ false → run.count ≡ 1

-- items of a kind that stand for the seats
record Are (P : Item → Type 0) (items : List Item) (seats : List Seat) : Type 0 where
  each : AllByRecursion P items
  are : flat_map item_seats items ≡ seats

-- the runs of a list

before_runs_are : (s : Seat) (rs : List Item) (seats : List Seat) → IsSeat s → Are IsRun rs seats → Are IsRun (before_runs s rs) (s ∷ seats)
before_runs_are s [] seats seat h =
    record { each = (record { seat = seat; some = omega arith; numbered = λ _. refl }, tt); are = ap (λ (xs : List Seat). s ∷ xs) h.are }
before_runs_are s (run ∷ more) seats seat h = elim (cases_Bool (nat_lt (kind s) 9 && eqb (kind s) (kind run.seat))) [
  | inr apart ↦ rw apart
      (record { each = (record { seat = seat; some = omega arith; numbered = λ _. refl }, h.each); are = ap (λ (xs : List Seat). s ∷ xs) h.are })
  | inl joins ↦
      let same = merged_same s run.seat joins in
      rw joins (record {
        each = (record { seat = seat; some = omega arith; numbered = grind (arith, nat_tests) }, h.each.1);
        are = grind (arith, h.are);
      })
]

runs_are : (seats : List Seat) → All IsSeat seats → Are IsRun (runs seats) seats
runs_are [] h = record { each = tt; are = refl }
runs_are (s ∷ more) h = before_runs_are s (runs more) more (All-head IsSeat s more h) (runs_are more (All-tail IsSeat s more h))

-- the groups of a run

join_items : (xs ys : List Item) (front back : List Seat) → Are IsItem xs front → Are IsItem ys back → Are IsItem (xs ++ ys) (front ++ back)
join_items xs ys front back p q =
    record { each = each-append IsItem xs ys p.each q.each; are = grind (arith, p.are, q.are, flat_map-append item_seats xs ys) }

module _ (s : Seat) (seat : IsSeat s) (again : can_repeat s ≡ true) where
  sevens_are : (q : ℕ) → Are IsItem (replicate q (pair_item (s, 7))) (replicate (q * 7) s)
  sevens_are zero = record { each = tt; are = refl }
  sevens_are (suc q) =
      let rest = sevens_are q in
      record {
        each = (more_items s 7 seat again (omega arith) (omega arith), rest.each);
        are = grind (arith, rest.are, replicate-append-replicate 7 (q * 7) s);
      }

  rest_are : (r : ℕ) → r < 7 → Are IsItem (cond (eqb r 0) [] (pair_item (s, r) ∷ [])) (replicate r s)
  rest_are zero small = record { each = tt; are = refl }
  rest_are (suc r) small = rw (ne_eqb (suc r) 0 (omega arith))
      (record { each = (more_items s (suc r) seat again (omega arith) (omega arith), tt); are = append-nil (replicate (suc r) s) })

groups_are : (run : Item) → IsRun run → Are IsItem (groups run) (item_seats run)
groups_are run h = elim (cases_Bool (can_repeat run.seat)) [
  | inl again ↦
      let q = run.count / 7 in
      let r = run.count % 7 in
      let same : replicate (q * 7) run.seat ++ replicate r run.seat ≡ item_seats run =
      grind (arith, replicate-append-replicate (q * 7) r run.seat) in
      subst (Are IsItem (groups run)) same (join_items _ _ _ _ (sevens_are run.seat h.seat again q) (rest_are run.seat h.seat again r (omega arith)))
  | inr single ↦ rw (h.numbered single) (record { each = (one_item run.seat h.seat, tt); are = refl })
]

all_groups_are : (rs : List Item) → AllByRecursion IsRun rs → Are IsItem (flat_map groups rs) (flat_map item_seats rs)
all_groups_are [] h = record { each = tt; are = refl }
all_groups_are (run ∷ more) h = join_items (groups run) (flat_map groups more) (item_seats run) (flat_map item_seats more) (groups_are run h.0)
    (all_groups_are more h.1)

-- ---- the law

spelled : (items : List Item) (seats : List Seat) → Are IsItem items seats → 1 ≤ length seats → Spells (items_text items) seats
spelled [] seats h some = absurd (omega (arith, ap length h.are))
spelled (first ∷ more) seats h some = record { first = first; more = more; is_first = h.each.0; each_more = h.each.1; text_is = refl; seats_are = sym h.are }

-- the written text of seats stands for them
pub written_stands : (seats : List Seat) → IsSeats seats → StandsFor (written seats) seats
unfolding written
written_stands seats h =
    let rs = runs_are seats h.each in
    let items = all_groups_are (runs seats) rs.each in
    record { spells = spelled (flat_map groups (runs seats)) seats (record { each = items.each; are = items.are ∙ rs.are }) h.some_seat; sixteen = h.sixteen }
