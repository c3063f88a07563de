-- Steps in order, gone through from the last one back, tell each row's end.
use Rattle.kcr_room.proofs.Common.{◌≡◌, ℕ, suc, ◌+◌, ◌<◌, ◌≤◌, Bool, false, cond, not, ◌||◌, ◌&&◌, ◌==◌, nat_le, nat_lt, List, [], ◌∷◌, ◌++◌, length}
use Rattle.kcr_room.proofs.Common.{get_or, map, set, drop, Option, Some, None, refl, sym, ap, ◌∙◌, subst, arith, append-nil, append_assoc, list_any}
use Rattle.kcr_room.proofs.Common.{count_by, AllByRecursion, IsPermutation, IsSortedBy, Ordering, nat_cmp, is_lt, ordering_then, IsStrictWeakOrder}
use Rattle.kcr_room.proofs.Common.{on_total, slice_cmp, eq-eqb, eqb-false, then_total, nat_cmp_total, nat_list_cmp_total, length-set, drop_at}
use Rattle.kcr_room.proofs.Common.{drop_all, get_or-set_same, get_or-set_other, get_or-append-add, get_or_append_left, All-from_recursion}
use Rattle.kcr_room.proofs.Common.{recursion_from_All, list_any-append, ranks_by, sorted_far, All-permutation, IsPermutation-sym, sheet_events_by}
use Rattle.kcr_room.proofs.Common.{sum_by-IsPermutation, list_any-IsPermutation, SheetEvent, ends_after, next_of, followed_rows, sheet_events_from}
use Rattle.std.proofs.lemmas.List.{length-append}
use Rattle.kcr_room.proofs.Words.{nat_tests, same_text, SheetRow}
use Rattle.kcr_room.proofs.{Lists.count-cons, Lists.none-behind, Ends.follows, Ends.IsEnd, Ends.ends-next}

-- THE ORDER OF STEPS

-- a step stands before another: at an earlier moment, or at the same one at a lower place
abbrev pub before : SheetEvent → SheetEvent → Bool
before step other = nat_lt step.at other.at || (step.at == other.at && nat_lt step.place other.place)

-- the order of steps: by moment, then by place, then by initials
abbrev pub step_cmp : SheetEvent → SheetEvent → Ordering
step_cmp a b = ordering_then (nat_cmp a.at b.at) (ordering_then (nat_cmp a.place b.place) (slice_cmp nat_cmp a.who b.who))

-- the steps stand in this order
abbrev pub AreSorted : List SheetEvent → Type 0
AreSorted steps = IsSortedBy (λ a b. is_lt (step_cmp a b)) steps

ranked : IsStrictWeakOrder (λ a b. is_lt (step_cmp a b))
ranked =
    let by_place = then_total (on_total (λ (s : SheetEvent). s.place) nat_cmp_total) (on_total (λ (s : SheetEvent). s.who) nat_list_cmp_total) in
    ranks_by (then_total (on_total (λ (s : SheetEvent). s.at) nat_cmp_total) by_place) (λ s. s)

not-before : (a b : SheetEvent) → is_lt (step_cmp a b) ≡ false → before a b ≡ false
not-before a b h = grind (arith, nat_tests, h)

-- of sorted steps none stands before one ahead of it
in_order : (all : List SheetEvent) → AreSorted all → (i j : ℕ) (d : SheetEvent) → i ≤ j → j < length all → before (get_or all j d) (get_or all i d) ≡ false
in_order all sorted i j d h k = not-before (get_or all j d) (get_or all i d) (sorted_far (λ a b. is_lt (step_cmp a b)) ranked all sorted i j d h k)

-- so none behind a step stands before it
behind : (front back : List SheetEvent) (step : SheetEvent) → AreSorted (front ++ (step ∷ back)) → AllByRecursion (λ other. before other step ≡ false) back
behind front back step sorted = recursion_from_All (λ other. before other step ≡ false) back (λ i d h.
    rw (get_or-append-add front (step ∷ back) 0 d, get_or-append-add front (step ∷ back) (suc i) d)
    at (in_order _ sorted (length front + 0) (length front + suc i) d (omega arith) (omega (arith, h, length-append front (step ∷ back)))))

-- and it stands before none ahead of it
ahead : (front back : List SheetEvent) (step : SheetEvent) → AreSorted (front ++ (step ∷ back)) → AllByRecursion (λ other. before step other ≡ false) front
ahead front back step sorted = recursion_from_All (λ other. before step other ≡ false) front (λ i d h.
    rw (get_or-append-add front (step ∷ back) 0 d, get_or_append_left front (step ∷ back) d i h)
    at (in_order (front ++ (step ∷ back)) sorted i (length front + 0) d (omega (arith, h)) (omega (arith, length-append front (step ∷ back)))))

-- PLACES

places-above : (i place : ℕ) (rows : List SheetRow) → i < place → count_by (λ step. step.place == i) (sheet_events_from place rows) ≡ 0
places-above i place [] h = refl
places-above i place (row ∷ rows) h =
    let k = count-cons (λ step. step.place == i) (record { at = row.at; place = place; who = row.who }) (sheet_events_from (suc place) rows) (place == i) refl in
    grind (arith, nat_tests, k, places-above i (suc place) rows)

-- no place stands twice
places-once : (i place : ℕ) (rows : List SheetRow) → count_by (λ step. step.place == i) (sheet_events_from place rows) ≤ 1
places-once i place [] = omega arith
places-once i place (row ∷ rows) =
    let k = count-cons (λ step. step.place == i) (record { at = row.at; place = place; who = row.who }) (sheet_events_from (suc place) rows) (place == i) refl in
    grind (arith, nat_tests, k, places-once i (suc place) rows, places-above i (suc place) rows)

-- of steps with each place once none behind a step has its place
apart : (front back : List SheetEvent) (step : SheetEvent) → count_by (λ other. other.place == step.place) (front ++ (step ∷ back)) ≤ 1
    → AllByRecursion (λ other. (other.place == step.place) ≡ false) back
apart front back step h = none-behind (λ other. other.place == step.place) front back step (eq-eqb step.place step.place refl) h

-- THE STEP THAT COMES NEXT

-- of the person's steps one at t or before
abbrev pub is_next_by : List SheetEvent → List ℕ → ℕ → Bool
is_next_by steps who t = list_any (λ other. same_text other.who who && nat_le other.at t) steps

followed-back : (step : SheetEvent) (t : ℕ) (back : List SheetEvent) → AllByRecursion (λ other. before other step ≡ false) back
    → AllByRecursion (λ other. (other.place == step.place) ≡ false) back
    → list_any (λ other. follows step other && nat_le other.at t) back ≡ is_next_by back step.who t
followed-back step t [] a b = refl
followed-back step t (other ∷ back) a b = grind (arith, nat_tests, a.0, b.0, followed-back step t back a.1 b.1)

followed-front : (step : SheetEvent) (t : ℕ) (front : List SheetEvent) → AllByRecursion (λ other. before step other ≡ false) front
    → list_any (λ other. follows step other && nat_le other.at t) front ≡ false
followed-front step t [] a = refl
followed-front step t (other ∷ front) a = grind (arith, nat_tests, a.0, followed-front step t front a.1)

-- the steps that follow are those of the person that stand behind
followed : (front back : List SheetEvent) (step : SheetEvent) (t : ℕ) → AreSorted (front ++ (step ∷ back))
    → count_by (λ other. other.place == step.place) (front ++ (step ∷ back)) ≤ 1
    → list_any (λ other. follows step other && nat_le other.at t) (front ++ (step ∷ back)) ≡ is_next_by back step.who t
followed front back step t sorted once =
    let none = followed-front step t front (ahead front back step sorted) in
    let same = followed-back step t back (behind front back step sorted) (apart front back step once) in
    grind (arith, nat_tests, list_any-append)

-- GONE THROUGH FROM THE LAST ONE BACK

-- what is known if the steps in front are still left: of the others each has its end, and the next step of each person is at hand
pub record Told (rows : List SheetRow) (all front : List SheetEvent) (next : List ℕ → Option ℕ) (ends : List (Option ℕ)) : Type 0 where
  pub left : front ++ drop (length front) all ≡ all
  pub soon : (who : List ℕ) (t : ℕ) → ends_after t (next who) ≡ not (is_next_by (drop (length front) all) who t)
  pub ended : AllByRecursion (λ step. IsEnd (sheet_events_by rows) step (get_or ends step.place None)) (drop (length front) all)
  pub many : length ends ≡ length rows

-- it holds at first, with all steps left, no next step known, and as many ends as rows
pub told-init : (rows : List SheetRow) (all : List SheetEvent) (next : List ℕ → Option ℕ) (ends : List (Option ℕ)) → ((who : List ℕ) → next who ≡ None)
    → length ends ≡ length rows → Told rows all all next ends
told-init rows all next ends none many =
    let e : drop (length all) all ≡ [] = drop_all (length all) all (omega arith) in
    record { left = rw e (append-nil all); soon = λ who t. rw (none who, e); ended = rw e tt; many = many }

none-next : (step : SheetEvent) (t : ℕ) (who : List ℕ) (back : List SheetEvent) → AllByRecursion (λ other. before other step ≡ false) back → nat_le step.at t ≡ false
    → is_next_by back who t ≡ false
none-next step t who [] a h = refl
none-next step t who (other ∷ back) a h = grind (arith, nat_tests, a.0, h, none-next step t who back a.1)

soon-more : (step : SheetEvent) (back : List SheetEvent) (found : Option ℕ) (who : List ℕ) (t : ℕ) → AllByRecursion (λ other. before other step ≡ false) back
    → ends_after t found ≡ not (is_next_by back who t)
    → ends_after t (cond (same_text step.who who) (Some step.at) found) ≡ not (is_next_by (step ∷ back) who t)
soon-more step back found who t a h = grind (arith, nat_tests, h, none-next step t who back a)

-- an end that is written at another place changes none of these
kept : (all : List SheetEvent) (ends : List (Option ℕ)) (place : ℕ) (until : Option ℕ) (steps : List SheetEvent)
    → AllByRecursion (λ other. (other.place == place) ≡ false) steps
    → AllByRecursion (λ other. IsEnd all other (get_or ends other.place None)) steps
    → AllByRecursion (λ other. IsEnd all other (get_or (set ends place until) other.place None)) steps
kept all ends place until [] n a = tt
kept all ends place until (other ∷ steps) n a =
    (rw (get_or-set_other ends place other.place until None (eqb-false other.place place n.0)) a.0, kept all ends place until steps n.1 a.1)

in-middle : {X : Type 0} (P : X → Type 0) (front back : List X) (x : X) → AllByRecursion P (front ++ (x ∷ back)) → P x
in-middle P [] back x a = a.0
in-middle P (y ∷ front) back x a = in-middle P front back x a.1

places-within : (n place : ℕ) (rows : List SheetRow) → place + length rows ≡ n → AllByRecursion (λ step. step.place < n) (sheet_events_from place rows)
places-within n place [] h = tt
places-within n place (row ∷ rows) h = (omega arith, places-within n (suc place) rows (omega arith))

-- the step that is last of those in front
module _ (rows : List SheetRow) (all front : List SheetEvent) (step : SheetEvent) (next : List ℕ → Option ℕ) (ends : List (Option ℕ))
    (moved : IsPermutation (sheet_events_by rows) all) (told : Told rows all (front ++ (step ∷ [])) next ends) where
  back : List SheetEvent
  back = drop (length (front ++ (step ∷ []))) all

  split : front ++ (step ∷ back) ≡ all
  unfolding back
  split = sym (append_assoc front (step ∷ []) (drop (length (front ++ (step ∷ []))) all)) ∙ told.left

  -- the step has its place among the ends
  pub place-within : step.place < length ends
  place-within =
      let P : SheetEvent → Type 0 = λ step. step.place < length rows in
      let within = All-from_recursion P (sheet_events_by rows) (places-within (length rows) 0 rows (omega arith)) in
      let all_within = recursion_from_All P all (All-permutation P (sheet_events_by rows) all moved within) in
      omega (arith, in-middle P front back step (subst (AllByRecursion P) (sym split) all_within), told.many)

  module _ (sorted : AreSorted all) where
    in-order : AreSorted (front ++ (step ∷ back))
    in-order = subst AreSorted (sym split) sorted

    once : count_by (λ other. other.place == step.place) (front ++ (step ∷ back)) ≤ 1
    once =
        let same = sum_by-IsPermutation (λ other. cond (other.place == step.place) 1 0) (sheet_events_by rows) all moved in
        rw split (omega (arith, same, places-once step.place 0 rows))

    rest-is : drop (length front) all ≡ step ∷ back
    rest-is = ap (drop (length front)) (sym split) ∙ drop_at front (step ∷ back) (length front) refl

    its-end : IsEnd (sheet_events_by rows) step (next step.who)
    unfolding back
    its-end = λ t.
        let same = list_any-IsPermutation (λ other. follows step other && nat_le other.at t) (sheet_events_by rows) all moved in
        let behind = rw split at (followed front back step t in-order once) in
        cc (told.soon step.who t)

    -- once this step has its end, what was known with it left is known with only those before it left
    pub told-next : (later : List ℕ → Option ℕ) → ((who : List ℕ) → later who ≡ cond (same_text step.who who) (Some step.at) (next who))
        → Told rows all front later (set ends step.place (next step.who))
    unfolding back
    told-next later e = record {
      left = rw rest-is split;
      soon = λ who t. rw (rest-is, e who) (soon-more step back (next who) who t (behind front back step in-order) (told.soon who t));
      ended = rw rest-is (
        rw (get_or-set_same ends step.place (next step.who) None place-within) its-end,
        kept (sheet_events_by rows) ends step.place (next step.who) back (apart front back step once) told.ended,
      );
      many = length-set ends step.place (next step.who) ∙ told.many;
    }

-- if no step is left each row has its end
pub told-all : (rows : List SheetRow) (all : List SheetEvent) (next : List ℕ → Option ℕ) (ends : List (Option ℕ)) → IsPermutation (sheet_events_by rows) all
    → Told rows all [] next ends → ends ≡ map next_of (followed_rows rows)
told-all rows all next ends moved told =
    let P : SheetEvent → Type 0 = λ step. IsEnd (sheet_events_by rows) step (get_or ends step.place None) in
    let ended = All-permutation P all (sheet_events_by rows) (IsPermutation-sym _ all moved) (All-from_recursion P all told.ended) in
    ends-next rows ends 0 [] rows refl refl (omega (arith, told.many)) (recursion_from_All P (sheet_events_by rows) ended)
