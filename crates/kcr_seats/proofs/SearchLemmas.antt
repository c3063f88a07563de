-- The steps of the search keep what is known of it.
use Rattle.std.proofs.Common.{◌≡◌, ◌≢◌, ℕ, ◌+◌, ◌<◌, ◌≤◌, ◌⊎◌, inl, inr, Bool, true, false, List, [], ◌∷◌, ◌++◌, length, get_or}
use Rattle.std.proofs.Common.{set, replicate, refl, arith, sym, ◌∙◌, ap, length-append}
use Rattle.std.specs.Prelude.{SomeIndex}
use Rattle.std.proofs.lemmas.List.{get_or_read, length-set, length-replicate, get_or-replicate}
use Rattle.std.proofs.lemmas.List.{set-set, set-get_or, get_or-set_same, get_or-set_other, Elements.All-from_get_or}
use Rattle.std.proofs.lemmas.List.Folds.{list_any_at, list_any_none, Any-from_list_any}
use Rattle.std.proofs.Math.{ListN.get_or-append, Seq.get_or-append_seam}
use Rattle.kcr_seats.specs.{Seating.can_take, Placement.IsPlaced}
use Rattle.kcr_seats.specs.Search.{IsRootAlone, IsReached, IsMarked, IsClosed, IsListed}
use Rattle.kcr_seats.proofs.{Between.IsAlternatingPath, Between.IsRow, Counting.pigeonhole, Counting.same_or_not}
use Rattle.kcr_seats.proofs.Moves.{all_seated, given, set_at}

-- a person fits one of the seats, or none
pub can_take_some : (fits : ℕ → ℕ → Bool) (s : List ℕ) (p i : ℕ) → i < length s → fits (get_or s i 0) p ≡ true → can_take fits s p ≡ true
can_take_some fits s p i l h = list_any_at (λ k. fits k p) s i 0 l h

-- a person who fits no seat of the list can take none of them
pub can_take_none : (fits : ℕ → ℕ → Bool) (s : List ℕ) (p : ℕ) → ((i : ℕ) → i < length s → fits (get_or s i 0) p ≡ false)
    → can_take fits s p ≡ false
can_take_none fits s p h = list_any_none (λ k. fits k p) s (All-from_get_or (λ k. fits k p ≡ false) s 0 h)

-- a person who can take a seat of the list fits one of them
pub can_take_at : (fits : ℕ → ℕ → Bool) (s : List ℕ) (p : ℕ) → can_take fits s p ≡ true → SomeIndex s (λ i. fits (get_or s i 0) p ≡ true)
can_take_at fits s p h = let w = Any-from_list_any (λ k. fits k p) s h in (w.0, w.2, rw (← get_or_read s w.0 w.1 w.2 (sym w.3) 0) w.4)

-- an index of a longer list is one of the list, or the last
pub last_or_not : (xs : List ℕ) (y i : ℕ) → i < length (xs ++ y ∷ [])
    → ((i < length xs) × (get_or (xs ++ y ∷ []) i 0 ≡ get_or xs i 0)) ⊎ ((i ≡ length xs) × (get_or (xs ++ y ∷ []) i 0 ≡ y))
last_or_not xs y i l =
    let l' : i < length xs + 1 = simp length-append at l in
    grind (arith, same_or_not i (length xs), get_or-append_seam xs y [] 0, get_or-append xs (y ∷ []) 0 i)

-- what is in a list is in a longer one, and so is the last
pub some_more : (xs : List ℕ) (y j : ℕ) → SomeIndex xs (λ i. get_or xs i 0 ≡ j) ⊎ (y ≡ j) → SomeIndex (xs ++ y ∷ []) (λ i. get_or (xs ++ y ∷ []) i 0 ≡ j)
some_more xs y j (inl (i, l, e)) = (i, (simp length-append (omega arith)), get_or-append xs (y ∷ []) 0 i l ∙ e)
some_more xs y j (inr e) = (length xs, (simp length-append (omega arith)), get_or-append_seam xs y [] 0 ∙ e)

module _ {fits : ℕ → ℕ → Bool} {root fixed : ℕ} {w order from : List ℕ} (r : IsReached fits root fixed w order from) where
  -- no more seats are reached than there are
  pub order_short : length order ≤ length w
  order_short = pigeonhole order (length w) r.high r.distinct

  -- the root is marked
  pub not_root : {marked : List Bool} (other : ℕ) → IsMarked w order marked → get_or marked other false ≡ false → other ≢ root
  not_root {marked} other m unmarked e =
      let yes : get_or marked (get_or order 0 0) false ≡ true = m.all 0 r.some in let starts : get_or order 0 0 ≡ root = r.starts in cc

  -- a seat that was not marked, and that the person of fits a seat of the order, is one more
  pub reached_more : {marked : List Bool} (next other : ℕ) → IsMarked w order marked
      → other < length w → fixed ≤ other → get_or marked other false ≡ false
      → next < length order → fits (get_or order next 0) (get_or w other 0) ≡ true
      → IsReached fits root fixed w (order ++ other ∷ []) (from ++ next ∷ [])
  reached_more {marked} next other m lo fi un ne fit =
      let linked : length from ≡ length order = r.linked in
      let new : (i : ℕ) → i < length order → get_or order i 0 ≡ other → ⊥ = λ (i : ℕ) (l : i < length order) (e : get_or order i 0 ≡ other).
      let a : get_or marked other false ≡ true = rw e at (m.all i l) in cc in
      let last_from : get_or (from ++ next ∷ []) (length order) 0 ≡ next = rw linked at (get_or-append_seam from next [] 0) in
      let keeps_from : (i : ℕ) → i < length order → get_or (from ++ next ∷ []) i 0 ≡ get_or from i 0 =
      λ (i : ℕ) (l : i < length order). get_or-append from (next ∷ []) 0 i (omega arith) in
      record {
        some = simp length-append (omega arith);
        starts = get_or-append order (other ∷ []) 0 0 r.some ∙ r.starts;
        linked = simp length-append (omega arith);
        low = λ i l. elim (last_or_not order other i l) [ inl a ↦ rw a.1 (r.low i a.0) | inr a ↦ rw a.1 fi ];
        high = λ i l. elim (last_or_not order other i l) [ inl a ↦ rw a.1 (r.high i a.0) | inr a ↦ rw a.1 lo ];
        distinct = λ i j l k e. grind (arith, last_or_not order other i l, last_or_not order other j k, new i, new j, r.distinct i j);
        before = λ i p l. elim (last_or_not order other i l) [ inl a ↦ rw (keeps_from i a.0) (r.before i p a.0) | inr a ↦ rw (a.0, last_from) ne ];
        edge = λ i p l. grind (
          arith,
          last_or_not order other i l,
          keeps_from i,
          r.before i p,
          r.edge i p,
          get_or-append order (other ∷ []) 0 (get_or from i 0),
          get_or-append order (other ∷ []) 0 next,
        );
      }

still : (j other : ℕ) (marked : List Bool) → other < length marked → get_or marked j false ≡ true → get_or (set marked other true) j false ≡ true
still j other marked l h = grind (arith, same_or_not j other, get_or-set_same marked other true false l, get_or-set_other marked other j true false)

-- with one more seat reached and marked, still exactly the reached seats are marked
pub marked_more : {w order : List ℕ} {marked : List Bool} (other : ℕ) → IsMarked w order marked → other < length w
    → IsMarked w (order ++ other ∷ []) (set marked other true)
marked_more {w} {order} {marked} other m lo =
    let table : length marked ≡ length w = m.table in
    record {
      table = length-set marked other true ∙ m.table;
      all = λ i l. grind (
        arith,
        last_or_not order other i l,
        m.all i,
        still (get_or order i 0) other marked (omega arith),
        get_or-set_same marked other true false (omega arith),
      );
      only = λ j l h. some_more order other j
          (elim (set_at marked other true false j (omega arith)) [ inl a ↦ inr (sym a.0) | inr a ↦ inl (m.only j l (sym a.1 ∙ h)) ]);
    }

-- the root alone is reached from the root
module _ {root : ℕ} {w order from : List ℕ} {marked : List Bool} (alone : IsRootAlone (length w) root order from marked) (lo : root < length w) where
  -- the root is reached from itself, and as yet no other seat
  pub root_reached : (fits : ℕ → ℕ → Bool) (fixed : ℕ) → fixed ≤ root → IsReached fits root fixed w order from
  root_reached fits fixed fi =
      let first : (i : ℕ) → i < 1 → i ≡ 0 = λ (i : ℕ) (l : i < 1). omega arith in
      rw (alone.order_is, alone.from_is) (record {
        some = omega arith;
        starts = refl;
        linked = refl;
        low = λ i l. rw (first i l) fi;
        high = λ i l. rw (first i l) lo;
        distinct = λ i j l k e. first i l ∙ sym (first j k);
        before = λ i p l. absurd (omega arith);
        edge = λ i p l. absurd (omega arith);
      })

  -- the root is marked, and as yet no other seat
  pub root_marked : IsMarked w order marked
  root_marked =
      let blank = replicate (length w) false in
      let long : length blank ≡ length w = length-replicate (length w) false in
      rw (alone.order_is, alone.marked_is) (record {
        table = length-set blank root true ∙ long;
        all = λ i l. (let z : i ≡ 0 = omega arith in rw z (get_or-set_same blank root true false (omega arith)));
        only = λ j l h. (0, omega arith, grind (arith, set_at blank root true false j (omega arith), get_or-replicate (length w) j false false l));
      })

-- no seat has been asked yet at the next index
pub row_start : {fits : ℕ → ℕ → Bool} {root fixed : ℕ} {w order from : List ℕ} {marked : List Bool} (next seat : ℕ)
    → IsReached fits root fixed w order from → IsMarked w order marked → IsClosed fits fixed next (length w) w order marked
    → next < length order → get_or order next 0 ≡ seat → IsRow fits root fixed next fixed seat w order from marked
row_start next seat r m closed inside here =
    record { reached = r; marks = m; closed = closed; row = λ j f l. absurd (omega arith); inside = inside; here = here }

module _ {fits : ℕ → ℕ → Bool} {root fixed next other seat : ℕ} {w order from : List ℕ} {marked : List Bool}
    (r : IsRow fits root fixed next other seat w order from marked) where
  -- the row goes on by a seat that is marked now
  pub row_more : {order' from' : List ℕ} {marked' : List Bool} → other < length w → fixed ≤ other
      → get_or marked other false ≡ false → fits seat (get_or w other 0) ≡ true
      → order' ≡ order ++ other ∷ [] → from' ≡ from ++ next ∷ [] → marked' ≡ set marked other true
      → IsRow fits root fixed next (other + 1) seat w order' from' marked'
  row_more lo fi un fit eo ef em =
      let table : length marked ≡ length w = r.marks.table in
      let inside : next < length order = r.inside in
      rw (eo, ef, em) (record {
        reached = reached_more r.reached next other r.marks lo fi un r.inside (rw r.here fit);
        marks = marked_more other r.marks lo;
        closed = λ i j l f h k.
            still j other marked (omega arith) (r.closed i j l f h (rw (get_or-append order (other ∷ []) 0 i (omega arith)) at k));
        row = λ j f h k. elim (same_or_not j other) [
          | inl e ↦ rw e (get_or-set_same marked other true false (omega arith))
          | inr ne ↦ still j other marked (omega arith) (r.row j f (omega arith) k)
        ];
        inside = simp length-append (omega arith);
        here = get_or-append order (other ∷ []) 0 next r.inside ∙ r.here;
      })

  -- or by one that was marked, or whose person does not fit
  pub row_less : {order' from' : List ℕ} {marked' : List Bool}
      → (fits seat (get_or w other 0) ≡ true → get_or marked other false ≡ true) → order' ≡ order → from' ≡ from → marked' ≡ marked
      → IsRow fits root fixed next (other + 1) seat w order' from' marked'
  row_less so eo ef em =
      rw (eo, ef, em) (record {
        reached = r.reached;
        marks = r.marks;
        closed = r.closed;
        row = λ j f h k. elim (same_or_not j other) [ inl e ↦ rw e (so (rw e at k)) | inr ne ↦ r.row j f (omega arith) k ];
        inside = r.inside;
        here = r.here;
      })

  -- after the row, the seat at the index is closed too
  pub row_closed : length w ≤ other → IsClosed fits fixed (next + 1) (length w) w order marked
  row_closed h = λ i j l f k e. grind (arith, same_or_not i next, r.row j f, r.closed i j, r.here)

module _ {fits : ℕ → ℕ → Bool} {people root index person : ℕ} {w order from : List ℕ} (y : IsAlternatingPath fits people root index person w order from) where
  -- the seat that was read at the index is one of the list
  pub read_inside : {fixed seat : ℕ} {w0 : List ℕ} → IsReached fits root fixed w0 order from → length w ≡ length w0 → seat ≡ get_or order index seat
      → seat < length w
  read_inside {seat = seat} r long e = let high = r.high index y.inside in omega (arith, get_or_read order index seat y.inside e 0, high)

  -- the index that was read there is lower
  pub read_before : {fixed before : ℕ} {w0 : List ℕ} → IsReached fits root fixed w0 order from → 0 < index → before ≡ get_or from index before
      → before < index
  read_before {before = before} r some e =
      omega (arith, get_or_read from index before (omega (arith, r.linked, y.inside)) e 0, y.before index some (omega arith))

  -- the way shortens by a seat
  pub way_back : {fixed index' person' seat : ℕ} {w0 : List ℕ} → IsReached fits root fixed w0 order from → length w ≡ length w0 → 0 < index
      → index' ≡ get_or from index 0 → seat ≡ get_or order index 0 → person' ≡ get_or w seat 0
      → IsAlternatingPath fits people root index' person' (set w seat person) order from
  way_back {fixed} {index'} {person'} {seat} {w0} r long some ei es ep =
      let below : index' < index = rw ei (y.before index some (omega arith)) in
      let inside : index < length order = y.inside in
      let ns : seat ≢ root = λ (e : seat ≡ root). absurd (omega (arith, r.distinct index 0 inside r.some (sym es ∙ e ∙ sym r.starts))) in
      let high : seat < length w0 = rw es (r.high index inside) in
      let within : seat < length w = omega arith in
      record {
        seated = given root seat person y.seated y.known (rw es y.fitting) (λ k l nk _. (nk, y.free k l nk));
        known = rw ep (y.seated.in_range seat within ns);
        free = λ k l nk e. (
            let l' = rw length-set at l in
            grind (arith, set_at w seat person 0 k l', y.free seat within ns, y.seated.distinct k seat l' within nk ns));
        inside = omega arith;
        fitting = rw (ei, ep, es) (y.edge index some (omega arith));
        before = λ i p l. y.before i p (omega arith);
        edge = λ i p l.
            rw (get_or-set_other w seat (get_or order i 0) person 0 (λ e. absurd (omega (arith, r.distinct i index (omega arith) inside (e ∙ es)))))
            (y.edge i p (omega arith));
      }

  -- and the seats before the fixed one keep their people
  pub way_same : {fixed seat : ℕ} {w0 : List ℕ} → IsReached fits root fixed w0 order from → seat ≡ get_or order index 0
      → (k : ℕ) → k < fixed → get_or (set w seat person) k 0 ≡ get_or w k 0
  way_same {fixed} {seat} r es k l =
      let high : fixed ≤ get_or order index 0 = r.low index y.inside in
      get_or-set_other w seat k person 0 (λ e. absurd (omega arith))

  -- the root found a person
  pub placed : {fixed : ℕ} {w0 : List ℕ} → index ≡ 0 → get_or order 0 0 ≡ root → fixed ≤ root → length w ≡ length w0
      → ((k : ℕ) → k < fixed → get_or w k 0 ≡ get_or w0 k 0) → IsPlaced fits people fixed w0 (set w root person)
  placed {fixed} {w0} done start low long same = record {
    seating = all_seated (length w0) (length-set w root person ∙ long) (omega arith)
        (given (length w) root person y.seated y.known (rw (done, start) at y.fitting) (λ k l _ nk. (nk, y.free k l nk)));
    same = λ k l. get_or-set_other w root k person 0 (λ e. absurd (omega arith)) ∙ same k l;
  }

-- the seat has its person back
pub restored : (w w' : List ℕ) (seat person old : ℕ) → w' ≡ set w seat person → old ≡ get_or w seat old → set w' seat old ≡ w
restored w w' seat person old e o = rw (e, set-set) (ap (λ x. set w seat x) o ∙ set-get_or w seat old)

-- a marked seat is one more of the list
pub listed_more : {marked : List Bool} {n : ℕ} {s : List ℕ} → IsListed marked n s → get_or marked n false ≡ true → IsListed marked (n + 1) (s ++ n ∷ [])
listed_more {marked} {n} {s} l passes = record {
  rising = λ i h. (
      let here : get_or (s ++ n ∷ []) i 0 ≡ get_or s i 0 = get_or-append s (n ∷ []) 0 i (let h' = simp length-append at h in omega arith) in
      elim (last_or_not s n (i + 1) h) [ inl a ↦ rw (a.1, here) (l.rising i a.0) | inr a ↦ rw (a.1, here) (l.low i (omega (arith, a.0))) ]);
  low = λ i h. elim (last_or_not s n i h) [ inl a ↦ rw a.1 (omega (arith, l.low i a.0)) | inr a ↦ rw a.1 (omega arith) ];
  only = λ i h. elim (last_or_not s n i h) [ inl a ↦ rw a.1 (l.only i a.0) | inr a ↦ rw a.1 passes ];
  all = λ j h e. some_more s n j (elim (same_or_not j n) [ inl q ↦ inr (sym q) | inr q ↦ inl (l.all j (omega arith) e) ]);
}

-- a seat that is not marked is not of the list
pub listed_same : {marked : List Bool} {n : ℕ} {s : List ℕ} → IsListed marked n s → get_or marked n false ≡ false → IsListed marked (n + 1) s
listed_same {marked} {n} l not_so = record {
  rising = l.rising;
  low = λ i h. omega (arith, l.low i h);
  only = l.only;
  all = λ j h e. l.all j (grind (arith, same_or_not j n)) e;
}
