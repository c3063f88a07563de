-- When a room would be too full, and when somebody would be alone in it.
use Rattle.kcr_laws.proofs.Common.{◌≡◌, ℕ, true, false, not, ◌==◌, nat_lt, nat_le, List, [], ◌∷◌, find, Option, Some, None, option_map, refl, ap, inl}
use Rattle.kcr_laws.proofs.Common.{inr, arith, both_ways, true_from_ne_false, ltb-true, lt-ltb, eqb-true, eqb-false, eq-eqb, cases_order, when}
use Rattle.kcr_laws.proofs.Common.{unknown_people_refusal, not_after_mark_refusal, Refusal, Unknown, Late, Turn, Crowd, Lone, Full, SheetRow, Way}
use Rattle.kcr_laws.proofs.Common.{is_out_of_turn_by, IsFirstMoment, IsEver, headcount_by, stays_by, first_lone_in_by, is_crowded_in_by, Ceremony}
use Rattle.kcr_laws.proofs.Common.{RecordSheet, History, is_person, mark, sheet, sheet_after, fault, is_full, named_twice_refusal, first_twice}
use Rattle.kcr_laws.proofs.Common.{out_of_turn_refusal, crowd_refusal, lone_room_refusal, is_overfull, no_ceremony, not_open, not_later}
use Rattle.kcr_laws.proofs.Common.{IsEverCrowded, IsFirstAlone, IsNeverAlone}
use Rattle.kcr_base.specs.declared.refusal.Thing.TheVariants as Things
use Rattle.kcr_room.proofs.Moments.{first_lone-is_first, first_lone-by_rows, crowded-is_ever, crowded-by_rows}
use Rattle.kcr_laws.proofs.Refused.{kind, IsOther, AreOther, other_when, other_of_some, of_the_one}

-- MORE THAN 128

-- the stays show a crowd if and only if at some moment more than 128 people are in the room by the rows
pub ever : (rows : List SheetRow) (c : ℕ) → IsEver (λ t. nat_lt 128 (headcount_by rows c t)) (is_crowded_in_by (stays_by rows) c)
ever rows c = crowded-by_rows rows c (is_crowded_in_by (stays_by rows) c) (crowded-is_ever (stays_by rows) c)

-- if rows are refused for a crowd, at some moment more than 128 people are in the room
pub crowd_told : (rows : List SheetRow) (c : ℕ) → crowd_refusal rows c ≡ Some Crowd → IsEverCrowded rows c
crowd_told rows c h =
    let crowded : is_crowded_in_by (stays_by rows) c ≡ true = grind arith in
    let e = rw crowded at (ever rows c) in
    (e.0, ltb-true 128 (headcount_by rows c e.0) e.1)

-- if at some moment more than 128 people are in the room, the rows are refused for a crowd
pub crowd_holds : (rows : List SheetRow) (c : ℕ) → IsEverCrowded rows c → crowd_refusal rows c ≡ Some Crowd
crowd_holds rows c (t, l) =
    let some = λ (e : is_crowded_in_by (stays_by rows) c ≡ false).
    both_ways (nat_lt 128 (headcount_by rows c t)) ((rw e at (ever rows c)) t) (lt-ltb 128 (headcount_by rows c t) l) in
    rw (true_from_ne_false (is_crowded_in_by (stays_by rows) c) some)

-- EXACTLY ONE

-- the first lone moment by the stays is the first at which exactly one person is in the room by the rows
pub first : (rows : List SheetRow) (c : ℕ) → IsFirstMoment (λ t. headcount_by rows c t == 1) (first_lone_in_by (stays_by rows) c)
first rows c = first_lone-by_rows rows c (first_lone_in_by (stays_by rows) c) (first_lone-is_first (stays_by rows) c)

moment_told : (o : Option ℕ) (t : ℕ) → option_map Lone o ≡ Some (Lone t) → o ≡ Some t
moment_told o t h = grind arith

none_told : (o : Option ℕ) → option_map Lone o ≡ None → o ≡ None
none_told o h = grind arith

-- if rows are refused for somebody alone at a moment, it is the first with exactly one person in the room
pub lone_told : (rows : List SheetRow) (c t : ℕ) → lone_room_refusal rows c ≡ Some (Lone t) → IsFirstAlone rows c t
lone_told rows c t h =
    let f = rw (moment_told (first_lone_in_by (stays_by rows) c) t h) at (first rows c) in
    (eqb-true (headcount_by rows c t) 1 f.0, λ u l. eqb-false (headcount_by rows c u) 1 (f.1 u l))

-- if there is a first moment with exactly one person in the room, the rows are refused for it
pub lone_holds : (rows : List SheetRow) (c t : ℕ) → IsFirstAlone rows c t → lone_room_refusal rows c ≡ Some (Lone t)
lone_holds rows c t (one, none) = by_moment (first_lone_in_by (stays_by rows) c) (first rows c)
  where
    by_moment : (o : Option ℕ) → IsFirstMoment (λ u. headcount_by rows c u == 1) o → option_map Lone o ≡ Some (Lone t)
    by_moment None f = absurd (both_ways (headcount_by rows c t == 1) (f t) (eq-eqb (headcount_by rows c t) 1 one))
    by_moment (Some m) f = elim (cases_order m t) [
      | inl e ↦ ap (λ n. Some (Lone n)) e
      | inr (inl l) ↦ absurd (none m l (eqb-true (headcount_by rows c m) 1 f.0))
      | inr (inr l) ↦ absurd (both_ways (headcount_by rows c t == 1) (f.1 t l) (eq-eqb (headcount_by rows c t) 1 one))
    ]

-- if rows are not refused for somebody alone, at no moment is exactly one person in the room
pub never_told : (rows : List SheetRow) (c : ℕ) → lone_room_refusal rows c ≡ None → IsNeverAlone rows c
never_told rows c h t = eqb-false (headcount_by rows c t) 1 ((rw (none_told (first_lone_in_by (stays_by rows) c) h) at (first rows c)) t)

-- if at no moment exactly one person is in the room, the rows are not refused for somebody alone
pub never_holds : (rows : List SheetRow) (c : ℕ) → IsNeverAlone rows c → lone_room_refusal rows c ≡ None
never_holds rows c none = by_moment (first_lone_in_by (stays_by rows) c) (first rows c)
  where
    by_moment : (o : Option ℕ) → IsFirstMoment (λ u. headcount_by rows c u == 1) o → option_map Lone o ≡ None
    by_moment None f = refl
    by_moment (Some m) f = absurd (none m (eqb-true (headcount_by rows c m) 1 f.0))

-- THE FAULT OF A SHEET COMMAND

-- the conditions of a sheet command before those of the room, and those behind them
abbrev before_room : History → ℕ → Way → List (List ℕ) → ℕ → List (Option Refusal) → List (Option Refusal)
before_room A c way people at rest =
    no_ceremony A c ∷ unknown_people_refusal (is_person A) people ∷ not_open A c ∷ not_later A c at ∷ named_twice_refusal people ∷ out_of_turn_refusal A c way at people ∷ rest

abbrev behind_room : History → ℕ → Way → List SheetRow → List (Option Refusal)
behind_room A c way rows = when (is_overfull way rows c) Full ∷ when (is_full A) Full ∷ []

-- none of them tells of the room
others_before : (A : History) (c : ℕ) (way : Way) (people : List (List ℕ)) (at : ℕ) (rest : List (Option Refusal)) (r : Refusal) → (0 == kind r) ≡ false
    → AreOther r rest
    → AreOther r (before_room A c way people at rest)
others_before A c way people at rest r e others =
    let turn = other_of_some r Turn (λ who. e) in
    let unknown = other_of_some r (λ who. Unknown (Things.Person who)) (λ who. e) (find (λ who. not (is_person A who)) people) in
    let out = turn (find (is_out_of_turn_by (sheet A) c way at) people) in
    (other_when r _ _ e, (unknown, (other_when r _ _ e, (not_late (mark A c), (turn (first_twice people), (out, others))))))
  where
    not_late : (m : Option ℕ) → IsOther r (not_after_mark_refusal at m)
    not_late None = tt
    not_late (Some m) = other_when r (nat_le at m) (Late m) e

others_behind : (A : History) (c : ℕ) (way : Way) (rows : List SheetRow) (r : Refusal) → (0 == kind r) ≡ false → AreOther r (behind_room A c way rows)
others_behind A c way rows r e = (other_when r _ _ e, (other_when r _ _ e, tt))

-- with a request refused for a crowd more than 128 people would be in the room at some moment
pub crowd_fault : (A : History) (c : ℕ) (way : Way) (people : List (List ℕ)) (at : ℕ) → fault A (Ceremony c at (RecordSheet way people)) ≡ Some Crowd
    → IsEverCrowded (sheet_after (Ceremony c at (RecordSheet way people)) (sheet A)) c
crowd_fault A c way people at h =
    let rows = sheet_after (Ceremony c at (RecordSheet way people)) (sheet A) in
    crowd_told rows c
    (of_the_one Crowd (before_room A c way people at []) (crowd_refusal rows c) (lone_room_refusal rows c ∷ behind_room A c way rows)
    (others_before A c way people at [] Crowd refl tt)
    (other_of_some Crowd Lone (λ t. refl) (first_lone_in_by (stays_by rows) c), others_behind A c way rows Crowd refl) h)

-- a request refused for somebody alone names the first moment at which exactly one person would be in the room
pub lone_fault : (A : History) (c : ℕ) (way : Way) (people : List (List ℕ)) (at t : ℕ) → fault A (Ceremony c at (RecordSheet way people)) ≡ Some (Lone t)
    → IsFirstAlone (sheet_after (Ceremony c at (RecordSheet way people)) (sheet A)) c t
lone_fault A c way people at t h =
    let rows = sheet_after (Ceremony c at (RecordSheet way people)) (sheet A) in
    lone_told rows c t
    (of_the_one (Lone t) (before_room A c way people at (crowd_refusal rows c ∷ [])) (lone_room_refusal rows c) (behind_room A c way rows)
    (others_before A c way people at (crowd_refusal rows c ∷ []) (Lone t) refl (other_when (Lone t) _ _ refl, tt)) (others_behind A c way rows (Lone t) refl) h)
