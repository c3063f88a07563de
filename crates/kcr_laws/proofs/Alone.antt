-- In every register, at no moment is exactly one person, or more than 128, in a room.
use Rattle.kcr_laws.proofs.Common.{◌≡◌, ℕ, ◌<◌, ◌==◌, List, ◌∷◌, ◌++◌, map, None, subst, arith, inl, inr, eqb-true, cases_Bool, none-find, SheetRow}
use Rattle.kcr_laws.proofs.Common.{Way, headcount_by, is_out_of_turn_by, new_row, IsAllowed, Act, Ceremony, RecordSheet, ReplyData, History, sheet}
use Rattle.kcr_laws.proofs.Common.{fault, out_of_turn_refusal, crowd_refusal, lone_room_refusal, IsRegister}
use Rattle.kcr_base.proofs.Members.{none-in, listed-in}
use Rattle.kcr_laws.proofs.{Accepted.entry_from, Accepted.each_register, Crowding.crowd_holds, Crowding.never_told}
use Rattle.kcr_laws.proofs.Rooms.{HaveTurns, in_other, same_room}

-- of people of whom none is refused each has the turn
pub turns : (A : History) (c : ℕ) (way : Way) (at : ℕ) (people : List (List ℕ)) → out_of_turn_refusal A c way at people ≡ None
    → HaveTurns (sheet A) c way at people
turns A c way at people h p m =
    none-in (is_out_of_turn_by (sheet A) c way at) p people (none-find (is_out_of_turn_by (sheet A) c way at) people (grind arith)) (listed-in p people m)

-- rows that are neither crowded nor lone
own_room : (rows : List SheetRow) (c : ℕ) → crowd_refusal rows c ≡ None → lone_room_refusal rows c ≡ None → (t : ℕ) → IsAllowed (headcount_by rows c t)
own_room rows c k l t =
    let crowded = λ (more : 128 < headcount_by rows c t). crowd_holds rows c (t, more) in
    (never_told rows c l t, grind (arith, crowded))

room_after : (A : History) (key : List ℕ) (act : Act) (answer : ReplyData) (c t : ℕ) → fault A act ≡ None → IsAllowed (headcount_by (sheet A) c t)
    → IsAllowed (headcount_by (sheet (entry_from key act answer ∷ A)) c t)
room_after A key (Ceremony d at (RecordSheet way people)) answer c t f ih =
    let rows = sheet A ++ map (new_row d way at) people in
    elim (cases_Bool (d == c)) [
      | inl e ↦ subst (λ z. IsAllowed (headcount_by rows z t)) (eqb-true d c e) (own_room rows d (grind arith) (grind arith) t)
      | inr e ↦ rw (same_room rows (sheet A) c t (λ who. in_other (sheet A) d way at people who c t (turns A d way at people (grind arith)) e)) ih
    ]
room_after A key act answer c t f ih = ih

-- in a register exactly one person, or more than `MAX_PRESENT`, is in a room at no moment
pub rooms : (A : History) → IsRegister A → (c t : ℕ) → IsAllowed (headcount_by (sheet A) c t)
rooms A h c t =
    each_register (λ B. IsAllowed (headcount_by (sheet B) c t)) (λ e. omega (arith, e), omega arith)
    (λ B key act answer r a. room_after B key act answer c t a.no_fault) A h
