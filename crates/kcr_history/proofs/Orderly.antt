-- The appointments of a register: each begins if the older ones of its place and of its person have ended. So the holder by rows is the
-- holder by history.
use Rattle.kcr_history.proofs.Common.{◌≡◌, ℕ, ◌<◌, true, false, ◌&&◌, nat_le, List, [], ◌∷◌, map, Option, Some, None, is_none, refl, subst, arith}
use Rattle.kcr_history.proofs.Common.{unwrap_or, list_all, true≢false, leb-true, leb-false, and_parts, option_or, same_place, Place, find-none}
use Rattle.kcr_history.proofs.Common.{place-same, Appointment, lasts, open_row_by, begins_too_late, place_held_from_by, holder_by, holds, Act}
use Rattle.kcr_history.proofs.Common.{Appoint, Replace, Release, History, last_value_of_acts, holder, holder_effect, appointments, appointments_after}
use Rattle.kcr_history.proofs.{Common.ended, Common.fault, Common.IsRegister, Steps.took}
use Rattle.kcr_history.proofs.Stacked.{stacked, in_turn, closing, stacked-ended, in_turn-ended, free-ended, lasts-ended, find-ended, free-none}

-- a place that is not vacant has an open row, which began before the day
pub standing : (o : Option Appointment) (day : ℕ) → begins_too_late o day ≡ false → is_none o ≡ false → (r : Appointment) × (o ≡ Some r) × (r.since < day)
standing None day b n = absurd (true≢false n)
standing (Some r) day b n = (r, refl, leb-false day r.since b)

-- the rows are stacked, and each lasts beyond its first day
abbrev pub IsOrderly : List Appointment → Type 0
IsOrderly rows = (stacked rows ≡ true) × (list_all lasts rows ≡ true)

-- if a place has an open row that began before the day, an end on that day leaves the place free and the rows orderly
ends : (rows : List Appointment) (place : Place) (day : ℕ) → IsOrderly rows
    → begins_too_late (open_row_by rows place) day ≡ false → is_none (open_row_by rows place) ≡ false
    → (place_held_from_by (map (ended place day) rows) place day ≡ false) × IsOrderly (map (ended place day) rows)
ends rows place day o late none =
    let open_row = standing (open_row_by rows place) day late none in
    let r = open_row.0 in
    (closing place day r rows o.0 open_row.1 open_row.2, (stacked-ended place day rows o.0, lasts-ended place day r rows o.0 o.1 open_row.1 open_row.2))

released : (A : History) (place : Place) (day : ℕ) → fault A (Release place day) ≡ None → IsOrderly (appointments A)
    → (place_held_from_by (map (ended place day) (appointments A)) place day ≡ false) × IsOrderly (map (ended place day) (appointments A))
released A place day f o = ends (appointments A) place day o (grind arith) (grind arith)

orderly_after : (A : History) (act : Act) → fault A act ≡ None → IsOrderly (appointments A) → IsOrderly (appointments_after act (appointments A))
orderly_after A (Appoint place who day) f o = (grind (arith, o.0), o.1)
orderly_after A (Replace place who day) f o =
    let e = ends (appointments A) place day o (grind arith) (grind arith) in
    (rw (e.0, e.1.0), e.1.1)
orderly_after A (Release place day) f o = (released A place day f o).1
orderly_after A act f o = o

-- the appointments of a register are orderly
pub orderly : (A : History) → IsRegister A → IsOrderly (appointments A)
orderly [] h = (refl, refl)
orderly (entry ∷ A) h = orderly_after A entry.command.act (took A entry h.0).no_fault (orderly A h.1)

-- THE APPOINTMENTS OF A PERSON

turn_after : (A : History) (act : Act) → fault A act ≡ None → in_turn (appointments A) ≡ true → in_turn (appointments_after act (appointments A)) ≡ true
turn_after A (Appoint place who day) f t = grind (arith, t)
turn_after A (Replace place who day) f t =
    grind (arith, t, free-ended place day who day (appointments A), in_turn-ended place day (appointments A))
turn_after A (Release place day) f t = in_turn-ended place day (appointments A) t
turn_after A act f t = t

-- nobody is put in a place before their older appointments have ended
pub turns : (A : History) → IsRegister A → in_turn (appointments A) ≡ true
turns [] h = refl
turns (entry ∷ A) h = turn_after A entry.command.act (took A entry h.0).no_fault (turns A h.1)

-- THE HOLDER

holder_after : (A : History) (act : Act) (place : Place) (d : ℕ) → fault A act ≡ None → IsOrderly (appointments A)
    → holder_by (appointments A) place d ≡ holder A place d
    → holder_by (appointments_after act (appointments A)) place d
    ≡ unwrap_or (option_or (holder_effect place d act) (last_value_of_acts (holder_effect place d) A)) None
holder_after A (Appoint at who since) place d f o ih = grind (arith, ih)
holder_after A (Replace at who since) place d f o ih = grind (arith, ih, find-ended at place since d (appointments A))
holder_after A (Release at since) place d f o ih =
    let rows = map (ended at since) (appointments A) in
    let gone = λ (e : (same_place at place && nat_le since d) ≡ true).
    let q = and_parts (same_place at place) (nat_le since d) e in
    let free = subst (λ p. place_held_from_by rows p since ≡ false) (place-same at place q.0) (released A at since f o).0 in
    find-none (holds place d) rows (free-none place since d rows (leb-true since d q.1) free) in
    grind (arith, ih, gone, find-ended at place since d (appointments A))
holder_after A act place d f o ih = ih

-- the holder by the rows of a register is the holder by its history
pub holder-appointments : (A : History) → IsRegister A → (place : Place) (d : ℕ) → holder_by (appointments A) place d ≡ holder A place d
holder-appointments [] h place d = refl
holder-appointments (entry ∷ A) h place d =
    holder_after A entry.command.act place d (took A entry h.0).no_fault (orderly A h.1) (holder-appointments A h.1 place d)
