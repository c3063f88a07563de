-- The texts of the rows that are read are the parts of the reports.
use Rattle.kcr_print.proofs.Common.{◌≡◌, ℕ, Bool, false, List, [], ◌∷◌, ◌++◌, map, filter, reverse, inl, inr, refl, ap, ◌∙◌, ◌⊎◌, Option, flat_map}
use Rattle.kcr_print.proofs.Common.{option_map_or, coded_ℕ, coded_list, Coded-set, ∥∥₁_elim, cases_Bool, IsPermutation-trans, IsPermutation-reverse}
use Rattle.kcr_print.proofs.Common.{flat_map-map, state, HasCleanDisk, Ghosts, Trees, flat_map-filter, flat_map_same_on, some_if, is_ceremony}
use Rattle.kcr_print.proofs.Common.{History, ceremony_row, people, safes, seatings, tables, CeremonyRow, line_of, step_lines, steps_in_order}
use Rattle.kcr_print.proofs.Common.{stay_line, bag_lines, items_in_order, bags_in_order, loose_line, seated_at, annotated, attendance, custody}
use Rattle.kcr_print.proofs.Common.{exception_line, safe_line, exceptions_of, named_stays, loose_items, RegisterState, StandsAt, whole, planned_row}
use Rattle.kcr_print.proofs.Common.{annotated_by, attendance_by, custody_by, script_by, head_lines, foot_lines, header_line, seated_lines, named_line}
use Rattle.kcr_print.proofs.Common.{packed_lines, code_line}
use Rattle.kcr_custody.specs.{Custody.lies_in, Spots.spot_text}
use Rattle.kcr_custody.specs.declared.{Bag.Bag, Item.Item, Rest.TheVariants.Loose, Rest.TheVariants.Within}
use Rattle.kcr_room.specs.Stays.{stays_by, attendance_in_by}
use Rattle.kcr_history.specs.{Room.sheet, declared.row_types.SeatingRow.SeatingRow, declared.row_types.StepRow.StepRow}
use Rattle.kcr_history.specs.declared.row_types.StepState.TheVariants.{Undone, Signed, Passed}
use Rattle.kcr_history.specs.Questions.{with_seated, with_name, with_items, is_loose}
use Rattle.kcr_tables.specs.MachineTables.{TreesHoldTables}
use Rattle.kcr_reading.proofs.StayLemmas.{one_attendance}

-- lines that are the same row by row
lines_along : {X Y : Type 0} (f : X → List ℕ) (g : Y → List ℕ) (v : Y → X) → ((y : Y) → f (v y) ≡ g y) → (ys : List Y) → flat_map f (map v ys) ≡ flat_map g ys
lines_along f g v same ys = flat_map-map f v ys ∙ flat_map_same_on (λ y. f (v y)) g same ys

-- a step with its people
seated_is : (rows : List SeatingRow) (row : StepRow) → seated_lines (record { step = row; seated = seated_at rows row.ceremony row.step }) ≡ step_lines rows row
seated_is rows row =
    elim row.state as (λ s. seated_lines (with_seated rows (record row { state = s })) ≡ step_lines rows (record row { state = s }))
    [ Undone ↦ refl | Signed ↦ refl | Passed ↦ refl ]

-- a bag with its items
packed_is : (items : List Item) (bag : Bag) → packed_lines (record { bag = bag; codes = map (λ item. item.code) (filter (lies_in bag.serial) items) })
    ≡ bag_lines items bag
packed_is items bag =
    ap (λ t. line_of (bag.serial ∷ spot_text bag.spot ∷ []) ++ t) (flat_map-map code_line (λ (item : Item). item.code) (filter (lies_in bag.serial) items))

-- an item that is in a bag has no line
bagged : (item : Item) → is_loose item ≡ false → loose_line item ≡ []
bagged item =
    elim item.rest as (λ r. is_loose (record item { rest = r }) ≡ false → loose_line (record item { rest = r }) ≡ [])
    [ Loose facility ↦ λ no. absurd (cc no) | Within serial ↦ λ _. refl ]

-- THE REPORTS

-- by the tables of a history the annotated script is that of the history; of a ceremony that was never planned it is empty
pub annotated_text : (A : History) (ceremony : ℕ)
    → ((is_ceremony A ceremony ≡ false) × (annotated_by (tables A) ceremony ≡ [])) ⊎ (annotated_by (tables A) ceremony ≡ annotated A ceremony)
annotated_text A ceremony =
    let row = ceremony_row A ceremony in
    let by_row : Bool → List ℕ = λ b. option_map_or (script_by ceremony (tables A)) (some_if b row) [] in
    let told : annotated_by (tables A) ceremony ≡ by_row (is_ceremony A ceremony) =
    ap (λ (o : Option CeremonyRow). option_map_or (script_by ceremony (tables A)) o []) (planned_row A ceremony) in
    elim (cases_Bool (is_ceremony A ceremony)) [
      | inr is ↦ inl (is, told ∙ ap by_row is)
      | inl is ↦ inr (told ∙ ap by_row is
          ∙ ap (λ t. head_lines row ++ t ++ flat_map exception_line (exceptions_of ceremony (tables A)) ++ foot_lines row)
          (lines_along seated_lines (step_lines (seatings A)) (with_seated (seatings A)) (seated_is (seatings A)) (steps_in_order A ceremony)))
    ]

-- by the tables of a history the report on custody is that of the history
pub custody_text : (A : History) → custody_by (tables A) ≡ custody A
custody_text A =
    ap (λ t. flat_map safe_line (safes A) ++ t ++ flat_map loose_line (loose_items (tables A)))
    (lines_along packed_lines (bag_lines (items_in_order A)) (with_items (items_in_order A)) (packed_is (items_in_order A)) (bags_in_order A))
    ∙ ap (λ t. flat_map safe_line (safes A) ++ flat_map (bag_lines (items_in_order A)) (bags_in_order A) ++ t)
    (flat_map-filter loose_line is_loose bagged (items_in_order A))

-- THE ATTENDANCE

-- by the table of stays, in whatever order it has them, it is that of the sheet
attendance_text : (A : History) (db : Trees) → TreesHoldTables (tables A) db → (ceremony : ℕ)
    → flat_map named_line (named_stays ceremony (tables A)) ≡ flat_map (stay_line (people A)) (attendance_in_by (stays_by (sheet A)) ceremony)
attendance_text A db k ceremony =
    let sheets = IsPermutation-trans _ _ _ (IsPermutation-reverse (stays_by (sheet A))) k.stands.rows.stays in
    lines_along named_line (stay_line (people A)) (with_name (people A)) (λ stay. refl) (attendance_in_by (reverse (stays_by (sheet A))) ceremony)
    ∙ ap (flat_map (stay_line (people A))) (one_attendance ceremony sheets k.stands.rows.stays k.kept.stays.rising)

-- so it is with every register: its file holds the tables, whatever a crash may leave
pub register_attendance : {S : Type 0} (g : Ghosts S) (r : RegisterState S)
    → (HasCleanDisk (state g r.conn) → ∥ ((db : Trees) × (state g r.conn).may_leave db) ∥₁)
    → HasCleanDisk (state g r.conn) → (A : History) → StandsAt g (whole A) r → (ceremony : ℕ)
    → attendance_by (tables A) ceremony ≡ attendance A ceremony
register_attendance g r left clean A at ceremony =
    ∥∥₁_elim (left clean) (Coded-set (coded_list coded_ℕ) _ _)
    (λ found. ap (λ t. header_line ++ t) (attendance_text A found.0 ((at.shows refl).whole.crash clean found.0 found.1).kept ceremony))
