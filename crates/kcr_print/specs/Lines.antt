-- The lines of the rows that a report reads.
use Rattle.std.specs.Prelude.{ℕ, List, [], ◌∷◌, ◌++◌, codes, option_map, unwrap_or}
use Rattle.std.specs.{Fmt.decimal, List.flat_map}
use Rattle.kcr_base.specs.Moment.{moment_text}
use Rattle.kcr_custody.specs.Spots.{spot_text}
use Rattle.kcr_script.specs.declared.seat.Seat.{Seat}
use Rattle.kcr_history.specs.declared.row_types.{CeremonyRow.CeremonyRow, StepRow.StepRow}
use Rattle.kcr_history.specs.declared.row_types.StepState.{StepState, TheVariants.Undone, TheVariants.Signed, TheVariants.Passed}
use Rattle.kcr_history.specs.Prints.{ends_line, line_of, head_line, moment_line, seat_lines, seats_filled, open_lines, csv_line}
use Rattle.kcr_history.specs.declared.report_rows.{BagWithItems.BagWithItems, SeatedStep.SeatedStep, StayWithName.StayWithName}

-- what stands above the steps
abbrev pub head_lines : CeremonyRow → List ℕ
head_lines row = head_line row ++ moment_line (codes "Opened") row.opened

-- what stands under the exceptions
abbrev pub foot_lines : CeremonyRow → List ℕ
foot_lines row = moment_line (codes "Closed") row.closed

-- a step that is done, with the word for how, and who filled these seats
abbrev pub done_lines : List ℕ → StepRow → List Seat → List (List ℕ) → List ℕ
done_lines word row seats people =
    line_of (decimal row.step ∷ word ∷ moment_text (unwrap_or row.at 0) ∷ row.activity ∷ []) ++ seat_lines seats people

-- a step with its people
abbrev pub seated_lines : SeatedStep → List ℕ
seated_lines row = by_state row.step.state
  where
    by_state : StepState → List ℕ
    by_state Undone = open_lines row.step
    by_state Signed = done_lines (codes "signed") row.step (seats_filled row.step) row.seated
    by_state Passed = done_lines (codes "passed") row.step (seats_filled row.step) row.seated

-- what stands above the stays
abbrev pub header_line : List ℕ
header_line = csv_line (codes "who" ∷ codes "name" ∷ codes "in" ∷ codes "out" ∷ [])

-- a stay with the person's name
abbrev pub named_line : StayWithName → List ℕ
named_line row =
    csv_line
    (row.stay.who ∷ row.name ∷ moment_text row.stay.since ∷ unwrap_or (option_map moment_text row.stay.until) [] ∷ [])

-- the code of an item in a bag
abbrev pub code_line : List ℕ → List ℕ
code_line code = ends_line (codes "  " ++ code)

-- a bag with its items
abbrev pub packed_lines : BagWithItems → List ℕ
packed_lines row = line_of (row.bag.serial ∷ spot_text row.bag.spot ∷ []) ++ flat_map code_line row.codes
