-- The texts that are printed of whatever rows the tables hold, by what the readings give.
use Rattle.std.specs.Prelude.{ℕ, List, [], ◌++◌, Option, find}
use Rattle.std.specs.{List.flat_map, Option.option_map_or}
use Rattle.kcr_history.specs.Prints.{exception_line, loose_line, safe_line}
use Rattle.kcr_history.specs.{Tables.Tables, Views.is_of_number, declared.row_types.CeremonyRow.CeremonyRow}
use Rattle.kcr_reading.specs.Remaining.{exceptions_of, loose_items, named_stays, packed_bags, safes_in_order, seated_steps}
use Rattle.kcr_print.specs.Lines.{foot_lines, head_lines, header_line, named_line, packed_lines, seated_lines}

-- the row of a ceremony, if there is one
abbrev pub row_of_ceremony : ℕ → Tables → Option CeremonyRow
row_of_ceremony ceremony m = find (is_of_number ceremony) m.ceremonies

-- the annotated script of a ceremony that has this row: its head, its steps in order with their people, its exceptions,
-- and when it was closed
abbrev pub script_by : ℕ → Tables → CeremonyRow → List ℕ
script_by ceremony m row =
    head_lines row
    ++ flat_map seated_lines (seated_steps ceremony m)
    ++ flat_map exception_line (exceptions_of ceremony m)
    ++ foot_lines row

-- that of a ceremony; of one without a row nothing is printed
abbrev pub annotated_by : Tables → ℕ → List ℕ
annotated_by m ceremony = option_map_or (script_by ceremony m) (row_of_ceremony ceremony m) []

-- the attendance of a ceremony: a row for each stay, by its beginning, then initials
abbrev pub attendance_by : Tables → ℕ → List ℕ
attendance_by m ceremony = header_line ++ flat_map named_line (named_stays ceremony m)

-- custody: the safes in order; bags by serial, each with its items by code; loose items by code
abbrev pub custody_by : Tables → List ℕ
custody_by m =
    flat_map safe_line (safes_in_order m)
    ++ flat_map packed_lines (packed_bags m)
    ++ flat_map loose_line (loose_items m)
