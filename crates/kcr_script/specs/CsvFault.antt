-- What a fault of reading rows never says.
use Rattle.std.specs.Prelude.{⊤}
use Rattle.csv.specs.Reading.{NotLengths, error_kind}
use Rattle.kcr_script.specs.declared.csv_rows.CsvFault.{CsvFault, TheVariants.Memory, TheVariants.Csv}

-- not that a row has another length than the first
abbrev pub IsNoLength : CsvFault → Type 0
IsNoLength Memory = ⊤
IsNoLength (Csv error) = NotLengths (error_kind error)
