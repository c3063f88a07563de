-- A row as sqlite3 prints it in its mode `quote`, with the dates of days and moments.
use Rattle.std.specs.Prelude.{if◌then◌else◌, ◌&&◌, ℕ, ℤ, pos, nat_eq, nat_le, nat_lt, List, [], ◌∷◌, ◌++◌, codes}
use Rattle.std.specs.Prelude.{Option, Some, None, option_map, unwrap_or}
use Rattle.std.specs.{Fmt.signed_decimal, List.flat_map, List.join_with_byte}
use Rattle.sqlite.specs.{Order.Row, declared.types.Value.Value, declared.types.Value.TheVariants.Int, declared.types.Value.TheVariants.Text}
use Rattle.kcr_base.specs.{Day.day_text, Moment.moment_text}
use Rattle.kcr_rows.specs.declared.kinds.Kind.{Kind}
use Rattle.kcr_rows.specs.declared.kinds.Kind.TheVariants.{Day, DayOrNull, Moment, MomentOrNull}
use Rattle.kcr_verify.specs.declared.compare.RowDifference.{RowDifference}

-- a text in which each single quote is doubled
abbrev pub doubled : List ℕ → List ℕ
doubled text = flat_map (λ byte. if nat_eq byte 39 then codes "''" else byte ∷ []) text

-- a whole number, a text, or NULL; no table of a register has values of other types
abbrev pub value_text : Value → List ℕ
value_text (Int n) = signed_decimal n
value_text (Text text) = codes "'" ++ (doubled text ++ codes "'")
value_text _ = codes "NULL"

-- the day and the moment of a number, if it is of the calendar
abbrev pub day_in : ℤ → Option ℕ
day_in (pos n) = if nat_le 10957 n && nat_lt n 47482 then Some n else None
day_in n = None

abbrev pub moment_in : ℤ → Option ℕ
moment_in (pos n) = if nat_le 946684800 n && nat_lt n 4102444800 then Some n else None
moment_in n = None

-- a date in brackets, behind a blank
abbrev pub behind : Option (List ℕ) → List ℕ
behind None = []
behind (Some date) = codes " (" ++ (date ++ codes ")")

-- the date of a number in a column of days or of moments
abbrev pub date_in : Kind → ℤ → Option (List ℕ)
date_in Day n = option_map day_text (day_in n)
date_in DayOrNull n = option_map day_text (day_in n)
date_in Moment n = option_map moment_text (moment_in n)
date_in MomentOrNull n = option_map moment_text (moment_in n)
date_in kind n = None

abbrev pub date_behind : Kind → Value → List ℕ
date_behind kind (Int n) = behind (date_in kind n)
date_behind kind value = []

abbrev pub cell_text : Kind → Value → List ℕ
cell_text kind value = value_text value ++ date_behind kind value

-- the values in these columns, each as a text
abbrev pub cell_texts : List Kind → Row → List (List ℕ)
cell_texts (kind ∷ kinds) (value ∷ row) = cell_text kind value ∷ cell_texts kinds row
cell_texts kinds row = []

-- the values with commas between them
abbrev pub row_text : List Kind → Row → List ℕ
row_text kinds row = join_with_byte 44 (cell_texts kinds row)

-- what stands for no row
abbrev pub no_row : List ℕ
no_row = codes "none"

-- the line that tells the row that was expected and the one that was found
abbrev pub row_line : RowDifference → List ℕ
row_line row =
    codes "row: expected "
    ++ (unwrap_or row.expected no_row ++ (codes "; found " ++ (unwrap_or row.found no_row ++ codes "\n")))
