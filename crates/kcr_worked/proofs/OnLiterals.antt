-- What an answer unfolds to compute the worked examples.
use Rattle.std.specs.Prelude.{⊤}
use Rattle.std.specs.Fmt.{digits}
use Rattle.serde_json.proofs.OnLiterals.{serde_json_on_literals}
use Rattle.kcr_base.specs.Day.{year_from, month_from, year_of, month_of, day_of_month, day_text}
use Rattle.kcr_base.specs.Moment.{moment_text}
use Rattle.kcr_script.specs.Seats.{written}
use Rattle.kcr_script.proofs.OnLiterals.{script_on_literals}
use Rattle.kcr_wire.specs.ShownJson.{shown_text}

-- unfolds what computes the rows of the examples
unfoldable pub rows_on_literals : ⊤
unfolding script_on_literals digits year_from month_from year_of month_of day_of_month day_text moment_text written
rows_on_literals = tt

-- unfolds what computes the rows and the answers of the examples
unfoldable pub answers_on_literals : ⊤
unfolding rows_on_literals serde_json_on_literals shown_text
answers_on_literals = tt
