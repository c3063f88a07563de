-- What an answer unfolds to compute the readers of scripts and seats on a text that is written out.
use Rattle.kcr_script.proofs.Common.{⊤}
use Rattle.std.specs.{Char.encode_utf8, Fmt.digits, Str.chars, Str.is_utf8}
use Rattle.csv.specs.{Machine.next_record, Reading.records_from, Reading.strip_bom}
use Rattle.kcr_script.specs.Reading.{seats_of, script_of}

-- unfolds the readers of scripts and seats, so that they compute
unfoldable pub script_on_literals : ⊤
unfolding seats_of script_of chars encode_utf8 is_utf8 digits next_record records_from strip_bom
script_on_literals = tt
