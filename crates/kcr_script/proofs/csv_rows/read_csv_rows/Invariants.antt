use Rattle.kcr_script.proofs.Common.{◌≡◌, ◌<◌, ℕ, List, Some, map, true, Ready, is_flexible, default_config, source_of, fields_of}
use Rattle.csv.specs.Reading.{Reached, strip_bom}
use Rattle.csv.specs.declared.parser.State.TheVariants as st
use Rattle.csv.specs.declared.reader.Trim.TheVariants as trim
use Rattle.kcr_script.proofs.csv_rows.read_csv_rows.Given as goal

abbrev pub invariant-loop-row : goal.invariant-loop-row
invariant-loop-row l = record {
  flexible : is_flexible l.row-iterator.rdr ≡ true;
  rest : (l.row-iterator.rdr.trim ≡ trim.None) × Ready l.row-iterator.rdr × (0 < l.row-iterator.left) × (l.row-iterator.rdr.config ≡ default_config)
      × (y : List ℕ) × (source_of (λ s. Some s.now) l.row-iterator.rdr ≡ Some y)
      × Reached default_config st.StartRecord (strip_bom l.fn.text) (map fields_of l.rows.items) l.row-iterator.rdr.state y;
}
