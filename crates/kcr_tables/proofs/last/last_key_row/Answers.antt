use Rattle.kcr_tables.proofs.{Common.refl, Common.filter_every, Queries.last_key}
use Rattle.kcr_tables.proofs.last.last_key_row.Goals as goal

pub returns : goal.returns
returns g c =
    let told = c.shown_rows.ensures last_key refl refl in record {
      rows = λ clean t held. simp filter_every at (told.rows clean t held);
      exact = λ clean has. simp filter_every at (told.exact clean has);
      opened = told.opened;
      frame = told.frame;
    }
