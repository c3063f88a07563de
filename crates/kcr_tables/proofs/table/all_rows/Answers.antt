use Rattle.kcr_tables.proofs.Common.{◌∙◌, true, [], refl, IsPermutation, sym, subst, if_ok, filter_every, Ordered, machine_rows}
use Rattle.kcr_tables.proofs.{HoldLemmas.held_of, QueryLemmas.query}
use Rattle.kcr_tables.proofs.table.all_rows.Goals as goal

pub returns : goal.returns
returns g c =
    let T = g.T.TableRow.table in
    let laws = g.met.T.TableRow.table_laws in
    let told = c.shown_rows.ensures (query T.all_sql [] Ordered (λ _. true) (λ _. true) (λ x. refl) laws.lists) c.select_all_sql.ensures refl in record {
      rows = λ clean t held. simp filter_every at (told.rows clean t held);
      machine = λ clean m h. if_ok _ _ (λ all is.
          subst (IsPermutation (machine_rows T m)) (sym (is ∙ filter_every (T.rows_in h.tables.t))) (laws.stands m h.tables.t h.tables.stands))
          c.shown_rows.result (told.rows clean h.tables.t (held_of m _ h));
      exact = λ clean has. simp filter_every at (told.exact clean has);
      opened = told.opened;
      frame = told.frame;
    }
