use Rattle.kcr_tables.proofs.Common.{◌≡◌, ◌∙◌, ap, sym, slice_get}
use Rattle.std.proofs.lemmas.Option.{MatchOption-at_none}
use Rattle.kcr_tables.proofs.{FrameLemmas.reads_to, HoldLemmas.held_of, OneLemmas.first_is, OneLemmas.given_first}
use Rattle.kcr_tables.proofs.unique.find_row.Goals as goal

pub returns : goal.returns
returns g c =
    let found = c.in_ok-find_rows.ensures in
    let rows = c.into_iter.result.rest.items in
    let first : slice_get rows 0 ≡ c.next.result =
    given_first rows c.next.new.self.rest.items c.next.result c.next.ensures.items
    (λ none. sym c.into_iter.result.rest.ok.0 ∙ (MatchOption-at_none _ _ none c.next.ensures.cases).0) in
    record {
      row = λ clean m h.
          sym first
          ∙ first_is g.T.TableRow.table g.T.FromRow.row_of g.T.FromRow.is_read g.met.T.TableRow.table_laws (g.T.LookupBy.lookup_spec.is_under c.args.key.now)
          (g.met.T.UniqueBy.one_key c.args.key.now) m _ h rows (c.into_iter.ensures.rest ∙ found.rows clean h.tables.t (held_of m _ h));
      exact = λ clean is. (_, found.exact clean is, sym first ∙ ap (λ l. slice_get l 0) c.into_iter.ensures.rest);
      opened = found.opened;
      frame = reads_to tt found.frame;
    }
