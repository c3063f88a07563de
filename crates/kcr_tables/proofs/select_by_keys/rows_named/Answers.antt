use Rattle.kcr_tables.proofs.Common.{rules, ◌≡◌, ◌+◌, ◌++◌, [], ◌∷◌, take, take_all, take_more, state, clean_before, rows_at, has_key}
use Rattle.kcr_tables.proofs.{ExactLemmas.each_next, ExactLemmas.each_any, NamedLemmas.none_named, NamedLemmas.named_more}
use Rattle.kcr_tables.proofs.FrameLemmas.{reads_none, reads_to, read_later, reads_on, fails_as}
use Rattle.kcr_tables.proofs.select_by_keys.rows_named.Goals as goal

pub loop-at-init : goal.loop-at-init
loop-at-init g c = search (rules, reads_none, none_named)

pub loop-at-preserved : goal.loop-at-preserved
loop-at-preserved g c =
    let T = g.T.TableRow.table in
    let same = g.T.LookupByKeys.same in
    let laws = g.met.T.LookupByKeys in
    let under = has_key g.T.LookupBy.lookup_spec.column g.K.AsCell.value_of in
    let old = state g.S.Store c.args.tx.now.conn.now in
    let had = c.loop-at.invariant in
    let step = c.in_ok-found.ensures in
    let i = c.loop-at.at in
    let keys = c.args.keys.now in
    let key = c.index-keys-at.result in
    let found = c.in_ok-found.found.items in
    let more : take (i + 1) keys ≡ take i keys ++ key ∷ [] = search (rules, take_more) in record {
      frame = reads_to tt (reads_on had.frame step.frame);
      rows = λ clean t held.
          let before = clean_before step.frame.within clean in
          rw (more, c.in_ok-append.ensures.items) (named_more same _ laws.apart (take i keys) key (T.rows_in t) c.loop-at.rows.items found
          (had.rows before t held) (step.rows clean t (had.frame.holds before t held)));
      exact = λ clean has.
          let before = clean_before step.frame.within clean in
          rw (more, c.in_ok-append.ensures.items) (each_next g.T.FromRow.row_of under (rows_at T.place old.now.trees) same laws.one (take i keys) key
          c.loop-at.rows.items found (had.exact before has) (search (rules, read_later)));
    }

pub returns-in_err-found-clause-frame : goal.returns-in_err-found-clause-frame
returns-in_err-found-clause-frame g c = search (rules, reads_on, fails_as)

pub returns-in_err-append-clause-frame : goal.returns-in_err-append-clause-frame
returns-in_err-append-clause-frame g c = search (rules, reads_to, reads_on)

pub returns-clause-rows : goal.returns-clause-rows
returns-clause-rows g c clean t held = search (rules, take_all)

pub returns-clause-exact : goal.returns-clause-exact
returns-clause-exact g c clean has = search (rules, each_any, take_all)

pub returns-clause-frame : goal.returns-clause-frame
returns-clause-frame g c = reads_to tt c.loop-at.invariant.frame
