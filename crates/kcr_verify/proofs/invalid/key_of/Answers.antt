use Rattle.kcr_verify.proofs.Common.{◌≡◌, inl, inr, refl, length, sym, ap, ◌∙◌, arith, take_all, column, first_cells, cell_text}
use Rattle.std.specs.Str.Lossy.{utf8_lossy}
use Rattle.std.proofs.lemmas.List.FromFn.{length-map-range_with_len, map-range_with_len_more}
use Rattle.kcr_verify.proofs.{KeyLemmas.bound_text, QuotedLemmas.IsStarted, QuotedLemmas.line_more}
use Rattle.kcr_verify.proofs.invalid.key_of.Goals as goal
use Rattle.kcr_verify.proofs.invalid.key_of.Goals.{then-index-gt0+in_ok-push, else-index-gt0}

pub loop-index-preserved : goal.loop-index-preserved
loop-index-preserved c =
    let row = c.args.row.now in
    let i = c.loop-index.index in
    let started : IsStarted i c.loop-index.line.items c.if-index-gt0.line.items = elim c.if-index-gt0.branch [
      | then-index-gt0+in_ok-push w ↦ inl (w.if-index-gt0.true, rw w.line-is w.in_ok-push.ensures.items)
      | else-index-gt0 w ↦ inr (w.if-index-gt0.false, rw w.line-is refl)
    ] in
    line_more c.args.columns.now (first_cells i row) _ i _ (column row i) _ (omega arith) (sym (length-map-range_with_len (column row) 0 i))
    (map-range_with_len_more (column row) 0 i i (omega arith)) (λ k. bound_text k _ ∙ ap (cell_text k) c.cell-value.ensures) c.loop-index.invariant started
    c.in_ok-push_value.ensures c.in_ok-push_date_of.ensures

pub returns : goal.returns
returns c =
    let columns = c.args.columns.now in
    let whole : c.loop-index.index ≡ length columns = omega arith in
    let line = rw (whole, take_all (length columns) columns (omega arith)) at c.loop-index.invariant in
    c.from_string.ensures ∙ c.in_ok-from_utf8_lossy.ensures.lossy ∙ ap utf8_lossy (c.deref.ensures.value ∙ line)
