use Rattle.kcr_verify.proofs.{Common.arith, QuotedLemmas.doubled_more, QuotedLemmas.quote_doubled, QuotedLemmas.other_kept}
use Rattle.std.proofs.Common.{append_assoc}
use Rattle.kcr_verify.proofs.quoted.push_doubled.Goals as goal
use Rattle.kcr_verify.proofs.quoted.push_doubled.Goals.{then-byte-eq39+in_ok-push-2, else-byte-eq39}

pub loop-byte-preserved : goal.loop-byte-preserved
loop-byte-preserved c =
    let more = doubled_more c.args.text.now c.loop-byte.byte-index (omega arith) in
    let first = c.in_ok-push.ensures.items in
    elim c.if-byte-eq39.branch [
      | then-byte-eq39+in_ok-push-2 w ↦
          let both = quote_doubled _ w.if-byte-eq39.true in
          let second = w.in_ok-push-2.ensures.items in
          simp (more, both, w.line-is, second, first, c.loop-byte.invariant, append_assoc)
      | else-byte-eq39 w ↦
          let one = other_kept _ w.if-byte-eq39.false in
          simp (more, one, w.line-is, first, c.loop-byte.invariant, append_assoc)
    ]
