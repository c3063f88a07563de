use Rattle.kcr_desk.proofs.Common.{sym, ap, ◌∙◌, false, blank_from}
use Rattle.kcr_desk.proofs.QuietLemmas.{blanks, blank_from-print}
use Rattle.kcr_desk.proofs.head.is_blank_rest.Goals as goal

pub returns-then-bytes-le-MAX_HEAD : goal.returns-then-bytes-le-MAX_HEAD
returns-then-bytes-le-MAX_HEAD c = (
  λ yes. let ends = blanks c.args.bytes.now false (sym c.is_blank.ensures ∙ yes) in
      record { ends = ends.0; is = ends.1; short = c.if-bytes-le-MAX_HEAD.true },
  λ quiet. c.is_blank.ensures ∙ ap (blank_from false) quiet.is ∙ (blank_from-print quiet.ends).0,
)
