use Rattle.std.proofs.Common.{sym, ◌∙◌, arith}
use Rattle.std.proofs.lemmas.Bool.{false≢true}
use Rattle.kcr_log.proofs.Refuting.{sound-head}
use Rattle.kcr_log.proofs.judgement.judge_head.Goals.{else-number_at-ge16777216-via-then-number_at-ge16777216+then-agree+else-ended-gt0, else-number_at-ge16777216-via-then-number_at-ge16777216+else-agree, else-number_at-ge16777216-via-else-number_at-ge16777216}
use Rattle.kcr_log.proofs.judgement.judge_head.Goals as goal

pub returns-in-None-clause-judged : goal.returns-in-None-clause-judged
returns-in-None-clause-judged c =
    sound-head c.args.file.now c.args.log.now c.requires.wrong
    (λ ended head. elim c.else-number_at-ge16777216.branch [
      | else-number_at-ge16777216-via-then-number_at-ge16777216+then-agree+else-ended-gt0 w ↦
          let value = rw (c.told_header-told.ensures, c.page_size-size.ensures) at c.commits_from-ended.ensures.value in
          omega (arith, value, w.if-ended-gt0.false, head.ended_is, head.some)
      | else-number_at-ge16777216-via-then-number_at-ge16777216+else-agree w ↦
          let value = rw c.page_size-size.ensures at w.agree.ensures in
          false≢true (sym w.if-agree.false ∙ value ∙ head.agree)
      | else-number_at-ge16777216-via-else-number_at-ge16777216 w ↦
          omega (arith, c.number_at.ensures, w.if-number_at-ge16777216.false, head.not_begun)
    ])
    (rw (c.told_header-told.ensures, c.page_size-size.ensures) at c.in-None.ensures)
