use Rattle.std.proofs.Common.{sym, ◌∙◌}
use Rattle.std.proofs.lemmas.Bool.{false≢true}
use Rattle.kcr_log.proofs.Safe.{cut-unsafe}
use Rattle.kcr_log.proofs.judgement.judge_frames.Goals as goal

pub returns-clause-left : goal.returns-clause-left
returns-clause-left c some cut =
    let torn = cut-unsafe c.read_header-header.result c.args.log.now c.first_wrong-first.result (rw (← c.read_header-header.ensures) at cut)
    c.first_wrong-first.ensures.before c.first_wrong-first.ensures.wrong in
    absurd (false≢true (sym torn ∙ sym c.was_safe.ensures ∙ c.if-not-was_safe.false))
