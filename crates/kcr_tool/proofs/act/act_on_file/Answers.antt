use Rattle.kcr_tool.proofs.Common.{Some, IfErr-weaker, err_from_is_err_and, streams, Run}
use Rattle.kcr_tool.proofs.Causes.{serving_cause, task_cause}
use Rattle.kcr_tool.proofs.act.act_on_file.Goals as goal

pub returns-in_ok-ended-in-Run-clause-cause : goal.returns-in_ok-ended-in-Run-clause-cause
returns-in_ok-ended-in-Run-clause-cause g c =
    let s = streams g.R.Read.remaining g.W.Write.contents c.args.input.now c.run_file.new.input c.args.output.now c.run_file.new.output in
    rw c.in-Run.is
    (IfErr-weaker c.in_ok-ended-in-Run.ended _ _ (λ why stops. task_cause Run why (Some c.args.path.now) s stops) c.in_ok-ended-in-Run.ensures.cause)

pub returns-in_err-served-in-Serve-2-clause-cause : goal.returns-in_err-served-in-Serve-2-clause-cause
returns-in_err-served-in-Serve-2-clause-cause g c =
    let made = c.from_residual-in_err-served-in-Serve-2 in
    let p = err_from_is_err_and made.result made.ensures.1 in
    let s = streams g.R.Read.remaining g.W.Write.contents c.args.input.now c.args.input.now c.args.output.now c.serve_file.new.output in
    let register = c.in_ok-served-in-Serve.field-0-0 in
    let cause = rw c.in_err-served-in-Serve-2.was at c.in_ok-served-in-Serve.ensures.cause in
    rw (c.in-Serve.is, p.1, p.2) (task_cause _ _ _ s (serving_cause register c.in-Serve.serving _ s cause))
