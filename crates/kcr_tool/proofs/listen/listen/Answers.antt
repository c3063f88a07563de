use Rattle.kcr_tool.proofs.Common.{◌≡◌, rules, inl, inr, IfOk-weaker, IfErr-weaker, writing, listening_line}
use Rattle.kcr_tool.proofs.Causes.{on_err, whole_front}
use Rattle.kcr_tool.proofs.listen.listen.Goals as goal

pub returns-in-Ok-write_whole : goal.returns-in-Ok-write_whole
returns-in-Ok-write_whole g c =
    let w = writing g.W.Write.contents c.args.output.now c.write_whole.new.writer in
    let line : c.as_bytes.result.now ≡ listening_line c.args.serving.port = search rules in
    let all = rw line at c.in-Ok-write_whole.ensures.written in
    record {
      served = IfOk-weaker c.serve_each.result _ _ (λ served count. (count, all)) c.serve_each.ensures.served;
      part = on_err c.serve_each.result (inr (whole_front w (listening_line c.args.serving.port) all));
      connects = c.serve_each.ensures.connects;
      cause = IfErr-weaker c.serve_each.result _ _ (λ why stops. inr (inl stops)) c.serve_each.ensures.cause;
      whole = c.serve_each.ensures.whole;
    }

pub returns-clause-part : goal.returns-clause-part
returns-clause-part g c =
    let line : c.as_bytes.result.now ≡ listening_line c.args.serving.port = search rules in
    inr (rw line at c.in-Err.ensures.written)
