use Rattle.kcr_tool.proofs.Common.{◌≡◌, ◌+◌, arith, err_from_is_err_and, connects_both, connects_none}
use Rattle.kcr_tool.proofs.listen.serve_each.Goals as goal

pub loop-served-init : goal.loop-served-init
loop-served-init g c = record { within = omega arith; connects = connects_none g.S.Store c.args.register.now; whole = λ none. none }

pub loop-served-preserved : goal.loop-served-preserved
loop-served-preserved g c = record {
  within = omega arith;
  connects = connects_both _ _ _ _ _ 1 c.loop-served.invariant.connects c.in_ok-serve_stream.ensures.connects;
  whole = λ none. c.in_ok-serve_stream.ensures.whole (c.loop-served.invariant.whole none);
}

pub returns-in_default-clause-connects : goal.returns-in_default-clause-connects
returns-in_default-clause-connects g c = (c.loop-served.served, c.loop-served.invariant.within, c.loop-served.invariant.connects)

pub returns-in_err-serve_stream-clause-connects : goal.returns-in_err-serve_stream-clause-connects
returns-in_err-serve_stream-clause-connects g c = rw (err_from_is_err_and c.from_residual.result c.from_residual.ensures.1).1
    (c.loop-served.served + 1, omega arith, connects_both _ _ _ _ _ 1 c.loop-served.invariant.connects c.in_err-serve_stream.ensures.connects)

pub returns-clause-connects : goal.returns-clause-connects
returns-clause-connects g c =
    let all : c.loop-served.served ≡ c.args.serving.connections = omega arith in
    rw all at c.loop-served.invariant.connects

pub returns-clause-whole : goal.returns-clause-whole
returns-clause-whole g c = c.loop-served.invariant.whole
