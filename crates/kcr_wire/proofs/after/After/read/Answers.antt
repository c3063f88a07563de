use Rattle.kcr_wire.proofs.AfterLemmas.{after-none, after-read}
use Rattle.kcr_wire.proofs.after.After.read.Goals as goal

pub returns-in_default : goal.returns-in_default
returns-in_default c = after-none c.args.bytes.now c.in_default.ensures.only

pub returns : goal.returns
returns c =
    after-read c.args.bytes.now c.new.result c.in-Some.number c.new.ensures c.in-Some.ensures.found c.in-Some.ensures.only
