use Rattle.kcr_history.proofs.Refused.{bare_text}
use Rattle.kcr_history.proofs.refusals.bare_text.Goals as goal

pub returns : goal.returns
returns c = let text = bare_text c.args.refusal.now c.requires in cc
