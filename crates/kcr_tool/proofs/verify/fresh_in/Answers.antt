use Rattle.kcr_tool.proofs.verify.fresh_in.Goals as goal

pub returns-in-Ok-init-clause-made : goal.returns-in-Ok-init-clause-made
returns-in-Ok-init-clause-made g c = record {
  was = c.in-Ok.connection;
  opened = λ clean. (c.in-Ok.ensures.opened clean, c.in-Ok.ensures.found clean);
  empty = c.in-Ok-init.ensures.nothing;
  survives = c.in-Ok-init.ensures.crash;
}
