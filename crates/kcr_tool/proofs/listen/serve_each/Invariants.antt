use Rattle.kcr_tool.proofs.Common.{◌≡◌, ◌≤◌, ◌-◌, false}
use Rattle.kcr_desk.specs.Connections.{Connects}
use Rattle.kcr_tool.proofs.listen.serve_each.Given as goal

abbrev pub invariant-loop-served : goal.invariant-loop-served
invariant-loop-served g l = record {
  within : l.served ≤ l.serving.connections;
  connects : Connects g.S.Store l.initial.register l.register l.served;
  whole : l.initial.register.is_broken ≡ false → l.register.is_broken ≡ false;
}

abbrev pub decreases-loop-served : goal.decreases-loop-served
decreases-loop-served g l = l.serving.connections - l.served
