use Rattle.std.proofs.Common.{◌≡◌, ◌-◌}
use Rattle.kcr_log.specs.BegunAnew.{is_later}
use Rattle.kcr_log.proofs.begun_anew.is_later.Given as goal

abbrev pub invariant-loop : goal.invariant-loop
invariant-loop l = is_later (l.fn.most - l.counter) l.count l.fn.second ≡ is_later l.fn.most l.fn.first l.fn.second
