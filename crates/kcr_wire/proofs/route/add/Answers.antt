use Rattle.kcr_wire.proofs.Common.{◌≡◌, rules, OutOfMemory}
use Rattle.kcr_wire.proofs.{Tables.add-inserted, Tables.only-memory, route.add.Goals.in-OutOfMemory, route.add.Goals.in_default}
use Rattle.kcr_wire.proofs.route.add.Goals as goal

pub prove-unreachable-requires : goal.prove-unreachable-requires
prove-unreachable-requires c =
    let memory : c.in-Err.error ≡ OutOfMemory = only-memory c.args.pattern.now c.args.route _ _ _ c.requires c.in-Err.ensures in
    elim c.match-matches.branch [ in-OutOfMemory w ↦ search rules | in_default w ↦ search rules ]

pub returns-in-Ok : goal.returns-in-Ok
returns-in-Ok c = add-inserted c.args.pattern.now c.args.route _ _ c.in-Ok.ensures
