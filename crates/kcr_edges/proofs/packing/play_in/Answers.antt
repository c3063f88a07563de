use Rattle.std.proofs.Common.{refl}
use Rattle.kcr_edges.proofs.packing.play_in.Goals as goal

pub returns-in-Ok-clause-packed : goal.returns-in-Ok-clause-packed
returns-in-Ok-clause-packed c db holds =
    let copied = c.in-Ok.ensures.copied refl in
    let same = (c.in_ok-connection.ensures.found copied.was_clean).holds db holds in
    rw (c.into_file-db.ensures) (rw same at copied.seen.alone)
