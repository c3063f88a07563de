use Rattle.kcr_wire.proofs.{Common.sym, PartLemmas.parts-text}
use Rattle.kcr_wire.proofs.endpoint.RouteTable.resolve.Goals as goal

pub read_parts-requires : goal.read_parts-requires
read_parts-requires c =
    rw c.in-Ok.ensures.path (parts-text _ _ _ (sym c.in-Some.ensures) (rw c.self.invariant at c.in-Ok.ensures.found))
