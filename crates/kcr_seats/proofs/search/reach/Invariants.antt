use Rattle.std.proofs.Common.{◌+◌, ◌-◌, ◌≤◌, length, ◌*◌}
use Rattle.kcr_seats.specs.{Search.IsReached, Search.IsMarked, Search.IsClosed, Matrix.fits_of}
use Rattle.kcr_seats.proofs.Between.{IsRow}
use Rattle.kcr_seats.proofs.search.reach.Given as goal

abbrev pub invariant-row : goal.invariant-row
invariant-row g l = record {
  row : IsRow (fits_of l.table) l.root l.fixed l.next l.other l.seat l.seating l.reached.order.items l.reached.from.items l.reached.marked.items;
  cost : l.turns ≤ l.fn.turns + l.next * (1 + length l.seating) + 1 + l.other;
}

abbrev pub invariant-queue : goal.invariant-queue
invariant-queue g l = record {
  reached : IsReached (fits_of l.table) l.root l.fixed l.seating l.reached.order.items l.reached.from.items;
  marks : IsMarked l.seating l.reached.order.items l.reached.marked.items;
  closed : IsClosed (fits_of l.table) l.fixed l.next (length l.seating) l.seating l.reached.order.items l.reached.marked.items;
  inside : l.next ≤ length l.reached.order.items;
  cost : l.turns ≤ l.fn.turns + l.next * (1 + length l.seating);
}

abbrev pub decreases-queue : goal.decreases-queue
decreases-queue g l = length l.seating - l.next
