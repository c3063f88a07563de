use Rattle.std.proofs.Common.{◌≡◌, ◌+◌, ◌≤◌, ◌∙◌, false, get_or, arith, length, ap, sym}
use Rattle.std.proofs.{lemmas.List.get_or_read, Math.Nat.mul-le-mul_right}
use Rattle.kcr_seats.proofs.SearchLemmas.{order_short, root_reached, root_marked, not_root, row_start, row_closed, row_more, row_less}
use Rattle.kcr_seats.proofs.Turns.{in_row}
use Rattle.kcr_seats.proofs.search.reach.Goals as goal
use Rattle.kcr_seats.specs.Matrix.{fits_of}
use Rattle.kcr_seats.proofs.search.reach.Goals.{then-not-index+then-contains+in_ok-put, else-not-index}
use Rattle.kcr_seats.proofs.search.reach.Goals.{else-not-index-via-then-not-index+else-contains, else-not-index-via-else-not-index}

pub queue-smaller : goal.queue-smaller
queue-smaller g c = omega (arith, order_short c.row.invariant.row.reached)

pub queue-init : goal.queue-init
queue-init g c = record {
  reached = root_reached c.in_ok-reached.ensures c.requires.root (fits_of c.args.table.now) c.args.fixed c.requires.fixed;
  marks = root_marked c.in_ok-reached.ensures c.requires.root;
  closed = λ i j l. absurd (omega arith);
  inside = omega arith;
  cost = omega arith;
}

pub row-init : goal.row-init
row-init g c = record {
  row = row_start c.queue.next c.index-seat.result.now c.queue.invariant.reached c.queue.invariant.marks c.queue.invariant.closed
      (omega arith) (sym (get_or_read c.queue.reached.order.items c.queue.next _ (omega arith) c.index-seat.ensures 0));
  cost = omega arith;
}

pub row-preserved : goal.row-preserved
row-preserved g c =
    let told = c.row-fitting.ensures.each (get_or c.args.seating.now c.row.other 0) in
    record {
      cost = omega arith;
      row = elim c.if-not-index.branch [
        | then-not-index+then-contains+in_ok-put w ↦ row_more c.row.invariant.row (omega arith) (omega arith) (sym (rw w.if-not-index.true at c.index.ensures))
            (cc (told, w.if-contains.ensures)) (cc (w.in_ok-put.ensures.order_is)) (cc (w.in_ok-put.ensures.from_is)) (cc (w.in_ok-put.ensures.marked_is))
        | else-not-index w ↦ row_less c.row.invariant.row
            (λ h. elim w.else-not-index.branch [
              | else-not-index-via-then-not-index+else-contains v ↦ absurd (cc (told, v.if-contains.ensures))
              | else-not-index-via-else-not-index v ↦ sym (get_or_read c.row.reached.marked.items c.row.other _
                  (omega (arith, c.row.invariant.row.marks.table)) c.index.ensures false) ∙ v.if-not-index.false
            ])
            (ap (λ v. v.order.items) w.reached-is) (ap (λ v. v.from.items) w.reached-is) (ap (λ v. v.marked.items) w.reached-is)
      ];
    }

pub queue-preserved : goal.queue-preserved
queue-preserved g c = record {
  reached = c.row.invariant.row.reached;
  marks = c.row.invariant.row.marks;
  closed = row_closed c.row.invariant.row (omega arith);
  inside = omega (arith, c.row.invariant.row.inside);
  cost = omega (arith, c.row.auto.other-end (omega arith));
}

pub returns-in_err-put-clause-cost : goal.returns-in_err-put-clause-cost
returns-in_err-put-clause-cost g c =
    let short = order_short c.row.invariant.row.reached in
    let inside = c.row.invariant.row.inside in
    omega (arith, in_row (length c.args.seating.now) c.queue.next c.row.other (omega (arith, short, inside)) (omega arith))

pub returns-clause-cost : goal.returns-clause-cost
returns-clause-cost g c =
    let inside : c.queue.next ≤ length c.args.seating.now = omega (arith, order_short c.queue.invariant.reached) in
    omega (arith, mul-le-mul_right (1 + length c.args.seating.now) inside)

pub contains-requires : goal.contains-requires
contains-requires g c =
    let unmarked : get_or c.row.reached.marked.items c.row.other false ≡ false = sym (rw c.if-not-index.true at c.index.ensures) in
    let other = not_root c.row.invariant.row.reached c.row.other c.row.invariant.row.marks unmarked in
    omega (arith, c.requires.seated.in_range c.row.other (omega arith) other)

pub returns-clause-closed : goal.returns-clause-closed
returns-clause-closed g c = λ i j l. c.queue.invariant.closed i j (omega arith)

pub row-fitting-requires : goal.row-fitting-requires
row-fitting-requires g c =
    let high = c.queue.invariant.reached.high c.queue.next (omega arith) in
    omega (arith, high, get_or_read c.queue.reached.order.items c.queue.next c.index-seat.result.now (omega arith) c.index-seat.ensures 0)
