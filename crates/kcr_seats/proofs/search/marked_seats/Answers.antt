use Rattle.std.proofs.Common.{ap, arith}
use Rattle.kcr_seats.proofs.SearchLemmas.{listed_more, listed_same}
use Rattle.kcr_seats.proofs.search.marked_seats.Goals as goal
use Rattle.kcr_seats.proofs.search.marked_seats.Goals.{then-marked-seat+in_ok-push, else-marked-seat}

pub loop-seat-preserved : goal.loop-seat-preserved
loop-seat-preserved g c = record {
  cost = omega arith;
  listed = elim c.if-marked-seat.branch [
    | then-marked-seat+in_ok-push w ↦
        let is = ap (λ v. v.items) w.seats-is in
        let put = w.in_ok-push.ensures.items in
        rw (is, put) (listed_more c.loop-seat.invariant.listed w.if-marked-seat.true)
    | else-marked-seat w ↦ let is = ap (λ v. v.items) w.seats-is in rw is (listed_same c.loop-seat.invariant.listed w.if-marked-seat.false)
  ];
}
