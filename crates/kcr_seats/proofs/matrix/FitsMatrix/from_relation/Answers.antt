use Rattle.std.proofs.Common.{◌≡◌, ◌+◌, ◌*◌, ◌<◌, ◌≤◌, true, arith, length-append}
use Rattle.kcr_seats.specs.{People.contains, Matrix.fits_of, Matrix.people_of, Matrix.seats_of}
use Rattle.kcr_seats.proofs.{TableLemmas.any_row, TableLemmas.row_more, Turns.in_loop}
use Rattle.kcr_seats.proofs.matrix.FitsMatrix.from_relation.Goals as goal

pub invariant_of-result-clause-in_range : goal.invariant_of-result-clause-in_range
invariant_of-result-clause-in_range g c =
    any_row c.loop-seat.rows.items c.people.result c.loop-seat.seat c.loop-seat.invariant.long
    (λ i person low h. rw c.people.ensures (c.loop-seat.invariant.in_range i person low h))

pub returns-clause-table : goal.returns-clause-table
unfolding fits_of people_of seats_of
returns-clause-table g c = record {
  seats_are = (let all : c.seats-seats.result ≤ c.loop-seat.seat = c.loop-seat-test.false in let end = c.loop-seat.auto.seat-end in omega arith);
  people_are = c.people.ensures;
  same = λ seat person low known. c.loop-seat.invariant.each seat person (omega arith) known;
}

pub returns-in_err-push-clause-all : goal.returns-in_err-push-clause-all
returns-in_err-push-clause-all g c =
    let seats = g.F.Fits.seat_count c.args.fits.now in
    omega (arith, in_loop seats c.loop-seat.seat (1 + 2 * g.F.Fits.person_count c.args.fits.now) (omega arith))

pub returns-in_err-push-clause-asks : goal.returns-in_err-push-clause-asks
returns-in_err-push-clause-asks g c =
    let seats = g.F.Fits.seat_count c.args.fits.now in
    omega (arith, in_loop seats c.loop-seat.seat (g.F.Fits.person_count c.args.fits.now) (omega arith))

pub loop-seat-preserved : goal.loop-seat-preserved
loop-seat-preserved g c =
    let put = c.in_ok-push.ensures.items in
    let before = c.loop-seat.invariant in
    let rows = c.loop-seat.rows.items in
    let row = c.read_row.result in
    record {
      long = rw put (simp length-append (omega arith));
      in_range = λ i person low. rw put (row_more (λ _ r. contains r person ≡ true → person < g.F.Fits.person_count c.args.fits.now) rows row c.loop-seat.seat
          before.long (λ k l. before.in_range k person l) (c.read_row.ensures.in_range person) i low);
      each = λ i person low known. rw put (row_more (λ k r. contains r person ≡ g.F.Fits.relation c.args.fits.now k person) rows row c.loop-seat.seat
          before.long (λ k l. before.each k person l known) (c.read_row.ensures.each person known) i low);
      all = omega arith;
      fits_calls = omega arith;
    }
