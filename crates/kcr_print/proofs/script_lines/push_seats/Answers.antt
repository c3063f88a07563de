use Rattle.kcr_print.proofs.Common.{◌++◌, length, take, sym, ap, ◌∙◌, length-append, append_assoc, add-one, seat_lines}
use Rattle.std.proofs.lemmas.Slice.Zip.{zip_turn, zip_end}
use Rattle.kcr_print.proofs.SeatLemmas.{seat_line, lines_more, seats_all}
use Rattle.kcr_print.proofs.script_lines.push_seats.Goals as goal

pub loop-seat-preserved : goal.loop-seat-preserved
loop-seat-preserved c =
    let seats = c.args.seats.now in
    let people = c.args.people.now in
    let seat = c.in-Some.seat.now in
    let who = c.in-Some.who.now in
    let done = seat_lines (take (length c.loop-seat.yielded) seats) (take (length c.loop-seat.yielded) people) in
    let i = c.into_iter-seat-iterator.ensures.into_iter_gives in
    let turn = zip_turn seats people c.loop-seat.yielded c.into_iter-seat-iterator.result c.loop-seat.seat-iterator c.next.new.self c.next.result
    (cc (i, c.zip-seat-items.ensures.first, c.iter.ensures.rest)) (cc (i, c.zip-seat-items.ensures.second.0)) c.loop-seat.yielded_by
    (c.in-Some.seat, c.in-Some.who) c.in-Some.is c.next.ensures.steps in
    let more = lines_more seats people (length c.loop-seat.yielded) seat who turn.0 turn.1 (turn.2 seat) (turn.3 who) in
    rw (
      length-append,
      add-one,
      c.in_ok-push_inner_line.ensures,
      c.as_str.ensures,
      c.seat_code-seat.ensures,
      c.as_str-in-loop-seat.ensures.value,
      c.loop-seat.invariant,
    )
    (append_assoc c.args.out.now.items done (seat_line seat who) ∙ ap (λ t. c.args.out.now.items ++ t) (sym more))

pub returns : goal.returns
returns c =
    let seats = c.args.seats.now in
    let people = c.args.people.now in
    let i = c.into_iter-seat-iterator.ensures.into_iter_gives in
    let end = zip_end seats people c.loop-seat.yielded c.into_iter-seat-iterator.result c.loop-seat.seat-iterator c.next.new.self c.next.result
    (cc (i, c.zip-seat-items.ensures.first, c.iter.ensures.rest)) (cc (i, c.zip-seat-items.ensures.second.0)) c.loop-seat.yielded_by
    c.in-None.is c.next.ensures.steps in
    c.loop-seat.invariant ∙ ap (λ t. c.args.out.now.items ++ t) (seats_all seats people (length c.loop-seat.yielded) end)
