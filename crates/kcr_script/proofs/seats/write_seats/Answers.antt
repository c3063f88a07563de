use Rattle.kcr_script.proofs.Common.{◌≡◌, ◌+◌, drop, sym, ◌∙◌, string_bytes, flat_map, take_rest, nil_from_length, All-drop, All-tail, IsSeat, groups}
use Rattle.kcr_script.proofs.Common.{pair_item, runs}
use Rattle.kcr_script.specs.Seats.{written}
use Rattle.kcr_script.proofs.WrittenLemmas.{all_appended-append, all_appended_is, written_stands}
use Rattle.kcr_script.proofs.seats.write_seats.Goals as goal

text_is : (c : goal.In_default) → string_bytes c.loop-seat.text ≡ written c.args.seats.now
unfolding written
text_is c =
    let none = nil_from_length c.loop-seat.rest.now c.in_default.ensures.cases in
    (rw none at c.loop-seat.invariant.same) ∙ all_appended_is (flat_map groups (runs c.args.seats.now))

pub returns-clause-text : goal.returns-clause-text
returns-clause-text c = text_is c

pub returns-clause-stands : goal.returns-clause-stands
returns-clause-stands c = rw (text_is c) (written_stands c.args.seats.now c.as_slice-rest.ensures.form)

pub loop-seat-preserved : goal.loop-seat-preserved
loop-seat-preserved c =
    let first = c.in-Some.ensures.cases.0 in
    let rest = take_rest c.in-Some.after.now c.run_len-more.result in
    let run = pair_item (c.in-Some.seat.now, c.run_len-more.result + 1) in
    let left = drop c.run_len-more.result c.in-Some.after.now in
    let before = rw first at c.loop-seat.invariant.same in
    let after = rw c.run_len-more.ensures.run at before in
    let all = rw first at c.loop-seat.invariant.each in
    record {
      each = rw rest (All-drop IsSeat c.run_len-more.result c.in-Some.after.now (All-tail IsSeat c.in-Some.seat.now c.in-Some.after.now all));
      same = rw (rest, c.in_ok-push_run.ensures) (sym (all_appended-append (string_bytes c.loop-seat.text) (groups run) (flat_map groups (runs left))) ∙ after);
    }
