use Rattle.kcr_desk.proofs.Common.{◌≡◌, ◌≤◌, sym, ap, length, take, drop, arith, take-append-drop, length-take, IsRequestWithin, IsRequestOf}
use Rattle.std.specs.Prelude.{◌++◌}
use Rattle.kcr_desk.proofs.HeadLemmas.{whole_head, overflow_hopeless, full_hopeless, none_is_no_head}
use Rattle.kcr_desk.proofs.head.parse_head.Goals as goal

pub returns-in-Ok-Complete : goal.returns-in-Ok-Complete
returns-in-Ok-Complete c =
    let buf = c.args.buf.now in
    let front = c.head_window-front.result.now in
    let headers = c.parse_request.new.headers in
    let e : front ≡ take 8192 buf = c.head_window-front.ensures in
    let split : buf ≡ front ++ drop 8192 buf = rw e (sym (take-append-drop 8192 buf)) in
    let short : length front ≤ 8192 = omega (arith, ap length e, length-take 8192 buf) in
    let room : length headers ≤ 64 = omega arith in
    let found : IsRequestOf front headers c.in-Ok-Complete.spans = rw c.in-Ok-Complete.field-0-is at c.in-Ok-Complete.ensures.complete in
    let within : IsRequestWithin front headers c.in-Ok-Complete.spans = rw c.in-Ok-Complete.field-0-is at c.in-Ok-Complete.ensures.within in (
      found.0,
      whole_head front buf (drop 8192 buf) headers c.in-Ok-Complete.spans found.0 split short room within found.1,
      rw (← found.1.version, ← found.1.fields) (sym c.read_framing.ensures.value),
      c.read_framing.ensures.short,
      c.read_framing.ensures.plain,
    )

pub returns-then-buf-lt-MAX_HEAD : goal.returns-then-buf-lt-MAX_HEAD
returns-then-buf-lt-MAX_HEAD c =
    none_is_no_head c.args.buf.now (rw c.head_window-front.ensures at (rw c.in-Ok-Partial.field-0-is at c.in-Ok-Partial.ensures.partial))

pub returns-else-buf-lt-MAX_HEAD : goal.returns-else-buf-lt-MAX_HEAD
returns-else-buf-lt-MAX_HEAD c =
    full_hopeless c.args.buf.now (rw c.head_window-front.ensures at (rw c.in-Ok-Partial.field-0-is at c.in-Ok-Partial.ensures.partial)) (omega arith)
    (λ quiet. cc (c.is_blank_rest.ensures.1 quiet, c.if-buf-lt-MAX_HEAD.false.0))

pub returns-in-Err : goal.returns-in-Err
returns-in-Err c =
    overflow_hopeless (take 8192 c.args.buf.now) c.args.buf.now (drop 8192 c.args.buf.now) (sym (take-append-drop 8192 c.args.buf.now))
    (rw (← c.head_window-front.ensures) c.in-Err.ensures.no_room)
