use Rattle.kcr_desk.proofs.Common.{rules, ◌≡◌, ◌++◌, take, drop, length, arith, length-take, unread}
use Rattle.std.proofs.Common.{◌+◌, ◌≤◌, refl, length-append}
use Rattle.kcr_desk.proofs.TakingLemmas.{read_behind}
use Rattle.kcr_desk.proofs.input_buffer.InputBuffer.fill.Goals as goal

pub returns-clause-takes : goal.returns-clause-takes
returns-clause-takes g c =
    let old = unread c.args.self.now in
    let new = drop c.compact.new.self.start c.extend_from_slice.new.self.items in
    let chunk = take c.in-Ok.count c.read.new.buf in
    let front : c.compact.new.self.bytes.items ≡ old = rw c.compact.ensures.start at c.compact.ensures.held in
    let grown : new ≡ old ++ chunk = rw (c.compact.ensures.start, c.in_ok-extend_from_slice.ensures.items, front) refl in
    let left = g.R.Read.remaining c.args.reader.now.inner in
    let kept = read_behind old new chunk left (g.R.Read.remaining c.read.new.self.inner) grown c.in-Ok.ensures.bytes.0 in
    let room : length new ≤ length old + 4096 = rw (grown, length-append, length-take) (omega (arith, c.read.auto.buf)) in
    search (rules, kept, room)
