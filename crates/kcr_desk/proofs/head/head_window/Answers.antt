use Rattle.kcr_desk.proofs.Common.{sym, arith, take_all}
use Rattle.kcr_desk.proofs.head.head_window.Goals as goal

pub returns-then-buf-lt-MAX_HEAD : goal.returns-then-buf-lt-MAX_HEAD
returns-then-buf-lt-MAX_HEAD c = sym (take_all 8192 c.args.buf.now (omega arith))
