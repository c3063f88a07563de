use Rattle.std.proofs.Common.{sym, ◌∙◌, arith}
use Rattle.std.proofs.lemmas.{Fmt.parse-decimal, Fmt.IsAscii-decimal, Str.IsUtf8-from_ascii}
use Rattle.kcr_base.proofs.number.read_number.Goals as goal

pub returns-in-Err-clause-only : goal.returns-in-Err-clause-only
returns-in-Err-clause-only c n small e = absurd (c.in-Err.ensures.cases.0 (IsUtf8-from_ascii _ (rw e at (IsAscii-decimal n (omega arith)))))

pub returns-in-Err-parse-clause-only : goal.returns-in-Err-parse-clause-only
returns-in-Err-parse-clause-only c n small e =
    absurd (cc (parse-decimal 32 n _ _ small (omega arith) (c.in-Ok.ensures.cases.0 ∙ sym e) c.parse.ensures.value.0))

pub returns-then-not-is_decimal-clause-only : goal.returns-then-not-is_decimal-clause-only
returns-then-not-is_decimal-clause-only c n small e =
    grind (arith, parse-decimal 32 n _ _ small (omega arith) (c.in-Ok.ensures.cases.0 ∙ sym e) c.parse.ensures.value.0, c.if-not-is_decimal.ensures.1)

pub returns-clause-only : goal.returns-clause-only
returns-clause-only c n small e = cc (parse-decimal 32 n _ _ small (omega arith) (c.in-Ok.ensures.cases.0 ∙ sym e) c.parse.ensures.value.0)
