use Rattle.kcr_desk.proofs.Common.{◌≡◌, ◌+◌, ◌*◌, ◌++◌, [], ◌∷◌, take, get_or, ap, ◌∙◌, arith, refl, digit_value, digits_value, take_more}
use Rattle.kcr_desk.proofs.Common.{list_all-append}
use Rattle.std.proofs.lemmas.Str.{digit_value_digit}
use Rattle.httparse.proofs.ChunkLemmas.{digits_value_after_push}
use Rattle.kcr_desk.proofs.head.number.Goals as goal

pub loop-digit-preserved : goal.loop-digit-preserved
loop-digit-preserved c =
    let i = c.loop-digit.digit-index in
    let ds = c.args.digits.now in
    let d = get_or ds i 0 in
    let more : take (i + 1) ds ≡ take i ds ++ d ∷ [] = take_more ds i 0 c.loop-digit-test.true in
    let e : digit_value d + 48 ≡ d = digit_value_digit d c.if-not-is_ascii_digit.ensures.cases in
    let v : digits_value 10 (take (i + 1) ds) ≡ digits_value 10 (take i ds) * 10 + digit_value d =
    ap (digits_value 10) more ∙ digits_value_after_push 10 0 (take i ds) d in
    record {
      value = rw v (omega (arith, c.loop-digit.invariant.value, c.min-number.ensures));
      digits = rw (more, list_all-append) (rw (c.loop-digit.invariant.digits, ← c.if-not-is_ascii_digit.ensures.value) refl);
    }
