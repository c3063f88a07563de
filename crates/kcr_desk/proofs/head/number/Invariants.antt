use Rattle.kcr_desk.proofs.Common.{◌≡◌, take, min, true, list_all, is_ascii_digit, digits_value}
use Rattle.kcr_desk.proofs.head.number.Given as goal

abbrev pub invariant-loop-digit : goal.invariant-loop-digit
invariant-loop-digit l = record {
  value : l.number ≡ min (digits_value 10 (take l.digit-index l.digits)) 131073;
  digits : list_all is_ascii_digit (take l.digit-index l.digits) ≡ true;
}
