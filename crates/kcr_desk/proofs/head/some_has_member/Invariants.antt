use Rattle.kcr_desk.proofs.Common.{◌≡◌, map, drop, header_bytes, some_has_member, values_of}
use Rattle.kcr_desk.proofs.head.some_has_member.Given as goal

abbrev pub invariant-loop-header : goal.invariant-loop-header
invariant-loop-header l =
    some_has_member l.text (values_of l.name (map (header_bytes l.buf) (drop l.header-index l.headers)))
    ≡ some_has_member l.text (values_of l.name (map (header_bytes l.buf) l.headers))
