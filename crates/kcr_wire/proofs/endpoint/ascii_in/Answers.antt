use Rattle.kcr_wire.proofs.Common.{Some, sym, ap, ◌∙◌, arith, IsUtf8-from_ascii, All-from_ascii}
use Rattle.kcr_wire.proofs.PartLemmas.{ascii_in-some, ascii_in-none}
use Rattle.kcr_wire.proofs.endpoint.ascii_in.Goals as goal
use Rattle.kcr_wire.proofs.endpoint.ascii_in.Goals.{in_default-via-in-Ok+else-is_ascii, in_default-via-in_default}

pub returns-in-Ok : goal.returns-in-Ok
returns-in-Ok c =
    let same = c.in-Ok.ensures.cases.0 in
    ap Some same ∙ sym (ascii_in-some _ (All-from_ascii _ (rw same at c.if-is_ascii.ensures.cases)))

pub returns-in_default : goal.returns-in_default
returns-in_default c = elim c.in_default.branch [
  | in_default-via-in-Ok+else-is_ascii w ↦
      let other = rw w.in-Ok.ensures.cases.0 at w.if-is_ascii.ensures.cases in
      sym (ascii_in-none _ (λ is. omega (arith, is other.0, other.1)))
  | in_default-via-in_default w ↦ sym (ascii_in-none _ (λ is. w.in_default.ensures.cases.0 (IsUtf8-from_ascii _ is)))
]
