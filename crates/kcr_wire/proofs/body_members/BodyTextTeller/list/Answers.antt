use Rattle.kcr_wire.proofs.{Common.refl, Common.string, BodyPieces.each-whole}
use Rattle.kcr_wire.proofs.body_members.BodyTextTeller.list.Goals as goal

pub push-requires : goal.push-requires
push-requires g c = rw (c.in_ok-value.ensures, c.in_ok-values.ensures) (each-whole string (λ _. refl) (g.T.ListElement.texts c.as_slice.result.now))
