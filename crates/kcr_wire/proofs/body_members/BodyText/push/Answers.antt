use Rattle.kcr_wire.proofs.{Common.string_bytes, Common.view, BodyPieces.value_told}
use Rattle.kcr_wire.proofs.body_members.BodyText.push.Goals as goal

pub returns : goal.returns
returns c =
    rw (
      c.in_ok-push_str.ensures.bytes,
      c.as_str-2.ensures.value,
      c.in_ok-member.ensures.ok,
      c.as_str.ensures.value,
      c.in_ok-written.ensures.text c.requires,
      c.text.ensures,
    ) (value_told (string_bytes c.args.self.now.text) c.args.name (view c.args.value.now))
