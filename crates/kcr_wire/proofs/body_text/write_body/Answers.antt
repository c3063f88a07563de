use Rattle.kcr_wire.proofs.Common.{List, ℕ, ◌++◌, codes, ap, ◌∙◌, quoted, members_of}
use Rattle.kcr_wire.proofs.BodyPieces.{with_members, body_told}
use Rattle.kcr_wire.proofs.body_text.write_body.Goals as goal

pub returns : goal.returns
returns c =
    c.in_ok-push_str.ensures.bytes
    ∙ ap (λ (text : List ℕ). text ++ codes "}") (c.in_ok-tell.ensures
    ∙ ap (λ text. with_members text (members_of c.args.command.now.act)) (c.in_ok-text.ensures
    ∙ ap (λ (key : List ℕ). codes "{\"key\":" ++ quoted key) c.as_str.ensures.value))
    ∙ body_told c.args.command.now
