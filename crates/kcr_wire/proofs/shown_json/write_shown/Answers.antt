use Rattle.kcr_wire.proofs.Common.{string_bytes, ◌∙◌, view}
use Rattle.kcr_wire.proofs.ShowLemmas.{shown-written}
use Rattle.kcr_wire.proofs.shown_json.write_shown.Goals as goal

pub returns : goal.returns
returns c =
    c.from_string.ensures
    ∙ shown-written c.args.shown.now (view c.in_ok-to_json.field-0) (string_bytes c.in_ok-text.text) c.in_ok-to_json.ensures c.in_ok-text.ensures.text
