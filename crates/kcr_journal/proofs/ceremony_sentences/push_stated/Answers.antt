use Rattle.std.proofs.Common.{append_assoc}
use Rattle.kcr_journal.proofs.ceremony_sentences.push_stated.Goals as goal

pub returns : goal.returns
returns c =
    let before = rw (c.format.ensures.text, c.get.ensures.value) at c.in_ok-push_texts.ensures in
    let all = rw (c.as_str.ensures.value, c.in_ok-push_passing.ensures, before) at c.push_texts-2.ensures in
    simp append_assoc (simp append_assoc at all)
