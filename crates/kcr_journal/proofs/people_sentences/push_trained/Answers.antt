use Rattle.std.proofs.Common.{append_assoc}
use Rattle.kcr_journal.proofs.people_sentences.push_trained.Goals as goal

pub returns : goal.returns
returns c =
    rw (c.in_ok-extend_from_slice.ensures.items, c.as_bytes.ensures.value, c.text.ensures, c.as_str.ensures, c.as_str-2.ensures, c.code-since.ensures, c.code-until.ensures, append_assoc) at c.push_texts.ensures
