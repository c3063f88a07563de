use Rattle.kcr_journal.proofs.custody_sentences.push_sealed.Goals as goal

pub returns : goal.returns
returns c = rw (c.as_str.ensures.value, c.as_str-2.ensures.value, c.in_ok-items.ensures, c.as_slice.ensures.value, c.format.ensures.text, c.get.ensures.value) at c.push_texts.ensures
