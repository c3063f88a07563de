use Rattle.kcr_journal.proofs.ceremony_sentences.push_signed.Goals as goal

pub returns : goal.returns
returns c = rw (c.format.ensures.text, c.get.ensures.value, c.format-2.ensures.text, c.get-2.ensures.value) at c.push_texts.ensures
