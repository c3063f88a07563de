use Rattle.kcr_journal.proofs.custody_sentences.push_taken.Goals as goal

pub returns : goal.returns
returns c = rw (c.as_str.ensures.value, c.format.ensures.text, c.get.ensures.value) at c.push_texts.ensures
