use Rattle.kcr_store.proofs.{Common.file_state, OpenLemmas.founded_in}
use Rattle.kcr_store.proofs.open.connect.Goals as goal

pub returns-in-Ok-clause-founded : goal.returns-in-Ok-clause-founded
returns-in-Ok-clause-founded g c accepted held clean live =
    let opened = c.in-Ok.ensures.opened clean in
    founded_in _ _ (file_state c.in-Ok.connection) held (c.in-Ok.ensures.found clean) opened.0 opened.1
