use Rattle.kcr_tool.proofs.{Common.refl, Common.file_state, Common.founded_in, Copies.never_in_doubt}
use Rattle.kcr_tool.proofs.opening.open_copied.Goals as goal

pub returns-clause-stands : goal.returns-clause-stands
returns-clause-stands c A held =
    let clean = never_in_doubt (λ _. refl) c.in-Ok.connection in
    let opened = c.in-Ok.ensures.opened clean in
    let found = c.in-Ok.ensures.found clean in
    c.in_ok-register.ensures.stands A
    (λ _ live. founded_in A _ (file_state c.in-Ok.connection) held found opened.0 opened.1)
