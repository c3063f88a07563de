use Rattle.kcr_store.proofs.{Common.was_clean, OpenLemmas.rows_in}
use Rattle.kcr_store.proofs.register.Register+FileStore+FileFrom+F.open_from.Goals as goal

pub returns-in-Ok-clause-stands : goal.returns-in-Ok-clause-stands
returns-in-Ok-clause-stands g c A held = c.in-Ok.ensures.adopted A (c.in_ok-connection.ensures.founded A held)

pub returns-in-Ok-clause-older : goal.returns-in-Ok-clause-older
returns-in-Ok-clause-older g c clean from t held =
    let before = was_clean _ _ _ c.in-Ok.ensures.crash clean in
    let opened = c.in_ok-connection.ensures.opened before in
    (c.in-Ok.ensures.older clean from t (rows_in from t _ _ held (c.in_ok-connection.ensures.found before) opened.0 opened.1)).1
