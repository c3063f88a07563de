use Rattle.kcr_audit.proofs.{Common.is_lone, Crowds.none-listed, Crowds.none-lone}
use Rattle.kcr_audit.proofs.rooms.find_lone_person.Goals as goal

pub returns : goal.returns
returns c =
    none-lone c.args.view.now
    (none-listed is_lone _ _ _ _ _ _ c.deref.ensures.value c.deref-2.ensures.value c.deref-3.ensures.value c.in-None.is c.in_ok-numbers.ensures
    c.in_ok-ceremony.ensures)
