use Rattle.kcr_audit.proofs.{Common.is_crowd, Crowds.none-listed, Crowds.none-crowd}
use Rattle.kcr_audit.proofs.rooms.find_crowded_room.Goals as goal

pub returns : goal.returns
returns c =
    none-crowd c.args.view.now
    (none-listed is_crowd _ _ _ _ _ _ c.deref.ensures.value c.deref-2.ensures.value c.deref-3.ensures.value c.in-None.is c.in_ok-numbers.ensures
    c.in_ok-ceremony.ensures)
