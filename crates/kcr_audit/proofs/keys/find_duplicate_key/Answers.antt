use Rattle.kcr_audit.proofs.Common.{List, subst, KeyRow, IsRepeated}
use Rattle.kcr_audit.proofs.Seen.{none-doubled}
use Rattle.kcr_audit.proofs.keys.find_duplicate_key.Goals as goal

pub returns-in-None : goal.returns-in-None
returns-in-None c =
    let by_rows = subst (λ (rows : List KeyRow). IsRepeated rows c.in_ok-key.field-0) c.deref.ensures.value c.in_ok-key.ensures in
    none-doubled c.args.view.now (subst (λ found. IsRepeated c.args.view.now.keys.items found) c.in-None.is by_rows)
