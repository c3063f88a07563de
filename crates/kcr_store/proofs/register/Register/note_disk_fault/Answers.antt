use Rattle.kcr_store.proofs.Common.{rules, ◌≡◌, ◌≢◌, inr, refl, sym, Disk}
use Rattle.kcr_store.proofs.register.Register.note_disk_fault.Goals as goal

pub returns-in-Err : goal.returns-in-Err
returns-in-Err g c =
    let other : c.in-Err.refusal ≢ Disk = search rules in
    record { same = sym c.in-Err.is; settled = inr ((λ is. other (let e : c.in-Err.refusal ≡ Disk = cc in e)), refl) }
