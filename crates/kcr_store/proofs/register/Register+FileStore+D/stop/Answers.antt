use Rattle.kcr_store.proofs.Common.{arith, subst, sym, over_files, Held, state, HasCleanDisk, tried, AfterCrash}
use Rattle.kcr_store.proofs.StopLemmas.{left_either, opens_either}
use Rattle.kcr_store.proofs.register.Register+FileStore+D.stop.Goals as goal

pub returns-clause-left : goal.returns-clause-left
returns-clause-left g c clean s at left may =
    let quiet = c.into_store.ensures.quiet in
    let was : HasCleanDisk (state over_files c.close.result) = omega (arith, quiet.clean, clean) in
    left_either c.into_store.result (state over_files c.close.result) (c.into_store.ensures.numbered clean)
    (c.into_store.ensures.sound clean) was quiet.outcomes s
    (subst (λ (h : Held _). AfterCrash s.accepted (tried s) (state over_files h)) (sym c.close.ensures) at.crash) left may

pub returns-clause-opens : goal.returns-clause-opens
returns-clause-opens g c clean s at left may = opens_either g.N.Store s left (returns-clause-left g c clean s at left may)
