use Rattle.kcr_store.proofs.{Common.refl, Common.state, OpenLemmas.adopted, WholeLemmas.stands_whole}
use Rattle.kcr_store.proofs.register.Register.adopt.Goals as goal

pub returns-in-Ok-clause-adopted : goal.returns-in-Ok-clause-adopted
returns-in-Ok-clause-adopted g c A was =
    let before = state g.S.Store c.args.connection in
    stands_whole refl (adopted g.S.Store g.met.S.Store.settled A before c.open_or_migrate.new.conn was c.in-Ok.ensures.found)
