use Rattle.kcr_base.proofs.NamedLemmas.{among-texts}
use Rattle.kcr_base.proofs.lists.is_among.Goals as goal

pub returns : goal.returns
returns g c =
    cc (among-texts g.T.PartialEq.eq g.T.Written.text g.met.T.ListElement.same c.args.one c.args.those.now, g.met.T.ListElement.each c.args.those.now)
