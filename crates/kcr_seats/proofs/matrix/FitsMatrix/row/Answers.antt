use Rattle.std.proofs.Common.{◌≡◌, ◌<◌, ◌∙◌, ap, subst, arith, length, true}
use Rattle.kcr_seats.specs.{People.contains, People.nobody, Matrix.fits_of, Matrix.people_of, Matrix.seats_of}
use Rattle.std.proofs.lemmas.List.{get_or_default}
use Rattle.kcr_seats.proofs.matrix.FitsMatrix.row.Goals as goal

pub index-requires : goal.index-requires
unfolding seats_of
index-requires c = (let ok = c.args.self.now.rows.ok in let h : c.args.seat < length c.args.self.now.rows.items = c.requires in omega arith)

pub returns-clause-each : goal.returns-clause-each
unfolding fits_of seats_of
returns-clause-each c = λ person.
    ap (λ x. contains x person) (c.index.ensures ∙ get_or_default c.args.self.now.rows.items c.args.seat c.index.result.now nobody c.requires)

pub returns-clause-in_range : goal.returns-clause-in_range
unfolding people_of seats_of
returns-clause-in_range c = λ person h.
    c.args.self.now.in_range c.args.seat person
    (subst (λ x. contains x person ≡ true) (c.index.ensures ∙ get_or_default c.args.self.now.rows.items c.args.seat c.index.result.now nobody c.requires) h)
