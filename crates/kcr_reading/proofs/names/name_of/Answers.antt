use Rattle.kcr_reading.proofs.Common.{◌∙◌, [], Option, option_map, sym, unwrap_or, ap}
use Rattle.kcr_people.specs.declared.Person.{Person}
use Rattle.kcr_reading.proofs.names.name_of.Goals as goal

pub returns-in-Some-clause-name : goal.returns-in-Some-clause-name
returns-in-Some-clause-name g c clean m h =
    ap (λ (o : Option Person). unwrap_or (option_map (λ row. row.name) o) []) (sym c.in-Some.is ∙ c.in_ok-name.ensures.row clean m h)
