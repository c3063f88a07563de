use Rattle.std.proofs.Common.{sym, ap, ◌∙◌, arith}
use Rattle.kcr_forms.specs.Forms.{number_to}
use Rattle.kcr_forms.proofs.FormLemmas.{number-new, number-large}
use Rattle.kcr_forms.proofs.forms.number_to.Goals as goal

pub returns-in-Ok : goal.returns-in-Ok
returns-in-Ok g c = let limit = g.K.Numbered.limit in number-new limit _ _ c.new.ensures ∙ ap (number_to limit) c.in-Ok.ensures.1

pub returns-in-Err : goal.returns-in-Err
returns-in-Err g c =
    let few = g.met.K.Numbered.fits in sym (number-large g.K.Numbered.limit _ (λ h. c.in-Err.ensures (omega (arith, h, few))))
