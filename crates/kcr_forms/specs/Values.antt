-- Histories whose commands are of values.
use Rattle.std.specs.List.{AllByRecursion}
use Rattle.kcr_history.specs.History.{History}
use Rattle.kcr_forms.specs.Acts.{IsAct}

-- the parts of each accepted command are values of their types
abbrev pub AreValues : History → Type 0
AreValues A = AllByRecursion (λ entry. IsAct entry.command.act) A
