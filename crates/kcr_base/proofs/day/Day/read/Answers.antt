use Rattle.std.proofs.Common.{◌∙◌, ℕ, Option, IfSome, subst, sym}
use Rattle.std.proofs.lemmas.Option.{IfSome_then}
use Rattle.kcr_base.specs.Day.{IsDayOf, year_of, month_of, day_of_month}
use Rattle.kcr_base.proofs.DayLemmas.{day_text_of_date, parts_of_day, number_in_range, date_of_number}
use Rattle.kcr_base.proofs.day.Day.read.Goals as goal

pub returns-in_err-year-clause-only : goal.returns-in_err-year-clause-only
returns-in_err-year-clause-only c n valid e =
    let p = parts_of_day n valid in cc (c.in_err-year.ensures.only (year_of n) (month_of n) (day_of_month n) p.0 (p.1 ∙ e))

pub returns-clause-found : goal.returns-clause-found
returns-clause-found c = IfSome_then c.from_date.result c.from_date.ensures.found
    (λ n h. (number_in_range _ _ _ n h, day_text_of_date _ _ _ n h ∙ c.in_ok-year.ensures.found.1))

pub returns-clause-only : goal.returns-clause-only
returns-clause-only c n valid e =
    let p = parts_of_day n valid in
    let h = c.in_ok-year.ensures.only (year_of n) (month_of n) (day_of_month n) p.0 (p.1 ∙ e) in
    c.from_date.ensures.only n (subst (λ (o : Option (ℕ × ℕ × ℕ)). IfSome o (λ p. IsDayOf p.0 p.1 p.2 n)) (sym h) (date_of_number n valid))
