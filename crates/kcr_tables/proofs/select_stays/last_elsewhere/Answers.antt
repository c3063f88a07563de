use Rattle.kcr_tables.proofs.Common.{rules, not, stay_reaches, Stay}
use Rattle.std.proofs.lemmas.Fn.{filter_same}
use Rattle.kcr_tables.proofs.select_stays.last_elsewhere.Goals as goal

pub returns-clause-rows : goal.returns-clause-rows
returns-clause-rows g c clean t held =
    let had = c.in_ok-last.ensures.rows clean t held in
    (c.in_ok-last.last.items, had, filter_same _ (λ (x : Stay). not (stay_reaches c.args.asked.now.ceremony c.args.asked.now.at x)) _ (λ x b f' k. search rules) _ _ c.retain.ensures.filtered)
