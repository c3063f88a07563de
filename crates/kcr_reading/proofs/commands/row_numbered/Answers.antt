use Rattle.kcr_reading.proofs.Common.{◌≡◌, ◌∙◌, length, sym, rules}
use Rattle.kcr_reading.proofs.CommandLemmas.{only_same, only_popped, only_other}
use Rattle.kcr_reading.proofs.commands.row_numbered.Goals as goal

pub returns-then-len-eq1-clause-row : goal.returns-then-len-eq1-clause-row
returns-then-len-eq1-clause-row g c clean m h =
    let rows = c.in_ok-rows.rows.items in
    let one : length rows ≡ 1 = sym c.in_ok-rows.rows.ok.0 ∙ sym c.len.ensures ∙ c.if-len-eq1.true in
    only_popped rows c.pop.new.self.items c.pop.result one c.pop.ensures.items (c.pop.ensures.variant.1 (search rules))
    ∙ sym (only_same _ rows (c.in_ok-rows.ensures.rows clean m h))

pub returns-clause-row : goal.returns-clause-row
returns-clause-row g c clean m h =
    let rows = c.in_ok-rows.rows.items in
    sym (only_same _ rows (c.in_ok-rows.ensures.rows clean m h)
    ∙ only_other rows (λ one. c.if-len-eq1.false (c.len.ensures ∙ c.in_ok-rows.rows.ok.0 ∙ one)))
