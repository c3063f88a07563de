use Rattle.kcr_tool.proofs.{Common.refl, Common.file_state, Common.founded_in, Copies.never_in_doubt}
use Rattle.kcr_tool.proofs.verify.rows_of.Goals as goal

pub returns-in-Ok-read_tables-clause-own : goal.returns-in-Ok-read_tables-clause-own
returns-in-Ok-read_tables-clause-own c A held =
    let before = never_in_doubt (λ _. refl) c.in-Ok.connection in
    let after = never_in_doubt (λ _. refl) c.read_tables.new.conn in
    let opened = c.in-Ok.ensures.opened before in
    c.in-Ok-read_tables.ensures.own after A (λ clean live. founded_in A _ (file_state c.in-Ok.connection) held (c.in-Ok.ensures.found before) opened.0 opened.1)
