use Rattle.kcr_print.proofs.Common.{List, ℕ, ap, flat_map, row_journal}
use Rattle.kcr_print.proofs.PartLemmas.{puts_text}
use Rattle.kcr_print.proofs.parts.print_journal.Goals as goal

pub returns : goal.returns
returns g c =
    puts_text (row_journal c.args.asked) c.write_rows.ensures.prints
    (λ _ m _. ap (flat_map (λ (line : List ℕ). line)) (c.new-lines.ensures m))
