use Rattle.kcr_print.proofs.Common.{ℕ, List, ap, ◌∙◌, subst, take, Appends, flat_map, take-map, flat_map-map, inner_of, commands_within, row_request}
use Rattle.kcr_print.proofs.{Common.row_requests, PartLemmas.puts_text}
use Rattle.kcr_print.proofs.parts.print_requests.Goals as goal

pub returns-clause-prints : goal.returns-clause-prints
returns-clause-prints g c =
    puts_text (row_requests c.args.after c.args.until) c.write_rows.ensures.prints
    (λ _ m _. ap (flat_map (λ (text : List ℕ). text)) (c.new-requests.ensures m)
    ∙ flat_map-map (λ (text : List ℕ). text) row_request (commands_within c.args.after c.args.until m))

pub returns-clause-whole : goal.returns-clause-whole
returns-clause-whole g c clean m has refusal is =
    let rows = commands_within c.args.after c.args.until m in
    let front = c.write_rows.ensures.whole clean m has refusal is in
    let same = ap (λ texts. flat_map (λ (text : List ℕ). text) (take front.0 texts)) (c.new-requests.ensures m)
    ∙ ap (flat_map (λ (text : List ℕ). text)) (take-map row_request front.0 rows)
    ∙ flat_map-map (λ (text : List ℕ). text) row_request (take front.0 rows) in (
      front.0,
      subst (λ text. Appends (g.W.Write.contents (inner_of c.args.writer.now)) (g.W.Write.contents (inner_of c.write_rows.new.writer)) text) same front.1,
    )
