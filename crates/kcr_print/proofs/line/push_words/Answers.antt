use Rattle.kcr_print.proofs.Common.{◌++◌, List, ℕ, [], map, take, get_or, sym, ap, ◌∙◌, append_assoc, rules, Bor, words}
use Rattle.kcr_print.proofs.LineLemmas.{separator, words_more, separator_more}
use Rattle.kcr_print.proofs.line.push_words.Goals as goal

pub loop-word-preserved : goal.loop-word-preserved
loop-word-preserved c =
    let so_far = c.loop-word.invariant in
    let below = c.loop-word-test.true in
    let out = c.args.out.now.items in
    let said = words (map (λ (w : Bor (List ℕ)). w.now) (take c.loop-word.word-index c.args.words.now)) in
    let blank = separator (take c.loop-word.word-index c.args.words.now) in
    let nothing : Bor (List ℕ) = record { ref_ptr = (0, 0); now = [] } in
    let word = get_or c.args.words.now c.loop-word.word-index nothing in
    let more = words_more (λ (w : Bor (List ℕ)). w.now) c.args.words.now c.loop-word.word-index nothing below in
    record {
      text =
          rw (c.in_ok-extend_from_slice-2.ensures.items, c.as_bytes-in-loop-word.ensures.value, c.in_ok-extend_from_slice.ensures.items)
          (rw (c.as_bytes.ensures.value, so_far.text, so_far.blank)
          (append_assoc (out ++ said) blank word.now ∙ append_assoc out said (blank ++ word.now) ∙ ap (λ t. out ++ t) (sym more)));
      blank = sym (separator_more _ _ below);
      utf8 = search rules;
    }
