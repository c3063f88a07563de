use Rattle.kcr_verify.proofs.Common.{◌≢◌, ◌==◌, [], length, true≢false, refl, sym, ap, ◌∙◌, eqb-true, nil_from_length, seat_request_by, fill_by}
use Rattle.std.specs.Cmp.Lexicographic.{bytes_decides}
use Rattle.std.proofs.lemmas.Slice.Eq.{slice_eq-Decides}
use Rattle.kcr_journal.specs.Replies.{seated_in}
use Rattle.kcr_verify.proofs.SeatedLemmas.{act_filled}
use Rattle.kcr_verify.proofs.seated.seating_told.Goals as goal

-- nobody is named
pub returns-then-is_empty-clause-told : goal.returns-then-is_empty-clause-told
returns-then-is_empty-clause-told g c clean A at =
    let named = c.in_ok-people.ensures ∙ ap seated_in c.as_bytes.ensures in
    let none = nil_from_length _ (sym c.in_ok-people.people.ok.0 ∙ eqb-true _ 0 (sym c.is_empty.ensures ∙ c.if-is_empty.true)) in
    record { nobody = λ _. refl; same = λ _. refl; others = λ some _. absurd (some (sym named ∙ none)) }

-- those of the expected reply
pub returns-then-eq-clause-told : goal.returns-then-eq-clause-told
returns-then-eq-clause-told g c clean A at =
    let named = c.in_ok-people.ensures ∙ ap seated_in c.as_bytes.ensures in
    let wanted = c.in_ok-others.ensures ∙ ap seated_in c.as_bytes-2.ensures in
    let same = (slice_eq-Decides bytes_decides c.in_ok-people.people.items c.in_ok-others.others.items c.eq.result c.eq.ensures).0 c.if-eq.true in
    record { nobody = λ _. refl; same = λ _. refl; others = λ _ other. absurd (other (sym named ∙ same ∙ wanted)) }

-- others
pub returns-clause-told : goal.returns-clause-told
returns-clause-told g c clean A at =
    let shown = c.in_ok-view.ensures.shown clean A at in
    let named = c.in_ok-people.ensures ∙ ap seated_in c.as_bytes.ensures in
    let wanted = c.in_ok-others.ensures ∙ ap seated_in c.as_bytes-2.ensures in
    let some : c.in_ok-people.people.items ≢ [] =
    λ none. true≢false (sym (ap (λ n. n == 0) (c.in_ok-people.people.ok.0 ∙ ap length none)) ∙ sym c.is_empty.ensures ∙ c.if-is_empty.false) in
    let other : c.in_ok-people.people.items ≢ c.in_ok-others.others.items =
    λ same. true≢false (sym ((slice_eq-Decides bytes_decides c.in_ok-people.people.items c.in_ok-others.others.items c.eq.result c.eq.ensures).1 same) ∙ c.if-eq.false) in
    record {
      nobody = λ none. absurd (some (named ∙ none));
      same = λ same. absurd (other (named ∙ same ∙ sym wanted));
      others = λ _ _.
          c.fill_act.ensures
          ∙ ap (fill_by c.in_ok-view.view (seat_request_by c.in_ok-view.view.view c.args.act.now)) (c.deref.ensures.value ∙ named)
          ∙ act_filled A shown.0 c.in_ok-view.view shown.1.same c.args.act.now (seated_in c.args.found.now);
    }
