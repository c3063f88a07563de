use Rattle.std.proofs.Common.{◌≡◌, ◌+◌, ◌<◌, ℕ, List, [], ◌++◌, map, take, length, get_or, Option, None, Bor, ap, sym, ◌∙◌, append-nil}
use Rattle.std.specs.List.{filter_map, cons_option}
use Rattle.std.proofs.lemmas.List.{map_more, Elements.filter_map-append}
use Rattle.kcr_forms.specs.Forms.{initials_of}
use Rattle.kcr_journal.proofs.reply.initials_among.Goals as goal
use Rattle.kcr_journal.proofs.reply.initials_among.Goals.{in-Some+in_ok-push, in_default}

-- the initials among the first texts
abbrev among : List (Bor (List ℕ)) → ℕ → List (List ℕ)
among texts i = filter_map initials_of (map (λ (text : Bor (List ℕ)). text.now) (take i texts))

-- the initials that the next text is come after those of the texts before it
next : (texts : List (Bor (List ℕ))) (i : ℕ) (d : Bor (List ℕ)) (o : Option (List ℕ)) → i < length texts → o ≡ initials_of (get_or texts i d).now
    → among texts i ++ cons_option o [] ≡ among texts (i + 1)
next texts i d o low is =
    ap (λ o. among texts i ++ cons_option o []) is
    ∙ sym (ap (filter_map initials_of) (map_more (λ (text : Bor (List ℕ)). text.now) texts i d low) ∙ filter_map-append initials_of _ _)

pub loop-text-preserved : goal.loop-text-preserved
loop-text-preserved c =
    let below = c.loop-text-test.true in
    elim c.match-read_initials.branch [
      | in-Some+in_ok-push w ↦ rw (w.people-is, w.in_ok-push.ensures.items, c.loop-text.invariant) (next _ _ _ _ below w.in-Some.ensures)
      | in_default w ↦ rw w.people-is (c.loop-text.invariant ∙ sym (append-nil _) ∙ next _ _ _ None below w.in_default.ensures)
    ]
