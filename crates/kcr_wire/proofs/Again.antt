-- An act is read again from its text.
use Rattle.kcr_wire.proofs.Common.{◌≡◌, ◌≤◌, ℕ, List, [], ◌∷◌, ◌++◌, length, Option, Some, None, IfSome, true, true≢false, refl, sym, ap, ◌∙◌}
use Rattle.kcr_wire.proofs.Common.{append_assoc, arith, fold, cond_some, option_and_then_some, same_text, Member, same-itself, Act, MemberValue}
use Rattle.kcr_wire.proofs.Common.{path_text, members_of, value_text, with_line, command_text, IsAct, Form, shape, cut-again, lines_text, lines-told}
use Rattle.kcr_wire.proofs.Common.{post_of, AllGiven, told, members_in, is_shape, shaped, if_told}
use Rattle.std.specs.{Cmp.Lexicographic.same_text as equal_texts, Result.result_ok}
use Rattle.kcr_wire.specs.ActTexts.{act_told, act_of}
use Rattle.kcr_wire.proofs.{Paths.path-feed, Targets.act-path, Targets.act-target}

some-told : (members : List (Member × Form)) (given : AllGiven members) → is_shape members ≡ true → 1 ≤ length (told members given)
some-told [] given e = absurd (true≢false (sym e))
some-told (m ∷ ms) given e = omega arith

some-member : (does : Act) → IsAct does → 1 ≤ length (members_of does)
some-member does is =
    let has = shaped does is in
    rw has.2 (some-told (members_in (shape (post_of does))) has.0 has.3)

in-lines : (ms : List (Member × MemberValue)) (path : List ℕ) → 1 ≤ length ms → fold with_line path ms ≡ path ++ 10 ∷ lines_text ms
in-lines [] path some = absurd (omega (arith, some))
in-lines (m ∷ []) path some = refl
in-lines (m ∷ n ∷ ms) path some = in-lines (n ∷ ms) (path ++ 10 ∷ value_text m.1) (omega arith) ∙ simp append_assoc

told-again : (does : Act) → IsAct does → act_told (command_text does) ≡ Some does
unfolding act_told
told-again does is =
    let path = path_text does in
    let values = lines_text (members_of does) in
    let feed = path-feed path (act-path does is).bytes in
    rw (in-lines (members_of does) path (some-member does is), cut-again 10 path values feed, act-target does is) (ap result_ok (lines-told does is))

-- the text of an act is read as this act
pub act-again : (does : Act) → IsAct does → act_of (command_text does) ≡ Some does
unfolding act_of
act-again does is = rw (told-again does is, same-itself (command_text does)) refl

-- an act that is read from a text has this text
pub found-is : (text : List ℕ) (found : Option Act) → found ≡ act_of text → IfSome found (λ does. command_text does ≡ text)
unfolding act_of
found-is text None e = tt
found-is text (Some does) e = option_and_then_some (λ a. if_told a text) (act_told text) does (sym e) (λ a told h.
    let both = cond_some (same_text (command_text a) text) a does h in ap command_text (sym both.1) ∙ equal_texts (command_text a) text (sym both.0))

-- acts with one text are one act
pub texts-tell : (a b : Act) → IsAct a → IsAct b → command_text a ≡ command_text b → a ≡ b
texts-tell a b is_a is_b e =
    let same : Some a ≡ Some b = sym (act-again a is_a) ∙ ap act_of e ∙ act-again b is_b in
    cc
