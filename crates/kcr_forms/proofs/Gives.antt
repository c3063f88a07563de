-- A source that gives the members of an act gives the act. A source that reads each member by its form gives acts of values.
use Rattle.std.proofs.Common.{◌≡◌, ℕ, List, [], ◌∷◌, ◌++◌, Option, Some, None, option_and_then, Result, Ok, IfSome, IfOk, refl, sym, ap, ◌∙◌}
use Rattle.kcr_base.specs.{Number.IsNumber, declared.refusal.Member.Member, declared.refusal.Refusal.Refusal}
use Rattle.kcr_history.specs.Texts.{MemberValue, Whole, members_of, value_text}
use Rattle.kcr_history.specs.declared.commands.Act.{Act}
use Rattle.kcr_forms.specs.{Acts.IsAct, OrMemory.and_then, Lines.each_of, Lines.lines, Forms.ceremony_of, Forms.number_of, Forms.listed_of}
use Rattle.kcr_forms.specs.Posts.{next, last, act_by, act_of_shape, posted_act}
use Rattle.kcr_forms.specs.{Reading.Reading, Reading.formed, Split.split_at_byte, declared.post.Post.Post}
use Rattle.kcr_forms.specs.Shapes.{Form, Makes, Shape, row, shape}
use Rattle.kcr_forms.specs.Shapes as shapes
use Rattle.kcr_forms.proofs.{Cutting.Lacks, Cutting.cut-again, FormLemmas.listed_new, Readers.no-feed}
use Rattle.kcr_forms.proofs.Formed.{ceremonies, truths, each-again, pieces}
use Rattle.kcr_forms.proofs.Posts.{IsPost, IsRead, EachMade, EachOf, parts-made}
use Rattle.kcr_forms.proofs.Posts.{post_of, IsAgain, Given, AllGiven, told_as, told, made, members_in, made_by, shaped}

-- a source gives these values, one member after the other
abbrev pub Gives : {S : Type 0} → Reading S → (members : List (Member × Form)) → AllGiven members → S → Type 0
Gives r [] given s = Unit {0}
Gives r (m ∷ []) given s = last r m.0 m.1 s ≡ Some given.0.value
Gives r (m ∷ n ∷ ms) given s = (next r m.0 m.1 s ≡ Some given.0.value) × Gives r (n ∷ ms) given.1 (r.rest s)

module _ {S : Type 0} (r : Reading S) where
  members-given : (members : List (Member × Form)) (make : Makes members) (given : AllGiven members) (s : S) → Gives r members given s
      → act_by r members make s ≡ Ok (made members make given)
  members-given [] make given s g = refl
  members-given (m ∷ []) make given s g = ap (λ v. and_then (formed m.0 v) (λ v. Ok (make v))) g
  members-given (m ∷ n ∷ ms) make given s g =
      rw g.0 (members-given (n ∷ ms) (make given.0.value) given.1 (r.rest s) g.1)

  -- such a source gives the act that the values make
  pub act-given : (of : Shape) (given : AllGiven (members_in of)) (s : S) → Gives r (members_in of) given s → act_of_shape r of s ≡ Ok (made_by of given)
  act-given (row members make) given s g = members-given members make given s g

-- a list of codes, each of which is read
pub codes-again : (most : ℕ) (read : List ℕ → Option (List ℕ)) (list : List (List ℕ)) → IsAgain (shapes.Codes most read) list
    → option_and_then (listed_of most (λ texts. texts)) (each_of read list) ≡ Some list
codes-again most read list is =
    rw (each-again (λ code. read code ≡ Some code) read (λ code same. same) list is.1)
    (sym (listed_new most (λ texts. texts) list (Some list) (is.0, refl)))

-- ---- the lines of a text give the values that it tells

-- the text of members: each but the last has a line feed behind it
abbrev pub lines_text : List (Member × MemberValue) → List ℕ
lines_text [] = []
lines_text (m ∷ []) = value_text m.1
lines_text (m ∷ n ∷ ms) = value_text m.1 ++ 10 ∷ lines_text (n ∷ ms)

number-line : (n : ℕ) → IsNumber 9999 n → number_of 9999 (value_text (Whole n)) ≡ Some n
unfolding number_of ceremony_of
number-line n is = ceremonies.again n is

module _ {m : Member × Form} {ms : List (Member × Form)} where
  one-line : (form : Form) (v : Given (m ∷ ms) form) → Lacks 10 (value_text (told_as form v.value))
  one-line (shapes.Text text_of read) v = v.stands
  one-line shapes.Number v = no-feed ceremonies v.value v.again
  one-line shapes.Truth v = no-feed truths v.value tt
  one-line (shapes.Codes most read) v = v.stands.0

  cut : (rest : List ℕ) (form : Form) (v : Given (m ∷ ms) form)
      → split_at_byte 10 (value_text (told_as form v.value) ++ 10 ∷ rest) ≡ Some (value_text (told_as form v.value), rest)
  cut rest form v = cut-again 10 (value_text (told_as form v.value)) rest (one-line form v)

  line-next : (name : Member) (rest : List ℕ) (form : Form) (v : Given (m ∷ ms) form)
      → next lines name form (value_text (told_as form v.value) ++ 10 ∷ rest) ≡ Some v.value
  line-next _ rest (shapes.Text text_of read) v = rw (cut rest (shapes.Text text_of read) v) v.again.0
  line-next _ rest shapes.Number v = rw (cut rest shapes.Number v) (number-line v.value v.again)
  line-next _ rest shapes.Truth v = rw (cut rest shapes.Truth v) (truths.again v.value tt)
  line-next _ rest (shapes.Codes most read) v =
      rw (cut rest (shapes.Codes most read) v, pieces v.value v.again.0.at_least_one v.stands.1) (codes-again most read v.value v.again)

line-last : (name : Member) (form : Form) (v : Given [] form) → last lines name form (value_text (told_as form v.value)) ≡ Some v.value
line-last _ (shapes.Text text_of read) v = v.again.0
line-last _ form v = absurd v.stands

lines-give : (members : List (Member × Form)) (given : AllGiven members) → Gives lines members given (lines_text (told members given))
lines-give [] given = tt
lines-give (m ∷ []) given = line-last m.0 m.1 given.0
lines-give (m ∷ n ∷ ms) given =
    let rest = lines_text (told (n ∷ ms) given.1) in
    (line-next m.0 rest m.1 given.0, rw (cut rest m.1 given.0) (lines-give (n ∷ ms) given.1))

-- the lines of an act give the act
pub lines-told : (does : Act) → IsAct does → posted_act lines (post_of does) (lines_text (members_of does)) ≡ Ok does
lines-told does is =
    let has = shaped does is in
    let of = shape (post_of does) in
    rw has.2 (act-given lines of has.0 (lines_text (told (members_in of) has.0)) (lines-give (members_in of) has.0) ∙ ap Ok has.1)

-- ---- a source that reads each member by its form

-- what is read of a member is known, and so is what is made of it
formed-then : {A B : Type 0} (m : Member) (P : A → Type 0) (Q : B → Type 0) (go : A → Result B Refusal) → ((a : A) → P a → IfOk (go a) Q)
    → (o : Option A) → IfSome o P → IfOk (and_then (formed m o) go) Q
formed-then m P Q go is None h = tt
formed-then m P Q go is (Some a) h = is a h

module _ {S : Type 0} (r : Reading S) (nexts : (m : Member) (form : Form) (s : S) → IfSome (next r m form s) (IsRead form))
    (lasts : (m : Member) (form : Form) (s : S) → IfSome (last r m form s) (IsRead form)) where
  act-made : (members : List (Member × Form)) (make : Makes members) → EachMade members make → (s : S) → IfOk (act_by r members make s) IsAct
  act-made [] make each s = each
  act-made (m ∷ []) make each s = formed-then m.0 (IsRead m.1) IsAct (λ v. Ok (make v)) each (last r m.0 m.1 s) (lasts m.0 m.1 s)
  act-made (m ∷ n ∷ ms) make each s =
      formed-then m.0 (IsRead m.1) IsAct (λ v. act_by r (n ∷ ms) (make v) (r.rest s)) (λ v is. act-made (n ∷ ms) (make v) (each v is) (r.rest s))
      (next r m.0 m.1 s) (nexts m.0 m.1 s)

  of-shape : (s : Shape) → EachOf s → (from : S) → IfOk (act_of_shape r s from) IsAct
  of-shape (row members make) each from = act-made members make each from

  -- an act that is posted to a path of values is of values
  pub posted-values : (p : Post) → IsPost p → (s : S) → IfOk (posted_act r p s) IsAct
  posted-values p is s = of-shape (shape p) (parts-made p is) s
