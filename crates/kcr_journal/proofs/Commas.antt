-- Texts with a comma and a blank between each two, one text after the other.
use denote.Shadow.{shadow}
use denote.Text.{Utf8}
use Rattle.std.proofs.Common.{◌≡◌, ℕ, ◌+◌, ◌<◌, List, [], ◌∷◌, ◌++◌, map, take, length, get_or, codes, refl, sym, ap, ◌∙◌, append_assoc, append-nil, add-one, arith}
use Rattle.std.specs.List.{flat_map}
use Rattle.std.proofs.lemmas.List.{take_more, map-append, Concat.flat_map-append}
use Rattle.kcr_people.specs.declared.Person.{Person}
use Rattle.kcr_journal.specs.Sentences.{comma_list, person_text, people_text}

-- what stands between a list and the next text: a comma and a blank if the list is not empty
abbrev pub separator : {X : Type 0} → List X → List ℕ
separator [] = []
separator (x ∷ xs) = codes ", "

abbrev behind_comma : List ℕ → List ℕ
behind_comma text = codes ", " ++ text

joined-append : (xs : List (List ℕ)) (x : List ℕ) → comma_list (xs ++ x ∷ []) ≡ comma_list xs ++ (separator xs ++ x)
joined-append [] x = append-nil x
joined-append (y ∷ ys) x =
    ap (λ t. y ++ t) (flat_map-append behind_comma ys (x ∷ []) ∙ ap (λ t. flat_map behind_comma ys ++ t) (append-nil (behind_comma x)))
    ∙ sym (append_assoc y (flat_map behind_comma ys) (behind_comma x))

separator-map : {X : Type 0} (f : X → List ℕ) (xs : List X) → separator (map f xs) ≡ separator xs
separator-map f [] = refl
separator-map f (x ∷ xs) = refl

-- a list with its next element has a comma behind it
pub separator_more : {X : Type 0} (xs : List X) (i : ℕ) → i < length xs → separator (take (i + 1) xs) ≡ codes ", "
separator_more [] i h = absurd (omega arith)
separator_more (x ∷ xs) i h = rw add-one

-- the next text stands behind those before it, and a comma if there are any
pub joined_more : (xs : List (List ℕ)) (i : ℕ) (x : List ℕ) → i < length xs → x ≡ get_or xs i x
    → comma_list (take (i + 1) xs) ≡ (comma_list (take i xs) ++ separator (take i xs)) ++ x
joined_more xs i x h e =
    ap comma_list (take_more xs i x h ∙ ap (λ y. take i xs ++ y ∷ []) (sym e)) ∙ joined-append (take i xs) x
    ∙ sym (append_assoc (comma_list (take i xs)) (separator (take i xs)) x)

-- so it is with people
pub people_more : (people : List Person) (i : ℕ) (person : Person) → i < length people → person ≡ get_or people i person
    → people_text (take (i + 1) people)
    ≡ ((((people_text (take i people) ++ separator (take i people)) ++ person.name) ++ codes " (") ++ person.who) ++ codes ")"
people_more people i person h e =
    ap people_text (take_more people i person h ∙ ap (λ p. take i people ++ p ∷ []) (sym e))
    ∙ ap comma_list (map-append person_text (take i people) (person ∷ []))
    ∙ joined-append (map person_text (take i people)) (person_text person)
    ∙ ap (λ s. people_text (take i people) ++ (s ++ person_text person)) (separator-map person_text (take i people))
    ∙ regroup (people_text (take i people)) (separator (take i people)) person.name person.who
  where
    regroup : (front comma name who : List ℕ) → front ++ (comma ++ (((name ++ codes " (") ++ who) ++ codes ")"))
        ≡ ((((front ++ comma) ++ name) ++ codes " (") ++ who) ++ codes ")"
    regroup front comma name who = simp append_assoc

-- a loop over a list so far: its text, and what stands before the next element
pub record IsJoined {X : Type 0} (told said before : List ℕ) (xs : List X) : Type 0 where
  pub text : told ≡ said
  pub comma : before ≡ separator xs
  pub utf8 : shadow (Utf8 before)
