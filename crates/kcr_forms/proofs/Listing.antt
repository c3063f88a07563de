-- The values of a list, read one after another.
use Rattle.std.proofs.Common.{◌≡◌, ◌<◌, ◌≤◌, ◌+◌, ℕ, List, [], ◌∷◌, ◌++◌, map, Option, Some, None, option_map, drop, length, get_or, refl}
use Rattle.std.proofs.{Common.append_assoc, Common.ap, Common.Bor, lemmas.List.append-nil, lemmas.List.drop_all, lemmas.List.drop_more}
use Rattle.kcr_forms.specs.Lines.{each_of}

-- the bytes of each text
abbrev pub bytes_of : List (Bor (List ℕ)) → List (List ℕ)
bytes_of codes = map (λ (code : Bor (List ℕ)). code.now) codes

module _ {V : Type 0} where
  -- values, and then those that come
  abbrev pub after_codes : List V → Option (List V) → Option (List V)
  after_codes done None = None
  after_codes done (Some rest) = Some (done ++ rest)

  -- a code behind those that were read
  pub one_more : (done : List V) (code : V) (rest : Option (List V)) → after_codes (done ++ code ∷ []) rest ≡ after_codes done (option_map (λ r. code ∷ r) rest)
  one_more done code None = refl
  one_more done code (Some r) = ap Some (append_assoc done (code ∷ []) r)

  module _ (form : List ℕ → Option V) (codes : List (Bor (List ℕ))) (i : ℕ) where
    -- a text that is of the form
    pub code_taken : (d : Bor (List ℕ)) (done : List V) (code : V) → i < length codes → form (get_or codes i d).now ≡ Some code
        → after_codes (done ++ code ∷ []) (each_of form (bytes_of (drop (i + 1) codes))) ≡ after_codes done (each_of form (bytes_of (drop i codes)))
    code_taken d done code lt h = rw (drop_more codes i d lt, h) (one_more done code (each_of form (bytes_of (drop (i + 1) codes))))

    -- a text that is not
    pub code_missing : (d : Bor (List ℕ)) (done : List V) → i < length codes → form (get_or codes i d).now ≡ None
        → after_codes done (each_of form (bytes_of (drop i codes))) ≡ None
    code_missing d done lt h = rw (drop_more codes i d lt, h) refl

    -- all the texts are read
    pub codes_end : (done : List V) → length codes ≤ i → after_codes done (each_of form (bytes_of (drop i codes))) ≡ Some done
    codes_end done le = rw (drop_all i codes le, append-nil) refl
