-- A body's members are read as the act, and the key as the key.
use Rattle.kcr_wire.proofs.Common.{◌≡◌, ℕ, not, true, false, List, [], ◌∷◌, map, codes, Option, Some, Ok, refl, sym, ap, subst, ◌∙◌, arith, and_parts}
use Rattle.kcr_wire.proofs.Common.{or_parts, not-true, Data, string, object, Members, no_members, member, put, get, get_member, items_of, IsKey}
use Rattle.kcr_wire.proofs.Common.{is_among, are_apart, member_text, same_text, Member, key-read, same-itself, Command, Act, Word, members_of, IsAct}
use Rattle.kcr_wire.proofs.Common.{next, last, posted_act, Form, Text, Number, Truth, Codes, shape, Gives, act-given, codes-again, post_of, Given}
use Rattle.kcr_wire.proofs.Common.{AllGiven, told_as, told, members_in, names_of, shape-parts, shaped, key_at, posted_command, body, json_members}
use Rattle.serde_json.proofs.Views.{get_member-put, get_member-put_other}
use Rattle.kcr_base.specs.declared.refusal.Member.TheVariants as name
use Rattle.kcr_forms.specs.{Lines.each_of, Reading.formed}
use Rattle.kcr_forms.proofs.FormLemmas.{number-new}
use Rattle.kcr_wire.specs.{Members.json_of as json_in, Members.each_in, Bodies.json_of, Bodies.body_text}
use Rattle.kcr_wire.proofs.{Json.json-some, Bytes.word-utf8}
use Rattle.kcr_wire.proofs.Sent.{IsSent, AreSent, kept, object-read, object-utf8}

-- ---- a member of an object is found by its name

-- a name that no member has is looked for in what was there
stays : (k : List ℕ) (members : List (Member × Form)) (given : AllGiven members) (found : Members) → is_among (names_of members) k ≡ false
    → get_member k (kept (json_members (told members given)) found) ≡ get_member k found
stays k [] given found apart = refl
stays k (m ∷ ms) given found apart =
    let parts = or_parts (same_text k (member_text m.0)) (is_among (names_of ms) k) apart in
    let value = json_of (told_as m.1 given.0.value) in
    stays k ms given.1 (put (member_text m.0) value found) parts.1
    ∙ get_member-put_other k (member_text m.0) value found (λ e. let same = same-itself k in cc)

-- ---- the body gives the values that it tells

each-in : (read : List ℕ → Option (List ℕ)) (list : List (List ℕ)) → each_in read (items_of (map string list)) ≡ each_of read list
unfolding each_in
each-in read [] = refl
each-in read (text ∷ list) = rw (each-in read list) refl

module _ {rest : List (Member × Form)} where
  body-next : (m : Member) (form : Form) (v : Given rest form) (d : Data) → get (member_text m) d ≡ Some (json_of (told_as form v.value))
      → next body m form d ≡ Some v.value
  body-next m (Text text_of read) v d e = rw e v.again.0
  body-next m Number v d e = rw e (sym (number-new 9999 v.value (Some v.value) (v.again, refl)))
  body-next m Truth v d e = rw e refl
  body-next m (Codes most read) v d e = rw (e, each-in read v.value) (codes-again most read v.value v.again)

  -- it can be sent
  value-sent : (form : Form) (v : Given rest form) → IsSent (told_as form v.value)
  value-sent (Text text_of read) v = v.again.1
  value-sent Number v = omega (arith, v.again.until)
  value-sent Truth v = tt
  value-sent (Codes most read) v = v.again.2

body-last : (m : Member) (form : Form) (v : Given [] form) (d : Data) → get (member_text m) d ≡ Some (json_of (told_as form v.value))
    → last body m form d ≡ Some v.value
body-last m (Text text_of read) v d e = body-next m (Text text_of read) v d e
body-last m form v d e = absurd v.stands

body-gives : (members : List (Member × Form)) (given : AllGiven members) (found : Members) → are_apart (names_of members) ≡ true
    → Gives body members given (object (kept (json_members (told members given)) found))
body-gives [] given found apart = tt
body-gives (m ∷ []) given found apart = body-last m.0 m.1 given.0 _ (get_member-put (member_text m.0) (json_of (told_as m.1 given.0.value)) found)
body-gives (m ∷ n ∷ ms) given found apart =
    let value = json_of (told_as m.1 given.0.value) in
    let parts = and_parts (not (is_among (names_of (n ∷ ms)) (member_text m.0))) (are_apart (names_of (n ∷ ms))) apart in
    let other = not-true (is_among (names_of (n ∷ ms)) (member_text m.0)) parts.0 in (
      body-next m.0 m.1 given.0 _
          (stays (member_text m.0) (n ∷ ms) given.1 (put (member_text m.0) value found) other ∙ get_member-put (member_text m.0) value found),
      body-gives (n ∷ ms) given.1 (put (member_text m.0) value found) parts.1,
    )

all-sent : (members : List (Member × Form)) (given : AllGiven members) → AreSent (told members given)
all-sent [] given = tt
all-sent (m ∷ ms) given = (value-sent m.1 given.0, all-sent ms given.1)

-- ---- a command's body

-- the members as a reader keeps them
abbrev pub data_of : List ℕ → Act → Data
data_of key act = object (kept (member (codes "key") (string key) (json_members (members_of act))) no_members)

-- the members of a command are read as the command
pub command-again : (key : List ℕ) (act : Act) → IsKey key → IsAct act → posted_command (post_of act) (data_of key act) ≡ Ok (record { key = key; act = act })
command-again key act is_key is =
    let has = shaped act is in
    let members = members_in (shape (post_of act)) in
    let found = member (codes "key") (string key) no_members in
    let d = object (kept (json_members (told members has.0)) found) in
    let parts = shape-parts members has.3 in
    let key-again : key_at d ≡ Ok key =
    rw (stays (codes "key") members has.0 found parts.0) (ap (formed name.Key) (sym (key-read (Some key) key (is_key, refl)))) in
    let again : posted_act body (post_of act) d ≡ Ok act = act-given body (shape (post_of act)) has.0 d (body-gives members has.0 found parts.1) ∙ ap Ok has.1 in
    rw (has.2, key-again, again) refl

-- the body is read as those members
pub body-read : (c : Command) → IsKey c.key → IsAct c.act → json_in (body_text c) ≡ Some (data_of c.key c.act)
unfolding body_text
body-read c is_key is =
    let has = shaped c.act is in
    let ms = (name.Key, Word c.key) ∷ members_of c.act in
    let sent : AreSent ms = (word-utf8 c.key is_key.each, subst AreSent (sym has.2) (all-sent (members_in (shape (post_of c.act))) has.0)) in
    json-some (body_text c) (data_of c.key c.act) (object-utf8 ms sent, object-read ms sent)
