-- The path of each act, and its members as values of the path's shape.
use Rattle.std.proofs.Common.{arith, ◌≡◌, ℕ, Bool, true, false, List, [], ◌∷◌, map, codes, Option, Some, All, IfSome, true≢false, refl, sym, subst}
use Rattle.std.specs.Bool.{⊤}
use Rattle.std.specs.Str.{IsUtf8}
use Rattle.std.proofs.lemmas.List.Elements.{All-weaker}
use Rattle.kcr_base.specs.{Initials.IsInitials, Serial.IsSerial, Lists.IsListed, Lists.is_among, Lists.are_apart}
use Rattle.kcr_base.specs.{Number.IsNumber, Place.IsPlace, Refusal.member_text}
use Rattle.kcr_base.specs.declared.{limits.TheConstants.MAX_CEREMONY, limits.TheConstants.MAX_STEPS, refusal.Member.Member}
use Rattle.kcr_history.specs.Texts.{MemberValue, Word, Whole, Truth, Several, listed, members_of}
use Rattle.kcr_history.specs.declared.commands.Act.{Act}
use Rattle.kcr_history.specs.declared.commands.Act.TheVariants as act
use Rattle.kcr_history.specs.declared.commands.Deed.TheVariants as deed
use Rattle.kcr_forms.specs.{Acts.IsAct, Forms.script_of, declared.post.PlacePath.TheVariants.Replacement, declared.post.PlacePath.TheVariants.Release}
use Rattle.kcr_forms.specs.Shapes.{Form, ValueOf, Makes, Shape, row, shape}
use Rattle.kcr_forms.specs.Shapes as shapes
use Rattle.kcr_forms.specs.declared.post.{Post.Post, PersonPath.TheVariants.Roles, PersonPath.TheVariants.Withdrawals}
use Rattle.kcr_forms.specs.declared.post.Post.TheVariants as post
use Rattle.kcr_forms.specs.declared.post.CollectionPath.TheVariants.{People, Custodians, Boxes, Items, Ceremonies}
use Rattle.kcr_forms.specs.declared.post.CeremonyPath.TheVariants.{Opening, Closing, Sheet, Exceptions}
use Rattle.kcr_forms.specs.declared.post.BagPath.TheVariants.{Seal, Take, Put, Cut}
use Rattle.kcr_forms.proofs.{Cutting.Lacks, Readers.Value, Readers.no-feed, Formed.codes-feed, Formed.initials-lack, Formed.items-lack}
use Rattle.kcr_forms.proofs.Formed.{days, moments, roles, facilities, ways, places-read, initials, serials, lines-read, scripts, script-found, destinations}

-- the path to which an act's command is posted
abbrev pub post_of : Act → Post
post_of (act.Enter who name) = post.Collection People
post_of (act.Train who role since until) = post.Person who Roles
post_of (act.Withdraw who role day) = post.Person who Withdrawals
post_of (act.Appoint place who day) = post.Collection Custodians
post_of (act.Replace place who day) = post.Place place Replacement
post_of (act.Release place day) = post.Place place Release
post_of (act.AddBox facility number place) = post.Collection Boxes
post_of (act.Ceremony ceremony at (deed.AddItem item)) = post.Collection Items
post_of (act.Plan number facility day script) = post.Collection Ceremonies
post_of (act.Ceremony ceremony at deed.Open) = post.Ceremony ceremony Opening
post_of (act.Ceremony ceremony at deed.Close) = post.Ceremony ceremony Closing
post_of (act.Ceremony ceremony at (deed.RecordSheet way who)) = post.Ceremony ceremony Sheet
post_of (act.Ceremony ceremony at (deed.Sign step)) = post.Signature ceremony step
post_of (act.Ceremony ceremony at (deed.RecordException text pass)) = post.Ceremony ceremony Exceptions
post_of (act.Ceremony ceremony at (deed.SetSafe safe is_open by)) = post.Safe ceremony safe
post_of (act.Ceremony ceremony at (deed.Seal serial items)) = post.Bag ceremony serial Seal
post_of (act.Ceremony ceremony at (deed.Take serial)) = post.Bag ceremony serial Take
post_of (act.Ceremony ceremony at (deed.Put serial to)) = post.Bag ceremony serial Put
post_of (act.Ceremony ceremony at (deed.Cut serial)) = post.Bag ceremony serial Cut

-- ---- values of members

-- what is told of a value
abbrev pub told_as : (form : Form) → ValueOf form → MemberValue
told_as (shapes.Text text_of read) v = Word (text_of v)
told_as shapes.Number n = Whole n
told_as shapes.Truth b = Truth b
told_as (shapes.Codes most read) codes = Several codes

-- the value is read again, and its text is UTF-8
abbrev pub IsAgain : (form : Form) → ValueOf form → Type 0
IsAgain (shapes.Text text_of read) v = (read (text_of v) ≡ Some v) × IsUtf8 (text_of v)
IsAgain shapes.Number n = IsNumber 9999 n
IsAgain shapes.Truth b = Unit {0}
IsAgain (shapes.Codes most read) codes = IsListed most codes × All (λ code. read code ≡ Some code) codes × All IsUtf8 codes

-- the last value is a text; any other stands on a line, and its parts are found again
abbrev pub Stands : List (Member × Form) → (form : Form) → ValueOf form → Type 0
Stands [] (shapes.Text text_of read) v = Unit {0}
Stands [] form v = ⊥
Stands (m ∷ ms) (shapes.Text text_of read) v = Lacks 10 (text_of v)
Stands (m ∷ ms) (shapes.Codes most read) codes = Lacks 10 (listed codes) × All (λ code. Lacks 44 code) codes
Stands (m ∷ ms) form v = Unit {0}

-- a value of this form, with these members behind it
pub record Given (rest : List (Member × Form)) (form : Form) : Type 0 where
  pub value : ValueOf form
  pub again : IsAgain form value
  pub stands : Stands rest form value

abbrev pub AllGiven : List (Member × Form) → Type 0
AllGiven [] = Unit {0}
AllGiven (m ∷ ms) = Given ms m.1 × AllGiven ms

-- what is told of them
abbrev pub told : (members : List (Member × Form)) → AllGiven members → List (Member × MemberValue)
told [] given = []
told (m ∷ ms) given = (m.0, told_as m.1 given.0.value) ∷ told ms given.1

-- the act that they make
abbrev pub made : (members : List (Member × Form)) → Makes members → AllGiven members → Act
made [] make given = make
made (m ∷ ms) make given = made ms (make given.0.value) given.1

abbrev pub members_in : Shape → List (Member × Form)
members_in (row members make) = members

abbrev pub made_by : (s : Shape) → AllGiven (members_in s) → Act
made_by (row members make) given = made members make given

abbrev pub names_of : List (Member × Form) → List (List ℕ)
names_of members = map (λ (m : Member × Form). member_text m.0) members

-- a shape has a member, and each once, none of them the key
abbrev pub is_shape : List (Member × Form) → Bool
is_shape [] = false
is_shape (m ∷ ms) = are_apart (codes "key" ∷ names_of (m ∷ ms))

-- so the key is not among its names, and these are apart
pub shape-parts : (members : List (Member × Form)) → is_shape members ≡ true
    → (is_among (names_of members) (codes "key") ≡ false) × (are_apart (names_of members) ≡ true)
shape-parts [] e = absurd (true≢false (sym e))
shape-parts (m ∷ ms) e = grind (arith, e)

-- ---- values of their forms

module _ {V : Type 0} {IsValue : V → Type 0} {text_of : V → List ℕ} {read : List ℕ → Option V} (reader : Value IsValue text_of read) (v : V) (is : IsValue v) where
  abbrev pub last : Given [] (shapes.Text text_of read)
  last = record { value = v; again = (reader.again v is, reader.utf8 v is); stands = tt }

  abbrev pub next : {m : Member × Form} {rest : List (Member × Form)} → Given (m ∷ rest) (shapes.Text text_of read)
  next = record { value = v; again = (reader.again v is, reader.utf8 v is); stands = no-feed reader v is }

abbrev pub next_number : {m : Member × Form} {rest : List (Member × Form)} (n : ℕ) → IsNumber 9999 n → Given (m ∷ rest) shapes.Number
next_number n is = record { value = n; again = is; stands = tt }

abbrev pub truth : {m : Member × Form} {rest : List (Member × Form)} → Bool → Given (m ∷ rest) shapes.Truth
truth b = record { value = b; again = tt; stands = tt }

abbrev pub several : {m : Member × Form} {rest : List (Member × Form)} {IsCode : List ℕ → Type 0} {read : List ℕ → Option (List ℕ)}
    → Value IsCode (λ code. code) read → ((code : List ℕ) → IsCode code → Lacks 44 code)
    → (most : ℕ) (list : List (List ℕ)) → IsListed most list → All IsCode list → Given (m ∷ rest) (shapes.Codes most read)
several {IsCode = IsCode} {read = read} reader lack most list is each = record {
  value = list;
  again = (is, All-weaker IsCode (λ code. read code ≡ Some code) reader.again list each, All-weaker IsCode IsUtf8 reader.utf8 list each);
  stands = (codes-feed IsCode reader.printing list each, All-weaker IsCode (λ code. Lacks 44 code) lack list each);
}

-- ---- each act

-- the act's members are values of this shape
abbrev HasShape : Act → Shape → Type 0
HasShape does s =
    (given : AllGiven (members_in s)) × (made_by s given ≡ does) × (members_of does ≡ told (members_in s) given) × (is_shape (members_in s) ≡ true)

-- they are values of the shape of its path
pub shaped : (does : Act) → IsAct does → HasShape does (shape (post_of does))
shaped (act.Enter who name) is = ((next initials who is.0, (last (lines-read 120) name is.1, tt)), refl, refl, refl)
shaped (act.Train who role since until) is = ((next roles role tt, (next days since is.1, (last days until is.2, tt))), refl, refl, refl)
shaped (act.Withdraw who role day) is = ((next roles role tt, (last days day is.1, tt)), refl, refl, refl)
shaped (act.Appoint place who day) is = ((next places-read place is.0, (next initials who is.1, (last days day is.2, tt))), refl, refl, refl)
shaped (act.Replace place who day) is = ((next initials who is.1, (last days day is.2, tt)), refl, refl, refl)
shaped (act.Release place day) is = ((last days day is.1, tt), refl, refl, refl)
shaped (act.AddBox facility box place) is = ((next facilities facility tt, (next_number box is.0, (last places-read place is.1, tt))), refl, refl, refl)
shaped (act.Ceremony ceremony at (deed.AddItem item)) is = ((next_number ceremony is.0, (next serials item is.1, (last moments at is.2, tt))), refl, refl, refl)
shaped (act.Plan ceremony facility day script) is =
    ((next_number ceremony is.0, (next facilities facility tt, (next days day is.1, (record { value = script; again = (scripts script is.2, is.2); stands = tt }, tt)))), refl, refl, refl)
shaped (act.Ceremony ceremony at (deed.RecordSheet way who)) is =
    ((next ways way tt, (several initials initials-lack 32 who is.1.listed is.1.each, (last moments at is.2, tt))), refl, refl, refl)
shaped (act.Ceremony ceremony at (deed.RecordException text pass)) is =
    ((next (lines-read 1000) text is.1, (truth pass, (last moments at is.2, tt))), refl, refl, refl)
shaped (act.Ceremony ceremony at (deed.SetSafe safe state person)) is = ((truth state, (next initials person is.1, (last moments at is.2, tt))), refl, refl, refl)
shaped (act.Ceremony ceremony at (deed.Seal serial items)) is = ((several serials items-lack 64 items is.1.1.listed is.1.1.each, (last moments at is.2, tt)), refl, refl, refl)
shaped (act.Ceremony ceremony at (deed.Put serial to)) is = ((next destinations to is.1.1, (last moments at is.2, tt)), refl, refl, refl)
shaped (act.Ceremony ceremony at deed) is = ((last moments at is.2, tt), refl, refl, refl)

-- ---- what is read

-- the parts of a path are values of their types
abbrev pub IsPost : Post → Type 0
IsPost (post.Collection path) = ⊤
IsPost (post.Person who path) = IsInitials who
IsPost (post.Place place path) = IsPlace place
IsPost (post.Ceremony n path) = IsNumber MAX_CEREMONY n
IsPost (post.Signature n step) = IsNumber MAX_CEREMONY n × IsNumber MAX_STEPS step
IsPost (post.Safe n safe) = IsNumber MAX_CEREMONY n
IsPost (post.Bag n serial path) = IsNumber MAX_CEREMONY n × IsSerial serial

-- a text is read as the value
abbrev pub IsReadBy : {V : Type 0} → (List ℕ → Option V) → V → Type 0
IsReadBy read v = (text : List ℕ) × (read text ≡ Some v)

-- the value is one that can be read by its form
abbrev pub IsRead : (form : Form) → ValueOf form → Type 0
IsRead (shapes.Text text_of read) v = IsReadBy read v
IsRead shapes.Number n = IsNumber MAX_CEREMONY n
IsRead shapes.Truth b = ⊤
IsRead (shapes.Codes most read) codes = IsListed most codes × All (λ code. IsReadBy read code) codes

-- what such values make is an act of values
abbrev pub EachMade : (members : List (Member × Form)) → Makes members → Type 0
EachMade [] does = IsAct does
EachMade (m ∷ ms) make = (v : ValueOf m.1) → IsRead m.1 v → EachMade ms (make v)

abbrev pub EachOf : Shape → Type 0
EachOf (row members make) = EachMade members make

-- what is read is a value, if the reader reads only values
value-read : {V : Type 0} (IsValue : V → Type 0) (read : List ℕ → Option V) → ((text : List ℕ) → IfSome (read text) IsValue) → (v : V) → IsReadBy read v → IsValue v
value-read IsValue read found v is = subst (λ o. IfSome o IsValue) is.1 (found is.0)

module _ {V : Type 0} {IsValue : V → Type 0} {text_of : V → List ℕ} {read : List ℕ → Option V} (reader : Value IsValue text_of read) where
  of : (v : V) → IsReadBy read v → IsValue v
  of = value-read IsValue read reader.found

  each-of : (vs : List V) → All (λ v. IsReadBy read v) vs → All IsValue vs
  each-of vs all = All-weaker (λ v. IsReadBy read v) IsValue of vs all

-- what is read behind a path of values makes an act of values
pub parts-made : (p : Post) → IsPost p → EachOf (shape p)
parts-made (post.Collection People) is = λ who w name n. (of initials who w, of (lines-read 120) name n)
parts-made (post.Collection Custodians) is = λ place p who w day d. (of places-read place p, of initials who w, of days day d)
parts-made (post.Collection Boxes) is = λ facility _ box b place p. (b, of places-read place p)
parts-made (post.Collection Items) is = λ n i item s at a. (i, of serials item s, of moments at a)
parts-made (post.Collection Ceremonies) is = λ n i facility _ day d script s. (i, of days day d, value-read IsUtf8 script_of script-found script s)
parts-made (post.Person who Roles) is = λ role _ since s until u. (is, of days since s, of days until u)
parts-made (post.Person who Withdrawals) is = λ role _ day d. (is, of days day d)
parts-made (post.Place place Replacement) is = λ who w day d. (is, of initials who w, of days day d)
parts-made (post.Place place Release) is = λ day d. (is, of days day d)
parts-made (post.Ceremony n Sheet) is = λ way _ who w at a. (is, record { listed = w.0; each = each-of initials who w.1 }, of moments at a)
parts-made (post.Ceremony n Exceptions) is = λ text t pass _ at a. (is, of (lines-read 1000) text t, of moments at a)
parts-made (post.Ceremony n path) is = λ at a. (is, tt, of moments at a)
parts-made (post.Signature n step) is = λ at a. (is.0, is.1, of moments at a)
parts-made (post.Safe n safe) is = λ state _ by b at a. (is, of initials by b, of moments at a)
parts-made (post.Bag n serial Seal) is = λ items i at a. (is.0, (is.1, record { listed = i.0; each = each-of serials items i.1 }), of moments at a)
parts-made (post.Bag n serial Put) is = λ to t at a. (is.0, (is.1, of destinations to t), of moments at a)
parts-made (post.Bag n serial path) is = λ at a. (is.0, is.1, of moments at a)
