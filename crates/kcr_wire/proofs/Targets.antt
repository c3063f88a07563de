-- The path of an act is a path of the register, and asks for what the act needs. What any path asks for has values as its
-- parts.
use Rattle.kcr_wire.proofs.Common.{◌≡◌, ℕ, ◌++◌, Bool, true, ◌&&◌, nat_le, length, append-nil, List, [], ◌∷◌, codes, Option, Some, None, Ok, IfSome}
use Rattle.kcr_wire.proofs.Common.{IfOk, refl, ap, ◌∙◌, arith, append_assoc, ⊤, decimal, option_map, ok_or, and_parts, leb-true, RouteOf, named, walk}
use Rattle.kcr_wire.proofs.Common.{first, IsInitials, IsNumber, IsPlace, place_text, IsSerial, MAX_CEREMONY, MAX_STEPS, Place, Refusal, at_person}
use Rattle.kcr_wire.proofs.Common.{at_place, at_ceremony, at_bag, at_step, at_safe, safe_text, path_text, Act, IsAct, initials_of, place_of}
use Rattle.kcr_wire.proofs.Common.{ceremony_of, step_of, serial_of, safe_of, post_of, IsPost, any, mapped, chained, Post, initials, places-read}
use Rattle.kcr_wire.proofs.Common.{ceremonies, steps, serials, safes, Parts, path_of, parts_in, part_as, ceremony_in, serial_in, post_at, inquiry_at}
use Rattle.kcr_wire.proofs.Common.{endpoint_of, target_at, with_parts, Route, Endpoint}
use Rattle.std.specs.Option.{option_and_then}
use Rattle.matchit.proofs.OnLiterals.{matchit_on_literals}
use Rattle.kcr_base.specs.declared.refusal.Refusal.TheVariants as refusal
use Rattle.kcr_custody.specs.declared.SafeNumber.{SafeNumber, TheVariants.One, TheVariants.Two}
use Rattle.kcr_history.specs.declared.commands.Act.TheVariants as act
use Rattle.kcr_history.specs.declared.commands.Deed.TheVariants as deed
use Rattle.kcr_forms.specs.declared.post.Post.TheVariants as post
use Rattle.kcr_forms.specs.declared.post.{CollectionPath.CollectionPath, CeremonyPath.CeremonyPath, BagPath.BagPath}
use Rattle.kcr_forms.specs.declared.post.CollectionPath.TheVariants.{People, Custodians, Boxes, Items, Ceremonies}
use Rattle.kcr_forms.specs.declared.post.PersonPath.{PersonPath, TheVariants.Roles, TheVariants.Withdrawals}
use Rattle.kcr_forms.specs.declared.post.PlacePath.{PlacePath, TheVariants.Replacement, TheVariants.Release}
use Rattle.kcr_forms.specs.declared.post.CeremonyPath.TheVariants.{Opening, Closing, Sheet, Exceptions}
use Rattle.kcr_forms.specs.declared.post.BagPath.TheVariants.{Seal, Take, Put, Cut}
use Rattle.kcr_wire.specs.{Routes.table, Routes.add_all, Routes.add, Endpoints.ascii_in, Endpoints.target_of, declared.route.PostRoute.PostRoute}
use Rattle.kcr_wire.specs.declared.route.PostRoute.TheVariants as posted
use Rattle.kcr_wire.specs.declared.route.Route.TheVariants as route
use Rattle.kcr_wire.specs.declared.endpoint.Endpoint.TheVariants as target
use Rattle.kcr_wire.proofs.Bytes.{IsWord, literal, initials-word, serial-word, number-word, place-word}
use Rattle.kcr_wire.proofs.Paths.{Leg, path_on, tokens_on, names_on, parts_on, short_literal, AreLegs, whole-on, IsPath, whole-path}
use Rattle.kcr_wire.proofs.{Seeking.slash_or_end, Seeking.found_on, Seeking.route-on, Walking.names_in, Walking.walk-on}

-- what a walk along a path needs of its route: its tokens and the names of its parts
abbrev Sight : Type 0
Sight = Route × (List ℕ × List (List ℕ))

abbrev sight : RouteOf Route → Sight
sight r = (r.value, (r.pattern, names_in r.text r.names))

unfoldable in_table : Unit {0}
unfolding matchit_on_literals table add_all add
in_table = tt

-- ---- what a path asks for

by-route : (path : List ℕ) (r : Route) (pattern : List ℕ) (names : List (List ℕ)) (t : Endpoint) (found : Option (RouteOf Route))
    → option_map sight found ≡ Some (r, (pattern, names))
    → ((text : List ℕ) (places : List (ℕ × ℕ)) → names_in text places ≡ names → endpoint_of r (walk pattern text path places 0 0) ≡ Some t)
    → option_and_then (λ (f : RouteOf Route). endpoint_of f.value (parts_in f path)) found ≡ Some t
by-route path r pattern names t None e asks = cc
by-route path r pattern names t (Some f) e asks =
    let same : sight f ≡ (r, (pattern, names)) = cc in
    (λ i. endpoint_of (same i).0 (walk (same i).1.0 f.text path f.names 0 0)) ∙ asks f.text f.names (ap (λ (s : Sight). s.1.1) same)

-- a path of the register, and what it asks for
record IsPathTo (path : List ℕ) (p : Post) : Type 0 where
  pub is : IsPath 200 path
  pub asks : target_at path ≡ Some (target.Post p)

-- the route of these legs and this end, whatever its parameters take
abbrev IsIn : List Leg → List ℕ → Option (RouteOf Route) → PostRoute → Type 0
IsIn legs end found r = option_map sight found ≡ Some (route.Post r, (tokens_on legs end, names_on legs))

-- the route is short, and has an end
abbrev fits : List Leg → List ℕ → Bool
fits legs end =
    (short_literal end && slash_or_end end) && (nat_le (length legs) 2
    && (nat_le 1 (length (tokens_on legs end)) && nat_le (length (tokens_on legs end)) 200))

posts : (legs : List Leg) (end : List ℕ) (r : PostRoute) (p : Post) → AreLegs legs → fits legs end ≡ true
    → IsIn legs end (first table (path_on legs end)) r → post_at r (parts_on legs) ≡ Some p → IsPathTo (path_on legs end) p
posts legs end r p are test is_in asks =
    let parts = and_parts (short_literal end && slash_or_end end) _ test in
    let ends = and_parts (short_literal end) (slash_or_end end) parts.0 in
    let few = and_parts (nat_le (length legs) 2) _ parts.1 in
    let sizes = and_parts (nat_le 1 (length (tokens_on legs end))) _ few.1 in
    record {
      is = whole-on legs end are ends.0 (leb-true (length legs) 2 few.0) (leb-true 1 (length (tokens_on legs end)) sizes.0);
      asks = by-route (path_on legs end) (route.Post r) (tokens_on legs end) (names_on legs) (target.Post p) (first table (path_on legs end)) is_in
          (λ text places named. ap (endpoint_of (route.Post r)) (walk-on (tokens_on legs end) text (path_on legs end)
          (leb-true (length (tokens_on legs end)) 200 sizes.1) legs end places 0 0 ends.1 are refl refl named) ∙ ap (option_map target.Post) asks);
    }

-- no part in braces
collection : (path : List ℕ) (kind : CollectionPath) → fits [] path ≡ true → IsIn [] path (first table path) (posted.Collection kind)
    → IsPathTo path (post.Collection kind)
collection path kind test is_in = posts [] path (posted.Collection kind) (post.Collection kind) tt test is_in refl

-- parts in braces, and more behind them: the table has the route
abbrev InTable : List Leg → List ℕ → PostRoute → Type 0
InTable legs back r = (fits legs (47 ∷ back) ≡ true) × IsIn legs (47 ∷ back) (found_on legs (47 ∷ back) table) r

behind : (legs : List Leg) (back : List ℕ) (r : PostRoute) (p : Post) → AreLegs legs → InTable legs back r → post_at r (parts_on legs) ≡ Some p
    → IsPathTo (path_on legs (47 ∷ back)) p
behind legs back r p are is_in asks = posts legs (47 ∷ back) r p are is_in.0 (route-on sight legs (47 ∷ back) table _ are refl is_in.1) asks

abbrev on_person : List ℕ → List Leg
on_person who = record { front = codes "people/"; name = codes "who"; piece = who } ∷ []

person : (who : List ℕ) → IsInitials who → (kind : PersonPath) (back : List ℕ) → InTable (on_person who) back (posted.Person kind)
    → IsPathTo (at_person who back) (post.Person who kind)
person who is kind back is_in =
    simp append_assoc (behind (on_person who) back (posted.Person kind) (post.Person who kind)
    (refl, initials-word who is, tt) is_in (rw (initials.again who is)))

abbrev on_place : Place → List Leg
on_place place = record { front = codes "custodians/"; name = codes "place"; piece = place_text place } ∷ []

place-path : (place : Place) → IsPlace place → (kind : PlacePath) (back : List ℕ) → InTable (on_place place) back (posted.Place kind)
    → IsPathTo (at_place (place_text place) back) (post.Place place kind)
place-path place is kind back is_in =
    simp append_assoc (behind (on_place place) back (posted.Place kind) (post.Place place kind)
    (refl, place-word place is, tt) is_in (rw (places-read.again place is)))

module _ (n : ℕ) (is : IsNumber MAX_CEREMONY n) where
  word : IsWord (decimal n)
  word = number-word MAX_CEREMONY n (omega arith) is

  abbrev on : List Leg → List Leg
  on legs = record { front = codes "ceremonies/"; name = codes "ceremony"; piece = decimal n } ∷ legs

  at : (rest : List ℕ) (p : Post) → IsPathTo (path_on (on []) (47 ∷ rest)) p → IsPathTo (at_ceremony n rest) p
  at rest p to = simp append_assoc to

  ceremony : (kind : CeremonyPath) (back : List ℕ) → InTable (on []) back (posted.Ceremony kind)
      → IsPathTo (at_ceremony n back) (post.Ceremony n kind)
  ceremony kind back is_in =
      at back _ (behind (on []) back (posted.Ceremony kind) (post.Ceremony n kind) (refl, word, tt) is_in (rw (ceremonies.again n is)))

  abbrev on_bag : List ℕ → List Leg
  on_bag serial = on (record { front = codes "bags/"; name = codes "serial"; piece = serial } ∷ [])

  bag : (serial : List ℕ) → IsSerial serial → (kind : BagPath) (back : List ℕ) → InTable (on_bag serial) back (posted.Bag kind)
      → IsPathTo (at_bag n serial back) (post.Bag n serial kind)
  bag serial is_serial kind back is_in =
      at (codes "bags/" ++ serial ++ codes "/" ++ back) _ (simp append_assoc (behind (on_bag serial) back (posted.Bag kind) (post.Bag n serial kind)
      (refl, word, (refl, serial-word serial is_serial, tt)) is_in (rw (ceremonies.again n is, serials.again serial is_serial))))

  step : (k : ℕ) → IsNumber MAX_STEPS k → IsPathTo (at_step n k) (post.Signature n k)
  unfolding in_table
  step k is_step =
      let legs = on (record { front = codes "steps/"; name = codes "step"; piece = decimal k } ∷ []) in
      at (codes "steps/" ++ decimal k ++ codes "/signature") _ (simp append_assoc (behind legs (codes "signature")
      posted.Signature (post.Signature n k)
      (refl, word, (refl, number-word MAX_STEPS k (omega arith) is_step, tt)) (refl, refl) (rw (ceremonies.again n is, steps.again k is_step))))

  -- the path of a safe ends with its number
  abbrev on_safe : SafeNumber → List Leg
  on_safe safe = on (record { front = codes "safes/"; name = codes "safe"; piece = safe_text safe } ∷ [])

  safe-path : (safe : SafeNumber) → IsWord (safe_text safe) → IsIn (on_safe safe) [] (first table (path_on (on_safe safe) [])) posted.Safe
      → IsPathTo (at_safe n safe) (post.Safe n safe)
  safe-path safe is_word is_in =
      at (codes "safes/" ++ safe_text safe) _ (simp append-nil at (posts (on_safe safe) [] posted.Safe (post.Safe n safe)
      (refl, word, (refl, is_word, tt)) refl is_in (rw (ceremonies.again n is, safes.again safe tt))))

  safe : (safe : SafeNumber) → IsPathTo (at_safe n safe) (post.Safe n safe)
  unfolding in_table
  safe One = safe-path One (record { some = omega arith; short = omega arith; bytes = literal (codes "1") refl })
      (route-on sight (on []) (codes "/safes/1") table _ (refl, word, tt) refl refl)
  safe Two = safe-path Two (record { some = omega arith; short = omega arith; bytes = literal (codes "2") refl })
      (route-on sight (on []) (codes "/safes/2") table _ (refl, word, tt) refl refl)

-- ---- each act

act-read : (act : Act) → IsAct act → IsPathTo (path_text act) (post_of act)
unfolding in_table
act-read (act.Enter who name) is = collection (codes "/people") People refl refl
act-read (act.Train who role since until) is = person who is.0 Roles (codes "roles") (refl, refl)
act-read (act.Withdraw who role day) is = person who is.0 Withdrawals (codes "withdrawals") (refl, refl)
act-read (act.Appoint place who day) is = collection (codes "/custodians") Custodians refl refl
act-read (act.Replace place who day) is = place-path place is.0 Replacement (codes "replacement") (refl, refl)
act-read (act.Release place day) is = place-path place is.0 Release (codes "release") (refl, refl)
act-read (act.AddBox facility box place) is = collection (codes "/boxes") Boxes refl refl
act-read (act.Ceremony n at (deed.AddItem item)) is = collection (codes "/items") Items refl refl
act-read (act.Plan n facility day script) is = collection (codes "/ceremonies") Ceremonies refl refl
act-read (act.Ceremony n at deed.Open) is = ceremony n is.0 Opening (codes "opening") (refl, refl)
act-read (act.Ceremony n at deed.Close) is = ceremony n is.0 Closing (codes "closing") (refl, refl)
act-read (act.Ceremony n at (deed.RecordSheet way who)) is = ceremony n is.0 Sheet (codes "sheet") (refl, refl)
act-read (act.Ceremony n at (deed.Sign k)) is = step n is.0 k is.1
act-read (act.Ceremony n at (deed.RecordException text pass)) is = ceremony n is.0 Exceptions (codes "exceptions") (refl, refl)
act-read (act.Ceremony n at (deed.SetSafe which state by)) is = safe n is.0 which
act-read (act.Ceremony n at (deed.Seal serial items)) is = bag n is.0 serial is.1.0 Seal (codes "seal") (refl, refl)
act-read (act.Ceremony n at (deed.Take serial)) is = bag n is.0 serial is.1 Take (codes "take") (refl, refl)
act-read (act.Ceremony n at (deed.Put serial to)) is = bag n is.0 serial is.1.0 Put (codes "put") (refl, refl)
act-read (act.Ceremony n at (deed.Cut serial)) is = bag n is.0 serial is.1 Cut (codes "cut") (refl, refl)

-- the path of an act is short, and has the bytes of a path
pub act-path : (act : Act) → IsAct act → IsPath 200 (path_text act)
act-path act is = (act-read act is).is

-- the path of an act is a target that takes this kind of act
pub act-target : (act : Act) → IsAct act → target_of (path_text act) ≡ Ok (target.Post (post_of act))
unfolding target_of
act-target act is =
    let read = act-read act is in
    rw (whole-path (path_text act) read.is.bytes, read.asks) refl

-- ---- the parts of what a path asks for

-- they are values of their types
abbrev pub IsEndpoint : Endpoint → Type 0
IsEndpoint (target.Post p) = IsPost p
IsEndpoint (target.Ask inquiry) = ⊤

part-is : {V : Type 0} (IsValue : V → Type 0) (read : List ℕ → Option V) → ((text : List ℕ) → IfSome (read text) IsValue)
    → (name : List ℕ) (parts : Parts) → IfSome (part_as read name parts) IsValue
part-is IsValue read found name parts = chained (λ _. ⊤) IsValue read (λ text _. found text) (named name parts) (any (named name parts))

both-are : {A B : Type 0} (P : A → Type 0) (Q : B → Type 0) (make : A → B → Post) → ((a : A) (b : B) → P a → Q b → IsPost (make a b))
    → (part : Option A) (other : Option B) → IfSome part P → IfSome other Q → IfSome (with_parts make part other) IsPost
both-are P Q make is part other p q =
    chained P IsPost (λ a. option_map (make a) other) (λ a p. mapped Q IsPost (make a) (λ b q. is a b p q) other q) part p

ceremony-is : (parts : Parts) → IfSome (ceremony_in parts) (IsNumber MAX_CEREMONY)
ceremony-is = part-is (IsNumber MAX_CEREMONY) ceremony_of ceremonies.found (codes "ceremony")

post-is : (r : PostRoute) (parts : Parts) → IfSome (post_at r parts) IsPost
post-is (posted.Collection path) parts = tt
post-is (posted.Person path) parts =
    mapped IsInitials IsPost (λ who. post.Person who path) (λ who is. is) (part_as initials_of (codes "who") parts)
    (part-is IsInitials initials_of initials.found (codes "who") parts)
post-is (posted.Place path) parts =
    mapped IsPlace IsPost (λ place. post.Place place path) (λ place is. is) (part_as place_of (codes "place") parts)
    (part-is IsPlace place_of places-read.found (codes "place") parts)
post-is (posted.Ceremony path) parts =
    mapped (IsNumber MAX_CEREMONY) IsPost (λ n. post.Ceremony n path) (λ n is. is) (ceremony_in parts) (ceremony-is parts)
post-is posted.Signature parts =
    both-are (IsNumber MAX_CEREMONY) (IsNumber MAX_STEPS) post.Signature (λ n step is is_step. (is, is_step))
    (ceremony_in parts) (part_as step_of (codes "step") parts) (ceremony-is parts) (part-is (IsNumber MAX_STEPS) step_of steps.found (codes "step") parts)
post-is posted.Safe parts =
    let safe = part_as safe_of (codes "safe") parts in
    both-are (IsNumber MAX_CEREMONY) (λ _. ⊤) post.Safe (λ n safe is _. is) (ceremony_in parts) safe (ceremony-is parts) (any safe)
post-is (posted.Bag path) parts =
    both-are (IsNumber MAX_CEREMONY) IsSerial (λ n serial. post.Bag n serial path) (λ n serial is is_serial. (is, is_serial))
    (ceremony_in parts) (serial_in parts) (ceremony-is parts) (part-is IsSerial serial_of serials.found (codes "serial") parts)

endpoint-is : (r : Route) (parts : Parts) → IfSome (endpoint_of r parts) IsEndpoint
endpoint-is (route.Post r) parts = mapped IsPost IsEndpoint target.Post (λ p is. is) (post_at r parts) (post-is r parts)
endpoint-is (route.Ask r) parts = mapped (λ _. ⊤) IsEndpoint target.Ask (λ i _. tt) (inquiry_at r parts) (any (inquiry_at r parts))

ok-if : {A : Type 0} (P : A → Type 0) (o : Option A) (e : Refusal) → IfSome o P → IfOk (ok_or o e) P
ok-if P None e h = tt
ok-if P (Some a) e h = h

-- what a target asks for has such parts
pub target-is : (text : List ℕ) → IfOk (target_of text) IsEndpoint
unfolding target_of
target-is text =
    let at : (path : List ℕ) → IfSome (target_at path) IsEndpoint =
    λ path. chained (λ _. ⊤) IsEndpoint (λ found. endpoint_of found.value (parts_in found path)) (λ found _. endpoint-is found.value (parts_in found path)) (first table path) (any (first table path)) in
    ok-if IsEndpoint (option_and_then target_at (ascii_in (path_of text))) refusal.Path (chained (λ _. ⊤) IsEndpoint target_at (λ path _. at path) (ascii_in (path_of text)) (any (ascii_in (path_of text))))
