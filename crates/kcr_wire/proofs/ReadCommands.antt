-- A command that is read has values of their types as its parts.
use Rattle.kcr_wire.proofs.Common.{◌≡◌, ℕ, ◌&&◌, List, ◌∷◌, length, Option, Some, None, Result, Ok, Err, option_and_then, IfSome, IfOk, All, refl, ⊤}
use Rattle.kcr_wire.proofs.Common.{ok_or, and_parts, option_and_then_some, IfOk-at_ok, All-nil, All-cons, Data, Items, no_items, item, get, as_str}
use Rattle.kcr_wire.proofs.Common.{as_array, IsListed, are_apart, IsNumber, member_text, MAX_CEREMONY, Member, Refusal, within-from, Command, IsAct}
use Rattle.kcr_wire.proofs.Common.{is_between, next, last, posted_act, Form, Text, Number, Truth, Codes, Post, IsPost, IsRead, IsReadBy}
use Rattle.kcr_wire.proofs.Common.{posted-values, any, tested, mapped, chained, key_at, posted_command, posted, text_at, whole_at, truth_at}
use Rattle.kcr_wire.proofs.{Common.values_at, Common.body, Common.Endpoint, Targets.IsEndpoint}
use Rattle.std.proofs.Common.{option_map}
use Rattle.kcr_base.specs.declared.refusal.Refusal.TheVariants as refusal
use Rattle.kcr_forms.specs.{Forms.number_to, Forms.listed_of, OrMemory.and_then}
use Rattle.kcr_wire.specs.Members.{json_of, each_in}
use Rattle.kcr_wire.specs.declared.endpoint.Endpoint.TheVariants as target

-- ---- the members of a body

if_some : {V : Type 0} (P : V → Type 0) (o : Option V) → ((v : V) → o ≡ Some v → P v) → IfSome o P
if_some P None is = tt
if_some P (Some v) is = is v refl

read-by : {V : Type 0} (read : List ℕ → Option V) (o : Option (List ℕ)) → IfSome (option_and_then read o) (IsReadBy read)
read-by read o = if_some (IsReadBy read) (option_and_then read o) (λ v e. option_and_then_some read o v e (λ text _ h. (text, h)))

each-in : {V : Type 0} (read : List ℕ → Option V) (items : Items) → IfSome (each_in read items) (All (IsReadBy read))
unfolding each_in
each-in read no_items = All-nil (IsReadBy read)
each-in read (item d rest) =
    chained (IsReadBy read) (All (IsReadBy read)) (λ v. option_map (λ vs. v ∷ vs) (each_in read rest))
    (λ v is. mapped (All (IsReadBy read)) (All (IsReadBy read)) (λ vs. v ∷ vs) (λ vs all. All-cons (IsReadBy read) v vs is all) (each_in read rest) (each-in read rest))
    (option_and_then read (as_str d)) (read-by read (as_str d))

number-is : (limit n : ℕ) → IfSome (number_to limit n) (IsNumber limit)
unfolding number_to
number-is limit n =
    tested (IsNumber limit) (is_between 1 limit n) n (λ e. let bounds = within-from 1 limit n e in record { from = bounds.0; until = bounds.1 })

listed-is : (P : List (List ℕ) → Type 0) (most : ℕ) (list : List (List ℕ)) → P list
    → IfSome (listed_of most (λ texts. texts) list) (λ v. IsListed most v × P v)
unfolding listed_of
listed-is P most list is =
    tested (λ v. IsListed most v × P v) (is_between 1 most (length list) && are_apart list) list
    (λ e. let parts = and_parts (is_between 1 most (length list)) (are_apart list) e in
    let long = within-from 1 most (length list) parts.0 in
    (record { at_least_one = long.0; at_most = long.1; apart = parts.1 }, is))

body-next : (m : Member) (form : Form) (d : Data) → IfSome (next body m form d) (IsRead form)
body-next m (Text text_of read) d = read-by read (text_at m d)
body-next m Number d = chained (λ _. ⊤) (IsNumber MAX_CEREMONY) (number_to MAX_CEREMONY) (λ n _. number-is MAX_CEREMONY n) (whole_at m d) (any (whole_at m d))
body-next m Truth d = any (truth_at m d)
body-next m (Codes most read) d =
    let array = option_and_then as_array (get (member_text m) d) in
    chained (All (IsReadBy read)) (λ codes. IsListed most codes × All (IsReadBy read) codes) (listed_of most (λ texts. texts)) (listed-is (All (IsReadBy read)) most)
    (values_at read m d) (chained (λ _. ⊤) (All (IsReadBy read)) (each_in read) (λ items _. each-in read items) array (any array))

body-last : (m : Member) (form : Form) (d : Data) → IfSome (last body m form d) (IsRead form)
body-last m (Text text_of read) d = read-by read (text_at m d)
body-last m form d = body-next m form d

-- ---- a command

ok-then : {A B : Type 0} (Q : B → Type 0) (go : A → Result B Refusal) (r : Result A Refusal) → ((a : A) → r ≡ Ok a → IfOk (go a) Q)
    → IfOk (and_then r go) Q
ok-then Q go (Ok a) is = is a refl
ok-then Q go (Err e) is = tt

abbrev pub OfValues : Command → Type 0
OfValues command = IsAct command.act

command-is : (p : Post) → IsPost p → (d : Data) → IfOk (posted_command p d) OfValues
command-is p is d =
    ok-then OfValues _ (key_at d) (λ key _. ok-then OfValues (λ does. Ok (record { key = key; act = does })) (posted_act body p d)
    (λ does e. IfOk-at_ok IsAct e (posted-values body body-next body-last p is d)))

-- a command that is posted to a path of values is of values
pub posted-is : (t : Endpoint) → IsEndpoint t → (bytes : List ℕ) → IfOk (posted t bytes) OfValues
posted-is (target.Post p) is bytes =
    ok-then OfValues (posted_command p) (ok_or (json_of bytes) refusal.Json) (λ d _. command-is p is d)
posted-is (target.Ask inquiry) is bytes = tt
