-- Words that are taken give each required option of their subcommand.
use Rattle.std.proofs.Common.{◌≡◌, ◌⊎◌, ◌&&◌, ◌==◌, ℕ, zero, suc, Bool, true, false, not, cond, List, [], ◌∷◌, Option, Some, None, refl, sym, ap, ◌∙◌, subst, length}
use Rattle.std.proofs.Common.{drop, arith, inl, inr}
use Rattle.std.specs.Prelude.{is_some, fold, find, MatchOption, option_and_then, slice_get, encode_utf8}
use Rattle.std.specs.{List.AllByRecursion, List.list_any, Option.option_map_or, Str.bytes_eq, Str.chars}
use Rattle.kcr_base.proofs.ListLemmas.{each-weaker, first-is}
use Rattle.std.proofs.lemmas.{Bool.and_parts, Bool.not-true, Bool.Decides.nat_tests, Slice.Eq.bytes_eq-Decides}
use Rattle.clap.specs.{Lexer.long_of, Takes.is_given, Facts.explicit_source, Simple.Shape, Simple.filled}
use Rattle.clap.specs.Kinds.{Kinds, check_kinds, or_else, range_kinds}
use Rattle.clap.specs.Faults.{bundle_step_fault, check_fault, defaults_fault, flags_fault, flag_word_fault, level_fault, repeat_fault, values_fault, long_fault}
use Rattle.clap.specs.Faults.{option_fault, react_fault, settle_fault, short_fault, step_fault, turn_fault, use_fault, walk_fault, word_fault}
use Rattle.clap.specs.Walk.{Held, Names, Outcome, Row, Rule, Step, Text, Waiting, Walk, action_of, after_flag, after_step, arg_by_id, arg_by_long, arg_by_short}
use Rattle.clap.specs.Walk.{attached_value, first_of, bundle, bundle_met, bundle_step, done, plain, finished, has_row, long_met, long_or_other, nothing_held}
use Rattle.clap.specs.Walk.{option_met, reacted, row_text, rows_after, settled, settled_rows, short_met, used, walk, walk_from, walked, with_default}
use Rattle.clap.specs.Walk.{reading_by, used_as, values_or_missing, with_values, without, word_met}
use Rattle.clap.specs.declared.error.kind.ErrorKind.TheVariants as kind
use Rattle.clap.specs.declared.builder.action.ArgAction.{ArgAction, TheVariants.Set, TheVariants.SetTrue, TheVariants.Help}
use Rattle.clap.specs.declared.parser.matches.ValueSource.{TheVariants.CommandLine, TheVariants.DefaultValue, ValueSource}
use Rattle.clap.specs.declared.builder.value_parser.Reading.{TheVariants.AsWritten, Reading}
use Rattle.clap.specs.declared.builder.value_parser.ValueParser.{ValueParser, TheVariants.String, TheVariants.Unsigned}
use Rattle.kcr_arguments.specs.{Commands.value_rule, Tasks.number_between, Tasks.number_at}

-- a list, and the one that is taken when it is empty, are both empty if nothing is taken
pub both_empty : (a b : Kinds) → or_else a b ≡ [] → (a ≡ []) × (b ≡ [])
both_empty [] b e = (refl, e)
both_empty (k ∷ ks) b e = cc

-- ---- what each use of an option keeps, the whole walk over the words keeps

module _ (s : Shape) (P : List Row → Type 0) where
  -- a use of the option that does not fail keeps it
  abbrev Keeps : Rule → Type 0
  Keeps a = (values : List Text) (rows : List Row) → use_fault s.args_override_self a values rows ≡ [] → P rows → P (used a values rows)

  module _ (keeps : AllByRecursion Keeps s.rules) where
    -- a found option is one of the rules
    abbrev IsRule : Option Rule → Type 0
    IsRule o = (a : Rule) → o ≡ Some a → Keeps a

    settles_at : (pending : Option (Text × List Text)) (rows : List Row)
        → option_map_or (λ p. option_map_or (λ a. use_fault s.args_override_self a p.1 rows) (arg_by_id s.rules p.0) []) pending [] ≡ []
        → P rows → P (settled_rows s.rules pending rows)
    settles_at None rows none p = p
    settles_at (Some q) rows none p =
        let found = λ (a : Rule) (e : arg_by_id s.rules q.0 ≡ Some a). (first-is (λ x. bytes_eq x.id q.0) Keeps a s.rules keeps e).1 q.1 rows in
        grind (arith, found, p)

    settles : (h : Held) → settle_fault s.rules s.args_override_self h ≡ [] → P h.rows → P (settled s.rules h).rows
    settles h none p = settles_at h.pending h.rows none p

    reacts : (a : Rule) → Keeps a → (values : List Text) (h : Held) → react_fault s.rules s.args_override_self a values h ≡ [] → P h.rows
        → P (reacted s.rules a values h).rows
    reacts a rule values h none p =
        let each = both_empty (settle_fault s.rules s.args_override_self h) (use_fault s.args_override_self a values (settled s.rules h).rows) none in
        rule values (settled s.rules h).rows each.1 (settles h each.0 p)

    option_keeps : (a : Rule) → Keeps a → (v : Option Text) (h : Held) → option_fault s.rules s.args_override_self a v h ≡ [] → P h.rows
        → P (option_met s.rules a v h).0.rows
    option_keeps a rule o h none p =
        let some = λ (v : Text). reacts a rule (v ∷ []) h in
        let settle = settles h in
        grind (arith, some, settle, p)

    long_keeps : (o : Option Rule) → IsRule o → (v : Option Text) (h : Held) → long_fault s.rules s.args_override_self o v h ≡ [] → P h.rows
        → P (long_met s.rules o v h).0.rows
    long_keeps None rule v h none p = p
    long_keeps (Some a) rule v h none p =
        let option = option_keeps a (rule a refl) v h in
        let flag = reacts a (rule a refl) [] h in
        grind (arith, option, flag, p)

    short_keeps : (o : Option Rule) → IsRule o → (rest : Text) (h : Held) (go : Held → Held × Outcome) (fault : Held → Kinds)
        → ((now : Held) → fault now ≡ [] → P now.rows → P (go now).0.rows)
        → short_fault s.rules s.args_override_self o rest h fault ≡ [] → P h.rows → P (short_met s.rules o rest h go).0.rows
    short_keeps None rule rest h go fault more none p = p
    short_keeps (Some a) rule rest h go fault more none p =
        let option = option_keeps a (rule a refl) (attached_value rest) h in
        let flag = reacts a (rule a refl) [] h in
        let each = both_empty (react_fault s.rules s.args_override_self a [] h) (fault (reacted s.rules a [] h)) in
        grind (arith, option, flag, each, more (reacted s.rules a [] h), p)

    bundle_keeps : (k : ℕ) (flags : Text) (skip : ℕ) (so_far : Outcome) (h : Held) → flags_fault s.rules s.args_override_self k flags skip h ≡ []
        → P h.rows → P (bundle_met s.rules k flags skip so_far h).0.rows
    unfolding bundle_met flags_fault
    bundle_keeps zero flags skip so_far h none p = p
    bundle_keeps (suc k) flags skip so_far h none p = by_flag (bundle_keeps k) (slice_get (chars flags) 0) skip none
      where
        by_flag : ((flags : Text) (skip : ℕ) (so_far : Outcome) (h : Held) → flags_fault s.rules s.args_override_self k flags skip h ≡ [] → P h.rows
            → P (bundle_met s.rules k flags skip so_far h).0.rows)
            → (o : Option ℕ) (skip : ℕ) → bundle_step_fault s.rules s.args_override_self o flags skip h (flags_fault s.rules s.args_override_self k) ≡ []
            → P (bundle_step s.rules o flags skip so_far h (bundle_met s.rules k)).0.rows
        by_flag later None skip free = p
        by_flag later (Some x) zero free =
            let rest = drop (length (encode_utf8 x)) flags in
            short_keeps (arg_by_short s.rules x) (λ a e. (first-is _ Keeps a s.rules keeps e).1) rest h (bundle_met s.rules k rest 0 done)
            (flags_fault s.rules s.args_override_self k rest 0)
            (later rest 0 done) free p
        by_flag later (Some x) (suc less) free = later (drop (length (encode_utf8 x)) flags) less so_far h free p

    after_keeps : (waiting : Waiting) (word : Text) (h : Held) (o : Outcome) → P h.rows → P (after_flag s.rules waiting word h o).0.rows
    after_keeps waiting word h o p = grind (arith, p)

    flag_keeps : (waiting : Waiting) (word : Text) (o : Option (Text × Option Text)) (h : Held) → flag_word_fault s.rules s.args_override_self o word h ≡ []
        → P h.rows → P (long_or_other s.rules waiting word o h).0.rows
    flag_keeps waiting word None h none p =
        let bundled = λ (flags : Text). bundle_keeps (length flags) flags h.skip plain (record h { skip = 0 }) in
        let after = λ (flags : Text). after_keeps waiting word (bundle s.rules flags h).0 (bundle s.rules flags h).1 in
        grind (arith, bundled, after, none, p)
    flag_keeps waiting word (Some q) h none p =
        let met = long_met s.rules (arg_by_long s.rules q.0) q.1 h in
        after_keeps waiting word met.0 met.1 (long_keeps (arg_by_long s.rules q.0) (λ a e. (first-is _ Keeps a s.rules keeps e).1) q.1 h none p)

    word_keeps : (names : Names) (is_trailing : Bool) (waiting : Waiting) (position : ℕ) (word : Text) (h : Held)
        → word_fault s names is_trailing waiting word h ≡ [] → P h.rows → P (word_met s.rules names is_trailing waiting position word h).0.rows
    word_keeps names true waiting position word h none p = p
    word_keeps names false waiting position word h none p = let flag = flag_keeps waiting word (long_of word) h in grind (arith, flag, p)

    step_keeps : (w : Walk) (word : Text) (h : Held) (step : Step) → step_fault s w.position h step ≡ [] → P h.rows
        → P (after_step s.rules word w h step).held.rows
    step_keeps w word h step none p = let settle = settles h in grind (arith, settle, p)

    turn_keeps : (names : Names) (w : Walk) (word : Text) → turn_fault s names w word ≡ [] → P w.held.rows → P (walked s.rules names w word).held.rows
    unfolding walked
    turn_keeps names w word none p =
        let met = word_met s.rules names w.is_trailing w.waiting w.position word w.held in
        let each = both_empty (word_fault s names w.is_trailing w.waiting word w.held) (step_fault s w.position met.0 met.1) in
        let step = step_keeps w word met.0 met.1 in
        let before = word_keeps names w.is_trailing w.waiting w.position word w.held in
        grind (arith, each, step, before, p)

-- what each word that does not fail keeps, the whole walk keeps
pub walk_keeps : (s : Shape) (names : Names) (P : Walk → Type 0)
    → ((w : Walk) (word : Text) → turn_fault s names w word ≡ [] → P w → P (walked s.rules names w word))
    → (w : Walk) (words : List Text) → walk_fault s names w words ≡ [] → P w → P (fold (walked s.rules names) w words)
unfolding walk_fault
walk_keeps s names P keeps w [] none p = p
walk_keeps s names P keeps w (word ∷ words) none p =
    let each = both_empty (turn_fault s names w word) (walk_fault s names (walked s.rules names w word) words) none in
    walk_keeps s names P keeps (walked s.rules names w word) words each.1 (keeps w word each.0 p)

-- ---- an option with a value

-- if the option has a row, this holds of it
abbrev HasRow : (Row → Bool) → Text → List Row → Type 0
HasRow holds name rows = MatchOption (find (λ r. bytes_eq r.id name) rows) (Unit {0}) (λ r. holds r ≡ true)

-- its text is a number from 1 to the most
abbrev is_number : ℕ → Row → Bool
is_number most r = is_some (option_and_then (number_between 1 most) (row_text r))

-- it has a text
abbrev is_text : Row → Bool
is_text r = is_some (slice_get r.values 0)

-- a row of one option is none of another
apart : (x a b : Text) → bytes_eq a b ≡ false → bytes_eq x a ≡ true → bytes_eq x b ≡ false
apart x a b differ is = subst (λ (t : Text). bytes_eq t b ≡ false) (sym ((bytes_eq-Decides x a).0 is)) differ

-- rows of another option come and go, and the row of this one stays
without_other : (other name : Text) → bytes_eq other name ≡ false → (rows : List Row)
    → find (λ r. bytes_eq r.id name) (without other rows) ≡ find (λ r. bytes_eq r.id name) rows
without_other other name differ [] = refl
without_other other name differ (r ∷ rs) =
    let rest = without_other other name differ rs in
    let no = apart r.id other name differ in
    grind (arith, rest, no)

with_other : (other name : Text) (how : Reading) (source : ValueSource) (values : List Text) → bytes_eq other name ≡ false → (rows : List Row)
    → find (λ r. bytes_eq r.id name) (with_values other how source values rows) ≡ find (λ r. bytes_eq r.id name) rows
with_other other name how source values differ [] =
    ap (λ (b : Bool). cond b (Some (record { id = other; values = values; count = None; source = Some source; reading = how })) None) differ
with_other other name how source values differ (r ∷ rs) =
    let rest = with_other other name how source values differ rs in
    let no = apart r.id other name differ in
    grind (arith, rest, no)

-- the first row of an option that had none
first_row : (name : Text) (how : Reading) (source : ValueSource) (values : List Text) (rows : List Row) → has_row name rows ≡ false
    → find (λ r. bytes_eq r.id name) (with_values name how source values (without name rows))
    ≡ Some (record { id = name; values = values; count = None; source = Some source; reading = how })
first_row name how source values [] none =
    ap (λ (b : Bool). cond b (Some (record { id = name; values = values; count = None; source = Some source; reading = how })) None) ((bytes_eq-Decides name name).1 refl)
first_row name how source values (r ∷ rs) none =
    let rest = first_row name how source values rs in
    grind (arith, rest, none)

-- one value alone is in the range
only_one : (empty one : Bool) → cond empty (kind.InvalidValue ∷ []) (cond one [] (kind.WrongNumberOfValues ∷ [])) ≡ [] → one ≡ true
only_one empty one e = grind arith

-- an action that leaves the rows of other options
abbrev leaves_rows : ArgAction → Bool
leaves_rows Set = true
leaves_rows SetTrue = true
leaves_rows Help = true
leaves_rows _ = false

-- another option, with such an action
abbrev is_other : Text → Rule → Bool
is_other name a = leaves_rows (action_of a) && not (bytes_eq a.id name)

is_apart : (name : Text) (a : Rule) → is_other name a ≡ true → bytes_eq a.id name ≡ false
is_apart name a other = not-true _ (and_parts (leaves_rows (action_of a)) _ other).1

-- another option keeps it
other_keeps : (s : Shape) (holds : Row → Bool) (name : Text) (a : Rule) → is_other name a ≡ true → Keeps s (HasRow holds name) a
other_keeps s holds name a other values rows none p = by_action (action_of a) (and_parts (leaves_rows (action_of a)) _ other).0
  where
    given : List Text
    given = values_or_missing a values

    kept : HasRow holds name (with_values a.id (reading_by a) CommandLine given (without a.id rows))
    kept =
        let differ = is_apart name a other in
        rw (with_other a.id name (reading_by a) CommandLine given differ (without a.id rows), without_other a.id name differ rows) p

    by_action : (x : ArgAction) → leaves_rows x ≡ true → HasRow holds name (used_as x a.id (reading_by a) given rows)
    by_action Set leaves = kept
    by_action SetTrue leaves = kept
    by_action Help leaves = p
    by_action _ never = cc

-- a required option whose values this parser reads, with what it left out
abbrev required_rule : Text → ValueParser → Rule
required_rule name parser = filled (value_rule name parser true)

-- the row of its one value
abbrev given_row : Text → Text → Row
given_row name v = record { id = name; values = v ∷ []; count = None; source = Some CommandLine; reading = AsWritten }

-- the option itself gives it
given_keeps : (s : Shape) (holds : Row → Bool) (name : Text) (parser : ValueParser) → s.args_override_self ≡ false
    → reading_by (required_rule name parser) ≡ AsWritten
    → ((v : Text) → values_fault (required_rule name parser) (v ∷ []) ≡ [] → holds (given_row name v) ≡ true)
    → Keeps s (HasRow holds name) (required_rule name parser)
given_keeps s holds name parser once plainly passes values rows none p = by_values values none
  where
    by_values : (values : List Text) → use_fault s.args_override_self (required_rule name parser) values rows ≡ []
        → HasRow holds name (used (required_rule name parser) values rows)
    by_values [] free = cc
    by_values (v ∷ w ∷ vs) free =
        let many = length (v ∷ w ∷ vs) in
        let one : (1 == many) ≡ true = only_one (many == 0) (1 == many) (both_empty (range_kinds 1 1 many) _ free).0 in
        absurd (grind (arith, nat_tests, one))
    by_values (v ∷ []) free =
        let each = both_empty (repeat_fault s.args_override_self name rows) (values_fault (required_rule name parser) (v ∷ [])) free in
        let fresh : has_row name rows ≡ false = grind (arith, once, each.0) in
        rw (plainly, first_row name AsWritten CommandLine (v ∷ []) rows fresh) (passes v each.1)

-- ---- so a subcommand that is taken has it

-- it is this option, or another one
abbrev IsOption : Text → Rule → Rule → Type 0
IsOption name a x = (x ≡ a) ⊎ (is_other name x ≡ true)

-- its default leaves the row of this one, which has none
default_left : (name : Text) (a x : Rule) (rows : List Row) → a.defaults ≡ [] → IsOption name a x
    → find (λ r. bytes_eq r.id name) (with_default rows x) ≡ find (λ r. bytes_eq r.id name) rows
default_left name a x rows none (inl is) =
    let same : with_default rows x ≡ rows = (let free : x.defaults ≡ [] = ap (λ (a : Rule). a.defaults) is ∙ none in grind (arith, free)) in
    ap (find (λ r. bytes_eq r.id name)) same
default_left name a x rows none (inr other) =
    let left = λ (ds : List Text). with_other x.id name (reading_by x) DefaultValue ds (is_apart name x other) rows in
    grind (arith, left)

defaults_left : (name : Text) (a : Rule) (c : List Rule) (rows : List Row) → a.defaults ≡ [] → AllByRecursion (IsOption name a) c
    → find (λ r. bytes_eq r.id name) (fold with_default rows c) ≡ find (λ r. bytes_eq r.id name) rows
defaults_left name a [] rows none all = refl
defaults_left name a (x ∷ c) rows none all = defaults_left name a c (with_default rows x) none all.1 ∙ default_left name a x rows none all.0

-- nothing that is required is missing
none_missing : (help sub missing : Bool) → check_kinds help sub missing ≡ [] → missing ≡ false
none_missing help sub missing e = grind arith

-- the subcommand requires the option, which is one of its rules
abbrev Requires : Shape → Text → Rule → Type 0
Requires s name a =
    (s.args_override_self ≡ false) × AllByRecursion (IsOption name a) s.rules × (s.subcommand_negates_reqs ≡ false)
    × ((rows : List Row) → list_any (λ a. a.required && not (is_given a.id rows)) s.rules ≡ false → is_given name rows ≡ true)

required_row : (s : Shape) (holds : Row → Bool) (name : Text) (a : Rule) → Keeps s (HasRow holds name) a → a.defaults ≡ []
    → Requires s name a → (words : List Text) → level_fault s [] nothing_held words false [] ≡ []
    → (r : Row) × (find (λ r. bytes_eq r.id name) (rows_after s.rules [] words) ≡ Some r) × (holds r ≡ true)
required_row s holds name a keeps bare requires words none =
    let each-keeps = each-weaker (IsOption name a) (Keeps s (HasRow holds name))
    (λ x is. elim is [ inl e ↦ subst (Keeps s (HasRow holds name)) (sym e) keeps | inr other ↦ other_keeps s holds name x other ]) s.rules requires.1 in
    let end = (walk s.rules [] nothing_held words).held in
    let rows = finished s.rules end in
    let check = check_fault s rows false in
    let defaults = or_else (defaults_fault (settled s.rules end).rows s.rules) check in
    let each = both_empty (walk_fault s [] (walk_from nothing_held) words) (or_else (settle_fault s.rules s.args_override_self end) defaults) none in
    let settling = both_empty (settle_fault s.rules s.args_override_self end) defaults each.1 in
    let last = both_empty (defaults_fault (settled s.rules end).rows s.rules) check settling.1 in
    let walked-over : HasRow holds name end.rows =
    walk_keeps s [] (λ w. HasRow holds name w.held.rows) (turn_keeps s (HasRow holds name) each-keeps []) (walk_from nothing_held) words each.0 tt in
    let at-end : HasRow holds name (settled s.rules end).rows = settles s (HasRow holds name) each-keeps end settling.0 walked-over in
    let has : HasRow holds name rows = rw (defaults_left name a s.rules (settled s.rules end).rows bare requires.1) at-end in
    let free : list_any (λ a. a.required && not (is_given a.id rows)) s.rules ≡ false = rw requires.2 at (none_missing _ _ _ last.1) in
    by_row (find (λ r. bytes_eq r.id name) rows) has (requires.3 rows free)
  where
    by_row : (o : Option Row) → MatchOption o (Unit {0}) (λ r. holds r ≡ true) → option_map_or (λ r. explicit_source r.source) o false ≡ true
        → (r : Row) × (o ≡ Some r) × (holds r ≡ true)
    by_row None has given = cc
    by_row (Some r) has given = (r, refl, has)

-- a subcommand that is taken has the number of a required option
pub required_number : (s : Shape) (name : Text) (most : ℕ) → Requires s name (required_rule name (Unsigned 1 most))
    → (words : List Text) → level_fault s [] nothing_held words false [] ≡ [] → is_some (number_at 1 most name (rows_after s.rules [] words)) ≡ true
required_number s name most requires words none =
    let keeps = given_keeps s (is_number most) name (Unsigned 1 most) requires.0 refl (λ v free. grind (arith, free)) in
    let row = required_row s (is_number most) name (required_rule name (Unsigned 1 most)) keeps refl requires words none in
    ap (λ (o : Option Row). is_some (option_and_then (number_between 1 most) (option_and_then row_text o))) row.1 ∙ row.2

-- a subcommand that is taken has the text of a required option
pub required_text : (s : Shape) (name : Text) → Requires s name (required_rule name String)
    → (words : List Text) → level_fault s [] nothing_held words false [] ≡ [] → is_some (first_of name (rows_after s.rules [] words)) ≡ true
required_text s name requires words none =
    let keeps = given_keeps s is_text name String requires.0 refl (λ v free. refl) in
    let row = required_row s is_text name (required_rule name String) keeps refl requires words none in
    ap (λ (o : Option Row). is_some (option_and_then (λ r. slice_get r.values 0) o)) row.1 ∙ row.2
