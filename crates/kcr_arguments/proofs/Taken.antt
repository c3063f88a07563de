-- Words that are taken hold a task.
use Rattle.std.proofs.Common.{◌≡◌, ◌&&◌, ◌++◌, ℕ, Bool, true, false, not, codes, List, [], ◌∷◌, Option, Some, None, refl, sym, ap, ◌∙◌, option_map, map}
use Rattle.std.proofs.Common.{arith, drop, inl, inr}
use Rattle.std.specs.Prelude.{is_some, find, MatchOption, option_and_then}
use Rattle.std.specs.{List.AllByRecursion, List.list_any, Str.bytes_eq, Option.option_map_or}
use Rattle.std.proofs.{Math.Bool.or-false, lemmas.Bool.cases_Bool, lemmas.Slice.Eq.bytes_eq-Decides}
use Rattle.clap.specs.Words.{Row, Shape, Text, subcommand_rows_of}
use Rattle.clap.specs.{declared.parser.matches.ArgMatches.ArgMatches, Takes.is_given, Faults.step_fault}
use Rattle.clap.specs.Walk.{Held, Names, Rule, Step, Waiting, Walk, subcommand, walked, walk, walk_from, word_met, after_step}
use Rattle.clap.specs.Walk.{nothing_held, answers_to, stop_after, finished, settled, rows_after}
use Rattle.clap.specs.{Kinds.or_else, Kinds.check_kinds, Facts.explicit_source}
use Rattle.clap.specs.Faults.{check_fault, defaults_fault, settle_fault, entered_fault, built_fault, level_fault, walk_fault, turn_fault, word_fault}
use Rattle.clap.specs.Simple.{App, built, built_leaf, names_of, label_of, entered, rows_at, argument_words, help_shape}
use Rattle.kcr_arguments.specs.Commands.{ceremony_rule, into_rule, serve_rules, sub, tool_app, tool_subs}
use Rattle.kcr_arguments.specs.Tasks.{task_at, met_in, faults_of, ceremony_at, into_at}
use Rattle.kcr_arguments.specs.declared.words.{Serving.Serving, Task.Task, Report.TheVariants.Print, Report.TheVariants.Attendance}
use Rattle.kcr_arguments.specs.declared.words.Task.TheVariants.{Serve, Write, Rebuild, Pack}
use Rattle.kcr_arguments.proofs.Options.{both_empty, walk_keeps, required_number, required_text}

-- if a walk has stopped, it is not at `help`
abbrev PastHelp : Option (Text × List Text) → Type 0
PastHelp stopped = MatchOption stopped (Unit {0}) (λ p. bytes_eq p.0 (codes "help") ≡ false)

abbrev StepsPastHelp : Step → Type 0
StepsPastHelp (subcommand name) = bytes_eq name (codes "help") ≡ false
StepsPastHelp _ = Unit {0}

-- a word at which nothing fails
met_past : (s : Shape) (names : Names) → s.disable_help_subcommand ≡ false → (is_trailing : Bool) (waiting : Waiting) (position : ℕ) (word : Text) (h : Held)
    → word_fault s names is_trailing waiting word h ≡ [] → StepsPastHelp (word_met s.rules names is_trailing waiting position word h).1
met_past s names helps is_trailing waiting position word h none = grind (arith, helps, none)

step_past : (c : List Rule) (word : Text) (w : Walk) (h : Held) (step : Step) → PastHelp w.stopped → StepsPastHelp step
    → PastHelp (after_step c word w h step).stopped
step_past c word w h step before is = grind (arith, before, is)

turn_past : (s : Shape) (names : Names) → s.disable_help_subcommand ≡ false → (w : Walk) (word : Text) → turn_fault s names w word ≡ []
    → PastHelp w.stopped → PastHelp (walked s.rules names w word).stopped
unfolding walked
turn_past s names helps w word none before =
    let met = word_met s.rules names w.is_trailing w.waiting w.position word w.held in
    let each = both_empty (word_fault s names w.is_trailing w.waiting word w.held) (step_fault s w.position met.0 met.1) in
    let past = met_past s names helps w.is_trailing w.waiting w.position word w.held in
    let step = step_past s.rules word w met.0 met.1 before in
    grind (arith, each, past, step, before)

-- of a parse that needs a subcommand and that nothing refuses: it entered one, and not `help`
entered_there : (has needs helps some all : Bool) → needs ≡ true → helps ≡ false → check_kinds (not has && (helps && some)) (not has && needs) all ≡ []
    → has ≡ true
entered_there has needs helps some all need help none = grind arith

-- a parse that is not refused
record IsEntered (a : App) (words : List Text) : Type 0 where
  there : is_some (entered a (stop_after a.top.rules (names_of a) words)) ≡ true
  past : PastHelp (stop_after a.top.rules (names_of a) words)
  calm : entered_fault a (stop_after a.top.rules (names_of a) words) ≡ []

parse_past : (a : App) (words : List Text) → a.top.subcommand_required ≡ true → a.top.arg_required_else_help ≡ false → a.top.disable_help_subcommand ≡ false
    → built_fault a nothing_held words ≡ [] → IsEntered a words
parse_past a words needs bare helps none =
    let stop = stop_after a.top.rules (names_of a) words in
    let end = (walk a.top.rules (names_of a) nothing_held words).held in
    let rows = finished a.top.rules end in
    let has = is_some (entered a stop) in
    let check = check_fault a.top rows has in
    let defaults = or_else (defaults_fault (settled a.top.rules end).rows a.top.rules) check in
    let settling = or_else (settle_fault a.top.rules a.top.args_override_self end) defaults in
    let walks = both_empty (walk_fault a.top (names_of a) (walk_from nothing_held) words) (or_else (entered_fault a stop) settling) none in
    let below = both_empty (entered_fault a stop) settling walks.1 in
    let settled' = both_empty (settle_fault a.top.rules a.top.args_override_self end) defaults below.1 in
    let last = both_empty (defaults_fault (settled a.top.rules end).rows a.top.rules) check settled'.1 in
    record {
      there = entered_there has a.top.subcommand_required a.top.arg_required_else_help (not (list_any (λ r. explicit_source r.source) rows))
          (not (a.top.subcommand_negates_reqs && has) && list_any (λ r. r.required && not (is_given r.id rows)) a.top.rules) needs bare last.1;
      past = walk_keeps a.top (names_of a) (λ w. PastHelp w.stopped) (turn_past a.top (names_of a) helps) (walk_from nothing_held) words walks.0 tt;
      calm = below.0;
    }

-- what is found of a list has what each that is found would have
found_has : {X : Type 0} (f : X → Bool) (Q : X → Type 0) (xs : List X) → AllByRecursion (λ x. f x ≡ true → Q x) xs → is_some (find f xs) ≡ true
    → (x : X) × (find f xs ≡ Some x) × Q x
found_has f Q [] all is = cc
found_has f Q (x ∷ xs) all is = elim (cases_Bool (f x)) [
  | inl e ↦ (x, rw e refl, all.0 e)
  | inr e ↦ (let later = found_has f Q xs all.1 (rw e at is) in (later.0, rw e later.1, later.2))
]

some_mapped : {X Y : Type 0} (g : X → Y) (o : Option X) → is_some (option_map g o) ≡ is_some o
some_mapped g o = grind arith

-- a subcommand whose words are not refused holds a task
abbrev HoldsTask : Shape → Type 0
HoldsTask s = (words : List Text) → level_fault s [] nothing_held words false [] ≡ [] → is_some (task_at (rows_at s words)) ≡ true

-- a subcommand was entered that has a task
entered_task : (a : App) (stop : Option (Text × List Text)) → PastHelp stop → is_some (entered a stop) ≡ true → entered_fault a stop ≡ []
    → ((name : Text) → bytes_eq name (codes "help") ≡ false → AllByRecursion (λ s. answers_to name (label_of s) ≡ true → HoldsTask s) a.subs)
    → (p : Text × List Row) × (entered a stop ≡ Some p) × (is_some (task_at p) ≡ true)
entered_task a None past is calm each = cc
entered_task a (Some p) past is calm each =
    let f : Shape → Bool = λ s. answers_to p.0 (label_of s) in
    let met = found_has f HoldsTask a.subs (each p.0 past) (sym (some_mapped (λ s. rows_at s p.1) (find f a.subs)) ∙ is) in
    let free : level_fault met.0 [] nothing_held p.1 false [] ≡ [] =
    sym (ap (λ (o : Option Shape). option_map_or (λ s. level_fault s [] nothing_held p.1 false []) o []) met.1) ∙ calm in
    (rows_at met.0 p.1, ap (option_map (λ s. rows_at s p.1)) met.1, met.2 p.1 free)

-- ---- the program's subcommands

-- a subcommand with these options of its own, once it is built
abbrev leaf : Text → List Rule → Shape
leaf name rules = built_leaf (sub name rules)

all_subs : (built tool_app).subs ≡ map built_leaf tool_subs ++ built_leaf help_shape ∷ []
unfolding tool_app
all_subs = refl

both_there : (serving : ℕ → ℕ → Serving) (a b : Option ℕ) → is_some a ≡ true → is_some b ≡ true
    → is_some (option_and_then (λ port. option_map (λ connections. Serve (serving port connections)) b) a) ≡ true
both_there serving a b one two = grind arith

-- the options that a subcommand requires, among its others, and the help
ceremony_there : (name : Text) (words : List Text) → level_fault (leaf name (ceremony_rule ∷ [])) [] nothing_held words false [] ≡ []
    → is_some (ceremony_at (rows_after (leaf name (ceremony_rule ∷ [])).rules [] words)) ≡ true
ceremony_there name words none =
    required_number (leaf name (ceremony_rule ∷ [])) (codes "ceremony") 9999
    (refl, (inr refl, (inl refl, (inr refl, (inr refl, tt)))), refl, λ rows free. grind arith) words none

into_there : (name : Text) (words : List Text) → level_fault (leaf name (into_rule ∷ [])) [] nothing_held words false [] ≡ []
    → is_some (into_at (rows_after (leaf name (into_rule ∷ [])).rules [] words)) ≡ true
into_there name words none =
    required_text (leaf name (into_rule ∷ [])) (codes "into")
    (refl, (inr refl, (inl refl, (inr refl, (inr refl, tt)))), refl, λ rows free. grind arith) words none

abbrev serve : Shape
serve = leaf (codes "serve") serve_rules

serve_holds : HoldsTask serve
serve_holds words none =
    let port = required_number serve (codes "port") 65535
    (refl, (inr refl, (inr refl, (inl refl, (inr refl, (inr refl, (inr refl, (inr refl, (inr refl, tt)))))))), refl, λ rows free. grind arith) words none in
    let connections = required_number serve (codes "connections") 1000000
    (refl, (inr refl, (inr refl, (inr refl, (inl refl, (inr refl, (inr refl, (inr refl, (inr refl, tt)))))))), refl, λ rows free. grind arith) words none in
    both_there _ _ _ port connections

help_holds : (name : Text) → bytes_eq name (codes "help") ≡ false → answers_to name (label_of help_shape) ≡ true → ⊥
help_holds name past is =
    let e : codes "help" ≡ name = (bytes_eq-Decides (codes "help") name).0 (sym (or-false (bytes_eq (codes "help") name)) ∙ is) in
    let no : true ≡ false = rw (← e) at past in cc

print_holds : HoldsTask (leaf (codes "print") (ceremony_rule ∷ []))
print_holds words none = some_mapped Write _ ∙ some_mapped Print _ ∙ ceremony_there (codes "print") words none

attendance_holds : HoldsTask (leaf (codes "attendance") (ceremony_rule ∷ []))
attendance_holds words none = some_mapped Write _ ∙ some_mapped Attendance _ ∙ ceremony_there (codes "attendance") words none

rebuild_holds : HoldsTask (leaf (codes "rebuild") (into_rule ∷ []))
rebuild_holds words none = some_mapped (λ into. Rebuild) _ ∙ into_there (codes "rebuild") words none

pack_holds : HoldsTask (leaf (codes "pack") (into_rule ∷ []))
pack_holds words none = some_mapped (λ into. Pack) _ ∙ into_there (codes "pack") words none

-- in the order of `tool_subs`; those that need no option of their own hold their task as they are
subs_hold : (name : Text) → bytes_eq name (codes "help") ≡ false → AllByRecursion (λ s. answers_to name (label_of s) ≡ true → HoldsTask s) (built tool_app).subs
subs_hold name past = rw all_subs ((λ _ _ _. refl), ((λ _. serve_holds), ((λ _. print_holds), ((λ _. attendance_holds), rest))))
  where
    others : AllByRecursion (λ s. answers_to name (label_of s) ≡ true → HoldsTask s) (map built_leaf (drop 9 tool_subs) ++ built_leaf help_shape ∷ [])
    others = ((λ _. rebuild_holds), ((λ _. pack_holds), ((λ is. absurd (help_holds name past is)), tt)))

    rest : AllByRecursion (λ s. answers_to name (label_of s) ≡ true → HoldsTask s) (map built_leaf (drop 4 tool_subs) ++ built_leaf help_shape ∷ [])
    rest = ((λ _ _ _. refl), ((λ _ _ _. refl), ((λ _ _ _. refl), ((λ _ _ _. refl), ((λ _ _ _. refl), others)))))

top_is : let top = (built tool_app).top in (top.subcommand_required ≡ true) × (top.arg_required_else_help ≡ false) × (top.disable_help_subcommand ≡ false)
unfolding tool_app
top_is = (refl, refl, refl)

-- words that are not refused hold a task
pub task_there : (words : List Text) → faults_of words ≡ [] → (p : Text × List Row) × (met_in words ≡ Some p) × (is_some (task_at p) ≡ true)
unfolding faults_of met_in
task_there words none =
    let entry = parse_past (built tool_app) (argument_words tool_app words) top_is.0 top_is.1 top_is.2 none in
    entered_task (built tool_app) _ entry.past entry.there entry.calm subs_hold

-- so a parse that succeeds has entered a subcommand
pub never_none : (words : List Text) (m : ArgMatches) → faults_of words ≡ [] → subcommand_rows_of m ≡ met_in words
    → None ≡ option_map (λ p. p.1) (subcommand_rows_of m) → ⊥
never_none words m none found is =
    let there = task_there words none in
    let rows : None ≡ Some there.0.1 = is ∙ ap (λ (o : Option (Text × List Row)). option_map (λ p. p.1) o) (found ∙ there.1) in cc

-- whose task it reads
pub never_other : (words : List Text) (p : Text × List Row) → faults_of words ≡ [] → met_in words ≡ Some p → None ≡ task_at p → ⊥
never_other words p none met is =
    let there = task_there words none in
    let same : there.0 ≡ p = (let both : Some there.0 ≡ Some p = sym there.1 ∙ met in cc) in
    let task : is_some {T = Task} None ≡ true = ap (is_some {T = Task}) (is ∙ ap task_at (sym same)) ∙ there.2 in cc
