-- The command line of the program, as `clap` reads it.
use Rattle.std.specs.Prelude.{[], ◌∷◌, ◌++◌, ℕ, Bool, codes, false, true, Some, List, length, fold}
use Rattle.clap.specs.{Simple.parser_for, declared.builder.action.ArgAction.TheVariants.Set, declared.builder.action.ArgAction.TheVariants.SetTrue}
use Rattle.clap.specs.Words.{App, Rule, Shape, Text, new_app, new_rule, with_rule, with_subcommand}
use Rattle.clap.specs.declared.builder.value_parser.ValueParser.{ValueParser, TheVariants.Unsigned}
use Rattle.kcr_arguments.specs.declared.commands.{CommandOption.CommandOption, Subcommand.Subcommand}
use Rattle.kcr_base.specs.declared.limits.TheConstants.{MAX_CEREMONY, MAX_COMMANDS}

-- the program is nothing without a subcommand, and tells its version
abbrev pub root_app : App
root_app =
    let a = new_app (codes "kcr") in
    record a { top = record a.top { subcommand_required = true; has_version = true } }

-- an option whose value this parser reads
abbrev pub value_rule : Text → ValueParser → Bool → Rule
value_rule name parser is_required = record (new_rule name) {
  long = Some name;
  value_names = 1;
  action = Some Set;
  parser = Some parser;
  required = is_required;
}

-- an option whose value is a number from the least to the most, and a required one, from 1
abbrev pub optional_rule : Text → ℕ → ℕ → Rule
optional_rule name least most = value_rule name (Unsigned least most) false

abbrev pub number_rule : Text → ℕ → Rule
number_rule name most = value_rule name (Unsigned 1 most) true

-- an option without a value
abbrev pub flag_rule : Text → Rule
flag_rule name = record (new_rule name) { long = Some name; action = Some SetTrue; parser = Some (parser_for SetTrue) }

-- `--existing`, of a subcommand that opens the register's file to write it: it creates none
abbrev pub existing_rule : Rule
existing_rule = flag_rule (codes "existing")

-- `--ceremony N`
abbrev pub ceremony_rule : Rule
ceremony_rule = number_rule (codes "ceremony") MAX_CEREMONY

-- `--file FILE`, before the other options of a subcommand
abbrev pub file_rule : Rule
file_rule = value_rule (codes "file") (parser_for Set) false

-- `--explain`, behind them
abbrev pub explain_rule : Rule
explain_rule = flag_rule (codes "explain")

-- `--into FILE`, of a subcommand that makes a new file of a register
abbrev pub into_rule : Rule
into_rule = value_rule (codes "into") (parser_for Set) true

-- a subcommand over a register, with its own options between the two that all have
abbrev pub sub : Text → List Rule → Shape
sub name rules = record ((new_app name).top) { rules = file_rule ∷ (rules ++ explain_rule ∷ []) }

abbrev pub serve_rules : List Rule
serve_rules = existing_rule
    ∷ number_rule (codes "port") 65535
    ∷ number_rule (codes "connections") 1000000
    ∷ optional_rule (codes "idle") 1 300
    ∷ optional_rule (codes "longest") 1 86400
    ∷ []

-- the subcommands
abbrev pub tool_subs : List Shape
tool_subs = sub (codes "run") (existing_rule ∷ [])
    ∷ sub (codes "serve") serve_rules
    ∷ sub (codes "print") (ceremony_rule ∷ [])
    ∷ sub (codes "attendance") (ceremony_rule ∷ [])
    ∷ sub (codes "custody") []
    ∷ sub (codes "export") (optional_rule (codes "after") 0 MAX_COMMANDS ∷ optional_rule (codes "until") 0 MAX_COMMANDS ∷ [])
    ∷ sub (codes "journal") (optional_rule (codes "ceremony") 1 MAX_CEREMONY ∷ [])
    ∷ sub (codes "audit") []
    ∷ sub (codes "verify") []
    ∷ sub (codes "rebuild") (into_rule ∷ [])
    ∷ sub (codes "pack") (into_rule ∷ [])
    ∷ []

-- the program, with its subcommands
unfoldable pub tool_app : App
tool_app = fold with_subcommand root_app tool_subs

-- ---- what the code makes of its table

-- an option
abbrev pub rule_in : CommandOption → Rule
rule_in option = record (new_rule option.name.now) {
  long = Some option.name.now;
  value_names = length option.values.now;
  action = Some option.action;
  parser = Some option.parser;
  required = option.is_required;
}

-- an app with one more option
unfoldable pub with_option : App → CommandOption → App
with_option a option = with_rule a (rule_in option)

-- a subcommand
abbrev pub app_in : Subcommand → App
app_in subcommand = with_rule (fold with_option (with_rule (new_app subcommand.name.now) file_rule) subcommand.options.now) explain_rule

-- an app with one more subcommand
unfoldable pub with_sub : App → Subcommand → App
with_sub a subcommand = with_subcommand a (app_in subcommand).top
