-- The program's command line is simple, so its matches are exact.
use Rattle.std.proofs.Common.{◌≡◌, ◌⊎◌, List, [], ◌∷◌, true, Option, Some, None, option_map, refl, sym, inl, inr, ◌∙◌}
use Rattle.std.specs.{Prelude.Box, Box.box_value}
use Rattle.clap.specs.declared.{error.kind.ErrorKind.ErrorKind, error.kind.ErrorKind.TheVariants.OutOfMemory, parser.matches.SubCommand.SubCommand}
use Rattle.clap.specs.Words.{IsAmong, Kinds, App, Text, Row, is_simple, is_simple_and_free, fault_of, subcommand_rows, HasMatchesOf}
use Rattle.clap.specs.Words.{subcommand_rows_of}
use Rattle.clap.specs.declared.parser.matches.ArgMatches.{ArgMatches, TheViews.out-SubCommand, TheViews.out-ArgMatches}
use Rattle.clap.proofs.OnLiterals.{clap_on_literals}
use Rattle.kcr_arguments.specs.{Commands.tool_app, Tasks.met_in, Tasks.faults_of}

-- the program's command line is simple
pub tool-simple : is_simple tool_app ≡ true
unfolding tool_app clap_on_literals
tool-simple = refl

-- the program's command line is simple, and none of its arguments has a rule on another
pub tool-free : is_simple_and_free tool_app ≡ true
unfolding tool_app clap_on_literals
tool-free = refl

-- what a parse found, if the command is the program's
pub found_in : (app : App) (words : List Text) (m : ArgMatches) → app ≡ tool_app → HasMatchesOf app words m → subcommand_rows_of m ≡ met_in words
unfolding met_in
found_in app words m e h = ((rw e at h) tool-simple).1

-- the parse succeeded
pub taken_in : (app : App) (words : List Text) → app ≡ tool_app → (is_simple_and_free app ≡ true → fault_of app words ≡ []) → faults_of words ≡ []
unfolding faults_of
taken_in app words e h = (rw e at h) tool-free

not_among : (k : ErrorKind) (ks : Kinds) → IsAmong k ks → ks ≡ [] → ⊥
not_among k [] h e = h
not_among k (x ∷ xs) h e = cc

-- the parse failed, and not when out of memory
pub refused_in : (app : App) (words : List Text) (k : ErrorKind) → app ≡ tool_app
    → (is_simple_and_free app ≡ true → (k ≡ OutOfMemory) ⊎ IsAmong k (fault_of app words))
    → (k ≡ OutOfMemory → ⊥) → faults_of words ≡ [] → ⊥
unfolding faults_of
refused_in app words k e h not_memory none =
    elim ((rw e at h) tool-free) [ inl memory ↦ not_memory memory | inr among ↦ not_among k (fault_of tool_app words) among none ]

-- the subcommand that was met, with its rows
pub met : {Z : Type 0} (o : Option (Box SubCommand Z)) (name : Text) (rows : List Row) → Some name ≡ option_map (λ b. (out-SubCommand (box_value b)).name.now) o
    → Some rows ≡ option_map (λ p. p.1) (subcommand_rows o) → subcommand_rows o ≡ Some (name, rows)
met None name rows n r = cc
met (Some b) name rows n r = cc

-- the subcommand that the words name
pub met_is : (words : List Text) (m : ArgMatches) (name : Text) (rows : List Row) → subcommand_rows_of m ≡ met_in words
    → Some name ≡ option_map (λ b. (out-SubCommand (box_value b)).name.now) (out-ArgMatches m).subcommand
    → Some rows ≡ option_map (λ p. p.1) (subcommand_rows (out-ArgMatches m).subcommand) → met_in words ≡ Some (name, rows)
met_is words m name rows found n r = sym found ∙ met (out-ArgMatches m).subcommand name rows n r
