use Rattle.std.proofs.Common.{sym}
use Rattle.kcr_arguments.specs.Tasks.{task_of, file_of, into_of, is_existing, is_explained}
use Rattle.kcr_arguments.proofs.{Parses.met_is, Taken.never_none, Taken.never_other}
use Rattle.kcr_arguments.proofs.words.read_words.Goals as goal

pub unreachable-requires : goal.unreachable-requires
unreachable-requires c = never_none _ c.in_ok-matches.matches c.in_ok-matches.ensures.taken c.in_ok-matches.ensures.found c.in_default.ensures.rows

pub unreachable-requires-in-None : goal.unreachable-requires-in-None
unreachable-requires-in-None c =
    let met = met_is _ c.in_ok-matches.matches _ _ c.in_ok-matches.ensures.found c.in-Some.ensures.name c.in-Some.ensures.rows in
    never_other _ _ c.in_ok-matches.ensures.taken met c.in-None.ensures

pub returns-then-names_companion-clause-companion : goal.returns-then-names_companion-clause-companion
unfolding into_of
returns-then-names_companion-clause-companion c _ =
    let met = met_is _ c.in_ok-matches.matches _ _ c.in_ok-matches.ensures.found c.in-Some.ensures.name c.in-Some.ensures.rows in
    rw (met, ← c.read_into-into.ensures, ← c.names_companion.ensures) c.if-names_companion.true

pub returns : goal.returns
unfolding task_of file_of into_of is_existing is_explained
returns c =
    let met = met_is _ c.in_ok-matches.matches _ _ c.in_ok-matches.ensures.found c.in-Some.ensures.name c.in-Some.ensures.rows in
    record {
      task = rw met (sym c.in-Some-read_task.ensures);
      file = rw met (sym c.read_file.ensures);
      into = rw met (sym c.read_into-into.ensures);
      existing = rw met (sym c.has_flag.ensures);
      explained = rw met (sym c.has_flag-in-Some-read_task.ensures);
      apart = rw (met, ← c.read_into-into.ensures, ← c.names_companion.ensures) c.if-names_companion.false;
      companion = tt;
      taken = c.in_ok-matches.ensures.taken;
      line = tt;
    }
