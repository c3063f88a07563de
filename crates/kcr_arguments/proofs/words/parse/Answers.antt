use Rattle.std.proofs.Common.{◌∙◌}
use Rattle.kcr_arguments.proofs.Parses.{found_in, taken_in, refused_in}
use Rattle.kcr_arguments.proofs.words.parse.Goals as goal

pub returns-in-Ok-try_get_matches_from : goal.returns-in-Ok-try_get_matches_from
returns-in-Ok-try_get_matches_from c = record {
  found = found_in _ _ c.in-Ok-try_get_matches_from.matches c.in-Ok.ensures c.in-Ok-try_get_matches_from.ensures.matches;
  taken = taken_in _ _ c.in-Ok.ensures c.in-Ok-try_get_matches_from.ensures.kinds;
  line = tt;
  read = tt;
}

pub returns-in-Ok-to_string : goal.returns-in-Ok-to_string
returns-in-Ok-to_string c = record {
  found = tt;
  taken = tt;
  read = λ no. no;
  line = λ _ none. refused_in _ _ _ c.in-Ok.ensures c.in-Err.ensures.kinds (λ e. c.in_default-kind.not-OutOfMemory (c.kind.ensures ∙ e)) none;
}
