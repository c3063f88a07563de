use Rattle.kcr_print.proofs.Common.{◌≡◌, ◌++◌, take, flat_map, code_line}
use Rattle.kcr_print.proofs.custody_lines.push_codes.Given as goal

-- behind what was there stand the codes so far
abbrev pub invariant-loop-code : goal.invariant-loop-code
invariant-loop-code l = l.out.items ≡ l.initial.out.items ++ flat_map code_line (take l.code-index l.codes)
