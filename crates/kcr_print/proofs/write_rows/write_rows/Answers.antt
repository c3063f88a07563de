use Rattle.kcr_print.proofs.Common.{inr, refl, rules, ◌∙◌, ⊤, IsFault, reads_nothing}
use Rattle.std.proofs.Common.{Err}
use Rattle.kcr_base.specs.declared.refusal.Refusal.TheVariants.{Disk}
use Rattle.kcr_print.proofs.PartLemmas.{puts_at, puts_err}
use Rattle.kcr_print.proofs.RowLemmas.{goes_end, goes_front, goes_more, goes_refused, goes_start, whole_before, whole_rows}
use Rattle.kcr_print.proofs.write_rows.write_rows.Goals as goal

pub loop-init : goal.loop-init
loop-init g c = record {
  same_reference = refl;
  goes = goes_start _ _ _ _ _ c.rows-rows.ensures.begun.0 c.rows-rows.ensures.begun.1;
}

pub loop-preserved : goal.loop-preserved
loop-preserved g c = record {
  same_reference = c.next.ensures.same_reference ∙ c.loop.invariant.same_reference;
  goes = goes_more _ _ _ _ c.loop.invariant.goes _ c.next.ensures.peeks c.in_ok-row.ensures.rows c.in-Some.row c.in-Some.is
      c.in_ok-write_row.ensures.written c.in_ok-write_row.ensures.told;
}

pub returns-in_err-row-clause-prints : goal.returns-in_err-row-clause-prints
returns-in_err-row-clause-prints g c =
    let peeks = c.in_err-row.ensures.peeks in
    puts_at (search rules) (puts_err _ _ c.from_residual.ensures.1 (goes_refused _ _ _ _ c.loop.invariant.goes _ peeks peeks.cause))

pub returns-in_err-row-clause-whole : goal.returns-in_err-row-clause-whole
returns-in_err-row-clause-whole g c clean m has refusal is =
    whole_rows _ _ _ _ c.loop.invariant.goes _ c.next.ensures.peeks (search rules) m has refusal is

pub returns-in_default-clause-prints : goal.returns-in_default-clause-prints
returns-in_default-clause-prints g c =
    puts_at (search rules) (goes_end _ _ _ _ c.loop.invariant.goes _ c.next.ensures.peeks c.in_ok-row.ensures.rows c.in_default.is)

pub returns-in_err-write_row-clause-prints : goal.returns-in_err-write_row-clause-prints
returns-in_err-write_row-clause-prints g c =
    let said = c.in_err-write_row.ensures in
    puts_at (search rules) (puts_err _ _ c.from_residual-in_err-write_row.ensures.1
    (goes_front _ _ _ _ c.loop.invariant.goes _ c.next.ensures.peeks c.in_ok-row.ensures.rows c.in-Some.row c.in-Some.is said.written said.cause said.told))

pub returns-in_err-write_row-clause-whole : goal.returns-in_err-write_row-clause-whole
returns-in_err-write_row-clause-whole g c clean m has refusal is =
    whole_before _ _ _ _ c.loop.invariant.goes _ c.next.ensures.peeks c.in_ok-row.ensures.rows c.in-Some.row c.in-Some.is _
    c.from_residual-in_err-write_row.ensures.1 c.in_err-write_row.ensures.unwritten (search rules) m has refusal is

pub returns-clause-prints : goal.returns-clause-prints
returns-clause-prints g c =
    let still = reads_nothing {A = ⊤} {M = IsFault} {r = Err Disk} c.loop.rows.unbroken.now (inr refl) in
    puts_at (search rules) (goes_refused _ _ _ _ c.loop.invariant.goes Disk still (inr refl))

pub returns-clause-whole : goal.returns-clause-whole
returns-clause-whole g c clean m has refusal is =
    let still = reads_nothing {A = ⊤} {M = IsFault} {r = Err Disk} c.loop.rows.unbroken.now (inr refl) in
    whole_rows _ _ _ _ c.loop.invariant.goes _ still (search rules) m has refusal is
