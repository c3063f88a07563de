use Rattle.std.proofs.Common.{◌≡◌, drop}
use Rattle.kcr_forms.specs.Lines.{each_of}
use Rattle.kcr_forms.proofs.Listing.{bytes_of, after_codes}
use Rattle.kcr_forms.proofs.lists.each_of.Given as goal

abbrev pub invariant-loop-code : goal.invariant-loop-code
invariant-loop-code g l =
    let form = g.T.Written.form in
    after_codes l.list.items (each_of form (bytes_of (drop l.code-index l.codes))) ≡ each_of form (bytes_of l.codes)
