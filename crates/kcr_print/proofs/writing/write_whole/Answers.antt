use Rattle.kcr_print.proofs.Common.{◌≡◌, ◌-◌, ◌≤◌, length, take, drop, subst, sym, arith, ◌∙◌, length-drop, add-zero, take_all, ne_eqb, Appends}
use Rattle.kcr_print.proofs.{Common.take-add, WrittenLemmas.appends_both}
use Rattle.kcr_print.proofs.writing.write_whole.Goals as goal

pub loop-at-preserved : goal.loop-at-preserved
loop-at-preserved g c =
    let at = c.loop-at.at in
    let piece = c.args.piece.now in
    let n = c.in-Ok.count in
    let P = Appends (g.W.Write.contents c.args.writer.now.inner) (g.W.Write.contents c.write.new.self.inner) in
    let room : length piece - at ≤ length piece = omega arith in
    let rest : take (length piece - at) (drop at piece) ≡ drop at piece = take_all (length piece - at) (drop at piece) (simp length-drop (omega arith)) in
    let bytes = rw rest at c.in-Ok.ensures.bytes in
    let bound : n ≤ length (drop at piece) = rw rest at c.in-Ok.ensures.bound in
    record {
      within = let b : n ≤ length piece - at = simp length-drop at bound in omega arith;
      calm = let f = c.in-Ok.ensures.failed in let ne = c.in-Ok.count-test.1 in rw (ne_eqb n 0 ne) at f ∙ add-zero _ ∙ c.loop-at.invariant.calm;
      written = subst P (sym (take-add at n piece)) (appends_both _ _ _ (take at piece) (take n (drop at piece)) c.loop-at.invariant.written bytes);
    }
