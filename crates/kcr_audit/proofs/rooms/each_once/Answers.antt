use Rattle.kcr_audit.proofs.Common.{eqb, sym, subst, Contains, Contains-permutation}
use Rattle.std.proofs.lemmas.List.{Filters.dedup_is, Kept.Contains-dedup_nat}
use Rattle.kcr_audit.proofs.rooms.each_once.Goals as goal

pub returns : goal.returns
returns c = λ n h.
    let sorted = Contains-permutation c.args.numbers.items c.sort_unstable.new.self.items n c.sort_unstable.ensures.permutation h in
    subst (λ xs. Contains xs n) (sym (dedup_is eqb c.sort_unstable.new.self.items c.dedup.new.self.items c.dedup.ensures.filtered))
    (Contains-dedup_nat c.sort_unstable.new.self.items n sorted)
