-- `new` makes a value of no bytes, at 0.
use Rattle.std.proofs.raw_atomic.Walks.{proved}
use Rattle.kcr_base.proofs.Walks.{refl, [], ◌∷◌, vstruct, vnil, emp, via, fst∗, ‵, raw, ◌$◌, ◌∵◌, !, qed, move, suffices, done, no_more, returns}
use Rattle.kcr_base.proofs.Walks.{enter, agg, alloc_all, pass_all, free_all, look_at, sets, owns, pure_i, alive, says, walk_of, ends_at}
use Rattle.kcr_base.specs.contracts.tally.Tally as made
use Rattle.kcr_base.specs.contracts.tally.Tally.new as f
use Rattle.kcr_base.proofs.tally.Tally.new.Statement.{statement}
use Rattle.kcr_base.proofs.tally.Tally.new.Code as code

pub new_spec : {M : Type 1} → statement M
new_spec 𝓤 𝓛 𝓜 𝓡 wired =
    let c = f.clauses 𝓛 𝓜.mem 𝓡.returns in
    proved 𝓛 f.ended tt c 𝓜 𝓡 tt f.Key.name code.function (code.unfolded 𝓤 𝓛.H 𝓜 𝓡 wired) (λ κs. tt) (λ κs. tt) (λ κs qs bounds a z are.
    let y : (walk_of 𝓛 f.ended tt c).Ghost = ((κs, qs, bounds, a, tt), z) in
    via 𝓤 _ (fst∗ 𝓤 _ (emp 𝓤)) (qed 𝓛 (raw (alive 𝓛 f.signature κs qs) ∷ ‵ (owns [] a tt) ∷ []) ∵
    enter ! _ _ _ _ _ $ alloc_all ! (λ l. pass_all ! refl tt $ sets ! (agg ! (no_more !)) refl (tt, tt) $
    returns ! (look_at ! 0 refl) $ free_all ! refl $
    suffices ! _ (ends_at 𝓛 f.ended tt c y (vstruct vnil) (record { count = 0 }) tt tt) $
    says ! refl $ pure_i ! (made.the_row.own_val (record { count = 0 }) (vstruct vnil ∷ [])) ((λ vss. (tt, tt)), tt) ((tt, (refl, tt)), tt) $
    move ! (1 ∷ 2 ∷ 0 ∷ []) $ done !)))
