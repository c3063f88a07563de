use Rattle.kcr_wire.proofs.Common.{◌≡◌, List, [], ◌∷◌, map, refl, take_all, string}
use Rattle.kcr_wire.proofs.body_members.code_values.Goals as goal

map-map : {X Y Z : Type 0} (f : Y → Z) (g : X → Y) (xs : List X) → map f (map g xs) ≡ map (λ x. f (g x)) xs
map-map f g [] = refl
map-map f g (x ∷ xs) = rw (map-map f g xs)

pub returns : goal.returns
returns g c =
    rw (g.met.T.ListElement.each c.args.codes.now, map-map string g.T.Written.text c.args.codes.now)
    (rw (take_all _ _ c.loop-code-test.false) at c.loop-code.invariant)
