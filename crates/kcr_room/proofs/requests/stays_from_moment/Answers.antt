use Rattle.kcr_room.proofs.Common.{◌≡◌, ℕ, List, [], ◌∷◌, ◌++◌, map, refl, arith, filter, le-ltb, map-append, clipped_to_moment, later_stay, new_stay}
use Rattle.kcr_room.proofs.Common.{of_ceremony, stays_from_moment, Way, Enter, Leave}
use Rattle.kcr_room.specs.declared.Stay.{Stay}
use Rattle.kcr_room.proofs.Lists.{map-map}
use Rattle.kcr_room.proofs.requests.stays_from_moment.Goals.{in-Enter+in_ok-add_new_stays, in_default}
use Rattle.kcr_room.proofs.requests.stays_from_moment.Goals as goal

-- a stay that begins at the moment is whole from it on
whole : (ceremony at : ℕ) (people : List (List ℕ))
    → map (clipped_to_moment at) (map (new_stay ceremony at) people) ≡ map (new_stay ceremony at) people
whole ceremony at [] = refl
whole ceremony at (who ∷ people) = rw (le-ltb at at (omega arith), whole ceremony at people)

entered : (way : Way) (stays : List Stay) (ceremony at : ℕ) (people : List (List ℕ)) → way ≡ Enter
    → map (later_stay way people at) (filter (of_ceremony ceremony) stays) ++ map (new_stay ceremony at) people ≡ stays_from_moment stays ceremony way people at
entered way stays ceremony at people enter = grind (arith, map-append, whole ceremony at people)

left : (way : Way) (stays : List Stay) (ceremony at : ℕ) (people : List (List ℕ)) → way ≡ Leave
    → map (later_stay way people at) (filter (of_ceremony ceremony) stays) ≡ stays_from_moment stays ceremony way people at
left way stays ceremony at people leave = grind (arith, map-map)

pub returns : goal.returns
returns c =
    let asked = c.args.request.now in
    let entered_by = entered asked.way c.args.stays.now asked.ceremony asked.at asked.people.now in
    let left_by = left asked.way c.args.stays.now asked.ceremony asked.at asked.people.now in
    elim c.match-request.branch [
      | in-Enter+in_ok-add_new_stays w ↦ cc (w.later-is, w.in_ok-add_new_stays.ensures, c.in_ok-later.ensures, entered_by w.in-Enter.is)
      | in_default w ↦ cc (w.later-is, c.in_ok-later.ensures, left_by w.in_default.is)
    ]
