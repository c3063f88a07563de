-- What an insert leaves, and that over these routes only memory can be wanting.
use Rattle.kcr_wire.proofs.Common.{◌≡◌, ◌<◌, ◌≤◌, ◌+◌, ℕ, Ok, Err, List, [], true, refl, length, drop, get_or, arith, and_parts, drop_more, drop_all}
use Rattle.kcr_wire.proofs.Common.{InsertsRead, OutOfMemory, Route, CodeRow, row_of, rows_of, RouterState, all_routes}
use Rattle.matchit.specs.{Route.parse_route, declared.error.InsertError.InsertError}
use Rattle.matchit.proofs.OnLiterals.{matchit_on_literals}
use Rattle.kcr_wire.specs.Routes.{add, add_all, can_add, can_add_all}

-- an insert of a route that answers `Ok` adds this route
pub add-inserted : (text : List ℕ) (route : Route) (old new : RouterState) → InsertsRead (parse_route text) route old new (Ok tt) → new ≡ add old (text, route)
unfolding add
add-inserted text route old new h = grind (arith, h)

-- one turn of the loop that adds routes
pub add_all-turn : (routes : List CodeRow) (i : ℕ) (d : CodeRow) (old new : RouterState) → i < length routes → new ≡ add old (row_of (get_or routes i d))
    → add_all new (rows_of (drop (i + 1) routes)) ≡ add_all old (rows_of (drop i routes))
unfolding add_all
add_all-turn routes i d old new lt e = rw (drop_more routes i d lt, e) refl

-- no route is left
pub add_all-end : (held : RouterState) (routes : List CodeRow) (i : ℕ) → length routes ≤ i → add_all held (rows_of (drop i routes)) ≡ held
unfolding add_all
add_all-end held routes i le = rw (drop_all i routes le) refl

-- an insert of a route that can be added fails only when out of memory
pub only-memory : (text : List ℕ) (route : Route) (old new : RouterState) (error : InsertError) → can_add old (text, route) ≡ true
    → InsertsRead (parse_route text) route old new (Err error) → error ≡ OutOfMemory
unfolding can_add
only-memory text route old new error can h = grind (arith, can, h)

-- one turn of the loop: the next route can be added, and then each behind it
pub can_add_all-turn : (held : RouterState) (routes : List CodeRow) (i : ℕ) (d : CodeRow) → i < length routes → can_add_all held (rows_of (drop i routes)) ≡ true
    → (can_add held (row_of (get_or routes i d)) ≡ true) × (can_add_all (add held (row_of (get_or routes i d))) (rows_of (drop (i + 1) routes)) ≡ true)
unfolding can_add_all
can_add_all-turn held routes i d lt can = and_parts _ _ (rw (drop_more routes i d lt) at can)

-- the register's own routes can be added, each to those before it
pub all-can : can_add_all [] all_routes ≡ true
unfolding matchit_on_literals can_add_all can_add add
all-can = refl
