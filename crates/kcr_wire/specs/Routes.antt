-- The routes, and what a router that took them in their order holds.
use Rattle.std.specs.Prelude.{ℕ, List, [], ◌∷◌, map, Result, Ok, Err, Bool, true, false, ◌&&◌, Option, Some, None}
use Rattle.std.specs.Borrow.{Bor}
use Rattle.matchit.specs.{Rows.RowsOf, Order.placed, Route.parse_route, Route.Scan}
use Rattle.matchit.specs.{Router.RouteOf, Router.route_from, Router.nearest, declared.error.InsertError.InsertError}
use Rattle.kcr_wire.specs.declared.route.{Route.Route, TheConstants.ROUTES}

-- a route as `matchit` reads it, and what it stands for
abbrev pub Row : Type 0
Row = List ℕ × Route

-- a row of a table in the code, and what it tells
abbrev pub CodeRow : Type 0
CodeRow = Bor (List ℕ) × Route

abbrev pub row_of : CodeRow → Row
row_of row = (row.0.now, row.1)

abbrev pub rows_of : List CodeRow → List Row
rows_of rows = map row_of rows

-- the routes in the order in which the router takes them: those of the code
abbrev pub all_routes : List Row
all_routes = map (λ row. (row.0.now, row.1)) ROUTES

-- what a router holds
abbrev pub RouterState : Type 0
RouterState = RowsOf (RouteOf Route)

-- what a router holds after a route whose text was read
abbrev pub added : Result Scan InsertError → Route → RouterState → RouterState
added (Ok s) route held = placed ((route_from s route).pattern, route_from s route) held
added (Err e) route held = held

-- one more route
unfoldable pub add : RouterState → Row → RouterState
add held row = added (parse_route row.0) row.1 held

-- several routes, one after the other
unfoldable pub add_all : RouterState → List Row → RouterState
add_all held [] = held
add_all held (r ∷ rest) = add_all (add held r) rest

-- no route that is held conflicts with the new one
abbrev pub is_free : Option (RouteOf Route) → Bool
is_free None = true
is_free (Some other) = false

-- the route's text reads, and no route that is held conflicts with it
abbrev pub fits : Result Scan InsertError → RouterState → Bool
fits (Ok s) held = is_free (nearest s.pattern held)
fits (Err e) held = false

-- a route can be added
unfoldable pub can_add : RouterState → Row → Bool
can_add held row = fits (parse_route row.0) held

-- each route can be added to those before it
unfoldable pub can_add_all : RouterState → List Row → Bool
can_add_all held [] = true
can_add_all held (r ∷ rest) = can_add held r && can_add_all (add held r) rest

-- all the routes
unfoldable pub table : RouterState
table = add_all [] all_routes
