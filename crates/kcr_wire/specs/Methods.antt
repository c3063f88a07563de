-- The method of a request, and the refusal of one that no path takes.
use Rattle.std.specs.Prelude.{ℕ, ◌||◌, List, codes, Result, Ok, Err, if◌then◌else◌}
use Rattle.std.specs.Str.{bytes_eq}
use Rattle.kcr_base.specs.declared.refusal.Refusal.{Refusal}
use Rattle.kcr_base.specs.declared.refusal.Refusal.TheVariants as refusal
use Rattle.kcr_wire.specs.{Endpoints.target_of, declared.endpoint.Endpoint.Endpoint}
use Rattle.kcr_wire.specs.declared.method.Method.{Method, TheVariants.Ask, TheVariants.Post, TheVariants.Other}

-- the method that a token names, in capitals
unfoldable pub method_of : List ℕ → Method
method_of token =
    if bytes_eq token (codes "POST") then Post else
    if bytes_eq token (codes "GET") || bytes_eq token (codes "HEAD") then Ask else Other

-- the refusal of a known path for its method, or of an unknown one
abbrev pub refused : Result Endpoint Refusal → Refusal
refused (Ok endpoint) = refusal.Method
refused (Err unknown) = unknown

-- the refusal of a target for a method that no path takes
unfoldable pub refused_of : List ℕ → Refusal
refused_of target = refused (target_of target)
