-- What the traffic of a room tells.
use Rattle.std.specs.Prelude.{ℕ, ◌-◌, ◌==◌, Bool, nat_lt, List}
use Rattle.std.specs.List.Sorted.{IsPermutation}
use Rattle.kcr_base.specs.declared.limits.TheConstants.{MAX_PRESENT}
use Rattle.kcr_room.specs.{declared.Stay.Stay, declared.occupancy.Occupancy.Occupancy, Moments.count_until, Stays.comings_by, Stays.goings_by}

-- how many people are in the room at t: those who have come, without those who have gone
abbrev pub headcount_of : Occupancy → ℕ → ℕ
headcount_of traffic t = count_until traffic.arrivals.items t - count_until traffic.departures.items t

-- more than `MAX_PRESENT` people are in the room at t
abbrev pub is_crowd_of : Occupancy → ℕ → Bool
is_crowd_of traffic t = nat_lt MAX_PRESENT (headcount_of traffic t)

-- exactly one person is in the room at t
abbrev pub is_lone_of : Occupancy → ℕ → Bool
is_lone_of traffic t = headcount_of traffic t == 1

-- it has the moments of the stays, in some order
abbrev pub HasMomentsOf : Occupancy → List Stay → ℕ → Type 0
HasMomentsOf traffic stays ceremony =
    IsPermutation (comings_by stays ceremony) traffic.arrivals.items
    × IsPermutation (goings_by stays ceremony) traffic.departures.items
