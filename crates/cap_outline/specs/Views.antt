-- What contracts see of the statement at which a goal stands.
use Rattle.cap_goal.specs.Views.{home_view}
use Rattle.cap_outline.specs.declared.points.Spot.{Spot}
use Rattle.cap_outline_spec.specs.Standing.{Point}

abbrev pub spot_view : Spot → Point
spot_view s = record { home = home_view s.home; number = s.number }
