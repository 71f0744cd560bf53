-- The candidates of a fact by its number.
use Rattle.std.specs.Prelude.{ℕ, List, [], map, slice_get, Option, Some, None}
use Rattle.cap_prog.specs.Program.{PlainRegionType, PlainProgram}
use Rattle.cap_goal_spec.specs.States.{PlainFact, PlainState}
use Rattle.cap_goal_spec.specs.Candidates.{candidates, PlainCandidate, candidate_of}

unfoldable pub candidates_seen : PlainRegionType → PlainState → PlainFact → List PlainCandidate
candidates_seen k s f = map candidate_of (candidates k s f)

abbrev pub of_type : PlainState → PlainFact → Option PlainRegionType → List PlainCandidate
of_type s f None = []
of_type s f (Some k) = candidates_seen k s f

abbrev pub of_fact : PlainProgram → PlainState → Option PlainFact → List PlainCandidate
of_fact p s None = []
of_fact p s (Some f) = of_type s f (slice_get p.regions f.kind)

abbrev pub candidates_at : PlainProgram → PlainState → ℕ → List PlainCandidate
candidates_at p s j = of_fact p s (slice_get s.facts j)
