-- What contracts see of candidates.
use Rattle.std.specs.Prelude.{List, map}
use Rattle.cap_goal_spec.specs.Candidates.{PlainCandidate, known, past}
use Rattle.cap_stab_states.specs.declared.candidate.Candidate.{Candidate}
use Rattle.cap_stab_states.specs.declared.candidate.Candidate.TheVariants.{Known, Past}

abbrev pub candidate_view : Candidate → PlainCandidate
candidate_view (Known r) = known r
candidate_view (Past a b) = past a b

abbrev pub candidates_view : List Candidate → List PlainCandidate
candidates_view cs = map candidate_view cs
