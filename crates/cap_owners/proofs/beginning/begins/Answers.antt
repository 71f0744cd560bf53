use Rattle.cap_goal_spec.specs.Roots.{function_unit}
use Rattle.cap_owners_places.specs.Views.{proved_of}
use Rattle.cap_owners_spec.specs.Steps.{root_at}
use Rattle.cap_owners.proofs.Placing.{root-placed}
use Rattle.cap_owners.proofs.beginning.begins.Goals as goal

pub returns-clause-placed : goal.returns-clause-placed
returns-clause-placed c = λ p ts are. record {
  seat = (c.in-Some.ensures p ts are).1;
  given = root-placed p (root_at (proved_of p ts) (function_unit c.args.opening.function) c.args.opening.stability) c.at-2.result (c.at-2.ensures p ts are);
}
