use Rattle.std.proofs.Common.{rules}
use Rattle.cap_prog.specs.Views.{function_view}
use Rattle.cap_goal.specs.Views.{home_view}
use Rattle.cap_rules_steps.proofs.Naming.{own-names}
use Rattle.cap_rules_steps.proofs.envs.own_env.Goals as goal

pub returns : goal.returns
returns c = rw (c.in_ok-push_unbound.ensures, c.in_ok-push.ensures.items, c.in_ok-push_bound-2.ensures, c.in_ok-push_names.ensures, c.in_ok-push_bound.ensures) (own-names (function_view c.args.function.now) (home_view c.args.home) c.args.params.now _ c.args.locals _ _ _ _ (search rules) (search rules) (search rules))
