use Rattle.std.proofs.Common.{rules, ◌≡◌, length, sym, ap, ◌∙◌}
use Rattle.cap_prog.specs.Views.{function_view}
use Rattle.cap_rules_steps.proofs.Naming.{callee-names, names-seen}
use Rattle.cap_rules_steps.proofs.envs.callee_env.Goals as goal

pub returns : goal.returns
returns c =
    let n : c.len-2.result ≡ length c.args.function.now.ensures_.names.items = search rules in
    let m = n ∙ ap length (sym (names-seen c.args.function.now.ensures_)) in
    rw (c.in_ok-push_unbound-3.ensures, c.in_ok-push.ensures.items, c.in_ok-push_unbound-2.ensures, c.in_ok-push_unbound.ensures, c.in_ok-push_bound.ensures) (callee-names (function_view c.args.function.now) c.args.args.now c.args.result_term.now _ _ _ _ _ (search rules) (search rules) (search rules) m (search rules))
