use Rattle.std.proofs.Common.{◌≡◌, length, ap, ◌∙◌, [], arith}
use Rattle.cap_rules_fits.proofs.Functions.{store-length}
use Rattle.cap_goal_roots.proofs.function.root_state.Goals as goal

pub add_all_values-requires : goal.add_all_values-requires
add_all_values-requires c =
    let f = c.args.function.now in
    let none : c.add_all_sorts.new.state.store ≡ [] = ap (λ s. s.store) c.in_ok-add_all_sorts.ensures ∙ ap (λ s. s.store) c.in_ok-state.ensures in
    let all = c.deref-2.ensures.value ∙ c.in_ok-root_store.ensures in
    omega (arith, ap length none, ap length all, store-length c.args.knows.locals f.params f.locals)
