use Rattle.std.proofs.Common.{ap, ◌∙◌, ◌++◌, map, length, replicate, Some, pos}
use Rattle.std.specs.FinMap.{from_entries}
use Rattle.cap_prog.specs.Views.{function_view}
use Rattle.cap_goal_spec.specs.Environments.{zero_value, unbound}
use Rattle.cap_machine_accounts.specs.Assertions.{a_number}
use Rattle.cap_owners_spec.specs.Start.{unset}
use Rattle.cap_owners_start.proofs.Meets.{meeting_so}
use Rattle.cap_owners_start.proofs.start.first.Goals as goal

pub returns : goal.returns
returns c =
    let f = function_view c.args.function.now in
    let args = c.args.args.now in
    let e = c.in_ok-env.ensures ∙ ap (λ ss. map (λ z. Some zero_value) args ++ (unbound f.locals ++ unbound (length ss))) c.deref.ensures.value in
    let n = c.in_ok-fill-inside.ensures ∙ ap (λ ss. map a_number args ++ (replicate f.locals (a_number (pos 0)) ++ map unset ss)) c.deref-2.ensures.value in
    let empty = c.fill.view_is ∙ c.new-fill.ensures in
    meeting_so f args (from_entries c.args.heap.now) c.in_ok-env.env c.in_ok-fill-inside.field-0 c.fill.inside.wildcards c.fill.inside.facts.items c.in_ok-heap.heap e n (ap (λ x. x.wildcards) empty) (ap (λ x. x.facts) empty) c.in_ok-heap.ensures
