use Rattle.std.proofs.Common.{◌≡◌, ◌+◌, ◌≤◌, ◌<◌, ◌^◌, [], length, ap, ◌∙◌, arith, length-append}
use Rattle.cap_resolve_forms.proofs.widths.linear.Goals as goal

pub form-requires : goal.form-requires
form-requires c = λ v h.
    let e : length c.of_scope-names.result ≡ length c.args.scope.now + 0 = ap length c.of_scope-names.ensures ∙ length-append c.args.scope.now [] in
    let r : length c.args.scope.now < 2 ^ 32 = c.requires in
    let k : v ≤ length c.of_scope-names.result = h in
    omega arith
