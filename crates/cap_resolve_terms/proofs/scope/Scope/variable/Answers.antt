use Rattle.std.proofs.Common.{◌≤◌, length, arith}
use Rattle.cap_resolve_terms.proofs.Numbers.{variable_within}
use Rattle.cap_resolve_terms.proofs.scope.Scope.variable.Goals as goal

pub overflow_cast-result : goal.overflow_cast-result
overflow_cast-result c =
    let a : c.number.result ≤ length c.args.self.now = rw c.number.ensures (variable_within c.args.self.now c.args.name.now) in
    omega (arith, c.requires)
