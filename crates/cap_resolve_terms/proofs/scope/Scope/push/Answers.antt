use Rattle.std.proofs.Common.{[], ◌∷◌, ◌++◌, length, ap, ◌∙◌}
use Rattle.cap_resolve_terms.proofs.Numbers.{push-numbers}
use Rattle.cap_resolve_terms.proofs.scope.Scope.push.Goals as goal

pub invariant_of-self-2 : goal.invariant_of-self-2
invariant_of-self-2 c = λ x.
    c.in_ok-put_known.ensures.put x
    ∙ push-numbers c.self.inside.entries.items c.push_reserved.new.self.items c.args.known _ x _
    (c.push_reserved.ensures.items ∙ ap (λ xs. xs ++ c.args.known ∷ []) c.in_ok-reserve.ensures.items)
    (ap length c.as_slice-number.ensures.value) (c.self.invariant x)
