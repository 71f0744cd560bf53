use Rattle.std.proofs.Common.{◌≡◌, ◌++◌, drop}
use Rattle.std.specs.Prelude.{codes, flat_map}
use Rattle.cap_outline_spec.specs.Texts.{term_text}
use Rattle.cap_outline.proofs.terms.push_terms.Given as goal

-- what is written and what is left are the whole
abbrev pub invariant-loop-term : goal.invariant-loop-term
invariant-loop-term l =
    l.text.items ++ flat_map (λ t. codes ", " ++ term_text t) (drop l.term-index l.more)
    ≡ l.fn.text.items
    ++ (term_text l.first ++ flat_map (λ t. codes ", " ++ term_text t) l.more)
