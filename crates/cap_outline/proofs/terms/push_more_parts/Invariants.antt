use Rattle.std.proofs.Common.{◌≡◌, ◌++◌, drop}
use Rattle.std.specs.Prelude.{codes, flat_map}
use Rattle.cap_outline_spec.specs.Texts.{part_text}
use Rattle.cap_outline.proofs.terms.push_more_parts.Given as goal

-- what is written and what is left are the whole
abbrev pub invariant-loop-part : goal.invariant-loop-part
invariant-loop-part l =
    l.text.items ++ flat_map (λ q. codes " + " ++ part_text q) (drop l.part-index l.parts)
    ≡ l.fn.text.items ++ flat_map (λ q. codes " + " ++ part_text q) l.parts
