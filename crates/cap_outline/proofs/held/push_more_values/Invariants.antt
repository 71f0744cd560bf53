use Rattle.std.proofs.Common.{◌≡◌, ◌++◌}
use Rattle.std.specs.Prelude.{codes, flat_map}
use Rattle.std.specs.Iterator.Adapters.{zip_first, zip_second}
use Rattle.std.specs.List.{zip}
use Rattle.std.specs.Slice.Iter.{iter_rest}
use Rattle.cap_outline_spec.specs.Texts.{value_text}
use Rattle.cap_outline.proofs.held.push_more_values.Given as goal

-- what is written and what is left are the whole
abbrev pub invariant-loop-name : goal.invariant-loop-name
invariant-loop-name l =
    l.text.items
    ++ flat_map (λ x. codes "; " ++ value_text x) (zip (iter_rest (zip_first l.name-iterator)) (iter_rest (zip_second l.name-iterator)))
    ≡ l.fn.text.items ++ flat_map (λ x. codes "; " ++ value_text x) (zip l.names l.values)
