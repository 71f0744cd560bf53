use Rattle.std.proofs.Common.{◌≡◌, ◌++◌, drop, map}
use Rattle.std.specs.Prelude.{flat_map}
use Rattle.cap_owners_parts.proofs.text.push_more.Given as goal

-- what is written and what is left are the whole
abbrev pub invariant-loop-more : goal.invariant-loop-more
invariant-loop-more l =
    l.text.items ++ flat_map (λ t. l.separator ++ t) (map (λ t. t.items) (drop l.more-index l.texts))
    ≡ l.fn.text.items ++ flat_map (λ t. l.separator ++ t) (map (λ t. t.items) l.texts)
