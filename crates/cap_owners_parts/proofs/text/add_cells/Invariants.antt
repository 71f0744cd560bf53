use Rattle.std.proofs.Common.{◌≡◌, ◌++◌, map}
use Rattle.cap_owners_spec.specs.Texts.{owned_cell_text}
use Rattle.cap_owners_parts.proofs.text.add_cells.Given as goal

-- what is written and what is left are the whole
abbrev pub invariant-loop-address : goal.invariant-loop-address
invariant-loop-address l =
    map (λ t. t.items) l.texts.items ++ map owned_cell_text l.address-iterator
    ≡ map (λ t. t.items) l.fn.texts.items ++ map owned_cell_text l.cells.entries
