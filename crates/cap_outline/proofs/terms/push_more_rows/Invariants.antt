use Rattle.std.proofs.Common.{◌≡◌, ◌++◌, drop}
use Rattle.std.specs.Prelude.{codes, flat_map}
use Rattle.cap_outline_spec.specs.Texts.{row_text}
use Rattle.cap_outline.proofs.terms.push_more_rows.Given as goal

-- what is written and what is left are the whole
abbrev pub invariant-loop-row : goal.invariant-loop-row
invariant-loop-row l =
    l.text.items ++ flat_map (λ r. codes "; " ++ row_text r) (drop l.row-index l.rows)
    ≡ l.fn.text.items ++ flat_map (λ r. codes "; " ++ row_text r) l.rows
