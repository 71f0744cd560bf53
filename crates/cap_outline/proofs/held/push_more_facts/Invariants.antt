use Rattle.std.proofs.Common.{◌≡◌, ◌++◌, drop}
use Rattle.std.specs.Prelude.{codes, flat_map}
use Rattle.cap_prog.specs.Views.{program_view}
use Rattle.cap_outline_spec.specs.Texts.{fact_text}
use Rattle.cap_outline.proofs.held.push_more_facts.Given as goal

-- what is written and what is left are the whole
abbrev pub invariant-loop-fact : goal.invariant-loop-fact
invariant-loop-fact l =
    l.text.items ++ flat_map (λ x. codes "; " ++ fact_text (program_view l.program) x) (drop l.fact-index l.facts)
    ≡ l.fn.text.items ++ flat_map (λ x. codes "; " ++ fact_text (program_view l.program) x) l.facts
