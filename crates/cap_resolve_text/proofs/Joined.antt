-- The parts of what is wrong in a text, joined.
use Rattle.std.proofs.Common.{◌≡◌, List, ◌++◌, map, sym, ap, ◌∙◌}
use Rattle.std.proofs.lemmas.List.{append_assoc, map-append}
use Rattle.cap_parse_tree.specs.Tree.{ProgramTree}
use Rattle.cap_prog.specs.WellFormed.{most_functions, most_regions}
use Rattle.cap_resolve_spec.specs.Finding.{twice_word, region_count, function_count}
use Rattle.cap_resolve_spec.specs.Parts.{regions, functions}
use Rattle.cap_resolve_spec.specs.Names.{repeated, past}
use Rattle.cap_resolve_spec.specs.Stands.{region_word, function_word, findings}
use Rattle.cap_resolve_text.specs.Parts.{text_part, contents_part}

four : {A : Type 0} (a b c d e : List A) → (a ++ (b ++ (c ++ d))) ++ e ≡ (a ++ b) ++ (c ++ (d ++ e))
four a b c d e =
    append_assoc a (b ++ (c ++ d)) e
    ∙ (ap (λ x. a ++ x) (append_assoc b (c ++ d) e ∙ ap (λ x. b ++ x) (append_assoc c d e))
    ∙ sym (append_assoc a b (c ++ (d ++ e))))

pub text_is : (t : ProgramTree) → text_part (regions t) (functions t) ≡ findings t
text_is t =
    four (map twice_word (repeated (map region_word (regions t)))) (map twice_word (repeated (map function_word (functions t)))) (past most_regions region_count (map region_word (regions t))) (past most_functions function_count (map function_word (functions t))) (contents_part (regions t) (functions t))
    ∙ ap (λ x. x ++ (past most_regions region_count (map region_word (regions t)) ++ (past most_functions function_count (map function_word (functions t)) ++ contents_part (regions t) (functions t)))) (sym (map-append twice_word (repeated (map region_word (regions t))) (repeated (map function_word (functions t)))))
