-- Lists to which parts are added one by one.
use Rattle.std.proofs.Common.{◌≡◌, sym, ap, ◌∙◌, List, [], ◌∷◌, ◌++◌, append_assoc, append-nil, filter_map, fold, Option, Some, None, option_to_list}
use Rattle.std.specs.List.{cons_option}
use Rattle.cap_parse_tree.specs.declared.word.Word.{Word}
use Rattle.cap_parse_tree.specs.Tree.{FactorTree}
use Rattle.cap_resolve_spec.specs.Parts.{named_word}
use Rattle.cap_resolve_parts.specs.Views.{add_word}

pub words_added : (before : List Word) (fs : List FactorTree) → fold add_word before fs ≡ before ++ filter_map named_word fs
words_added before [] = sym (append-nil before)
words_added before (f ∷ fs) = words_added (add_word before f) fs ∙ by (named_word f)
  where
    by : (w : Option Word) → (before ++ option_to_list w) ++ filter_map named_word fs ≡ before ++ cons_option w (filter_map named_word fs)
    by None = ap (λ ws. ws ++ filter_map named_word fs) (append-nil before)
    by (Some w) = append_assoc before (w ∷ []) (filter_map named_word fs)
