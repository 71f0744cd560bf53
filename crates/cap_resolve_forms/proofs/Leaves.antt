-- The names of the leaves of products and sums, in a row.
use Rattle.std.proofs.Common.{◌≡◌, ap, ◌∙◌, sym, append_assoc, List, ◌++◌, filter_map}
use Rattle.std.proofs.lemmas.List.{map-append}
use Rattle.std.proofs.lemmas.List.Elements.{filter_map-append}
use Rattle.cap_lin.specs.declared.row.Sort.TheVariants.{Int}
use Rattle.cap_parse_tree.specs.Tree.{FactorTree}
use Rattle.cap_resolve_spec.specs.Parts.{named_word}
use Rattle.cap_resolve_spec.specs.Names.{NameScope, known_as, whole_numbers}

abbrev pub names_of : List FactorTree → NameScope
names_of fs = whole_numbers (filter_map named_word fs)

pub names_append : (xs ys : List FactorTree) → names_of (xs ++ ys) ≡ names_of xs ++ names_of ys
names_append xs ys =
    ap whole_numbers (filter_map-append named_word xs ys)
    ∙ map-append (known_as Int) (filter_map named_word xs) (filter_map named_word ys)

pub names_after : (a b : NameScope) (xs ys : List FactorTree) → b ≡ a ++ names_of xs → b ++ names_of ys ≡ a ++ names_of (xs ++ ys)
names_after a b xs ys e =
    ap (λ s. s ++ names_of ys) e ∙ (append_assoc a (names_of xs) (names_of ys) ∙ ap (λ s. a ++ s) (sym (names_append xs ys)))
