-- What is wrong in terms in brackets.
use Rattle.std.specs.Prelude.{List, flat_map}
use Rattle.cap_parse_tree.specs.Tree.{TermTree}
use Rattle.cap_resolve_spec.specs.Finding.{Finding}
use Rattle.cap_resolve_spec.specs.Names.{NameScope}
use Rattle.cap_resolve_spec.specs.Terms.{term_sort, products_findings}

abbrev pub brackets_findings : NameScope → List TermTree → List Finding
brackets_findings sc ts = flat_map (λ t. products_findings sc (term_sort sc t) t) ts
