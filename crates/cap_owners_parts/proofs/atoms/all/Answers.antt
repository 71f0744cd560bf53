use Rattle.std.proofs.Common.{◌≡◌, ◌∙◌, rules}
use Rattle.cap_galg.specs.Elements.{share}
use Rattle.cap_galg.specs.Fractions.{lowest}
use Rattle.cap_owners_spec.specs.Traced.{over}
use Rattle.cap_owners_parts.specs.Views.{element_view}
use Rattle.cap_owners_parts.specs.declared.element.Element.TheBlock.{Share}
use Rattle.cap_owners_parts.specs.declared.element.Element.TheFolds.{the_lemmas}
use Rattle.cap_owners_parts.proofs.Shares.{all_is}
use Rattle.cap_owners_parts.proofs.atoms.all.Goals as goal

pub returns : goal.returns
returns c =
    let e : element_view (Share 9223372036854775808) ≡ share (lowest 9223372036854775808 over) = search (rules, the_lemmas) in
    e ∙ all_is
