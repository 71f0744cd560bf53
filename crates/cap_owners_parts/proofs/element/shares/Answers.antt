use Rattle.std.proofs.Common.{◌≡◌, rules, arith}
use Rattle.cap_galg.specs.Elements.{share}
use Rattle.cap_galg.specs.Fractions.{lowest}
use Rattle.cap_owners_spec.specs.Traced.{over}
use Rattle.cap_owners_parts.specs.Views.{element_view}
use Rattle.cap_owners_parts.specs.declared.element.Element.TheBlock.{Share}
use Rattle.cap_owners_parts.specs.declared.element.Element.TheFolds.{the_lemmas}
use Rattle.cap_owners_parts.proofs.Shares.{shares_there, shares_untold}
use Rattle.cap_owners_parts.proofs.element.shares.Goals as goal

pub returns-then-sum-gt-OVER : goal.returns-then-sum-gt-OVER
returns-then-sum-gt-OVER c = shares_untold c.args.amount c.args.more (omega (arith, c.in-Some.ensures))

pub returns-else-sum-gt-OVER : goal.returns-else-sum-gt-OVER
returns-else-sum-gt-OVER c =
    let e : element_view (Share c.in-Some.sum) ≡ share (lowest c.in-Some.sum over) = search (rules, the_lemmas) in
    rw (e, c.in-Some.ensures.1) (shares_there c.args.amount c.args.more (omega (arith, c.in-Some.ensures)))

pub returns-in-None : goal.returns-in-None
returns-in-None c = shares_untold c.args.amount c.args.more (omega (arith, c.in-None.ensures))
