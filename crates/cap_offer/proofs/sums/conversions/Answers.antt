use Rattle.std.proofs.Common.{◌++◌, ap, ◌∙◌}
use Rattle.cap_galg.specs.Views.{algebra_view}
use Rattle.cap_offer.specs.Sums.{conversions_in}
use Rattle.cap_offer.specs.Views.{choices_view}
use Rattle.cap_offer.proofs.Numbers.{conversions-all}
use Rattle.cap_offer.proofs.sums.conversions.Goals as goal

pub returns-in_ok-add_conversions-in-Some : goal.returns-in_ok-add_conversions-in-Some
returns-in_ok-add_conversions-in-Some c =
    let x = algebra_view c.in-Some.region.now.algebra in
    rw c.in-Some.is
    (c.in_ok-add_conversions-in-Some.ensures.1
    ∙ (ap (λ cs. choices_view cs ++ conversions_in c.args.atom x 0 0) c.new-all.ensures.items ∙ conversions-all c.args.atom x))
