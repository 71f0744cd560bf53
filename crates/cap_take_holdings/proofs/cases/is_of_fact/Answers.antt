use Rattle.std.proofs.Common.{◌≡◌, Bool, true, false, sym, ◌∙◌, arith}
use Rattle.std.specs.Prelude.{◌==◌, ◌||◌}
use Rattle.std.proofs.lemmas.Bool.Decides.{nat_tests}
use Rattle.cap_take_holdings.proofs.Names.{neither}
use Rattle.cap_take_holdings.proofs.cases.is_of_fact.Goals as goal

pub returns : goal.returns
returns c =
    let n : (c.args.region == c.args.name) ≡ false = grind (arith, nat_tests) in
    neither _ _ _ _ n (sym c.is_among.ensures ∙ c.if-is_among.false) c.is_slot.ensures
