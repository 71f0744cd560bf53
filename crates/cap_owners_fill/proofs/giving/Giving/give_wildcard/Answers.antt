use Rattle.std.proofs.Common.{arith, ap, ◌∙◌}
use Rattle.std.proofs.lemmas.Result.{on_ok_weaker}
use Rattle.cap_owners_spec.specs.Filling.{give_wildcard}
use Rattle.cap_owners_fill.proofs.Passing.{wildcard_given}
use Rattle.cap_owners_fill.proofs.giving.Giving.give_wildcard.Goals as goal

pub returns : goal.returns
returns c =
    let g = c.self.inside in
    on_ok_weaker c.append.result (λ q. wildcard_given g.env g.brought g.wildcards g.used c.in_ok-next.next c.append.new.self (omega arith) c.in_ok-next.ensures q ∙ ap (λ h. give_wildcard h.wildcards h) c.self.view_is) c.append.ensures.appended
