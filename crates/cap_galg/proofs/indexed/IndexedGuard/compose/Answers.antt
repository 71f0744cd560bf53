use Rattle.std.proofs.Common.{◌≡◌, sym, ap, ◌∙◌, Some, None}
use Rattle.cap_galg_indices.specs.Sets.{composed}
use Rattle.cap_galg_spec.specs.Elements.{index_set, bind}
use Rattle.cap_galg.proofs.Sets.{sets-compose, sets-narrow}
use Rattle.cap_galg.proofs.indexed.IndexedGuard.compose.Goals as goal

pub returns-in-Some-clause-composed : goal.returns-in-Some-clause-composed
returns-in-Some-clause-composed c =
    let xs = c.args.self.now.indices in
    let ys = c.args.other.now.indices in
    let n : Some c.in-Some.indices ≡ composed xs ys = sym c.in-Some.is ∙ c.in_ok-indices.ensures in
    (sets-compose xs ys c.args.self.now.proper c.args.other.now.proper ∙ ap (λ o. bind o (λ zs. Some (index_set zs))) (sym n), sets-narrow xs ys)

pub returns-in-None-clause-composed : goal.returns-in-None-clause-composed
returns-in-None-clause-composed c =
    let xs = c.args.self.now.indices in
    let ys = c.args.other.now.indices in
    let n : None ≡ composed xs ys = sym c.in-None.is ∙ c.in_ok-indices.ensures in
    sets-compose xs ys c.args.self.now.proper c.args.other.now.proper ∙ ap (λ o. bind o (λ zs. Some (index_set zs))) (sym n)
