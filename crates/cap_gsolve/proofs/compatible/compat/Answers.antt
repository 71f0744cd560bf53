use Rattle.std.proofs.Common.{◌≡◌, sym, subst}
use Rattle.std.specs.Prelude.{option_map}
use Rattle.cap_galg.specs.Views.{algebra_view}
use Rattle.cap_gsolve.specs.Compat.{compat, compat_steps}
use Rattle.cap_gsolve.specs.Meaning.{CoversWanted}
use Rattle.cap_gsolve.proofs.Means.{if-made, compat-means}
use Rattle.cap_gsolve.proofs.compatible.compat.Goals as goal

pub returns-clause-means : goal.returns-clause-means
returns-clause-means c =
    let a = algebra_view c.args.algebra.now in
    if-made c.compared.result
    (compat_steps a c.args.pieces.now c.args.region.now c.args.kind c.args.wanted.now)
    (λ o. option_map (λ rows. rows.items) o ≡ compat a c.args.pieces.now c.args.region.now c.args.kind c.args.wanted.now)
    (λ o. CoversWanted a c.args.pieces.now c.args.region.now c.args.kind c.args.wanted.now (option_map (λ rows. rows.items) o))
    (λ o h. subst (CoversWanted a c.args.pieces.now c.args.region.now c.args.kind c.args.wanted.now) (sym h) (compat-means a c.args.pieces.now c.args.region.now c.args.kind c.args.wanted.now)) c.compared.ensures
