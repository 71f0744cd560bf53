use Rattle.std.proofs.Common.{◌≡◌, rules}
use Rattle.cap_galg.specs.Views.{algebra_view}
use Rattle.cap_galg.specs.Algebras.{product, sum, atoms}
use Rattle.cap_galg.specs.declared.algebra.Algebra.TheFolds.{the_lemmas}
use Rattle.cap_gsolve.specs.Pieces.{piece, full_forms}
use Rattle.cap_gsolve.proofs.Lists.{pushed-twice, pushed-once}
use Rattle.cap_gsolve.proofs.full.+push_full.Goals as goal

pub returns-in_ok-second-in-Pair : goal.returns-in_ok-second-in-Pair
returns-in_ok-second-in-Pair t c =
    let e : algebra_view c.args.algebra.now ≡ product (algebra_view c.in-Pair.a.value) (algebra_view c.in-Pair.b.value) = search (rules, the_lemmas) in
    let p = rw c.deref.ensures at c.in_ok-second-in-Pair.ensures in
    let q = rw c.deref-in-Pair.ensures at c.push_full-in-Pair.ensures in
    rw e (pushed-twice (λ p. piece c.args.region.now c.args.kind p.0 p.1) (full_forms (algebra_view c.in-Pair.b.value)) c.push_full-in-Pair.result c.args.pieces.now.items c.push_full.new.pieces.items c.push_full-in-Pair.new.pieces.items (full_forms (algebra_view c.in-Pair.a.value) c.args.first) c.args.first c.in_ok-second-in-Pair.second (atoms (algebra_view c.in-Pair.a.value)) (atoms (algebra_view c.in-Pair.b.value)) p.0 p.1 q)

pub returns-in_ok-second-in-Either : goal.returns-in_ok-second-in-Either
returns-in_ok-second-in-Either t c =
    let e : algebra_view c.args.algebra.now ≡ sum (algebra_view c.in-Either.a.value) (algebra_view c.in-Either.b.value) = search (rules, the_lemmas) in
    let p = rw c.deref-in-Either.ensures at c.in_ok-second-in-Either.ensures in
    let q = rw c.deref-in-Either-2.ensures at c.past.ensures in
    rw e (pushed-once c.past.result c.args.first c.in_ok-second-in-Either.second (atoms (algebra_view c.in-Either.a.value)) (atoms (algebra_view c.in-Either.b.value)) p.0 p.1 q)
