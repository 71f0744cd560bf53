use Rattle.std.proofs.Common.{◌≡◌, rules, sym, subst, IfOk}
use Rattle.cap_galg_spec.specs.Algebras.{product, sum}
use Rattle.cap_galg.specs.Placed.{IsPlaced}
use Rattle.cap_galg.specs.Views.{algebra_view, node_view}
use Rattle.cap_galg.specs.declared.algebra.Algebra.TheFolds.{the_lemmas}
use Rattle.cap_galg.proofs.elem.+at_atom.Goals as goal

pub returns-in-Here : goal.returns-in-Here
returns-in-Here t c =
    let a = algebra_view c.in-Pair.a.value in
    let b = algebra_view c.in-Pair.b.value in
    let e : algebra_view c.args.algebra.now ≡ product a b = search (rules, the_lemmas) in
    let h = rw (c.deref.ensures, c.in-Here.is) at c.in_ok-x-in-Pair.ensures in
    subst (λ d. IfOk c.in_first.result (IsPlaced d c.args.atom (node_view c.args.node))) (sym e)
    (c.in_first.ensures a b c.args.atom (node_view c.args.node) h)

pub returns-in-Past : goal.returns-in-Past
returns-in-Past t c =
    let a = algebra_view c.in-Pair.a.value in
    let b = algebra_view c.in-Pair.b.value in
    let e : algebra_view c.args.algebra.now ≡ product a b = search (rules, the_lemmas) in
    let h = rw (c.deref.ensures, c.in-Past.is) at c.in_ok-x-in-Pair.ensures in
    let k = rw c.deref-in-Past.ensures at c.at_atom-in-Past.ensures in
    subst (λ d. IfOk c.in_second.result (IsPlaced d c.args.atom (node_view c.args.node))) (sym e)
    (subst (λ x. IfOk c.in_second.result (IsPlaced (product a b) c.args.atom x)) h.1
    (c.in_second.ensures a b c.args.atom c.in-Past.rest (node_view c.in-Past.node) h.0 k))

pub returns-in-Here-2 : goal.returns-in-Here-2
returns-in-Here-2 t c =
    let a = algebra_view c.in-Either.a.value in
    let b = algebra_view c.in-Either.b.value in
    let e : algebra_view c.args.algebra.now ≡ sum a b = search (rules, the_lemmas) in
    let h = rw (c.deref-in-Either.ensures, c.in-Here-2.is) at c.in_ok-x-in-Either.ensures in
    subst (λ d. IfOk c.in_left.result (IsPlaced d c.args.atom (node_view c.args.node))) (sym e)
    (c.in_left.ensures a b c.args.atom (node_view c.args.node) h)

pub returns-in-Past-2 : goal.returns-in-Past-2
returns-in-Past-2 t c =
    let a = algebra_view c.in-Either.a.value in
    let b = algebra_view c.in-Either.b.value in
    let e : algebra_view c.args.algebra.now ≡ sum a b = search (rules, the_lemmas) in
    let h = rw (c.deref-in-Either.ensures, c.in-Past-2.is) at c.in_ok-x-in-Either.ensures in
    let k = rw c.deref-in-Past-2.ensures at c.at_atom-in-Past-2.ensures in
    subst (λ d. IfOk c.in_right.result (IsPlaced d c.args.atom (node_view c.args.node))) (sym e)
    (subst (λ x. IfOk c.in_right.result (IsPlaced (sum a b) c.args.atom x)) h.1
    (c.in_right.ensures a b c.args.atom c.in-Past-2.rest (node_view c.in-Past-2.node) h.0 k))
