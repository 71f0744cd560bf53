use Rattle.std.proofs.Common.{◌≡◌, rules, sym, subst}
use Rattle.cap_galg.specs.Views.{node_view}
use Rattle.cap_galg.specs.declared.node.Node.TheFolds.{the_lemmas}
use Rattle.cap_galg_spec.specs.Elements.{both, left, right}
use Rattle.cap_galg_spec.specs.Answers.{IsComposition}
use Rattle.cap_galg.proofs.node.Node.+compose.Goals as goal

pub returns-in-Both-other : goal.returns-in-Both-other
returns-in-Both-other t c =
    let a = node_view c.in-Both.a.value in
    let b = node_view c.in-Both.b.value in
    let d = node_view c.in-Both-other.c.value in
    let e = node_view c.in-Both-other.d.value in
    let p : IsComposition node_view a d c.compose.result = search rules in
    let q : IsComposition node_view b e c.compose-in-Both-other.result = search rules in
    let x : node_view c.args.self.now ≡ both a b = search (rules, the_lemmas) in
    let y : node_view c.args.other.now ≡ both d e = search (rules, the_lemmas) in
    subst (λ u. IsComposition node_view u (node_view c.args.other.now) c.pairs.result) (sym x)
    (subst (λ v. IsComposition node_view (both a b) v c.pairs.result) (sym y)
    (c.pairs.ensures a b d e p q))

pub returns-in-Left-other : goal.returns-in-Left-other
returns-in-Left-other t c =
    let a = node_view c.in-Left.x.value in
    let b = node_view c.in-Left-other.y.value in
    let p : IsComposition node_view a b c.compose-in-Left-other.result = search rules in
    let x : node_view c.args.self.now ≡ left a = search (rules, the_lemmas) in
    let y : node_view c.args.other.now ≡ left b = search (rules, the_lemmas) in
    subst (λ u. IsComposition node_view u (node_view c.args.other.now) c.lefts.result) (sym x)
    (subst (λ v. IsComposition node_view (left a) v c.lefts.result) (sym y)
    (c.lefts.ensures a b p))

pub returns-in-Right-other : goal.returns-in-Right-other
returns-in-Right-other t c =
    let a = node_view c.in-Right.x.value in
    let b = node_view c.in-Right-other.y.value in
    let p : IsComposition node_view a b c.compose-in-Right-other.result = search rules in
    let x : node_view c.args.self.now ≡ right a = search (rules, the_lemmas) in
    let y : node_view c.args.other.now ≡ right b = search (rules, the_lemmas) in
    subst (λ u. IsComposition node_view u (node_view c.args.other.now) c.rights.result) (sym x)
    (subst (λ v. IsComposition node_view (right a) v c.rights.result) (sym y)
    (c.rights.ensures a b p))
