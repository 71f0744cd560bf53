use Rattle.std.proofs.Common.{◌≡◌, rules}
use Rattle.cap_galg.specs.Elements.{both, left, right}
use Rattle.cap_owners_values.specs.Views.{Traces}
use Rattle.cap_owners_parts.specs.Composed.{composed_element}
use Rattle.cap_owners_parts.specs.Views.{element_view}
use Rattle.cap_owners_parts.specs.declared.element.Element.TheFolds.{the_lemmas}
use Rattle.cap_owners_parts.proofs.Composing.{composed_both}
use Rattle.cap_owners_parts.proofs.element.Element.+compose.Goals as goal

pub returns-in-Left-other : goal.returns-in-Left-other
returns-in-Left-other t c =
    let a = element_view c.in-Left.x.value in
    let b = element_view c.in-Left-other.y.value in
    let x : element_view c.args.self.now ≡ left a = search (rules, the_lemmas) in
    let y : element_view c.args.other.now ≡ left b = search (rules, the_lemmas) in
    let p : Traces c.compose.result element_view (composed_element a b) = search rules in
    rw (x, y) (c.left_of.ensures a b p)

pub returns-in-Right-other : goal.returns-in-Right-other
returns-in-Right-other t c =
    let a = element_view c.in-Right.x.value in
    let b = element_view c.in-Right-other.y.value in
    let x : element_view c.args.self.now ≡ right a = search (rules, the_lemmas) in
    let y : element_view c.args.other.now ≡ right b = search (rules, the_lemmas) in
    let p : Traces c.compose-in-Right-other.result element_view (composed_element a b) = search rules in
    rw (x, y) (c.right_of.ensures a b p)

pub returns-in-Both-other : goal.returns-in-Both-other
returns-in-Both-other t c =
    let x : element_view c.args.self.now ≡ both (element_view c.in-Both.a.value) (element_view c.in-Both.b.value) = search (rules, the_lemmas) in
    let y : element_view c.args.other.now ≡ both (element_view c.in-Both-other.c.value) (element_view c.in-Both-other.d.value) = search (rules, the_lemmas) in
    let p : Traces c.compose-first.result element_view (composed_element (element_view c.in-Both.a.value) (element_view c.in-Both-other.c.value)) = search rules in
    let q : Traces c.compose-second.result element_view (composed_element (element_view c.in-Both.b.value) (element_view c.in-Both-other.d.value)) = search rules in
    rw (x, y, composed_both) (c.pair_of.ensures _ _ p q)
