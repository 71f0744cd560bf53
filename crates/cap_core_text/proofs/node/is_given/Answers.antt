use Rattle.std.proofs.Common.{◌≡◌, ◌∙◌, ap, sym, refl, ◌-◌, ◌<◌, ◌≤◌, length, Some, arith}
use Rattle.std.specs.Prelude.{is_some, option_map, slice_get}
use Rattle.std.proofs.lemmas.Bool.{lt-ltb}
use Rattle.std.proofs.lemmas.Option.{slice_get_read}
use Rattle.cap_core_text.proofs.Given.{cert-at, mark-at, marks-long, other-given}
use Rattle.cap_core_text.proofs.node.is_given.Goals as goal

pub returns-then-number-len : goal.returns-then-number-len
returns-then-number-len c =
    let few : c.args.number < length c.in-Act.certs.items = omega arith in
    rw (c.in-Act.is, lt-ltb c.args.number c.len.result c.if-number-len.true) (cert-at c.in-Act.certs.items c.in-Act.marks.items c.args.number few)

pub returns-else-number-len : goal.returns-else-number-len
returns-else-number-len c =
    let certs = c.in-Act.certs.items in
    let marks = c.in-Act.marks.items in
    let behind : length certs ≤ c.args.number = omega arith in
    let place : c.args.number - c.len-else-number-len.result ≡ c.args.number - length certs = omega arith in
    let there : c.args.number - c.len-else-number-len.result < length marks =
    let h = marks-long certs marks c.args.number (rw c.in-Act.is at c.requires) in omega (arith, h) in
    let mark = slice_get_read marks (length marks) (c.args.number - c.len-else-number-len.result) c.index.result.now refl there c.index.ensures in
    rw c.in-Act.is
    (ap (option_map is_some) (mark-at certs marks c.args.number behind ∙ (ap (slice_get marks) (sym place) ∙ mark))
    ∙ ap Some (sym c.is_some.ensures))

pub returns-in_default : goal.returns-in_default
returns-in_default c = other-given c.args.choice.now c.in_default.not-Act c.args.number c.requires
