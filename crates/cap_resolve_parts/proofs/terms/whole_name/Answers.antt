use Rattle.std.proofs.Common.{◌≡◌, ◌≤◌, length, sym, ap, arith, None, ◌∙◌}
use Rattle.cap_parse_tree.specs.declared.term.Term.{out-Term}
use Rattle.cap_resolve_parts.proofs.Wholes.{long_term, not_some}
use Rattle.cap_resolve_parts.proofs.terms.whole_name.Goals as goal

pub returns-in-len1-up : goal.returns-in-len1-up
returns-in-len1-up c =
    let n : 1 ≤ length (out-Term c.args.term.now).more.items = omega (arith, c.in-len1-up.len_at_least, ap length c.as_slice.ensures.value) in
    let m : (out-Term c.args.term.now).minus ≡ None = not_some _ (sym c.is_some.ensures ∙ c.if-is_some.false) in
    sym (long_term c.args.term.now m n)
