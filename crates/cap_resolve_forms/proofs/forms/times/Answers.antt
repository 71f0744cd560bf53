use Rattle.std.proofs.Common.{◌≡◌, ◌∙◌, sym, length, false}
use Rattle.std.specs.Prelude.{◌==◌}
use Rattle.cap_lin.specs.Linear.{Linear}
use Rattle.cap_resolve_forms.proofs.Products.{two-steps, two-names}
use Rattle.cap_resolve_forms.proofs.forms.times.Goals as goal

pub returns-else-is_constant-2 : goal.returns-else-is_constant-2
returns-else-is_constant-2 g c =
    let a : Linear = g.F.LinearForm.form c.args.left.now in
    let b : Linear = g.F.LinearForm.form c.args.right.now in
    let l : (length a.parts == 0) ≡ false = sym c.if-is_constant-2.ensures in
    let r : (length b.parts == 0) ≡ false = sym c.if-is_constant.ensures in
    (two-steps a b a.parts b.parts l r, c.constant.ensures ∙ sym (two-names a b a.parts b.parts l r))
