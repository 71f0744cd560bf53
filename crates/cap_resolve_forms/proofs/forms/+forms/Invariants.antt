use Rattle.std.proofs.Common.{◌≡◌, drop}
use Rattle.cap_lin.specs.Steps.{first_wide}
use Rattle.cap_parse_tree.specs.Views.{product_view, term_view}
use Rattle.cap_resolve_terms.proofs.Rests.{factors_view, products_view}
use Rattle.cap_resolve_spec.specs.Linear.{product_form, factors_form, term_form, products_form, products_of_steps, factors_steps, term_steps, products_steps}
use Rattle.cap_resolve_forms.proofs.forms.+forms.Given as goal

abbrev pub invariant-product_form-loop-next : goal.invariant-product_form-loop-next
invariant-product_form-loop-next g l = record {
  steps : first_wide (factors_steps l.names (g.F.LinearForm.form l.read) (factors_view (drop l.next-index l.next-items)))
      ≡ first_wide (products_of_steps l.names (product_view l.product));
  form : factors_form l.names (g.F.LinearForm.form l.read) (factors_view (drop l.next-index l.next-items))
      ≡ product_form l.names (product_view l.product);
}

abbrev pub invariant-form-loop-addend : goal.invariant-form-loop-addend
invariant-form-loop-addend g l = record {
  steps : first_wide (products_steps l.names (g.F.LinearForm.form l.read) (products_view (drop l.addend-index l.addend-items)))
      ≡ first_wide (term_steps l.names (term_view l.term));
  form : products_form l.names (g.F.LinearForm.form l.read) (products_view (drop l.addend-index l.addend-items))
      ≡ term_form l.names (term_view l.term);
}
