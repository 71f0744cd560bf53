use Rattle.std.proofs.Common.{Err}
use Rattle.std.proofs.lemmas.Result.{err_from_is_err_and}
use Rattle.cap_owners_values.specs.Views.{Traces}
use Rattle.cap_owners_values.proofs.Tracing.{stops}
use Rattle.cap_owners_parts.specs.Composed.{composed_element}
use Rattle.cap_owners_parts.specs.Views.{element_view}
use Rattle.cap_owners_parts.proofs.Composing.{composed_right}
use Rattle.cap_owners_parts.proofs.element.right_of.Goals as goal

pub returns-in_err-side : goal.returns-in_err-side
returns-in_err-side c = λ x y h.
    let k : Traces (Err c.in_err-side.field-0.0) element_view (composed_element x y) = rw c.in_err-side.was at h in
    let p = err_from_is_err_and c.from_residual.result c.from_residual.ensures.1 in
    rw (p.1, p.2, composed_right) (stops _ element_view element_view _ _ k)
