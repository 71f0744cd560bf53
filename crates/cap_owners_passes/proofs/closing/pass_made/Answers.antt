use Rattle.std.proofs.Common.{◌≡◌, sym, ap, ◌∙◌, rules}
use Rattle.std.specs.Prelude.{Some}
use Rattle.std.proofs.lemmas.Result.{err_from_is_err_and}
use Rattle.cap_owners_spec.specs.Track.{TrackedRegion}
use Rattle.cap_owners_spec.specs.Traced.{traced}
use Rattle.cap_owners_spec.specs.Walks.{Walk, descends, with_region}
use Rattle.cap_owners_values.proofs.Tracing.{stops}
use Rattle.cap_owners_passes.specs.Views.{owned_by}
use Rattle.cap_owners_passes.proofs.closing.pass_made.Goals as goal

pub returns-in_err-names : goal.returns-in_err-names
returns-in_err-names c =
    let p = err_from_is_err_and c.from_residual-in_err-names.result c.from_residual-in_err-names.ensures.1 in
    rw (p.1, p.2, ← c.walk.view_is, c.in_ok-kind.ensures, c.in_ok-shape.ensures, c.in_ok-number.ensures) (stops _ _ _ _ _ c.in_err-names.ensures)

pub returns-in_err-first_state : goal.returns-in_err-first_state
returns-in_err-first_state c =
    let p = err_from_is_err_and c.from_residual-in_err-first_state.result c.from_residual-in_err-first_state.ensures.1 in
    rw (p.1, p.2, ← c.walk.view_is, c.in_ok-kind.ensures, c.in_ok-shape.ensures, c.in_ok-number.ensures, c.in_ok-names.ensures) (stops _ _ _ _ _ c.in_err-first_state.ensures)

pub returns : goal.returns
returns c =
    let w : Walk = c.args.walk.now in
    let r : TrackedRegion = owned_by c.in_ok-number.number c.args.made.now.kind c.in_ok-args.args.items c.in_ok-first_state.first_state c.args.made.now.case c.args.top c.in_ok-names.names in
    let o : c.owning.result ≡ r = search rules in
    let k : c.put_region.new.self ≡ record w { regions = with_region c.owning.result w.regions } = search rules in
    let e = k ∙ (ap (λ (x : TrackedRegion). record w { regions = with_region x w.regions }) o ∙ ap (λ (v : Walk). record v { regions = with_region r v.regions }) (sym c.walk.view_is)) in
    rw (← c.walk.view_is, c.in_ok-kind.ensures, c.in_ok-shape.ensures, c.in_ok-number.ensures, c.in_ok-names.ensures, c.in_ok-first_state.ensures, ← c.in_ok-args.ensures) (ap (λ (v : Walk). traced (descends (Some 0) v)) (sym e))
