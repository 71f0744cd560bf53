use Rattle.std.proofs.Common.{◌≡◌, List, sym, ap, ◌∙◌, rules}
use Rattle.std.specs.Prelude.{Some, Err}
use Rattle.std.proofs.lemmas.Result.{err_from_is_err_and}
use Rattle.cap_machine_accounts.specs.Assertions.{NameValue}
use Rattle.cap_owners_spec.specs.Track.{TrackedRegion, tracked_at}
use Rattle.cap_owners_spec.specs.Traced.{traced, found}
use Rattle.cap_owners_spec.specs.Walks.{Walk, descends, firmed, with_region}
use Rattle.cap_owners_values.proofs.Tracing.{stops}
use Rattle.cap_owners_values.specs.Views.{Traces}
use Rattle.cap_owners_passes.specs.Views.{owned_by}
use Rattle.cap_owners_passes.proofs.closing.pass_shift.Goals as goal

pub returns-in_err-names : goal.returns-in_err-names
returns-in_err-names c =
    let p = err_from_is_err_and c.from_residual-in_err-names.result c.from_residual-in_err-names.ensures.1 in
    let r : found (tracked_at c.walk.inside.regions c.in_ok-number.number) ≡ traced c.in_ok-region.region.now = search rules in
    rw (p.1, p.2, ← c.walk.view_is, ← c.opened.ensures, c.in_ok-fact.ensures, ← c.fact.view_is, c.in_ok-region_type_at.ensures, c.in_ok-shape.ensures, c.in_ok-number.ensures, r) (stops _ _ _ _ _ c.in_err-names.ensures)

pub returns-in_err-new_state : goal.returns-in_err-new_state
returns-in_err-new_state c =
    let p = err_from_is_err_and c.from_residual-in_err-new_state.result c.from_residual-in_err-new_state.ensures.1 in
    let r : found (tracked_at c.walk.inside.regions c.in_ok-number.number) ≡ traced c.in_ok-region.region.now = search rules in
    rw (p.1, p.2, ← c.walk.view_is, ← c.opened.ensures, c.in_ok-fact.ensures, ← c.fact.view_is, c.in_ok-region_type_at.ensures, c.in_ok-shape.ensures, c.in_ok-number.ensures, r, c.in_ok-names.ensures) (stops _ _ _ _ _ c.in_err-new_state.ensures)

pub returns-in_err-firm : goal.returns-in_err-firm
returns-in_err-firm c =
    let p = err_from_is_err_and c.from_residual-in_err-firm.result c.from_residual-in_err-firm.ensures.1 in
    let r : found (tracked_at c.walk.inside.regions c.in_ok-number.number) ≡ traced c.in_ok-region.region.now = search rules in
    let f : Traces {B = Unit {0}} (Err c.in_err-firm.field-0.0) (λ _. c.walk.inside.values) (firmed c.args.state.now.facts c.in_ok-number.number c.in_ok-new_state.new_state c.walk.inside.values) = search rules in
    rw (p.1, p.2, ← c.walk.view_is, ← c.opened.ensures, c.in_ok-fact.ensures, ← c.fact.view_is, c.in_ok-region_type_at.ensures, c.in_ok-shape.ensures, c.in_ok-number.ensures, r, c.in_ok-names.ensures, c.in_ok-new_state.ensures) (stops _ _ _ _ _ f)

pub returns : goal.returns
returns c =
    let vs : List NameValue = c.firm.new.values in
    let w : Walk = record c.args.walk.now { values = vs } in
    let own = c.in_ok-region.region.now.owned.region in
    let x : TrackedRegion = owned_by own.number own.kind own.args c.in_ok-new_state.new_state c.args.case c.args.top c.in_ok-names.names in
    let r : found (tracked_at c.walk.inside.regions c.in_ok-number.number) ≡ traced c.in_ok-region.region.now = search rules in
    let f : firmed c.args.state.now.facts c.in_ok-number.number c.in_ok-new_state.new_state c.walk.inside.values ≡ traced vs = search rules in
    let o : c.owning.result ≡ x = search rules in
    let k : c.put_region.new.self ≡ record w { regions = with_region c.owning.result w.regions } = search rules in
    let e = k ∙ (ap (λ (y : TrackedRegion). record w { regions = with_region y w.regions }) o ∙ ap (λ (v : Walk). record v { values = vs; regions = with_region x v.regions }) (sym c.walk.view_is)) in
    rw (← c.walk.view_is, ← c.opened.ensures, c.in_ok-fact.ensures, ← c.fact.view_is, c.in_ok-region_type_at.ensures, c.in_ok-shape.ensures, c.in_ok-number.ensures, r, c.in_ok-names.ensures, c.in_ok-new_state.ensures, f) (ap (λ (v : Walk). traced (descends (Some 0) v)) (sym e))
