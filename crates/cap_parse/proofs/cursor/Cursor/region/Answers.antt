use Rattle.std.proofs.Common.{ℕ, Ok, sym, ap, ◌∙◌}
use Rattle.std.proofs.lemmas.Result.{err_from_is_err_and}
use Rattle.cap_syntax.specs.declared.place.Place.{Place}
use Rattle.cap_parse_tree.specs.Views.{region_view}
use Rattle.cap_parse.specs.Heads.{head_view, region_body_view}
use Rattle.cap_parse.proofs.Parts.{then-stops, region_parts}
use Rattle.cap_parse.proofs.cursor.Cursor.region.Goals as goal

pub returns : goal.returns
returns c =
    region_parts c.args.room c.args.self.now.rest
    ∙ rw (c.in_ok-key.ensures, c.in_ok-head.ensures, c.in_ok-inner.ensures, c.in_ok-body.ensures)
    (ap (λ r. Ok (r, c.region_body.new.self.rest)) (sym c.region_of.ensures))

pub returns-in_err-key : goal.returns-in_err-key
returns-in_err-key c =
    let p = err_from_is_err_and c.from_residual.result c.from_residual.ensures.1 in
    rw (p.1, p.2, region_parts c.args.room c.args.self.now.rest)
    (then-stops {X = Place} (λ p. p) region_view _ _ _ _ c.in_err-key.ensures)

pub returns-in_err-head : goal.returns-in_err-head
returns-in_err-head c =
    let p = err_from_is_err_and c.from_residual-in_err-head.result c.from_residual-in_err-head.ensures.1 in
    rw (p.1, p.2, region_parts c.args.room c.args.self.now.rest, c.in_ok-key.ensures)
    (then-stops head_view region_view _ _ _ _ c.in_err-head.ensures)

pub returns-in_err-inner : goal.returns-in_err-inner
returns-in_err-inner c =
    let p = err_from_is_err_and c.from_residual-in_err-inner.result c.from_residual-in_err-inner.ensures.1 in
    rw (p.1, p.2, region_parts c.args.room c.args.self.now.rest, c.in_ok-key.ensures, c.in_ok-head.ensures)
    (then-stops {X = ℕ × Place} (λ o. o) region_view _ _ _ _ c.in_err-inner.ensures)

pub returns-in_err-body : goal.returns-in_err-body
returns-in_err-body c =
    let p = err_from_is_err_and c.from_residual-in_err-body.result c.from_residual-in_err-body.ensures.1 in
    rw (p.1, p.2, region_parts c.args.room c.args.self.now.rest, c.in_ok-key.ensures, c.in_ok-head.ensures, c.in_ok-inner.ensures)
    (then-stops region_body_view region_view _ _ _ _ c.in_err-body.ensures)
