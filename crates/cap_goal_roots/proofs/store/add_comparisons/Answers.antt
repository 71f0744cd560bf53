use Rattle.std.proofs.Common.{◌+◌, ◌<◌, ◌≤◌, [], ◌∷◌, ◌++◌, length, map, drop, ap, sym, ◌∙◌, arith, length-append, length-drop}
use Rattle.std.proofs.lemmas.List.{length-map}
use Rattle.std.proofs.lemmas.Result.{err_from_is_err_and}
use Rattle.cap_goal_spec.specs.States.{PlainState}
use Rattle.cap_goal_spec.specs.Roots.{written_row, written_steps}
use Rattle.cap_goal_roots.proofs.Walks.{walk_stops, walk_goes_on, walk_ends, mapped_more, mapped_done}
use Rattle.cap_goal_roots.proofs.store.add_comparisons.Goals as goal

pub returns-in_err-of : goal.returns-in_err-of
returns-in_err-of c =
    let h : c.loop-c.c-index < length c.args.comparisons.now = omega arith in
    let p = err_from_is_err_and c.from_residual.result c.from_residual.ensures.1 in
    rw (p.1, p.2) (walk_stops written_steps c.args.comparisons.now c.loop-c.c-index c.c-item.result _ h c.c-item.is c.in_err-of.ensures.exact c.loop-c.invariant.steps)

pub add_rows-requires : goal.add_rows-requires
add_rows-requires c =
    let i = c.loop-c.c-index in
    let cs = c.args.comparisons.now in
    let h : i < length cs = omega arith in
    omega (arith, ap length c.loop-c.invariant.rows, length-append c.loop-c.state.rows (map written_row (drop i cs)), length-append c.args.state.now.rows (map written_row cs), length-map (drop i cs) written_row, length-map cs written_row, length-drop i cs)

pub loop-c-preserved : goal.loop-c-preserved
loop-c-preserved c =
    let i = c.loop-c.c-index in
    let cs = c.args.comparisons.now in
    let h : i < length cs = omega arith in
    let added = c.in_ok-add_rows.ensures in
    let made = c.in_ok-of.ensures.exact in
    record {
      others = added ∙ (ap (λ (s : PlainState). record s { rows = c.loop-c.state.rows ++ (c.in_ok-of.field-0 ∷ []) }) c.loop-c.invariant.others ∙ ap (λ rows. record c.args.state.now { rows = rows }) (sym (ap (λ (s : PlainState). s.rows) added)));
      rows = ap (λ rows. rows ++ map written_row (drop (i + 1) cs)) (ap (λ (s : PlainState). s.rows) added ∙ ap (λ r. c.loop-c.state.rows ++ (r ∷ [])) made.1) ∙ mapped_more written_row c.loop-c.state.rows _ cs i c.c-item.result h c.c-item.is c.loop-c.invariant.rows;
      steps = walk_goes_on written_steps cs i c.c-item.result h c.c-item.is made.0 c.loop-c.invariant.steps;
    }

pub returns : goal.returns
returns c =
    let h : length c.args.comparisons.now ≤ c.loop-c.c-index = omega arith in
    (walk_ends written_steps _ _ h c.loop-c.invariant.steps, c.loop-c.invariant.others ∙ ap (λ rows. record c.args.state.now { rows = rows }) (mapped_done written_row c.loop-c.state.rows _ c.args.comparisons.now _ h c.loop-c.invariant.rows))
