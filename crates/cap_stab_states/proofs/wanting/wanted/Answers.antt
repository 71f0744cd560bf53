use Rattle.std.proofs.Common.{ℕ, ◌+◌, [], ◌∷◌, ◌++◌, List, drop, get_or, sym, subst, arith}
use Rattle.std.proofs.lemmas.Result.{err_from_is_err_and}
use Rattle.cap_gsolve.specs.declared.piece.Form.{Form}
use Rattle.cap_rules_steps.proofs.Walking.{Leads}
use Rattle.cap_stab_states.specs.Wanting.{wanted_one, wanted_from}
use Rattle.cap_stab_states.proofs.Collecting.{behind_these, collect_starts, collect_more, collect_fails, collect_ends}
use Rattle.cap_stab_states.proofs.Collected.{wanted_collect, one_behind, wanted_made, wanted_fails}
use Rattle.cap_stab_states.proofs.wanting.wanted.Goals as goal

pub loop-i-init : goal.loop-i-init
loop-i-init c =
    subst (λ (l : List (ℕ × Form)). Leads (behind_these l (wanted_from c.args.names.now c.args.wildcards.now c.args.guards.now)) (wanted_from c.args.names.now c.args.wildcards.now c.args.guards.now)) (sym c.new-wanted.ensures.items) (collect_starts _)

pub returns-in_err-want_form : goal.returns-in_err-want_form
returns-in_err-want_form c =
    let a = c.args in
    let i = c.loop-i.i in
    let g = c.index-guards-i.result in
    let p = err_from_is_err_and c.from_residual.result c.from_residual.ensures.1 in
    rw (p.1, p.2) (collect_fails (wanted_from a.names.now) (λ ws x. wanted_one a.names.now (get_or ws 0 0) x) (λ ws x. drop 1 ws) (wanted_collect a.names.now) (drop i a.wildcards.now) c.loop-i.wanted.items a.guards.now i g _ _ (omega arith) c.index-guards-i.is (wanted_fails a.names.now a.wildcards.now i g _ c.in_err-want_form.ensures) c.loop-i.invariant)

pub loop-i-preserved : goal.loop-i-preserved
loop-i-preserved c =
    let a = c.args in
    let i = c.loop-i.i in
    let g = c.index-guards-i.result in
    let f = c.in_ok-want_form.field-0 in
    let more = collect_more (wanted_from a.names.now) (λ ws x. wanted_one a.names.now (get_or ws 0 0) x) (λ ws x. drop 1 ws) (wanted_collect a.names.now) (drop i a.wildcards.now) c.loop-i.wanted.items a.guards.now i g (g.0, f) _ (omega arith) c.index-guards-i.is (wanted_made a.names.now a.wildcards.now i g f c.in_ok-want_form.ensures) c.loop-i.invariant in
    let next = subst (λ (ws : List ℕ). Leads (behind_these (c.loop-i.wanted.items ++ ((g.0, f) ∷ [])) (wanted_from a.names.now ws (drop (i + 1) a.guards.now))) (wanted_from a.names.now a.wildcards.now a.guards.now)) (one_behind a.wildcards.now i) more in
    subst (λ (l : List (ℕ × Form)). Leads (behind_these l (wanted_from a.names.now (drop (i + 1) a.wildcards.now) (drop (i + 1) a.guards.now))) (wanted_from a.names.now a.wildcards.now a.guards.now)) (sym c.in_ok-push.ensures.items) next

pub returns : goal.returns
returns c =
    let a = c.args in
    collect_ends (wanted_from a.names.now) (λ ws x. wanted_one a.names.now (get_or ws 0 0) x) (λ ws x. drop 1 ws) (wanted_collect a.names.now) (drop c.loop-i.i a.wildcards.now) c.loop-i.wanted.items a.guards.now c.loop-i.i _ (omega arith) c.loop-i.invariant
