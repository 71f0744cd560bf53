use Rattle.std.proofs.Common.{sym, ap, ◌∙◌, rules}
use Rattle.std.proofs.lemmas.Result.{err_from_is_err_and}
use Rattle.cap_prog.specs.Program.{none}
use Rattle.cap_prog.specs.Views.{item_view, program_view}
use Rattle.cap_goal.specs.Views.{choice_view, items_in, tasks_view}
use Rattle.cap_owners_spec.specs.Walks.{Walk}
use Rattle.cap_owners_passes.specs.Views.{first_item, item_seen}
use Rattle.cap_owners_values.proofs.Tracing.{stops}
use Rattle.cap_owners_passes.proofs.Taken.{follows, take-first, created-goes, taken-fails, taken-goes}
use Rattle.cap_owners_passes.proofs.taking.pass_taken.Goals as goal

pub returns-in_err-names : goal.returns-in_err-names
returns-in_err-names c = λ enter left n.
    let a = c.args in
    let items = items_in a.items.now.lists.items none in
    let i = item_view c.in-Some.item.now in
    let q = follows items i c.in-Some.is_last (sym c.first_item.ensures ∙ ap item_seen c.in-Some.is) in
    let t = sym c.end_taking.ensures.taken ∙ c.in-Some-end_taking.is in
    let p = err_from_is_err_and c.from_residual.result c.from_residual.ensures.1 in
    let v = ap (λ (w : Walk). w.values) (c.walk.view_is ∙ c.end_taking.ensures.rest) in
    rw (p.1, p.2, take-first enter (program_view a.program.now) a.state.now (choice_view a.choice.now) items i q.more a.env left n (tasks_view a.behind.now) c.in-Some-end_taking.top a.walk.now q.items_are t, ← v, ← c.env_at-env.ensures) (stops _ _ _ _ _ c.in_err-names.ensures)

pub returns-then-creates : goal.returns-then-creates
returns-then-creates c = λ enter left n.
    let a = c.args in
    let p = program_view a.program.now in
    let s = a.state.now in
    let ts = tasks_view a.behind.now in
    let f = sym c.first_item.ensures ∙ ap item_seen c.in-Some.is in
    let t = sym c.end_taking.ensures.taken ∙ c.in-Some-end_taking.is in
    let v = ap (λ (w : Walk). w.values) (c.walk.view_is ∙ c.end_taking.ensures.rest) in
    created-goes enter p s (choice_view a.choice.now) _ _ _ a.env left n ts a.walk.now c.end_taking.new.self c.go_on_taking.new.self c.pass_created.new.walk c.in-Some-end_taking.top c.pass_created.result c.env_at-env.result.now c.walk.inside.values c.in_ok-names.names f t v c.env_at-env.ensures c.in_ok-names.ensures (sym c.creates.ensures ∙ c.if-creates.true) c.end_taking.ensures.rest c.in_ok-go_on_taking.ensures (λ x more u. c.pass_created.ensures p s x more a.env left n ts u)

pub returns-in_err-taken : goal.returns-in_err-taken
returns-in_err-taken c = λ enter left n.
    let a = c.args in
    let f = sym c.first_item.ensures ∙ ap item_seen c.in-Some.is in
    let t = sym c.end_taking.ensures.taken ∙ c.in-Some-end_taking.is in
    let v = ap (λ (w : Walk). w.values) (c.walk.view_is ∙ c.end_taking.ensures.rest) in
    let p = err_from_is_err_and c.from_residual-in_err-taken.result c.from_residual-in_err-taken.ensures.1 in
    rw (p.1, p.2) (taken-fails enter (program_view a.program.now) a.state.now (choice_view a.choice.now) _ _ _ a.env left n (tasks_view a.behind.now) a.walk.now _ c.in-Some-end_taking.top _ _ _ c.env_at-env.result.now c.walk.inside.values c.in_ok-names.names f t v c.env_at-env.ensures c.in_ok-names.ensures (λ more h. c.in_err-taken.ensures more a.env left n a.walk.now h (sym c.env_at-env.ensures)) (search rules))

pub returns : goal.returns
returns c = λ enter left n.
    let a = c.args in
    let f = sym c.first_item.ensures ∙ ap item_seen c.in-Some.is in
    let t = sym c.end_taking.ensures.taken ∙ c.in-Some-end_taking.is in
    let v = ap (λ (w : Walk). w.values) (c.walk.view_is ∙ c.end_taking.ensures.rest) in
    taken-goes enter (program_view a.program.now) a.state.now (choice_view a.choice.now) _ _ _ a.env left n (tasks_view a.behind.now) a.walk.now c.end_taking.new.self c.go_on_taking-2.new.self _ c.in-Some-end_taking.top _ _ c.in_ok-taken.taken c.env_at-env.result.now c.walk.inside.values c.in_ok-names.names f t v c.env_at-env.ensures c.in_ok-names.ensures (λ more h. c.in_ok-taken.ensures more a.env left n a.walk.now h (sym c.env_at-env.ensures)) (search rules) c.end_taking.ensures.rest c.in_ok-go_on_taking-2.ensures c.in_ok-bring_new.ensures
