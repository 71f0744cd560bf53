use Rattle.std.proofs.Common.{◌≡◌, None, Some, sym, ap, ◌∙◌, rules}
use Rattle.std.specs.Prelude.{option_map}
use Rattle.cap_prog.specs.Program.{none}
use Rattle.cap_goal.specs.Views.{items_in, tasks_view}
use Rattle.cap_rules.specs.Making.{env_at}
use Rattle.cap_owners_fill.specs.Views.{sides_view, given_all}
use Rattle.cap_owners_spec.specs.Walks.{bringing, Walk}
use Rattle.cap_owners_passes.proofs.Given.{give-side}
use Rattle.cap_owners_passes.proofs.giving.pass_give.Goals as goal

pub returns : goal.returns
returns c = λ n.
    let a = c.args in
    let s = a.state.now in
    let items = items_in a.items.now.lists.items none in
    let f = c.in-Some.fill in
    let g = given_all f (env_at s a.env) items in
    let w : Walk = record a.walk.now { fill = None } in
    let h = sym c.end_giving.ensures.fill ∙ c.in-Some.is in
    let i = rw c.env_at.ensures at c.in_ok-given.ensures in
    let q = sym (ap (option_map sides_view) c.in-Some-parting.is) ∙ i.parting in
    give-side s items a.env n (tasks_view a.behind.now) a.walk.now _ _ f (sides_view c.in-Some-parting.parting) h q
    (λ x k. c.pass_side.ensures x a.env n f g w k (search rules) (search rules))
