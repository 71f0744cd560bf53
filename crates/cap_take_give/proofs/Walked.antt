-- Items that are given, one after the other, up to a conditional.
use Rattle.std.proofs.Common.{◌≡◌, ℕ, suc, List, Option, Some, None, refl, sym, ap, subst, ◌∙◌}
use Rattle.std.specs.Borrow.{Bor}
use Rattle.std.specs.Prelude.{Result, Ok, Err}
use Rattle.cap_prog.specs.declared.assertion.Comp.{Comp}
use Rattle.cap_prog.specs.declared.assertion.Item.{Item}
use Rattle.cap_prog.specs.Program.{PlainItem, compare, choose, fact, atom, cell, Items, none, item, PlainProgram}
use Rattle.cap_goal_spec.specs.States.{PlainState, PlainTask, PlainGoal, goals_of}
use Rattle.cap_goal.specs.declared.task.Items as code
use Rattle.cap_rules.specs.Attempts.{Attempt, go_on}
use Rattle.cap_rules.specs.Giving.{give_item, give}
use Rattle.cap_rules_steps.specs.Walks.{Makes}
use Rattle.cap_rules_steps.specs.declared.error.RuleError.{RuleError}
use Rattle.cap_rules_steps.proofs.Walking.{Leads, then_made, unmade, done_as}
use Rattle.cap_take_items.specs.Views.{items_ahead}
use Rattle.cap_take_give.specs.Splits.{conditional_of, Behind, split_given}

abbrev pub count : Items → ℕ
count none = 0
count (item i is) = suc (count is)

-- ---- what an item is

same : {A : Type 0} {x y : A} → Some x ≡ Some y → x ≡ y
same e = cc

is-choose : (i : PlainItem) (t : Comp × Items × Items) → conditional_of i ≡ Some t → i ≡ choose t.0 t.1 t.2
is-choose (choose c a b) t h = ap (λ (u : Comp × Items × Items). choose u.0 u.1 u.2) (same h)
is-choose (compare c) t h = absurd (cc)
is-choose (fact place r k args x) t h = absurd (cc)
is-choose (atom place r k i asked) t h = absurd (cc)
is-choose (cell place a x) t h = absurd (cc)

-- an item that is no conditional is given, and then those behind it
abbrev Onward : PlainProgram → PlainState → ℕ → ℕ → List PlainTask → Items → PlainItem → Type 0
Onward p s e n ts more i = give p s e n ts (item i more) ≡ go_on (give_item p s e i).events (give_item p s e i).value (λ t. give p t e n ts more)

onward : (p : PlainProgram) (s : PlainState) (e n : ℕ) (ts : List PlainTask) (more : Items) (i : PlainItem) → conditional_of i ≡ None → Onward p s e n ts more i
onward p s e n ts more (compare c) h = refl
onward p s e n ts more (choose c a b) h = absurd (cc)
onward p s e n ts more (fact place r k args x) h = refl
onward p s e n ts more (atom place r k i asked) h = refl
onward p s e n ts more (cell place a x) h = refl

-- ---- what is left answers for the whole

abbrev Whole : Type 0
Whole = Attempt (List PlainGoal)

pub give-next : (p : PlainProgram) (s t : PlainState) (e n : ℕ) (ts : List PlainTask) (all more : Items) (i : PlainItem) (whole : Whole) → all ≡ item i more → conditional_of i ≡ None → Makes (Ok t) (give_item p s e i) → Leads (give p s e n ts all) whole → Leads (give p t e n ts more) whole
give-next p s t e n ts all more i whole q h m l = record {
  leads = λ r k. l.leads r (rw (q, onward p s e n ts more i h) (then_made r (give_item p s e i) (λ u. give p u e n ts more) t m k));
}

pub give-fails : (p : PlainProgram) (s : PlainState) (e n : ℕ) (ts : List PlainTask) (all more : Items) (i : PlainItem) (f : RuleError) (whole : Whole) → all ≡ item i more → conditional_of i ≡ None → Makes (Err f) (give_item p s e i) → Leads (give p s e n ts all) whole → Makes (Err f) whole
give-fails p s e n ts all more i f whole q h m l = l.leads (Err f) (rw (q, onward p s e n ts more i h) (unmade f (give_item p s e i) (λ u. give p u e n ts more) m))

abbrev pub ahead : ℕ → ℕ → List PlainTask → Items → Behind
ahead e n ts more = record { items = more; env = e; statement = n; tasks = ts }

pub give-splits : (p : PlainProgram) (s : PlainState) (e n : ℕ) (ts : List PlainTask) (all more : Items) (i : PlainItem) (t : Comp × Items × Items) (r : Result (List PlainGoal) RuleError) (whole : Whole) → all ≡ item i more → conditional_of i ≡ Some t → Makes r (split_given s t.0 t.1 t.2 (ahead e n ts more)) → Leads (give p s e n ts all) whole → Makes r whole
give-splits p s e n ts all more i t r whole q h m l =
    let there : all ≡ item (choose t.0 t.1 t.2) more = q ∙ ap (λ j. item j more) (is-choose i t h) in
    l.leads r (subst (λ is. Makes r (give p s e n ts is)) (sym there) m)

pub give-ends : (p : PlainProgram) (s : PlainState) (e n : ℕ) (ts : List PlainTask) (all : Items) (gs : List PlainGoal) (whole : Whole) → all ≡ none → gs ≡ goals_of s ts → Leads (give p s e n ts all) whole → Makes (Ok gs) whole
give-ends p s e n ts all gs whole q h l = l.leads (Ok gs) (subst (λ is. Makes (Ok gs) (give p s e n ts is)) (sym q) (done_as gs (goals_of s ts) h))

-- there is no item that comes first
pub none-ahead : (next : Option (Bor Item × code.Items)) → ((x : Bor Item × code.Items) → next ≡ Some x → ⊥) → items_ahead next ≡ none
none-ahead None h = refl
none-ahead (Some x) h = absurd (h x refl)
