-- What taking an assertion starts from and leads to, and how one step of it is put before the rest.
use Rattle.std.proofs.Common.{◌≡◌, ◌≢◌, ℕ, ◌<◌, ◌≤◌, ℤ, ◌≤ℤ◌, List, [], ◌∷◌, ◌++◌, length, map, arith, refl, sym, subst, Some, None}
use Rattle.std.specs.List.{AllByRecursion}
use Rattle.cap_lin.specs.Values.{Valuation}
use Rattle.cap_prog.specs.Program.{PlainItem, Items, none, item, PlainProgram}
use Rattle.cap_prog.specs.Scopes.{Scope}
use Rattle.cap_goal_spec.specs.States.{PlainState, PlainTask, to_take}
use Rattle.cap_goal_spec.specs.Choices.{PlainTrees}
use Rattle.cap_rules.specs.Making.{env_at}
use Rattle.cap_rules.specs.Rules.{Remaining}
use Rattle.cap_account_resources.specs.Parts.{Table}
use Rattle.cap_account_resources.proofs.Lists.{all-more, Among}
use Rattle.cap_account_resources.proofs.Marks.{free}
use Rattle.cap_account_resources.proofs.Covering.{part-trans}
use Rattle.cap_account_resources.proofs.Monoid.{atom, both as plus}
use Rattle.cap_account_resources.proofs.Interference.{Holding, ArePartOf}
use Rattle.cap_account_resources.proofs.Stocks.{Stock, no_stock, both, Inside, stock-laws, reordered, none-right, inside-is, inside-trans, inside-first, inside-second, inside-beside, inside-guards, total_of}
use Rattle.cap_account_resources.proofs.Tables.{Extends, extends-states}
use Rattle.cap_account_resources.proofs.Owners.{Owner, owned, guards_of_all, numbers_of, Numbered}
use Rattle.cap_account_states.specs.Nodes.{Open}
use Rattle.cap_account_states.proofs.Alike.{Alike}
use Rattle.cap_account_states.proofs.Brought.{Bring, Brought, brought-none, brought-join}
use Rattle.cap_account_states.proofs.Meets.{Old}
use Rattle.cap_account_states.proofs.Checked.{Checked}
use Rattle.cap_account_states.proofs.Naming.{Means}
use Rattle.cap_account_states.proofs.Items.{AreFit}
use Rattle.cap_account_states.proofs.Backed.{Backed}
use Rattle.cap_account_assertions.proofs.Follows.{Follows, follows-none, follows-trans, alike-between, means-before}
use Rattle.cap_account_assertions.proofs.TreeSizes.{trees_size}
use Rattle.cap_account_assertions.proofs.Asserted.{Draws, DrawsAll, draws-kept}
use Rattle.cap_account_assertions.proofs.Laws.{StateAt, IsOwner, Creation, KeepsCreated}

-- ---- what is to be taken

-- these items, in an environment by its number, with so many creations, and tasks behind
pub record Job : Type 0 where
  pub scope : Scope
  pub env : ℕ
  pub most : ℕ
  pub statement : ℕ
  pub items : Items
  pub tasks : List PlainTask

abbrev pub tasks_of : Job → List PlainTask
tasks_of j = to_take j.items j.env j.most j.statement ∷ j.tasks

abbrev pub with_items : Job → Items → Job
with_items j items = record j { items = items }

abbrev pub remaining : Job → Items → Remaining
remaining j more = record {
  items = more;
  env = j.env;
  left = j.most;
  statement = j.statement;
  tasks = j.tasks;
}

-- where regions may be created, there is none from this number on, and nobody holds guards of one.
-- All that must compose is within `lim`
pub record TakeStart (p : PlainProgram) (ks : List ℕ) (T : Table) (next : ℤ) (lim : Holding)
    (j : Job) (v : Valuation) (s : PlainState) (c : Stock) : Type 0 where
  pub ready : StateAt p ks T j.scope j.env v s
  pub backed : Backed p v s c
  pub low : AllByRecursion (λ k. k < length s.sorts) ks
  pub fits : AreFit p j.scope j.items
  pub absent : 0 < j.most → (n : ℤ) → next ≤ℤ n → T n ≡ None
  pub unheld : 0 < j.most → (n : ℤ) → next ≤ℤ n → lim n ≡ Some free
  pub within : ArePartOf p c.guards lim
  pub composes : (n : ℤ) → lim n ≢ None

-- ---- what it leads to

-- the second table is the first with these regions, numbered from the first number on
pub record MadeFrom (p : PlainProgram) (T : Table) (next : ℤ) (U : Table) (new : List Owner)
    (later : ℤ) : Type 0 where
  pub extends : Extends T U
  pub numbered : Numbered next new later
  pub others : (n : ℤ) → (Among n (numbers_of new) → ⊥) → U n ≡ T n
  pub owners : AllByRecursion (IsOwner p U) new

-- all items were drawn out of what is given, and each region that was created has its case, at all
-- values alike to those in the end
pub record Took (p : Checked) (ks : List ℕ) (T : Table) (next : ℤ) (j : Job) (v : Valuation)
    (s : PlainState) (c : Stock) (most_trees : ℕ) : Type 0 where
  pub w : Valuation
  pub after : PlainState
  pub follows : Follows j.scope j.env v s w after
  pub brings : List Bring
  pub brought : Brought s after w brings
  pub children : PlainTrees
  pub goes : Open p.N children after j.tasks
  pub no_larger : trees_size children ≤ most_trees
  pub U : Table
  pub new : List Owner
  pub later : ℤ
  pub made : MadeFrom p.program T next U new later
  pub none_made : j.most ≡ 0 → new ≡ []
  pub created : List Creation
  pub are_created : new ≡ map (λ c. c.owner) created
  pub keeps : AllByRecursion (KeepsCreated p.program U (Old after) w) created
  pub ready : StateAt p.program ks U j.scope j.env w after
  pub left : Stock
  pub backed : Backed p.program w after left
  pub given : Stock
  pub budget :
      Inside p.program (both p.program (both p.program left given) (owned p.program new))
      (both p.program c (guards_of_all p.program new))
  pub draws :
      (x : Valuation) → Alike (Old after) w x → (a : Valuation) →
      Means j.scope x (env_at after j.env) a → (r : Stock) →
      DrawsAll p.program U a j.items (both p.program given r) r

abbrev pub TookLaw : Checked → List ℕ → ℕ → Type 0
TookLaw p ks most_trees =
    (T : Table) (next : ℤ) (lim : Holding) (j : Job) (trees : PlainTrees) (v : Valuation)
    (s : PlainState) (c : Stock) → trees_size trees ≤ most_trees → Open p.N trees s (tasks_of j) →
    TakeStart p.program ks T next lim j v s c → Took p ks T next j v s c most_trees

-- ---- one step

-- what one item's rule leads to: what it brings, what is left to the state, and what is taken of it
pub record Head (p : PlainProgram) (ks : List ℕ) (T : Table) (j : Job) (v : Valuation)
    (s : PlainState) (c : Stock) (bs : List Bring) : Type 0 where
  pub w : Valuation
  pub after : PlainState
  pub follows : Follows j.scope j.env v s w after
  pub brought : Brought s after w bs
  pub ready : StateAt p ks T j.scope j.env w after
  pub left : Stock
  pub backed : Backed p w after left
  pub taken : Stock
  pub apart : Inside p (both p left taken) c

-- at all values alike to these the item is drawn out of what is taken
abbrev pub Claim :
    PlainProgram → Table → Scope → Valuation → PlainState → ℕ → PlainItem → Stock → Type 0
Claim p T sc w t e i taken =
    (x : Valuation) → Alike (Old t) w x → (a : Valuation) → Means sc x (env_at t e) a →
    (r : Stock) → Draws p T a i (both p taken r) r

-- the first items are drawn out of what is taken and more, where the second are drawn out of more
abbrev pub Turns :
    PlainProgram → Table → Scope → Valuation → PlainState → ℕ → Stock → Items → Items → Type 0
Turns p T sc w t e taken items rest =
    (U : Table) → Extends T U → (x : Valuation) → Alike (Old t) w x → (a : Valuation) →
    Means sc x (env_at t e) a → (q r : Stock) → DrawsAll p U a rest q r →
    DrawsAll p U a items (both p taken q) r

-- ---- put together

module _ (p : PlainProgram) where
  -- what is left, given and owned in the end, beside what one step took
  pub budget-step :
      (left taken given own between before guards : Stock) →
      Inside p (both p (both p left given) own) (both p between guards) →
      Inside p (both p between taken) before →
      Inside p (both p (both p left (both p taken given)) own) (both p before guards)
  budget-step left taken given own between before guards h k =
      let atoms = left ∷ taken ∷ given ∷ own ∷ between ∷ guards ∷ [] in
      let more = plus (plus (plus (atom 0) (atom 2)) (atom 3)) (atom 1) in
      let room = plus (plus (atom 4) (atom 5)) (atom 1) in
      subst (λ q. Inside p q (both p before guards))
      (reordered p atoms more (plus (plus (atom 0) (plus (atom 1) (atom 2))) (atom 3)) refl)
      (inside-trans p (total_of p atoms more) (total_of p atoms room) (both p before guards)
      (inside-beside p (both p (both p left given) own) (both p between guards) taken h)
      (subst (λ q. Inside p q (both p before guards))
      (reordered p atoms (plus (plus (atom 4) (atom 1)) (atom 5)) room refl)
      (inside-beside p (both p between taken) before guards k)))

  -- what follows a step starts from what it left
  pub start-after :
      (ks : List ℕ) (T : Table) (next : ℤ) (lim : Holding) (j : Job) (items : Items)
      (v : Valuation) (s : PlainState) (c : Stock) {bs : List Bring} →
      TakeStart p ks T next lim j v s c → (h : Head p ks T j v s c bs) → AreFit p j.scope items →
      TakeStart p ks T next lim (with_items j items) h.w h.after h.left
  start-after ks T next lim j items v s c {bs} st h f = record {
    ready = h.ready;
    backed = h.backed;
    low =
        all-more (λ k. k < length s.sorts) (λ k. k < length h.after.sorts)
        (λ k l. (let n = h.follows.goes_on.count in omega (arith, l, n))) ks st.low;
    fits = f;
    absent = st.absent;
    unheld = st.unheld;
    within = λ n.
        part-trans p (h.left.guards n) (c.guards n) (lim n)
        (inside-guards p h.left c
        (inside-trans p h.left (both p h.left h.taken) c (inside-first p h.left h.taken) h.apart) n)
        (st.within n);
    composes = st.composes;
  }

module _ (p : Checked) (ks : List ℕ) (T : Table) (next : ℤ) (j : Job) (v : Valuation)
    (s : PlainState) (c : Stock) where
  -- after a step, other items
  abbrev pub took-other :
      {bs : List Bring} (h : Head p.program ks T j v s c bs) (rest : Items) →
      Turns p.program T j.scope h.w h.after j.env h.taken j.items rest → (few many : ℕ) →
      few ≤ many → Took p ks T next (with_items j rest) h.w h.after h.left few →
      Took p ks T next j v s c many
  took-other {bs} h rest turns few many le t = record {
    w = t.w;
    after = t.after;
    follows = follows-trans j.scope j.env v h.w t.w s h.after t.after h.follows t.follows;
    brings = bs ++ t.brings;
    brought =
        brought-join s h.after t.after h.w t.w bs t.brings h.brought t.follows.alike t.brought;
    children = t.children;
    goes = t.goes;
    no_larger = (let n = t.no_larger in omega (arith, n, le));
    U = t.U;
    new = t.new;
    later = t.later;
    made = t.made;
    none_made = t.none_made;
    created = t.created;
    are_created = t.are_created;
    keeps = t.keeps;
    ready = t.ready;
    left = t.left;
    backed = t.backed;
    given = both p.program h.taken t.given;
    budget =
        budget-step p.program t.left h.taken t.given (owned p.program t.new) h.left c
        (guards_of_all p.program t.new) t.budget h.apart;
    draws = λ x l a m r.
        let now = alike-between h.after t.after h.w t.w x t.follows.goes_on t.follows.alike l in
        let before = means-before ks j.scope j.env h.w t.w h.after t.after t.follows
        h.ready.placed x a m in
        subst (λ q. DrawsAll p.program t.U a j.items q r)
        (sym ((stock-laws p.program).assoc h.taken t.given r))
        (turns t.U t.made.extends x now a before (both p.program t.given r) r (t.draws x l a m r));
  }

  -- after an item's rule, the items behind it
  abbrev pub took-item :
      {bs : List Bring} (h : Head p.program ks T j v s c bs) (i : PlainItem) (more : Items) → j.items ≡ item i more →
      Claim p.program T j.scope h.w h.after j.env i h.taken → (few many : ℕ) → few ≤ many →
      Took p ks T next (with_items j more) h.w h.after h.left few → Took p ks T next j v s c many
  took-item {bs} h i more e claim few many le t =
      took-other h more
      (λ U g x l a m q r d.
      subst (λ is. DrawsAll p.program U a is (both p.program h.taken q) r) (sym e) (
        q,
        draws-kept p.program T U (extends-states T U g) a i (both p.program h.taken q) q
            (claim x l a m q),
        d,
      )) few many le t

-- no items are left
abbrev pub took-none :
    (p : Checked) (ks : List ℕ) (T : Table) (next : ℤ) (j : Job) (v : Valuation) (s : PlainState)
    (c : Stock) (trees : PlainTrees) → j.items ≡ none → Open p.N trees s j.tasks →
    StateAt p.program ks T j.scope j.env v s → Backed p.program v s c →
    Took p ks T next j v s c (trees_size trees)
took-none p ks T next j v s c trees e goes ready backed = record {
  w = v;
  after = s;
  follows = follows-none j.scope j.env v s;
  brings = [];
  brought = brought-none s s v refl;
  children = trees;
  goes = goes;
  no_larger = omega arith;
  U = T;
  new = [];
  later = next;
  made = record {
    extends = λ n known h. h;
    numbered = refl;
    others = λ n h. refl;
    owners = tt;
  };
  none_made = λ h. refl;
  created = [];
  are_created = refl;
  keeps = tt;
  ready = ready;
  left = c;
  backed = backed;
  given = no_stock;
  budget =
      inside-is p.program (both p.program (both p.program c no_stock) no_stock)
      (both p.program c no_stock) (none-right p.program (both p.program c no_stock));
  draws = λ x l a m r.
      subst (λ is. DrawsAll p.program T a is (both p.program no_stock r) r) (sym e)
      (inside-second p.program no_stock r);
}
