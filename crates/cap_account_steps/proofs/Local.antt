-- Statements that touch neither the heap nor a region: assignments, assertions and branches.
use Rattle.std.proofs.Common.{◌≡◌, ℕ, List, [], ◌∷◌, ◌++◌, refl, ap, ◌∙◌, Bool, true, false}
use Rattle.std.specs.Prelude.{slice_set, if◌then◌else◌}
use Rattle.cap_lin.specs.Linear.{Linear}
use Rattle.cap_lin.specs.Values.{value}
use Rattle.cap_lin.specs.Solves.{Relates}
use Rattle.cap_lin.specs.declared.row.Sort.TheVariants.{Int}
use Rattle.cap_lin.specs.declared.row.Op.{Op}
use Rattle.cap_farkas.specs.declared.cert.Cert.{Cert}
use Rattle.cap_prog.specs.declared.assertion.Comp.{Comp}
use Rattle.cap_prog.specs.Program.{PlainAssertion, Label, set, branch, check, loop, Block, first, append, PlainFunction}
use Rattle.cap_prog.specs.Scopes.{body_scope, fixed_start, CompFits}
use Rattle.cap_goal_spec.specs.States.{PlainState, Home, PlainTask, to_run, to_turn, PlainGoal, goals_of}
use Rattle.cap_goal_spec.specs.Choices.{PlainTree, node, by_absurd, by_set, by_assert, by_if, by_turn, PlainTrees}
use Rattle.cap_rules.specs.Making.{opposite, with_local, with_row, row_here}
use Rattle.cap_rules.specs.Rules.{leaves, branches}
use Rattle.cap_rules.specs.Attempts.{◌>>=◌, unit, prove}
use Rattle.cap_machine.specs.Machine.{Frame, value_in, holds, with_rest, with_value}
use Rattle.cap_machine_accounts.specs.Assertions.{NameValue}
use Rattle.cap_account_resources.proofs.Lists.{all-set, map-set}
use Rattle.cap_account_resources.specs.Parts.{Table}
use Rattle.cap_account_resources.proofs.Order.{met-relates, unmet-relates}
use Rattle.cap_account_resources.proofs.Stocks.{Stock}
use Rattle.cap_account_states.specs.Nodes.{Comes, Children}
use Rattle.cap_account_states.proofs.Terms.{Over}
use Rattle.cap_account_states.proofs.Attempts.{store_row, row_added, after-here, after-prove, after-row-here, after-with-row}
use Rattle.cap_account_states.proofs.Meets.{Usable, meets-row, solves, proved-holds}
use Rattle.cap_account_states.proofs.Checked.{Checked, children-split, one-child}
use Rattle.cap_account_steps.proofs.Points.{point-act}
use Rattle.cap_account_steps.proofs.Stores.{running, here, here-value, here-over, holds-here, row-here-over, met-here}
use Rattle.cap_account_steps.proofs.Frames.{Node, SitsAt}
use Rattle.cap_account_steps.proofs.Statements.{Before, SetLaw, CheckLaw, BranchLaw}

-- the goals of a comparison: with the row that it is met, and with the row that it isn't
pub comes-branches :
    (s : PlainState) (c : Comp) (ts us : List PlainTask) (P : List PlainGoal → Type 0) →
    Comes (branches s c ts us) P →
    P (goals_of (row_added s (store_row s c.op c)) ts
    ++ goals_of (row_added s (store_row s (opposite c.op) c)) us)
comes-branches s c ts us P go =
    let s1 = row_added s (store_row s c.op c) in
    let last = λ (x y : PlainState). unit (goals_of x ts ++ goals_of y us) in
    let rest = λ (x : PlainState). row_here s (opposite c.op) c >>= λ r. with_row s r >>= last x in
    let h1 = after-row-here s c.op c (λ q. with_row s q >>= rest) P go in
    let h2 = after-with-row s (store_row s c.op c) rest P h1 in
    let h3 = after-row-here s (opposite c.op) c (λ r. with_row s r >>= last s1) P h2 in
    (after-with-row s (store_row s (opposite c.op) c) (last s1) P h3).1

module _ (p : Checked) (part : Stock) (T : Table) (fn : PlainFunction) (fixed : List NameValue) where
  abbrev NodeAt : Frame → (Home → List PlainTask) → PlainTree → Type 0
  NodeAt f tasks d = Node p part T fn fixed f tasks d

  -- a goal that is given up as absurd doesn't hold of a frame
  pub given-up :
      {A : Type 0} (f : Frame) (task : Home → PlainTask) (c : Cert) (ks : PlainTrees) →
      NodeAt f (λ h. task h ∷ []) (node (by_absurd c) ks) → A
  given-up f task c ks n =
      absurd ((p.step n.valid).0.0 n.v (solves [] n.v n.state n.grounded.meets))

  -- the same state, before other statements of the frame
  abbrev pub passes-on :
      (f : Frame) (tasks : Home → List PlainTask) (d e : PlainTree) (b : Block) →
      (n : NodeAt f tasks d) → p.N e n.state (running b n.home) →
      SitsAt p part T fn fixed (with_rest f b) n.v
  passes-on f tasks d e b n valid = record {
    sits = record {
      tree = e;
      at_node = record {
        state = n.state;
        v = n.v;
        home = n.home;
        valid = valid;
        none_open = n.none_open;
        grounded = n.grounded;
        facts = n.facts;
        firm = n.firm;
        backed = n.backed;
        store = record {
          home = n.store.home;
          store = n.store.store;
          fixed_are = n.store.fixed_are;
          fixed_known = n.store.fixed_known;
        };
      };
    };
    named = refl;
  }

  -- ---- assignments

  -- the state with a term in the store
  abbrev pub assigned :
      (f : Frame) (tasks : Home → List PlainTask) (d e : PlainTree) (b : Block) (x : ℕ)
      (t : Linear) → (n : NodeAt f tasks d) →
      p.N e (with_local n.state x (here n.state t)) (running b n.home) →
      SitsAt p part T fn fixed (with_value (with_rest f b) x (value_in f.store t)) n.v
  assigned f tasks d e b x t n valid = record {
    sits = record {
      tree = e;
      at_node = record {
        state = with_local n.state x (here n.state t);
        v = n.v;
        home = n.home;
        valid = valid;
        none_open = n.none_open;
        grounded = record {
          meets = record {
            sorted = n.grounded.meets.sorted;
            rows = n.grounded.meets.rows;
            rows_over = n.grounded.meets.rows_over;
            cells_over = n.grounded.meets.cells_over;
            positive = n.grounded.meets.positive;
            store_over =
                all-set (Over (Usable [] n.state.sorts Int)) n.state.store x (here n.state t)
                n.grounded.meets.store_over (here-over [] n.v n.state t n.grounded.meets);
          };
          pieces_over = n.grounded.pieces_over;
          pieces_fit = n.grounded.pieces_fit;
        };
        facts = record {
          holds = n.facts.holds;
          over = n.facts.over;
          loose = n.facts.loose;
          differ = n.facts.differ;
        };
        firm = n.firm;
        backed = record { cells = n.backed.cells; guards = n.backed.guards };
        store = record {
          home = n.store.home;
          store = map-set (value n.v.whole) n.state.store x (here n.state t)
              ∙ ap (λ zs. slice_set zs x (value n.v.whole (here n.state t))) n.store.store
              ∙ ap (slice_set f.store x) (here-value n.v n.state f.store t n.store.store);
          fixed_are = n.store.fixed_are;
          fixed_known = n.store.fixed_known;
        };
      };
    };
    named = refl;
  }

  set-at :
      (f : Frame) (l : Label) (b : Block) (x : ℕ) (t : Linear) (d : PlainTree) →
      (n : NodeAt (with_rest f (first l (set x t) b)) (running (first l (set x t) b)) d) →
      SitsAt p part T fn fixed (with_value (with_rest f b) x (value_in f.store t)) n.v
  set-at f l b x t (node (by_absurd c) ks) n =
      given-up (with_rest f (first l (set x t) b)) (λ h. to_run h (first l (set x t) b)) c ks n
  set-at f l b x t (node by_set ks) n =
      let r = first l (set x t) b in
      let s1 = with_local n.state x (here n.state t) in
      let q = one-child p.N ks s1 (to_run n.home b ∷ [])
      (after-here n.state t (λ u. leaves (with_local n.state x u) (to_run n.home b ∷ []))
      (Children p.N ks) (p.step n.valid)).1 in
      assigned (with_rest f r) (running r) (node by_set ks) q.0 b x t n q.1
  set-at f l b x t d n = absurd (p.step n.valid).1

  -- ---- assertions

  check-at :
      (f : Frame) (l : Label) (b : Block) (c : Comp) (d : PlainTree) → CompFits (body_scope fn) c →
      (n : NodeAt (with_rest f (first l (check c) b)) (running (first l (check c) b)) d) →
      (holds f.store c ≡ true) × SitsAt p part T fn fixed (with_rest f b) n.v
  check-at f l b c (node (by_absurd u) ks) fits n =
      given-up (with_rest f (first l (check c) b)) (λ h. to_run h (first l (check c) b)) u ks n
  check-at f l b c (node (by_assert cs) ks) fits n =
      let s = n.state in
      let r = first l (check c) b in
      let m = n.grounded.meets in
      let asked = after-row-here s c.op c
      (λ q. prove s.rows q >>= λ _. leaves s (to_run n.home b ∷ [])) (Children p.N ks)
      (p.step n.valid) in
      let proved = after-prove s.rows (store_row s c.op c)
      (λ _. leaves s (to_run n.home b ∷ [])) (Children p.N ks) asked in
      let q = one-child p.N ks s (to_run n.home b ∷ []) proved.1.1 in
      let row = proved-holds [] [] n.v s (store_row s c.op c) m proved.0
      (row-here-over n.v s (fixed_start fn) c c.op m fits) in (
        met-here n.v s f.store c m n.store.store row,
        passes-on (with_rest f r) (running r) (node (by_assert cs) ks) q.0 b n q.1,
      )
  check-at f l b c d fits n = absurd (p.step n.valid).1

  -- ---- branches

  -- the state with a row that the store says
  abbrev pub chosen :
      (f : Frame) (tasks : Home → List PlainTask) (d e : PlainTree) (b : Block) (c : Comp)
      (op : Op) → CompFits (body_scope fn) c → (n : NodeAt f tasks d) →
      p.N e (row_added n.state (store_row n.state op c)) (running b n.home) →
      Relates op (value_in f.store c.left) (value_in f.store c.right) →
      SitsAt p part T fn fixed (with_rest f b) n.v
  chosen f tasks d e b c op fits n valid order = record {
    sits = record {
      tree = e;
      at_node = record {
        state = row_added n.state (store_row n.state op c);
        v = n.v;
        home = n.home;
        valid = valid;
        none_open = n.none_open;
        grounded = record {
          meets = meets-row [] n.v n.state (store_row n.state op c) n.grounded.meets
              (holds-here n.v n.state f.store c op n.grounded.meets n.store.store order)
              (row-here-over n.v n.state (fixed_start fn) c op n.grounded.meets fits);
          pieces_over = n.grounded.pieces_over;
          pieces_fit = n.grounded.pieces_fit;
        };
        facts = record {
          holds = n.facts.holds;
          over = n.facts.over;
          loose = n.facts.loose;
          differ = n.facts.differ;
        };
        firm = n.firm;
        backed = record { cells = n.backed.cells; guards = n.backed.guards };
        store = record {
          home = n.store.home;
          store = n.store.store;
          fixed_are = n.store.fixed_are;
          fixed_known = n.store.fixed_known;
        };
      };
    };
    named = refl;
  }

  -- the goals of a comparison, where it is met and where it isn't
  record BothGoals (s : PlainState) (h : Home) (c : Comp) (a b : Block)
      (ks : PlainTrees) : Type 0 where
    met : (d : PlainTree) × p.N d (row_added s (store_row s c.op c)) (running a h)
    unmet : (d : PlainTree) × p.N d (row_added s (store_row s (opposite c.op) c)) (running b h)

  both-goals :
      (s : PlainState) (h : Home) (c : Comp) (a b : Block) (ks : PlainTrees) →
      Comes (branches s c (running a h) (running b h)) (Children p.N ks) → BothGoals s h c a b ks
  both-goals s h c a b ks go =
      let s1 = row_added s (store_row s c.op c) in
      let s2 = row_added s (store_row s (opposite c.op) c) in
      let k = children-split p.N ks (goals_of s1 (running a h)) (goals_of s2 (running b h))
      (comes-branches s c (running a h) (running b h) (Children p.N ks) go) in
      record {
        met = one-child p.N k.left s1 (running a h) k.first;
        unmet = one-child p.N k.right s2 (running b h) k.second;
      }

  -- the frame goes on where the store leads it
  by-store :
      (f : Frame) (tasks : Home → List PlainTask) (d : PlainTree) (ks : PlainTrees) (c : Comp)
      (a b : Block) → CompFits (body_scope fn) c → (n : NodeAt f tasks d) →
      BothGoals n.state n.home c a b ks →
      SitsAt p part T fn fixed (with_rest f (if holds f.store c then a else b)) n.v
  by-store f tasks d ks c a b fits n g = on (holds f.store c) refl
    where
      on :
          (t : Bool) → holds f.store c ≡ t →
          SitsAt p part T fn fixed (with_rest f (if t then a else b)) n.v
      on true q =
          chosen f tasks d g.met.0 a c c.op fits n g.met.1
          (met-relates c.op (value_in f.store c.left) (value_in f.store c.right) q)
      on false q =
          chosen f tasks d g.unmet.0 b c (opposite c.op) fits n g.unmet.1
          (unmet-relates c.op (value_in f.store c.left) (value_in f.store c.right) q)

  branch-at :
      (f : Frame) (l : Label) (rest : Block) (c : Comp) (a b : Block) (d : PlainTree) →
      CompFits (body_scope fn) c →
      (n : NodeAt (with_rest f (first l (branch c a b) rest))
      (running (first l (branch c a b) rest)) d) →
      SitsAt p part T fn fixed
      (with_rest f (if holds f.store c then append a rest else append b rest)) n.v
  branch-at f l rest c a b (node (by_absurd u) ks) fits n =
      given-up (with_rest f (first l (branch c a b) rest))
      (λ h. to_run h (first l (branch c a b) rest)) u ks n
  branch-at f l rest c a b (node by_if ks) fits n =
      let r = first l (branch c a b) rest in
      by-store (with_rest f r) (running r) (node by_if ks) ks c (append a rest) (append b rest) fits
      n
      (both-goals n.state n.home c (append a rest) (append b rest) ks (p.step n.valid))
  branch-at f l rest c a b d fits n = absurd (p.step n.valid).1

  -- a loop's turn, or what comes behind it
  pub turn-at :
      (f : Frame) (l : Label) (rest : Block) (c : Comp) (i : PlainAssertion) (a : Block)
      (d : PlainTree) → CompFits (body_scope fn) c →
      (n : NodeAt f (λ h. to_turn h (first l (loop c i a) rest) ∷ []) d) →
      SitsAt p part T fn fixed
      (with_rest f (if holds f.store c then append a (first l (loop c i a) rest) else rest)) n.v
  turn-at f l rest c i a (node (by_absurd u) ks) fits n =
      given-up f (λ h. to_turn h (first l (loop c i a) rest)) u ks n
  turn-at f l rest c i a (node by_turn ks) fits n =
      let again = append a (first l (loop c i a) rest) in
      by-store f (λ h. to_turn h (first l (loop c i a) rest) ∷ []) (node by_turn ks) ks c again rest
      fits n (both-goals n.state n.home c again rest ks (p.step n.valid))
  turn-at f l rest c i a d fits n = absurd (p.step n.valid).1

-- ---- the laws: the values stay

pub set-named :
    (p : Checked) (part : Stock) (T : Table) (fn : PlainFunction) (fixed : List NameValue)
    (f : Frame) (l : Label) (b : Block) (x : ℕ) (t : Linear) →
    (k : Before p part T fn fixed f l (set x t) b) →
    SitsAt p part T fn fixed (with_value (with_rest f b) x (value_in f.store t)) k.sits.at_node.v
set-named p part T fn fixed f l b x t k =
    set-at p part T fn fixed f l b x t k.sits.tree k.sits.at_node

pub check-named :
    (p : Checked) (part : Stock) (T : Table) (fn : PlainFunction) (fixed : List NameValue)
    (f : Frame) (l : Label) (b : Block) (c : Comp) →
    (k : Before p part T fn fixed f l (check c) b) →
    (holds f.store c ≡ true) × SitsAt p part T fn fixed (with_rest f b) k.sits.at_node.v
check-named p part T fn fixed f l b c k =
    check-at p part T fn fixed f l b c k.sits.tree
    (point-act p.program fn l (check c) b k.ok.point) k.sits.at_node

pub branch-named :
    (p : Checked) (part : Stock) (T : Table) (fn : PlainFunction) (fixed : List NameValue)
    (f : Frame) (l : Label) (b : Block) (c : Comp) (x y : Block) →
    (k : Before p part T fn fixed f l (branch c x y) b) →
    SitsAt p part T fn fixed
    (with_rest f (if holds f.store c then append x b else append y b)) k.sits.at_node.v
branch-named p part T fn fixed f l b c x y k =
    branch-at p part T fn fixed f l b c x y k.sits.tree
    (point-act p.program fn l (branch c x y) b k.ok.point) k.sits.at_node

pub set-law : (p : Checked) → SetLaw p
set-law p part T fn fixed f l b x t k = (set-named p part T fn fixed f l b x t k).sits

pub check-law : (p : Checked) → CheckLaw p
check-law p part T fn fixed f l b c k =
    let r = check-named p part T fn fixed f l b c k in (r.0, r.1.sits)

pub branch-law : (p : Checked) → BranchLaw p
branch-law p part T fn fixed f l b c x y k =
    (branch-named p part T fn fixed f l b c x y k).sits
