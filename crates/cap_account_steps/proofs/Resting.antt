-- A chain of Rests leads to any table that others can reach: each fact in turn goes over to it.
use Rattle.std.proofs.Common.{◌≡◌, ℕ, zero, suc, ◌+◌, ◌<◌, ℤ, List, [], ◌∷◌, ◌++◌, length, drop, Some, true, false, refl, sym, ap, ◌∙◌, subst, arith}
use Rattle.std.specs.Prelude.{slice_get, slice_set, option_to_list, ◌==◌, if◌then◌else◌}
use Rattle.std.specs.List.{AllByRecursion}
use Rattle.std.proofs.lemmas.Bool.Decides.{nat_tests}
use Rattle.cap_lin.specs.Rows.{row_of_steps}
use Rattle.cap_lin.specs.Solves.{Proves}
use Rattle.cap_lin.specs.Values.{Valuation}
use Rattle.cap_lin.specs.declared.row.Op.TheVariants.{Eq as Equal}
use Rattle.cap_lin.specs.declared.row.Row.{Row}
use Rattle.cap_lin.specs.declared.row.Sort.{Sort}
use Rattle.cap_lin.specs.declared.row.Sort.TheVariants.{Int}
use Rattle.cap_prog.specs.Program.{PlainRegionType}
use Rattle.cap_goal_spec.specs.States.{PlainFact, PlainState, PlainTask, to_rest, PlainGoal, goal, goal_of, goals_of, with_state}
use Rattle.cap_goal_spec.specs.Candidates.{later_state, candidates}
use Rattle.cap_goal_spec.specs.Choices.{PlainChoice, PlainTree, node, PlainTrees, no_trees, tree, by_absurd, by_settle, by_keep}
use Rattle.cap_rules.specs.Attempts.{unit, found, ◌>>=◌}
use Rattle.cap_rules.specs.Making.{with_rows}
use Rattle.cap_rules.specs.Resting.{named_candidates, prove_at, prove_stable, with_settled, settle, prove_kept, keep}
use Rattle.cap_rules.specs.Rules.{leaves, rule}
use Rattle.cap_rules.specs.Answers.{marks_of}
use Rattle.cap_account_states.specs.Nodes.{Comes, Children, Open}
use Rattle.cap_account_resources.specs.Parts.{Table}
use Rattle.cap_account_resources.proofs.Lists.{within, all-at, push-length, none-some, some-same}
use Rattle.cap_account_resources.proofs.Covering.{Covered}
use Rattle.cap_account_resources.proofs.Stocks.{Stock}
use Rattle.cap_account_states.proofs.Terms.{RowOver}
use Rattle.cap_account_states.proofs.Attempts.{comes-bind, comes-more, after-found, after-sort, after-computed, sort_added}
use Rattle.cap_account_states.proofs.Adding.{PieceOver, comes-rows}
use Rattle.cap_account_states.proofs.Checked.{Checked, lone-child}
use Rattle.cap_account_states.proofs.Meets.{Free, Usable, solves}
use Rattle.cap_account_states.proofs.Backed.{IsFirm, Grounded}
use Rattle.cap_account_assertions.proofs.Named.{set_to, told_state, rest_value, rest_next, rest_values, rest_counts, rest_children}
use Rattle.cap_account_steps.proofs.Keeping.{same_row, comes-kept}
use Rattle.cap_account_steps.proofs.Settling.{IsCandidate, row_at, comes-at, comes-stable}
use Rattle.cap_account_steps.proofs.Worlds.{Exact, AllOver}
use Rattle.cap_account_steps.proofs.Candidates.{named-candidates}
use Rattle.cap_account_steps.proofs.Exact.{all-each}
use Rattle.cap_account_steps.proofs.Turning.{AsBefore, before-same, before-trans, Midway, Turned, kept_state, settled_state, Reaching, Turn, own, kept}
use Rattle.cap_account_steps.proofs.Renewing.{new-free, settled}

-- ---- what the two rules prove

abbrev Done : Unit {0} → Type 0
Done x = Unit {0}

-- candidates follow from the rows and stay true; then they are known
pub record SettledBy (ks : List ℕ) (k : PlainRegionType) (s : PlainState) (j : ℕ) (f : PlainFact)
    (Q : PlainState → Type 0) : Type 0 where
  pub named : List Row
  pub are : AllByRecursion (IsCandidate s) named
  pub over : AllByRecursion (RowOver (Usable ks (s.sorts ++ Int ∷ []))) named
  pub proved : AllByRecursion (λ r. Proves s.rows (row_at s f.state r)) named
  pub stable : Comes (prove_stable k s f named k.actions) Done
  pub comes : Q (settled_state s j f named)

pub comes-settle :
    (ks : List ℕ) (k : PlainRegionType) (s : PlainState) (j : ℕ) (f : PlainFact)
    (list : List ℕ) (Q : PlainState → Type 0) → Free ks (length s.sorts) →
    AllOver (Usable ks s.sorts Int) f → AllByRecursion (PieceOver (Usable ks s.sorts)) s.guards →
    Comes (settle k s j f list) Q → SettledBy ks k s j f Q
comes-settle ks k s j f list Q new over pieces h =
    let g = with_state f (later_state s) in
    let third = λ (named : List Row) (x : Unit {0}). with_settled s j f named in
    let second = λ (named : List Row) (x : Unit {0}).
    prove_stable k s f named k.actions >>= third named in
    let first = λ (named : List Row). prove_at s s.rows f.state named >>= second named in
    let n = named-candidates ks k s f 1 list (λ named. Comes (first named) Q) new over.0 over.1
    over.2 pieces (comes-bind (named_candidates 1 (candidates k s f) list) first Q h) in
    let at = comes-at s s.rows f.state n.rows (λ x. Comes (second n.rows x) Q)
    (comes-bind (prove_at s s.rows f.state n.rows) (second n.rows) Q n.comes) in
    let R = λ (x : Unit {0}). Comes (third n.rows x) Q in
    let stable = comes-bind (prove_stable k s f n.rows k.actions) (third n.rows) Q at.1 in
    let last = λ (t : PlainState). with_rows (record t { facts = slice_set s.facts j g }) n.rows in
    record {
      named = n.rows;
      are = n.are;
      over = n.over;
      proved = at.0;
      stable = comes-more (prove_stable k s f n.rows k.actions) R Done (λ x y. tt) stable;
      comes = comes-rows n.rows (record (sort_added s Int) { facts = slice_set s.facts j g }) Q
          (after-sort s Int last Q (comes-stable k s f n.rows k.actions R stable).1);
    }

pub comes-keep :
    (k : PlainRegionType) (s : PlainState) (j : ℕ) (f : PlainFact) (Q : PlainState → Type 0) →
    Comes (keep k s j f) Q →
    Comes (prove_kept k s f (same_row s f) k.actions) Done × Q (kept_state s j f)
comes-keep k s j f Q h =
    let last = λ (x : Unit {0}). unit (kept_state s j f) in
    let first = λ (r : Row). prove_kept k s f r k.actions >>= last in
    let R = λ (x : Unit {0}). Comes (last x) Q in
    let c = comes-bind (prove_kept k s f (same_row s f) k.actions) last Q
    (after-computed (same_row s f) (row_of_steps (later_state s) Equal f.state Int) first Q h) in (
      comes-more (prove_kept k s f (same_row s f) k.actions) R Done (λ x y. tt) c,
      (comes-kept k s f k.actions R c).1.1,
    )

-- ---- the facts that are left

pub drop-all : {A : Type 0} (xs : List A) (j : ℕ) → length xs ≡ j → drop j xs ≡ []
drop-all [] zero h = refl
drop-all [] (suc j) h = refl
drop-all (x ∷ xs) zero h = absurd (omega (arith, h))
drop-all (x ∷ xs) (suc j) h = drop-all xs j (omega (arith, h))

pub drop-one :
    {A : Type 0} (xs : List A) (j : ℕ) (x : A) → slice_get xs j ≡ Some x →
    drop j xs ≡ x ∷ drop (suc j) xs
drop-one [] j x h = absurd (none-some h)
drop-one (y ∷ ys) zero x h = ap (λ z. z ∷ ys) (some-same y x h)
drop-one (y ∷ ys) (suc j) x h = drop-one ys j x h

pub drop-set :
    {A : Type 0} (xs : List A) (j : ℕ) (x : A) →
    drop (suc j) (slice_set xs j x) ≡ drop (suc j) xs
drop-set [] j x = refl
drop-set (y ∷ ys) zero x = refl
drop-set (y ∷ ys) (suc j) x = drop-set ys j x

-- ---- the chain

-- what a chain of Rests leads to: all facts say what the later table does, and are firm
pub record AtRest (p : Checked) (ks : List ℕ) (U : Table) (v : Valuation) (s : PlainState)
    (ts : List PlainTask) (fs : List PlainFact) (trees : PlainTrees) : Type 0 where
  pub w : Valuation
  pub named : w ≡ rest_values U fs trees (length s.sorts) v
  pub after : PlainState
  pub count : length after.sorts ≡ rest_counts fs trees (length s.sorts)
  pub children : PlainTrees
  pub leads : children ≡ rest_children fs trees
  pub goes : Open p.N children after ts
  pub as_before : AsBefore v w s after
  pub old : AllByRecursion (λ k. k < length after.sorts) ks
  pub grounded : Grounded p.program ks w after
  pub exact : AllByRecursion (Exact w U) after.facts
  pub firm : AllByRecursion IsFirm after.facts
  pub over : AllByRecursion (AllOver (Usable ks after.sorts Int)) after.facts

-- the variables there are once a fact rested
abbrev pub rest_sorts : PlainChoice → List Sort → List Sort
rest_sorts (by_settle list cs) os = os ++ Int ∷ []
rest_sorts c os = os

pub rest-size :
    (c : PlainChoice) (os : List Sort) → length (rest_sorts c os) ≡ rest_next c (length os)
rest-size (by_settle list cs) os = let q = push-length os Int in omega (arith, q)
rest-size c os = refl

module _ (p : Checked) (ks : List ℕ) (part : Stock) (T U : Table)
    (reaching : Reaching p.program part T U) where
  -- one turn later, where a choice at a Rest's goal leaves goals of which P holds, for these trees
  pub record Next (P : List PlainGoal → Type 0) (j n : ℕ) (ts : List PlainTask) (v : Valuation)
      (s : PlainState) (c : PlainChoice) (kids : PlainTrees) : Type 0 where
    pub state : PlainState
    pub w : Valuation
    pub goes : P (goals_of state (to_rest (suc j) n ∷ ts))
    pub turned : Turned p.program ks part T U j v w s state
    pub f : PlainFact
    pub g : PlainFact
    pub is_fact : slice_get s.facts j ≡ Some f
    pub facts : state.facts ≡ slice_set s.facts j g
    pub value : w ≡ rest_value U f c (length s.sorts) v
    pub sorts : state.sorts ≡ rest_sorts c s.sorts

  abbrev turn-of :
      (j : ℕ) (v : Valuation) (s : PlainState) → Midway p.program ks part T U j v s →
      (f : PlainFact) → slice_get s.facts j ≡ Some f → (k : PlainRegionType) →
      slice_get p.program.regions f.kind ≡ Some k → Turn p.program ks part T U j v s
  turn-of j v s mid f e k i = record {
    reaching = reaching;
    midway = mid;
    f = f;
    is_fact = e;
    k = k;
    is_type = i;
  }

  module _ (P : List PlainGoal → Type 0) (j n : ℕ) (ts : List PlainTask) (v : Valuation)
      (s : PlainState) (mid : Midway p.program ks part T U j v s) where
    one-on :
        (t : PlainState) → P (goals_of t (to_rest (j + 1) n ∷ ts)) →
        P (goals_of t (to_rest (suc j) n ∷ ts))
    one-on t h =
        let same : j + 1 ≡ suc j = omega arith in
        subst (λ i. P (goals_of t (to_rest i n ∷ ts))) same h

    pub next-turn :
        (c : PlainChoice) (kids : PlainTrees) →
        Comes (rule p.program (goal s (to_rest j n ∷ ts)) c (marks_of c)) P →
        Next P j n ts v s c kids
    next-turn (by_absurd c) kids h = absurd (h.0.0 v (solves ks v s mid.grounded.meets))
    next-turn (by_settle list cs) kids h =
        let last = λ (t : PlainState). leaves t (to_rest (j + 1) n ∷ ts) in
        let first = λ (f : PlainFact) (k : PlainRegionType). settle k s j f list >>= last in
        let f = after-found (slice_get s.facts j)
        (λ f. found (slice_get p.program.regions f.kind) >>= first f) P h in
        let k = after-found (slice_get p.program.regions f.0.kind) (first f.0) P f.2 in
        let turn = turn-of j v s mid f.0 f.1 k.0 k.1 in
        let r = comes-settle ks k.0 s j f.0 list
        (λ t. Comes (last t) P) (new-free p.program ks part T U j v s turn)
        (own p.program ks part T U j v s turn) mid.grounded.pieces_over
        (comes-bind (settle k.0 s j f.0 list) last P k.2) in
        record {
          state = settled_state s j f.0 r.named;
          goes = one-on (settled_state s j f.0 r.named) r.comes.1;
          w = set_to v (length s.sorts) (told_state U v f.0);
          turned = settled p.program ks part T U j v s turn r.named r.are r.over r.proved r.stable;
          f = f.0;
          g = with_state f.0 (later_state s);
          is_fact = f.1;
          facts = refl;
          value = refl;
          sorts = refl;
        }
    next-turn (by_keep cs) kids h =
        let last = λ (t : PlainState). leaves t (to_rest (j + 1) n ∷ ts) in
        let first = λ (f : PlainFact) (k : PlainRegionType). keep k s j f >>= last in
        let f = after-found (slice_get s.facts j)
        (λ f. found (slice_get p.program.regions f.kind) >>= first f) P h in
        let k = after-found (slice_get p.program.regions f.0.kind) (first f.0) P f.2 in
        let r = comes-keep k.0 s j f.0 (λ t. Comes (last t) P)
        (comes-bind (keep k.0 s j f.0) last P k.2) in
        record {
          state = kept_state s j f.0;
          goes = one-on (kept_state s j f.0) r.1.1;
          w = v;
          turned = kept p.program ks part T U j v s (turn-of j v s mid f.0 f.1 k.0 k.1) r.0;
          f = f.0;
          g = with_state f.0 f.0.state;
          is_fact = f.1;
          facts = refl;
          value = refl;
          sorts = refl;
        }
    next-turn c kids h = absurd h.1

  -- no fact is left
  abbrev pub rests-none :
      (j n : ℕ) (ts : List PlainTask) (trees : PlainTrees) (v : Valuation) (s : PlainState) →
      j ≡ length s.facts → Midway p.program ks part T U j v s →
      Open p.N trees s (to_rest j n ∷ ts) → AtRest p ks U v s ts (drop j s.facts) trees
  rests-none j n ts trees v s count mid goes =
      let all : (j == length s.facts) ≡ true = grind (arith, nat_tests, count) in
      let nothing = drop-all s.facts j (sym count) in
      let each = λ (i : ℕ) (f : PlainFact) (e : slice_get s.facts i ≡ Some f).
      (mid.due i f e).1 (let l = within s.facts i f e in omega (arith, l, count)) in
      record {
        w = v;
        named = ap (λ fs. rest_values U fs trees (length s.sorts) v) (sym nothing);
        count = ap (λ fs. rest_counts fs trees (length s.sorts)) (sym nothing);
        after = s;
        children = trees;
        leads = ap (λ fs. rest_children fs trees) (sym nothing);
        goes =
            subst (λ b. Children p.N trees (option_to_list
            (if b then goal_of s ts else Some (goal s (to_rest j n ∷ ts))))) all goes;
        as_before = before-same v s;
        old = mid.old;
        grounded = mid.grounded;
        exact = all-each (Exact v U) s.facts (λ i f e. (each i f e).0);
        firm = all-each IsFirm s.facts (λ i f e. (each i f e).1);
        over =
            all-each (AllOver (Usable ks s.sorts Int)) s.facts (λ i f e. (mid.due i f e).0);
      }

  -- one fact rests, and then the others
  abbrev pub rests-more :
      (P : List PlainGoal → Type 0) (j n : ℕ) (ts : List PlainTask) (v : Valuation)
      (s : PlainState) (c : PlainChoice) (kids : PlainTrees) (turn : Next P j n ts v s c kids) →
      AtRest p ks U turn.w turn.state ts (drop (suc j) turn.state.facts) kids →
      AtRest p ks U v s ts (drop j s.facts) (tree (node c kids) no_trees)
  rests-more P j n ts v s c kids turn r =
      let left : drop (suc j) turn.state.facts ≡ drop (suc j) s.facts =
      ap (drop (suc j)) turn.facts ∙ drop-set s.facts j turn.g in
      let first = sym (drop-one s.facts j turn.f turn.is_fact) in
      let size = ap length turn.sorts ∙ rest-size c s.sorts in
      record {
        w = r.w;
        named =
            r.named
            ∙ ap (λ fs. rest_values U fs kids (length turn.state.sorts) turn.w) left
            ∙ ap (λ i. rest_values U (drop (suc j) s.facts) kids i turn.w) size
            ∙ ap (rest_values U (drop (suc j) s.facts) kids (rest_next c (length s.sorts)))
            turn.value
            ∙ ap (λ fs. rest_values U fs (tree (node c kids) no_trees) (length s.sorts) v) first;
        count =
            r.count
            ∙ ap (λ fs. rest_counts fs kids (length turn.state.sorts)) left
            ∙ ap (rest_counts (drop (suc j) s.facts) kids) size
            ∙ ap (λ fs. rest_counts fs (tree (node c kids) no_trees) (length s.sorts)) first;
        after = r.after;
        children = r.children;
        leads =
            r.leads
            ∙ ap (λ fs. rest_children fs kids) left
            ∙ ap (λ fs. rest_children fs (tree (node c kids) no_trees)) first;
        goes = r.goes;
        as_before =
            before-trans v turn.w r.w s turn.state r.after turn.turned.before r.as_before;
        old = r.old;
        grounded = r.grounded;
        exact = r.exact;
        firm = r.firm;
        over = r.over;
      }

  -- where some are left, there is a node of the first one's Rest
  pub rest-node :
      (j n : ℕ) (ts : List PlainTask) (trees : PlainTrees) (s : PlainState) → j < length s.facts →
      Open p.N trees s (to_rest j n ∷ ts) →
      (d : PlainTree) × p.N d s (to_rest j n ∷ ts) × (trees ≡ tree d no_trees)
  rest-node j n ts trees s l goes =
      let more : (j == length s.facts) ≡ false = grind (arith, nat_tests, l) in
      lone-child p.N trees s (to_rest j n ∷ ts)
      (subst (λ b. Children p.N trees (option_to_list
      (if b then goal_of s ts else Some (goal s (to_rest j n ∷ ts))))) more goes)

  -- the first of those that are left, where the others rest after it
  first-rests :
      (j n : ℕ) (ts : List PlainTask) (v : Valuation) (s : PlainState) →
      Midway p.program ks part T U j v s → (d : PlainTree) → p.N d s (to_rest j n ∷ ts) →
      ((t : PlainState) (w : Valuation) (kids : PlainTrees) → length t.facts ≡ length s.facts →
      Midway p.program ks part T U (suc j) w t → Open p.N kids t (to_rest (suc j) n ∷ ts) →
      AtRest p ks U w t ts (drop (suc j) t.facts) kids) →
      AtRest p ks U v s ts (drop j s.facts) (tree d no_trees)
  first-rests j n ts v s mid (node c kids) h others =
      let turn = next-turn (Children p.N kids) j n ts v s mid c kids (p.step h) in
      rests-more (Children p.N kids) j n ts v s c kids turn
      (others turn.state turn.w kids turn.turned.before.facts turn.turned.midway turn.goes)

  pub at-rest-from :
      (left j n : ℕ) (ts : List PlainTask) (trees : PlainTrees) (v : Valuation) (s : PlainState) →
      j + left ≡ length s.facts → Midway p.program ks part T U j v s →
      Open p.N trees s (to_rest j n ∷ ts) → AtRest p ks U v s ts (drop j s.facts) trees
  at-rest-from zero j n ts trees v s count mid goes =
      rests-none j n ts trees v s (omega (arith, count)) mid goes
  at-rest-from (suc left) j n ts trees v s count mid goes =
      let one = rest-node j n ts trees s (omega (arith, count)) goes in
      subst (AtRest p ks U v s ts (drop j s.facts)) (sym one.2)
      (first-rests j n ts v s mid one.0 one.1
      (λ t w kids same m g.
      at-rest-from left (suc j) n ts kids w t (omega (arith, count, same)) m g))

  -- from the first fact on
  pub at-rest :
      (n : ℕ) (ts : List PlainTask) (trees : PlainTrees) (v : Valuation) (s : PlainState) →
      AllByRecursion (λ k. k < length s.sorts) ks → Grounded p.program ks v s →
      AllByRecursion (AllOver (Usable ks s.sorts Int)) s.facts →
      AllByRecursion (Exact v T) s.facts →
      ((m : ℤ) → Covered p.program v s.guards m (part.guards m)) →
      Open p.N trees s (to_rest 0 n ∷ ts) → AtRest p ks U v s ts s.facts trees
  at-rest n ts trees v s old grounded over exact covered goes =
      at-rest-from (length s.facts) 0 n ts trees v s count
      (record {
        old = old;
        grounded = grounded;
        due = λ i f e. (
          all-at (AllOver (Usable ks s.sorts Int)) s.facts i f over e,
          (λ l. absurd (omega (arith, l))),
          (λ l. all-at (Exact v T) s.facts i f exact e),
        );
        covered = covered;
      }) goes
    where
      count : 0 + length s.facts ≡ length s.facts
      count = omega arith
