-- An assertion that is given can be taken again of the same part, by a table that others led to.
use Rattle.cap_account_resources.proofs.Order.{cancel, swapped}
use Rattle.std.proofs.Common.{◌≡◌, ◌≢◌, ℕ, suc, ◌+◌, ◌<◌, pos, ◌*ℤ◌, List, [], ◌∷◌, length, arith, sym, ap, ◌∙◌, subst, Some}
use Rattle.std.specs.Prelude.{get_or, unwrap_or}
use Rattle.std.specs.List.{AllByRecursion}
use Rattle.cap_lin.specs.Linear.{Linear}
use Rattle.cap_lin.specs.Values.{Valuation, denominator, value, amount}
use Rattle.cap_lin.specs.declared.row.Sort.{Sort}
use Rattle.cap_lin.specs.declared.row.Sort.TheVariants.{Int, Perm}
use Rattle.cap_prog.specs.Program.{Items, PlainProgram}
use Rattle.cap_prog.specs.Scopes.{Scope, HasSort}
use Rattle.cap_machine_accounts.specs.Assertions.{NameValue, a_number, a_fraction, HasNameSort, IsNamed}
use Rattle.cap_goal_spec.specs.States.{PlainEnv, PlainFact, PlainState, PlainTask, to_give, to_take, to_rest}
use Rattle.cap_goal_spec.specs.Environments.{zero_value, term_of}
use Rattle.cap_goal_spec.specs.Choices.{PlainTrees}
use Rattle.cap_rules.specs.Making.{env_at}
use Rattle.cap_account_resources.specs.Parts.{Table}
use Rattle.cap_account_resources.proofs.Room.{room, room-some, part-some}
use Rattle.cap_account_resources.proofs.Stocks.{Stock, no_stock, both, Composes, stock-laws}
use Rattle.cap_account_resources.proofs.Tables.{fits-relied}
use Rattle.cap_account_states.specs.Nodes.{Open}
use Rattle.cap_account_states.proofs.Terms.{Over, vars-more, Agree, agree-trans, agree-less}
use Rattle.cap_account_states.proofs.Alike.{Alike, alike-same, agree-alike, value-alike, amount-alike, above-zero}
use Rattle.cap_account_states.proofs.Filled.{Filled, filled_at}
use Rattle.cap_account_states.proofs.Meets.{Usable, usable-old, Old}
use Rattle.cap_account_states.proofs.Facts.{Facts}
use Rattle.cap_account_states.proofs.Checked.{Checked}
use Rattle.cap_account_states.proofs.Items.{AreFit}
use Rattle.cap_account_states.proofs.Naming.{Bound, Placed, Means, Stays, placed-more, values_in, values-mean}
use Rattle.cap_account_states.proofs.Backed.{IsFirm, IsOpened, Backed, Grounded, GoesOn}
use Rattle.cap_account_assertions.proofs.Asserted.{DrawsAll, Owns}
use Rattle.cap_account_assertions.proofs.Laws.{StateAt, GivenLaw, Reached, RestsLaw}
use Rattle.cap_account_assertions.proofs.Follows.{alike-between}
use Rattle.cap_account_assertions.proofs.Named.{rest_values, rest_counts}
use Rattle.cap_account_assertions.proofs.Filling.{fill_items}
use Rattle.cap_account_assertions.proofs.Passages.{Passage, EndsAt, end-of, end-before, end-brings}
use Rattle.cap_account_assertions.proofs.TakenStill.{StillLaw, still-named}

-- ---- values of the names that an environment binds

-- they are the same, fractions crosswise over the denominators
pub record NamesKept (sc : Scope) (env : PlainEnv) (a b : Valuation) : Type 0 where
  pub whole : (x : ℕ) → HasSort sc Int x → Bound env x → b.whole x ≡ a.whole x
  pub share :
      (x : ℕ) → HasSort sc Perm x → Bound env x →
      b.fraction.numerator x *ℤ denominator a.fraction
      ≡ a.fraction.numerator x *ℤ denominator b.fraction

pub name-kept :
    (sc : Scope) (env : PlainEnv) (a b : Valuation) → NamesKept sc env a b → (x : ℕ) (o : Sort)
    (y : NameValue) → HasSort sc o x → Bound env x → HasNameSort o y → IsNamed a x y → IsNamed b x y
name-kept sc env a b k x Int (a_number z) i t s n = k.whole x i t ∙ n
name-kept sc env a b k x Int (a_fraction m d) i t s n = absurd s
name-kept sc env a b k x Perm (a_number z) i t s n = absurd s
name-kept sc env a b k x Perm (a_fraction m d) i t s n =
    let da = denominator a.fraction in
    let db = denominator b.fraction in
    cancel (b.fraction.numerator x *ℤ pos (suc d)) (m *ℤ db) da (above-zero a)
    (swapped (b.fraction.numerator x) (pos (suc d)) da
    ∙ ap (λ z. z *ℤ pos (suc d)) (k.share x i t)
    ∙ swapped (a.fraction.numerator x) db (pos (suc d))
    ∙ ap (λ z. z *ℤ db) n ∙ swapped m da db)

-- names that stay bound have them at alike values
pub names-kept :
    (ks : List ℕ) (sc : Scope) (s : PlainState) (v w : Valuation) (env later : PlainEnv)
    (a : Valuation) → Placed ks sc s.sorts env → Alike (Old s) v w → Stays sc env later →
    Means sc v env a → NamesKept sc env a (values_in w later)
names-kept ks sc s v w env later a p l stay m = record {
  whole = λ x i b.
      ap (λ o. value w.whole (unwrap_or o zero_value)) (stay x Int i b.0 b.1)
      ∙ value-alike (Old s) v w l b.0 (old x Int i b.0 b.1) ∙ m.whole x i b.0 b.1;
  share = λ x i b.
      ap (λ o. amount w.fraction (unwrap_or o zero_value) *ℤ denominator a.fraction)
      (stay x Perm i b.0 b.1)
      ∙ ap (λ u. amount w.fraction b.0 *ℤ pos (u + 1)) m.under
      ∙ amount-alike (Old s) v w l b.0 (old x Perm i b.0 b.1)
      ∙ ap (λ z. z *ℤ denominator w.fraction) (m.share x i b.0 b.1);
}
  where
    old :
        (x : ℕ) (o : Sort) → HasSort sc o x → (t : Linear) → term_of env x ≡ Some t → Over (Old s) t
    old x o i t e =
        vars-more (Usable ks s.sorts o) (Old s) (usable-old ks s.sorts o) t.parts (p.over x o i t e)

-- ---- given, and then others took steps

-- the values are those at which it was given, and then what the Rests make of them
pub record GivenRested (p : Checked) (U : Table) (v : Valuation) (h : Stock) (s : PlainState)
    (ts : List PlainTask) (start : Filled) : Type 0 where
  pub w : Valuation
  pub after : PlainState
  pub children : PlainTrees
  pub goes : Open p.N children after ts
  pub grounded : Grounded p.program [] w after
  pub facts : Facts [] w U after
  pub backed : Backed p.program w after h
  pub agree : Agree (Old s) v w
  pub goes_on : GoesOn s after
  pub others : (x : ℕ) → x < length s.envs → x ≢ 0 → env_at after x ≡ env_at s x
  pub told : List PlainFact
  pub trees : PlainTrees
  pub named : w ≡ rest_values U told trees start.next start.values
  pub count : length after.sorts ≡ rest_counts told trees start.next

module _ (p : Checked) (gives : GivenLaw p) (rests : RestsLaw p) where
  pub given-rested :
      (T U : Table) (sc : Scope) (a v : Valuation) (s : PlainState) (h r : Stock) (items : Items)
      (ts : List PlainTask) (trees : PlainTrees) →
      Open p.N trees s (to_give items 0 0 ∷ to_rest 0 0 ∷ ts) → StateAt p.program [] T sc 0 v s →
      AllByRecursion IsFirm s.facts → Means sc v (env_at s 0) a → AreFit p.program sc items →
      (d : DrawsAll p.program T a items h r) → Backed p.program v s no_stock →
      Reached p.program T U h →
      GivenRested p U v h s ts (fill_items p.program T a items h r d (filled_at 0 v s))
  given-rested T U sc a v s h r items ts trees goes at firm means fits draws backed reached =
      let pp = p.program in
      let all : both pp no_stock h ≡ h = (stock-laws pp).zero_left h in
      let composes : Composes h = λ n.
      part-some pp (h.guards n) (room pp T n) (reached.room n) (room-some pp T n) in
      let g = gives T sc 0 0 a no_stock h r items (to_rest 0 0 ∷ ts) trees v s goes at firm means
      fits draws backed (subst Composes (sym all) composes) in
      let t = rests h T U 0 ts g.children g.w g.after reached g.goes g.grounded g.facts g.firm
      (subst (Backed pp g.w g.after) all g.backed) in
      let first = g.goes_on in
      let more = t.goes_on in
      let count = first.count in
      let next : length g.after.sorts
      ≡ (fill_items pp T a items h r draws (filled_at 0 v s)).next = λ i. (g.filled i).next in
      let values : g.w ≡ (fill_items pp T a items h r draws (filled_at 0 v s)).values =
      λ i. (g.filled i).values in
      record {
        w = t.w;
        after = t.after;
        children = t.children;
        goes = t.goes;
        grounded = t.grounded;
        facts = t.facts;
        backed = t.backed;
        agree =
            agree-trans (Old s) v g.w t.w g.agree
            (agree-less (Old s) (Old g.after) g.w t.w (λ x l. omega (arith, l, count)) t.agree);
        goes_on = record {
          sorts = λ x o e. more.sorts x o (first.sorts x o e);
          count = (let n = more.count in omega (arith, count, n));
          store = more.store ∙ first.store;
          opened = more.opened ∙ first.opened;
          before = more.before ∙ first.before;
          envs = (let m = first.envs in let n = more.envs in omega (arith, m, n));
        };
        others = λ x l ne. ap (λ es. get_or es x []) t.envs ∙ g.others x l ne;
        told = g.after.facts;
        trees = g.children;
        named = t.named
            ∙ (λ i. rest_values U g.after.facts g.children (next i) (values i));
        count = t.count ∙ ap (rest_counts g.after.facts g.children) next;
      }

-- ---- and taken again

-- the part has the items by the later table, at these values, which the known names keep
pub record Again (p : PlainProgram) (U : Table) (h : Stock) (sc : Scope) (env : PlainEnv)
    (a : Valuation) (items : Items) (b : Valuation) : Type 0 where
  pub kept : NamesKept sc env a b
  pub met : Owns p U h b items

-- so it is at all values at which a passage ends
pub record AgainBy (p : PlainProgram) (U : Table) (h : Stock) (sc : Scope) (env : PlainEnv)
    (a : Valuation) (items : Items) (start : Filled) : Type 0 where
  pub passage : Passage
  pub u : Valuation
  pub ends : EndsAt U start passage u
  pub each :
      (x : Valuation) → EndsAt U start passage x →
      Again p U h sc env a items (values_in x passage.env)

-- from a root whose second environment knows what is to stay
pub again :
    (p : Checked) → GivenLaw p → RestsLaw p → StillLaw p → (T U : Table) (sc : Scope)
    (a v : Valuation) (s : PlainState) (h : Stock) (items : Items) (trees : PlainTrees) →
    Open p.N trees s (to_give items 0 0 ∷ to_rest 0 0 ∷ to_take items 1 0 0 ∷ []) →
    StateAt p.program [] T sc 0 v s → AllByRecursion IsFirm s.facts → s.opened ≡ [] →
    Means sc v (env_at s 0) a → 1 < length s.envs → Placed [] sc s.sorts (env_at s 1) →
    Means sc v (env_at s 1) a → AreFit p.program sc items →
    (owns : Owns p.program T h a items) → Backed p.program v s no_stock →
    Reached p.program T U h →
    AgainBy p.program U h sc (env_at s 1) a items
    (fill_items p.program T a items h owns.0 owns.1 (filled_at 0 v s))
again p gives rests still T U sc a v s h items trees goes at firm none means two placed same fits
    owns backed reached =
    let pp = p.program in
    let start = fill_items pp T a items h owns.0 owns.1 (filled_at 0 v s) in
    let g = given-rested p gives rests T U sc a v s h owns.0 items (to_take items 1 0 0 ∷ []) trees
    goes at firm means fits owns.1 backed reached in
    let on = g.goes_on in
    let env = g.others 1 two (λ e. omega (arith, e)) in
    let now = placed-more [] sc s.sorts g.after.sorts (env_at s 1) on.sorts placed in
    let t = still [] U sc 1 0 items [] g.children g.w g.after h g.goes
    (record {
      grounded = g.grounded;
      facts = g.facts;
      opened =
          subst (AllByRecursion (IsOpened (Usable [] g.after.sorts Int) g.w U))
          (sym (on.opened ∙ none)) tt;
      there = (let n = on.envs in omega (arith, two, n));
      placed = subst (Placed [] sc g.after.sorts) (sym env) now;
    }) tt fits g.backed (fits-relied pp T U h reached.full reached.relies reached.room) in
    let late = env_at t.after 1 in
    let y : Passage = record {
      told = g.told;
      trees = g.trees;
      brings = t.brings;
      env = late;
    } in
    record {
      passage = y;
      u = t.w;
      ends = end-of U start y g.after g.w g.named g.count t.w t.follows.alike t.brought.are;
      each = λ x l.
          let m = end-before U start y g.after g.w g.named g.count x l in
          let k = still-named p [] U sc 1 g.w h g.after items [] t x m
          (end-brings U start y g.after g.w g.named g.count x l) in
          record {
            kept =
                names-kept [] sc s v x (env_at s 1) late a placed
                (alike-between s g.after v g.w x on (agree-alike (Old s) v g.w g.agree) m)
                (λ x o i u e. t.follows.stays x o i u (ap (λ y. term_of y x) env ∙ e)) same;
            met = k.met x (alike-same (Old t.after) x) (values_in x late) (values-mean sc x late);
          };
    }
