-- The variables that are new where something is given, and what a walk brings for them: values of
-- their sorts.
use Rattle.std.proofs.Common.{◌≡◌, ℕ, ◌<◌, ℤ, pos, Bool, true, false, List, [], ◌∷◌, ◌++◌, length, Option, Some, None, refl, sym, ap, ◌∙◌, subst, arith}
use Rattle.std.specs.Prelude.{find, is_some, if◌then◌else◌, slice_get, slice_set, get_or}
use Rattle.std.specs.List.{AllByRecursion, AllZip, list_any}
use Rattle.cap_lin.specs.Linear.{Linear, variable, plus}
use Rattle.cap_lin.specs.Values.{Valuation}
use Rattle.cap_lin.specs.declared.row.Sort.{Sort}
use Rattle.cap_lin.specs.declared.row.Sort.TheVariants.{Int, Perm}
use Rattle.cap_lin.specs.declared.row.Op.TheVariants.{Eq as Equal, Ge as AtLeast}
use Rattle.cap_lin.specs.Rows.{row_of}
use Rattle.cap_lin.specs.Steps.{plus_steps}
use Rattle.cap_galg.specs.Elements.{Element}
use Rattle.cap_gsolve.specs.declared.piece.Form.{Form}
use Rattle.cap_gsolve.specs.declared.piece.Form.TheVariants as form
use Rattle.cap_gsolve.specs.Pieces.{piece}
use Rattle.cap_prog.specs.declared.assertion.Comp.{Comp}
use Rattle.cap_prog.specs.declared.assertion.Slot.{Slot}
use Rattle.cap_prog.specs.declared.assertion.Slot.TheVariants.{Any, Is}
use Rattle.cap_prog.specs.declared.assertion.Asked.{Asked}
use Rattle.cap_prog.specs.declared.assertion.Asked.TheVariants.{One, Share, Src, Tok, At, From}
use Rattle.cap_prog.specs.Program.{PlainItem, compare, choose, fact, atom, cell, PlainProgram}
use Rattle.cap_prog.specs.Scopes.{Scope, HasSort, TermFits, SlotFits, CompFits}
use Rattle.cap_prog.specs.WellFormed.{ItemFits}
use Rattle.cap_goal_spec.specs.States.{PlainFact, PlainState}
use Rattle.cap_goal_spec.specs.Environments.{zero_value, one_value, term_of, with_name, term_in, term_in_steps}
use Rattle.cap_rules.specs.Attempts.{Attempt, unit, appended, ◌>>=◌}
use Rattle.cap_rules.specs.Making.{sum, value_by, fresh, with_comparison, env_at, with_env_at, fact_of, is_of_region, is_of_other_type, without_first, with_equalities, with_same, with_false, with_fact}
use Rattle.cap_rules.specs.Giving.{name_as, name_parts, Given as Pair, given as pair, give_term, give_slot, give_slots, give_form, give_sides, give_item}
use Rattle.cap_machine_accounts.specs.Assertions.{NameValue, a_number, SlotsAre}
use Rattle.cap_account_resources.specs.Parts.{Table}
use Rattle.cap_account_resources.proofs.Lists.{join-assoc, set-length}
use Rattle.cap_account_resources.proofs.Stocks.{Stock}
use Rattle.cap_account_states.specs.Nodes.{Comes}
use Rattle.cap_account_states.proofs.Adding.{comes-piece, piece_added}
use Rattle.cap_account_states.proofs.Attempts.{comes-bind, comes-appended, after-computed, after-sort, after-cell, after-comparison, comes-comparison, sort_added, cell_added, row_added}
use Rattle.cap_account_states.proofs.Naming.{at-env}
use Rattle.cap_account_states.proofs.Wants.{Wants}
use Rattle.cap_account_assertions.proofs.Asserted.{Draws}
use Rattle.cap_account_assertions.proofs.GiveItems.{IsPlain}
use Rattle.cap_owners_spec.specs.Traced.{a_share, value_at, valuation}
use Rattle.cap_owners_spec.specs.Filling as filling
use Rattle.cap_owners_walks_laws.proofs.Values.More.{FitsSort, sorted-more}
use Rattle.cap_owners_walks_laws.proofs.Fills.Drawn.{slot_met, slots_met, share_met, asked_met, item_met}
use Rattle.cap_owners_walks_laws.proofs.Fills.Giving.{NamesFit, are_bound, set-bound, term-bound, Shaped, fact-fit, atom-fit}

-- ---- facts

-- it comes to a state with the same variables and environments, cells and pieces, of which this holds
abbrev Keeps : PlainState → (PlainState → Type 0) → Type 0
Keeps s P =
    (t : PlainState) × (t.sorts ≡ s.sorts) × (t.envs ≡ s.envs) × P t × (t.cells ≡ s.cells)
    × (t.guards ≡ s.guards)

keeps-equalities :
    (as' bs : List Linear) (s : PlainState) (P : PlainState → Type 0) →
    Comes (with_equalities s as' bs) P → Keeps s P
keeps-equalities [] [] s P h = (s, refl, refl, h.1, refl, refl)
keeps-equalities [] (b ∷ bs) s P h = (s, refl, refl, h.1, refl, refl)
keeps-equalities (a ∷ as') [] s P h = (s, refl, refl, h.1, refl, refl)
keeps-equalities (a ∷ as') (b ∷ bs) s P h =
    let k = keeps-equalities as' bs (row_added s (row_of a Equal b Int)) P
    (after-comparison s a Equal b Int (λ s'. with_equalities s' as' bs) P h) in
    (k.0, k.1, k.2, k.3, k.4, k.5)

keeps-same :
    (s : PlainState) (f : PlainFact) (o : Option PlainFact) (P : PlainState → Type 0) →
    Comes (with_same s f o) P → Keeps s P
keeps-same s f None P h = (s, refl, refl, h.1, refl, refl)
keeps-same s f (Some g) P h =
    let k = keeps-equalities g.args f.args s
    (λ s'. Comes (with_comparison s' g.state Equal f.state Int) P)
    (comes-bind (with_equalities s g.args f.args)
    (λ s'. with_comparison s' g.state Equal f.state Int) P h) in (
      row_added k.0 (row_of g.state Equal f.state Int),
      k.1,
      k.2,
      comes-comparison k.0 g.state Equal f.state Int P k.3,
      k.4,
      k.5,
    )

keeps-false :
    (s : PlainState) (b : Bool) (P : PlainState → Type 0) → Comes (with_false s b) P → Keeps s P
keeps-false s true P h = (
  row_added s (row_of zero_value Equal one_value Int),
  refl,
  refl,
  comes-comparison s zero_value Equal one_value Int P h,
  refl,
  refl,
)
keeps-false s false P h = (s, refl, refl, h.1, refl, refl)

pub keeps-fact :
    (s : PlainState) (f : PlainFact) (P : PlainState → Type 0) → Comes (with_fact s f) P →
    Keeps s P
keeps-fact s f P h =
    let other = list_any (is_of_other_type f) s.facts in
    let last : PlainState → Attempt PlainState = λ s''.
    appended (without_first (is_of_region f) s.facts) f >>= λ facts.
    unit (record s'' { facts = facts }) in
    let rest : PlainState → Attempt PlainState = λ s'. with_false s' other >>= last in
    let o = find (is_of_region f) s.facts in
    let k = keeps-same s f o (λ s'. Comes (rest s') P) (comes-bind (with_same s f o) rest P h) in
    let m = keeps-false k.0 other (λ s''. Comes (last s'') P)
    (comes-bind (with_false k.0 other) last P k.3) in
    let facts = without_first (is_of_region f) s.facts ++ f ∷ [] in (
      record m.0 { facts = facts },
      m.1 ∙ k.1,
      m.2 ∙ k.2,
      (comes-appended (without_first (is_of_region f) s.facts) f
          (λ facts. Comes (unit (record m.0 { facts = facts })) P)
          (comes-bind (appended (without_first (is_of_region f) s.facts) f)
          (λ facts. unit (record m.0 { facts = facts })) P m.3)).1,
      m.4 ∙ k.4,
      m.5 ∙ k.5,
    )

-- ---- names

module _ (sc : Scope) (e : ℕ) (names vs : List NameValue) (ok : NamesFit sc names) where
  abbrev a : Valuation
  a = valuation names

  -- By what is given so far each variable of the state has a value of its sort; the same names are
  -- bound, and these values of `_` are left.
  pub record SortsSo (left : List NameValue) (g : filling.Giving) (s : PlainState) : Type 0 where
    pub there : e < length s.envs
    pub bound : are_bound g.env ≡ are_bound (env_at s e)
    pub sorted : AllZip FitsSort s.sorts (vs ++ g.new)
    pub wildcards : g.wildcards ≡ left

  -- and so it is in a state of which this holds
  abbrev pub SortsThen : List NameValue → filling.Giving → (PlainState → Type 0) → Type 0
  SortsThen left g P = (t : PlainState) × SortsSo left g t × P t

  abbrev PairThen :
      (A : Type 0) → List NameValue → filling.Giving → (Pair A → Type 0) → Type 0
  PairThen A left g P = (y : Pair A) × SortsSo left g y.state × P y

  -- in a state of the same variables and environments
  sorts-kept :
      (left : List NameValue) (g : filling.Giving) (s t : PlainState) → t.sorts ≡ s.sorts →
      t.envs ≡ s.envs → SortsSo left g s → SortsSo left g t
  sorts-kept left g s t o n h = record {
    there = subst (λ es. e < length es) (sym n) h.there;
    bound = h.bound ∙ ap (λ es. are_bound (get_or es e [])) (sym n);
    sorted = subst (λ os. AllZip FitsSort os (vs ++ g.new)) (sym o) h.sorted;
    wildcards = h.wildcards;
  }

  value-sorted :
      (os : List Sort) (new : List NameValue) (o : Sort) (y : NameValue) →
      AllZip FitsSort os (vs ++ new) → FitsSort o y →
      AllZip FitsSort (os ++ o ∷ []) (vs ++ (new ++ y ∷ []))
  value-sorted os new o y h k =
      subst (AllZip FitsSort (os ++ o ∷ [])) (sym (join-assoc vs new (y ∷ [])))
      (sorted-more os (vs ++ new) o y h k)

  name-sorted :
      (left : List NameValue) (o : Sort) (x : ℕ) (g : filling.Giving) (s : PlainState)
      (P : PlainState → Type 0) → HasSort sc o x → SortsSo left g s →
      Comes (name_as s e o x (term_of (env_at s e) x)) P →
      SortsThen left (filling.give_name names x g) P
  name-sorted left o x g s P has h c =
      by (term_of (env_at s e) x) (is_some (term_of g.env x))
      (term-bound g.env x
      ∙ ap (λ bs. get_or bs x false) h.bound
      ∙ sym (term-bound (env_at s e) x)) c
    where
      by :
          (t : Option Linear) (b : Bool) → b ≡ is_some t → Comes (name_as s e o x t) P →
          SortsThen left
          (if b then g else record g {
            env = with_name g.env x zero_value;
            new = g.new ++ value_at names x ∷ [];
          }) P
      by (Some t) true q c = (s, h, c.1)
      by (Some t) false q c = absurd (cc)
      by None true q c = absurd (cc)
      by None false q c =
          let env = with_name (env_at s e) x (fresh s) in
          let s1 = sort_added s o in
          let count = set-length s.envs e env in
          let there = h.there in (
            with_env_at s1 e env,
            record {
              there = omega (arith, there, count);
              bound =
                  set-bound g.env x zero_value
                  ∙ ap (λ bs. slice_set bs x true) h.bound
                  ∙ sym (set-bound (env_at s e) x (fresh s))
                  ∙ ap are_bound (sym (at-env s1 e env h.there));
              sorted = value-sorted s.sorts g.new o (value_at names x) h.sorted (ok o x has);
              wildcards = h.wildcards;
            },
            (after-sort s o
                (λ s'. unit (with_env_at s' e (with_name (env_at s e) x (fresh s)))) P c).1,
          )

  parts-sorted :
      (left : List NameValue) (o : Sort) (ps : List (ℕ × ℤ)) (g : filling.Giving)
      (s : PlainState) (P : PlainState → Type 0) → AllByRecursion (λ part. HasSort sc o part.0) ps →
      SortsSo left g s → Comes (name_parts s e o ps) P →
      SortsThen left (filling.give_parts names ps g) P
  parts-sorted left o [] g s P fit h c = (s, h, c.1)
  parts-sorted left o (q ∷ qs) g s P fit h c =
      let k = name-sorted left o q.0 g s (λ s'. Comes (name_parts s' e o qs) P) fit.0 h
      (comes-bind (name_as s e o q.0 (term_of (env_at s e) q.0)) (λ s'. name_parts s' e o qs) P c)
      in
      parts-sorted left o qs (filling.give_name names q.0 g) k.0 P fit.1 k.1 k.2

  -- ---- terms and slots

  term-sorted :
      (left : List NameValue) (o : Sort) (t : Linear) (g : filling.Giving) (s : PlainState)
      (P : Pair Linear → Type 0) → TermFits sc o t → SortsSo left g s →
      Comes (give_term s e o t) P → PairThen Linear left (filling.give_parts names t.parts g) P
  term-sorted left o t g s P fit h c =
      let rest : PlainState → Attempt (Pair Linear) = λ s'. value_by (env_at s' e) t >>= λ u.
      unit (pair s' u) in
      let k = parts-sorted left o t.parts g s (λ s'. Comes (rest s') P) fit h
      (comes-bind (name_parts s e o t.parts) rest P c) in
      let u = term_in (env_at k.0 e) t in (
        pair k.0 u,
        k.1,
        (after-computed u (term_in_steps (env_at k.0 e) t) (λ u. unit (pair k.0 u)) P k.2).1,
      )

  -- the next value of `_`
  wildcard-sorted :
      (left : List NameValue) (o : Sort) (y : NameValue) (g : filling.Giving) (s : PlainState) →
      FitsSort o y → SortsSo (y ∷ left) g s →
      SortsSo left (filling.give_wildcard g.wildcards g) (sort_added s o)
  wildcard-sorted left o y g s fit h =
      subst (λ ws. SortsSo left (filling.give_wildcard ws g) (sort_added s o)) (sym h.wildcards)
      (record {
        there = h.there;
        bound = h.bound;
        sorted = value-sorted s.sorts g.new o y h.sorted fit;
        wildcards = refl;
      })

  slot-sorted :
      (left : List NameValue) (x : Slot) (z : ℤ) (g : filling.Giving) (s : PlainState)
      (P : Pair Linear → Type 0) → SlotFits sc Int x → SortsSo (slot_met x z ++ left) g s →
      Comes (give_slot s e Int x) P → PairThen Linear left (filling.give_slot names x g) P
  slot-sorted left Any z g s P fit h c = (
    pair (sort_added s Int) (fresh s),
    wildcard-sorted left Int (a_number z) g s tt h,
    (after-sort s Int (λ s'. unit (pair s' (fresh s))) P c).1,
  )
  slot-sorted left (Is t) z g s P fit h c = term-sorted left Int t g s P fit h c

  share-sorted :
      (left : List NameValue) (x : Slot) (n : ℤ) (g : filling.Giving) (s : PlainState)
      (P : Pair Linear → Type 0) → SlotFits sc Perm x → SortsSo (share_met x n ++ left) g s →
      Comes (give_slot s e Perm x) P → PairThen Linear left (filling.give_slot names x g) P
  share-sorted left Any n g s P fit h c = (
    pair (sort_added s Perm) (fresh s),
    wildcard-sorted left Perm (a_share n) g s refl h,
    (after-sort s Perm (λ s'. unit (pair s' (fresh s))) P c).1,
  )
  share-sorted left (Is t) n g s P fit h c = term-sorted left Perm t g s P fit h c

  slots-sorted :
      (left : List NameValue) (xs : List Slot) (zs : List ℤ) (g : filling.Giving)
      (s : PlainState) (P : Pair (List Linear) → Type 0) → AllByRecursion (SlotFits sc Int) xs →
      SlotsAre (valuation names) xs zs → SortsSo (slots_met xs zs ++ left) g s →
      Comes (give_slots s e xs) P →
      PairThen (List Linear) left (filling.give_slots names xs g) P
  slots-sorted left [] [] g s P fit are h c = (pair s [], h, c.1)
  slots-sorted left [] (z ∷ zs) g s P fit are h c = absurd are
  slots-sorted left (x ∷ xs) [] g s P fit are h c = absurd are
  slots-sorted left (x ∷ xs) (z ∷ zs) g s P fit are h c =
      let k = slot-sorted (slots_met xs zs ++ left) x z g s _ fit.0
      (subst (λ ws. SortsSo ws g s) (sym (join-assoc (slot_met x z) (slots_met xs zs) left)) h)
      (comes-bind (give_slot s e Int x) _ P c) in
      let m = slots-sorted left xs zs (filling.give_slot names x g) k.0.state _ fit.1 are.1 k.1
      (comes-bind (give_slots k.0.state e xs) _ P k.2) in
      (pair m.0.state (k.0.value ∷ m.0.value), m.1, m.2.1)

  -- what is asked of a guard
  form-sorted :
      (left : List NameValue) (asked : Asked) (y : Element) (w : Wants (valuation names) asked y)
      (g : filling.Giving) (s : PlainState) (P : Pair Form → Type 0) →
      Shaped sc names vs ok asked → SortsSo (asked_met (valuation names) asked y w ++ left) g s →
      Comes (give_form s e asked) P →
      PairThen Form left (filling.give_asked names asked g) P
  form-sorted left One y w g s P fit h c = (pair s form.One, h, c.1)
  form-sorted left (Share x) y w g s P fit h c =
      let k = share-sorted left x w.1 g s _ fit h (comes-bind (give_slot s e Perm x) _ P c) in
      (pair k.0.state (form.Share k.0.value), k.1, k.2.1)
  form-sorted left (Src x) y w g s P fit h c =
      let k = slot-sorted left x (pos w.0) g s _ fit h (comes-bind (give_slot s e Int x) _ P c) in
      (pair k.0.state (form.Src k.0.value), k.1, k.2.1)
  form-sorted left (Tok x) y w g s P fit h c =
      let k = slot-sorted left x (pos w.0) g s _ fit h (comes-bind (give_slot s e Int x) _ P c) in
      (pair k.0.state (form.Tok k.0.value), k.1, k.2.1)
  form-sorted left (At x) y w g s P fit h c =
      let more : Pair Linear → Attempt (Pair Form) = λ t. sum t.value one_value >>= λ next.
      unit (pair t.state (form.Span t.value (Some next))) in
      let k = slot-sorted left x (pos w.0) g s (λ t. Comes (more t) P) fit h
      (comes-bind (give_slot s e Int x) more P c) in
      let next = plus k.0.value one_value in (
        pair k.0.state (form.Span k.0.value (Some next)),
        k.1,
        (after-computed next (plus_steps k.0.value one_value)
            (λ next. unit (pair k.0.state (form.Span k.0.value (Some next)))) P k.2).1,
      )
  form-sorted left (From x) y w g s P fit h c =
      let k = slot-sorted left x (pos w.0) g s _ fit h (comes-bind (give_slot s e Int x) _ P c) in
      (pair k.0.state (form.Span k.0.value None), k.1, k.2.1)

  -- the two sides of a comparison
  pub sides-sorted :
      (left : List NameValue) (c : Comp) (g : filling.Giving) (s : PlainState)
      (P : Pair (Linear × Linear) → Type 0) → CompFits sc c → SortsSo left g s →
      Comes (give_sides s e c) P →
      (y : Pair (Linear × Linear)) × SortsSo left (filling.give_comparison names c g) y.state × P y
  sides-sorted left c g s P fit h k =
      let m = term-sorted left c.sort c.left g s _ fit.0 h
      (comes-bind (give_term s e c.sort c.left) _ P k) in
      let n = term-sorted left c.sort c.right (filling.give_parts names c.left.parts g) m.0.state _
      fit.1 m.1 (comes-bind (give_term m.0.state e c.sort c.right) _ P m.2) in
      (pair n.0.state (m.0.value, n.0.value), n.1, n.2.1)

  -- ---- items

  module _ (p : PlainProgram) (T : Table) where
    -- an item that isn't conditional
    pub item-sorted :
        (left : List NameValue) (i : PlainItem) → IsPlain i → (q r : Stock)
        (d : Draws p T (valuation names) i q r) (g : filling.Giving) (s : PlainState)
        (P : PlainState → Type 0) → ItemFits p sc i →
        SortsSo (item_met p T (valuation names) i q r d ++ left) g s →
        Comes (give_item p s e i) P → SortsThen left (filling.give_item names i g) P
    item-sorted left (compare c) plain q r d g s P fit h k =
        let m = sides-sorted left c g s _ fit h (comes-bind (give_sides s e c) _ P k) in
        let t = row_added m.0.state (row_of m.0.value.0 c.op m.0.value.1 c.sort) in (
          t,
          sorts-kept left (filling.give_comparison names c g) m.0.state t refl refl m.1,
          comes-comparison m.0.state m.0.value.0 c.op m.0.value.1 c.sort P m.2,
        )
    item-sorted left (choose c x y) plain q r d g s P fit h k = absurd plain
    item-sorted left (fact place n m args x) plain q r d g s P fit h k =
        let slots = fact-fit sc names vs ok (slice_get p.regions m) args x fit.1 in
        let behind = slot_met x d.0.1 ++ left in
        let g1 = filling.give_name names n g in
        let b = term-sorted (slots_met args d.0.0 ++ behind) Int (variable n) g s _ (fit.0, tt)
        (subst (λ ws. SortsSo ws g s)
        (sym (join-assoc (slots_met args d.0.0) (slot_met x d.0.1) left)) h)
        (comes-bind (give_term s e Int (variable n)) _ P k) in
        let c = slots-sorted behind args d.0.0 g1 b.0.state _ slots.0 d.0.3 b.1
        (comes-bind (give_slots b.0.state e args) _ P b.2) in
        let u = slot-sorted left x d.0.1 (filling.give_slots names args g1) c.0.state _ slots.1 c.1
        (comes-bind (give_slot c.0.state e Int x) _ P c.2) in
        let f = fact_of b.0.value m c.0.value u.0.value in
        let t = keeps-fact u.0.state f P u.2 in (
          t.0,
          sorts-kept left (filling.give_item names (fact place n m args x) g) u.0.state t.0 t.1 t.2
              u.1,
          t.3,
        )
    item-sorted left (atom place n m i asked) plain q r d g s P fit h k =
        let b = term-sorted
        (asked_met (valuation names) asked d.1.element d.1.wanted ++ left) Int (variable n) g s _
        (fit.0, tt) h (comes-bind (give_term s e Int (variable n)) _ P k) in
        let u = form-sorted left asked d.1.element d.1.wanted (filling.give_name names n g) b.0.state
        _ (atom-fit sc names vs ok (slice_get p.regions m) i asked fit.1) b.1
        (comes-bind (give_form b.0.state e asked) _ P b.2) in
        let y = piece b.0.value m i u.0.value in (
          piece_added p u.0.state y,
          sorts-kept left (filling.give_item names (atom place n m i asked) g) u.0.state
              (piece_added p u.0.state y) refl refl u.1,
          (comes-piece p u.0.state y P u.2).2,
        )
    item-sorted left (cell place x y) plain q r d g s P fit h k =
        let b = term-sorted (slot_met y d.0 ++ left) Int x g s _ fit.0 h
        (comes-bind (give_term s e Int x) _ P k) in
        let u = slot-sorted left y d.0 (filling.give_parts names x.parts g) b.0.state _ fit.1 b.1
        (comes-bind (give_slot b.0.state e Int y) _ P b.2) in
        let s1 = cell_added u.0.state b.0.value u.0.value in
        let t = row_added s1 (row_of b.0.value AtLeast one_value Int) in (
          t,
          sorts-kept left (filling.give_item names (cell place x y) g) u.0.state t refl refl u.1,
          comes-comparison s1 b.0.value AtLeast one_value Int P
              (after-cell u.0.state b.0.value u.0.value _ P u.2),
        )
