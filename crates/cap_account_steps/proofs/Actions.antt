-- A move by an action, matched and proved: values of the action's names, what they say of the
-- region, and the pieces that its guards are cut out of.
use Rattle.cap_account_resources.proofs.Lists.{map-at, within, get-first, get-map, all-more, all-both, all-first, all-second, all-at}
use Rattle.std.proofs.Common.{◌≡◌, ℕ, ◌+◌, ◌<◌, Bool, true, false, List, [], ◌∷◌, ◌++◌, length, map, Some, None, sym, ap, ◌∙◌, subst, arith}
use Rattle.std.specs.Prelude.{find, filter, not, unwrap_or, if◌then◌else◌}
use Rattle.std.specs.List.{AllByRecursion}
use Rattle.cap_lin.specs.Linear.{Linear}
use Rattle.cap_lin.specs.Values.{Valuation, value}
use Rattle.cap_lin.specs.declared.row.Sort.{Sort}
use Rattle.cap_lin.specs.declared.row.Sort.TheVariants.{Int, Perm}
use Rattle.cap_galg.specs.Algebras.{atom_algebra}
use Rattle.cap_gsolve.specs.Pieces.{piece, of_atom}
use Rattle.cap_gsolve.specs.Meaning.{Fits}
use Rattle.cap_prog.specs.declared.assertion.Slot.TheVariants.{Is}
use Rattle.cap_prog.specs.declared.assertion.Asked.{Asked}
use Rattle.cap_prog.specs.Program.{PlainAction, PlainRegionType, PlainProgram}
use Rattle.cap_prog.specs.Scopes.{Scope, HasSort, region_scope, whole_numbers, known}
use Rattle.cap_prog.specs.WellFormed.{AtomFits, ActionFits}
use Rattle.cap_machine_accounts.specs.Parts.{algebra_of}
use Rattle.cap_machine_accounts.specs.Assertions.{CompHolds, AreWhole}
use Rattle.cap_goal_spec.specs.States.{PlainFact, PlainEnv, PlainState}
use Rattle.cap_goal_spec.specs.Environments.{term_of, unbound, region_env}
use Rattle.cap_rules.specs.Attempts.{Attempt, ◌>>=◌}
use Rattle.cap_rules.specs.Making.{prove_comparisons}
use Rattle.cap_rules.specs.Closing.{MovePart, guard, source, target, waits, match_form, match_part, Matched, match_ready, match_all, parts_of, is_indexed, indexed_of, match_spans, prove_action}
use Rattle.cap_account_states.specs.Nodes.{Comes}
use Rattle.cap_account_states.proofs.Terms.{Over}
use Rattle.cap_account_states.proofs.Scopes.{rep-length, rep-in}
use Rattle.cap_account_states.proofs.Attempts.{comes-bind, comes-more, after-found}
use Rattle.cap_account_states.proofs.Meets.{Usable, Meets}
use Rattle.cap_account_states.proofs.Alike.{alike-same}
use Rattle.cap_account_states.proofs.Naming.{Placed, Means, Stays, values_in, values-mean}
use Rattle.cap_account_states.proofs.Matching.{matching}
use Rattle.cap_account_states.proofs.Values.{whole-of}
use Rattle.cap_account_states.proofs.Asking.{AskedOver}
use Rattle.cap_account_states.proofs.Pieces.{AllFit}
use Rattle.cap_account_states.proofs.Adding.{PieceOver}
use Rattle.cap_account_states.proofs.Environments.{none-bound}
use Rattle.cap_account_states.proofs.Cases.{case-placed}
use Rattle.cap_account_assertions.proofs.RuleSteps.{comparisons-hold}
use Rattle.cap_account_steps.proofs.Worlds.{AllOver}
use Rattle.cap_account_states.proofs.Wants.{asked-over}
use Rattle.cap_account_steps.proofs.Offers.{LeadsTo, form-offers}
use Rattle.cap_account_steps.proofs.Atoms.{found-at, is-piece, Found}
use Rattle.cap_account_steps.proofs.Spans.{spans-found}

-- ---- lists in two parts, of which a test is false and true

all-filtered :
    {X : Type 0} (P : X → Type 0) (t : X → Bool) (xs : List X) → AllByRecursion P xs →
    AllByRecursion P (filter t xs)
all-filtered P t [] h = tt
all-filtered P t (x ∷ xs) h = by (t x) (all-filtered P t xs h.1)
  where
    by : (b : Bool) → AllByRecursion P (filter t xs) →
        AllByRecursion P (if b then x ∷ filter t xs else filter t xs)
    by true k = (h.0, k)
    by false k = k

all-whole :
    {X : Type 0} (P : X → Type 0) (t : X → Bool) (xs : List X) →
    AllByRecursion P (filter (λ x. not (t x)) xs) → AllByRecursion P (filter t xs) →
    AllByRecursion P xs
all-whole P t [] h k = tt
all-whole {X} P t (x ∷ xs) h k = by (t x) h k (λ a b. all-whole P t xs a b)
  where
    others : List X
    others = filter (λ y. not (t y)) xs

    by :
        (b : Bool) → AllByRecursion P (if not b then x ∷ others else others) →
        AllByRecursion P (if b then x ∷ filter t xs else filter t xs) →
        (AllByRecursion P others → AllByRecursion P (filter t xs) → AllByRecursion P xs) →
        AllByRecursion P (x ∷ xs)
    by true a b g = (b.0, g a b.1)
    by false a b g = (a.0, g a.1 b)

-- ---- environments that go on

-- values of a later environment are values of an earlier one
pub means-earlier :
    (sc : Scope) (v X : Valuation) (env env' : PlainEnv) → Stays sc env env' → Means sc v env' X →
    Means sc v env X
means-earlier sc v X env env' st m = record {
  under = m.under;
  whole = λ x i t e. m.whole x i t (st x Int i t e);
  share = λ x i t e. m.share x i t (st x Perm i t e);
}

-- ---- the region and its arguments, by the names that stand for them

pub region-whole :
    (k : PlainRegionType) (names : List Sort) (f : PlainFact) (v X : Valuation) (tail : PlainEnv) →
    length f.args + 1 ≡ k.params → Means (region_scope k names) v (region_env f tail) X →
    AreWhole X 0 (value v.whole f.region ∷ map (value v.whole) f.args)
region-whole k names f v X tail arity m =
    let sc = region_scope k names in
    let ts = f.region ∷ f.args in
    whole-of X 0 (map (value v.whole) ts) (λ i z e.
    let t = get-map (value v.whole) ts i z e in
    let l = within ts i t.0 t.1 in
    let zero-plus : 0 + i ≡ i = omega arith in
    let sort : HasSort sc Int i =
    get-first (whole_numbers k.params) (known names) i (Some Int)
    (rep-in k.params i (Some Int) (omega (arith, l, arity))) in
    let bound : term_of (region_env f tail) i ≡ Some t.0 =
    ap (λ o. unwrap_or o None)
    (get-first (map Some ts) tail i (Some t.0) (map-at Some ts i t.0 t.1)) in
    ap X.whole zero-plus ∙ sym (m.whole i sort t.0 bound) ∙ t.2)

module _ (p : PlainProgram) (ks : List ℕ) (v : Valuation) (s : PlainState) (me : Meets ks v s)
    (f : PlainFact) (over : AllOver (Usable ks s.sorts Int) f) (k : PlainRegionType)
    (new : Linear) (later : Over (Usable ks s.sorts Int) new) (a : PlainAction)
    (fits : ActionFits k a) (pieces : AllByRecursion (PieceOver (Usable ks s.sorts)) s.before)
    (fit : AllFit p s.before) where
  abbrev sc : Scope
  sc = region_scope k a.names

  abbrev Leads : PlainEnv → (Valuation → Type 0) → (PlainEnv → Type 0) → Type 0
  Leads env S Q = LeadsTo ks sc s.sorts v env S Q

  -- what a part of the move says at values of the action's names
  abbrev Says : Valuation → MovePart → Type 0
  Says X (guard i asked) = Found p v X f.region f.kind s.before (i, asked)
  Says X source = value X.whole a.source ≡ value v.whole f.state
  Says X target = value X.whole a.target ≡ value v.whole new

  abbrev PartFits : MovePart → Type 0
  PartFits (guard i asked) = AskedOver sc asked
  PartFits source = Unit {0}
  PartFits target = Unit {0}

  leads-more :
      (env : PlainEnv) (S T : Valuation → Type 0) (Q : PlainEnv → Type 0) →
      ((X : Valuation) → S X → T X) → Leads env S Q → Leads env T Q
  leads-more env S T Q g n = record {
    later = n.later;
    placed = n.placed;
    stays = n.stays;
    says = λ X m. g X (n.says X m);
    comes = n.comes;
  }

  leads-then :
      (env : PlainEnv) (S T : Valuation → Type 0) (R Q : PlainEnv → Type 0) →
      (n : Leads env S R) → Leads n.later T Q → Leads env (λ X. S X × T X) Q
  leads-then env S T R Q n m = record {
    later = m.later;
    placed = m.placed;
    stays = λ x o i t e. m.stays x o i t (n.stays x o i t e);
    says =
        λ X h. (n.says X (means-earlier sc v X n.later m.later m.stays h), m.says X h);
    comes = m.comes;
  }

  -- ---- the parts of a move

  part-leads :
      (x : MovePart) → PartFits x → (env : PlainEnv) → Placed ks sc s.sorts env →
      (Q : PlainEnv → Type 0) → Comes (match_part s f new a env x) Q →
      Leads env (λ X. Says X x) Q
  part-leads (guard i asked) h env pl Q c =
      let w = after-found (find (of_atom f.region f.kind i) s.before)
      (λ q. match_form s env asked q.form) Q c in
      let q = w.0 in
      let at = found-at (of_atom f.region f.kind i) s.before q w.1 in
      let is = is-piece f.region f.kind i q at.2 in
      let own : Fits (algebra_of p f.kind) (piece f.region f.kind i q.form) =
      subst (λ x. Fits (algebra_of p x.kind) x) is
      (all-at (λ x. Fits (algebra_of p x.kind) x) s.before at.0 q fit at.1) in
      let o = form-offers (atom_algebra (algebra_of p f.kind) i) ks sc v s me env pl Q asked q.form
      h (all-at (PieceOver (Usable ks s.sorts)) s.before at.0 q pieces at.1).1 own.1 w.2 in
      record {
        later = o.later;
        placed = o.placed;
        stays = o.stays;
        says =
            λ X m. record {
              number = at.0;
              form = q.form;
              found = at.1 ∙ ap Some is;
              offers = o.says X m;
            };
        comes = o.comes;
      }
  part-leads source h env pl Q c =
      let m = matching ks sc v s env (Is a.source) f.state Q me pl fits.source over.2 c in
      record {
        later = m.later;
        placed = m.placed;
        stays = m.stays;
        says = λ X n. m.means v (alike-same (λ y. y < length s.sorts) v) X n;
        comes = m.comes;
      }
  part-leads target h env pl Q c =
      let m = matching ks sc v s env (Is a.target) new Q me pl fits.target later c in
      record {
        later = m.later;
        placed = m.placed;
        stays = m.stays;
        says = λ X n. m.means v (alike-same (λ y. y < length s.sorts) v) X n;
        comes = m.comes;
      }

  -- one after the other
  all-lead :
      (xs : List MovePart) → AllByRecursion PartFits xs → (env : PlainEnv) →
      Placed ks sc s.sorts env → (Q : PlainEnv → Type 0) → Comes (match_all s f new a env xs) Q →
      Leads env (λ X. AllByRecursion (Says X) xs) Q
  all-lead [] h env pl Q c = record {
    later = env;
    placed = pl;
    stays = λ x o i t e. e;
    says = λ X m. tt;
    comes = c.1;
  }
  all-lead (x ∷ xs) h env pl Q c =
      let R = λ (e : PlainEnv). Comes (match_all s f new a e xs) Q in
      let n = part-leads x h.0 env pl R
      (comes-bind (match_part s f new a env x) (λ e. match_all s f new a e xs) Q c) in
      leads-then env (λ X. Says X x) (λ X. AllByRecursion (Says X) xs) R Q n
      (all-lead xs h.1 n.later n.placed Q n.comes)

  abbrev Waiting : (PlainEnv → Type 0) → Matched → Type 0
  Waiting Q m = Comes (match_all s f new a m.env m.waiting) Q

  either :
      (t : Bool) (o q : Attempt Matched) (P : Matched → Type 0) (R : Type 0) →
      Comes (if t then o else q) P → (Comes o P → R) → (Comes q P → R) → R
  either true o q P R c g h = g c
  either false o q P R c g h = h c

  -- those that wait after the others
  ready-lead :
      (xs ws : List MovePart) → AllByRecursion PartFits xs → AllByRecursion PartFits ws →
      (env : PlainEnv) → Placed ks sc s.sorts env → (Q : PlainEnv → Type 0) →
      Comes (match_ready s f new a env ws xs) (Waiting Q) →
      Leads env (λ X. AllByRecursion (Says X) ws × AllByRecursion (Says X) xs) Q
  ready-lead [] ws h w env pl Q c =
      leads-more env (λ X. AllByRecursion (Says X) ws)
      (λ X. AllByRecursion (Says X) ws × Unit {0}) Q (λ X m. (m, tt))
      (all-lead ws w env pl Q c.1)
  ready-lead (x ∷ xs) ws h w env pl Q c =
      let All = λ (X : Valuation) (ys : List MovePart). AllByRecursion (Says X) ys in
      let S = λ (X : Valuation). All X ws × (Says X x × All X xs) in
      let P = Waiting Q in
      let next = λ (e : PlainEnv). match_ready s f new a e ws xs in
      either (waits env a x) (match_ready s f new a env (ws ++ x ∷ []) xs)
      (match_part s f new a env x >>= next) P (Leads env S Q) c
      (λ d.
      leads-more env (λ X. All X (ws ++ x ∷ []) × All X xs) S Q
      (λ X m. (
        all-first (Says X) ws (x ∷ []) m.0,
        ((all-second (Says X) ws (x ∷ []) m.0).0, m.1),
      ))
      (ready-lead xs (ws ++ x ∷ []) h.1 (all-both PartFits ws (x ∷ []) w (h.0, tt)) env pl Q d))
      (λ d.
      let R = λ (e : PlainEnv). Comes (next e) P in
      let n = part-leads x h.0 env pl R (comes-bind (match_part s f new a env x) next P d) in
      leads-more env (λ X. Says X x × (All X ws × All X xs)) S Q
      (λ X m. (m.1.0, (m.0, m.1.1)))
      (leads-then env (λ X. Says X x) (λ X. All X ws × All X xs) R Q n
      (ready-lead xs ws h.1 w n.later n.placed Q n.comes)))

  -- ---- the action

  guards-fit :
      (gs : List (ℕ × Asked)) → AllByRecursion (λ g. AtomFits sc k g.0 g.1) gs →
      AllByRecursion PartFits (map (λ g. guard g.0 g.1) gs)
  guards-fit [] h = tt
  guards-fit (g ∷ gs) h =
      (asked-over sc (atom_algebra k.algebra g.0) g.1 h.0.form, guards-fit gs h.1)

  guards-say :
      (X : Valuation) (gs : List (ℕ × Asked)) →
      AllByRecursion (Says X) (map (λ g. guard g.0 g.1) gs) →
      AllByRecursion (Found p v X f.region f.kind s.before) gs
  guards-say X [] h = tt
  guards-say X (g ∷ gs) h = (h.0, guards-say X gs h.1)

  -- what is matched and proved: the values of the action's names, and what they say
  pub record Matches : Type 0 where
    pub values : Valuation
    pub args : AreWhole values 0 (value v.whole f.region ∷ map (value v.whole) f.args)
    pub source_is : value values.whole a.source ≡ value v.whole f.state
    pub target_is : value values.whole a.target ≡ value v.whole new
    pub conditions : AllByRecursion (CompHolds values) a.when
    pub guards : AllByRecursion (Found p v values f.region f.kind s.before) a.guards

  pub matches :
      (spans : List ℕ) → length f.args + 1 ≡ k.params → (P : Unit {0} → Type 0) →
      Comes (prove_action s f new a spans) P → Matches × P tt
  matches spans arity P c =
      let names = unbound (length a.names) in
      let start = region_env f names in
      let fit_at = λ (g : ℕ × Asked). AtomFits sc k g.0 g.1 in
      let plain = filter (λ (g : ℕ × Asked). not (is_indexed g)) a.guards in
      let plain-fit = all-filtered fit_at (λ g. not (is_indexed g)) a.guards fits.guards in
      let indexed-fit = all-filtered fit_at is_indexed a.guards fits.guards in
      let gs = map (λ (g : ℕ × Asked). guard g.0 g.1) plain in
      let ends = source ∷ target ∷ [] in
      let last = λ (e : PlainEnv) (u : Unit {0}). prove_comparisons s.rows e a.when in
      let third = λ (e : PlainEnv). match_spans s f e (indexed_of a) spans >>= last e in
      let Q = λ (e : PlainEnv). Comes (third e) P in
      let ready = match_ready s f new a start [] (parts_of a) in
      let all = λ (m : Matched). match_all s f new a m.env m.waiting in
      let pl = case-placed ks s.sorts k a.names f names arity over.0 over.1
      (rep-length (length a.names) None) (none-bound (Usable ks s.sorts Int) (length a.names)) in
      let n = ready-lead (parts_of a) []
      (all-both PartFits gs ends (guards-fit plain plain-fit) (tt, (tt, tt))) tt start pl Q
      (comes-more ready (λ m. Comes (all m >>= third) P) (λ m. Comes (all m) Q)
      (λ m h. comes-bind (all m) third P h) (comes-bind ready (λ m. all m >>= third) P c)) in
      let X = values_in v n.later in
      let means = values-mean sc v n.later in
      let says = (n.says X means).1 in
      let ended = all-second (Says X) gs ends says in
      let spanned = spans-found p ks sc v s me f pieces fit n.later n.placed X means (indexed_of a)
      spans (all-more fit_at (λ (g : ℕ × Asked). AskedOver sc g.1)
      (λ g h. asked-over sc (atom_algebra k.algebra g.0) g.1 h.form) (indexed_of a) indexed-fit)
      (λ u. Comes (last n.later u) P)
      (comes-bind (match_spans s f n.later (indexed_of a) spans) (last n.later) P n.comes) in
      let w = comparisons-hold ks sc v s n.later X me n.placed means a.when fits.when P
      spanned.1 in (
        record {
          values = X;
          args =
              region-whole k a.names f v X names arity
              (means-earlier sc v X start n.later n.stays means);
          source_is = ended.0;
          target_is = ended.1.0;
          conditions = w.0;
          guards =
              all-whole (Found p v X f.region f.kind s.before) is_indexed a.guards
              (guards-say X plain (all-first (Says X) gs ends says)) spanned.0;
        },
        w.1,
      )
