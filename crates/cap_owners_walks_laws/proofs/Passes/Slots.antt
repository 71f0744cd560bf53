-- Slots that are met by terms in turn: the names' values are those of the environment in the end.
use Rattle.std.proofs.Common.{◌≡◌, inl, inr, ℕ, ℤ, pos, ◌*ℤ◌, List, [], ◌∷◌, ◌++◌, map, Option, Some, None, refl, sym, ap, ◌∙◌, subst}
use Rattle.std.specs.Prelude.{slice_get, unwrap_or}
use Rattle.std.specs.List.{AllByRecursion, AllZip}
use Rattle.cap_lin.specs.Linear.{Linear}
use Rattle.cap_lin.specs.Values.{Valuation, value}
use Rattle.cap_lin.specs.declared.row.Sort.{Sort}
use Rattle.cap_lin.specs.declared.row.Sort.TheVariants.{Int, Perm}
use Rattle.cap_prog.specs.declared.assertion.Slot.{Slot}
use Rattle.cap_prog.specs.declared.assertion.Slot.TheVariants.{Any, Is}
use Rattle.cap_prog.specs.Scopes.{Scope, HasSort, SlotFits}
use Rattle.cap_goal_spec.specs.Terms.{lone_variable}
use Rattle.cap_goal_spec.specs.States.{PlainEnv}
use Rattle.cap_goal_spec.specs.Environments.{zero_value, term_of, with_name, Reading, settled, open_to, stuck, reading}
use Rattle.cap_machine_accounts.specs.Assertions.{NameValue, a_number, SlotsAre}
use Rattle.cap_account_resources.proofs.Lists.{some-same, none-some, join-nil, join-assoc, set-length}
use Rattle.cap_account_states.proofs.Facts.{all_met_env}
use Rattle.cap_account_states.proofs.Matching.{met_env}
use Rattle.cap_account_states.proofs.Meets.{Usable, variable-value}
use Rattle.cap_account_states.proofs.Naming.{Placed, values_in, placed-set, term-same, term-other}
use Rattle.cap_account_states.proofs.Terms.{Over, vars-more}
use Rattle.cap_owners_spec.specs.Traced.{Traced, traced, past_width, untold, ◌>>=◌, valuation, number_in}
use Rattle.cap_owners_spec.specs.Traced.{over as total}
use Rattle.cap_owners_spec.specs.Track.{Fill}
use Rattle.cap_owners_spec.specs.Filling.{met_at, met_by_term, all_met}
use Rattle.cap_owners_walks_laws.proofs.Values.Numbers.{number-is}
use Rattle.cap_owners_walks_laws.proofs.Values.More.{FitsSort, number-fits, number-told}
use Rattle.cap_owners_walks_laws.proofs.Fills.Drawn.{slots_met}
use Rattle.cap_owners_laws.specs.Owned.{IsTold}
use Rattle.cap_owners_walks_laws.proofs.Parts.Telling.{told-more}
use Rattle.cap_owners_walks_laws.proofs.Passes.Names.{NamesSo, int-term, lone-term, LoneOr, no_name, one_name, lone-or, lone-fits, closed-reading, open-reading, bound-reading, names-set, sort-same, SharesBound, shares-before, shares-met, int-only}

-- ---- environments

-- what was bound stays so, where a slot is met
met-keeps :
    (env : PlainEnv) (x : Slot) (t : Linear) (i : ℕ) (u : Linear) → term_of env i ≡ Some u →
    term_of (met_env env (reading env x) t) i ≡ Some u
met-keeps env Any t i u e = e
met-keeps env (Is z) t i u e = by (lone-or z)
  where
    P : Reading → Type 0
    P r = term_of (met_env env r t) i ≡ Some u

    at : (x : ℕ) → lone_variable z ≡ Some x → (m : Option Linear) → term_of env x ≡ m →
        P (reading env (Is z))
    at x l None none =
        subst P (sym (open-reading env z x l none))
        (term-other env x i t (λ q. none-some (sym none ∙ ap (term_of env) (sym q) ∙ e)) ∙ e)
    at x l (Some y) some = subst P (sym (bound-reading env z x y l some)) e

    by : LoneOr z → P (reading env (Is z))
    by (no_name l) = elim (closed-reading env z l) [
      | inl q ↦ subst P (sym q) e
      | inr q ↦ subst P (sym q) e
    ]
    by (one_name x l) = at x l (term_of env x) refl

all-keeps :
    (env : PlainEnv) (xs : List Slot) (ts : List Linear) (i : ℕ) (u : Linear) →
    term_of env i ≡ Some u → term_of (all_met_env env xs ts) i ≡ Some u
all-keeps env [] [] i u e = e
all-keeps env [] (t ∷ ts) i u e = e
all-keeps env (x ∷ xs) [] i u e = e
all-keeps env (x ∷ xs) (t ∷ ts) i u e =
    all-keeps (met_env env (reading env x) t) xs ts i u (met-keeps env x t i u e)

-- what is bound to shares stays so where whole numbers are met
pub shares-all :
    (sc : Scope) (vs : List NameValue) (env : PlainEnv) (xs : List Slot) (ts : List Linear) →
    AllByRecursion (SlotFits sc Int) xs → SharesBound sc vs env →
    SharesBound sc vs (all_met_env env xs ts)
shares-all sc vs env [] [] fit b = b
shares-all sc vs env [] (t ∷ ts) fit b = b
shares-all sc vs env (x ∷ xs) [] fit b = b
shares-all sc vs env (x ∷ xs) (t ∷ ts) fit b =
    shares-all sc vs (met_env env (reading env x) t) xs ts fit.1
    (shares-met sc vs env Int x t fit.0 (λ e. int-only e) b)

-- names that are bound in one are so in the other
abbrev pub BoundToo : PlainEnv → PlainEnv → Type 0
BoundToo e f = (x : ℕ) (t : Linear) → term_of e x ≡ Some t → (u : Linear) × (term_of f x ≡ Some u)

-- ---- all slots

module _ (ks : List ℕ) (sc : Scope) (sorts : List Sort) (vs : List NameValue)
    (sorted : AllZip FitsSort sorts vs) (first later : PlainEnv) where
  abbrev v : Valuation
  v = valuation vs

  -- what comes of a fill
  abbrev pub MetSo : List Slot → List Linear → Fill → Fill → Type 0
  MetSo xs ts f g =
      NamesSo sc vs later g.names
      × (g.wildcards ≡ f.wildcards ++ slots_met xs (map (value v.whole) ts))
      × (g.facts ≡ f.facts)

  int-of : (t : Linear) → Over (Usable ks sorts Int) t → Over (λ x. slice_get sorts x ≡ Some Int) t
  int-of t o =
      vars-more (Usable ks sorts Int) (λ x. slice_get sorts x ≡ Some Int) (λ x u. u.0) t.parts o

  placed-met :
      (env : PlainEnv) (x : ℕ) (t : Linear) → HasSort sc Int x → Over (Usable ks sorts Int) t →
      Placed ks sc sorts env → Placed ks sc sorts (with_name env x t)
  placed-met env x t i o pl =
      placed-set ks sc sorts env x t
      (λ p j. subst (λ y. Over (Usable ks sorts y) t)
      (some-same Int p (some-same (Some Int) (Some p) (sym i ∙ j))) o) pl

  bound-met :
      (env : PlainEnv) (x : Slot) (t : Linear) → BoundToo first env →
      BoundToo first (met_env env (reading env x) t)
  bound-met env x t b i u e = let k = b i u e in (k.0, met-keeps env x t i k.0 k.1)

  -- a slot that is open gets the term's number, or that is too wide
  number-met :
      (o : Option ℕ) (t : Linear) (f : Fill) (Q : Fill → Type 0) (rest : Fill → Traced Fill) →
      ((z : ℤ) → z ≡ value v.whole t → IsTold Q (rest (met_at o (a_number z) f))) →
      IsTold Q (met_by_term vs (open_to o) t f >>= rest)
  number-met o t f Q rest h = by (number_in vs t) refl
    where
      by :
          (m : Traced ℤ) → number_in vs t ≡ m →
          IsTold Q ((m >>= λ z. traced (met_at o (a_number z) f)) >>= rest)
      by (traced z) e = h z (number-is vs t z e)
      by past_width e = tt
      by untold e = absurd (number-told vs t e)

  -- one slot, where the others are met in whichever environment it leaves
  module _ (env : PlainEnv) (u t : Linear) (xs : List Slot) (ts : List Linear) (f : Fill)
      (pl : Placed ks sc sorts env) (fit : SlotFits sc Int (Is u))
      (over : Over (Usable ks sorts Int) t)
      (is : later ≡ all_met_env (met_env env (reading env (Is u)) t) xs ts)
      (more : BoundToo first env) (are : value (values_in v later).whole u ≡ value v.whole t)
      (so : NamesSo sc vs env f.names) (rest : Fill → Traced Fill)
      (go : (e : PlainEnv) (g : Fill) → Placed ks sc sorts e → later ≡ all_met_env e xs ts →
      BoundToo first e → NamesSo sc vs e g.names → IsTold (MetSo xs ts g) (rest g)) where
    abbrev Told : Reading → Type 0
    Told r = IsTold (MetSo xs ts f) (met_by_term vs r t f >>= rest)

    -- in the environment, by what the slot's reading is there
    later-by : (q : Reading) → reading env (Is u) ≡ q → later ≡ all_met_env (met_env env q t) xs ts
    later-by q e = is ∙ ap (λ r. all_met_env (met_env env r t) xs ts) e

    slot-at :
        (x : ℕ) → lone_variable u ≡ Some x → (m n : Option Linear) → term_of first x ≡ m →
        term_of env x ≡ n → Told (reading first (Is u))
    slot-at x l (Some y) (Some z) em en =
        subst Told (sym (bound-reading first u x y l em))
        (go env f pl (later-by (settled u) (bound-reading env u x z l en)) more so)
    slot-at x l (Some y) None em en = absurd (let k = more x y em in none-some (sym en ∙ k.1))
    slot-at x l None None em en =
        let i = lone-fits sc Int u x l fit in
        let room = pl.room x Int i in
        let opens = open-reading env u x l en in
        subst Told (sym (open-reading first u x l em))
        (number-met (Some x) t f (MetSo xs ts f) rest (λ z e.
        go (with_name env x t) (met_at (Some x) (a_number z) f)
        (placed-met env x t i over pl) (later-by (open_to (Some x)) opens)
        (subst (λ q. BoundToo first (met_env env q t)) opens (bound-met env (Is u) t more))
        (names-set sc vs env (with_name env x t) f.names x t (a_number z) so room
        (set-length env x (Some t)) (term-same env x t room)
        (λ i ne. term-other env x i t ne) (record {
          whole = sym e;
          share =
              int-term sorts vs sorted t (int-of t over) ∙ ap (λ y. y *ℤ pos total) (sym e);
        }) (λ o i. number-fits o z)
        (λ k. int-only (sort-same sc Int Perm x i k)) (shares-before sc vs env x t en))))
    slot-at x l None (Some y) em en =
        let i = lone-fits sc Int u x l fit in
        let bound = later-by (settled u) (bound-reading env u x y l en) in
        let there = ap (λ e. term_of e x) bound ∙ all-keeps env xs ts x y en in
        let same : value v.whole y ≡ value v.whole t =
        ap (λ o. value v.whole (unwrap_or o zero_value)) (sym there)
        ∙ sym (variable-value (values_in v later) x)
        ∙ ap (value (values_in v later).whole) (sym (lone-term u x l))
        ∙ are in
        subst Told (sym (open-reading first u x l em))
        (number-met (Some x) t f (MetSo xs ts f) rest (λ z e.
        go env (met_at (Some x) (a_number z) f) pl bound more
        (names-set sc vs env env f.names x y (a_number z) so (pl.room x Int i) refl en
        (λ i ne. refl) (record {
          whole = same ∙ sym e;
          share =
              int-term sorts vs sorted y (int-of y (pl.over x Int i y en))
              ∙ ap (λ k. k *ℤ pos total) (same ∙ sym e);
        }) (λ o i. number-fits o z) (λ k. int-only (sort-same sc Int Perm x i k)) (λ b. b))))

    slot-met : Told (reading first (Is u))
    slot-met = by (lone-or u)
      where
        closed : lone_variable u ≡ None → later ≡ all_met_env env xs ts
        closed l = elim (closed-reading env u l) [
          | inl q ↦ later-by (settled u) q
          | inr q ↦ later-by stuck q
        ]

        by : LoneOr u → Told (reading first (Is u))
        by (no_name l) =
            elim (closed-reading first u l) [
              | inl q ↦ subst Told (sym q) (go env f pl (closed l) more so)
              | inr q ↦ subst Told (sym q) (go env f pl (closed l) more so)
            ]
        by (one_name x l) = slot-at x l (term_of first x) (term_of env x) refl refl

  pub all-met :
      (env : PlainEnv) (xs : List Slot) (ts : List Linear) (f : Fill) → Placed ks sc sorts env →
      AllByRecursion (SlotFits sc Int) xs → AllByRecursion (Over (Usable ks sorts Int)) ts →
      later ≡ all_met_env env xs ts → BoundToo first env →
      SlotsAre (values_in v later) xs (map (value v.whole) ts) → NamesSo sc vs env f.names →
      IsTold (MetSo xs ts f) (all_met vs (map (reading first) xs) ts f)
  all-met env [] [] f pl fit over is more are so =
      (subst (λ e. NamesSo sc vs e f.names) (sym is) so, sym (join-nil f.wildcards), refl)
  all-met env [] (t ∷ ts) f pl fit over is more are so = absurd are
  all-met env (x ∷ xs) [] f pl fit over is more are so = absurd are
  all-met env (Any ∷ xs) (t ∷ ts) f pl fit over is more are so =
      number-met None t f (MetSo (Any ∷ xs) (t ∷ ts) f)
      (λ g. all_met vs (map (reading first) xs) ts g) (λ z e.
      let met = slots_met xs (map (value v.whole) ts) in
      let g = met_at None (a_number z) f in
      told-more (MetSo xs ts g) (MetSo (Any ∷ xs) (t ∷ ts) f)
      (all_met vs (map (reading first) xs) ts g)
      (λ k h. (
        h.0,
        h.1
            ∙ sym (join-assoc f.wildcards (a_number z ∷ []) met)
            ∙ ap (λ y. f.wildcards ++ (a_number y ∷ met)) e,
        h.2,
      ))
      (all-met env xs ts g pl fit.1 over.1 is more are.1 so))
  all-met env (Is u ∷ xs) (t ∷ ts) f pl fit over is more are so =
      slot-met env u t xs ts f pl fit.0 over.0 is more are.0 so
      (λ g. all_met vs (map (reading first) xs) ts g)
      (λ e g p i b n. all-met e xs ts g p fit.1 over.1 i b are.1 n)
