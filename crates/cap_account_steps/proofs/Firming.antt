-- Where no region of the table is open, the states of loose facts are set to the table's: then each
-- fact says just what the table does, and no variable is kept free any more.
use Rattle.std.proofs.Common.{◌≡◌, ◌≢◌, ℕ, ℤ, List, [], ◌∷◌, map, Some, Bool, true, false, refl, sym, ap, ◌∙◌, subst}
use Rattle.std.specs.Prelude.{slice_get, if◌then◌else◌}
use Rattle.std.specs.List.{AllByRecursion}
use Rattle.cap_lin.specs.Linear.{variable}
use Rattle.cap_lin.specs.Values.{Valuation, value}
use Rattle.cap_lin.specs.declared.row.Sort.{Sort}
use Rattle.cap_lin.specs.declared.row.Sort.TheVariants.{Int}
use Rattle.cap_prog.specs.Program.{PlainProgram}
use Rattle.cap_machine_accounts.specs.Accounts.{EachTwo}
use Rattle.cap_goal_spec.specs.States.{PlainFact, PlainState}
use Rattle.cap_account_resources.specs.Parts.{known_as, Table}
use Rattle.cap_account_resources.proofs.Lists.{all-more, Among}
use Rattle.cap_account_resources.proofs.Tables.{NoneOpen}
use Rattle.cap_account_states.proofs.Terms.{Over, vars-more, Agree, agree-same, agree-trans, agree-less, value-agree}
use Rattle.cap_account_states.proofs.Alike.{agree-alike}
use Rattle.cap_account_states.proofs.Meets.{Free, Usable}
use Rattle.cap_account_states.proofs.Facts.{StateHolds, FactHolds, StateOver, FactOver, LooseState, StatesDiffer, Facts, fact-more}
use Rattle.cap_account_states.proofs.Backed.{Grounded}
use Rattle.cap_account_assertions.proofs.Named.{set_to, lone, state_or, known_state, told_state}
use Rattle.cap_account_steps.proofs.Worlds.{Exact, AllOver}
use Rattle.cap_account_steps.proofs.Exact.{told-alike, all-two}
use Rattle.cap_account_steps.proofs.KeptFree.{set-agrees, set-is, set-whole, kept-other, AllSorted, grounded-at, usable-free, grounded-free}

-- ---- the table's states

told-there :
    (T : Table) (v : Valuation) (f : PlainFact) → NoneOpen T → FactHolds v T f →
    T (value v.whole f.region)
    ≡ Some (known_as f.kind (map (value v.whole) f.args) (Some (told_state T v f)))
told-there T v f full h =
    let e = full (value v.whole f.region) (known_as f.kind (map (value v.whole) f.args) h.0) h.1 in
    h.1
    ∙ ap (λ o. Some (known_as f.kind (map (value v.whole) f.args) o))
    (e.1 ∙ ap Some (sym (ap known_state h.1 ∙ ap state_or e.1)))

told-firm :
    (T : Table) (v : Valuation) (f : PlainFact) → FactHolds v T f → f.loose ≡ false →
    value v.whole f.state ≡ told_state T v f
told-firm T v f h firm =
    let e = subst (λ b. StateHolds b h.0 (value v.whole f.state)) firm h.2 in
    sym (ap known_state h.1 ∙ ap state_or e)

-- ---- values at which loose facts have them

abbrev pub firm_values : Table → Valuation → List PlainFact → Valuation
firm_values T v [] = v
firm_values T v (f ∷ fs) =
    if f.loose
    then set_to (firm_values T v fs) (lone f.state) (told_state T v f)
    else firm_values T v fs

module _ (ks : List ℕ) (sorts : List Sort) (T : Table) (v : Valuation) where
  firm-sorted :
      AllSorted sorts v → (fs : List PlainFact) → AllSorted sorts (firm_values T v fs)
  firm-sorted h [] x e = h x e
  firm-sorted h (f ∷ fs) x e = by f.loose (firm-sorted h fs) x e
    where
      by :
          (b : Bool) → AllSorted sorts (firm_values T v fs) →
          AllSorted sorts (if b then set_to (firm_values T v fs) (lone f.state) (told_state T v f)
          else firm_values T v fs)
      by true r y i =
          set-whole (firm_values T v fs) (lone f.state) (told_state T v f) y (r y i)
      by false r y i = r y i

  -- the state of a loose fact is a variable that is kept free
  record Reserved (f : PlainFact) : Type 0 where
    is : f.state ≡ variable (lone f.state)
    among : Among (lone f.state) ks
    sort : slice_get sorts (lone f.state) ≡ Some Int

  reserved : (f : PlainFact) → LooseState ks sorts f → f.loose ≡ true → Reserved f
  reserved f l e =
      let q = l e in
      let x = ap lone q.1 in
      record {
        is = q.1 ∙ ap variable (sym x);
        among = subst (λ y. Among y ks) (sym x) q.2;
        sort = ap (slice_get sorts) x ∙ q.3;
      }

  firm-agrees :
      (fs : List PlainFact) → AllByRecursion (LooseState ks sorts) fs →
      Agree (Free ks) v (firm_values T v fs)
  firm-agrees [] l = agree-same (Free ks) v
  firm-agrees (f ∷ fs) l = by f.loose refl (firm-agrees fs l.1)
    where
      by :
          (b : Bool) → f.loose ≡ b → Agree (Free ks) v (firm_values T v fs) →
          Agree (Free ks) v
          (if b then set_to (firm_values T v fs) (lone f.state) (told_state T v f)
          else firm_values T v fs)
      by true e r =
          let W = firm_values T v fs in
          let x = lone f.state in
          let w = set_to W x (told_state T v f) in
          agree-trans (Free ks) v W w r
          (agree-less (Free ks) (λ y. y ≢ x) W w
          (λ y h. kept-other ks x y (reserved f l.0 e).among h)
          (set-agrees W x (told_state T v f)))
      by false e r = r

  -- another fact's state has no such variable
  apart :
      (f g : PlainFact) → Reserved f → LooseState ks sorts g → FactOver (Free ks) g →
      (g.loose ≡ true → f.state ≢ g.state) → Over (λ y. y ≢ lone f.state) g.state
  apart f g r l o d = by g.loose refl o.2
    where
      by :
          (b : Bool) → g.loose ≡ b → StateOver (Free ks) b g.state →
          Over (λ y. y ≢ lone f.state) g.state
      by true e k =
          let q = (reserved g l e).is in
          subst (Over (λ y. y ≢ lone f.state)) (sym q)
          ((λ same. d e (r.is ∙ ap variable (sym same) ∙ sym q)), tt)
      by false e k =
          vars-more (Free ks)
          (λ y. y ≢ lone f.state) (λ y h. kept-other ks (lone f.state) y r.among h)
          g.state.parts k

  abbrev IsTold : Valuation → PlainFact → Type 0
  IsTold w f = value w.whole f.state ≡ told_state T v f

  -- they are told, also once another one's state is set
  still-told :
      (f : PlainFact) (z : ℤ) (W : Valuation) → f.loose ≡ true → Reserved f →
      (gs : List PlainFact) → AllByRecursion (FactOver (Free ks)) gs →
      AllByRecursion (LooseState ks sorts) gs → AllByRecursion (StatesDiffer f) gs →
      AllByRecursion (IsTold W) gs → AllByRecursion (IsTold (set_to W (lone f.state) z)) gs
  still-told f z W e r [] o l d h = tt
  still-told f z W e r (g ∷ gs) o l d h =
      let x = lone f.state in (
        value-agree (λ y. y ≢ x) W (set_to W x z) (set-agrees W x z) g.state
            (apart f g r l.0 o.0 (d.0 e)) ∙ h.0,
        still-told f z W e r gs o.1 l.1 d.1 h.1,
      )

  -- each fact gets the table's state
  firm-told :
      (fs : List PlainFact) → AllByRecursion (FactHolds v T) fs →
      AllByRecursion (FactOver (Free ks)) fs → AllByRecursion (LooseState ks sorts) fs →
      EachTwo StatesDiffer fs → AllByRecursion (IsTold (firm_values T v fs)) fs
  firm-told [] h o l d = tt
  firm-told (f ∷ fs) h o l d = by f.loose refl (firm-told fs h.1 o.1 l.1 d.1)
    where
      W : Valuation
      W = firm_values T v fs

      by :
          (b : Bool) → f.loose ≡ b → AllByRecursion (IsTold W) fs →
          AllByRecursion (IsTold (if b then set_to W (lone f.state) (told_state T v f) else W))
          (f ∷ fs)
      by true e r =
          let q = reserved f l.0 e in
          let z = told_state T v f in (
            ap (value (set_to W (lone f.state) z).whole) q.is ∙ set-is W (lone f.state) z,
            still-told f z W e q fs o.1 l.1 d.0 r,
          )
      by false e r = (
        value-agree (Free ks) v W (firm-agrees fs l.1) f.state
            (subst (λ b. StateOver (Free ks) b f.state) e o.0.2) ∙ told-firm T v f h.0 e,
        r,
      )

-- ---- the state

pub record Firmed (p : PlainProgram) (ks : List ℕ) (T : Table) (v : Valuation)
    (s : PlainState) : Type 0 where
  pub w : Valuation
  pub named : w ≡ firm_values T v s.facts
  pub agree : Agree (Free ks) v w
  pub grounded : Grounded p [] w s
  pub exact : AllByRecursion (Exact w T) s.facts
  pub over : AllByRecursion (AllOver (Usable [] s.sorts Int)) s.facts

-- a fact, its state included, over variables none of which is kept free any more
pub over-free :
    (ks : List ℕ) (sorts : List Sort) (f : PlainFact) → FactOver (Usable ks sorts Int) f →
    LooseState ks sorts f → AllOver (Usable [] sorts Int) f
over-free ks sorts f o l =
    let r = fact-more (Usable ks sorts Int) (Usable [] sorts Int) (λ x h. (h.0, tt)) f o in
    (r.0, r.1, by f.loose refl r.2)
  where
    by :
        (b : Bool) → f.loose ≡ b → StateOver (Usable [] sorts Int) b f.state →
        Over (Usable [] sorts Int) f.state
    by true e k = let q = l e in subst (Over (Usable [] sorts Int)) (sym q.1) ((q.3, tt), tt)
    by false e k = k

pub firmed :
    (p : PlainProgram) (ks : List ℕ) (T : Table) (v : Valuation) (s : PlainState) → NoneOpen T →
    Grounded p ks v s → Facts ks v T s → Firmed p ks T v s
firmed p ks T v s full g fs =
    let R = Usable ks s.sorts Int in
    let w = firm_values T v s.facts in
    let a = firm-agrees ks s.sorts T v s.facts fs.loose in
    let near = all-more (FactOver R) (FactOver (Free ks)) (fact-more R (Free ks) (λ x h. h.1))
    s.facts fs.over in
    let told = firm-told ks s.sorts T v s.facts fs.holds near fs.loose fs.differ in
    record {
      w = w;
      named = refl;
      agree = a;
      grounded = grounded-free p s ks [] w (usable-free p s ks [] (λ y h. tt))
          (grounded-at p s ks v w a (firm-sorted ks s.sorts T v g.meets.sorted s.facts) g);
      exact = all-two (λ f. FactOver (Free ks) f × FactHolds v T f)
          (λ f. value w.whole f.state ≡ told_state T v f) (Exact w T)
          (λ f h e. told-alike (Free ks) v w T (agree-alike (Free ks) v w a) f f.state
          (told_state T v f) h.0.0 h.0.1 e (told-there T v f full h.1)) s.facts
          (all-two (FactOver (Free ks)) (FactHolds v T)
          (λ f. FactOver (Free ks) f × FactHolds v T f)
          (λ f o h. (o, h)) s.facts near fs.holds) told;
      over = all-two (FactOver R) (LooseState ks s.sorts) (AllOver (Usable [] s.sorts Int))
          (over-free ks s.sorts) s.facts fs.over fs.loose;
    }
