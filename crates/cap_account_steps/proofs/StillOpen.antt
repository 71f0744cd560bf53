-- While regions are closed: later states, and what is known there of those that are still open.
use Rattle.cap_account_resources.proofs.Lists.{map-at, all-unmap, some-same, none-some, all-more, all-remove, all-at, Among}
use Rattle.std.proofs.Common.{◌≡◌, ◌≢◌, ◌⊎◌, inl, inr, ℕ, zero, suc, ◌<◌, ◌≤◌, ℤ, List, [], ◌∷◌, length, map, Some, None, refl, sym, ap, ◌∙◌, subst, arith}
use Rattle.std.specs.Prelude.{slice_get, remove}
use Rattle.std.specs.List.{AllByRecursion}
use Rattle.cap_lin.specs.Values.{Valuation, value}
use Rattle.cap_lin.specs.declared.row.Sort.{Sort}
use Rattle.cap_lin.specs.declared.row.Sort.TheVariants.{Int}
use Rattle.cap_prog.specs.Program.{PlainProgram}
use Rattle.cap_machine_accounts.specs.Accounts.{EachTwo}
use Rattle.cap_goal_spec.specs.States.{PlainFact, PlainState}
use Rattle.cap_account_states.proofs.Alike.{values-alike, Alike, alike-same, alike-trans, alike-less, value-alike}
use Rattle.cap_account_resources.specs.Parts.{known_as, Table}
use Rattle.cap_account_resources.proofs.Covering.{Covered}
use Rattle.cap_account_resources.proofs.Stocks.{Stock}
use Rattle.cap_account_resources.proofs.Tables.{FitsRoom}
use Rattle.cap_account_states.proofs.Meets.{Free, Usable, usable-on}
use Rattle.cap_account_states.proofs.Adding.{PieceOver}
use Rattle.cap_account_states.proofs.Pieces.{AllFit}
use Rattle.cap_account_states.proofs.Compatible.{pieces-more, covered-alike}
use Rattle.cap_account_states.proofs.Facts.{Facts}
use Rattle.cap_account_states.proofs.Backed.{Backed, Grounded}
use Rattle.cap_account_states.proofs.KnowsLater.{Steady, usable-steady}
use Rattle.cap_account_steps.proofs.Exact.{exact-alike, over-more}
use Rattle.cap_account_steps.proofs.Worlds.{Differ, AllOver, regions_of, Earlier, IfAny, IsStillOpen, Closing}

-- ---- lists without one member

map-remove :
    {X Y : Type 0} (g : X → Y) (xs : List X) (i : ℕ) → map g (remove xs i) ≡ remove (map g xs) i
map-remove g [] zero = refl
map-remove g [] (suc i) = refl
map-remove g (x ∷ xs) zero = refl
map-remove g (x ∷ xs) (suc i) = ap (λ ys. g x ∷ ys) (map-remove g xs i)

each-remove :
    {X : Type 0} (R : X → X → Type 0) (xs : List X) (i : ℕ) → EachTwo R xs →
    EachTwo R (remove xs i)
each-remove R [] zero h = tt
each-remove R [] (suc i) h = tt
each-remove R (x ∷ xs) zero h = h.1
each-remove R (x ∷ xs) (suc i) h = (all-remove (R x) xs i h.0, each-remove R xs i h.1)

-- it stands to all others as each two do
others-remove :
    {X : Type 0} (R : X → X → Type 0) → ((x y : X) → R x y → R y x) → (xs : List X) (i : ℕ)
    (x : X) → slice_get xs i ≡ Some x → EachTwo R xs → AllByRecursion (R x) (remove xs i)
others-remove R back [] i x e h = absurd (none-some e)
others-remove R back (y ∷ ys) zero x e h =
    subst (λ z. AllByRecursion (R z) ys) (some-same y x e) h.0
others-remove R back (y ∷ ys) (suc i) x e h =
    (back y x (all-at (R y) ys i x h.0 e), others-remove R back ys i x e h.1)

among-remove :
    {X : Type 0} (xs : List X) (i : ℕ) (x z : X) → slice_get xs i ≡ Some x → Among z xs →
    (x ≡ z) ⊎ Among z (remove xs i)
among-remove [] i x z e a = absurd a
among-remove (y ∷ ys) zero x z e a =
    elim a [ inl q ↦ inl (sym (some-same y x e) ∙ q) | inr b ↦ inr b ]
among-remove (y ∷ ys) (suc i) x z e a = elim a [
  | inl q ↦ inr (inl q)
  | inr b ↦ elim (among-remove ys i x z e b) [ inl q ↦ inl q | inr c ↦ inr (inr c) ]
]

pub length-remove :
    {X : Type 0} (xs : List X) (i : ℕ) (x : X) → slice_get xs i ≡ Some x →
    length xs ≡ suc (length (remove xs i))
length-remove [] i x e = absurd (none-some e)
length-remove (y ∷ ys) zero x e = refl
length-remove (y ∷ ys) (suc i) x e = ap suc (length-remove ys i x e)

module _ (v : Valuation) (fs : List PlainFact) (o : ℕ) (f : PlainFact)
    (is : slice_get fs o ≡ Some f) where
  abbrev number : PlainFact → ℤ
  number g = value v.whole g.region

  -- the others' regions are other ones
  pub others-differ :
      Differ (regions_of v fs) →
      AllByRecursion (λ g. value v.whole f.region ≢ value v.whole g.region) (remove fs o)
  others-differ h =
      let P = λ (n : ℤ). number f ≢ n in
      all-unmap number P (remove fs o)
      (subst (AllByRecursion P) (sym (map-remove number fs o))
      (others-remove (λ m n. m ≢ n) (λ m n d e. d (sym e)) (map number fs) o (number f)
      (map-at number fs o f is) h))

  pub differ-remove : Differ (regions_of v fs) → Differ (regions_of v (remove fs o))
  differ-remove h =
      subst Differ (sym (map-remove number fs o))
      (each-remove (λ m n. m ≢ n) (map number fs) o h)

  pub region-or :
      (n : ℤ) → Among n (regions_of v fs) →
      (value v.whole f.region ≡ n) ⊎ Among n (regions_of v (remove fs o))
  region-or n a =
      subst (λ ns. (number f ≡ n) ⊎ Among n ns) (sym (map-remove number fs o))
      (among-remove (map number fs) o (number f) n (map-at number fs o f is) a)

-- ---- later states

-- a later state in which what was usable still is, at alike values
pub record LaterState (ks js : List ℕ) (v w : Valuation) (s t : PlainState) : Type 0 where
  pub alike : Alike (Steady ks s) v w
  pub sorts : (x : ℕ) (o : Sort) → slice_get s.sorts x ≡ Some o → slice_get t.sorts x ≡ Some o
  pub count : length s.sorts ≤ length t.sorts
  pub less : (x : ℕ) → Steady ks s x → Free js x
  pub store : t.store ≡ s.store

pub later-same : (ks : List ℕ) (v : Valuation) (s : PlainState) → LaterState ks ks v v s s
later-same ks v s = record {
  alike = alike-same (Steady ks s) v;
  sorts = λ x o e. e;
  count = omega arith;
  less = λ x h. h.1;
  store = refl;
}

pub later-trans :
    (ks js is : List ℕ) (u v w : Valuation) (r s t : PlainState) → LaterState ks js u v r s →
    LaterState js is v w s t → LaterState ks is u w r t
later-trans ks js is u v w r s t a b =
    let m = a.count in
    let n = b.count in
    let on : (x : ℕ) → Steady ks r x → Steady js s x =
    λ x h. ((let l = h.0 in omega (arith, l, m)), a.less x h) in
    record {
      alike =
          alike-trans (Steady ks r) u v w a.alike
          (alike-less (Steady ks r) (Steady js s) v w on b.alike);
      sorts = λ x o e. b.sorts x o (a.sorts x o e);
      count = omega (arith, m, n);
      less = λ x h. b.less x (on x h);
      store = b.store ∙ a.store;
    }

pub if-any : {X : Type 0} (xs : List X) (P : Type 0) → P → IfAny xs P
if-any [] P h = tt
if-any (x ∷ xs) P h = h

-- what is known beside the regions that are open
pub record KnownBeside (p : PlainProgram) (ks : List ℕ) (v : Valuation) (T : Table) (s : PlainState)
    (held : Stock) : Type 0 where
  pub grounded : Grounded p ks v s
  pub facts : Facts ks v T s
  pub old : AllByRecursion (λ k. k < length s.sorts) ks
  pub backed : Backed p v s held
  pub room : FitsRoom p T held

module _ (p : PlainProgram) (ks js : List ℕ) (v w : Valuation) (s t : PlainState)
    (l : LaterState ks js v w s t) where
  pub usable-later : (o : Sort) (x : ℕ) → Usable ks s.sorts o x → Usable js t.sorts o x
  usable-later o x h =
      ((usable-on ks s.sorts t.sorts l.sorts o x h).0, l.less x (usable-steady ks s o x h))

  pub over-later :
      (f : PlainFact) → AllOver (Usable ks s.sorts Int) f → AllOver (Usable js t.sorts Int) f
  over-later f h =
      over-more (Usable ks s.sorts Int) (Usable js t.sorts Int) (usable-later Int) f h

  over-steady : (f : PlainFact) → AllOver (Usable ks s.sorts Int) f → AllOver (Steady ks s) f
  over-steady f h =
      over-more (Usable ks s.sorts Int) (Steady ks s) (usable-steady ks s Int) f h

  pub region-later :
      (f : PlainFact) → AllOver (Usable ks s.sorts Int) f →
      value w.whole f.region ≡ value v.whole f.region
  region-later f h =
      value-alike (Steady ks s) v w l.alike f.region (over-steady f h).0

  pub regions-later :
      (fs : List PlainFact) → AllByRecursion (AllOver (Usable ks s.sorts Int)) fs →
      regions_of w fs ≡ regions_of v fs
  regions-later [] h = refl
  regions-later (f ∷ fs) h =
      ap (λ n. n ∷ regions_of w fs) (region-later f h.0)
      ∙ ap (λ ns. value v.whole f.region ∷ ns) (regions-later fs h.1)

  pub earlier-later :
      (part : Stock) → t.before ≡ s.before → Earlier p ks v s part → Earlier p js w t part
  earlier-later part e h = record {
    over =
        subst (AllByRecursion (PieceOver (Usable js t.sorts))) (sym e)
        (pieces-more (Usable ks s.sorts) (Usable js t.sorts) usable-later s.before h.over);
    fit = subst (AllFit p) (sym e) h.fit;
    covered = λ n.
        subst (λ ps. Covered p w ps n (part.guards n)) (sym e)
        (covered-alike p (Steady ks s) v w l.alike s.before n (part.guards n)
        (pieces-more (Usable ks s.sorts) (λ o. Steady ks s) (usable-steady ks s) s.before h.over)
        (h.covered n));
  }

  -- by another table, which tells the same of these regions
  module _ (V W U : Table) where
    abbrev pub StaysOpen : PlainFact → Type 0
    StaysOpen f =
        IsStillOpen ks v V W s f × (U (value v.whole f.region) ≡ W (value v.whole f.region))

    still-open : (f : PlainFact) → StaysOpen f → IsStillOpen js w V U t f
    still-open f h =
        let o = over-steady f h.0.0 in
        let n = region-later f h.0.0 in
        let zs = values-alike (Steady ks s) v w l.alike f.args o.1 in (
          over-later f h.0.0,
          exact-alike (Steady ks s) v w V l.alike f o h.0.1,
          ap U n ∙ h.1 ∙ h.0.2 ∙ ap (λ ys. Some (known_as f.kind ys None)) (sym zs),
        )

    -- of the open regions these stay open
    pub closing-later :
        (part held : Stock) (fs : List PlainFact) → t.opened ≡ fs →
        IfAny fs (t.before ≡ s.before) → AllByRecursion StaysOpen fs →
        Differ (regions_of v fs) → IfAny fs (Earlier p ks v s part) →
        KnownBeside p js w U t held → Closing p V U part js w t held
    closing-later part held fs is before stay differ earlier r =
        let still = λ (f : PlainFact) (h : StaysOpen f). h.0.0 in
        let over = all-more StaysOpen (AllOver (Usable ks s.sorts Int)) still fs stay in
        record {
          grounded = r.grounded;
          facts = r.facts;
          old = r.old;
          opened =
              subst (AllByRecursion (IsStillOpen js w V U t)) (sym is)
              (all-more StaysOpen (IsStillOpen js w V U t) still-open fs stay);
          differ =
              subst (λ gs. Differ (regions_of w gs)) (sym is)
              (subst Differ (sym (regions-later fs over)) differ);
          backed = r.backed;
          room = r.room;
          earlier =
              subst (λ gs. IfAny gs (Earlier p js w t part)) (sym is) (later fs before earlier);
        }
      where
        later :
            (gs : List PlainFact) → IfAny gs (t.before ≡ s.before) →
            IfAny gs (Earlier p ks v s part) → IfAny gs (Earlier p js w t part)
        later [] e h = tt
        later (g ∷ gs) e h = earlier-later part e h
