-- What items draw at values, they draw at alike values over a multiple of the denominator.
use Rattle.std.proofs.Common.{ℕ, ℤ, pos, ◌<ℤ◌, List, [], ◌∷◌, Option, Some, None, sym, ap, ◌∙◌, subst, inl, inr}
use Rattle.std.specs.Prelude.{slice_get, IsSomeAnd}
use Rattle.std.specs.List.{AllByRecursion}
use Rattle.cap_lin.specs.Values.{Valuation}
use Rattle.cap_lin.specs.declared.row.Sort.TheVariants.{Int}
use Rattle.cap_galg.specs.Algebras.{atom_algebra}
use Rattle.cap_prog.specs.declared.assertion.Asked.{Asked}
use Rattle.cap_prog.specs.declared.assertion.Slot.{Slot}
use Rattle.cap_prog.specs.Parts.{all_items}
use Rattle.cap_prog.specs.Program.{PlainItem, compare, choose, fact, atom, cell, Items, none, item, PlainRegionType, PlainProgram}
use Rattle.cap_prog.specs.Scopes.{Scope, SlotFits}
use Rattle.cap_prog.specs.WellFormed.{ItemFits, AtomFits, FactFits}
use Rattle.cap_machine_accounts.specs.Assertions.{SlotsAre}
use Rattle.cap_account_resources.specs.Parts.{Table}
use Rattle.cap_account_resources.proofs.Lists.{all-first, all-second}
use Rattle.cap_account_resources.proofs.Marks.{Mark}
use Rattle.cap_account_resources.proofs.Stocks.{Stock, guard_stock, cell_stock, both, Inside}
use Rattle.cap_account_states.proofs.Alike.{Alike, alike-back, InScope, fits-over, comp-fits-alike, value-alike}
use Rattle.cap_account_states.proofs.Asking.{AskedOver}
use Rattle.cap_account_states.proofs.Items.{AreFit, fits-more, fits-sides}
use Rattle.cap_account_states.proofs.Wants.{IsFiner, slot-alike, wants-finer, asked-over}
use Rattle.cap_account_assertions.proofs.Asserted.{WantsAtom, Draws, DrawsAll}

-- of a region type that there is
pub of-type :
    (p : PlainProgram) (P : PlainRegionType → Type 0) (A : Type 0) (k : ℕ) →
    ((t : PlainRegionType) → P t → A) → IsSomeAnd (slice_get p.regions k) P → A
of-type p P A k f h = by (slice_get p.regions k) h
  where
    by : (o : Option PlainRegionType) → IsSomeAnd o P → A
    by None h = absurd h
    by (Some t) h = f t h

module _ (p : PlainProgram) (T : Table) (sc : Scope) (v w : Valuation) (l : Alike (InScope sc) v w)
    (finer : IsFiner v w) where
  pub slots-alike :
      (ss : List Slot) (zs : List ℤ) → AllByRecursion (SlotFits sc Int) ss → SlotsAre v ss zs →
      SlotsAre w ss zs
  slots-alike [] [] f h = h
  slots-alike [] (z ∷ zs) f h = h
  slots-alike (s ∷ ss) [] f h = h
  slots-alike (s ∷ ss) (z ∷ zs) f h =
      (slot-alike sc v w l s z f.0 h.0, slots-alike ss zs f.1 h.1)

  abbrev pub atom-finer :
      (k i : ℕ) (asked : Asked) (m : Option Mark) → AskedOver sc asked →
      WantsAtom p v k (i, asked) m → WantsAtom p w k (i, asked) m
  atom-finer k i asked m over h = record {
    element = h.element;
    wanted = wants-finer sc v w l finer asked h.element over h.wanted;
    of_atom = h.of_atom;
    is_mark = h.is_mark;
  }

  abbrev mutual
    pub draws-finer :
        (i : PlainItem) (more : Items) (q r : Stock) → AreFit p sc (item i more) →
        Draws p T v i q r → Draws p T w i q r
    draws-finer (compare c) more q r f h = (comp-fits-alike sc v w l c f.0 h.0, h.1)
    draws-finer (choose c x y) more q r f h = elim h [
      | inl m ↦
          inl (
            comp-fits-alike sc v w l c f.0 m.0,
            draws-all-finer x q r
                (all-first (ItemFits p sc) (all_items x) (all_items y)
                (fits-sides p sc (choose c x y) more f)) m.1,
          )
      | inr m ↦
          inr (
            (λ d. m.0 (comp-fits-alike sc w v (alike-back (InScope sc) v w l) c f.0 d)),
            draws-all-finer y q r
                (all-second (ItemFits p sc) (all_items x) (all_items y)
                (fits-sides p sc (choose c x y) more f)) m.1,
          )
    ]
    draws-finer (fact place n k args s) more q r f h =
        let n_same = l.whole n (Int, f.0.0) in
        let slots = of-type p (λ t. FactFits sc t args s) (AllByRecursion (SlotFits sc Int) args) k
        (λ t g. g.slots) f.0.1 in
        let state = of-type p (λ t. FactFits sc t args s) (SlotFits sc Int s) k (λ t g. g.value) f.0.1
        in (
          (
            h.0.0,
            h.0.1,
            ap T n_same ∙ h.0.2,
            slots-alike args h.0.0 slots h.0.3,
            slot-alike sc v w l s h.0.1 state h.0.4,
          ),
          h.1,
        )
    draws-finer (atom place n k i asked) more q r f h =
        let n_same = l.whole n (Int, f.0.0) in
        let over = of-type p (λ t. AtomFits sc t i asked) (AskedOver sc asked) k
        (λ t g. asked-over sc (atom_algebra t.algebra i) asked g.form) f.0.1 in (
          h.0,
          atom-finer k i asked h.0 over h.1,
          subst (λ z. Inside p (both p (guard_stock z h.0) r) q) (sym n_same) h.2,
        )
    draws-finer (cell place a s) more q r f h =
        let e = value-alike (InScope sc) v w l a (fits-over sc Int a f.0.0) in (
          h.0,
          subst (λ z. pos 0 <ℤ z) (sym e) h.1,
          slot-alike sc v w l s h.0 f.0.1 h.2,
          subst (λ z. Inside p (both p (cell_stock z h.0) r) q) (sym e) h.3,
        )

    pub draws-all-finer :
        (xs : Items) (q r : Stock) → AreFit p sc xs → DrawsAll p T v xs q r → DrawsAll p T w xs q r
    draws-all-finer none q r f h = h
    draws-all-finer (item i more) q r f h = (
      h.0,
      draws-finer i more q h.0 f h.1,
      draws-all-finer more h.0 r (fits-more p sc i more f) h.2,
    )
