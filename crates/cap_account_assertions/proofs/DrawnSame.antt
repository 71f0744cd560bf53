-- What is drawn is drawn alike to itself, and to what is drawn over a multiple of the denominator.
use Rattle.std.proofs.Common.{◌*ℤ◌, refl, sym, ap, ◌∙◌, inl, inr}
use Rattle.cap_lin.specs.Values.{Valuation, denominator}
use Rattle.cap_prog.specs.declared.assertion.Asked.TheVariants.{One, Share, Src, Tok, At, From}
use Rattle.cap_prog.specs.declared.assertion.Slot.TheVariants.{Any, Is}
use Rattle.cap_prog.specs.Parts.{all_items}
use Rattle.cap_prog.specs.Program.{PlainItem, compare, choose, fact, atom, cell, Items, none, item, PlainProgram}
use Rattle.cap_prog.specs.Scopes.{Scope}
use Rattle.cap_prog.specs.WellFormed.{ItemFits}
use Rattle.cap_account_resources.specs.Parts.{Table}
use Rattle.cap_account_resources.proofs.Lists.{all-first, all-second}
use Rattle.cap_account_resources.proofs.Order.{swapped, grouped}
use Rattle.cap_account_resources.proofs.Stocks.{Stock}
use Rattle.cap_account_states.proofs.Alike.{Alike, InScope}
use Rattle.cap_account_states.proofs.Items.{AreFit, fits-more, fits-sides}
use Rattle.cap_account_states.proofs.Wants.{IsFiner}
use Rattle.cap_account_assertions.proofs.Asserted.{Draws, DrawsAll}
use Rattle.cap_account_assertions.proofs.Finer.{draws-all-finer, draws-finer}
use Rattle.cap_account_assertions.proofs.FilledAlike.{DrawnAlike, AllAlike}

module _ (p : PlainProgram) (T : Table) (a : Valuation) where
  mutual
    pub drawn-same :
        (i : PlainItem) (q r : Stock) (d : Draws p T a i q r) → DrawnAlike p T a a i q r q r d d
    drawn-same (compare c) q r d = tt
    drawn-same (choose c x y) q r (inl d) = all-drawn-same x q r d.1
    drawn-same (choose c x y) q r (inr d) = all-drawn-same y q r d.1
    drawn-same (fact place n k args s) q r d = (refl, refl)
    drawn-same (atom place n k i One) q r d = tt
    drawn-same (atom place n k i (Share Any)) q r d = refl
    drawn-same (atom place n k i (Share (Is t))) q r d = tt
    drawn-same (atom place n k i (Src x)) q r d = refl
    drawn-same (atom place n k i (Tok x)) q r d = refl
    drawn-same (atom place n k i (At x)) q r d = refl
    drawn-same (atom place n k i (From x)) q r d = refl
    drawn-same (cell place x s) q r d = refl

    pub all-drawn-same :
        (xs : Items) (q r : Stock) (d : DrawsAll p T a xs q r) → AllAlike p T a a xs q r q r d d
    all-drawn-same none q r d = tt
    all-drawn-same (item i more) q r d =
        (drawn-same i q d.0 d.1, all-drawn-same more d.0 r d.2)

  module _ (sc : Scope) (w : Valuation) (l : Alike (InScope sc) a w) (finer : IsFiner a w) where
    mutual
      pub drawn-finer :
          (i : PlainItem) (more : Items) (q r : Stock) (fit : AreFit p sc (item i more))
          (d : Draws p T a i q r) →
          DrawnAlike p T a w i q r q r d (draws-finer p T sc a w l finer i more q r fit d)
      drawn-finer (compare c) more q r fit d = tt
      drawn-finer (choose c x y) more q r fit (inl d) =
          all-drawn-finer x q r
          (all-first (ItemFits p sc) (all_items x) (all_items y)
          (fits-sides p sc (choose c x y) more fit)) d.1
      drawn-finer (choose c x y) more q r fit (inr d) =
          all-drawn-finer y q r
          (all-second (ItemFits p sc) (all_items x) (all_items y)
          (fits-sides p sc (choose c x y) more fit)) d.1
      drawn-finer (fact place n k args s) more q r fit d = (refl, refl)
      drawn-finer (atom place n k i One) more q r fit d = tt
      drawn-finer (atom place n k i (Share Any)) more q r fit d =
          swapped d.1.wanted.1 finer.0 (denominator a.fraction)
          ∙ grouped d.1.wanted.1 (denominator a.fraction) finer.0
          ∙ ap (λ z. d.1.wanted.1 *ℤ z) (sym finer.1)
      drawn-finer (atom place n k i (Share (Is t))) more q r fit d = tt
      drawn-finer (atom place n k i (Src x)) more q r fit d = refl
      drawn-finer (atom place n k i (Tok x)) more q r fit d = refl
      drawn-finer (atom place n k i (At x)) more q r fit d = refl
      drawn-finer (atom place n k i (From x)) more q r fit d = refl
      drawn-finer (cell place x s) more q r fit d = refl

      pub all-drawn-finer :
          (xs : Items) (q r : Stock) (fit : AreFit p sc xs) (d : DrawsAll p T a xs q r) →
          AllAlike p T a w xs q r q r d (draws-all-finer p T sc a w l finer xs q r fit d)
      all-drawn-finer none q r fit d = tt
      all-drawn-finer (item i more) q r fit d = (
        drawn-finer i more q d.0 fit d.1,
        all-drawn-finer more d.0 r (fits-more p sc i more fit) d.2,
      )
