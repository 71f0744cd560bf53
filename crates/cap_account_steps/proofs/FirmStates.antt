-- States of firm facts, where other variables are kept free and get other values.
use Rattle.std.proofs.Common.{◌≡◌, ℕ, List, [], ◌∷◌, refl, sym, ◌∙◌, subst, Bool, true, false, inl, inr}
use Rattle.std.specs.List.{AllByRecursion}
use Rattle.cap_lin.specs.Values.{Valuation}
use Rattle.cap_lin.specs.declared.row.Sort.{Sort}
use Rattle.cap_lin.specs.declared.row.Sort.TheVariants.{Int}
use Rattle.cap_prog.specs.Program.{PlainProgram}
use Rattle.cap_goal_spec.specs.States.{PlainFact, PlainState}
use Rattle.cap_machine_accounts.specs.Accounts.{EachTwo}
use Rattle.cap_account_states.proofs.KnowsLater.{backed-at, backed-same}
use Rattle.cap_account_resources.specs.Parts.{Table}
use Rattle.cap_account_resources.proofs.Lists.{all-more, Among}
use Rattle.cap_account_resources.proofs.Stocks.{Stock}
use Rattle.cap_account_states.proofs.Meets.{Usable, Meets}
use Rattle.cap_account_states.proofs.Alike.{Alike}
use Rattle.cap_account_states.proofs.Adding.{PieceOver}
use Rattle.cap_account_states.proofs.Pieces.{AllFit}
use Rattle.cap_account_states.proofs.Compatible.{pieces-more}
use Rattle.cap_account_states.proofs.Facts.{FactHolds, FactOver, LooseState, StatesDiffer, Facts, fact-more, facts-alike}
use Rattle.cap_account_states.proofs.Backed.{IsFirm, Backed, Grounded}

-- ---- firm facts

firm-or : {A : Type 0} (f : PlainFact) → IsFirm f → f.loose ≡ true → A
firm-or f h l = absurd (unlike (sym h ∙ l))
  where
    unlike : false ≡ true → ⊥
    unlike e = cc

pub firm-loose :
    (ks : List ℕ) (sorts : List Sort) (fs : List PlainFact) → AllByRecursion IsFirm fs →
    AllByRecursion (LooseState ks sorts) fs
firm-loose ks sorts fs h =
    all-more IsFirm (LooseState ks sorts) (λ f i l. firm-or f i l) fs h

pub firm-differ : (fs : List PlainFact) → AllByRecursion IsFirm fs → EachTwo StatesDiffer fs
firm-differ [] h = tt
firm-differ (f ∷ fs) h =
    (all-more IsFirm (StatesDiffer f) (λ g i l k. firm-or g i k) fs h.1, firm-differ fs h.1)

-- a fact that was firm stays so where only old facts are loose
pub stays-firm :
    (fs gs : List PlainFact) → AllByRecursion IsFirm fs →
    AllByRecursion (λ f. f.loose ≡ true → Among f fs) gs → AllByRecursion IsFirm gs
stays-firm fs [] h l = tt
stays-firm fs (g ∷ gs) h l = (by g.loose refl, stays-firm fs gs h l.1)
  where
    among-firm : (xs : List PlainFact) → AllByRecursion IsFirm xs → Among g xs → IsFirm g
    among-firm [] k a = absurd a
    among-firm (x ∷ xs) k a = elim a [
      | inl e ↦ subst IsFirm e k.0
      | inr m ↦ among-firm xs k.1 m
    ]

    by : (b : Bool) → g.loose ≡ b → IsFirm g
    by false e = e
    by true e = among-firm fs h (l.0 e)

-- ---- a state with other variables kept free, at values that are alike on what it uses

pub record Between (ks js : List ℕ) (P : ℕ → Type 0) (v w : Valuation)
    (s t : PlainState) : Type 0 where
  pub uses : (o : Sort) (x : ℕ) → Usable ks s.sorts o x → P x
  pub usable : (o : Sort) (x : ℕ) → Usable ks s.sorts o x → Usable js t.sorts o x
  pub alike : Alike P v w
  pub facts : t.facts ≡ s.facts
  pub cells : t.cells ≡ s.cells
  pub guards : t.guards ≡ s.guards

module _ (p : PlainProgram) (ks js : List ℕ) (P : ℕ → Type 0) (v w : Valuation) (s t : PlainState)
    (b : Between ks js P v w s t) where
  pub facts-between :
      (T : Table) → AllByRecursion IsFirm s.facts → Facts ks v T s → Facts js w T t
  facts-between T firm f =
      let near = all-more (FactOver (Usable ks s.sorts Int)) (FactOver P)
      (fact-more (Usable ks s.sorts Int) P (b.uses Int)) s.facts f.over in
      record {
        holds = subst (AllByRecursion (FactHolds w T)) (sym b.facts)
            (facts-alike P v w T b.alike s.facts near f.holds);
        over = subst (AllByRecursion (FactOver (Usable js t.sorts Int))) (sym b.facts)
            (all-more (FactOver (Usable ks s.sorts Int)) (FactOver (Usable js t.sorts Int))
            (fact-more (Usable ks s.sorts Int) (Usable js t.sorts Int) (b.usable Int)) s.facts
            f.over);
        loose = subst (AllByRecursion (LooseState js t.sorts)) (sym b.facts)
            (firm-loose js t.sorts s.facts firm);
        differ = subst (EachTwo StatesDiffer) (sym b.facts) (firm-differ s.facts firm);
      }

  pub grounded-between : Meets js w t → Grounded p ks v s → Grounded p js w t
  grounded-between m g = record {
    meets = m;
    pieces_over = subst (AllByRecursion (PieceOver (Usable js t.sorts))) (sym b.guards)
        (pieces-more (Usable ks s.sorts) (Usable js t.sorts) b.usable s.guards g.pieces_over);
    pieces_fit = subst (AllFit p) (sym b.guards) g.pieces_fit;
  }

  pub backed-between : (q : Stock) → Grounded p ks v s → Backed p v s q → Backed p w t q
  backed-between q g h =
      backed-same p s t w q b.cells b.guards (backed-at p s ks P v w q b.uses b.alike g h)
