-- Values by name where something is given, rests while others act, and is taken again: what they are
-- known by, from the values at which it was given.
use Rattle.std.proofs.Common.{◌≡◌, ℕ, ◌<◌, List, length, arith, sym, subst}
use Rattle.cap_lin.specs.Values.{Valuation}
use Rattle.cap_goal_spec.specs.States.{PlainEnv, PlainFact, PlainState}
use Rattle.cap_goal_spec.specs.Choices.{PlainTrees}
use Rattle.cap_account_resources.specs.Parts.{Table}
use Rattle.cap_account_states.proofs.Alike.{Alike, alike-less}
use Rattle.cap_account_states.proofs.Brought.{Bring, Brings}
use Rattle.cap_account_states.proofs.Filled.{Filled}
use Rattle.cap_account_states.proofs.Meets.{Old}
use Rattle.cap_account_assertions.proofs.Named.{rest_values, rest_counts}

-- the facts that rest and the trees of their Rests, what taking brings then, and what the names stand
-- for in the end
pub record Passage : Type 0 where
  pub told : List PlainFact
  pub trees : PlainTrees
  pub brings : List Bring
  pub env : PlainEnv

module _ (U : Table) (start : Filled) (y : Passage) where
  -- once all rest by the table, there are so many variables, of these values
  abbrev pub rested_count : ℕ
  rested_count = rest_counts y.told y.trees start.next

  abbrev pub rested_values : Valuation
  rested_values = rest_values U y.told y.trees start.next start.values

  -- it ends at values alike to these that have what is brought, over whichever denominator
  pub record EndsAt (u : Valuation) : Type 0 where
    pub alike : Alike (λ x. x < rest_counts y.told y.trees start.next) rested_values u
    pub brought : Brings u (rest_counts y.told y.trees start.next) y.brings

  -- of a state that rests, with such values: what is alike and has what is brought is an end, and such is
  -- each
  module _ (s : PlainState) (v : Valuation) (named : v ≡ rested_values)
      (count : length s.sorts ≡ rested_count) where
    pub end-of :
        (u : Valuation) → Alike (Old s) v u → Brings u (length s.sorts) y.brings → EndsAt u
    end-of u l b = record {
      alike = subst (λ x. Alike (λ i. i < rested_count) x u) named
          (alike-less (λ i. i < rested_count) (Old s) v u (λ i k. omega (arith, k, count)) l);
      brought = subst (λ n. Brings u n y.brings) count b;
    }

    pub end-before : (u : Valuation) → EndsAt u → Alike (Old s) v u
    end-before u e =
        subst (λ x. Alike (Old s) x u) (sym named)
        (alike-less (Old s) (λ i. i < rested_count) rested_values u
        (λ i k. omega (arith, k, count)) e.alike)

    pub end-brings : (u : Valuation) → EndsAt u → Brings u (length s.sorts) y.brings
    end-brings u e = subst (λ n. Brings u n y.brings) (sym count) e.brought
