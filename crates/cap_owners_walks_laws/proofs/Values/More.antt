-- A number more: values have their sorts, and are alike, as they were. And terms are told of.
use Rattle.std.proofs.Common.{◌≡◌, ℕ, ◌+◌, ◌-◌, ◌<◌, ℤ, ◌*ℤ◌, List, [], ◌∷◌, ◌++◌, sym, ap, ◌∙◌, arith}
use Rattle.std.specs.List.{AllZip}
use Rattle.cap_rules.specs.cap_goal_spec.cap_lin.Linear.{Linear}
use Rattle.cap_rules.specs.cap_goal_spec.cap_lin.Steps.{value_steps}
use Rattle.cap_rules.specs.cap_goal_spec.cap_lin.Values.{Valuation, denominator, value}
use Rattle.cap_rules.specs.cap_goal_spec.cap_lin.declared.row.Sort.{Sort}
use Rattle.cap_rules.specs.cap_goal_spec.cap_lin.declared.row.Sort.TheVariants.{Int, Perm}
use Rattle.cap_machine_accounts.specs.Assertions.{NameValue, a_number, a_fraction}
use Rattle.cap_account_states.proofs.Alike.{Alike, agree-alike, alike-back, alike-trans}
use Rattle.cap_account_states.proofs.Brought.{a_whole, Brings, brings-named}
use Rattle.cap_account_states.proofs.Meets.{new-whole, new-share, with-agrees}
use Rattle.cap_account_assertions.proofs.Named.{set_to}
use Rattle.cap_owners_spec.specs.Traced.{untold, over, valuation, number_in}
use Rattle.cap_owners_walks_laws.proofs.Values.Numbers.{computed-told}

-- A value of the sort: a number, or a share over the one denominator. A name that no item binds, also
-- one of a share, has a number: a case's name that of the state.
abbrev pub FitsSort : Sort → NameValue → Type 0
FitsSort Int (a_number z) = Unit {0}
FitsSort Int (a_fraction n d) = ⊥
FitsSort Perm (a_number z) = Unit {0}
FitsSort Perm (a_fraction n d) = d ≡ over - 1

-- a number fits whichever sort, and what fits one fits that of a share
pub number-fits : (o : Sort) (z : ℤ) → FitsSort o (a_number z)
number-fits Int z = tt
number-fits Perm z = tt

pub fits-share : (o : Sort) (y : NameValue) → FitsSort o y → FitsSort Perm y
fits-share Int (a_number z) h = tt
fits-share Int (a_fraction n d) h = absurd h
fits-share Perm y h = h

pub sorted-more :
    (os : List Sort) (vs : List NameValue) (o : Sort) (v : NameValue) → AllZip FitsSort os vs →
    FitsSort o v → AllZip FitsSort (os ++ o ∷ []) (vs ++ v ∷ [])
sorted-more [] [] o v h k = (k, tt)
sorted-more [] (y ∷ vs) o v h k = absurd h
sorted-more (x ∷ os) [] o v h k = absurd h
sorted-more (x ∷ os) (y ∷ vs) o v h k = (h.0, sorted-more os vs o v h.1 k)

module _ (n : ℕ) (z : ℤ) where
  abbrev P : ℕ → Type 0
  P x = x < n

  on : (u : Valuation) → Alike P u (set_to u n z)
  on u =
      agree-alike P u (set_to u n z)
      (with-agrees P u n z (z *ℤ denominator u.fraction) (λ x l q. omega (arith, l, q)))

  brought : (u : Valuation) → Brings (set_to u n z) n (a_whole z ∷ [])
  brought u =
      let m = z *ℤ denominator u.fraction in (
        new-whole u n z m,
        new-share u n z m ∙ ap (λ y. y *ℤ denominator u.fraction) (sym (new-whole u n z m)),
        tt,
      )

  -- alike values are so with one number more
  pub number-more :
      (v w : Valuation) → Alike (λ x. x < n) v w →
      Alike (λ x. x < n + 1) (set_to v n z) (set_to w n z)
  number-more v w a =
      brings-named n (a_whole z ∷ []) (set_to v n z) (set_to w n z)
      (alike-trans P (set_to v n z) v (set_to w n z) (alike-back P v (set_to v n z) (on v))
      (alike-trans P v w (set_to w n z) a (on w))) (brought v) (brought w)

-- ---- terms

-- what a term comes to is a number, or it is too wide
pub number-told : (vs : List NameValue) (t : Linear) → number_in vs t ≡ untold → ⊥
number-told vs t e =
    computed-told (value (valuation vs).whole t)
    (value_steps (valuation vs).whole t.constant t.parts) e
