-- Opened regions, and facts that are there.
use Rattle.std.proofs.Common.{◌≡◌, ℕ, zero, suc, Bool, true, false, Some, None, List, [], ◌∷◌, refl, sym, subst, ◌<◌, ◌≤◌, length, arith}
use Rattle.std.proofs.lemmas.Bool.Decides.{nat_tests}
use Rattle.std.specs.Prelude.{◌==◌, Ok, Err, if◌then◌else◌, nat_lt, slice_get}
use Rattle.cap_lin.specs.declared.row.Row.{Row}
use Rattle.cap_rules_steps.specs.cap_goal_spec.States.{PlainFact, PlainState}
use Rattle.cap_rules_steps.specs.cap_rules.Attempts.{Attempt, unit, go_on, need, found}
use Rattle.cap_rules_steps.specs.cap_rules.Making.{prove_differ}
use Rattle.cap_rules_steps.specs.cap_rules.Closing.{of_type, prove_other}
use Rattle.cap_open_enter.specs.Parts.{one_other}
use Rattle.cap_rules_steps.specs.Walks.{Makes, Claims}
use Rattle.cap_rules_steps.specs.declared.error.RuleError.TheVariants.{NotApplicable}
use Rattle.cap_rules_steps.proofs.Walking.{Goes, weaker, done, needed, unneeded}

abbrev Lists : Type 0
Lists = List (List Row)

-- ---- other opened regions of the type

abbrev pub others : PlainState → PlainFact → Unit {0} → List PlainFact → Attempt (Unit {0})
others s f z os = prove_other s f (of_type f.kind os)

abbrev pub another : PlainState → PlainFact → Unit {0} → PlainFact → Attempt (Unit {0})
another s f z o = one_other s f o

pub others_go : (s : PlainState) (f : PlainFact) → Goes (others s f) (another s f)
unfolding Goes
others_go s f = λ z o os. by_type s f o (of_type f.kind os) (o.kind == f.kind)
  where
    by_type : (s : PlainState) (f o : PlainFact) (os : List PlainFact) (b : Bool) → prove_other s f (if b then o ∷ os else os) ≡ go_on (if b then prove_differ s f.region o.region else unit tt).events (if b then prove_differ s f.region o.region else unit tt).value (λ t. prove_other s f os)
    by_type s f o os true = refl
    by_type s f o os false = refl

-- ---- how many regions are opened

pub few-opened : (s : PlainState) → length s.opened < 2 → Makes (Ok tt) (need (nat_lt (length s.opened) 2))
few-opened s h = needed (nat_lt (length s.opened) 2) (grind (arith, nat_tests))

pub many-opened : (s : PlainState) → 2 ≤ length s.opened → Makes (Err NotApplicable) (need (nat_lt (length s.opened) 2))
many-opened s h = unneeded (nat_lt (length s.opened) 2) (grind (arith, nat_tests))

-- ---- facts of other types, and facts that are there

pub other-skipped : (s : PlainState) (f o : PlainFact) (ls : Lists) (j k : ℕ) → j ≡ o.kind → k ≡ f.kind → (j ≡ k → ⊥) → Claims (Ok tt) ls ls (one_other s f o)
other-skipped s f o ls j k p q h =
    let e : (o.kind == f.kind) ≡ false = grind (arith, nat_tests) in
    subst (λ b. Claims (Ok tt) ls ls (if b then prove_differ s f.region o.region else unit tt)) (sym e) (weaker _ _ ls (done tt))

below : (fs : List PlainFact) (i : ℕ) (f : PlainFact) → slice_get fs i ≡ Some f → i < length fs
below [] zero f e = absurd (clash e)
  where
    clash : {x : PlainFact} → None ≡ Some x → ⊥
    clash e = cc
below [] (suc i) f e = absurd (clash e)
  where
    clash : {x : PlainFact} → None ≡ Some x → ⊥
    clash e = cc
below (x ∷ fs) zero f e = omega arith
below (x ∷ fs) (suc i) f e = let h : i < length fs = below fs i f e in omega arith

pub fact-exists : (fs : List PlainFact) (i : ℕ) (f : PlainFact) → Makes (Ok f) (found (slice_get fs i)) → i < length fs
fact-exists fs i f h = below fs i f (h.ends []).1
