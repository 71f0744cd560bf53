-- Elimination is complete: where it ends without a contradiction, some rational valuation solves the rows.
use Rattle.std.proofs.Common.{◌≡◌, ℕ, ◌+◌, List, [], ◌∷◌, ◌++◌, length, arith, refl, sym, subst, ◌⊎◌, inl, inr}
use Rattle.std.specs.List.{AllByRecursion}
use Rattle.cap_lin.specs.Linear.{Linear, AscendFrom}
use Rattle.cap_lin.specs.Values.{RationalValuation}
use Rattle.cap_lin.specs.Solves.{HoldsRationally, SolvesRationally, kept, without_ne}
use Rattle.cap_lin.specs.declared.row.Row.{Row}
use Rattle.cap_lin.specs.declared.row.Kind.{Kind}
use Rattle.cap_lin.specs.declared.row.Kind.TheVariants.{Le, Lt, Eq, Ne}
use Rattle.cap_fm_spec.specs.Runs.{Entry, Stage, at_first, going, ◌>>=◌}
use Rattle.cap_fm_spec.specs.Elimination.{input, inputs, by_units, by_variables, width, eliminated}
use Rattle.cap_fm_spec.proofs.Lists.{each-left, each-right, each-join}
use Rattle.cap_fm_spec.proofs.Runs.{goes-on}
use Rattle.cap_fm_spec.proofs.Arising.{HoldsEntry, AllHold, Arises, given-arises, arises-keeps, arises-holds}
use Rattle.cap_fm_spec.proofs.Equations.{going-same}
use Rattle.cap_fm_spec.proofs.Variables.{IsSound, AreSound, Ascends, units-lead, variables-solved, within-width}

-- ---- an input row is Ne and takes no part, or it arises

input-either : (present : List Entry) (i : ℕ) (k : Kind) (t : Linear) (s : Stage) (new : List Entry) → (input present i k t s).found ≡ going new → ((k ≡ Ne) × ([] ≡ new)) ⊎ ((k ≡ Ne → ⊥) × Arises present t k new)
input-either present i Le t s new f = inr (λ e. cc, given-arises present t Le i s new f)
input-either present i Lt t s new f = inr (λ e. cc, given-arises present t Lt i s new f)
input-either present i Eq t s new f = inr (λ e. cc, given-arises present t Eq i s new f)
input-either present i Ne t s new f = inl (refl, going-same [] new f)

input-sound : (present : List Entry) (r : Row) (new : List Entry) → AscendFrom 0 r.term.parts → ((r.kind ≡ Ne) × ([] ≡ new)) ⊎ ((r.kind ≡ Ne → ⊥) × Arises present r.term r.kind new) → AreSound Ascends new
input-sound present r new a (inl e) = subst (AreSound Ascends) e.1 tt
input-sound present r new a (inr h) = arises-keeps (IsSound Ascends) present r.term r.kind new h.1 (λ i p. record { term = a; kind = h.0; parts = p })

pub inputs-sound : (present : List Entry) (i : ℕ) (rows : List Row) (s : Stage) (entries : List Entry) → AreSound Ascends present → AllByRecursion (λ r. AscendFrom 0 r.term.parts) rows → (inputs present i rows s).found ≡ going entries → AreSound Ascends entries
unfolding inputs
inputs-sound present i [] s entries h a f = subst (AreSound Ascends) (going-same present entries f) h
inputs-sound present i (r ∷ rows) s entries h a f =
    let g = goes-on (input present i r.kind r.term) (λ more. inputs (present ++ more) (i + 1) rows) s entries f in
    let new = input-sound present r g.value a.0 (input-either present i r.kind r.term s g.value g.first) in
    inputs-sound (present ++ g.value) (i + 1) rows _ entries (each-join _ present g.value h new) a.1 g.second

-- ---- each input row that is not Ne holds where the rows that it leaves do

kept-holds : (q : RationalValuation) (r : Row) (rows : List Row) → (r.kind ≡ Ne) ⊎ HoldsRationally q r → SolvesRationally q rows → SolvesRationally q (kept r.kind r rows)
kept-holds q r rows h k = by_kind r.kind refl h
  where
    holds : (r.kind ≡ Ne → ⊥) → (r.kind ≡ Ne) ⊎ HoldsRationally q r → HoldsRationally q r
    holds n (inl e) = absurd (n e)
    holds n (inr h) = h

    other : (l : Kind) → r.kind ≡ l → (l ≡ Ne → ⊥) → r.kind ≡ Ne → ⊥
    other l e n d = n (cc)

    by_kind : (l : Kind) → r.kind ≡ l → (r.kind ≡ Ne) ⊎ HoldsRationally q r → SolvesRationally q (kept l r rows)
    by_kind Le e h = (holds (other Le e (λ d. cc)) h, k)
    by_kind Lt e h = (holds (other Lt e (λ d. cc)) h, k)
    by_kind Eq e h = (holds (other Eq e (λ d. cc)) h, k)
    by_kind Ne e h = k

input-holds : (q : RationalValuation) (present : List Entry) (r : Row) (new : List Entry) → ((r.kind ≡ Ne) × ([] ≡ new)) ⊎ ((r.kind ≡ Ne → ⊥) × Arises present r.term r.kind new) → AllHold q present → AllHold q new → (r.kind ≡ Ne) ⊎ HoldsRationally q r
input-holds q present r new (inl e) p h = inl e.0
input-holds q present r new (inr a) p h = inr (arises-holds q (HoldsEntry q) present r.term r.kind new a.1 p h (λ e d k. k))

inputs-hold : (q : RationalValuation) (present : List Entry) (i : ℕ) (rows : List Row) (s : Stage) (entries : List Entry) → (inputs present i rows s).found ≡ going entries → AllHold q entries → AllHold q present × SolvesRationally q (without_ne rows)
unfolding inputs
inputs-hold q present i [] s entries f h = (subst (AllHold q) (sym (going-same present entries f)) h, tt)
inputs-hold q present i (r ∷ rows) s entries f h =
    let g = goes-on (input present i r.kind r.term) (λ more. inputs (present ++ more) (i + 1) rows) s entries f in
    let ih = inputs-hold q (present ++ g.value) (i + 1) rows _ entries g.second h in
    let p = each-left _ present g.value ih.0 in
    (p, kept-holds q r (without_ne rows) (input-holds q present r g.value (input-either present i r.kind r.term s g.value g.first) p (each-right _ present g.value ih.0)) ih.1)

-- ---- the whole

pub complete : (rows : List Row) (rest : List Entry) → AllByRecursion (λ r. AscendFrom 0 r.term.parts) rows → (eliminated rows at_first).found ≡ going rest → (q : RationalValuation) × SolvesRationally q (without_ne rows)
unfolding eliminated
complete rows rest a f =
    let g = goes-on (inputs [] 0 rows) (λ entries. by_units (length entries) entries >>= (λ others. by_variables 0 (width others) others)) at_first rest f in
    let h = goes-on (by_units (length g.value) g.value) (λ others. by_variables 0 (width others) others) _ rest g.second in
    let entries = inputs-sound [] 0 rows at_first g.value tt a g.first in
    let units = units-lead (length g.value) g.value _ h.value entries h.first in
    let s = units.solves (variables-solved 0 (width h.value) h.value _ rest (within-width (width h.value) h.value (omega arith) units.sound) h.second) in
    (s.0, (inputs-hold s.0 [] 0 rows at_first g.value g.first s.1).1)
