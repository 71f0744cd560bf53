-- Pieces that are covered by a part are guards of it, all together.
use Rattle.std.proofs.Common.{◌≡◌, ◌⊎◌, inl, inr, ℕ, ℤ, List, [], ◌∷◌, map, refl, sym, ap, ◌∙◌, subst, Option, Some, None, true, false}
use Rattle.std.specs.List.{AllZip}
use Rattle.cap_lin.specs.Values.{Valuation}
use Rattle.cap_galg.specs.Elements.{Element, nothing, is_unit, compose}
use Rattle.cap_galg.specs.Lists.{compose_all}
use Rattle.cap_galg.specs.Algebras.{atom_element}
use Rattle.cap_galg.specs.Laws.Composition.{true_or_false, bind-is, unit-is, compose-nothing, eq-true}
use Rattle.cap_gsolve.specs.declared.piece.Piece.{Piece}
use Rattle.cap_gsolve.specs.Meaning.{IsFormElement, region_of, IsElementAt, AreElementsAt}
use Rattle.cap_prog.specs.Program.{PlainProgram}
use Rattle.cap_machine_accounts.specs.Parts.{Guard, guard_of, join, join_with, join_all, IsGuard, GuardAtMost, algebra_of, atom_guard, Part, guard_at}
use Rattle.cap_account_resources.proofs.Lists.{some-same, none-some}
use Rattle.cap_account_resources.proofs.Marks.{Mark}
use Rattle.cap_account_resources.proofs.Covering.{join_marks, IsPartOf, unit-form, Covered}
use Rattle.cap_account_resources.proofs.Interference.{met-joins, met-guard}
use Rattle.cap_outline_laws.specs.Holding.{IsGuardAt, GuardsWithin}

-- ---- elements of one type's guards as guards

join-none : (g : Option Guard) → join g None ≡ Some g
join-none None = refl
join-none (Some g) = refl

unit-guard : (k : ℕ) (x : Element) → is_unit x ≡ true → guard_of k x ≡ None
unit-guard k x u = rw u refl

-- elements compose as the guards that they are do
join-two :
    (k : ℕ) (x y z : Element) → compose x y ≡ Some z →
    join (guard_of k x) (guard_of k y) ≡ Some (guard_of k z)
join-two k x y z e = elim (true_or_false (is_unit x)) [
  | inl u ↦
      let same : y ≡ z = some-same y z (ap (λ w. compose w y) (sym (unit-is x u)) ∙ e) in
      ap (λ g. join g (guard_of k y)) (unit-guard k x u) ∙ ap (λ w. Some (guard_of k w)) same
  | inr f ↦ elim (true_or_false (is_unit y)) [
    | inl u ↦
        let same : x ≡ z = some-same x z
        (sym (compose-nothing x) ∙ (ap (compose x) (sym (unit-is y u)) ∙ e)) in
        ap (join (guard_of k x)) (unit-guard k y u)
        ∙ (join-none (guard_of k x) ∙ ap (λ w. Some (guard_of k w)) same)
    | inr g ↦ let t = eq-true k k refl in rw (f, g, t, e) refl
  ]
]

joined :
    (k : ℕ) (xs : List Element) (z : Element) → compose_all xs ≡ Some z →
    join_all (map (guard_of k) xs) ≡ Some (guard_of k z)
joined k [] z e = ap (λ w. Some (guard_of k w)) (some-same nothing z e)
joined k (x ∷ xs) z e =
    let y = bind-is (compose_all xs) (λ w. compose x w) z e in
    ap (join_with (guard_of k x)) (joined k xs y.0 y.1) ∙ join-two k x y.0 z y.2

-- ---- the pieces

module _ (p : PlainProgram) (v : Valuation) where
  piece-guard :
      (k : ℕ) (n : ℤ) (q : Piece) (x : Element) → IsElementAt (algebra_of p k) k v n q x →
      IsGuardAt p v n q (guard_of k x)
  piece-guard k n q x (inl (here, (y, form, e), inl same)) =
      inl (
        here,
        (
          y,
          form,
          ap (guard_of k) e
              ∙ ap (λ j. guard_of j (atom_element (algebra_of p j) q.atom y)) (sym same),
        ),
      )
  piece-guard k n q x (inl (here, (y, form, e), inr none)) =
      let u = unit-form (algebra_of p k) v q y form (sym none ∙ e) in
      inl (here, (y, form, ap (guard_of k) none ∙ rw u refl))
  piece-guard k n q x (inr (away, none)) = inr (away, ap (guard_of k) none)

  piece-guards :
      (k : ℕ) (n : ℤ) (qs : List Piece) (xs : List Element) →
      AreElementsAt (algebra_of p k) k v n qs xs → AllZip (IsGuardAt p v n) qs (map (guard_of k) xs)
  piece-guards k n [] [] h = tt
  piece-guards k n [] (x ∷ xs) h = absurd h
  piece-guards k n (q ∷ qs) [] h = absurd h
  piece-guards k n (q ∷ qs) (x ∷ xs) h = (piece-guard k n q x h.0, piece-guards k n qs xs h.1)

  part-at-most :
      (g m : Mark) → IsGuard p m → IsPartOf p (Some g) (Some m) → GuardAtMost p g m
  part-at-most g m guard (o, e) = by o e
    where
      by : (o : Option Mark) → join_marks p (Some g) o ≡ Some m → GuardAtMost p g m
      by None e = absurd (none-some e)
      by (Some b) e = (b, met-guard p g b m e guard, met-joins p g b m e)

  pub guards-within :
      (part : Part) (qs : List Piece) (n : ℤ) → IsGuard p (guard_at part n) →
      Covered p v qs n (Some (guard_at part n)) → GuardsWithin p v part qs n
  guards-within part qs n guard c = record {
    guards = map (guard_of c.kind) c.is.0;
    are = piece-guards c.kind n qs c.is.0 c.is.1;
    all = guard_of c.kind c.element;
    joined = joined c.kind c.is.0 c.element c.is.2;
    within = part-at-most (guard_of c.kind c.element) (guard_at part n) guard c.part;
  }
