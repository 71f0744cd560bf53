-- Counts as elements.
use Rattle.std.proofs.Common.{◌≡◌, ℕ, ◌-◌, ◌≤◌, arith, refl, sym, ◌∙◌, subst, inl, inr, Bool, true, false, Option, Some, None, Ok}
use Rattle.std.specs.Prelude.{nat_le, ◌==◌, if◌then◌else◌}
use Rattle.cap_galg_spec.specs.Elements.{Element, nothing, tok, src, tokens, compose, is_wide}
use Rattle.cap_galg_spec.specs.Algebras.{counting}
use Rattle.cap_galg_spec.specs.Answers.{IsComposition}
use Rattle.cap_galg_spec.specs.Laws.Composition.{true_or_false, le-true, true-eq, compose-comm}
use Rattle.cap_galg_spec.specs.Laws.Algebras.{sound-of}
use Rattle.cap_galg_atoms.specs.Views.{counting_element}
use Rattle.cap_galg_atoms.specs.Laws.Kin.{tokens-is}
use Rattle.cap_galg_atoms.specs.declared.counting.Counting.{Counting}
use Rattle.cap_galg_atoms.specs.declared.counting.Counting.TheVariants.{Tok, Src}

pub back : (n k : ℕ) → (if nat_le k n then Some (src (n - k)) else None) ≡ compose (src n) (tokens k)
back n k = elim (true_or_false (k == 0)) [
  | inl e ↦
      let z : k ≡ 0 = true-eq _ _ e in
      let t : k ≤ n = omega arith in
      let s : n - k ≡ n = omega arith in
      rw (le-true k n t, s, e) refl
  | inr f ↦ rw f refl
]

pub back-narrow : (n k : ℕ) → is_wide (src n) (tokens k) ≡ false
back-narrow n k = elim (k == 0) as (λ b. is_wide (src n) (if b then nothing else tok k) ≡ false) [ true ↦ refl | false ↦ refl ]

pub back-narrow_too : (n k : ℕ) → is_wide (tokens k) (src n) ≡ false
back-narrow_too n k = elim (k == 0) as (λ b. is_wide (if b then nothing else tok k) (src n) ≡ false) [ true ↦ refl | false ↦ refl ]

given : (n k : ℕ) (b : Bool) (x y : Element) → (if b then Some (src (n - k)) else None) ≡ compose x y → is_wide x y ≡ false
    → IsComposition counting_element x y (Ok (if b then Some (Src (n - k)) else None))
given n k true x y e w = (sym e, w)
given n k false x y e w = sym e

pub given-back : (x y : Counting) (n k : ℕ) (r : Option Counting) → x ≡ Src n → y ≡ Tok k → r ≡ (if nat_le k n then Some (Src (n - k)) else None) → IsComposition counting_element (counting_element x) (counting_element y) (Ok r)
given-back x y n k r p q e =
    subst (λ v. IsComposition counting_element (counting_element v) (counting_element y) (Ok r)) (sym p)
    (subst (λ v. IsComposition counting_element (src n) (counting_element v) (Ok r)) (sym q)
    (subst (λ o. IsComposition counting_element (src n) (tokens k) (Ok o)) (sym e) (given n k (nat_le k n) (src n) (tokens k) (back n k) (back-narrow n k))))

pub given-back_too : (x y : Counting) (n k : ℕ) (r : Option Counting) → x ≡ Tok k → y ≡ Src n → r ≡ (if nat_le k n then Some (Src (n - k)) else None) → IsComposition counting_element (counting_element x) (counting_element y) (Ok r)
given-back_too x y n k r p q e =
    subst (λ v. IsComposition counting_element (counting_element v) (counting_element y) (Ok r)) (sym p)
    (subst (λ v. IsComposition counting_element (tokens k) (counting_element v) (Ok r)) (sym q)
    (subst (λ o. IsComposition counting_element (tokens k) (src n) (Ok o)) (sym e) (given n k (nat_le k n) (tokens k) (src n) (back n k ∙ compose-comm (src n) (tokens k) tt (sound-of counting (tokens k) (tokens-is k))) (back-narrow_too n k))))
