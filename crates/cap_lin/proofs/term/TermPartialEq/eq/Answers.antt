use Rattle.std.proofs.Common.{rules, ◌≡◌, ℕ, ℤ, List, arith, refl, ap, sym, ◌∙◌, Bool, true, false, ◌&&◌, Decides, nat_eq, int_eq}
use Rattle.std.proofs.lemmas.Int.{ints}
use Rattle.std.proofs.lemmas.Slice.Eq.{slice_eq-Decides}
use Rattle.std.proofs.lemmas.Bool.Decides.{nat_tests, Decides-eqb, Decides-int_eq}
use mir.Val.{SFits, of_z}
use mir.Syntax.{w128}
use Rattle.cap_lin.specs.Linear.{Linear}
use Rattle.cap_lin.specs.Laws.Sameness.{same_term-only}
use Rattle.cap_lin.proofs.term.TermPartialEq.eq.Goals as goal

paired : (x y : ℕ) (k l : ℤ) → x ≡ y → k ≡ l → ◌≡◌ {A = ℕ × ℤ} (x, k) (y, l)
paired x y k l p q = rw (p, q) refl

both : (a b : ℕ × ℤ) (c d : Bool) → Decides c (a.0 ≡ b.0) → Decides d (a.1 ≡ b.1) → (c && d) ≡ true → a ≡ b
both a b true true x y t = paired a.0 b.0 a.1 b.1 (x.0 refl) (y.0 refl)
both a b true false x y t = cc
both a b false d x y t = cc

conjunction : (c d : Bool) → c ≡ true → d ≡ true → (c && d) ≡ true
conjunction c d e f = rw (e, f) refl

pairs : (a b : ℕ × ℤ) → Decides (nat_eq a.0 b.0 && int_eq a.1 b.1) (a ≡ b)
pairs a b =
    let x = Decides-eqb a.0 b.0 in
    let y = Decides-int_eq a.1 b.1 in
    (λ t. both a b (nat_eq a.0 b.0) (int_eq a.1 b.1) x y t, λ e. conjunction _ _ (x.1 (ap (λ (p : ℕ × ℤ). p.0) e)) (y.1 (ap (λ (p : ℕ × ℤ). p.1) e)))

made : (x y : ℤ) (ps qs : List (ℕ × ℤ)) → x ≡ y → ps ≡ qs → ◌≡◌ {A = Linear} (record { constant = x; parts = ps }) (record { constant = y; parts = qs })
made x y ps qs e d = rw (e, d) refl

pub returns-then-self-other : goal.returns-then-self-other
returns-then-self-other c =
    let f : SFits w128 c.self.inside.constant = search rules in
    let g : SFits w128 c.other.inside.constant = search rules in
    let t = c.if-self-other.true in
    let k : c.self.inside.constant ≡ c.other.inside.constant = omega (arith, ints) in
    let d = slice_eq-Decides pairs c.self.inside.parts.items c.other.inside.parts.items c.eq.result c.eq.ensures in
    same_term-only _ _ _ (λ r. sym c.self.view_is ∙ made _ _ _ _ k (d.0 r) ∙ c.other.view_is, λ e. d.1 (ap (λ (l : Linear). l.parts) (c.self.view_is ∙ e ∙ sym c.other.view_is)))

pub returns-else-self-other : goal.returns-else-self-other
returns-else-self-other c =
    let f : SFits w128 c.self.inside.constant = search rules in
    let g : SFits w128 c.other.inside.constant = search rules in
    let t = c.if-self-other.false in
    let n : c.self.inside.constant ≡ c.other.inside.constant → ⊥ = omega (arith, ints) in
    let v : nat_eq (of_z w128 c.self.inside.constant) (of_z w128 c.other.inside.constant) ≡ false = grind (arith, nat_tests, t) in
    v ∙ same_term-only false _ _ (λ r. cc, λ e. absurd (n (ap (λ (l : Linear). l.constant) (c.self.view_is ∙ e ∙ sym c.other.view_is))))
