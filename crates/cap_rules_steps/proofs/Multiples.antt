-- Terms in the place of variables, one part after the other.
use Rattle.std.proofs.Common.{◌≡◌, ℕ, ℤ, ◌+◌, ◌<◌, pos, List, ◌∷◌, ◌++◌, length, get_or, drop, drop-cons, suc, add-one, None, refl, sym, ap, ◌∙◌}
use Rattle.cap_lin.specs.Exact.{Explains}
use Rattle.cap_lin.specs.Linear.{Linear, plus, times}
use Rattle.cap_lin.specs.Steps.{Step, first_wide, plus_steps, times_steps}
use Rattle.cap_lin.specs.declared.error.LinError.{LinError}
use Rattle.cap_lin.proofs.Results.{first-narrow, explains_same, explains_first}
use Rattle.std.proofs.lemmas.List.{append_assoc}
use Rattle.cap_rules.specs.cap_goal_spec.Terms.{with_multiples, with_multiples_steps}

abbrev pub no_part : ℕ × ℤ
no_part = (0, pos 0)

-- what one part adds
abbrev pub part_steps : (ℕ → Linear) → Linear → ℕ × ℤ → List Step
part_steps terms sum p = times_steps p.1 (terms p.0) ++ plus_steps sum (times p.1 (terms p.0))

split-steps : (terms : ℕ → Linear) (sum : Linear) (p : ℕ × ℤ) (ps : List (ℕ × ℤ)) → with_multiples_steps terms sum (p ∷ ps) ≡ part_steps terms sum p ++ with_multiples_steps terms (plus sum (times p.1 (terms p.0))) ps
split-steps terms sum p ps = sym (append_assoc (times_steps p.1 (terms p.0)) (plus_steps sum (times p.1 (terms p.0))) (with_multiples_steps terms (plus sum (times p.1 (terms p.0))) ps))

more-steps : (terms : ℕ → Linear) (sum : Linear) (ps : List (ℕ × ℤ)) (i : ℕ) → i < length ps → first_wide (with_multiples_steps terms sum (drop i ps)) ≡ first_wide (part_steps terms sum (get_or ps i no_part) ++ with_multiples_steps terms (plus sum (times (get_or ps i no_part).1 (terms (get_or ps i no_part).0))) (drop (suc i) ps))
more-steps terms sum ps i h = ap (λ qs. first_wide (with_multiples_steps terms sum qs)) (drop-cons ps i no_part h) ∙ ap first_wide (split-steps terms sum (get_or ps i no_part) (drop (suc i) ps))

-- what the code has at hand of a part
pub record IsPart (terms : ℕ → Linear) (ps : List (ℕ × ℤ)) (i : ℕ) (k : ℤ) (t : Linear) : Type 0 where
  pub below : i < length ps
  pub factor : k ≡ (get_or ps i no_part).1
  pub term : t ≡ terms (get_or ps i no_part).0

pub part-fails : (terms : ℕ → Linear) (sum : Linear) (ps : List (ℕ × ℤ)) (i : ℕ) (e : LinError) (whole : List Step) (k : ℤ) (t : Linear) → IsPart terms ps i k t → Explains e (times_steps k t ++ plus_steps sum (times k t)) → first_wide (with_multiples_steps terms sum (drop i ps)) ≡ first_wide whole → Explains e whole
part-fails terms sum ps i e whole k t h x w =
    let y = rw (h.factor, h.term) at x in
    explains_same e whole _ (sym w ∙ more-steps terms sum ps i h.below) (explains_first e _ _ y)

pub part-term : (terms : ℕ → Linear) (sum y : Linear) (ps : List (ℕ × ℤ)) (i : ℕ) (k : ℤ) (t : Linear) → IsPart terms ps i k t → y ≡ plus sum (times k t) → with_multiples terms y (drop (i + 1) ps) ≡ with_multiples terms sum (drop i ps)
part-term terms sum y ps i k t h e = rw (add-one, drop-cons ps i no_part h.below, e, h.factor, h.term) refl

pub part-narrow : (terms : ℕ → Linear) (sum y : Linear) (ps : List (ℕ × ℤ)) (i : ℕ) (k : ℤ) (t : Linear) → IsPart terms ps i k t → first_wide (times_steps k t ++ plus_steps sum (times k t)) ≡ None → y ≡ plus sum (times k t) → first_wide (with_multiples_steps terms y (drop (i + 1) ps)) ≡ first_wide (with_multiples_steps terms sum (drop i ps))
part-narrow terms sum y ps i k t h n e =
    let m = rw (h.factor, h.term) at n in
    let q : y ≡ plus sum (times (get_or ps i no_part).1 (terms (get_or ps i no_part).0)) = rw (← h.factor, ← h.term) e in
    rw (add-one, q) (sym (first-narrow _ _ m) ∙ sym (more-steps terms sum ps i h.below))
