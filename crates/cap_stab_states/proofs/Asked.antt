-- Names that get variables one after the other.
use Rattle.std.proofs.Common.{◌≡◌, ℕ, suc, ℤ, ◌+◌, ◌-◌, ◌<◌, ◌≤◌, List, [], ◌∷◌, ◌++◌, length, drop, get_or, slice_index_or, drop-cons, refl, sym, ap, ◌∙◌, arith, append_assoc, append-nil, length-append}
use Rattle.cap_lin.specs.Linear.{Linear, variable}
use Rattle.cap_prog.specs.declared.assertion.Asked.{Asked}
use Rattle.cap_goal_spec.specs.Terms.{variables_from}
use Rattle.cap_rules.specs.Resting.{Names, names_below, end_of, ask, ask_all}
use Rattle.cap_stab_states.specs.Asking.{starts_of}

abbrev names : List Linear → ℕ → Names
names ts n = record { terms = ts; next = n }

more-terms : (ts : List Linear) (x m n : ℕ) → n ≡ suc m → (ts ++ (variable x ∷ [])) ++ variables_from (x + 1) m ≡ ts ++ variables_from x n
more-terms ts x m n e =
    append_assoc ts (variable x ∷ []) (variables_from (x + 1) m)
    ∙ (ap (λ y. ts ++ (variable x ∷ variables_from y m)) (add x) ∙ ap (λ k. ts ++ variables_from x k) (sym e))
  where
    add : (x : ℕ) → x + 1 ≡ suc x
    add x = omega arith

pub below_next : (ts : List Linear) (x n : ℕ) → length ts < n → names_below (names (ts ++ (variable x ∷ [])) (x + 1)) n ≡ names_below (names ts x) n
below_next ts x n h =
    let l : length (ts ++ (variable x ∷ [])) ≡ length ts + 1 = length-append ts (variable x ∷ []) in
    let m : ℕ = n - length (ts ++ (variable x ∷ [])) in
    let e : n - length ts ≡ suc m = omega arith in
    ap (λ all. names all (x + 1 + m)) (more-terms ts x m (n - length ts) e) ∙ ap (λ y. names (ts ++ variables_from x (n - length ts)) y) (sum x m (n - length ts) e)
  where
    sum : (x m k : ℕ) → k ≡ suc m → x + 1 + m ≡ x + k
    sum x m k e = omega arith

pub below_end : (ts : List Linear) (x n : ℕ) → n ≤ length ts → names_below (names ts x) n ≡ names ts x
below_end ts x n h =
    let e : n - length ts ≡ 0 = omega arith in
    ap (λ k. names (ts ++ variables_from x k) (x + k)) e ∙ (ap (λ all. names all (x + 0)) (append-nil ts) ∙ ap (names ts) (none x))
  where
    none : (x : ℕ) → x + 0 ≡ x
    none x = omega arith

pub end_last : (p : ℕ × ℤ) (ps : List (ℕ × ℤ)) (d : ℕ × ℤ) → end_of (p ∷ ps) ≡ (get_or (p ∷ ps) (length ps) d).0 + 1
end_last p [] d = refl
end_last p (q ∷ ps) d = end_last q ps d

pub end_at : (ps : List (ℕ × ℤ)) (d : ℕ × ℤ) → 0 < length ps → (get_or ps (length ps - 1) d).0 + 1 ≡ end_of ps
end_at [] d h = absurd (omega arith)
end_at (p ∷ ps) d h = ap (λ i. (get_or (p ∷ ps) i d).0 + 1) (less (length ps)) ∙ sym (end_last p ps d)
  where
    less : (n : ℕ) → suc n - 1 ≡ n
    less n = omega arith

pub guard_next : (gs : List (ℕ × Asked)) (i : ℕ) (g : ℕ × Asked) → i < length gs → g ≡ slice_index_or gs i g → drop i gs ≡ g ∷ drop (i + 1) gs
guard_next gs i g h e = drop-cons gs i g h ∙ (ap (λ y. y ∷ drop (suc i) gs) (sym e) ∙ ap (λ j. g ∷ drop j gs) (more i))
  where
    more : (i : ℕ) → suc i ≡ i + 1
    more i = omega arith

pub asked_more : (w w' whole : Names) (gs : List (ℕ × Asked)) (i : ℕ) (g : ℕ × Asked) → w' ≡ ask w g.1 → i < length gs → g ≡ slice_index_or gs i g → ask_all w (drop i gs) ≡ whole → ask_all w' (drop (i + 1) gs) ≡ whole
asked_more w w' whole gs i g e h at inv = ap (λ v. ask_all v (drop (i + 1) gs)) e ∙ (ap (ask_all w) (sym (guard_next gs i g h at)) ∙ inv)

pub starts_more : (done whole : List ℕ) (w w' : Names) (gs : List (ℕ × Asked)) (i : ℕ) (g : ℕ × Asked) → w' ≡ ask w g.1 → i < length gs → g ≡ slice_index_or gs i g → done ++ starts_of w (drop i gs) ≡ whole → (done ++ (w.next ∷ [])) ++ starts_of w' (drop (i + 1) gs) ≡ whole
starts_more done whole w w' gs i g e h at inv =
    append_assoc done (w.next ∷ []) (starts_of w' (drop (i + 1) gs))
    ∙ (ap (λ v. done ++ (w.next ∷ starts_of v (drop (i + 1) gs))) e ∙ (ap (λ l. done ++ starts_of w l) (sym (guard_next gs i g h at)) ∙ inv))
