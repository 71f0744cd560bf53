-- Which names of a case have a binding position.
use Rattle.std.proofs.Common.{◌≡◌, ℕ, suc, ◌+◌, ◌-◌, ◌<◌, Bool, true, false, List, [], ◌∷◌, ◌++◌, map, Option, sym, ap, ◌∙◌, rules, arith}
use Rattle.std.specs.Prelude.{◌&&◌, ◌||◌}
use Rattle.std.specs.List.{list_all, range_with_len}
use Rattle.std.proofs.lemmas.List.{append_assoc}
use Rattle.cap_lin.specs.Linear.{Linear}
use Rattle.cap_prog.specs.declared.assertion.Assertion.{Assertion}
use Rattle.cap_prog.specs.declared.assertion.Item.{Item}
use Rattle.cap_prog.specs.declared.assertion.Item.TheFolds.{the_lemmas}
use Rattle.cap_prog.specs.Program.{items_of}
use Rattle.cap_prog.specs.Views.{item_view, items_view}
use Rattle.cap_rules_steps.specs.cap_goal_spec.States.{PlainEnv}
use Rattle.cap_rules_steps.specs.cap_goal_spec.Environments.{is_bound_by}

pub items-seen : (a : Assertion) → items_view a ≡ items_of (map item_view a.items.items)
items-seen a = search (rules, the_lemmas)

-- whether one of the items from a place on binds the name
abbrev pub bound-from : ℕ → List Item → Bool
bound-from x is = is_bound_by x (items_of (map item_view is))

pub bound-first : (x : ℕ) (a : Assertion) → bound-from x a.items.items ≡ is_bound_by x (items_view a)
bound-first x a = ap (is_bound_by x) (sym (items-seen a))

-- ---- numbers from one on

next-number : (a i n : ℕ) → i < n → range_with_len (a + i) (n - i) ≡ (a + i) ∷ range_with_len (a + (i + 1)) (n - (i + 1))
next-number a i n h =
    let left : n - i ≡ suc (n - (i + 1)) = omega arith in
    let next : (a + i) + 1 ≡ a + (i + 1) = omega arith in
    ap (range_with_len (a + i)) left ∙ ap (λ m. (a + i) ∷ range_with_len m (n - (i + 1))) next

pub all-next : (p : ℕ → Bool) (a i n : ℕ) (b all : Bool) → i < n → b ≡ p (a + i) → b ≡ true → list_all p (range_with_len (a + i) (n - i)) ≡ all → list_all p (range_with_len (a + (i + 1)) (n - (i + 1))) ≡ all
all-next p a i n b all h q t k =
    sym (ap (list_all p) (next-number a i n h) ∙ ap (λ d. d && list_all p (range_with_len (a + (i + 1)) (n - (i + 1)))) (sym q ∙ t)) ∙ k

pub all-fails : (p : ℕ → Bool) (a i n : ℕ) (b all : Bool) → i < n → b ≡ p (a + i) → b ≡ false → list_all p (range_with_len (a + i) (n - i)) ≡ all → false ≡ all
all-fails p a i n b all h q f k =
    sym (ap (list_all p) (next-number a i n h) ∙ ap (λ d. d && list_all p (range_with_len (a + (i + 1)) (n - (i + 1)))) (sym q ∙ f)) ∙ k

-- names that are gathered
pub names-next : (f : ℕ → Option Linear) (a i n : ℕ) (xs ys all : PlainEnv) (y : Option Linear) → i < n → ys ≡ xs ++ y ∷ [] → y ≡ f (a + i) → xs ++ map f (range_with_len (a + i) (n - i)) ≡ all → ys ++ map f (range_with_len (a + (i + 1)) (n - (i + 1))) ≡ all
names-next f a i n xs ys all y h e q k =
    let rest = map f (range_with_len (a + (i + 1)) (n - (i + 1))) in
    ap (λ zs. zs ++ rest) e ∙ (append_assoc xs (y ∷ []) rest ∙ (ap (λ z. xs ++ (z ∷ rest)) q ∙ (ap (λ ns. xs ++ map f ns) (sym (next-number a i n h)) ∙ k)))

pub neither : (a b c d : Bool) → a ≡ false → b ≡ false → d ≡ c → d ≡ (a || (b || c))
neither a b c d h k e = rw (h, k) e
