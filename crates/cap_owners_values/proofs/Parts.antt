-- Parts of lists of values.
use Rattle.std.proofs.Common.{◌≡◌, ℕ, ◌≤◌, ◌-◌, List, map, take, drop, length, min, arith, sym, ◌∙◌, ap, inl, inr}
use Rattle.std.proofs.lemmas.List.{take-map, drop-map, drop_all, take_all, length-drop}
use Rattle.std.proofs.lemmas.Bool.{cases_lt}

pub drop-min : {A : Type 0} (xs : List A) (from start : ℕ) → start ≡ min from (length xs) → drop start xs ≡ drop from xs
drop-min xs from start e = elim (cases_lt from (length xs)) [
  | inl h ↦ ap (λ n. drop n xs) (omega (arith, e))
  | inr h ↦ (let k : length xs ≤ start = omega (arith, e) in drop_all start xs k ∙ sym (drop_all from xs h))
]

pub take-min : {A : Type 0} (xs : List A) (count some : ℕ) → some ≡ min count (length xs) → take some xs ≡ take count xs
take-min xs count some e = elim (cases_lt count (length xs)) [
  | inl h ↦ ap (λ n. take n xs) (omega (arith, e))
  | inr h ↦ (let k : length xs ≤ some = omega (arith, e) in take_all some xs k ∙ sym (take_all count xs h))
]

rest-all : {A : Type 0} (xs : List A) (n : ℕ) → take (length xs - n) (drop n xs) ≡ drop n xs
rest-all xs n = take_all (length xs - n) (drop n xs) (rw length-drop (omega arith))

-- a slice's items, from a number on
pub behind_seen : {A B : Type 0} (f : A → B) (xs ys items : List A) (zs : List B) (from start len : ℕ) → ys ≡ xs → map f xs ≡ zs → len ≡ length ys → start ≡ min from len → items ≡ take (length ys - start) (drop start ys) → map f items ≡ drop from zs
behind_seen f xs ys items zs from start len e d g h k =
    let m : start ≡ min from (length ys) = h ∙ ap (min from) g in
    ap (map f) (k ∙ (rest-all ys start ∙ drop-min ys from start m)) ∙ (sym (drop-map f from ys) ∙ ap (drop from) (ap (map f) e ∙ d))

-- so many of them
pub part_seen : {A B : Type 0} (f : A → B) (xs ys rest items : List A) (zs : List B) (from start len count some : ℕ) → ys ≡ xs → map f xs ≡ zs → len ≡ length ys → start ≡ min from len → rest ≡ take (length ys - start) (drop start ys) → some ≡ min count (length rest) → items ≡ take some rest → map f items ≡ take count (drop from zs)
part_seen f xs ys rest items zs from start len count some e d g h k j l =
    ap (map f) (l ∙ take-min rest count some j) ∙ (sym (take-map f count rest) ∙ ap (take count) (behind_seen f xs ys rest zs from start len e d g h k))
