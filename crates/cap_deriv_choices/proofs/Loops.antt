-- An array of any length is read item by item.
use Rattle.std.proofs.Common.{◌≡◌, ℕ, zero, suc, ◌-◌, ◌<◌, ◌≤◌, List, [], ◌∷◌, ◌++◌, length, Option, Some, None, option_and_then, Err, refl, sym, ap, ◌∙◌, arith, append_assoc}
use Rattle.json.specs.Token.{Token}
use Rattle.json.specs.Json.{Parse, parse_map, after_end_array}
use Rattle.json.proofs.Grammar.{after_end_array-shorter}
use Rattle.cap_deriv_choices.specs.Taking.{items_turn, take_items}
use Rattle.cap_deriv_choices.specs.Views.{Takes}
use Rattle.cap_deriv_choices.specs.declared.values.Fault.{Fault}
use Rattle.cap_deriv_choices.specs.declared.values.Fault.TheVariants.{Form, OutOfMemory}

pub none_before : {A : Type 0} (vs : List A) (o : Option (List A × List Token)) → vs ≡ [] → o ≡ parse_map (λ xs. vs ++ xs) o
none_before vs None e = refl
none_before vs (Some q) e = ap (λ ws. Some (ws ++ q.0, q.1)) (sym e)

pub one_more : {A : Type 0} (vs ws : List A) (a : A) (o : Option (List A × List Token)) → ws ≡ vs ++ a ∷ [] → parse_map (λ xs. vs ++ xs) (parse_map (λ xs. a ∷ xs) o) ≡ parse_map (λ xs. ws ++ xs) o
one_more vs ws a None e = refl
one_more vs ws a (Some q) e = ap (λ xs. Some (xs, q.1)) (sym (append_assoc vs (a ∷ []) q.0) ∙ ap (λ us. us ++ q.0) (sym e))

module _ {A : Type 0} (p : Parse A) where
  pub items_over : (n : ℕ) (ts r : List Token) → length ts ≤ n → after_end_array ts ≡ Some r → take_items p n ts ≡ Some ([], r)
  unfolding take_items
  items_over zero ts r le e = let never : ⊥ = omega (arith, after_end_array-shorter ts r e) in absurd never
  items_over (suc n) ts r le e = ap (items_turn p (take_items p n) ts) e

  pub item_refused : (n : ℕ) (ts : List Token) → after_end_array ts ≡ None → None ≡ p ts → take_items p n ts ≡ None
  unfolding take_items
  item_refused zero ts e f = refl
  item_refused (suc n) ts e f = ap (items_turn p (take_items p n) ts) e ∙ ap (option_and_then (λ q. parse_map (λ xs. q.0 ∷ xs) (take_items p n q.1))) (sym f)

  pub item_taken : (n : ℕ) (ts r : List Token) (a : A) → 0 < n → after_end_array ts ≡ None → Some (a, r) ≡ p ts → take_items p n ts ≡ parse_map (λ xs. a ∷ xs) (take_items p (n - 1) r)
  unfolding take_items
  item_taken zero ts r a some e f = let never : ⊥ = omega arith in absurd never
  item_taken (suc n) ts r a some e f =
      let less : n ≡ suc n - 1 = omega arith in
      ap (items_turn p (take_items p n) ts) e ∙ ap (option_and_then (λ q. parse_map (λ xs. q.0 ∷ xs) (take_items p n q.1))) (sym f) ∙ ap (λ m. parse_map (λ xs. a ∷ xs) (take_items p m r)) less

-- what stops the reading of a part stops that of the whole
pub stopped : {A B C D : Type 0} (f : A → B) (g : C → D) (e : Fault) (r s : List Token) (o : Option (B × List Token)) (q : Option (D × List Token)) → Takes f (Err e) r o → (None ≡ o → None ≡ q) → Takes g (Err e) s q
stopped f g Form r s o q h k = k h
stopped f g OutOfMemory r s o q h k = tt
