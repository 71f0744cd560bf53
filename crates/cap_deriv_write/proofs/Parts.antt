-- Arrays, words and numbers are read from the forms that they are written in alone.
use Rattle.std.proofs.Common.{◌≡◌, ℕ, ◌^◌, true, inl, inr, List, [], ◌∷◌, map, Option, Some, None, option_map, option_and_then, refl, sym, ap, subst, ◌∙◌}
use Rattle.std.specs.Prelude.{nat_lt}
use Rattle.std.specs.List.{AllByRecursion}
use Rattle.std.specs.Str.{bytes_eq}
use Rattle.std.proofs.lemmas.Bool.{lt-ltb, ltb-true}
use Rattle.std.proofs.lemmas.Slice.Eq.{bytes_eq-Decides}
use Rattle.serde_json.specs.Data.{Data, null, boolean, number, string, array, object, Num, unsigned, negative, float, Items, no_items, item}
use Rattle.serde_json.specs.View.{items_of}
use Rattle.serde_json.specs.Find.{as_u64, as_str}
use Rattle.cap_deriv_choices.specs.Reading.{data_items, array_of_json, below_limit, long_of_json, number_of_json, numbers_of_json, each_of_json, head_of_items, head_of_json}
use Rattle.cap_deriv.proofs.Texts.{list_of-items_of}
use Rattle.cap_deriv_write.specs.Bounds.{IsNumber}
use Rattle.cap_deriv_write.specs.Forms.{array_form, list_form, number_form, numbers_form, headed_form}
use Rattle.cap_deriv_write.proofs.Options.{some_same, map_of, then_of, test_of}

items_of-data_items : (is : Items) → items_of (data_items is) ≡ is
items_of-data_items no_items = refl
items_of-data_items (item d is) = ap (item d) (items_of-data_items is)

pub array_sound : (d : Data) (ds : List Data) → array_of_json d ≡ Some ds → d ≡ array_form ds
array_sound null ds e = absurd (cc)
array_sound (boolean b) ds e = absurd (cc)
array_sound (number n) ds e = absurd (cc)
array_sound (string s) ds e = absurd (cc)
array_sound (array is) ds e = ap array (sym (items_of-data_items is) ∙ ap items_of (some_same _ _ e))
array_sound (object ms) ds e = absurd (cc)

array_read : (ds : List Data) → array_of_json (array_form ds) ≡ Some ds
array_read ds = ap Some (list_of-items_of ds)

pub text_sound : (d : Data) (s : List ℕ) → as_str d ≡ Some s → d ≡ string s
text_sound null s e = absurd (cc)
text_sound (boolean b) s e = absurd (cc)
text_sound (number n) s e = absurd (cc)
text_sound (string t) s e = ap string (some_same _ _ e)
text_sound (array is) s e = absurd (cc)
text_sound (object ms) s e = absurd (cc)

unsigned_sound : (n : Num) (k : ℕ) → as_u64 n ≡ Some k → number n ≡ number_form k
unsigned_sound (unsigned n) k e = ap (λ m. number (unsigned m)) (some_same _ _ e)
unsigned_sound (negative z) k e = absurd (cc)
unsigned_sound (float x) k e = absurd (cc)

pub long_sound : (d : Data) (k : ℕ) → long_of_json d ≡ Some k → d ≡ number_form k
long_sound null k e = absurd (cc)
long_sound (boolean b) k e = absurd (cc)
long_sound (number n) k e = unsigned_sound n k e
long_sound (string s) k e = absurd (cc)
long_sound (array is) k e = absurd (cc)
long_sound (object ms) k e = absurd (cc)

below_sound : (n k : ℕ) → below_limit (2 ^ 32) n ≡ Some k → (n ≡ k) × IsNumber k
below_sound n k e = elim (test_of (nat_lt n (2 ^ 32)) (Some n) None k e) [
  | inl p ↦ let same = some_same _ _ p.1 in (same, subst IsNumber same (ltb-true n (2 ^ 32) p.0))
  | inr p ↦ let none = p.1 in absurd (cc)
]

pub number_sound : (d : Data) (k : ℕ) → number_of_json d ≡ Some k → (d ≡ number_form k) × IsNumber k
number_sound d k e =
    let t = then_of (below_limit (2 ^ 32)) (long_of_json d) k e in
    let b = below_sound t.0 k t.2 in
    (long_sound d t.0 t.1 ∙ ap number_form b.0, b.1)

pub number_read : (n : ℕ) → IsNumber n → number_of_json (number_form n) ≡ Some n
number_read n h = rw (lt-ltb n (2 ^ 32) h) refl

head_items_sound : (ds : List Data) (p : List ℕ × List Data) → head_of_items ds ≡ Some p → ds ≡ string p.0 ∷ p.1
head_items_sound [] p e = absurd (cc)
head_items_sound (d ∷ ds) p e =
    let m = map_of (λ s. (s, ds)) (as_str d) p e in
    ap (λ x. x ∷ ds) (text_sound d m.0 m.1) ∙ ap (λ (q : List ℕ × List Data). string q.0 ∷ q.1) m.2

pub head_sound : (d : Data) (p : List ℕ × List Data) → head_of_json d ≡ Some p → d ≡ headed_form p.0 p.1
head_sound d p e =
    let t = then_of head_of_items (array_of_json d) p e in
    array_sound d t.0 t.1 ∙ ap array_form (head_items_sound t.0 p t.2)

pub word_is : (s w : List ℕ) → bytes_eq s w ≡ true → s ≡ w
word_is s w e = (bytes_eq-Decides s w).0 e

-- ---- each of them

each_sound : {A : Type 0} (f : Data → Option A) (g : A → Data) (P : A → Type 0) → ((d : Data) (x : A) → f d ≡ Some x → (d ≡ g x) × P x)
    → (ds : List Data) (xs : List A) → each_of_json f ds ≡ Some xs → (ds ≡ map g xs) × AllByRecursion P xs
each_sound f g P each [] xs e =
    let k = some_same _ _ e in
    (ap (map g) k, subst (AllByRecursion P) k tt)
each_sound f g P each (d ∷ ds) xs e =
    let t = then_of (λ x. option_map (λ ys. x ∷ ys) (each_of_json f ds)) (f d) xs e in
    let m = map_of (λ ys. t.0 ∷ ys) (each_of_json f ds) xs t.2 in
    let h = each d t.0 t.1 in
    let k = each_sound f g P each ds m.0 m.1 in
    (ap (λ x. x ∷ ds) h.0 ∙ ap (λ xs. g t.0 ∷ xs) k.0 ∙ ap (map g) m.2, subst (AllByRecursion P) m.2 (h.1, k.1))

each_read : {A : Type 0} (f : Data → Option A) (g : A → Data) (P : A → Type 0) → ((x : A) → P x → f (g x) ≡ Some x)
    → (xs : List A) → AllByRecursion P xs → each_of_json f (map g xs) ≡ Some xs
each_read f g P each [] h = refl
each_read f g P each (x ∷ xs) h = rw (each x h.0, each_read f g P each xs h.1) refl

pub list_read : {A : Type 0} (f : Data → Option A) (g : A → Data) (P : A → Type 0) → ((x : A) → P x → f (g x) ≡ Some x)
    → (xs : List A) → AllByRecursion P xs → option_and_then (each_of_json f) (array_of_json (list_form g xs)) ≡ Some xs
list_read f g P each xs h = ap (option_and_then (each_of_json f)) (array_read (map g xs)) ∙ each_read f g P each xs h

pub list_sound : {A : Type 0} (f : Data → Option A) (g : A → Data) (P : A → Type 0) → ((d : Data) (x : A) → f d ≡ Some x → (d ≡ g x) × P x)
    → (d : Data) (xs : List A) → option_and_then (each_of_json f) (array_of_json d) ≡ Some xs → (d ≡ list_form g xs) × AllByRecursion P xs
list_sound f g P each d xs e =
    let t = then_of (each_of_json f) (array_of_json d) xs e in
    let k = each_sound f g P each t.0 xs t.2 in
    (array_sound d t.0 t.1 ∙ ap array_form k.0, k.1)

pub numbers_read : (ns : List ℕ) → AllByRecursion IsNumber ns → numbers_of_json (numbers_form ns) ≡ Some ns
numbers_read ns h = list_read number_of_json number_form IsNumber number_read ns h

pub numbers_sound : (d : Data) (ns : List ℕ) → numbers_of_json d ≡ Some ns → (d ≡ numbers_form ns) × AllByRecursion IsNumber ns
numbers_sound = list_sound number_of_json number_form IsNumber number_sound
