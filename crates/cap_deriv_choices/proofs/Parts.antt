-- Certificates, choices and lines are read from tokens as from values.
use Rattle.std.proofs.Common.{◌≡◌, ℕ, suc, ◌==◌, ◌^◌, List, [], ◌∷◌, length, Bool, true, false, cond, Option, Some, None, option_map, option_and_then, refl, sym, ap, ◌∙◌, arith}
use Rattle.std.specs.Prelude.{⊤, bytes_eq, codes}
use Rattle.json.specs.Token.{Token}
use Rattle.json.specs.Json as json
use Rattle.json.specs.Json.{Parse, parse_map, items, members, value}
use Rattle.serde_json.specs.Data.{Num, Data, array, number, Items}
use Rattle.serde_json.specs.Find.{as_u64, as_str, as_array}
use Rattle.serde_json.specs.Read.{number_of, of_items, converted}
use Rattle.cap_farkas.specs.declared.cert.Cert.{Cert}
use Rattle.cap_farkas.specs.declared.cert.Cert.TheVariants.{Leaf, Split}
use Rattle.cap_deriv_choices.specs.Reading.{data_items, below_limit, long_of_json, number_of_json, numbers_of_json, head_of_items, multiplier_text, multiplier_of_json, pair_of_items, pair_of_json, pairs_of_json, leaf_of_items, split_of_items, cert_of_items, cert_of_json, certs_of_json, mark_of_json, marks_of_json}
use Rattle.cap_deriv_choices.specs.Taking.{take_open, take_close, take_long, take_number, take_text, take_numbers, take_multiplier, take_pair, take_pairs, take_leaf, take_split, take_cert_by_word, take_opened_cert, take_cert, take_certs, take_mark, take_marks}
use Rattle.cap_deriv_choices.proofs.ReadAs.{with_rest, data_as, ReadsData, ReadsItems, no_object, long_reads, text_reads, then_reads, never, same_list, mapped, end_reads, item_reads, array_reads, all_read}

-- ---- so many items

abbrev pub of_none : {C : Type 0} → C → List Data → Option C
of_none k [] = Some k
of_none k (x ∷ xs) = None

abbrev pub of_one : {A C : Type 0} → (A → C) → (Data → Option A) → List Data → Option C
of_one k f [] = None
of_one k f (x ∷ xs) = option_and_then (λ a. of_none (k a) xs) (f x)

abbrev pub of_two : {A B C : Type 0} → (A → B → C) → (Data → Option A) → (Data → Option B) → List Data → Option C
of_two k f g [] = None
of_two k f g (x ∷ xs) = option_and_then (λ a. of_one (k a) g xs) (f x)

abbrev pub of_three : {A B C D : Type 0} → (A → B → C → D) → (Data → Option A) → (Data → Option B) → (Data → Option C) → List Data → Option D
of_three k f g h [] = None
of_three k f g h (x ∷ xs) = option_and_then (λ a. of_two (k a) g h xs) (f x)

abbrev pub ended : {C : Type 0} → C → Parse C
ended k ts = option_and_then (λ (e : ⊤ × List Token). Some (k, e.1)) (take_close ts)

abbrev pub one_taken : {A C : Type 0} → (A → C) → Parse A → Parse C
one_taken {A} k p ts = option_and_then (λ (a : A × List Token). ended (k a.0) a.1) (p ts)

abbrev pub two_taken : {A B C : Type 0} → (A → B → C) → Parse A → Parse B → Parse C
two_taken {A} k p q ts = option_and_then (λ (a : A × List Token). one_taken (k a.0) q a.1) (p ts)

abbrev pub three_taken : {A B C D : Type 0} → (A → B → C → D) → Parse A → Parse B → Parse C → Parse D
three_taken {A} k p q r ts = option_and_then (λ (a : A × List Token). two_taken (k a.0) q r a.1) (p ts)

pub none_read : {C : Type 0} (k : C) (d : ℕ) → ReadsItems (of_none k) d (ended k)
none_read k d = end_reads (of_none k) d (λ x xs. refl)

pub one_read : {A C : Type 0} (k : A → C) (f : Data → Option A) (p : Parse A) (d : ℕ) → ReadsData f d p → ReadsItems (of_one k f) d (one_taken k p)
one_read k f p d same = item_reads f (of_one k f) (λ a. of_none (k a)) (λ a. ended (k a)) d (λ x xs. refl) (λ a. none_read (k a) d) refl p same

pub two_read : {A B C : Type 0} (k : A → B → C) (f : Data → Option A) (g : Data → Option B) (p : Parse A) (q : Parse B) (d : ℕ) → ReadsData f d p → ReadsData g d q → ReadsItems (of_two k f g) d (two_taken k p q)
two_read k f g p q d same next = item_reads f (of_two k f g) (λ a. of_one (k a) g) (λ a. one_taken (k a) q) d (λ x xs. refl) (λ a. one_read (k a) g q d next) refl p same

pub three_read : {A B C D : Type 0} (k : A → B → C → D) (f : Data → Option A) (g : Data → Option B) (h : Data → Option C) (p : Parse A) (q : Parse B) (r : Parse C) (d : ℕ) → ReadsData f d p → ReadsData g d q → ReadsData h d r
    → ReadsItems (of_three k f g h) d (three_taken k p q r)
three_read k f g h p q r d same next last = item_reads f (of_three k f g h) (λ a. of_two (k a) g h) (λ a. two_taken (k a) q r) d (λ x xs. refl) (λ a. two_read (k a) g h q r d next last) refl p same

-- what reads the items as f does, reads them as g does where both are the same
pub same_items : {A : Type 0} (f g : List Data → Option A) (d : ℕ) (p : Parse A) → ((xs : List Data) → f xs ≡ g xs) → ReadsItems f d p → ReadsItems g d p
same_items f g d p e reads n ts le = reads n ts le ∙ same_list f g e (items (value d) n ts)

pub map_read : {A B : Type 0} (k : A → B) (f : List Data → Option A) (d : ℕ) (p : Parse A) → ReadsItems f d p → ReadsItems (λ xs. option_map k (f xs)) d (λ ts. parse_map k (p ts))
map_read k f d p reads n ts le = ap (parse_map k) (reads n ts le) ∙ mapped f k (items (value d) n ts)

pub cond_read : {A : Type 0} (t : Bool) (f g : List Data → Option A) (d : ℕ) (p q : Parse A) → ReadsItems f d p → ReadsItems g d q → ReadsItems (λ xs. cond t (f xs) (g xs)) d (λ ts. cond t (p ts) (q ts))
cond_read true f g d p q first second = first
cond_read false f g d p q first second = second

pub refused_read : {A : Type 0} (f : List Data → Option A) (d : ℕ) → ((xs : List Data) → f xs ≡ None) → ReadsItems f d (λ ts. None)
refused_read f d e n ts le = sym (same_list f (λ xs. None) e (items (value d) n ts) ∙ never f (items (value d) n ts))

-- a list is read as one of a certain length where it is so at each length
pub last_map : {A C : Type 0} (k : A → C) (o : Option A) → option_and_then (λ a. Some (k a)) o ≡ option_map k o
last_map k None = refl
last_map k (Some a) = refl

pub nothing : {A C : Type 0} (o : Option A) → option_and_then {T = A} {U = C} (λ a. None) o ≡ None
nothing None = refl
nothing (Some a) = refl

pub under : {A C : Type 0} (f g : A → Option C) → ((a : A) → f a ≡ g a) → (o : Option A) → option_and_then f o ≡ option_and_then g o
under f g e None = refl
under f g e (Some a) = e a

-- F gives nothing for items of any number but one
abbrev pub NoneAt : {C : Type 0} → (List Data → Option C) → Type 0
NoneAt F = (x : Data) (xs : List Data) → F (x ∷ xs) ≡ None

pub is_of_none : {C : Type 0} (F : List Data → Option C) (k : C) → F [] ≡ Some k → NoneAt F → (xs : List Data) → of_none k xs ≡ F xs
is_of_none F k none more [] = sym none
is_of_none F k none more (x ∷ xs) = sym (more x xs)

pub is_of_one : {A C : Type 0} (F : List Data → Option C) (k : A → C) (f : Data → Option A) → F [] ≡ None → ((x : Data) → F (x ∷ []) ≡ option_map k (f x)) → ((x : Data) → NoneAt (λ xs. F (x ∷ xs)))
    → (xs : List Data) → of_one k f xs ≡ F xs
is_of_one F k f none one more [] = sym none
is_of_one F k f none one more (x ∷ []) = last_map k (f x) ∙ sym (one x)
is_of_one F k f none one more (x ∷ y ∷ ys) = nothing (f x) ∙ sym (more x y ys)

pub is_of_two : {A B C : Type 0} (F : List Data → Option C) (k : A → B → C) (f : Data → Option A) (g : Data → Option B) → F [] ≡ None → ((x : Data) → F (x ∷ []) ≡ None)
    → ((x y : Data) → F (x ∷ y ∷ []) ≡ option_and_then (λ a. option_map (k a) (g y)) (f x)) → ((x y : Data) → NoneAt (λ xs. F (x ∷ y ∷ xs))) → (xs : List Data) → of_two k f g xs ≡ F xs
is_of_two F k f g none one two more [] = sym none
is_of_two F k f g none one two more (x ∷ []) = nothing (f x) ∙ sym (one x)
is_of_two F k f g none one two more (x ∷ y ∷ []) = under (λ a. option_and_then (λ b. Some (k a b)) (g y)) (λ a. option_map (k a) (g y)) (λ a. last_map (k a) (g y)) (f x) ∙ sym (two x y)
is_of_two F k f g none one two more (x ∷ y ∷ z ∷ zs) = under (λ a. option_and_then (λ b. None) (g y)) (λ a. None) (λ a. nothing (g y)) (f x) ∙ nothing (f x) ∙ sym (more x y z zs)

pub is_of_three : {A B C D : Type 0} (F : List Data → Option D) (k : A → B → C → D) (f : Data → Option A) (g : Data → Option B) (h : Data → Option C) → F [] ≡ None → ((x : Data) → F (x ∷ []) ≡ None) → ((x y : Data) → F (x ∷ y ∷ []) ≡ None)
    → ((x y z : Data) → F (x ∷ y ∷ z ∷ []) ≡ option_and_then (λ a. option_and_then (λ b. option_map (k a b) (h z)) (g y)) (f x)) → ((x y z : Data) → NoneAt (λ xs. F (x ∷ y ∷ z ∷ xs)))
    → (xs : List Data) → of_three k f g h xs ≡ F xs
is_of_three F k f g h none one two three more [] = sym none
is_of_three F k f g h none one two three more (x ∷ []) = nothing (f x) ∙ sym (one x)
is_of_three F k f g h none one two three more (x ∷ y ∷ []) = under (λ a. option_and_then (λ b. None) (g y)) (λ a. None) (λ a. nothing (g y)) (f x) ∙ nothing (f x) ∙ sym (two x y)
is_of_three F k f g h none one two three more (x ∷ y ∷ z ∷ []) =
    under (λ a. option_and_then (λ b. option_and_then (λ c. Some (k a b c)) (h z)) (g y)) (λ a. option_and_then (λ b. option_map (k a b) (h z)) (g y))
    (λ a. under (λ b. option_and_then (λ c. Some (k a b c)) (h z)) (λ b. option_map (k a b) (h z)) (λ b. last_map (k a b) (h z)) (g y)) (f x) ∙ sym (three x y z)
is_of_three F k f g h none one two three more (x ∷ y ∷ z ∷ w ∷ ws) =
    under (λ a. option_and_then (λ b. option_and_then (λ c. None) (h z)) (g y)) (λ a. None)
    (λ a. under (λ b. option_and_then (λ c. None) (h z)) (λ b. None) (λ b. nothing (h z)) (g y) ∙ nothing (g y)) (f x) ∙ nothing (f x) ∙ sym (more x y z w ws)

-- ---- numbers and certificates

pub number_read : (d : ℕ) → ReadsData number_of_json d take_number
number_read d = then_reads long_of_json (below_limit (2 ^ 32)) d take_long (long_reads d)

multiplier_read : (d : ℕ) → ReadsData multiplier_of_json d take_multiplier
multiplier_read d = then_reads as_str multiplier_text d take_text (text_reads d)

pub numbers_read : (d : ℕ) → ReadsData numbers_of_json (suc d) take_numbers
numbers_read d = all_read number_of_json d take_number (number_read d)

module _ {A : Type 0} (f : List Data → Option A) (p : Parse A) (d : ℕ) (reads : ReadsItems f d p) where
  pub in_array : ReadsData (λ x. option_and_then f (option_map data_items (as_array x))) (suc d) (λ ts. option_and_then (λ (u : ⊤ × List Token). p u.1) (take_open ts))
  in_array = array_reads (λ o. option_and_then f (option_map data_items o)) f (λ ds. refl) d p refl (λ ts. reads (length ts) ts (omega arith))

pair_read : (d : ℕ) → ReadsData pair_of_json (suc d) take_pair
pair_read d =
    in_array pair_of_items (two_taken (λ n z. (n, z)) take_number take_multiplier) d
    (same_items (of_two (λ n z. (n, z)) number_of_json multiplier_of_json) pair_of_items d (two_taken (λ n z. (n, z)) take_number take_multiplier)
    (is_of_two pair_of_items (λ n z. (n, z)) number_of_json multiplier_of_json refl (λ x. refl) (λ x y. refl) (λ x y z zs. refl))
    (two_read (λ n z. (n, z)) number_of_json multiplier_of_json take_number take_multiplier d (number_read d) (multiplier_read d)))

pairs_read : (d : ℕ) → ReadsData pairs_of_json (suc (suc d)) take_pairs
pairs_read d = all_read pair_of_json (suc d) take_pair (pair_read d)

leaf_read : (d : ℕ) → ReadsItems leaf_of_items (suc (suc d)) take_leaf
leaf_read d =
    same_items (of_one Leaf pairs_of_json) leaf_of_items (suc (suc d)) take_leaf
    (is_of_one leaf_of_items Leaf pairs_of_json refl (λ x. refl) (λ x y ys. refl))
    (one_read Leaf pairs_of_json take_pairs (suc (suc d)) (pairs_read d))

split_read : (d : ℕ) → ReadsItems split_of_items (suc (suc d)) take_split
split_read d =
    same_items (of_three Split number_of_json pairs_of_json pairs_of_json) split_of_items (suc (suc d)) take_split
    (is_of_three split_of_items Split number_of_json pairs_of_json pairs_of_json refl (λ x. refl) (λ x y. refl) (λ x y z. refl) (λ x y z w ws. refl))
    (three_read Split number_of_json pairs_of_json pairs_of_json take_number take_pairs take_pairs (suc (suc d)) (number_read (suc (suc d))) (pairs_read d) (pairs_read d))

-- the word that an array begins with, and its arguments
head_step : {B : Type 0} (F : List ℕ → List Data → Option B) (xs : List Data) (o : Option (List ℕ))
    → option_and_then (λ (h : List ℕ × List Data). F h.0 h.1) (option_map (λ s. (s, xs)) o) ≡ option_and_then (λ w. F w xs) o
head_step F xs None = refl
head_step F xs (Some w) = refl

pub head_read : {B : Type 0} (F : List ℕ → List Data → Option B) (t : List ℕ → Parse B) (d : ℕ) → ((w : List ℕ) → ReadsItems (F w) d (t w))
    → ReadsItems (λ xs. option_and_then (λ h. F h.0 h.1) (head_of_items xs)) d (λ ts. option_and_then (λ (w : List ℕ × List Token). t w.0 w.1) (take_text ts))
head_read F t d reads = item_reads as_str (λ xs. option_and_then (λ h. F h.0 h.1) (head_of_items xs)) F t d (λ x xs. head_step F xs (as_str x)) reads refl take_text (text_reads d)

opened_cert_read : (d : ℕ) → ReadsItems (λ xs. option_and_then (λ h. cert_of_items h.0 h.1) (head_of_items xs)) (suc (suc d)) take_opened_cert
opened_cert_read d =
    head_read cert_of_items take_cert_by_word (suc (suc d))
    (λ w. cond_read (bytes_eq w (codes "leaf")) leaf_of_items (λ xs. cond (bytes_eq w (codes "split")) (split_of_items xs) None) (suc (suc d)) take_leaf (λ ts. cond (bytes_eq w (codes "split")) (take_split ts) None) (leaf_read d)
    (cond_read (bytes_eq w (codes "split")) split_of_items (λ xs. None) (suc (suc d)) take_split (λ ts. None) (split_read d) (refused_read (λ xs. None) (suc (suc d)) (λ xs. refl))))

abbrev cert_of_array : Option Items → Option Cert
cert_of_array o = option_and_then (λ h. cert_of_items h.0 h.1) (option_and_then head_of_items (option_map data_items o))

pub cert_read : (d : ℕ) → ReadsData cert_of_json (suc (suc (suc d))) take_cert
cert_read d =
    array_reads cert_of_array (λ xs. option_and_then (λ h. cert_of_items h.0 h.1) (head_of_items xs)) (λ ds. refl) (suc (suc d)) take_opened_cert refl
    (λ ts. opened_cert_read d (length ts) ts (omega arith))

pub certs_read : (d : ℕ) → ReadsData certs_of_json (suc (suc (suc (suc d)))) take_certs
certs_read d = all_read cert_of_json (suc (suc (suc d))) take_cert (cert_read d)

-- ---- marks

zero_at : (r : List Token) (t : Bool) → cond t (Some (None, r)) None ≡ with_rest {A = Option Cert} r (cond t (Some None) None)
zero_at r true = refl
zero_at r false = refl

zero_number : (r : List Token) (o : Option ℕ)
    → option_and_then (λ k. cond (k == 0) (Some (None, r)) None) o ≡ with_rest {A = Option Cert} r (option_and_then (λ k. cond (k == 0) (Some None) None) o)
zero_number r None = refl
zero_number r (Some k) = zero_at r (k == 0)

mark_number : (r : List Token) (o : Option Num)
    → option_and_then (λ k. cond (k == 0) (Some (None, r)) None) (option_and_then as_u64 o) ≡ with_rest {A = Option Cert} r (option_and_then mark_of_json (option_map number o))
mark_number r None = refl
mark_number r (Some n) = zero_number r (as_u64 n)

some_rest : (r : List Token) (o : Option Cert) → parse_map Some (with_rest r o) ≡ with_rest r (option_map Some o)
some_rest r None = refl
some_rest r (Some c) = refl

mark_items : (r : List Token) (o : Option Items) → parse_map Some (with_rest r (option_and_then cert_of_json (option_map array o))) ≡ with_rest r (option_and_then mark_of_json (option_map array o))
mark_items r None = refl
mark_items r (Some ds) = some_rest r (cert_of_json (array ds))

mark_array : (o : Option (json.Items × List Token)) → parse_map Some (converted (data_as cert_of_json) (parse_map json.array o)) ≡ converted (data_as mark_of_json) (parse_map json.array o)
mark_array None = refl
mark_array (Some p) = mark_items p.1 (of_items p.0)

mark_read : (d : ℕ) → ReadsData mark_of_json (suc (suc (suc d))) take_mark
unfolding value
mark_read d [] = refl
mark_read d (Token.begin_object ∷ ts) = no_object mark_of_json (λ ms. refl) (members (value (suc (suc d))) (length ts) ts)
mark_read d (Token.end_object ∷ ts) = refl
mark_read d (Token.begin_array ∷ ts) = ap (parse_map Some) (cert_read d (Token.begin_array ∷ ts)) ∙ mark_array (items (value (suc (suc d))) (length ts) ts)
mark_read d (Token.end_array ∷ ts) = refl
mark_read d (Token.key s ∷ ts) = refl
mark_read d (Token.string s ∷ ts) = refl
mark_read d (Token.number s ∷ ts) = mark_number ts (number_of s)
mark_read d (Token.boolean b ∷ ts) = refl
mark_read d (Token.null ∷ ts) = refl
mark_read d (Token.bad ∷ ts) = refl

pub marks_read : (d : ℕ) → ReadsData marks_of_json (suc (suc (suc (suc d)))) take_marks
marks_read d = all_read mark_of_json (suc (suc (suc d))) take_mark (mark_read d)
