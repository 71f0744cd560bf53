-- What tokens are read as is what the value that they begin with is read as.
use Rattle.std.proofs.Common.{◌≡◌, ℕ, zero, suc, ◌-◌, ◌<◌, ◌≤◌, List, [], ◌∷◌, length, Option, Some, None, option_map, option_and_then, refl, sym, ap, ◌∙◌, arith}
use Rattle.std.specs.Prelude.{⊤}
use Rattle.json.specs.Token.{Token}
use Rattle.json.specs.Json as json
use Rattle.json.specs.Json.{Parse, parse_map, after_end_array, items_step, items, members, value_with, value}
use Rattle.json.proofs.Grammar.{left, value_is, items_end, items_fail, items_more, closed_array, skip_value-shorter}
use Rattle.serde_json.specs.Data.{Num, Data, number, array, object, Items, item, Members, no_members}
use Rattle.serde_json.specs.Find.{as_u64, as_str, as_array}
use Rattle.serde_json.specs.Read.{number_of, of_json, of_items, of_members, converted}
use Rattle.cap_deriv_choices.specs.Reading.{data_items, long_of_json, each_of_json}
use Rattle.cap_deriv_choices.specs.Taking.{take_open, take_close, take_long, take_text, items_turn, take_items, take_array}

abbrev pub with_rest : {A : Type 0} → List Token → Option A → Option (A × List Token)
with_rest r o = option_map (λ b. (b, r)) o

abbrev pub data_as : {A : Type 0} → (Data → Option A) → json.Json → Option A
data_as f j = option_and_then f (of_json j)

-- what f makes of the next value, nested no deeper than the number
abbrev pub read_as : {A : Type 0} → (Data → Option A) → ℕ → Parse A
read_as f d ts = converted (data_as f) (value d ts)

abbrev pub ReadsData : {A : Type 0} → (Data → Option A) → ℕ → Parse A → Type 0
ReadsData f d p = (ts : List Token) → p ts ≡ read_as f d ts

abbrev pub listed : {A : Type 0} → (List Data → Option A) → json.Items → Option A
listed f js = option_and_then (λ ds. f (data_items ds)) (of_items js)

-- what f makes of the items of an array that is open
abbrev pub list_as : {A : Type 0} → (List Data → Option A) → ℕ → ℕ → Parse A
list_as f d n ts = converted (listed f) (items (value d) n ts)

abbrev pub ReadsItems : {A : Type 0} → (List Data → Option A) → ℕ → Parse A → Type 0
ReadsItems f d p = (n : ℕ) (ts : List Token) → length ts ≤ n → p ts ≡ list_as f d n ts

-- ---- one value

module _ {A : Type 0} (h : Data → Option A) where
  no_array_at : ((ds : Items) → h (array ds) ≡ None) → (r : List Token) (o : Option Items) → with_rest r (option_and_then h (option_map array o)) ≡ None
  no_array_at none r None = refl
  no_array_at none r (Some ds) = ap (with_rest r) (none ds)

  no_array : ((ds : Items) → h (array ds) ≡ None) → (o : Option (json.Items × List Token)) → None ≡ converted (data_as h) (parse_map json.array o)
  no_array none None = refl
  no_array none (Some p) = sym (no_array_at none p.1 (of_items p.0))

  no_object_at : ((ms : Members) → h (object ms) ≡ None) → (r : List Token) (o : Option Members) → with_rest r (option_and_then h (option_map object o)) ≡ None
  no_object_at none r None = refl
  no_object_at none r (Some ms) = ap (with_rest r) (none ms)

  pub no_object : ((ms : Members) → h (object ms) ≡ None) → (o : Option (json.Members × List Token)) → None ≡ converted (data_as h) (parse_map json.object o)
  no_object none None = refl
  no_object none (Some p) = sym (no_object_at none p.1 (of_members p.0 no_members))

  no_number : ((n : Num) → h (number n) ≡ None) → (r : List Token) (o : Option Num) → None ≡ with_rest r (option_and_then h (option_map number o))
  no_number none r None = refl
  no_number none r (Some n) = sym (ap (with_rest r) (none n))

long_number : (r : List Token) (o : Option Num) → with_rest r (option_and_then as_u64 o) ≡ with_rest r (option_and_then long_of_json (option_map number o))
long_number r None = refl
long_number r (Some n) = refl

long_at : (a : Parse json.Items) (o : Parse json.Members) (ts : List Token) → take_long ts ≡ converted (data_as long_of_json) (value_with a o ts)
long_at a o [] = refl
long_at a o (Token.begin_object ∷ ts) = no_object long_of_json (λ ms. refl) (o ts)
long_at a o (Token.end_object ∷ ts) = refl
long_at a o (Token.begin_array ∷ ts) = no_array long_of_json (λ ds. refl) (a ts)
long_at a o (Token.end_array ∷ ts) = refl
long_at a o (Token.key s ∷ ts) = refl
long_at a o (Token.string s ∷ ts) = refl
long_at a o (Token.number s ∷ ts) = long_number ts (number_of s)
long_at a o (Token.boolean b ∷ ts) = refl
long_at a o (Token.null ∷ ts) = refl
long_at a o (Token.bad ∷ ts) = refl

pub long_reads : (d : ℕ) → ReadsData long_of_json d take_long
unfolding value
long_reads zero ts = long_at (λ ts. None) (λ ts. None) ts
long_reads (suc d) ts = long_at (λ ts. items (value d) (length ts) ts) (λ ts. members (value d) (length ts) ts) ts

text_at : (a : Parse json.Items) (o : Parse json.Members) (ts : List Token) → take_text ts ≡ converted (data_as as_str) (value_with a o ts)
text_at a o [] = refl
text_at a o (Token.begin_object ∷ ts) = no_object as_str (λ ms. refl) (o ts)
text_at a o (Token.end_object ∷ ts) = refl
text_at a o (Token.begin_array ∷ ts) = no_array as_str (λ ds. refl) (a ts)
text_at a o (Token.end_array ∷ ts) = refl
text_at a o (Token.key s ∷ ts) = refl
text_at a o (Token.string s ∷ ts) = refl
text_at a o (Token.number s ∷ ts) = no_number as_str (λ n. refl) ts (number_of s)
text_at a o (Token.boolean b ∷ ts) = refl
text_at a o (Token.null ∷ ts) = refl
text_at a o (Token.bad ∷ ts) = refl

pub text_reads : (d : ℕ) → ReadsData as_str d take_text
unfolding value
text_reads zero ts = text_at (λ ts. None) (λ ts. None) ts
text_reads (suc d) ts = text_at (λ ts. items (value d) (length ts) ts) (λ ts. members (value d) (length ts) ts) ts

module _ {A B : Type 0} (h : Data → Option A) (k : A → Option B) where
  abbrev pub and_then_as : Parse A → Parse B
  and_then_as p ts = option_and_then (λ (a : A × List Token). with_rest a.1 (k a.0)) (p ts)

  then_found : (r : List Token) (o : Option A) → option_and_then (λ (a : A × List Token). with_rest a.1 (k a.0)) (with_rest r o) ≡ with_rest r (option_and_then k o)
  then_found r None = refl
  then_found r (Some a) = refl

  then_data : (r : List Token) (x : Option Data) → option_and_then (λ (a : A × List Token). with_rest a.1 (k a.0)) (with_rest r (option_and_then h x)) ≡ with_rest r (option_and_then (λ y. option_and_then k (h y)) x)
  then_data r None = refl
  then_data r (Some x) = then_found r (h x)

  then_at : (o : Option (json.Json × List Token)) → option_and_then (λ (a : A × List Token). with_rest a.1 (k a.0)) (converted (data_as h) o) ≡ converted (data_as (λ y. option_and_then k (h y))) o
  then_at None = refl
  then_at (Some p) = then_data p.1 (of_json p.0)

  pub then_reads : (d : ℕ) (p : Parse A) → ReadsData h d p → ReadsData (λ y. option_and_then k (h y)) d (λ ts. option_and_then (λ (a : A × List Token). with_rest a.1 (k a.0)) (p ts))
  then_reads d p same ts = ap (option_and_then (λ (a : A × List Token). with_rest a.1 (k a.0))) (same ts) ∙ then_at (value d ts)

-- ---- an array's items

module _ {A : Type 0} (f : List Data → Option A) where
  none_listed : (r : List Token) (o : Option Items) → with_rest {A = A} r (option_and_then (λ ds. None) o) ≡ None
  none_listed r None = refl
  none_listed r (Some ds) = refl

  pub never : (o : Option (json.Items × List Token)) → converted {B = A} (listed (λ xs. None)) o ≡ None
  never None = refl
  never (Some p) = none_listed p.1 (of_items p.0)

  same_listed : (g : List Data → Option A) → ((xs : List Data) → f xs ≡ g xs) → (r : List Token) (o : Option Items)
      → with_rest r (option_and_then (λ ds. f (data_items ds)) o) ≡ with_rest r (option_and_then (λ ds. g (data_items ds)) o)
  same_listed g e r None = refl
  same_listed g e r (Some ds) = ap (with_rest r) (e (data_items ds))

  pub same_list : (g : List Data → Option A) → ((xs : List Data) → f xs ≡ g xs) → (o : Option (json.Items × List Token)) → converted (listed f) o ≡ converted (listed g) o
  same_list g e None = refl
  same_list g e (Some p) = same_listed g e p.1 (of_items p.0)

  abbrev headed : Option Data → Option (json.Items × List Token) → Option (A × List Token)
  headed None o = None
  headed (Some x) o = converted (listed (λ xs. f (x ∷ xs))) o

  one_listed : (x : Data) (r : List Token) (o : Option Items)
      → with_rest r (option_and_then (λ ds. f (data_items ds)) (option_map (item x) o)) ≡ with_rest r (option_and_then (λ ds. f (x ∷ data_items ds)) o)
  one_listed x r None = refl
  one_listed x r (Some ds) = refl

  abbrev behind_item : json.Items → Option Data → Option A
  behind_item js o = option_and_then (λ ds. f (data_items ds)) (option_and_then (λ d. option_map (item d) (of_items js)) o)

  with_data : (j : json.Json) (o : Option (json.Items × List Token)) (x : Option Data) → of_json j ≡ x → converted (listed f) (parse_map (json.item j) o) ≡ headed x o
  with_data j None None e = refl
  with_data j None (Some x) e = refl
  with_data j (Some p) None e = ap (λ y. with_rest p.1 (behind_item p.0 y)) e
  with_data j (Some p) (Some x) e = ap (λ y. with_rest p.1 (behind_item p.0 y)) e ∙ one_listed x p.1 (of_items p.0)

  with_item : (j : json.Json) (o : Option (json.Items × List Token)) → converted (listed f) (parse_map (json.item j) o) ≡ headed (of_json j) o
  with_item j o = with_data j o (of_json j) refl

  mapped_listed : {B : Type 0} (k : A → B) (r : List Token) (o : Option A) → parse_map k (with_rest r o) ≡ with_rest r (option_map k o)
  mapped_listed k r None = refl
  mapped_listed k r (Some a) = refl

  mapped_at : {B : Type 0} (k : A → B) (r : List Token) (o : Option Items)
      → parse_map k (with_rest r (option_and_then (λ ds. f (data_items ds)) o)) ≡ with_rest r (option_and_then (λ ds. option_map k (f (data_items ds))) o)
  mapped_at k r None = refl
  mapped_at k r (Some ds) = mapped_listed k r (f (data_items ds))

  pub mapped : {B : Type 0} (k : A → B) (o : Option (json.Items × List Token)) → parse_map k (converted (listed f) o) ≡ converted (listed (λ xs. option_map k (f xs))) o
  mapped k None = refl
  mapped k (Some p) = mapped_at k p.1 (of_items p.0)

  -- no item is left
  over_at : (d n : ℕ) (ts : List Token) → ((x : Data) (xs : List Data) → f (x ∷ xs) ≡ None) → length ts ≤ n → (v : Option (json.Json × List Token)) → value d ts ≡ v → after_end_array ts ≡ None → list_as f d n ts ≡ None
  over_at d n ts more le None w e = ap (converted (listed f)) (items_fail (value d) n ts e w)
  over_at d n ts more le (Some q) w e =
      let less : length q.1 < length ts = skip_value-shorter d ts q.1 (ap left w) in
      let turn = items_more (value d) n ts q.1 q.0 (omega arith) e w in
      ap (converted (listed f)) turn ∙ with_item q.0 (items (value d) (n - 1) q.1) ∙ no_more (of_json q.0) (items (value d) (n - 1) q.1)
    where
      no_more : (x : Option Data) (o : Option (json.Items × List Token)) → headed x o ≡ None
      no_more None o = refl
      no_more (Some x) o = same_list_none x o
        where
          same_list_none : (x : Data) (o : Option (json.Items × List Token)) → converted (listed (λ xs. f (x ∷ xs))) o ≡ None
          same_list_none x None = refl
          same_list_none x (Some p) = at (of_items p.0)
            where
              at : (y : Option Items) → with_rest p.1 (option_and_then (λ ds. f (x ∷ data_items ds)) y) ≡ None
              at None = refl
              at (Some ds) = ap (with_rest p.1) (more x (data_items ds))

  end_at : (d n : ℕ) (ts : List Token) → ((x : Data) (xs : List Data) → f (x ∷ xs) ≡ None) → length ts ≤ n → (o : Option (List Token)) → after_end_array ts ≡ o
      → option_and_then (λ (e : ⊤ × List Token). with_rest e.1 (f [])) (option_map (λ r. (tt, r)) o) ≡ list_as f d n ts
  end_at d n ts more le (Some r) e = sym (ap (converted (listed f)) (items_end (value d) n ts r le e))
  end_at d n ts more le None e = sym (over_at d n ts more le (value d ts) refl e)

  pub end_reads : (d : ℕ) → ((x : Data) (xs : List Data) → f (x ∷ xs) ≡ None) → ReadsItems f d (λ ts. option_and_then (λ (e : ⊤ × List Token). with_rest e.1 (f [])) (take_close ts))
  end_reads d more n ts le = end_at d n ts more le (after_end_array ts) refl

-- an item, and those behind it
module _ {A B : Type 0} (h : Data → Option A) (f : List Data → Option B) (g : A → List Data → Option B) (t : A → Parse B) (d : ℕ)
    (step : (x : Data) (xs : List Data) → f (x ∷ xs) ≡ option_and_then (λ a. g a xs) (h x)) (more : (a : A) → ReadsItems (g a) d (t a)) where
  abbrev behind : Option (A × List Token) → Option (B × List Token)
  behind o = option_and_then (λ (a : A × List Token). t a.0 a.1) o

  arg_found : (m : ℕ) (r : List Token) → length r ≤ m → (y : Option A) → behind (with_rest r y) ≡ converted (listed (λ xs. option_and_then (λ a. g a xs) y)) (items (value d) m r)
  arg_found m r le None = sym (never f (items (value d) m r))
  arg_found m r le (Some a) = more a m r le

  arg_data : (m : ℕ) (r : List Token) → length r ≤ m → (x : Option Data) → behind (with_rest r (option_and_then h x)) ≡ headed f x (items (value d) m r)
  arg_data m r le None = refl
  arg_data m r le (Some x) =
      arg_found m r le (h x)
      ∙ sym (same_list (λ xs. f (x ∷ xs)) (λ xs. option_and_then (λ a. g a xs) (h x)) (step x) (items (value d) m r))

  arg_value : (n : ℕ) (ts : List Token) → length ts ≤ n → after_end_array ts ≡ None → (v : Option (json.Json × List Token)) → value d ts ≡ v → behind (converted (data_as h) (value d ts)) ≡ list_as f d n ts
  arg_value n ts le e None w = ap (λ v. behind (converted (data_as h) v)) w ∙ sym (ap (converted (listed f)) (items_fail (value d) n ts e w))
  arg_value n ts le e (Some q) w =
      let less : length q.1 < length ts = skip_value-shorter d ts q.1 (ap left w) in
      let turn = ap (converted (listed f)) (items_more (value d) n ts q.1 q.0 (omega arith) e w) ∙ with_item f q.0 (items (value d) (n - 1) q.1) in
      ap (λ v. behind (converted (data_as h) v)) w ∙ arg_data (n - 1) q.1 (omega arith) (of_json q.0) ∙ sym turn

  -- where the array doesn't end
  pub first_reads : (s : Parse A) → ReadsData h d s → (n : ℕ) (ts : List Token) → length ts ≤ n → after_end_array ts ≡ None → behind (s ts) ≡ list_as f d n ts
  first_reads s same n ts le e = ap behind (same ts) ∙ arg_value n ts le e (value d ts) refl

  arg_at : f [] ≡ None → (n : ℕ) (ts : List Token) → length ts ≤ n → (o : Option (List Token)) → after_end_array ts ≡ o → behind (read_as h d ts) ≡ list_as f d n ts
  arg_at none n ts le (Some r) e =
      let stop : value d ts ≡ None = ap (value d) (closed_array ts r e) ∙ value_is d (Token.end_array ∷ r) in
      let over : list_as f d n ts ≡ None = ap (converted (listed f)) (items_end (value d) n ts r le e) ∙ ap (with_rest r) none in
      ap (λ v. behind (converted (data_as h) v)) stop ∙ sym over
  arg_at none n ts le None e = arg_value n ts le e (value d ts) refl

  pub item_reads : f [] ≡ None → (s : Parse A) → ReadsData h d s → ReadsItems f d (λ ts. option_and_then (λ (a : A × List Token). t a.0 a.1) (s ts))
  item_reads none s same n ts le = ap behind (same ts) ∙ arg_at none n ts le (after_end_array ts) refl

-- ---- a whole array

module _ {A : Type 0} (K : Option Items → Option A) (f : List Data → Option A) (some : (ds : Items) → K (Some ds) ≡ f (data_items ds)) where
  array_in : (r : List Token) (o : Option Items) → with_rest r (option_and_then (λ ds. f (data_items ds)) o) ≡ with_rest r (option_and_then (λ x. K (as_array x)) (option_map array o))
  array_in r None = refl
  array_in r (Some ds) = ap (with_rest r) (sym (some ds))

  pub array_at : (o : Option (json.Items × List Token)) → converted (listed f) o ≡ converted (data_as (λ x. K (as_array x))) (parse_map json.array o)
  array_at None = refl
  array_at (Some p) = array_in p.1 (of_items p.0)

  pub array_reads : (d : ℕ) (p : Parse A) → K None ≡ None → ((ts : List Token) → p ts ≡ list_as f d (length ts) ts) → ReadsData (λ x. K (as_array x)) (suc d) (λ ts. option_and_then (λ (u : ⊤ × List Token). p u.1) (take_open ts))
  unfolding value
  array_reads d p none same [] = refl
  array_reads d p none same (Token.begin_object ∷ ts) = no_object (λ x. K (as_array x)) (λ ms. none) (members (value d) (length ts) ts)
  array_reads d p none same (Token.end_object ∷ ts) = refl
  array_reads d p none same (Token.begin_array ∷ ts) = same ts ∙ array_at (items (value d) (length ts) ts)
  array_reads d p none same (Token.end_array ∷ ts) = refl
  array_reads d p none same (Token.key s ∷ ts) = refl
  array_reads d p none same (Token.string s ∷ ts) = sym (ap (with_rest ts) none)
  array_reads d p none same (Token.number s ∷ ts) = no_number (λ x. K (as_array x)) (λ n. none) ts (number_of s)
  array_reads d p none same (Token.boolean b ∷ ts) = sym (ap (with_rest ts) none)
  array_reads d p none same (Token.null ∷ ts) = sym (ap (with_rest ts) none)
  array_reads d p none same (Token.bad ∷ ts) = refl

-- ---- an array of any length

module _ {A : Type 0} (f : Data → Option A) (d : ℕ) (p : Parse A) (same : ReadsData f d p) where
  abbrev in_front : ℕ → Option (A × List Token) → Option (List A × List Token)
  in_front n o = option_and_then (λ (q : A × List Token). parse_map (λ xs. q.0 ∷ xs) (take_items p n q.1)) o

  module _ (n : ℕ) (again : (r : List Token) → take_items p n r ≡ list_as (each_of_json f) d n r) where
    each_found : (r : List Token) (y : Option A) → in_front n (with_rest r y) ≡ converted (listed (λ xs. option_and_then (λ a. option_map (λ bs. a ∷ bs) (each_of_json f xs)) y)) (items (value d) n r)
    each_found r None = sym (never (each_of_json f) (items (value d) n r))
    each_found r (Some a) = ap (parse_map (λ xs. a ∷ xs)) (again r) ∙ mapped (each_of_json f) (λ xs. a ∷ xs) (items (value d) n r)

    each_data : (r : List Token) (x : Option Data) → in_front n (with_rest r (option_and_then f x)) ≡ headed (each_of_json f) x (items (value d) n r)
    each_data r None = refl
    each_data r (Some x) = each_found r (f x)

    each_value : (v : Option (json.Json × List Token))
        → in_front n (converted (data_as f) v) ≡ converted (listed (each_of_json f)) (option_and_then (λ q. parse_map (json.item q.0) (items (value d) n q.1)) v)
    each_value None = refl
    each_value (Some q) = each_data q.1 (of_json q.0) ∙ sym (with_item (each_of_json f) q.0 (items (value d) n q.1))

    each_at : (ts : List Token) (o : Option (List Token)) → items_turn p (take_items p n) ts o ≡ converted (listed (each_of_json f)) (items_step (value d) (items (value d) n) ts o)
    each_at ts (Some r) = refl
    each_at ts None = ap (in_front n) (same ts) ∙ each_value (value d ts)

  pub each_reads : (n : ℕ) (ts : List Token) → take_items p n ts ≡ list_as (each_of_json f) d n ts
  unfolding take_items items
  each_reads zero ts = refl
  each_reads (suc n) ts = each_at n (each_reads n) ts (after_end_array ts)

  pub all_read : ReadsData (λ x. option_and_then (each_of_json f) (option_map data_items (as_array x))) (suc d) (take_array p)
  all_read = array_reads (λ o. option_and_then (each_of_json f) (option_map data_items o)) (each_of_json f) (λ ds. refl) d (λ ts. take_items p (length ts) ts) refl (λ ts. each_reads (length ts) ts)
