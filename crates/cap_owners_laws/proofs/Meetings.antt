-- What main requires, met by arguments and a heap item by item, is met by just the values that are
-- found on the way.
use Rattle.std.proofs.Common.{◌≡◌, ◌≢◌, ◌⊎◌, inl, inr, ℕ, zero, suc, ◌<◌, ℤ, pos, negsuc, ◌+ℤ◌, ◌*ℤ◌, ◌≤ℤ◌, ◌<ℤ◌, Bool, true, false, List, [], ◌∷◌, ◌++◌, map, length, Option, Some, None, refl, sym, ap, subst, ◌∙◌, arith}
use Rattle.std.specs.Prelude.{◌&&◌, ◌==◌, if◌then◌else◌, is_some, int_lt, slice_get, slice_set, get_or}
use Rattle.std.specs.List.{list_all, AllByRecursion}
use Rattle.std.specs.FinMap.{get, remove}
use Rattle.std.proofs.lemmas.Int.{ints}
use Rattle.std.proofs.lemmas.Bool.Decides.{nat_tests}
use Rattle.std.proofs.lemmas.Option.{slice_get_within, unwrap_or-slice_get}
use Rattle.std.proofs.lemmas.List.{get_or-set_same, get_or-set_other}
use Rattle.cap_numbers.proofs.Order.{mul-lt, mul-le}
use Rattle.cap_rules.specs.cap_goal_spec.cap_lin.Linear.{Linear, same_number, is_zero}
use Rattle.cap_rules.specs.cap_goal_spec.cap_lin.Steps.{Step, value_steps}
use Rattle.cap_rules.specs.cap_goal_spec.cap_lin.Values.{Valuation, denominator, value, amount, parts_value}
use Rattle.cap_rules.specs.cap_goal_spec.cap_lin.Solves.{value_by_sort, Relates}
use Rattle.cap_rules.specs.cap_goal_spec.cap_lin.declared.row.Sort.{Sort}
use Rattle.cap_rules.specs.cap_goal_spec.cap_lin.declared.row.Sort.TheVariants.{Int, Perm}
use Rattle.cap_rules.specs.cap_goal_spec.cap_lin.declared.row.Op.{Op}
use Rattle.cap_rules.specs.cap_goal_spec.cap_lin.declared.row.Op.TheVariants.{Le as AtMost, Lt as Less, Eq as Equal, Ne as Unequal, Gt as Greater, Ge as AtLeast}
use Rattle.cap_rules.specs.cap_goal_spec.cap_prog.declared.assertion.Comp.{Comp}
use Rattle.cap_rules.specs.cap_goal_spec.cap_prog.declared.assertion.Slot.{Slot}
use Rattle.cap_rules.specs.cap_goal_spec.cap_prog.declared.assertion.Slot.TheVariants.{Any, Is}
use Rattle.cap_rules.specs.cap_goal_spec.cap_syntax.declared.place.Place.{Place}
use Rattle.cap_rules.specs.cap_goal_spec.cap_prog.Program.{PlainItem, compare, choose, fact, atom, cell, Items, none, item, PlainProgram}
use Rattle.cap_rules.specs.cap_goal_spec.Terms.{lone_part, lone_variable}
use Rattle.cap_rules.specs.cap_goal_spec.States.{PlainEnv}
use Rattle.cap_rules.specs.cap_goal_spec.Environments.{zero_value, term_of, is_determined, with_name, settled, open_to, read_name, reading}
use Rattle.cap_rules.specs.Making.{opposite}
use Rattle.cap_machine.specs.Machine.{compared}
use Rattle.cap_machine.specs.Results.{are_narrow}
use Rattle.cap_machine_accounts.specs.Parts.{Part, Region}
use Rattle.cap_machine_accounts.specs.Assertions.{NameValue, a_number, a_fraction, SlotIs, Takes, TakesAll}
use Rattle.cap_machine_accounts.specs.Safety.{whole_part}
use Rattle.cap_account_resources.proofs.Order.{met-relates, unmet-relates, not-both, same-int, other-int}
use Rattle.cap_owners_spec.specs.Traced.{Traced, traced, past_width, untold, ◌>>=◌, computed, over, value_at, number_of, valuation, number_in}
use Rattle.cap_owners_spec.specs.Start.{Meeting, known_number, compared_shares, compared_by, known_holds, names_cell, meets_slot, meets_cell, meets_if, meets_item, meets_all}

-- ---- what comes of a part of a step, if anything

abbrev pub On : {A : Type 0} → (A → Type 0) → Traced A → Type 0
On P (traced x) = P x
On P past_width = Unit {0}
On P untold = Unit {0}

pub on-bind :
    {A B : Type 0} (P : A → Type 0) (Q : B → Type 0) (o : Traced A) (f : A → Traced B) → On P o →
    ((x : A) → P x → On Q (f x)) → On Q (o >>= f)
on-bind P Q (traced x) f h k = k x h
on-bind P Q past_width f h k = tt
on-bind P Q untold f h k = tt

on-if :
    {A : Type 0} (P : A → Type 0) (b : Bool) (x y : Traced A) → (b ≡ true → On P x) →
    (b ≡ false → On P y) → On P (if b then x else y)
on-if P true x y f g = f refl
on-if P false x y f g = g refl

on-computed :
    (P : ℤ → Type 0) (z : ℤ) (steps : List Step) → P z → On P (computed z steps)
on-computed P z steps h =
    on-if P (are_narrow steps) (traced z) past_width (λ e. h) (λ e. tt)

pub on-map :
    {A : Type 0} (P Q : A → Type 0) (o : Traced A) → ((x : A) → P x → Q x) → On P o → On Q o
on-map P Q (traced x) f h = f x h
on-map P Q past_width f h = tt
on-map P Q untold f h = tt

both-true : (a b : Bool) → (a && b) ≡ true → (a ≡ true) × (b ≡ true)
both-true true b e = (refl, e)
both-true false b e = absurd (cc)

-- ---- values of terms

abbrev pub Bound : PlainEnv → ℕ → Type 0
Bound env x = is_some (term_of env x) ≡ true

-- the names that have values by now have these
abbrev pub Agrees : Meeting → Valuation → Type 0
Agrees m v = (x : ℕ) → Bound m.env x → v.whole x ≡ number_of (value_at m.fill.names x)

parts-agree :
    (env : PlainEnv) (n k : ℕ → ℤ) → ((x : ℕ) → Bound env x → n x ≡ k x) → (ps : List (ℕ × ℤ)) →
    list_all (λ p. is_some (term_of env p.0)) ps ≡ true → parts_value n ps ≡ parts_value k ps
unfolding parts_value
parts-agree env n k f [] h = refl
parts-agree env n k f (p ∷ ps) h =
    let b =
    both-true (is_some (term_of env p.0)) (list_all (λ q. is_some (term_of env q.0)) ps) h in
    let i = f p.0 b.0 in
    let j = parts-agree env n k f ps b.1 in
    ap (λ z. p.1 *ℤ z +ℤ parts_value n ps) i ∙ ap (λ z. p.1 *ℤ k p.0 +ℤ z) j

value-agrees :
    (m : Meeting) (v : Valuation) → Agrees m v → (t : Linear) → is_determined m.env t ≡ true →
    value v.whole t ≡ value (valuation m.fill.names).whole t
unfolding value
value-agrees m v h t e =
    ap (λ z. t.constant +ℤ z)
    (parts-agree m.env v.whole (valuation m.fill.names).whole h t.parts e)

-- by all values with which the meeting agrees the term has this value
abbrev IsNumber : Meeting → Linear → ℤ → Type 0
IsNumber m t z = (v : Valuation) → Agrees m v → value v.whole t ≡ z

number-is :
    (m : Meeting) (t : Linear) → is_determined m.env t ≡ true →
    On (IsNumber m t) (number_in m.fill.names t)
number-is m t e =
    let h : IsNumber m t (value (valuation m.fill.names).whole t) = λ v k. value-agrees m v k t e in
    on-computed (IsNumber m t) (value (valuation m.fill.names).whole t)
    (value_steps (valuation m.fill.names).whole t.constant t.parts) h

pub known-number : (m : Meeting) (t : Linear) → On (IsNumber m t) (known_number m t)
known-number m t =
    on-if (IsNumber m t) (is_determined m.env t) (number_in m.fill.names t) untold (number-is m t)
    (λ n. tt)

-- ---- comparisons

abbrev Decides : Bool → Type 0 → Type 0
Decides true P = P
Decides false P = ¬ P

relates-decided : (op : Op) (a b : ℤ) → Decides (compared op a b) (Relates op a b)
relates-decided op a b = by_test (compared op a b) refl
  where
    by_test : (t : Bool) → compared op a b ≡ t → Decides t (Relates op a b)
    by_test true e = met-relates op a b e
    by_test false e = λ h. not-both op a b h (unmet-relates op a b e)

below : (v : Valuation) → pos 0 <ℤ denominator v.fraction
below v = omega (arith, ints)

abbrev scaled : ℤ → ℤ → ℤ
scaled d a = d *ℤ a

less-scaled : (d a b : ℤ) → pos 0 <ℤ d → a <ℤ b → scaled d a <ℤ scaled d b
less-scaled d a b p h = mul-lt d a b p h

most-scaled : (d a b : ℤ) → pos 0 <ℤ d → a ≤ℤ b → scaled d a ≤ℤ scaled d b
most-scaled d a b p h = mul-le d a b (let q = p in omega (arith, ints, q)) h

differ-scaled : (d a b : ℤ) → pos 0 <ℤ d → (a <ℤ b) ⊎ (b <ℤ a) → scaled d a ≢ scaled d b
differ-scaled d a b p (inl h) = λ e. (let l = less-scaled d a b p h in omega (arith, ints, l, e))
differ-scaled d a b p (inr h) = λ e. (let l = less-scaled d b a p h in omega (arith, ints, l, e))

apart : (a b : ℤ) → a ≢ b → (a <ℤ b) ⊎ (b <ℤ a)
apart a b ne = by_test (int_lt a b) refl
  where
    by_test : (t : Bool) → int_lt a b ≡ t → (a <ℤ b) ⊎ (b <ℤ a)
    by_test true e = inl (grind (arith, ints))
    by_test false e = inr (let l : b ≤ℤ a = grind (arith, ints) in grind (arith, ints))

relates-scaled :
    (op : Op) (d a b : ℤ) → pos 0 <ℤ d → Relates op a b → Relates op (scaled d a) (scaled d b)
relates-scaled Equal d a b p h = ap (scaled d) h
relates-scaled Unequal d a b p h = differ-scaled d a b p (apart a b h)
relates-scaled Less d a b p h = less-scaled d a b p h
relates-scaled AtMost d a b p h = most-scaled d a b p h
relates-scaled Greater d a b p h = less-scaled d b a p h
relates-scaled AtLeast d a b p h = most-scaled d b a p h

shares-decided :
    (op : Op) (d a b : ℤ) → pos 0 <ℤ d →
    Decides (compared op a b) (Relates op (scaled d a) (scaled d b))
shares-decided op d a b p = by_test (compared op a b) refl
  where
    by_test : (t : Bool) → compared op a b ≡ t → Decides t (Relates op (scaled d a) (scaled d b))
    by_test true e = relates-scaled op d a b p (met-relates op a b e)
    by_test false e =
        λ h. not-both op (scaled d a) (scaled d b) h
        (relates-scaled (opposite op) d a b p (unmet-relates op a b e))

decides-same :
    (t : Bool) (op : Op) (a b c d : ℤ) → a ≡ c → b ≡ d → Decides t (Relates op a b) →
    Decides t (Relates op c d)
decides-same t op a b c d e f h =
    subst (λ z. Decides t (Relates op z d)) e (subst (λ z. Decides t (Relates op a z)) f h)

-- by all values with which the meeting agrees the comparison holds, or by none
abbrev IsDecided : Meeting → Comp → Sort → Bool → Type 0
IsDecided m c s b =
    (v : Valuation) → Agrees m v →
    Decides b (Relates c.op (value_by_sort s v c.left) (value_by_sort s v c.right))

share-amount :
    (v : Valuation) (t : Linear) → t.parts ≡ [] →
    scaled (denominator v.fraction) t.constant ≡ amount v.fraction t
unfolding amount parts_value
share-amount v t e =
    let i : parts_value v.fraction.numerator t.parts ≡ pos 0 =
    ap (parts_value v.fraction.numerator) e in
    omega (arith, ints, i)

shares-by :
    (m : Meeting) (c : Comp) (ls rs : List (ℕ × ℤ)) → c.left.parts ≡ ls → c.right.parts ≡ rs →
    On (IsDecided m c Perm) (compared_shares c ls rs)
shares-by m c [] [] e f =
    λ v h. decides-same (compared c.op c.left.constant c.right.constant) c.op
    (scaled (denominator v.fraction) c.left.constant)
    (scaled (denominator v.fraction) c.right.constant) (amount v.fraction c.left)
    (amount v.fraction c.right) (share-amount v c.left e) (share-amount v c.right f)
    (shares-decided c.op (denominator v.fraction) c.left.constant c.right.constant (below v))
shares-by m c [] (r ∷ rs) e f = tt
shares-by m c (l ∷ ls) rs e f = tt

decided-by : (m : Meeting) (c : Comp) (s : Sort) → On (IsDecided m c s) (compared_by s m c)
decided-by m c Int =
    on-bind (IsNumber m c.left) (IsDecided m c Int) (known_number m c.left)
    (λ l. known_number m c.right >>= λ r. traced (compared c.op l r)) (known-number m c.left)
    (λ l i. on-bind (IsNumber m c.right) (IsDecided m c Int) (known_number m c.right)
    (λ r. traced (compared c.op l r)) (known-number m c.right)
    (λ r j v h. decides-same (compared c.op l r) c.op l r (value v.whole c.left)
    (value v.whole c.right) (sym (i v h)) (sym (j v h)) (relates-decided c.op l r)))
decided-by m c Perm = shares-by m c c.left.parts c.right.parts refl refl

known-holds : (m : Meeting) (c : Comp) → On (IsDecided m c c.sort) (known_holds m c)
known-holds m c = decided-by m c c.sort

-- ---- a meeting and one that follows

abbrev pub is_whole : NameValue → Bool
is_whole (a_number z) = true
is_whole (a_fraction n d) = false

-- a share is over the one denominator
abbrev pub IsOver : NameValue → Type 0
IsOver (a_number z) = Unit {0}
IsOver (a_fraction n d) = suc d ≡ over

abbrev pub Fits : Meeting → Type 0
Fits m = length m.fill.names ≡ length m.env

-- names that have values keep them, and each keeps its sort
pub record Extends (m m' : Meeting) : Type 0 where
  pub bound : (x : ℕ) → Bound m.env x → Bound m'.env x
  pub same : (x : ℕ) → Bound m.env x → value_at m'.fill.names x ≡ value_at m.fill.names x
  pub kinds : map is_whole m'.fill.names ≡ map is_whole m.fill.names
  pub shares : AllByRecursion IsOver m.fill.names → AllByRecursion IsOver m'.fill.names

extends-same : (m : Meeting) → Extends m m
extends-same m =
    record { bound = λ x b. b; same = λ x b. refl; kinds = refl; shares = λ h. h }

extends-both : (m m' m'' : Meeting) → Extends m m' → Extends m' m'' → Extends m m''
extends-both m m' m'' e f = record {
  bound = λ x b. f.bound x (e.bound x b);
  same = λ x b. f.same x (e.bound x b) ∙ e.same x b;
  kinds = f.kinds ∙ e.kinds;
  shares = λ h. f.shares (e.shares h);
}

earlier : (m m' : Meeting) (v : Valuation) → Extends m m' → Agrees m' v → Agrees m v
earlier m m' v e h = λ x b. h x (e.bound x b) ∙ ap number_of (e.same x b)

-- what is taken out of the whole heap leaves just what the meeting leaves, by just those values
-- with which it agrees
pub record Meets (T' : Valuation → Part → Part → Type 0) (m m' : Meeting) : Type 0 where
  pub extends : Extends m m'
  pub fits : Fits m'
  pub sound : (v : Valuation) → Agrees m' v → T' v (whole_part m.heap) (whole_part m'.heap)
  pub unique : (v : Valuation) → Agrees m v → (r : Part) → T' v (whole_part m.heap) r →
      Agrees m' v × (r ≡ whole_part m'.heap)

abbrev pub Result :
    (Valuation → Part → Part → Type 0) → Meeting → Option Meeting → Type 0
Result T' m (Some m') = Meets T' m m'
Result T' m None = (v : Valuation) (r : Part) → Agrees m v → T' v (whole_part m.heap) r → ⊥

result-map :
    (S T' : Valuation → Part → Part → Type 0) (m : Meeting) →
    ((v : Valuation) → Agrees m v → (q r : Part) → S v q r → T' v q r) →
    ((v : Valuation) → Agrees m v → (q r : Part) → T' v q r → S v q r) → (o : Option Meeting) →
    Result S m o → Result T' m o
result-map S T' m f g (Some m') h = record {
  extends = h.extends;
  fits = h.fits;
  sound = λ v k. f v (earlier m m' v h.extends k) _ _ (h.sound v k);
  unique = λ v k r t. h.unique v k r (g v k (whole_part m.heap) r t);
}
result-map S T' m f g None h = λ v r k t. h v r k (g v k (whole_part m.heap) r t)

-- ---- a slot

some-same : {A : Type 0} (x y : A) → Some x ≡ Some y → x ≡ y
some-same x y e = cc

-- the term is this variable alone
record IsLone (t : Linear) (y : ℕ) : Type 0 where
  pub zero_constant : t.constant ≡ pos 0
  pub parts : t.parts ≡ (y, pos 1) ∷ []

lone-part :
    (c : ℤ) (ps : List (ℕ × ℤ)) (y : ℕ) → lone_part c ps ≡ Some y →
    (c ≡ pos 0) × (ps ≡ (y, pos 1) ∷ [])
lone-part c [] y e = absurd (cc)
lone-part c (p ∷ (q ∷ qs)) y e = absurd (cc)
lone-part c (p ∷ []) y e = by_test (is_zero c && same_number p.1 (pos 1)) refl e
  where
    zero-is : (c : ℤ) → is_zero c ≡ true → c ≡ pos 0
    zero-is (pos zero) e = refl
    zero-is (pos (suc n)) e = absurd (cc)
    zero-is (negsuc n) e = absurd (cc)

    by_test :
        (b : Bool) → (is_zero c && same_number p.1 (pos 1)) ≡ b →
        (if b then Some p.0 else None) ≡ Some y →
        (c ≡ pos 0) × ((p ∷ []) ≡ (y, pos 1) ∷ [])
    by_test true f e =
        let b = both-true (is_zero c) (same_number p.1 (pos 1)) f in
        let i = some-same p.0 y e in
        let j = same-int p.1 (pos 1) b.1 in
        (zero-is c b.0, ap (λ x. (x, p.1) ∷ []) i ∙ ap (λ z. (y, z) ∷ []) j)
    by_test false f e = absurd (cc)

lone-is : (t : Linear) (y : ℕ) → lone_variable t ≡ Some y → IsLone t y
lone-is t y e =
    let l = lone-part t.constant t.parts y e in
    record { zero_constant = l.0; parts = l.1 }

lone-value : (n : ℕ → ℤ) (t : Linear) (y : ℕ) → IsLone t y → value n t ≡ n y
unfolding value parts_value
lone-value n t y h =
    let i : parts_value n t.parts ≡ pos 1 *ℤ n y +ℤ pos 0 = ap (parts_value n) h.parts in
    let j = h.zero_constant in
    omega (arith, ints, i, j)

-- a variable alone that isn't determined is not bound
lone-unbound :
    (env : PlainEnv) (t : Linear) (y : ℕ) → IsLone t y → is_determined env t ≡ false →
    Bound env y → ⊥
lone-unbound env t y h e b =
    let i : is_determined env t ≡ (is_some (term_of env y) && true) =
    ap (list_all (λ p. is_some (term_of env p.0))) h.parts in
    let j : (is_some (term_of env y) && true) ≡ true = ap (λ z. z && true) b in
    cc

-- ---- a name gets a value

same-or : (x y : ℕ) → (x ≡ y) ⊎ (x ≢ y)
same-or x y = by_test (x == y) refl
  where
    by_test : (t : Bool) → (x == y) ≡ t → (x ≡ y) ⊎ (x ≢ y)
    by_test true e = inl (grind (arith, nat_tests))
    by_test false e = inr (λ q. (let r = q in grind (arith, nat_tests)))

term-is : (env : PlainEnv) (x : ℕ) → term_of env x ≡ get_or env x None
term-is env x = unwrap_or-slice_get env x None

whole-set :
    (vs : List NameValue) (y : ℕ) (w z : ℤ) → slice_get vs y ≡ Some (a_number w) →
    map is_whole (slice_set vs y (a_number z)) ≡ map is_whole vs
whole-set [] y w z e = refl
whole-set (v ∷ vs) zero w z e =
    ap (λ b. b ∷ map is_whole vs) (sym (ap is_whole (some-same v (a_number w) e)))
whole-set (v ∷ vs) (suc y) w z e = ap (λ bs. is_whole v ∷ bs) (whole-set vs y w z e)

shares-set :
    (vs : List NameValue) (y : ℕ) (z : ℤ) → AllByRecursion IsOver vs →
    AllByRecursion IsOver (slice_set vs y (a_number z))
shares-set [] y z h = h
shares-set (v ∷ vs) zero z h = (tt, h.1)
shares-set (v ∷ vs) (suc y) z h = (h.0, shares-set vs y z h.1)

length-set : {A : Type 0} (xs : List A) (y : ℕ) (x : A) → length (slice_set xs y x) ≡ length xs
length-set [] y x = refl
length-set (z ∷ xs) zero x = refl
length-set (z ∷ xs) (suc y) x = ap suc (length-set xs y x)

-- the meeting with a name that has this value from now on
abbrev naming : Meeting → ℕ → ℤ → Meeting
naming m y z = record m {
  env = with_name m.env y zero_value;
  fill = record m.fill { names = slice_set m.fill.names y (a_number z) };
}

module _ (m : Meeting) (y : ℕ) (w z : ℤ) (fits : Fits m)
    (is : slice_get m.fill.names y ≡ Some (a_number w)) (fresh : Bound m.env y → ⊥) where
  within : y < length m.env
  within = let i = slice_get_within m.fill.names y (a_number w) is in
      let j = fits in omega (arith, i, j)

  value-new : value_at (naming m y z).fill.names y ≡ a_number z
  value-new = let i = slice_get_within m.fill.names y (a_number w) is in
      get_or-set_same m.fill.names y (a_number z) (a_number (pos 0)) i

  value-old :
      (x : ℕ) → x ≢ y → value_at (naming m y z).fill.names x ≡ value_at m.fill.names x
  value-old x ne = get_or-set_other m.fill.names y x (a_number z) (a_number (pos 0)) ne

  term-new : term_of (naming m y z).env y ≡ Some zero_value
  term-new =
      term-is (naming m y z).env y ∙ get_or-set_same m.env y (Some zero_value) None within

  term-old : (x : ℕ) → x ≢ y → term_of (naming m y z).env x ≡ term_of m.env x
  term-old x ne =
      term-is (naming m y z).env x
      ∙ (get_or-set_other m.env y x (Some zero_value) None ne ∙ sym (term-is m.env x))

  bound-is : (x : ℕ) → Bound m.env x → x ≢ y
  bound-is x b = λ e. fresh (subst (Bound m.env) e b)

  naming-extends : Extends m (naming m y z)
  naming-extends = record {
    bound = λ x b. ap is_some (term-old x (bound-is x b)) ∙ b;
    same = λ x b. value-old x (bound-is x b);
    kinds = whole-set m.fill.names y w z is;
    shares = λ h. shares-set m.fill.names y z h;
  }

  naming-fits : Fits (naming m y z)
  naming-fits =
      length-set m.fill.names y (a_number z)
      ∙ (fits ∙ sym (length-set m.env y (Some zero_value)))

  naming-sound : (v : Valuation) → Agrees (naming m y z) v → v.whole y ≡ z
  naming-sound v h = h y (ap is_some term-new) ∙ ap number_of value-new

  naming-unique : (v : Valuation) → Agrees m v → v.whole y ≡ z → Agrees (naming m y z) v
  naming-unique v h e = λ x b. by (same-or x y) b
    where
      by :
          {x : ℕ} → (x ≡ y) ⊎ (x ≢ y) → Bound (naming m y z).env x →
          v.whole x ≡ number_of (value_at (naming m y z).fill.names x)
      by {x} (inl q) b =
          ap v.whole q
          ∙ (e ∙ (sym (ap number_of value-new)
          ∙ ap (λ u. number_of (value_at (naming m y z).fill.names u)) (sym q)))
      by {x} (inr ne) b =
          h x (sym (ap is_some (term-old x ne)) ∙ b) ∙ sym (ap number_of (value-old x ne))

-- ---- a cell

module _ (p : PlainProgram) (place : Place) (a : Linear) (x : Slot) (m : Meeting)
    (fits : Fits m) where
  abbrev Cell : Valuation → Part → Part → Type 0
  Cell v q r = Takes p [] v (cell place a x) q r

  module _ (n z : ℤ) (i : IsNumber m a n) (g : get m.heap n ≡ Some z) (positive : pos 0 <ℤ n) where
    is-content : (v : Valuation) (y : ℤ) → Agrees m v →
        get m.heap (value v.whole a) ≡ Some y → y ≡ z
    is-content v y h e =
        some-same y z (sym e ∙ (ap (get m.heap) (i v h) ∙ g))

    slot-met :
        (m' : Meeting) → m'.heap ≡ remove m.heap n → Extends m m' → Fits m' →
        ((v : Valuation) → Agrees m' v → SlotIs v x z) →
        ((v : Valuation) → Agrees m v → SlotIs v x z → Agrees m' v) → Meets Cell m m'
    slot-met m' same e f sound unique = record {
      extends = e;
      fits = f;
      sound = λ v h.
          (let k = earlier m m' v e h in (
            record {
              number = z;
              positive = subst (λ y. pos 0 <ℤ y) (sym (i v k)) positive;
              is_cell = ap (get m.heap) (i v k) ∙ g;
              content_is = sound v h;
            },
            ap whole_part (same ∙ ap (remove m.heap) (sym (i v k))),
          ));
      unique = λ v h r t. (
        unique v h (subst (SlotIs v x) (is-content v t.0.number h t.0.is_cell) t.0.content_is),
        t.1 ∙ ap whole_part (ap (remove m.heap) (i v h) ∙ sym same),
      );
    }

    slot-refused :
        ((v : Valuation) → Agrees m v → SlotIs v x z → ⊥) → Result Cell m None
    slot-refused f = λ v r h t.
        f v h (subst (SlotIs v x) (is-content v t.0.number h t.0.is_cell) t.0.content_is)

-- ---- a slot

module _ (p : PlainProgram) (place : Place) (a : Linear) (m : Meeting) (fits : Fits m) (n z : ℤ)
    (i : IsNumber m a n) (g : get m.heap n ≡ Some z) (positive : pos 0 <ℤ n) where
  abbrev gone : Meeting
  gone = record m { heap = remove m.heap n }

  abbrev Holding : Slot → Option Meeting → Type 0
  Holding x o = Result (Cell p place a x m fits) m o

  any-met : On (Holding Any) (meets_slot (open_to None) z gone)
  any-met =
      slot-met p place a Any m fits n z i g positive
      (record gone {
        fill = record m.fill { wildcards = m.fill.wildcards ++ a_number z ∷ [] };
      }) refl
      (record { bound = λ x b. b; same = λ x b. refl; kinds = refl; shares = λ h. h }) fits
      (λ v h. tt) (λ v h s. h)

  compared-met :
      (t : Linear) (y : ℤ) → IsNumber m t y → (b : Bool) → same_number y z ≡ b →
      Holding (Is t) (if b then Some gone else None)
  compared-met t y j true e =
      slot-met p place a (Is t) m fits n z i g positive gone refl
      (record { bound = λ x b. b; same = λ x b. refl; kinds = refl; shares = λ h. h }) fits
      (λ v h. j v h ∙ same-int y z e) (λ v h s. h)
  compared-met t y j false e =
      slot-refused p place a (Is t) m fits n z i g positive
      (λ v h s. other-int y z e (sym (j v h) ∙ s))

  settled-met :
      (t : Linear) → is_determined m.env t ≡ true →
      On (Holding (Is t)) (meets_slot (settled t) z gone)
  settled-met t e =
      on-bind (IsNumber m t) (Holding (Is t)) (number_in m.fill.names t)
      (λ y. traced (if same_number y z then Some gone else None)) (number-is m t e)
      (λ y j. compared-met t y j (same_number y z) refl)

  name-met :
      (t : Linear) (y : ℕ) → IsLone t y → (Bound m.env y → ⊥) → (o : Option NameValue) →
      slice_get m.fill.names y ≡ o → On (Holding (Is t)) (names_cell o y z gone)
  name-met t y l fresh None e = tt
  name-met t y l fresh (Some (a_fraction k d)) e = tt
  name-met t y l fresh (Some (a_number w)) e =
      slot-met p place a (Is t) m fits n z i g positive (naming gone y z) refl
      (extends-both m gone (naming gone y z)
      (record { bound = λ x b. b; same = λ x b. refl; kinds = refl; shares = λ h. h })
      (naming-extends gone y w z fits e fresh)) (naming-fits gone y w z fits e fresh)
      (λ v h. lone-value v.whole t y l ∙ naming-sound gone y w z fits e fresh v h)
      (λ v h s. naming-unique gone y w z fits e fresh v h (sym (lone-value v.whole t y l) ∙ s))

  open-met :
      (t : Linear) → is_determined m.env t ≡ false → (o : Option ℕ) → lone_variable t ≡ o →
      On (Holding (Is t)) (meets_slot (read_name o) z gone)
  open-met t e None f = tt
  open-met t e (Some y) f =
      name-met t y (lone-is t y f) (lone-unbound m.env t y (lone-is t y f) e)
      (slice_get m.fill.names y) refl

  is-met :
      (t : Linear) (b : Bool) → is_determined m.env t ≡ b →
      On (Holding (Is t)) (meets_slot (if b then settled t else read_name (lone_variable t)) z gone)
  is-met t true e = settled-met t e
  is-met t false e = open-met t e (lone_variable t) refl

  slots-met : (x : Slot) → On (Holding x) (meets_slot (reading m.env x) z gone)
  slots-met Any = any-met
  slots-met (Is t) = is-met t (is_determined m.env t) refl

-- ---- items

module _ (p : PlainProgram) where
  abbrev ItemTaken : PlainItem → Valuation → Part → Part → Type 0
  ItemTaken i v q r = Takes p [] v i q r

  abbrev AllTaken : Items → Valuation → Part → Part → Type 0
  AllTaken is v q r = TakesAll p [] v is q r

  compare-met :
      (c : Comp) (m : Meeting) → Fits m → (b : Bool) → IsDecided m c c.sort b →
      Result (ItemTaken (compare c)) m (if b then Some m else None)
  compare-met c m f true k = record {
    extends = extends-same m;
    fits = f;
    sound = λ v h. (k v h, refl);
    unique = λ v h r t. (h, t.1);
  }
  compare-met c m f false k = λ v r h t. k v h t.0

  chosen :
      (c : Comp) (a b : Items) (m : Meeting) (t : Bool) → IsDecided m c c.sort t →
      On (Result (AllTaken a) m) (meets_all a m) → On (Result (AllTaken b) m) (meets_all b m) →
      On (Result (ItemTaken (choose c a b)) m) (if t then meets_all a m else meets_all b m)
  chosen c a b m true k x y =
      on-map (Result (AllTaken a) m) (Result (ItemTaken (choose c a b)) m) (meets_all a m)
      (result-map (AllTaken a) (ItemTaken (choose c a b)) m (λ v h q r s. inl (k v h, s))
      (λ v h q r s. elim s [ inl w ↦ w.1 | inr w ↦ absurd (w.0 (k v h)) ])) x
  chosen c a b m false k x y =
      on-map (Result (AllTaken b) m) (Result (ItemTaken (choose c a b)) m) (meets_all b m)
      (result-map (AllTaken b) (ItemTaken (choose c a b)) m (λ v h q r s. inr (k v h, s))
      (λ v h q r s. elim s [ inl w ↦ absurd (k v h w.0) | inr w ↦ w.1 ])) y

  not-below : (n : ℤ) → int_lt (pos 0) n ≡ false → pos 0 <ℤ n → ⊥
  not-below n e h = let l : n ≤ℤ pos 0 = grind (arith, ints) in omega (arith, ints, l, h)

  is-below : (n : ℤ) → int_lt (pos 0) n ≡ true → pos 0 <ℤ n
  is-below n e = grind (arith, ints)

  cell-met :
      (place : Place) (a : Linear) (x : Slot) (m : Meeting) → Fits m → (n : ℤ) → IsNumber m a n →
      (o : Option ℤ) → get m.heap n ≡ o →
      On (Result (ItemTaken (cell place a x)) m)
      (meets_cell n o (λ z. meets_slot (reading m.env x) z (record m { heap = remove m.heap n })))
  cell-met place a x m f n i None g = λ v r h t.
      (let e : get m.heap n ≡ Some t.0.number =
      ap (get m.heap) (sym (i v h)) ∙ t.0.is_cell in
      absurd (none-is t.0.number (sym g ∙ e)))
    where
      none-is : (z : ℤ) → None ≡ Some z → ⊥
      none-is z e = cc
  cell-met place a x m f n i (Some z) g =
      on-if (Result (ItemTaken (cell place a x)) m) (int_lt (pos 0) n)
      (meets_slot (reading m.env x) z (record m { heap = remove m.heap n })) (traced None)
      (λ e. slots-met p place a m f n z i g (is-below n e) x)
      (λ e v r h t. not-below n e (subst (λ y. pos 0 <ℤ y) (i v h) t.0.positive))

  -- one item after another
  both-met :
      (i : PlainItem) (more : Items) (m : Meeting) →
      ((m' : Meeting) → Fits m' → On (Result (AllTaken more) m') (meets_all more m')) →
      (o : Option Meeting) → Result (ItemTaken i) m o →
      On (Result (AllTaken (item i more)) m) (meets_if o (meets_all more))
  both-met i more m k None h = λ v r g t. h v t.0 g t.1
  both-met i more m k (Some m') h =
      on-map (Result (AllTaken more) m') (Result (AllTaken (item i more)) m) (meets_all more m') by
      (k m' h.fits)
    where
      by :
          (o : Option Meeting) → Result (AllTaken more) m' o →
          Result (AllTaken (item i more)) m o
      by None n = λ v r g t.
          (let u = h.unique v g t.0 t.1 in
          n v r u.0 (subst (λ q. TakesAll p [] v more q r) u.1 t.2))
      by (Some m'') n = record {
        extends = extends-both m m' m'' h.extends n.extends;
        fits = n.fits;
        sound = λ v g.
            (whole_part m'.heap, h.sound v (earlier m' m'' v n.extends g), n.sound v g);
        unique = λ v g r t.
            (let u = h.unique v g t.0 t.1 in
            n.unique v u.0 r (subst (λ q. TakesAll p [] v more q r) u.1 t.2));
      }

  mutual
    pub item-met :
        (i : PlainItem) (m : Meeting) → Fits m → On (Result (ItemTaken i) m) (meets_item i m)
    item-met (compare c) m f =
        on-bind (IsDecided m c c.sort) (Result (ItemTaken (compare c)) m) (known_holds m c)
        (λ b. traced (if b then Some m else None)) (known-holds m c) (compare-met c m f)
    item-met (choose c a b) m f =
        on-bind (IsDecided m c c.sort) (Result (ItemTaken (choose c a b)) m) (known_holds m c)
        (λ t. if t then meets_all a m else meets_all b m) (known-holds m c)
        (λ t k. chosen c a b m t k (all-met a m f) (all-met b m f))
    item-met (fact place r k args x) m f = λ v q h t. none-stated t.0.region t.0.is_region
      where
        none-stated : (r : Region) → None ≡ Some r → ⊥
        none-stated r e = cc
    item-met (atom place r k i asked) m f = tt
    item-met (cell place a x) m f =
        on-bind (IsNumber m a) (Result (ItemTaken (cell place a x)) m) (known_number m a)
        (λ n. meets_cell n (get m.heap n)
        (λ z. meets_slot (reading m.env x) z (record m { heap = remove m.heap n })))
        (known-number m a) (λ n i. cell-met place a x m f n i (get m.heap n) refl)

    pub all-met :
        (is : Items) (m : Meeting) → Fits m → On (Result (AllTaken is) m) (meets_all is m)
    all-met none m f = record {
      extends = extends-same m;
      fits = f;
      sound = λ v h. refl;
      unique = λ v h r t. (h, t);
    }
    all-met (item i more) m f =
        on-bind (Result (ItemTaken i) m) (Result (AllTaken (item i more)) m) (meets_item i m)
        (λ o. meets_if o (meets_all more)) (item-met i m f)
        (both-met i more m (all-met more))
