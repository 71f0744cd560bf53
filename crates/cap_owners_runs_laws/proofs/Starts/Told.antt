-- Of each start it is told whether main's precondition is met.
use Rattle.std.proofs.Common.{◌≡◌, ◌≢◌, ◌⊎◌, inl, inr, ℕ, zero, suc, ◌+◌, ◌<◌, ℤ, pos, ◌&&◌, Bool, true, false, if◌then◌else◌, List, [], ◌∷◌, ◌++◌, map, length, replicate, arith, Option, Some, None, refl, sym, ap, ◌∙◌, subst}
use Rattle.std.specs.Prelude.{slice_get, slice_set, int_lt, is_some, unwrap_or}
use Rattle.std.specs.List.{AllByRecursion, list_all, range_with_len}
use Rattle.std.specs.FinMap.{get, remove}
use Rattle.std.proofs.lemmas.Bool.{cases_eq}
use Rattle.cap_lin.specs.Linear.{Linear, is_zero, same_number}
use Rattle.cap_lin.specs.Values.{value}
use Rattle.cap_lin.specs.Steps.{value_steps}
use Rattle.cap_lin.specs.declared.row.Sort.{Sort}
use Rattle.cap_lin.specs.declared.row.Sort.TheVariants.{Int, Perm}
use Rattle.cap_prog.specs.declared.assertion.Comp.{Comp}
use Rattle.cap_prog.specs.declared.assertion.Slot.{Slot}
use Rattle.cap_prog.specs.declared.assertion.Slot.TheVariants.{Any, Is}
use Rattle.cap_prog.specs.Program.{compare, choose, fact, atom, cell, Items, none, item, Block, PlainFunction, PlainProgram}
use Rattle.cap_prog.specs.Parts.{all_items}
use Rattle.cap_prog.specs.Scopes.{Scope, hidden, known as scope_known, requires_scope, HasSort, TermFits, SlotFits}
use Rattle.cap_prog.specs.WellFormed.{ItemFits}
use Rattle.cap_goal_spec.specs.Terms.{lone_part, lone_variable}
use Rattle.cap_goal_spec.specs.States.{PlainState, Home, to_run, to_give, PlainGoal, goal, goal_of}
use Rattle.cap_goal_spec.specs.Roots.{function_unit, at_entry, home_of, root_env, root_state, optional_roots}
use Rattle.cap_rules.specs.Valid.{Valid}
use Rattle.cap_machine.specs.declared.event.Event.{Event}
use Rattle.cap_goal_spec.specs.Choices.{PlainTree}
use Rattle.cap_goal_spec.specs.Environments.{zero_value, term_of, is_determined, with_name, settled, open_to, read_name, reading, unbound}
use Rattle.cap_machine.specs.Machine.{Heap}
use Rattle.cap_machine.specs.Results.{are_narrow}
use Rattle.cap_machine_accounts.specs.Assertions.{NameValue, a_number}
use Rattle.cap_account_resources.proofs.Lists.{some-same, none-some, within, there-is, get-first, get-set-same, get-set-other, set-length, map-length}
use Rattle.cap_account_states.proofs.Naming.{term-same, term-other}
use Rattle.cap_account_states.proofs.Roots.{function-fits}
use Rattle.cap_account_states.proofs.Scopes.{length-join, rep-length, rep-in, requires-early, scope-length}
use Rattle.cap_outline_laws.specs.Laws.{OneIs}
use Rattle.cap_owners_spec.specs.Traced.{Traced, traced, past_width, untold, ◌>>=◌, found, valuation, number_in}
use Rattle.cap_owners_spec.specs.Track.{Fill, Place}
use Rattle.cap_owners_spec.specs.Steps.{root_at, requires_root, body_root, begins_at, fixed_values}
use Rattle.cap_owners_spec.specs.Start.{Meeting, known_number, compared_shares, compared_by, known_holds, names_cell, meets_slot, meets_cell, meets_if, meets_item, meets_all, unset, first_meeting, track_by}
use Rattle.cap_owners_laws.specs.Owned.{IsTold, AreKnown, names_of, IsPlainSlot, AsksForCells, proved, StartsAreTold}
use Rattle.cap_owners_walks_laws.proofs.Walks.Rooted.{get-behind, function-rooted}

-- ---- what is told

told-then :
    {A B : Type 0} (P : A → Type 0) (Q : B → Type 0) (o : Traced A) (f : A → Traced B) →
    IsTold P o → ((x : A) → P x → IsTold Q (f x)) → IsTold Q (o >>= f)
told-then P Q (traced x) f h k = k x h
told-then P Q past_width f h k = tt
told-then P Q untold f h k = h

number-told : (vs : List NameValue) (t : Linear) → IsTold (λ z. Unit {0}) (number_in vs t)
number-told vs t = by (are_narrow (value_steps (valuation vs).whole t.constant t.parts))
  where
    by :
        (b : Bool) →
        IsTold (λ (z : ℤ). Unit {0})
        (if b then traced (value (valuation vs).whole t) else past_width)
    by true = tt
    by false = tt

-- ---- one of a list

one-split :
    {A : Type 0} (P : A → Type 0) (xs ys : List A) → OneIs P (xs ++ ys) → OneIs P xs ⊎ OneIs P ys
one-split P [] ys h = inr h
one-split P (x ∷ xs) ys (inl h) = inl (inl h)
one-split P (x ∷ xs) ys (inr h) = elim (one-split P xs ys h) [ inl k ↦ inl (inr k) | inr k ↦ inr k ]

-- ---- names that are known

abbrev IsAmong : List ℕ → ℕ → Type 0
IsAmong known x = OneIs (λ y. y ≡ x) known

-- they are bound, and of whole numbers; each name has room, and a number if it is of a whole one
record Known (sc : Scope) (known : List ℕ) (m : Meeting) : Type 0 where
  bound : (x : ℕ) → IsAmong known x → is_some (term_of m.env x) ≡ true
  whole : (x : ℕ) → IsAmong known x → HasSort sc Int x
  room : (x : ℕ) (o : Sort) → HasSort sc o x → x < length m.env
  numbers : (x : ℕ) → HasSort sc Int x → (y : ℤ) × (slice_get m.fill.names x ≡ Some (a_number y))

abbrev KnownIf : Scope → List ℕ → Option Meeting → Type 0
KnownIf sc known None = Unit {0}
KnownIf sc known (Some m) = Known sc known m

both-true : (a b : Bool) → a ≡ true → b ≡ true → a && b ≡ true
both-true true b h k = k
both-true false b h k = h

first-true : (a b : Bool) → a && b ≡ true → a ≡ true
first-true true b h = refl
first-true false b h = h

second-true : (a b : Bool) → a && b ≡ true → b ≡ true
second-true true b h = h
second-true false b h = absurd (cc)

module _ (sc : Scope) (known : List ℕ) (m : Meeting) (k : Known sc known m) where
  all-bound :
      (ps : List (ℕ × ℤ)) → AllByRecursion (λ q. IsAmong known q.0) ps →
      list_all (λ p. is_some (term_of m.env p.0)) ps ≡ true
  all-bound [] h = refl
  all-bound (q ∷ ps) h =
      both-true (is_some (term_of m.env q.0)) (list_all (λ p. is_some (term_of m.env p.0)) ps)
      (k.bound q.0 h.0) (all-bound ps h.1)

  determined : (t : Linear) → AreKnown known t → is_determined m.env t ≡ true
  determined t h = all-bound t.parts h

  known-told : (t : Linear) → AreKnown known t → IsTold (λ z. Unit {0}) (known_number m t)
  known-told t h = rw (determined t h) (number-told m.fill.names t)

  -- no share is among them
  none-share :
      (ps : List (ℕ × ℤ)) → AllByRecursion (λ q. IsAmong known q.0) ps →
      AllByRecursion (λ q. HasSort sc Perm q.0) ps → ps ≡ []
  none-share [] h f = refl
  none-share (q ∷ ps) h f =
      absurd (let w = k.whole q.0 h.0 in unlike (sym w ∙ f.0))
    where
      unlike : Some (Some Int) ≡ Some (Some Perm) → ⊥
      unlike e = cc

  shares-told :
      (c : Comp) (ls rs : List (ℕ × ℤ)) → ls ≡ [] → rs ≡ [] →
      IsTold (λ b. Unit {0}) (compared_shares c ls rs)
  shares-told c [] [] e f = tt
  shares-told c [] (r ∷ rs) e f = absurd (cc)
  shares-told c (l ∷ ls) rs e f = absurd (cc)

  compared-told :
      (c : Comp) (o : Sort) → AreKnown known c.left → AreKnown known c.right →
      TermFits sc o c.left → TermFits sc o c.right → IsTold (λ b. Unit {0}) (compared_by o m c)
  compared-told c Int l r fl fr =
      told-then (λ z. Unit {0}) (λ b. Unit {0}) (known_number m c.left) _ (known-told c.left l)
      (λ x h. told-then (λ z. Unit {0}) (λ b. Unit {0}) (known_number m c.right) _
      (known-told c.right r) (λ y q. tt))
  compared-told c Perm l r fl fr =
      shares-told c c.left.parts c.right.parts (none-share c.left.parts l fl)
      (none-share c.right.parts r fr)

  -- another heap, and what is met by `_`
  abbrev same-known :
      (heap : Heap) (ws : List NameValue) →
      Known sc known (record {
        env = m.env;
        fill = record { names = m.fill.names; wildcards = ws; facts = m.fill.facts };
        heap = heap;
      })
  same-known heap ws =
      record { bound = k.bound; whole = k.whole; room = k.room; numbers = k.numbers }

  -- the names of a determined term
  names-bound :
      (ps : List (ℕ × ℤ)) → list_all (λ p. is_some (term_of m.env p.0)) ps ≡ true → (x : ℕ) →
      IsAmong (map (λ q. q.0) ps) x → is_some (term_of m.env x) ≡ true
  names-bound [] h x i = absurd i
  names-bound (q ∷ ps) h x (inl e) =
      subst (λ y. is_some (term_of m.env y) ≡ true) e
      (first-true (is_some (term_of m.env q.0)) (list_all (λ p. is_some (term_of m.env p.0)) ps) h)
  names-bound (q ∷ ps) h x (inr i) =
      names-bound ps
      (second-true (is_some (term_of m.env q.0)) (list_all (λ p. is_some (term_of m.env p.0)) ps) h)
      x i

  names-whole :
      (ps : List (ℕ × ℤ)) → AllByRecursion (λ q. HasSort sc Int q.0) ps → (x : ℕ) →
      IsAmong (map (λ q. q.0) ps) x → HasSort sc Int x
  names-whole [] h x i = absurd i
  names-whole (q ∷ ps) h x (inl e) = subst (HasSort sc Int) e h.0
  names-whole (q ∷ ps) h x (inr i) = names-whole ps h.1 x i

  settled-known :
      (t : Linear) (heap : Heap) → is_determined m.env t ≡ true → TermFits sc Int t →
      Known sc (map (λ q. q.0) t.parts ++ known) (record m { heap = heap })
  settled-known t heap d f = record {
    bound = λ x i. elim (one-split (λ y. y ≡ x) (map (λ q. q.0) t.parts) known i) [
      | inl j ↦ names-bound t.parts d x j
      | inr j ↦ k.bound x j
    ];
    whole = λ x i. elim (one-split (λ y. y ≡ x) (map (λ q. q.0) t.parts) known i) [
      | inl j ↦ names-whole t.parts f x j
      | inr j ↦ k.whole x j
    ];
    room = k.room;
    numbers = k.numbers;
  }

  -- a name gets a cell's value
  named-known :
      (x : ℕ) (z : ℤ) (heap : Heap) → HasSort sc Int x →
      Known sc (x ∷ known) (record {
        env = with_name m.env x zero_value;
        fill = record {
          names = slice_set m.fill.names x (a_number z);
          wildcards = m.fill.wildcards;
          facts = m.fill.facts;
        };
        heap = heap;
      })
  named-known x z heap s = record {
    bound = λ y i. elim (cases_eq y x) [
      | inl e ↦
          ap is_some (ap (term_of (with_name m.env x zero_value)) e
          ∙ term-same m.env x zero_value (k.room x Int s))
      | inr ne ↦
          ap is_some (term-other m.env x y zero_value ne) ∙ k.bound y (other y ne i)
    ];
    whole = λ y i. elim (cases_eq y x) [
      | inl e ↦ subst (HasSort sc Int) (sym e) s
      | inr ne ↦ k.whole y (other y ne i)
    ];
    room = λ y o h.
        (let l = k.room y o h in let q = set-length m.env x (Some zero_value) in omega (arith, l, q));
    numbers = λ y h. elim (cases_eq y x) [
      | inl e ↦ (
        z,
        ap (slice_get (slice_set m.fill.names x (a_number z))) e
            ∙ get-set-same m.fill.names x (a_number z)
            (let n = k.numbers x s in within m.fill.names x (a_number n.0) n.1),
      )
      | inr ne ↦ (let n = k.numbers y h in
          (n.0, get-set-other m.fill.names x y (a_number z) ne ∙ n.1))
    ];
  }
    where
      other : (y : ℕ) → y ≢ x → IsAmong (x ∷ known) y → IsAmong known y
      other y ne (inl e) = absurd (ne (sym e))
      other y ne (inr i) = i

  -- ---- a cell

  if-known :
      (known' : List ℕ) (b : Bool) (n : Meeting) → Known sc known' n →
      KnownIf sc known' (if b then Some n else None)
  if-known known' true n h = h
  if-known known' false n h = tt

  slot-settled :
      (t : Linear) (z : ℤ) (heap : Heap) → is_determined m.env t ≡ true → TermFits sc Int t →
      IsTold (KnownIf sc (names_of (Is t) ++ known)) (meets_slot (settled t) z (record m { heap = heap }))
  slot-settled t z heap d f =
      told-then (λ y. Unit {0}) (KnownIf sc (names_of (Is t) ++ known)) (number_in m.fill.names t) _
      (number-told m.fill.names t)
      (λ y h.
      if-known (names_of (Is t) ++ known) (same_number y z) (record m { heap = heap })
      (settled-known t heap d f))

  cell-named :
      (x : ℕ) (z : ℤ) (heap : Heap) → HasSort sc Int x →
      IsTold (KnownIf sc (x ∷ known)) (meets_slot (open_to (Some x)) z (record m { heap = heap }))
  cell-named x z heap s =
      let n = k.numbers x s in
      subst
      (λ o. IsTold (KnownIf sc (x ∷ known)) (names_cell o x z (record m { heap = heap }))) (sym n.1)
      (named-known x z heap s)

  record Lone (t : Linear) (x : ℕ) : Type 0 where
    coefficient : ℤ
    parts : t.parts ≡ (x, coefficient) ∷ []

  lone-is :
      (c : ℤ) (ps : List (ℕ × ℤ)) (x : ℕ) → lone_part c ps ≡ Some x →
      (y : ℤ) × (ps ≡ (x, y) ∷ [])
  lone-is c [] x e = absurd (none-some e)
  lone-is c (q ∷ []) x e = by (is_zero c && same_number q.1 (pos 1)) e
    where
      by :
          (b : Bool) → (if b then Some q.0 else None) ≡ Some x →
          (y : ℤ) × ((q ∷ []) ≡ (x, y) ∷ [])
      by true h = (q.1, ap (λ n. (n, q.1) ∷ []) (some-same q.0 x h))
      by false h = absurd (none-some h)
  lone-is c (q ∷ (r ∷ ps)) x e = absurd (none-some e)

  slot-told :
      (x : Slot) (z : ℤ) (heap : Heap) → IsPlainSlot known x → SlotFits sc Int x →
      IsTold (KnownIf sc (names_of x ++ known))
      (meets_slot (reading m.env x) z (record m { heap = heap }))
  slot-told Any z heap i f = same-known heap (m.fill.wildcards ++ a_number z ∷ [])
  slot-told (Is t) z heap i f = by (is_determined m.env t) refl i
    where
      by :
          (b : Bool) → is_determined m.env t ≡ b → IsPlainSlot known (Is t) →
          IsTold (KnownIf sc (names_of (Is t) ++ known))
          (meets_slot (if b then settled t else read_name (lone_variable t)) z
          (record m { heap = heap }))
      by true d j = slot-settled t z heap d f
      by false d (inl h) = absurd (let q : true ≡ false = sym (determined t h) ∙ d in cc)
      by false d (inr h) =
          let n = lone-is t.constant t.parts h.0 h.1 in
          let s : HasSort sc Int h.0 =
          (subst (AllByRecursion (λ q. HasSort sc Int q.0)) n.1 f).0 in
          subst
          (λ o. IsTold (KnownIf sc (names_of (Is t) ++ known))
          (meets_slot (read_name o) z (record m { heap = heap }))) (sym h.1)
          (subst
          (λ ps. IsTold (KnownIf sc (map (λ q. q.0) ps ++ known))
          (meets_slot (open_to (Some h.0)) z (record m { heap = heap }))) (sym n.1)
          (cell-named h.0 z heap s))

  cell-told :
      (known' : List ℕ) (n : ℤ) (o : Option ℤ) (g : ℤ → Traced (Option Meeting)) →
      ((z : ℤ) → IsTold (KnownIf sc known') (g z)) → IsTold (KnownIf sc known') (meets_cell n o g)
  cell-told known' n None g h = tt
  cell-told known' n (Some z) g h = by (int_lt (pos 0) n)
    where
      by : (b : Bool) → IsTold (KnownIf sc known') (if b then g z else traced None)
      by true = h z
      by false = tt

-- ---- items

module _ (p : PlainProgram) (sc : Scope) where
  if-told :
      (known : List ℕ) (o : Option Meeting) (f : Meeting → Traced (Option Meeting)) →
      KnownIf sc known o → ((m : Meeting) → Known sc known m → IsTold (λ x. Unit {0}) (f m)) →
      IsTold (λ x. Unit {0}) (meets_if o f)
  if-told known None f h k = tt
  if-told known (Some m) f h k = k m h

  meets-told :
      (xs : Items) (known : List ℕ) (m : Meeting) → Known sc known m → AsksForCells known xs →
      AllByRecursion (ItemFits p sc) (all_items xs) → IsTold (λ o. Unit {0}) (meets_all xs m)
  meets-told none known m k a f = tt
  meets-told (item (compare c) more) known m k a f =
      told-then (KnownIf sc known) (λ o. Unit {0}) (meets_item (compare c) m) _
      (told-then (λ b. Unit {0}) (KnownIf sc known) (known_holds m c) _
      (compared-told sc known m k c c.sort a.0 a.1 f.0.0 f.0.1)
      (λ b h. if-known sc known m k known b m k))
      (λ o h. if-told known o (meets_all more) h
      (λ n q. meets-told more known n q a.2 f.1))
  meets-told (item (cell place t x) more) known m k a f =
      told-then (KnownIf sc (names_of x ++ known)) (λ o. Unit {0}) (meets_item (cell place t x) m) _
      (told-then (λ z. Unit {0}) (KnownIf sc (names_of x ++ known)) (known_number m t) _
      (known-told sc known m k t a.0)
      (λ n h. cell-told sc known m k (names_of x ++ known) n (get m.heap n) _
      (λ z. slot-told sc known m k x z (remove m.heap n) a.1 f.0.1)))
      (λ o h. if-told (names_of x ++ known) o (meets_all more) h
      (λ n q. meets-told more (names_of x ++ known) n q a.2 f.1))
  meets-told (item (choose c x y) more) known m k a f = absurd a
  meets-told (item (fact place r i args x) more) known m k a f = absurd a
  meets-told (item (atom place r i j asked) more) known m k a f = absurd a

-- ---- the first meeting

mapped :
    {A B : Type 0} (f : A → B) (xs : List A) (i : ℕ) (x : A) → slice_get xs i ≡ Some x →
    slice_get (map f xs) i ≡ Some (f x)
mapped f [] i x e = absurd (none-some e)
mapped f (y ∷ xs) zero x e = ap (λ z. Some (f z)) (some-same y x e)
mapped f (y ∷ xs) (suc i) x e = mapped f xs i x e

range-below :
    (low n x : ℕ) → IsAmong (range_with_len low n) x → x < low + n
range-below low zero x i = absurd i
range-below low (suc n) x (inl e) = omega (arith, e)
range-below low (suc n) x (inr i) = let l = range-below (low + 1) n x i in omega (arith, l)

module _ (f : PlainFunction) (args : List ℤ) (heap : Heap) (arity : length args ≡ f.params) where
  abbrev m : Meeting
  m = first_meeting f args heap

  arg-there : (x : ℕ) → x < f.params → (z : ℤ) × (slice_get args x ≡ Some z)
  arg-there x l = there-is args x (omega (arith, l, arity))

  first-known : Known (requires_scope f) (range_with_len 0 f.params) (first_meeting f args heap)
  first-known = record {
    bound = λ x i.
        let l = range-below 0 f.params x i in
        let z = arg-there x (omega (arith, l)) in
        ap (λ o. is_some (unwrap_or o None))
        (get-first (map (λ z. Some zero_value) args) (unbound (f.locals + length f.fixed)) x
        (Some zero_value) (mapped (λ z. Some zero_value) args x z.0 z.1));
    whole = λ x i.
        let l = range-below 0 f.params x i in
        get-first (replicate f.params (Some Int)) (hidden f.locals ++ scope_known f.fixed) x
        (Some Int) (rep-in f.params x (Some Int) (omega (arith, l)));
    room = λ x o h.
        let l = within (requires_scope f) x (Some o) h in
        let a = scope-length f in
        let b = length-join (map (λ (z : ℤ). Some zero_value) args)
        (unbound (f.locals + length f.fixed)) in
        let c = map-length (λ (z : ℤ). Some zero_value) args in
        let e = rep-length {X = Option Linear} (f.locals + length f.fixed) None in
        omega (arith, l, a, b, c, e, arity);
    numbers = λ x h. elim (requires-early f x Int h) [
      | inl k ↦ (let z = arg-there x k.0 in (
        z.0,
        get-first (map a_number args) (replicate f.locals (a_number (pos 0)) ++ map unset f.fixed) x
            (a_number z.0) (mapped a_number args x z.0 z.1),
      ))
      | inr k ↦ (
        pos 0,
        (let a = map-length a_number args in
            let b = rep-length f.locals (a_number (pos 0)) in
            let q = k.1 in
            let at : x ≡ length (map a_number args)
            + (length (replicate f.locals (a_number (pos 0))) + k.0) = omega (arith, a, b, q, arity) in
            ap (slice_get (map a_number args
            ++ (replicate f.locals (a_number (pos 0)) ++ map unset f.fixed))) at
            ∙ get-behind (map a_number args)
            (replicate f.locals (a_number (pos 0)) ++ map unset f.fixed)
            (length (replicate f.locals (a_number (pos 0))) + k.0)
            ∙ get-behind (replicate f.locals (a_number (pos 0))) (map unset f.fixed) k.0
            ∙ mapped unset f.fixed k.0 Int k.2),
      )
    ];
  }

-- ---- the body's root

body-goal :
    (s : PlainState) (xs : Items) (h : Home) (b : Block) →
    (g : PlainGoal) × (goal_of s (to_give xs 0 0 ∷ to_run h b ∷ []) ≡ Some g)
body-goal s none h b = (goal s (to_run h b ∷ []), refl)
body-goal s (item i more) h b = (goal s (to_give (item i more) 0 0 ∷ to_run h b ∷ []), refl)

module _ (p : PlainProgram) (trees : List (Option PlainTree)) (valid : Valid p trees) (n : ℕ)
    (f : PlainFunction) (is : slice_get p.functions n ≡ Some f) where
  body-there :
      (q : Place) × (root_at (proved p trees) (function_unit n) body_root ≡ Some q)
  body-there =
      let g = body-goal (root_state at_entry f n (root_env at_entry f n 0 ∷ [])) f.requires
      (home_of at_entry f n) f.body in
      let r = function-rooted p trees valid n f is 2 g.0
      (ap (λ o. slice_get (optional_roots o n) 2) is ∙ ap Some g.1) in
      (record { goal = g.0; tree = r.tree }, r.is_root)

  begins-told :
      (vs fixed : List NameValue) (x : Fill) (es : List Event) →
      IsTold (λ t. Unit {0}) (begins_at (proved p trees) n requires_root body_root vs fixed x es)
  begins-told vs fixed x es =
      let q = body-there in
      told-then (λ y. Unit {0}) (λ t. Unit {0})
      (found (root_at (proved p trees) (function_unit n) body_root)) _
      (subst (λ o. IsTold (λ y. Unit {0}) (found o)) (sym q.1) tt) (λ y h. tt)

  track-told :
      (args : List ℤ) (heap : Heap) (o : Option Meeting) → p.main ≡ n →
      IsTold (λ x. Unit {0}) (track_by (proved p trees) f args heap o)
  track-told args heap None e = tt
  track-told args heap (Some m) e =
      let vs = map a_number args ++ fixed_values f m.fill in
      told-then (λ t. Unit {0}) (λ x. Unit {0})
      (begins_at (proved p trees) p.main requires_root body_root vs (fixed_values f m.fill) m.fill [])
      _
      (subst (λ k. IsTold (λ t. Unit {0})
      (begins_at (proved p trees) k requires_root body_root vs (fixed_values f m.fill) m.fill []))
      (sym e) (begins-told vs (fixed_values f m.fill) m.fill [])) (λ t h. tt)

pub starts-told : StartsAreTold
starts-told p trees well textual valid main args heap is arity =
    let d = proved p trees in
    subst
    (λ o. IsTold (λ x. Unit {0})
    (found o >>= λ f. meets_all f.requires (first_meeting f args heap) >>= track_by d f args heap))
    (sym is)
    (told-then (λ o. Unit {0}) (λ x. Unit {0})
    (meets_all main.requires (first_meeting main args heap)) (track_by d main args heap)
    (meets-told p (requires_scope main) main.requires (range_with_len 0 main.params)
    (first_meeting main args heap) (first-known main args heap arity) (textual.main main is)
    (function-fits p well p.main main is).requires.items)
    (λ o h. track-told p trees valid p.main main is args heap o refl))
