-- A first track comes just where the arguments and the heap are a start of main.
use Rattle.std.proofs.Common.{◌≡◌, ℕ, zero, suc, ◌+◌, ℤ, pos, ◌*ℤ◌, List, [], ◌∷◌, ◌++◌, map, length, take, drop, Option, Some, None, refl, sym, ap, subst, ◌∙◌, arith}
use Rattle.std.specs.Prelude.{slice_get, replicate, option_map, option_to_list}
use Rattle.std.specs.List.{AllByRecursion, take-map, drop-map}
use Rattle.cap_rules.specs.cap_goal_spec.cap_lin.Linear.{Linear}
use Rattle.cap_rules.specs.cap_goal_spec.cap_lin.Values.{Valuation}
use Rattle.cap_rules.specs.cap_goal_spec.cap_lin.declared.row.Sort.{Sort}
use Rattle.cap_rules.specs.cap_goal_spec.cap_lin.declared.row.Sort.TheVariants.{Int, Perm}
use Rattle.cap_rules.specs.cap_goal_spec.cap_prog.Program.{PlainFunction}
use Rattle.cap_rules.specs.cap_goal_spec.cap_prog.Scopes.{fixed_start}
use Rattle.cap_rules.specs.cap_goal_spec.Environments.{zero_value, unbound}
use Rattle.cap_machine.specs.Machine.{Heap, new_frame, start, IsPositive}
use Rattle.cap_rules.specs.cap_goal_spec.Roots.{function_unit}
use Rattle.cap_machine_accounts.specs.Parts.{Part, no_part}
use Rattle.cap_machine_accounts.specs.Assertions.{NameValue, a_number, a_fraction, ValuesFit, IsNamed, AreNamed, AreWhole, TakesAll}
use Rattle.cap_machine_accounts.specs.Safety.{whole_part, first_account, Start}
use Rattle.cap_owners_spec.specs.Traced.{traced, ◌>>=◌, found, over, value_at, number_of, numerator_of, valuation}
use Rattle.cap_owners_spec.specs.Track.{Place, TrackedFrame, Track, account_of}
use Rattle.cap_owners_spec.specs.Steps.{Proved, root_at, begins_at, fixed_values, requires_root, body_root}
use Rattle.cap_owners_spec.specs.Start.{Meeting, meets_all, unset, first_meeting, main_track, track_by, first_track}
use Rattle.cap_owners_laws.specs.Laws.{FitsThreads, IsMet, IsUnmet}
use Rattle.cap_owners_laws.proofs.Steps.{was-traced, traced-same}
use Rattle.cap_owners_laws.proofs.Meetings.{On, Bound, is_whole, IsOver, Fits, Meets, Result, all-met}

-- ---- lists

value-in :
    (vs : List NameValue) (j : ℕ) (y : NameValue) → slice_get vs j ≡ Some y →
    value_at vs j ≡ y
value-in [] j y e = absurd (cc)
value-in (v ∷ vs) zero y e = cc
value-in (v ∷ vs) (suc j) y e = value-in vs j y e

over-in :
    (vs : List NameValue) (j : ℕ) (y : NameValue) → AllByRecursion IsOver vs →
    slice_get vs j ≡ Some y → IsOver y
over-in [] j y h e = absurd (cc)
over-in (v ∷ vs) zero y h e = subst IsOver (value-in (v ∷ []) zero y e) h.0
over-in (v ∷ vs) (suc j) y h e = over-in vs j y h.1 e

behind :
    (v : NameValue) (vs : List NameValue) (a b : ℕ) (y : NameValue) → suc a ≡ b →
    slice_get vs a ≡ Some y → slice_get (v ∷ vs) b ≡ Some y
behind v vs a b y q e = subst (λ n. slice_get (v ∷ vs) n ≡ Some y) q e

taken-in :
    (n s : ℕ) (vs : List NameValue) (j : ℕ) (y : NameValue) →
    slice_get (take n (drop s vs)) j ≡ Some y → slice_get vs (s + j) ≡ Some y
taken-in zero zero vs j y e = absurd (cc)
taken-in (suc n) zero [] j y e = absurd (cc)
taken-in (suc n) zero (v ∷ vs) zero y e = e
taken-in (suc n) zero (v ∷ vs) (suc j) y e =
    behind v vs (0 + j) (0 + suc j) y (omega arith) (taken-in n zero vs j y e)
taken-in zero (suc s) [] j y e = absurd (cc)
taken-in (suc n) (suc s) [] j y e = absurd (cc)
taken-in zero (suc s) (v ∷ vs) j y e = absurd (cc)
taken-in (suc n) (suc s) (v ∷ vs) j y e =
    behind v vs (s + j) (suc s + j) y (omega arith) (taken-in (suc n) s vs j y e)

are-named :
    (v : Valuation) (x : ℕ) (ys : List NameValue) →
    ((j : ℕ) (y : NameValue) → slice_get ys j ≡ Some y → IsNamed v (x + j) y) → AreNamed v x ys
are-named v x [] f = tt
are-named v x (y ∷ ys) f = (
  subst (λ n. IsNamed v n y) (omega arith) (f 0 y refl),
  are-named v (suc x) ys (λ j z e. subst (λ n. IsNamed v n z) (omega arith) (f (suc j) z e)),
)

are-whole :
    (v : Valuation) (x : ℕ) (zs : List ℤ) →
    ((j : ℕ) (z : ℤ) → slice_get zs j ≡ Some z → v.whole (x + j) ≡ z) → AreWhole v x zs
are-whole v x [] f = tt
are-whole v x (z ∷ zs) f = (
  subst (λ n. v.whole n ≡ z) (omega arith) (f 0 z refl),
  are-whole v (suc x) zs (λ j y e. subst (λ n. v.whole n ≡ y) (omega arith) (f (suc j) y e)),
)

whole-in :
    (v : Valuation) (x : ℕ) (zs : List ℤ) (j : ℕ) (z : ℤ) → AreWhole v x zs →
    slice_get zs j ≡ Some z → v.whole (x + j) ≡ z
whole-in v x [] j z h e = absurd (cc)
whole-in v x (y ∷ zs) zero z h e =
    subst (λ n. v.whole n ≡ z) (omega arith) (h.0 ∙ (let q : y ≡ z = cc in q))
whole-in v x (y ∷ zs) (suc j) z h e =
    subst (λ n. v.whole n ≡ z) (omega arith) (whole-in v (suc x) zs j z h.1 e)

-- ---- values of names

named-own :
    (vs : List NameValue) → AllByRecursion IsOver vs → (x : ℕ) (y : NameValue) →
    slice_get vs x ≡ Some y → IsNamed (valuation vs) x y
named-own vs h x (a_number z) e = ap number_of (value-in vs x (a_number z) e)
named-own vs h x (a_fraction n d) e =
    let i = value-in vs x (a_fraction n d) e in
    let j : suc d ≡ over = over-in vs x (a_fraction n d) h e in
    numerator-by i ∙ ap (λ k. n *ℤ pos k) j
  where
    numerator-by :
        value_at vs x ≡ a_fraction n d →
        (valuation vs).fraction.numerator x *ℤ pos (suc d) ≡ n *ℤ pos (suc d)
    numerator-by i = ap (λ y. numerator_of y *ℤ pos (suc d)) i

values-fit :
    (os : List Sort) (ys : List NameValue) → map is_whole ys ≡ map is_whole (map unset os) →
    ValuesFit os ys
values-fit [] [] e = tt
values-fit [] (y ∷ ys) e = absurd (cc)
values-fit (o ∷ os) [] e = absurd (cc)
values-fit (Int ∷ os) (a_number z ∷ ys) e = (tt, values-fit os ys (cc))
values-fit (Int ∷ os) (a_fraction n d ∷ ys) e = absurd (cc)
values-fit (Perm ∷ os) (a_number z ∷ ys) e = absurd (cc)
values-fit (Perm ∷ os) (a_fraction n d ∷ ys) e = (tt, values-fit os ys (cc))

-- ---- the first meeting

drop-args :
    (args : List ℤ) (k : ℕ) (ys : List NameValue) →
    drop (length args + k) (map a_number args ++ ys) ≡ drop k ys
drop-args [] k ys = let i : 0 + k ≡ k = omega arith in ap (λ n. drop n ys) i
drop-args (z ∷ args) k ys =
    let i : suc (length args) + k ≡ suc (length args + k) = omega arith in
    ap (λ n. drop n (a_number z ∷ (map a_number args ++ ys))) i ∙ drop-args args k ys

drop-same : (n : ℕ) (v : NameValue) (ys : List NameValue) → drop n (replicate n v ++ ys) ≡ ys
drop-same zero v ys = refl
drop-same (suc n) v ys = drop-same n v ys

take-unset : (os : List Sort) → take (length os) (map unset os) ≡ map unset os
take-unset [] = refl
take-unset (o ∷ os) = ap (λ ys. unset o ∷ ys) (take-unset os)

over-unset : (os : List Sort) → AllByRecursion IsOver (map unset os)
over-unset [] = tt
over-unset (Int ∷ os) = (tt, over-unset os)
over-unset (Perm ∷ os) = (refl, over-unset os)

over-same :
    (n : ℕ) (ys : List NameValue) → AllByRecursion IsOver ys →
    AllByRecursion IsOver (replicate n (a_number (pos 0)) ++ ys)
over-same zero ys h = h
over-same (suc n) ys h = (tt, over-same n ys h)

over-args :
    (args : List ℤ) (ys : List NameValue) → AllByRecursion IsOver ys →
    AllByRecursion IsOver (map a_number args ++ ys)
over-args [] ys h = h
over-args (z ∷ args) ys h = (tt, over-args args ys h)

length-unset :
    (os : List Sort) →
    length (map unset os) ≡ length (replicate {A = Option Linear} (length os) None)
length-unset [] = refl
length-unset (o ∷ os) = ap suc (length-unset os)

length-same :
    (n : ℕ) (os : List Sort) →
    length (replicate n (a_number (pos 0)) ++ map unset os) ≡ length (unbound (n + length os))
length-same zero os =
    let i : length os ≡ 0 + length os = omega arith in
    length-unset os ∙ ap (λ k. length (unbound k)) i
length-same (suc n) os =
    let i : suc (n + length os) ≡ suc n + length os = omega arith in
    ap suc (length-same n os) ∙ ap (λ k. length (unbound k)) i

length-args :
    (args : List ℤ) (n : ℕ) (os : List Sort) →
    length (map a_number args ++ (replicate n (a_number (pos 0)) ++ map unset os))
    ≡ length (map (λ z. Some zero_value) args ++ unbound (n + length os))
length-args [] n os = length-same n os
length-args (z ∷ args) n os = ap suc (length-args args n os)

arg-bound :
    (args : List ℤ) (n j : ℕ) (z : ℤ) → slice_get args j ≡ Some z →
    Bound (map (λ y. Some zero_value) args ++ unbound n) j
arg-bound [] n j z e = absurd (cc)
arg-bound (y ∷ args) n zero z e = refl
arg-bound (y ∷ args) n (suc j) z e = arg-bound args n j z e

arg-value :
    (args : List ℤ) (ys : List NameValue) (j : ℕ) (z : ℤ) → slice_get args j ≡ Some z →
    number_of (value_at (map a_number args ++ ys) j) ≡ z
arg-value [] ys j z e = absurd (cc)
arg-value (y ∷ args) ys zero z e = cc
arg-value (y ∷ args) ys (suc j) z e = arg-value args ys j z e

none-bound : (n j : ℕ) → Bound (unbound n) j → ⊥
none-bound zero j b = cc
none-bound (suc n) zero b = cc
none-bound (suc n) (suc j) b = none-bound n j b

bound-arg :
    (args : List ℤ) (n j : ℕ) → Bound (map (λ y. Some zero_value) args ++ unbound n) j →
    (z : ℤ) × (slice_get args j ≡ Some z)
bound-arg [] n j b = absurd (none-bound n j b)
bound-arg (y ∷ args) n zero b = (y, refl)
bound-arg (y ∷ args) n (suc j) b = bound-arg args n j b

-- ---- a start

module _ (d : Proved) (main : PlainFunction) (args : List ℤ) (heap : Heap)
    (is_main : slice_get d.program.functions d.program.main ≡ Some main)
    (arity : length args ≡ main.params) where
  abbrev pub before : Meeting
  before = first_meeting main args heap

  abbrev rest : List NameValue
  rest = replicate main.locals (a_number (pos 0)) ++ map unset main.fixed

  pub track-is :
      first_track d args heap
      ≡ (meets_all main.requires before >>= track_by d main args heap)
  track-is =
      ap (λ o. found o >>= λ f.
      (meets_all f.requires (first_meeting f args heap) >>= track_by d f args heap)) is_main

  pub fits-before : Fits before
  fits-before = length-args args main.locals main.fixed

  pub over-before : AllByRecursion IsOver before.fill.names
  over-before =
      over-args args rest
      (over-same main.locals (map unset main.fixed) (over-unset main.fixed))

  abbrev pub Taken : Valuation → Part → Part → Type 0
  Taken v q r = TakesAll d.program [] v main.requires q r

  met-by : (o : Option Meeting) → meets_all main.requires before ≡ traced o → Result Taken before o
  met-by o e =
      subst (On (Result Taken before)) e (all-met d.program main.requires before fits-before)

  fixed-kinds :
      (m : Meeting) → map is_whole m.fill.names ≡ map is_whole before.fill.names →
      map is_whole (fixed_values main m.fill) ≡ map is_whole (map unset main.fixed)
  fixed-kinds m e =
      sym (take-map is_whole (length main.fixed) (drop (fixed_start main) m.fill.names))
      ∙ (ap (take (length main.fixed)) (sym (drop-map is_whole (fixed_start main) m.fill.names))
      ∙ (ap (λ bs. take (length main.fixed) (drop (fixed_start main) bs)) e
      ∙ (ap (take (length main.fixed)) (drop-map is_whole (fixed_start main) before.fill.names)
      ∙ (take-map is_whole (length main.fixed) (drop (fixed_start main) before.fill.names)
      ∙ ap (map is_whole) unset-left))))
    where
      unset-left :
          take (length main.fixed) (drop (fixed_start main) before.fill.names)
          ≡ map unset main.fixed
      unset-left =
          ap (λ n. take (length main.fixed) (drop (n + main.locals) before.fill.names)) (sym arity)
          ∙ (ap (take (length main.fixed)) (drop-args args main.locals rest
          ∙ drop-same main.locals (a_number (pos 0)) (map unset main.fixed))
          ∙ take-unset main.fixed)

  -- the arguments and the fixed names' values are those by which it is met
  pub met-args :
      (m : Meeting) → Meets Taken before m → AreWhole (valuation m.fill.names) 0 args
  met-args m h =
      are-whole (valuation m.fill.names) 0 args
      (λ j z e. (let i : 0 + j ≡ j = omega arith in
      ap (λ n. number_of (value_at m.fill.names n)) i
      ∙ (ap number_of
      (h.extends.same j (arg-bound args (main.locals + length main.fixed) j z e))
      ∙ arg-value args rest j z e)))

  pub met-fixed :
      (m : Meeting) → Meets Taken before m →
      AreNamed (valuation m.fill.names) (fixed_start main) (fixed_values main m.fill)
  met-fixed m h =
      are-named (valuation m.fill.names) (fixed_start main) (fixed_values main m.fill)
      (λ j y e. named-own m.fill.names (h.extends.shares over-before) (fixed_start main + j) y
      (taken-in (length main.fixed) (fixed_start main) m.fill.names j y e))

  pub start-of :
      IsPositive heap → (m : Meeting) → Meets Taken before m →
      Start d.program main args heap (fixed_values main m.fill)
  start-of positive m h = record {
    is_main = is_main;
    arity = arity;
    values_fit = values-fit main.fixed (fixed_values main m.fill) (fixed-kinds m h.extends.kinds);
    positive = positive;
    meets = record {
      values = valuation m.fill.names;
      args_are = met-args m h;
      fixed_are = met-fixed m h;
      met = (whole_part m.heap, h.sound (valuation m.fill.names) (λ x b. refl));
    };
  }

  abbrev pub begun : Meeting → Place → TrackedFrame
  begun m q = record {
    held = record { part = no_part; fixed = fixed_values main m.fill };
    seat = q;
    values = map a_number args ++ fixed_values main m.fill;
    given = Some (record {
      stability = root_at d (function_unit d.program.main) requires_root;
      values = map a_number args ++ fixed_values main m.fill;
      fill = m.fill;
    });
    since = [];
    awaited = 0;
  }

  fixed-kept :
      (m : Meeting) (f : TrackedFrame) →
      begins_at d d.program.main requires_root body_root
      (map a_number args ++ fixed_values main m.fill) (fixed_values main m.fill) m.fill []
      ≡ traced f →
      f.held.fixed ≡ fixed_values main m.fill
  fixed-kept m f e =
      let w = was-traced (found (root_at d (function_unit d.program.main) body_root))
      (λ q. traced (begun m q)) f e in
      ap (λ g. g.held.fixed) (sym (traced-same (begun m w.0) f w.2))

  one-frame : map length (start d.program args heap).threads ≡ 1 ∷ []
  one-frame =
      ap (λ o. map length
      (option_to_list (option_map (λ f. new_frame d.program.main f args None) o) ∷ []))
      is_main

  met-track :
      IsPositive heap → (k : Track) → (o : Option Meeting) →
      meets_all main.requires before ≡ traced o → track_by d main args heap o ≡ traced (Some k) →
      IsMet d args heap main k
  met-track positive k None e t = absurd (cc)
  met-track positive k (Some m) e t =
      let w = was-traced
      (begins_at d d.program.main requires_root body_root
      (map a_number args ++ fixed_values main m.fill) (fixed_values main m.fill) m.fill [])
      (λ f. traced (Some (main_track heap f))) (Some k) t in
      let i : main_track heap w.0 ≡ k = some-track (main_track heap w.0) k w.2 in (
        fixed_values main m.fill,
        start-of positive m (met-by (Some m) e),
        sym (ap account_of i) ∙ ap (first_account heap) (fixed-kept m w.0 w.1),
        subst (FitsThreads (start d.program args heap)) i (sym one-frame),
      )
    where
      some-track : (x y : Track) → traced (Some x) ≡ traced (Some y) → x ≡ y
      some-track x y e = cc

  unmet-track :
      (o : Option Meeting) → meets_all main.requires before ≡ traced o →
      track_by d main args heap o ≡ traced None → IsUnmet d args heap main
  unmet-track None e t = λ fixed s.
      met-by None e s.meets.values s.meets.met.0
      (λ x b. (let z = bound-arg args (main.locals + length main.fixed) x b in
      let i : x ≡ 0 + x = omega arith in
      ap s.meets.values.whole i ∙ whole-in s.meets.values 0 args x z.0 s.meets.args_are z.1
      ∙ sym (arg-value args rest x z.0 z.1)))
      s.meets.met.1
  unmet-track (Some m) e t =
      let w = was-traced
      (begins_at d d.program.main requires_root body_root
      (map a_number args ++ fixed_values main m.fill) (fixed_values main m.fill) m.fill [])
      (λ f. traced (Some (main_track heap f))) None t in
      absurd (not-none (main_track heap w.0) w.2)
    where
      not-none : (x : Track) → traced (Some x) ≡ traced None → ⊥
      not-none x e = cc

  pub met-start :
      IsPositive heap → (k : Track) → first_track d args heap ≡ traced (Some k) →
      IsMet d args heap main k
  met-start positive k e =
      let w = was-traced (meets_all main.requires before) (track_by d main args heap) (Some k)
      (sym track-is ∙ e) in
      met-track positive k w.0 w.1 w.2

  pub unmet-start : first_track d args heap ≡ traced None → IsUnmet d args heap main
  unmet-start e =
      let w = was-traced (meets_all main.requires before) (track_by d main args heap) None
      (sym track-is ∙ e) in
      unmet-track w.0 w.1 w.2
