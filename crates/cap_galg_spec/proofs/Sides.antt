-- Composition of pairs and of sides of sums, by their parts.
use Rattle.std.proofs.Common.{◌≡◌, ◌≢◌, refl, sym, ap, ◌∙◌, subst, ◌⊎◌, inl, inr, Bool, true, false, Option, Some, None, Result, Ok, Err}
use Rattle.std.specs.Prelude.{◌&&◌, ◌||◌, if◌then◌else◌}
use Rattle.cap_galg_spec.specs.declared.error.GuardError.{GuardError}
use Rattle.cap_galg_spec.specs.declared.error.GuardError.TheVariants.{Wide, OutOfMemory}
use Rattle.cap_galg_spec.specs.Elements.{Element, nothing, one, share, tok, src, indices, both, whole, left, right, is_unit, is_full, pair_of, on_left, on_right, in_left, in_right, bind, compose, is_wide, at_most}
use Rattle.cap_galg_spec.specs.Algebras.{PlainAlgebra, IsElement, AreKin}
use Rattle.cap_galg_spec.specs.Answers.{IsComposition, answer_of_both}
use Rattle.cap_galg_spec.specs.Laws.Composition.{bind-none, true_or_false, and-true, some-same, compose-nothing, compose-comm, unit-is, composed-not-unit, full_alone, sound-pair}
use Rattle.cap_galg_spec.specs.Laws.Algebras.{sound-of, full-only, at_most-full, completes}

pub some_or_none : {A : Type 0} (o : Option A) → (o ≡ None) ⊎ ((x : A) × (o ≡ Some x))
some_or_none None = inl refl
some_or_none (Some x) = inr (x, refl)

-- ---- answers, where the composition goes by parts

-- the composition of x and y is that of a with c and of b with d, put together
pub record ByTwo (x y a b c d : Element) (make : Element → Element → Element) : Type 0 where
  pub composed : compose x y ≡ bind (compose a c) (λ u. bind (compose b d) (λ v. Some (make u v)))
  pub wide : is_wide x y ≡ (is_wide a c || is_wide b d)

defined : (x y a b c d : Element) (make : Element → Element → Element) → ByTwo x y a b c d make → compose a c ≢ None → compose b d ≢ None → compose x y ≢ None
defined x y a b c d make t p q e = elim (some_or_none (compose a c)) [
  | inl n ↦ p n
  | inr s ↦ elim (some_or_none (compose b d)) [
    | inl n ↦ q n
    | inr r ↦
        let m : Some (make s.0 r.0) ≡ None = sym (t.composed ∙ ap (λ o. bind o (λ u. bind (compose b d) (λ v. Some (make u v)))) s.1 ∙ ap (λ o. bind o (λ v. Some (make s.0 v))) r.1) ∙ e in
        cc
  ]
]

or-true : (a b : Bool) → b ≡ true → (a || b) ≡ true
or-true true b e = refl
or-true false b e = e

some-not-none : {A : Type 0} (o : Option A) (x : A) → o ≡ Some x → o ≢ None
some-not-none o x e n = let m : Some x ≡ None = sym e ∙ n in cc

pub two-composition : {A B : Type 0} (f : A → Element) (g : B → Element) (x y a b c d : Element) (make : Element → Element → Element) (r : Result (Option A) GuardError) (s : Result (Option B) GuardError)
    → ByTwo x y a b c d make → IsComposition f a c r → IsComposition g b d s → IsComposition {T = A × B} (λ p. make (f p.0) (g p.1)) x y (answer_of_both r s)
two-composition f g x y a b c d make (Ok None) s t p q = t.composed ∙ ap (λ o. bind o (λ u. bind (compose b d) (λ v. Some (make u v)))) p
two-composition f g x y a b c d make (Ok (Some u)) (Ok None) t p q =
    t.composed ∙ ap (λ o. bind o (λ u. bind (compose b d) (λ v. Some (make u v)))) p.0 ∙ ap (λ o. bind o (λ v. Some (make (f u) v))) q
two-composition f g x y a b c d make (Ok (Some u)) (Ok (Some v)) t p q =
    (t.composed ∙ ap (λ o. bind o (λ u. bind (compose b d) (λ v. Some (make u v)))) p.0 ∙ ap (λ o. bind o (λ v. Some (make (f u) v))) q.0, t.wide ∙ ap (λ w. w || is_wide b d) p.1 ∙ q.1)
two-composition f g x y a b c d make (Ok (Some u)) (Err Wide) t p q =
    (defined x y a b c d make t (some-not-none _ _ p.0) q.0, t.wide ∙ or-true (is_wide a c) (is_wide b d) q.1)
two-composition f g x y a b c d make (Ok (Some u)) (Err OutOfMemory) t p q = tt
two-composition f g x y a b c d make (Err OutOfMemory) s t p q = tt
two-composition f g x y a b c d make (Err Wide) (Ok None) t p q =
    t.composed ∙ ap (λ r. bind (compose a c) (λ u. bind r (λ v. Some (make u v)))) q ∙ bind-none (compose a c)
two-composition f g x y a b c d make (Err Wide) (Ok (Some v)) t p q =
    (defined x y a b c d make t p.0 (some-not-none _ _ q.0), t.wide ∙ ap (λ w. w || is_wide b d) p.1)
two-composition f g x y a b c d make (Err Wide) (Err Wide) t p q = (defined x y a b c d make t p.0 q.0, t.wide ∙ ap (λ w. w || is_wide b d) p.1)
two-composition f g x y a b c d make (Err Wide) (Err OutOfMemory) t p q = tt

pub both-two : (a b c d : Element) → ByTwo (both a b) (both c d) a b c d both
both-two a b c d = record { composed = refl; wide = refl }

-- the composition of x and y is that of a with c, made an element of a sum
pub record ByOne (x y a c : Element) (make : Element → Element) : Type 0 where
  pub composed : compose x y ≡ bind (compose a c) (λ z. Some (make z))
  pub wide : compose a c ≢ None → is_wide x y ≡ is_wide a c

pub one-composition : {A : Type 0} (f : A → Element) (x y a c : Element) (make : Element → Element) (r : Result (Option A) GuardError) → ByOne x y a c make → IsComposition f a c r → IsComposition (λ z. make (f z)) x y r
one-composition f x y a c make (Ok None) t p = t.composed ∙ ap (λ o. bind o (λ z. Some (make z))) p
one-composition f x y a c make (Ok (Some z)) t p = (t.composed ∙ ap (λ o. bind o (λ z. Some (make z))) p.0, t.wide (some-not-none _ _ p.0) ∙ p.1)
one-composition f x y a c make (Err Wide) t p =
    (λ n. p.0 (none-of (compose a c) (sym t.composed ∙ n)), t.wide p.0 ∙ p.1)
  where
    none-of : (o : Option Element) → bind o (λ z. Some (make z)) ≡ None → o ≡ None
    none-of None e = refl
    none-of (Some z) e = cc
one-composition f x y a c make (Err OutOfMemory) t p = tt

-- an error says the same, whatever it is the error of
pub error-composition : {A B : Type 0} (f : A → Element) (g : B → Element) (x y : Element) (e : GuardError) → IsComposition f x y (Err e) → IsComposition g x y (Err e)
error-composition f g x y Wide p = p
error-composition f g x y OutOfMemory p = tt

-- an error that is handed on
pub error-is : {T : Type 0} (h : T → Element) (x y : Element) (r : Result (Option T) GuardError) (e : GuardError) → (d : GuardError) × (r ≡ Err d) × (d ≡ e) → IsComposition h x y (Err e) → IsComposition h x y r
error-is h x y r e p c = subst (IsComposition h x y) (sym (p.1 ∙ ap Err p.2)) c

-- ---- pairs

pub wide-nothing : (x : Element) → is_wide x nothing ≡ false
wide-nothing nothing = refl
wide-nothing one = refl
wide-nothing (share f) = refl
wide-nothing (tok k) = refl
wide-nothing (src n) = refl
wide-nothing (indices xs) = refl
wide-nothing (both a b) = refl
wide-nothing whole = refl
wide-nothing (left x) = refl
wide-nothing (right y) = refl

at_most-nothing : (x : Element) → at_most x nothing ≡ is_unit x
at_most-nothing nothing = refl
at_most-nothing one = refl
at_most-nothing (share f) = refl
at_most-nothing (tok k) = refl
at_most-nothing (src n) = refl
at_most-nothing (indices xs) = refl
at_most-nothing (both a b) = refl
at_most-nothing whole = refl
at_most-nothing (left x) = refl
at_most-nothing (right y) = refl

both-unit : (a b : Element) → (is_unit a && is_unit b) ≡ true → (a ≡ nothing) × (b ≡ nothing)
both-unit a b e = let t = and-true (is_unit a) (is_unit b) e in (unit-is a t.0, unit-is b t.1)

pair-some : (a b : Element) → (is_unit a && is_unit b) ≡ false → pair_of a b ≡ both a b
pair-some a b e = rw e refl

pairs-made : (a b c d : Element) (r s : Option Element) → (is_unit a && is_unit b) ≡ false → compose a c ≡ r → compose b d ≡ s
    → bind r (λ x. bind s (λ y. Some (both x y))) ≡ bind r (λ x. bind s (λ y. Some (pair_of x y)))
pairs-made a b c d None s h p q = refl
pairs-made a b c d (Some x) None h p q = refl
pairs-made a b c d (Some x) (Some y) h p q = ap (λ w. Some w) (sym (pair-some x y (sound-pair a b c d x y p q h)))

bind-pair : (a b : Element) → Some (pair_of a b) ≡ bind (compose a nothing) (λ x. bind (compose b nothing) (λ y. Some (pair_of x y)))
bind-pair a b = sym (ap (λ o. bind o (λ x. bind (compose b nothing) (λ y. Some (pair_of x y)))) (compose-nothing a) ∙ ap (λ o. bind o (λ y. Some (pair_of a y))) (compose-nothing b))

pub pair-two : (a b c d : Element) → ByTwo (pair_of a b) (pair_of c d) a b c d pair_of
pair-two a b c d = elim (true_or_false (is_unit a && is_unit b)) [
  | inl t ↦
      let u = both-unit a b t in
      subst (λ a. ByTwo (pair_of a b) (pair_of c d) a b c d pair_of) (sym u.0) (subst (λ b. ByTwo (pair_of nothing b) (pair_of c d) nothing b c d pair_of) (sym u.1) (record { composed = refl; wide = refl }))
  | inr f ↦ elim (true_or_false (is_unit c && is_unit d)) [
    | inl t ↦
        let u = both-unit c d t in
        subst (λ c. ByTwo (pair_of a b) (pair_of c d) a b c d pair_of) (sym u.0) (subst (λ d. ByTwo (pair_of a b) (pair_of nothing d) a b nothing d pair_of) (sym u.1) (record {
          composed = compose-nothing (pair_of a b) ∙ bind-pair a b;
          wide = wide-nothing (pair_of a b) ∙ sym (ap (λ w. w || is_wide b nothing) (wide-nothing a) ∙ wide-nothing b);
        }))
    | inr g ↦
        subst (λ p. ByTwo p (pair_of c d) a b c d pair_of) (sym (pair-some a b f)) (subst (λ q. ByTwo (both a b) q a b c d pair_of) (sym (pair-some c d g)) (record {
          composed = pairs-made a b c d (compose a c) (compose b d) f refl refl;
          wide = refl;
        }))
  ]
]

-- ---- sides of a sum

in-left-unit : (x : Element) → is_unit x ≡ true → in_left x ≡ nothing
in-left-unit x u = rw u refl

in-left-on : (x : Element) → is_unit x ≡ false → in_left x ≡ on_left x
in-left-on x u = rw u refl

on-left-full : (x : Element) → is_full x ≡ true → on_left x ≡ whole
on-left-full x f = rw f refl

on-left-part : (x : Element) → is_full x ≡ false → on_left x ≡ left x
on-left-part x f = rw f refl

-- what is full composes with no part that isn't the unit
none-full : (a : PlainAlgebra) (x y : Element) → IsElement a x → IsElement a y → is_full x ≡ true → is_unit y ≡ false → compose x y ≡ None
none-full a x y h k f u = full_alone x y (sound-of a x h) (sound-of a y k) f u

none-full_too : (a : PlainAlgebra) (x y : Element) → IsElement a x → IsElement a y → is_unit x ≡ false → is_full y ≡ true → compose x y ≡ None
none-full_too a x y h k u f = compose-comm x y (sound-of a x h) (sound-of a y k) ∙ none-full a y x k h f u

whole-in-left : (y : Element) → is_unit y ≡ false → (compose whole (in_left y) ≡ None)
whole-in-left y u = ap (compose whole) (in-left-on y u) ∙ elim (is_full y) as (λ b. compose whole (if b then whole else left y) ≡ None) [ true ↦ refl | false ↦ refl ]

left-in-whole : (x : Element) → is_unit x ≡ false → (compose (in_left x) whole ≡ None)
left-in-whole x u = ap (λ p. compose p whole) (in-left-on x u) ∙ elim (is_full x) as (λ b. compose (if b then whole else left x) whole ≡ None) [ true ↦ refl | false ↦ refl ]

in-left-made : (x y : Element) (r : Option Element) → is_unit x ≡ false → compose x y ≡ r → bind r (λ z. Some (on_left z)) ≡ bind r (λ z. Some (in_left z))
in-left-made x y None u e = refl
in-left-made x y (Some z) u e = ap (λ w. Some w) (sym (in-left-on z (composed-not-unit x y z u e)))

no-wide : {A : Type 0} (o : Option Element) → o ≡ None → (o ≢ None → A)
no-wide o e n = absurd (n e)

pub in-left-one : (x y : Element) → AreKin x y → ByOne (in_left x) (in_left y) x y in_left
in-left-one x y k = elim (true_or_false (is_unit x)) [
  | inl u ↦ subst (λ x. ByOne (in_left x) (in_left y) x y in_left) (sym (unit-is x u)) (record { composed = refl; wide = λ n. refl })
  | inr u ↦ elim (true_or_false (is_unit y)) [
    | inl v ↦ subst (λ y. ByOne (in_left x) (in_left y) x y in_left) (sym (unit-is y v)) (record {
      composed = compose-nothing (in_left x) ∙ sym (ap (λ o. bind o (λ z. Some (in_left z))) (compose-nothing x));
      wide = λ n. wide-nothing (in_left x) ∙ sym (wide-nothing x);
    })
    | inr v ↦ elim (true_or_false (is_full x)) [
      | inl f ↦
          let n = none-full k.0 x y k.2 k.3 f v in
          record {
            composed = ap (λ w. compose w (in_left y)) (in-left-on x u ∙ on-left-full x f) ∙ whole-in-left y v ∙ sym (ap (λ o. bind o (λ z. Some (in_left z))) n);
            wide = no-wide (compose x y) n;
          }
      | inr f ↦ elim (true_or_false (is_full y)) [
        | inl g ↦
            let n = none-full_too k.0 x y k.2 k.3 u g in
            record {
              composed = ap (compose (in_left x)) (in-left-on y v ∙ on-left-full y g) ∙ left-in-whole x u ∙ sym (ap (λ o. bind o (λ z. Some (in_left z))) n);
              wide = no-wide (compose x y) n;
            }
        | inr g ↦
            subst (λ p. ByOne p (in_left y) x y in_left) (sym (in-left-on x u ∙ on-left-part x f)) (subst (λ q. ByOne (left x) q x y in_left) (sym (in-left-on y v ∙ on-left-part y g)) (record {
              composed = in-left-made x y (compose x y) u refl;
              wide = λ n. refl;
            }))
      ]
    ]
  ]
]

-- what is full is at most what is full alone
above-full : (a : PlainAlgebra) (x y : Element) → IsElement a x → IsElement a y → is_full x ≡ true → is_full y ≡ false → at_most x y ≡ false
above-full a x y h k f g = elim (true_or_false (at_most x y)) [
  | inr e ↦ e
  | inl e ↦
      let p = completes a x y h k e in
      absurd (elim (true_or_false (is_unit p.0)) [
        | inl u ↦
            let s : x ≡ y = some-same _ _ (sym (compose-nothing x) ∙ ap (compose x) (sym (unit-is p.0 u)) ∙ p.2) in
            let c : true ≡ false = sym f ∙ ap is_full s ∙ g in cc
        | inr u ↦ let c : None ≡ Some y = sym (none-full a x p.0 h p.1 f u) ∙ p.2 in cc
      ])
]

below-full : (a : PlainAlgebra) (x y : Element) → IsElement a x → IsElement a y → is_full y ≡ true → at_most x y ≡ true
below-full a x y h k g = ap (at_most x) (full-only a y k g) ∙ at_most-full a x h

on-left-at_most-nothing : (x : Element) → at_most (on_left x) nothing ≡ false
on-left-at_most-nothing x = elim (is_full x) as (λ b. at_most (if b then whole else left x) nothing ≡ false) [ true ↦ refl | false ↦ refl ]

pub at_most-in-left : (x y : Element) → AreKin x y → at_most x y ≡ at_most (in_left x) (in_left y)
at_most-in-left x y k = elim (true_or_false (is_unit x)) [
  | inl u ↦ ap (λ x. at_most x y) (unit-is x u) ∙ sym (ap (λ p. at_most p (in_left y)) (in-left-unit x u))
  | inr u ↦ elim (true_or_false (is_unit y)) [
    | inl v ↦
        ap (at_most x) (unit-is y v) ∙ at_most-nothing x ∙ u
        ∙ sym (ap (at_most (in_left x)) (in-left-unit y v) ∙ ap (λ p. at_most p nothing) (in-left-on x u) ∙ on-left-at_most-nothing x)
    | inr v ↦ elim (true_or_false (is_full y)) [
      | inl g ↦
          below-full k.0 x y k.2 k.3 g
          ∙ sym (ap (at_most (in_left x)) (in-left-on y v ∙ on-left-full y g) ∙ ap (λ p. at_most p whole) (in-left-on x u) ∙ elim (is_full x) as (λ b. at_most (if b then whole else left x) whole ≡ true) [ true ↦ refl | false ↦ refl ])
      | inr g ↦ elim (true_or_false (is_full x)) [
        | inl f ↦
            above-full k.0 x y k.2 k.3 f g
            ∙ sym (ap (λ p. at_most p (in_left y)) (in-left-on x u ∙ on-left-full x f) ∙ ap (at_most whole) (in-left-on y v ∙ on-left-part y g))
        | inr f ↦ sym (ap (λ p. at_most p (in_left y)) (in-left-on x u ∙ on-left-part x f) ∙ ap (at_most (left x)) (in-left-on y v ∙ on-left-part y g))
      ]
    ]
  ]
]

-- the same for the right side

in-right-unit : (x : Element) → is_unit x ≡ true → in_right x ≡ nothing
in-right-unit x u = rw u refl

in-right-on : (x : Element) → is_unit x ≡ false → in_right x ≡ on_right x
in-right-on x u = rw u refl

on-right-full : (x : Element) → is_full x ≡ true → on_right x ≡ whole
on-right-full x f = rw f refl

on-right-part : (x : Element) → is_full x ≡ false → on_right x ≡ right x
on-right-part x f = rw f refl

whole-in-right : (y : Element) → is_unit y ≡ false → (compose whole (in_right y) ≡ None)
whole-in-right y u = ap (compose whole) (in-right-on y u) ∙ elim (is_full y) as (λ b. compose whole (if b then whole else right y) ≡ None) [ true ↦ refl | false ↦ refl ]

right-in-whole : (x : Element) → is_unit x ≡ false → (compose (in_right x) whole ≡ None)
right-in-whole x u = ap (λ p. compose p whole) (in-right-on x u) ∙ elim (is_full x) as (λ b. compose (if b then whole else right x) whole ≡ None) [ true ↦ refl | false ↦ refl ]

in-right-made : (x y : Element) (r : Option Element) → is_unit x ≡ false → compose x y ≡ r → bind r (λ z. Some (on_right z)) ≡ bind r (λ z. Some (in_right z))
in-right-made x y None u e = refl
in-right-made x y (Some z) u e = ap (λ w. Some w) (sym (in-right-on z (composed-not-unit x y z u e)))

pub in-right-one : (x y : Element) → AreKin x y → ByOne (in_right x) (in_right y) x y in_right
in-right-one x y k = elim (true_or_false (is_unit x)) [
  | inl u ↦ subst (λ x. ByOne (in_right x) (in_right y) x y in_right) (sym (unit-is x u)) (record { composed = refl; wide = λ n. refl })
  | inr u ↦ elim (true_or_false (is_unit y)) [
    | inl v ↦ subst (λ y. ByOne (in_right x) (in_right y) x y in_right) (sym (unit-is y v)) (record {
      composed = compose-nothing (in_right x) ∙ sym (ap (λ o. bind o (λ z. Some (in_right z))) (compose-nothing x));
      wide = λ n. wide-nothing (in_right x) ∙ sym (wide-nothing x);
    })
    | inr v ↦ elim (true_or_false (is_full x)) [
      | inl f ↦
          let n = none-full k.0 x y k.2 k.3 f v in
          record {
            composed = ap (λ w. compose w (in_right y)) (in-right-on x u ∙ on-right-full x f) ∙ whole-in-right y v ∙ sym (ap (λ o. bind o (λ z. Some (in_right z))) n);
            wide = no-wide (compose x y) n;
          }
      | inr f ↦ elim (true_or_false (is_full y)) [
        | inl g ↦
            let n = none-full_too k.0 x y k.2 k.3 u g in
            record {
              composed = ap (compose (in_right x)) (in-right-on y v ∙ on-right-full y g) ∙ right-in-whole x u ∙ sym (ap (λ o. bind o (λ z. Some (in_right z))) n);
              wide = no-wide (compose x y) n;
            }
        | inr g ↦
            subst (λ p. ByOne p (in_right y) x y in_right) (sym (in-right-on x u ∙ on-right-part x f)) (subst (λ q. ByOne (right x) q x y in_right) (sym (in-right-on y v ∙ on-right-part y g)) (record {
              composed = in-right-made x y (compose x y) u refl;
              wide = λ n. refl;
            }))
      ]
    ]
  ]
]

on-right-at_most-nothing : (x : Element) → at_most (on_right x) nothing ≡ false
on-right-at_most-nothing x = elim (is_full x) as (λ b. at_most (if b then whole else right x) nothing ≡ false) [ true ↦ refl | false ↦ refl ]

pub at_most-in-right : (x y : Element) → AreKin x y → at_most x y ≡ at_most (in_right x) (in_right y)
at_most-in-right x y k = elim (true_or_false (is_unit x)) [
  | inl u ↦ ap (λ x. at_most x y) (unit-is x u) ∙ sym (ap (λ p. at_most p (in_right y)) (in-right-unit x u))
  | inr u ↦ elim (true_or_false (is_unit y)) [
    | inl v ↦
        ap (at_most x) (unit-is y v) ∙ at_most-nothing x ∙ u
        ∙ sym (ap (at_most (in_right x)) (in-right-unit y v) ∙ ap (λ p. at_most p nothing) (in-right-on x u) ∙ on-right-at_most-nothing x)
    | inr v ↦ elim (true_or_false (is_full y)) [
      | inl g ↦
          below-full k.0 x y k.2 k.3 g
          ∙ sym (ap (at_most (in_right x)) (in-right-on y v ∙ on-right-full y g) ∙ ap (λ p. at_most p whole) (in-right-on x u) ∙ elim (is_full x) as (λ b. at_most (if b then whole else right x) whole ≡ true) [ true ↦ refl | false ↦ refl ])
      | inr g ↦ elim (true_or_false (is_full x)) [
        | inl f ↦
            above-full k.0 x y k.2 k.3 f g
            ∙ sym (ap (λ p. at_most p (in_right y)) (in-right-on x u ∙ on-right-full x f) ∙ ap (at_most whole) (in-right-on y v ∙ on-right-part y g))
        | inr f ↦ sym (ap (λ p. at_most p (in_right y)) (in-right-on x u ∙ on-right-part x f) ∙ ap (at_most (right x)) (in-right-on y v ∙ on-right-part y g))
      ]
    ]
  ]
]

-- ---- answers in code

pub two-error : {A B T : Type 0} (f : A → Element) (g : B → Element) (h : T → Element) (x y a b c d : Element) (make : Element → Element → Element) (r : Result (Option A) GuardError) (s : Result (Option B) GuardError) (q : Result (Option (A × B)) GuardError) (e : GuardError)
    → ByTwo x y a b c d make → IsComposition f a c r → IsComposition g b d s → q ≡ answer_of_both r s → q ≡ Err e → IsComposition h x y (Err e)
two-error f g h x y a b c d make r s q e t p k m n =
    error-composition {A = _ × _} (λ p. make (f p.0) (g p.1)) h x y e (subst (IsComposition (λ p. make (f p.0) (g p.1)) x y) (sym m ∙ n) (two-composition f g x y a b c d make r s t p k))

pub two-some : {A B : Type 0} (f : A → Element) (g : B → Element) (x y a b c d : Element) (make : Element → Element → Element) (r : Result (Option A) GuardError) (s : Result (Option B) GuardError) (q : Result (Option (A × B)) GuardError) (u : A) (v : B)
    → ByTwo x y a b c d make → IsComposition f a c r → IsComposition g b d s → q ≡ answer_of_both r s → q ≡ Ok (Some (u, v)) → (compose x y ≡ Some (make (f u) (g v))) × (is_wide x y ≡ false)
two-some f g x y a b c d make r s q u v t p k m n =
    subst (IsComposition (λ p. make (f p.0) (g p.1)) x y) (sym m ∙ n) (two-composition f g x y a b c d make r s t p k)

pub one-error : {A T : Type 0} (f : A → Element) (h : T → Element) (x y a c : Element) (make : Element → Element) (r : Result (Option A) GuardError) (e : GuardError)
    → ByOne x y a c make → IsComposition f a c r → r ≡ Err e → IsComposition h x y (Err e)
one-error f h x y a c make r e t p n = error-composition (λ z. make (f z)) h x y e (subst (IsComposition (λ z. make (f z)) x y) n (one-composition f x y a c make r t p))

pub one-some : {A : Type 0} (f : A → Element) (x y a c : Element) (make : Element → Element) (r : Result (Option A) GuardError) (z : A)
    → ByOne x y a c make → IsComposition f a c r → r ≡ Ok (Some z) → (compose x y ≡ Some (make (f z))) × (is_wide x y ≡ false)
one-some f x y a c make r z t p n = subst (IsComposition (λ z. make (f z)) x y) n (one-composition f x y a c make r t p)

pub error-at : {T : Type 0} (h : T → Element) (x x' y y' : Element) (e : GuardError) → x' ≡ x → y' ≡ y → IsComposition h x y (Err e) → IsComposition h x' y' (Err e)
error-at h x x' y y' e p q c = subst (λ w. IsComposition h w y' (Err e)) (sym p) (subst (λ w. IsComposition h x w (Err e)) (sym q) c)
