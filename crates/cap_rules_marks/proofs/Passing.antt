-- Attempts that come to a value, with certificates for what they owe, some of which are left out.
use Rattle.std.proofs.Common.{◌≡◌, ◌≤◌, List, [], ◌∷◌, ◌++◌, length, Option, Some, None, refl, ap, ◌∙◌, sym, subst, append_assoc, length-append, arith}
use Rattle.std.specs.List.{AllZip}
use Rattle.cap_lin.specs.Steps.{first_wide}
use Rattle.cap_lin.specs.declared.row.Row.{Row}
use Rattle.cap_lin.proofs.Results.{first-narrow, narrow-left, narrow-right}
use Rattle.cap_farkas.specs.declared.cert.Cert.{Cert}
use Rattle.cap_rules.specs.Attempts.{owed, Event, makes, claims, Attempt, go_on, ◌>>=◌}
use Rattle.cap_rules.specs.Answers.{steps_of, owed_lists}
use Rattle.cap_rules_marks.specs.Proven.{RefutesIfGiven}

pub none-some : {A : Type 0} {x : A} → None ≡ Some x → ⊥
none-some e = cc

pub same-some : {A : Type 0} (x y : A) → Some x ≡ Some y → x ≡ y
same-some x y e = cc

abbrev pub AllGiven : List (List Row) → List (Option Cert) → Type 0
AllGiven ls qs = AllZip RefutesIfGiven ls qs

pub record Passes {A : Type 0} (o : Attempt A) (qs : List (Option Cert)) (x : A) : Type 0 where
  pub value : o.value ≡ Some x
  pub narrow : first_wide (steps_of o.events) ≡ None
  pub refuted : AllGiven (owed_lists o.events) qs

-- ---- lists

pub steps-append : (es fs : List Event) → steps_of (es ++ fs) ≡ steps_of es ++ steps_of fs
steps-append [] fs = refl
steps-append (makes x ∷ es) fs = ap (λ r. x ∷ r) (steps-append es fs)
steps-append (claims c ∷ es) fs = steps-append es fs

pub lists-append : (es fs : List Event) → owed_lists (es ++ fs) ≡ owed_lists es ++ owed_lists fs
lists-append [] fs = refl
lists-append (makes x ∷ es) fs = lists-append es fs
lists-append (claims c ∷ es) fs = ap (λ r. owed c ++ r) (lists-append es fs) ∙ sym (append_assoc (owed c) (owed_lists es) (owed_lists fs))

zip-append : (xs ys : List (List Row)) (qs rs : List (Option Cert)) → AllGiven xs qs → AllGiven ys rs → AllGiven (xs ++ ys) (qs ++ rs)
zip-append [] ys [] rs h k = k
zip-append [] ys (q ∷ qs) rs h k = absurd h
zip-append (x ∷ xs) ys [] rs h k = absurd h
zip-append (x ∷ xs) ys (q ∷ qs) rs h k = (h.0, zip-append xs ys qs rs h.1 k)

record Cut (xs ys : List (List Row)) (qs : List (Option Cert)) : Type 0 where
  before : List (Option Cert)
  after : List (Option Cert)
  first : AllGiven xs before
  second : AllGiven ys after
  joined : before ++ after ≡ qs

zip-cut : (xs ys : List (List Row)) (qs : List (Option Cert)) → AllGiven (xs ++ ys) qs → Cut xs ys qs
zip-cut [] ys qs h = record { before = []; after = qs; first = tt; second = h; joined = refl }
zip-cut (x ∷ xs) ys [] h = absurd h
zip-cut (x ∷ xs) ys (q ∷ qs) h =
    let k = zip-cut xs ys qs h.1 in
    record { before = q ∷ k.before; after = k.after; first = (h.0, k.first); second = k.second; joined = ap (λ r. q ∷ r) k.joined }

-- ---- one attempt after another

chain-by : {A B : Type 0} (es : List Event) (v : Option A) (f : A → Attempt B) (qs rs : List (Option Cert)) (x : A) (y : B) → v ≡ Some x → first_wide (steps_of es) ≡ None → AllGiven (owed_lists es) qs → Passes (f x) rs y → Passes (go_on es v f) (qs ++ rs) y
chain-by es None f qs rs x y e n h k = absurd (none-some e)
chain-by es (Some z) f qs rs x y e n h k =
    let w = subst (λ u. Passes (f u) rs y) (sym (same-some z x e)) k in
    record {
      value = w.value;
      narrow = ap first_wide (steps-append es (f z).events) ∙ (first-narrow (steps_of es) (steps_of (f z).events) n ∙ w.narrow);
      refuted = subst (λ l. AllGiven l (qs ++ rs)) (sym (lists-append es (f z).events)) (zip-append (owed_lists es) (owed_lists (f z).events) qs rs h w.refuted);
    }

pub passes-chain : {A B : Type 0} (o : Attempt A) (f : A → Attempt B) (qs rs : List (Option Cert)) (x : A) (y : B) → Passes o qs x → Passes (f x) rs y → Passes (o >>= f) (qs ++ rs) y
passes-chain o f qs rs x y h k = chain-by o.events o.value f qs rs x y h.value h.narrow h.refuted k

pub record Parts {A B : Type 0} (o : Attempt A) (f : A → Attempt B) (qs : List (Option Cert)) (y : B) : Type 0 where
  pub middle : A
  pub before : List (Option Cert)
  pub after : List (Option Cert)
  pub first : Passes o before middle
  pub second : Passes (f middle) after y
  pub joined : before ++ after ≡ qs

parts-by : {A B : Type 0} (o : Attempt A) (f : A → Attempt B) (qs : List (Option Cert)) (y : B) (v : Option A) → o.value ≡ v → Passes (go_on o.events v f) qs y → Parts o f qs y
parts-by o f qs y None e h = absurd (none-some h.value)
parts-by o f qs y (Some x) e h =
    let n = sym (ap first_wide (steps-append o.events (f x).events)) ∙ h.narrow in
    let k = zip-cut (owed_lists o.events) (owed_lists (f x).events) qs (subst (λ l. AllGiven l qs) (lists-append o.events (f x).events) h.refuted) in
    record {
      middle = x;
      before = k.before;
      after = k.after;
      first = record { value = e; narrow = narrow-left (steps_of o.events) (steps_of (f x).events) n; refuted = k.first };
      second = record { value = h.value; narrow = narrow-right (steps_of o.events) (steps_of (f x).events) n; refuted = k.second };
      joined = k.joined;
    }

pub passes-parts : {A B : Type 0} (o : Attempt A) (f : A → Attempt B) (qs : List (Option Cert)) (y : B) → Passes (o >>= f) qs y → Parts o f qs y
passes-parts o f qs y h = parts-by o f qs y o.value refl h

-- ---- from one attempt to another, whose last certificates differ

pub record Carries {B : Type 0} (f g : Attempt B) (ms ns : List (Option Cert)) (E : Type 0) : Type 0 where
  pub least : (qs : List (Option Cert)) (y : B) → Passes f qs y → length ms ≤ length qs
  pub carried : (ds : List (Option Cert)) (y : B) → Passes f (ds ++ ms) y → (z : B) × Passes g (ds ++ ns) z × E

pub record Behind {X : Type 0} (xs bs ds ms : List X) : Type 0 where
  pub extra : List X
  pub after : bs ≡ extra ++ ms
  pub before : ds ≡ xs ++ extra

pub same-head : {X : Type 0} (x y : X) (xs ys : List X) → x ∷ xs ≡ y ∷ ys → x ≡ y
same-head x y xs ys e = cc

pub same-tail : {X : Type 0} (x y : X) (xs ys : List X) → x ∷ xs ≡ y ∷ ys → xs ≡ ys
same-tail x y xs ys e = cc

pub behind-by : {X : Type 0} (xs bs ds ms : List X) → xs ++ bs ≡ ds ++ ms → length ms ≤ length bs → Behind xs bs ds ms
behind-by [] bs ds ms e l = record { extra = ds; after = e; before = refl }
behind-by (a ∷ xs) bs [] ms e l =
    let n : length (a ∷ (xs ++ bs)) ≡ length ms = ap length e in
    let k = length-append xs bs in
    absurd (omega (arith, n, k, l))
behind-by (a ∷ xs) bs (d ∷ ds) ms e l =
    let r = behind-by xs bs ds ms (same-tail a d (xs ++ bs) (ds ++ ms) e) l in
    record { extra = r.extra; after = r.after; before = ap (λ x. x ∷ ds) (sym (same-head a d (xs ++ bs) (ds ++ ms) e)) ∙ ap (λ x. a ∷ x) r.before }

pub carry : {A B : Type 0} (o : Attempt A) (f g : A → Attempt B) (ms ns : List (Option Cert)) (E : Type 0) → ((x : A) → Carries (f x) (g x) ms ns E) → Carries (o >>= f) (o >>= g) ms ns E
carry {B = B} o f g ms ns E k = record { least = least; carried = carried }
  where
    least : (qs : List (Option Cert)) (y : B) → Passes (o >>= f) qs y → length ms ≤ length qs
    least qs y h =
        let q = passes-parts o f qs y h in
        let l = (k q.middle).least q.after y q.second in
        let j : length (q.before ++ q.after) ≡ length qs = ap length q.joined in
        let n = length-append q.before q.after in
        omega (arith, l, j, n)

    carried : (ds : List (Option Cert)) (y : B) → Passes (o >>= f) (ds ++ ms) y → (z : B) × Passes (o >>= g) (ds ++ ns) z × E
    carried ds y h =
        let q = passes-parts o f (ds ++ ms) y h in
        let l = (k q.middle).least q.after y q.second in
        let s = behind-by q.before q.after ds ms q.joined l in
        let z = (k q.middle).carried s.extra y (subst (λ r. Passes (f q.middle) r y) s.after q.second) in
        let e : q.before ++ (s.extra ++ ns) ≡ ds ++ ns = sym (append_assoc q.before s.extra ns) ∙ ap (λ d. d ++ ns) (sym s.before) in
        (z.0, subst (λ r. Passes (o >>= g) r z.0) e (passes-chain o g q.before (s.extra ++ ns) q.middle z.0 q.first z.1), z.2)
