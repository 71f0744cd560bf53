-- A choice that was tried has the certificates of its proofs.
use Rattle.std.proofs.Common.{◌≡◌, ℤ, List, [], ◌∷◌, ◌++◌, Option, Some, None, refl, ap, ◌∙◌, sym, subst, append_assoc}
use Rattle.std.specs.List.{AllZip}
use Rattle.cap_lin.specs.Steps.{Step, first_wide}
use Rattle.cap_lin.specs.declared.row.Row.{Row}
use Rattle.cap_lin.proofs.Results.{first-narrow, narrow-left, narrow-right}
use Rattle.cap_farkas.specs.declared.cert.Cert.{Cert}
use Rattle.cap_fm_spec.specs.Events.{Limit, first_limit}
use Rattle.cap_fm_spec.specs.Solving.{solved}
use Rattle.cap_rules.specs.Attempts.{owed, Event, makes, claims, Attempt, go_on, ◌>>=◌}
use Rattle.cap_rules.specs.Answers.{Answer, applies, inapplicable, too_wide, steps_of, owed_lists, answer_unless, lists_if, proofs_of}
use Rattle.cap_offer_spec.specs.Deciding.{PlainNotes, decision, decided, and_then, decided_all, certified_by}
use Rattle.cap_offer_spec.specs.Laws.{IsDecided}

none-some : {A : Type 0} {x : A} → None ≡ Some x → ⊥
none-some e = cc

same-some : {A : Type 0} (x y : A) → Some x ≡ Some y → x ≡ y
same-some x y e = cc

-- ---- decisions
decision-is : (rows : List Row) (o : Option Limit) (v : Option Cert) (n : PlainNotes) (c : Cert) → first_limit (solved rows).events ≡ o → (solved rows).value ≡ v → (decision o v n).value ≡ Some c → IsDecided rows c
decision-is rows None v n c a b h = record { value = b ∙ h; limits = a }
decision-is rows (Some l) v n c a b h = absurd (none-some h)

pub decided-is : (rows : List Row) (n : PlainNotes) (c : Cert) → (decided rows n).value ≡ Some c → IsDecided rows c
unfolding decided
decided-is rows n c h = decision-is rows (first_limit (solved rows).events) (solved rows).value n c refl refl h

all-by : (l : List Row) (ls : List (List Row)) (n m : PlainNotes) (cs : List Cert) (o : Option Cert) (q : Option (List Cert)) → (decided l n).value ≡ o → (decided_all ls m).value ≡ q → ((ds : List Cert) → (decided_all ls m).value ≡ Some ds → AllZip IsDecided ls ds) →
    (and_then o (decided_all ls) m).value ≡ Some cs → AllZip IsDecided (l ∷ ls) cs
all-by l ls n m cs None q a b f h = absurd (none-some h)
all-by l ls n m cs (Some c) None a b f h = absurd (let k = rw b at h in none-some k)
all-by l ls n m cs (Some c) (Some ds) a b f h = let k : c ∷ ds ≡ cs = (let k = rw b at h in same-some (c ∷ ds) cs k) in subst (AllZip IsDecided (l ∷ ls)) k (decided-is l n c a, f ds b)

pub all-decided : (ls : List (List Row)) (n : PlainNotes) (cs : List Cert) → (decided_all ls n).value ≡ Some cs → AllZip IsDecided ls cs
unfolding decided_all
all-decided [] n cs h = subst (AllZip IsDecided []) (same-some [] cs h) tt
all-decided (l ∷ ls) n cs h = all-by l ls n (decided l n).notes cs (decided l n).value (decided_all ls (decided l n).notes).value refl refl (λ ds k. all-decided ls (decided l n).notes ds k) h

-- ---- attempts that come to a value

pub record Runs {A : Type 0} (o : Attempt A) (ls : List (List Row)) (x : A) : Type 0 where
  pub value : o.value ≡ Some x
  pub narrow : first_wide (steps_of o.events) ≡ None
  pub lists : owed_lists o.events ≡ ls

pub record Comes {A : Type 0} (o : Attempt A) (ls : List (List Row)) : Type 0 where
  pub result : A
  pub runs : Runs o ls result

applies-one : {A : Type 0} (x y : A) → applies x ≡ applies y → x ≡ y
applies-one x y e = cc

not-applies : {A : Type 0} (x : A) → inapplicable ≡ applies x → ⊥
not-applies x e = cc

wide-applies : {A : Type 0} (x : A) (a b : ℤ) → too_wide a b ≡ applies x → ⊥
wide-applies x a b e = cc

comes-by : {A : Type 0} (o : Attempt A) (ls : List (List Row)) (w : Option (ℤ × ℤ)) (v : Option A) → first_wide (steps_of o.events) ≡ w → o.value ≡ v → answer_unless w (lists_if (owed_lists o.events) v) ≡ applies ls → Comes o ls
comes-by o ls (Some w) v a b h = absurd (wide-applies ls w.0 w.1 h)
comes-by o ls None None a b h = absurd (not-applies ls h)
comes-by o ls None (Some x) a b h = record { result = x; runs = record { value = b; narrow = a; lists = applies-one (owed_lists o.events) ls h } }

pub proofs-come : {A : Type 0} (o : Attempt A) (ls : List (List Row)) → proofs_of o ≡ applies ls → Comes o ls
proofs-come o ls h = comes-by o ls (first_wide (steps_of o.events)) o.value refl refl h

-- the lists, and their certificates
pub record Certifies (a : Answer (List (List Row))) (cs : List Cert) : Type 0 where
  pub lists : List (List Row)
  pub answer : a ≡ applies lists
  pub decided : AllZip IsDecided lists cs

pub certifies : (a : Answer (List (List Row))) (n : PlainNotes) (cs : List Cert) → (certified_by a n).value ≡ Some cs → Certifies a cs
certifies (applies ls) n cs h = record { lists = ls; answer = refl; decided = all-decided ls n cs h }
certifies inapplicable n cs h = absurd (none-some h)
certifies (too_wide a b) n cs h = absurd (none-some h)

-- ---- one attempt after another
steps-join : (es fs : List Event) → steps_of (es ++ fs) ≡ steps_of es ++ steps_of fs
steps-join [] fs = refl
steps-join (makes x ∷ es) fs = ap (λ r. x ∷ r) (steps-join es fs)
steps-join (claims c ∷ es) fs = steps-join es fs

lists-join : (es fs : List Event) → owed_lists (es ++ fs) ≡ owed_lists es ++ owed_lists fs
lists-join [] fs = refl
lists-join (makes x ∷ es) fs = lists-join es fs
lists-join (claims c ∷ es) fs = ap (λ r. owed c ++ r) (lists-join es fs) ∙ sym (append_assoc (owed c) (owed_lists es) (owed_lists fs))

narrow-join : (xs ys : List Step) → first_wide xs ≡ None → first_wide ys ≡ None → first_wide (xs ++ ys) ≡ None
narrow-join xs ys a b = first-narrow xs ys a ∙ b

runs-by : {A B : Type 0} (es : List Event) (v : Option A) (f : A → Attempt B) (ls ms : List (List Row)) (x : A) (y : B) → v ≡ Some x → first_wide (steps_of es) ≡ None → owed_lists es ≡ ls → Runs (f x) ms y → Runs (go_on es v f) (ls ++ ms) y
runs-by es None f ls ms x y a b c r = absurd (none-some a)
runs-by es (Some z) f ls ms x y a b c r =
    let k : z ≡ x = same-some z x a in
    let q = subst (λ u. Runs (f u) ms y) (sym k) r in
    record {
      value = q.value;
      narrow = ap first_wide (steps-join es (f z).events) ∙ narrow-join (steps_of es) (steps_of (f z).events) b q.narrow;
      lists = lists-join es (f z).events ∙ (rw (c, q.lists) refl);
    }

pub runs-chain : {A B : Type 0} (o : Attempt A) (f : A → Attempt B) (ls ms : List (List Row)) (x : A) (y : B) → Runs o ls x → Runs (f x) ms y → Runs (o >>= f) (ls ++ ms) y
runs-chain o f ls ms x y r q = runs-by o.events o.value f ls ms x y r.value r.narrow r.lists q

-- what comes to a value did so on the way
pub record Parts {A B : Type 0} (o : Attempt A) (f : A → Attempt B) (ls : List (List Row)) (y : B) : Type 0 where
  pub middle : A
  pub before : List (List Row)
  pub after : List (List Row)
  pub first : Runs o before middle
  pub second : Runs (f middle) after y
  pub joined : before ++ after ≡ ls

parts-by : {A B : Type 0} (o : Attempt A) (f : A → Attempt B) (ls : List (List Row)) (y : B) (v : Option A) → o.value ≡ v → Runs (go_on o.events v f) ls y → Parts o f ls y
parts-by o f ls y None a r = absurd (none-some r.value)
parts-by o f ls y (Some x) a r =
    let n = sym (ap first_wide (steps-join o.events (f x).events)) ∙ r.narrow in
    record {
      middle = x;
      before = owed_lists o.events;
      after = owed_lists (f x).events;
      first = record { value = a; narrow = narrow-left (steps_of o.events) (steps_of (f x).events) n; lists = refl };
      second = record { value = r.value; narrow = narrow-right (steps_of o.events) (steps_of (f x).events) n; lists = refl };
      joined = sym (lists-join o.events (f x).events) ∙ r.lists;
    }

pub runs-parts : {A B : Type 0} (o : Attempt A) (f : A → Attempt B) (ls : List (List Row)) (y : B) → Runs (o >>= f) ls y → Parts o f ls y
runs-parts o f ls y r = parts-by o f ls y o.value refl r
