-- The finding that is refused is one of the findings, and none is before it.
use Rattle.std.proofs.Common.{inl, inr, true≢false, is_none, ◌≡◌, ℕ, nat_lt, Bool, true, false, ◌||◌, ◌&&◌, ◌==◌, if◌then◌else◌, List, [], ◌∷◌, Option, Some, None, fold, refl, sym, ap, ◌∙◌, subst, arith}
use Rattle.std.proofs.lemmas.Bool.Decides.{nat_tests}
use Rattle.std.proofs.lemmas.Option.{same_Some}
use Rattle.cap_parse_tree.specs.Tree.{FunctionTree, ProgramTree}
use Rattle.cap_resolve_spec.specs.Finding.{Finding, cause_number, is_before, note, first_finding}
use Rattle.cap_resolve_spec.specs.Refusal.{IsOneOf, IsFirst, IsRefusal, IsRight}
use Rattle.cap_resolve_spec.specs.Stands.{findings, main_of, main_missing, or_else, refusal}

abbrev before : ℕ → ℕ → ℕ → ℕ → ℕ → ℕ → Bool
before l c n m d k = (nat_lt l m || (l == m && nat_lt c d)) || ((l == m && c == d) && nat_lt n k)

not_before_self : (l c n : ℕ) → before l c n l c n ≡ false
not_before_self l c n = grind (arith, nat_tests)

not_both : (l c n m d k : ℕ) → before l c n m d k ≡ true → before m d k l c n ≡ false
not_both l c n m d k e = grind (arith, nat_tests, e)

not_through : (l c n m d k o p q : ℕ) → before l c n m d k ≡ false → before m d k o p q ≡ false → before l c n o p q ≡ false
not_through l c n m d k o p q e h = grind (arith, nat_tests, e, h)

self_last : (g : Finding) → is_before g g ≡ false
self_last g = not_before_self g.place.line g.place.column (cause_number g.cause)

before_one_way : (f g : Finding) → is_before f g ≡ true → is_before g f ≡ false
before_one_way f g e = not_both f.place.line f.place.column (cause_number f.cause) g.place.line g.place.column (cause_number g.cause) e

never_through : (f g h : Finding) → is_before f g ≡ false → is_before g h ≡ false → is_before f h ≡ false
never_through f g h e d = not_through f.place.line f.place.column (cause_number f.cause) g.place.line g.place.column (cause_number g.cause) h.place.line h.place.column (cause_number h.cause) e d

record Noted (g : Finding) (fs : List Finding) : Type 0 where
  found : Finding
  is_noted : fold note (Some g) fs ≡ Some found
  first : IsFirst found (g ∷ fs)

noted : (g : Finding) (fs : List Finding) → Noted g fs
noted g [] = record { found = g; is_noted = refl; first = record { there = inl refl; none = (self_last g, tt) } }
noted g (h ∷ hs) = by (is_before h g) refl (noted h hs) (noted g hs)
  where
    with_h : is_before h g ≡ true → (n : Noted h hs) → fold note (Some (if is_before h g then h else g)) hs ≡ Some n.found
    with_h e n = rw e n.is_noted

    with_g : is_before h g ≡ false → (n : Noted g hs) → fold note (Some (if is_before h g then h else g)) hs ≡ Some n.found
    with_g e n = rw e n.is_noted

    later : {f : Finding} → IsOneOf f (g ∷ hs) → IsOneOf f (g ∷ h ∷ hs)
    later (inl e) = inl e
    later (inr i) = inr (inr i)

    by : (b : Bool) → is_before h g ≡ b → Noted h hs → Noted g hs → Noted g (h ∷ hs)
    by true e n _ = record {
      found = n.found;
      is_noted = with_h e n;
      first = record { there = inr n.first.there; none = (never_through g h n.found (before_one_way h g e) n.first.none.0, n.first.none) };
    }
    by false e _ n = record {
      found = n.found;
      is_noted = with_g e n;
      first = record { there = later n.first.there; none = (n.first.none.0, (never_through h g n.found e n.first.none.0, n.first.none.1)) };
    }

some_not_none : {A B : Type 0} {x : A} → Some x ≡ None → B
some_not_none e = absurd (true≢false (sym (ap is_none e)))

pub first-is : (fs : List Finding) (f : Finding) → first_finding fs ≡ Some f → IsFirst f fs
first-is [] f e = some_not_none (sym e)
first-is (g ∷ gs) f e = subst (λ x. IsFirst x (g ∷ gs)) (same_Some (noted g gs).found f (sym (noted g gs).is_noted ∙ e)) (noted g gs).first

-- nothing is refused exactly where nothing is found
pub first-none : (fs : List Finding) → first_finding fs ≡ None → fs ≡ []
first-none [] e = refl
first-none (g ∷ gs) e = some_not_none (sym (noted g gs).is_noted ∙ e)

pub refusal-is : (t : ProgramTree) (f : Finding) → refusal t ≡ Some f → IsRefusal t f
refusal-is t f e = by (first_finding (findings t)) refl e
  where
    missing : findings t ≡ [] → (m : Option FunctionTree) → main_of t ≡ m → main_missing m ≡ Some f → IsRefusal t f
    missing n None h d = inr (record { nothing = n; missing = h; is = sym (same_Some _ f d) })
    missing n (Some g) h d = some_not_none (sym d)

    by : (o : Option Finding) → first_finding (findings t) ≡ o → or_else o (main_missing (main_of t)) ≡ Some f → IsRefusal t f
    by (Some g) h d = inl (first-is (findings t) f (h ∙ d))
    by None h d = missing (first-none (findings t) h) (main_of t) refl d

pub unrefused-right : (t : ProgramTree) → refusal t ≡ None → IsRight t
unrefused-right t e = by (first_finding (findings t)) refl e
  where
    by : (o : Option Finding) → first_finding (findings t) ≡ o → or_else o (main_missing (main_of t)) ≡ None → IsRight t
    by (Some g) h d = some_not_none d
    by None h d = record { nothing = first-none (findings t) h; main = λ m. some_not_none (sym (ap main_missing m) ∙ d) }

pub right-unrefused : (t : ProgramTree) → IsRight t → refusal t ≡ None
right-unrefused t r = rw r.nothing (by (main_of t) refl)
  where
    by : (m : Option FunctionTree) → main_of t ≡ m → main_missing m ≡ None
    by None h = absurd (r.main h)
    by (Some f) h = refl
