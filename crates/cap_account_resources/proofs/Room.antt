-- What the table has room for: all guards of each of its regions, and none of other numbers; a
-- region is created with all of its guards.
use Rattle.std.proofs.Common.{◌≡◌, ◌≢◌, ℕ, ℤ, Bool, true, false, Option, Some, None, refl, sym, ap, ◌∙◌, subst}
use Rattle.std.specs.Prelude.{if◌then◌else◌}
use Rattle.cap_lin.specs.Linear.{same_number}
use Rattle.cap_galg.specs.Elements.{Element, compose}
use Rattle.cap_galg.specs.Algebras.{full}
use Rattle.cap_prog.specs.Program.{PlainProgram}
use Rattle.cap_machine_accounts.specs.Parts.{Guard, algebra_of}
use Rattle.cap_account_resources.specs.Parts.{Known, Table}
use Rattle.cap_account_resources.proofs.Lists.{some-same}
use Rattle.cap_account_resources.proofs.Order.{same-int, same-refl}
use Rattle.cap_account_resources.proofs.Marks.{Mark, free, of, is, is-full, fit, fitting, wrap, meet_if, joins-law}
use Rattle.cap_account_resources.proofs.Covering.{join_marks, IsPartOf}
use Rattle.cap_account_resources.proofs.Interference.{Holding}

-- ---- the table's room

abbrev pub all_guards : PlainProgram → ℕ → Option Mark
all_guards p k = Some (of k (full (algebra_of p k)))

abbrev pub room_of : PlainProgram → Option Known → Option Mark
room_of p None = Some free
room_of p (Some e) = all_guards p e.kind

-- of a region in the table all its guards, and of other numbers none
abbrev pub room : PlainProgram → Table → Holding
room p T n = room_of p (T n)

pub room-some : (p : PlainProgram) (T : Table) (n : ℤ) → room p T n ≢ None
room-some p T n = by (T n)
  where
    by : (o : Option Known) → room_of p o ≢ None
    by None e = absurd (cc)
    by (Some x) e = absurd (cc)

-- what is part of something is something
pub part-some : (p : PlainProgram) (a b : Option Mark) → IsPartOf p a b → b ≢ None → a ≢ None
part-some p a b h ne e = ne (sym h.1 ∙ ap (λ x. join_marks p x h.0) e)

pub part-join :
    (p : PlainProgram) (a b c : Option Mark) → IsPartOf p a b →
    IsPartOf p (join_marks p a c) (join_marks p b c)
part-join p a b c h =
    let l = joins-law p in (
      h.0,
      l.assoc a c h.0 ∙ ap (join_marks p a) (l.comm c h.0) ∙ sym (l.assoc a h.0 c) ∙ ap
          (λ x. join_marks p x c) h.1,
    )

-- guards within the room are of a region in the table and of its type, and elements
pub record InRoom (p : PlainProgram) (T : Table) (n : ℤ) (k : ℕ) (x : Element) : Type 0 where
  pub known : Known
  pub is_known : T n ≡ Some known
  pub of_kind : known.kind ≡ k
  pub is_guard : is p k x ≡ true

mark-same : (k : ℕ) (x : Element) (j : ℕ) (y : Element) → of k x ≡ of j y → (k ≡ j) × (x ≡ y)
mark-same k x j y e =
    let s = some-same (record { kind = k; element = x }) (record { kind = j; element = y }) e in
    (ap (λ (g : Guard). g.kind) s, ap (λ (g : Guard). g.element) s)

pub in-room :
    (p : PlainProgram) (T : Table) (n : ℤ) (k : ℕ) (x : Element) →
    IsPartOf p (Some (of k x)) (room p T n) → InRoom p T n k x
in-room p T n k x h = by (T n) refl h.0 h.1
  where
    -- guards never join to the unit
    not-free : (b : Bool) (j : ℕ) (y : Element) → meet_if b k x y ≡ Some free → InRoom p T n k x
    not-free true j y e = inside (compose x y) e
      where
        inside : (o : Option Element) → wrap k o ≡ Some free → InRoom p T n k x
        inside None e = absurd (cc)
        inside (Some z) e = absurd (cc)
    not-free false j y e = absurd (cc)

    by :
        (o : Option Known) → T n ≡ o → (c : Option Mark) →
        join_marks p (Some (of k x)) c ≡ room_of p o → InRoom p T n k x
    by None t None e = absurd (cc)
    by None t (Some None) e = absurd (cc)
    by None t (Some (Some h)) e = not-free (fit p k x h.kind h.element) h.kind h.element e
    by (Some w) t None e = absurd (cc)
    by (Some w) t (Some None) e =
        let s = mark-same k x w.kind (full (algebra_of p w.kind))
        (some-same (of k x) (of w.kind (full (algebra_of p w.kind))) e) in
        record {
          known = w;
          is_known = t;
          of_kind = sym s.0;
          is_guard =
              subst (λ y. is p k y ≡ true) (sym s.1)
              (subst (λ j. is p j (full (algebra_of p w.kind)) ≡ true) (sym s.0)
              (is-full p w.kind));
        }
    by (Some w) t (Some (Some h)) e = fits (fit p k x h.kind h.element) refl e
      where
        inside :
            (o : Option Element) → wrap k o ≡ all_guards p w.kind → is p k x ≡ true →
            InRoom p T n k x
        inside None e i = absurd (cc)
        inside (Some z) e i =
            record {
              known = w;
              is_known = t;
              of_kind =
                  sym (mark-same k z w.kind (full (algebra_of p w.kind))
                  (some-same (of k z) (of w.kind (full (algebra_of p w.kind))) e)).0;
              is_guard = i;
            }

        fits :
            (b : Bool) → fit p k x h.kind h.element ≡ b →
            meet_if b k x h.element ≡ all_guards p w.kind → InRoom p T n k x
        fits true f e = inside (compose x h.element) e (fitting p k x h.kind h.element f).first
        fits false f e = absurd (cc)

-- ---- guards at one region

abbrev pub alone : ℤ → Option Mark → Holding
alone r m n = if same_number r n then m else Some free

pub alone-here : (r : ℤ) (m : Option Mark) (n : ℤ) → r ≡ n → alone r m n ≡ m
alone-here r m n e = ap (λ b. if b then m else Some free) (ap (same_number r) (sym e) ∙ same-refl r)

pub alone-away : (r : ℤ) (m : Option Mark) (n : ℤ) → r ≢ n → alone r m n ≡ Some free
alone-away r m n ne = by (same_number r n) refl
  where
    by : (b : Bool) → same_number r n ≡ b → (if b then m else Some free) ≡ Some free
    by true e = absurd (ne (same-int r n e))
    by false e = refl

pub alone-join :
    (p : PlainProgram) (r : ℤ) (a b : Option Mark) (n : ℤ) →
    join_marks p (alone r a n) (alone r b n) ≡ alone r (join_marks p a b) n
alone-join p r a b n = by (same_number r n)
  where
    by :
        (t : Bool) →
        join_marks p (if t then a else Some free) (if t then b else Some free) ≡
        (if t then join_marks p a b else Some free)
    by true = refl
    by false = refl

-- ---- creation

abbrev pub with_known : Table → ℤ → Known → Table
with_known T r e n = if same_number r n then Some e else T n
