-- Facts that say just what the table does: at other values, one of them changed, and what is held
-- of their regions.
use Rattle.std.proofs.Common.{◌≡◌, ◌≢◌, ℕ, zero, suc, ℤ, List, [], ◌∷◌, map, Option, Some, None, inl, inr, refl, sym, ap, ◌∙◌, subst}
use Rattle.std.specs.Prelude.{slice_get, slice_set}
use Rattle.std.specs.List.{AllByRecursion}
use Rattle.std.proofs.lemmas.Bool.{cases_eq}
use Rattle.cap_lin.specs.Linear.{Linear}
use Rattle.cap_lin.specs.Values.{Valuation, value}
use Rattle.cap_prog.specs.Program.{PlainProgram}
use Rattle.cap_machine_accounts.specs.Accounts.{EachTwo}
use Rattle.cap_goal_spec.specs.States.{PlainFact, PlainState}
use Rattle.cap_account_states.proofs.Alike.{values-alike, Alike, value-alike}
use Rattle.cap_account_resources.proofs.Lists.{all-set, some-same, none-some, all-more, get-set-other}
use Rattle.cap_account_resources.specs.Parts.{Known, known_as, Table}
use Rattle.cap_account_resources.proofs.Marks.{Mark}
use Rattle.cap_account_resources.proofs.Covering.{IsPartOf, Covered}
use Rattle.cap_account_resources.proofs.Room.{room, room-some, part-some, in-room}
use Rattle.cap_account_states.proofs.Terms.{Over, vars-more}
use Rattle.cap_account_states.proofs.Compatible.{pieces-more, covered-alike}
use Rattle.cap_account_states.proofs.Meets.{Usable, Old, usable-old}
use Rattle.cap_account_states.proofs.Backed.{Grounded}
use Rattle.cap_account_steps.proofs.Fitting.{IsOfKind}
use Rattle.cap_account_steps.proofs.Worlds.{Exact, AllOver}

-- ---- at other values

-- the table's entry with this state, where the region and its arguments are over these variables
-- and the state gets the value
pub told-alike :
    (P : ℕ → Type 0) (v w : Valuation) (T : Table) → Alike P v w → (f : PlainFact) (t : Linear)
    (b : ℤ) → Over P f.region → AllByRecursion (Over P) f.args → value w.whole t ≡ b →
    T (value v.whole f.region) ≡ Some (known_as f.kind (map (value v.whole) f.args) (Some b)) →
    Exact w T (record f { state = t })
told-alike P v w T a f t b r as' e h =
    let er = value-alike P v w a f.region r in
    let es = values-alike P v w a f.args as' in
    rw (er, es, e) h

pub exact-alike :
    (P : ℕ → Type 0) (v w : Valuation) (T : Table) → Alike P v w → (f : PlainFact) → AllOver P f →
    Exact v T f → Exact w T f
exact-alike P v w T a f o h =
    told-alike P v w T a f f.state (value v.whole f.state) o.0 o.1 (value-alike P v w a f.state o.2)
    h

pub over-more :
    (P Q : ℕ → Type 0) → ((x : ℕ) → P x → Q x) → (f : PlainFact) → AllOver P f → AllOver Q f
over-more P Q g f h =
    let more = λ (t : Linear) (o : Over P t). vars-more P Q g t.parts o in
    (more f.region h.0, all-more (Over P) (Over Q) more f.args h.1, more f.state h.2)

-- what is held covers the pieces of a state at values that are alike on its variables
pub covered-old :
    (p : PlainProgram) (ks : List ℕ) (v w : Valuation) (s : PlainState) → Alike (Old s) v w →
    Grounded p ks v s → (n : ℤ) (m : Option Mark) → Covered p v s.guards n m →
    Covered p w s.guards n m
covered-old p ks v w s a g n m c =
    covered-alike p (Old s) v w a s.guards n m
    (pieces-more (Usable ks s.sorts) (λ o. Old s) (usable-old ks s.sorts) s.guards g.pieces_over) c

-- ---- by number

abbrev pub Each : {X : Type 0} → (ℕ → X → Type 0) → List X → Type 0
Each {X} P xs = (i : ℕ) (x : X) → slice_get xs i ≡ Some x → P i x

pub set-here :
    {X : Type 0} (xs : List X) (j : ℕ) (y x : X) → slice_get (slice_set xs j y) j ≡ Some x → y ≡ x
set-here [] j y x e = absurd (none-some e)
set-here (z ∷ xs) zero y x e = some-same y x e
set-here (z ∷ xs) (suc j) y x e = set-here xs j y x e

pub each-set :
    {X : Type 0} (P Q : ℕ → X → Type 0) (xs : List X) (j : ℕ) (y : X) →
    ((i : ℕ) (x : X) → i ≢ j → P i x → Q i x) → Q j y → Each P xs → Each Q (slice_set xs j y)
each-set P Q xs j y others new each i x e = elim (cases_eq i j) [
  | inl q ↦
      subst (Q i) (set-here xs j y x (ap (slice_get (slice_set xs j y)) (sym q) ∙ e))
      (subst (λ k. Q k y) (sym q) new)
  | inr ne ↦ others i x ne (each i x (sym (get-set-other xs j i y ne) ∙ e))
]

-- of each two, where the new one stands so to all
pub each-two-set :
    {X : Type 0} (R : X → X → Type 0) → ((x y : X) → R x y → R y x) → (xs : List X) (j : ℕ)
    (y : X) → AllByRecursion (R y) xs → EachTwo R xs → EachTwo R (slice_set xs j y)
each-two-set R back [] j y h k = tt
each-two-set R back (x ∷ xs) zero y h k = (h.1, k.1)
each-two-set R back (x ∷ xs) (suc j) y h k =
    (all-set (R x) xs j y k.0 (back y x h.0), each-two-set R back xs j y h.1 k.1)

pub all-each :
    {X : Type 0} (P : X → Type 0) (xs : List X) → Each (λ i. P) xs → AllByRecursion P xs
all-each P [] h = tt
all-each P (x ∷ xs) h = (h 0 x refl, all-each P xs (λ i. h (suc i)))

pub all-two :
    {X : Type 0} (P Q R : X → Type 0) → ((x : X) → P x → Q x → R x) → (xs : List X) →
    AllByRecursion P xs → AllByRecursion Q xs → AllByRecursion R xs
all-two P Q R f [] h k = tt
all-two P Q R f (x ∷ xs) h k = (f x h.0 k.0, all-two P Q R f xs h.1 k.1)

-- ---- what is held of a region

-- within the room it is no guard, or one of the region's type
pub record HeldOf (p : PlainProgram) (k : ℕ) (q : Option Mark) : Type 0 where
  pub mark : Mark
  pub is : q ≡ Some mark
  pub of_kind : IsOfKind k mark

pub held-of :
    (p : PlainProgram) (T : Table) (n : ℤ) (e : Known) (q : Option Mark) → T n ≡ Some e →
    IsPartOf p q (room p T n) → HeldOf p e.kind q
held-of p T n e None t h = absurd (part-some p None (room p T n) h (room-some p T n) refl)
held-of p T n e (Some None) t h = record { mark = None; is = refl; of_kind = tt }
held-of p T n e (Some (Some g)) t h =
    let r = in-room p T n g.kind g.element h in
    record {
      mark = Some g;
      is = refl;
      of_kind = sym r.of_kind
          ∙ ap (λ (x : Known). x.kind) (some-same r.known e (sym r.is_known ∙ t));
    }
