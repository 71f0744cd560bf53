-- Tables of regions: which of them are open, which table goes on from which, and what it has room
-- for beyond the other.
use Rattle.cap_account_resources.proofs.Stocks.{Composes, Stock, no_cells, both, Inside, inside-guards, inside-first}
use Rattle.cap_account_resources.proofs.Room.{part-some, room-some, all_guards, room_of, room, part-join}
use Rattle.std.proofs.Common.{◌≡◌, ℕ, suc, ℤ, List, length, Option, Some, None, refl, sym, ap, ◌∙◌, subst}
use Rattle.std.specs.Prelude.{slice_get}
use Rattle.cap_prog.specs.Program.{PlainRegionType, PlainProgram}
use Rattle.cap_account_resources.specs.Parts.{Known, known_as, Table}
use Rattle.cap_account_resources.proofs.Lists.{some-same, none-some, Among}
use Rattle.cap_account_resources.proofs.Marks.{Mark, free}
use Rattle.cap_account_resources.proofs.Covering.{join_marks, IsPartOf, free-right, part-trans}
use Rattle.cap_account_resources.proofs.Interference.{ArePartOf, Relies}

-- ---- what a table says

-- regions have as many arguments as their types say
abbrev pub TableFits : PlainProgram → Table → Type 0
TableFits p T =
    (n : ℤ) (e : Known) → T n ≡ Some e →
    (k : PlainRegionType) × (slice_get p.regions e.kind ≡ Some k)
    × (k.params ≡ suc (length e.args))

-- each region has a state
abbrev pub NoneOpen : Table → Type 0
NoneOpen T = (n : ℤ) (e : Known) → T n ≡ Some e → (b : ℤ) × (e.state ≡ Some b)

-- each region of the table is among these
abbrev pub AreListed : List ℤ → Table → Type 0
AreListed ns T = (n : ℤ) (e : Known) → T n ≡ Some e → Among n ns

-- ---- one table after another

-- regions stay as they are; there may be more
abbrev pub Extends : Table → Table → Type 0
Extends T U = (n : ℤ) (e : Known) → T n ≡ Some e → U n ≡ Some e

-- regions that have a state keep it
abbrev pub KeepsStates : Table → Table → Type 0
KeepsStates T U =
    (n : ℤ) (k : ℕ) (zs : List ℤ) (z : ℤ) → T n ≡ Some (known_as k zs (Some z)) →
    U n ≡ Some (known_as k zs (Some z))

-- regions keep their types
abbrev pub KeepsTypes : Table → Table → Type 0
KeepsTypes T U =
    (n : ℤ) (e : Known) → T n ≡ Some e → (g : Known) × (U n ≡ Some g) × (g.kind ≡ e.kind)

pub extends-trans : (T U W : Table) → Extends T U → Extends U W → Extends T W
extends-trans T U W f g n e h = g n e (f n e h)

pub extends-states : (T U : Table) → Extends T U → KeepsStates T U
extends-states T U f n k zs z h = f n (known_as k zs (Some z)) h

pub extends-types : (T U : Table) → Extends T U → KeepsTypes T U
extends-types T U f n e h = (e, f n e h, refl)

-- ---- room

-- what is held is within the table's room
abbrev pub FitsRoom : PlainProgram → Table → Stock → Type 0
FitsRoom p T q = ArePartOf p q.guards (room p T)

pub fits-composes : (p : PlainProgram) (T : Table) (q : Stock) → FitsRoom p T q → Composes q
fits-composes p T q h n = part-some p (q.guards n) (room p T n) (h n) (room-some p T n)

-- all guards of a region that only the second table has
abbrev pub guards_if_new : PlainProgram → Option Known → Option Known → Option Mark
guards_if_new p (Some e) o = Some free
guards_if_new p None None = Some free
guards_if_new p None (Some e) = all_guards p e.kind

abbrev pub new_guards : PlainProgram → Table → Table → Stock
new_guards p T U = record { cells = no_cells; guards = λ n. guards_if_new p (T n) (U n) }

module _ (p : PlainProgram) where
  -- a number of which the second table knows the type that the first one tells
  abbrev KnownAfter : Option Known → Option Known → Type 0
  KnownAfter o q = (e : Known) → o ≡ Some e → (g : Known) × (q ≡ Some g) × (g.kind ≡ e.kind)

  room-of-later :
      (o q : Option Known) → KnownAfter o q →
      room_of p q ≡ join_marks p (room_of p o) (guards_if_new p o q)
  room-of-later None None f = refl
  room-of-later None (Some g) f = refl
  room-of-later (Some e) None f = absurd (none-some (f e refl).1)
  room-of-later (Some e) (Some g) f =
      let r = f e refl in
      ap (all_guards p) (ap (λ (k : Known). k.kind) (some-same g r.0 r.1) ∙ r.2)
      ∙ sym (free-right p (all_guards p e.kind))

  -- the later table's room is the earlier one's and that of the new regions
  pub room-later :
      (T U : Table) → KeepsTypes T U → (n : ℤ) →
      room p U n ≡ join_marks p (room p T n) ((new_guards p T U).guards n)
  room-later T U f n = room-of-later (T n) (U n) (f n)

  pub fits-later :
      (T U : Table) (q : Stock) → KeepsTypes T U → FitsRoom p T q →
      FitsRoom p U (both p q (new_guards p T U))
  fits-later T U q f h n =
      let g = (new_guards p T U).guards n in
      subst (IsPartOf p (join_marks p (q.guards n) g)) (sym (room-later T U f n))
      (part-join p (q.guards n) (room p T n) g (h n))

  pub fits-less : (T : Table) (q r : Stock) → Inside p q r → FitsRoom p T r → FitsRoom p T q
  fits-less T q r h k n =
      part-trans p (q.guards n) (r.guards n) (room p T n) (inside-guards p q r h n) (k n)

  new-or-not :
      (o q r : Option Known) → KnownAfter o q → KnownAfter q r →
      join_marks p (guards_if_new p o q) (guards_if_new p q r) ≡ guards_if_new p o r
  new-or-not (Some e) None r f g = absurd (none-some (f e refl).1)
  new-or-not (Some e) (Some d) r f g = refl
  new-or-not None None None f g = refl
  new-or-not None None (Some c) f g = refl
  new-or-not None (Some d) None f g = absurd (none-some (g d refl).1)
  new-or-not None (Some d) (Some c) f g =
      let s = g d refl in
      free-right p (all_guards p d.kind)
      ∙ ap (all_guards p) (sym (ap (λ (k : Known). k.kind) (some-same c s.0 s.1) ∙ s.2))

  -- what is new in two steps
  pub new-guards-twice :
      (T U W : Table) → KeepsTypes T U → KeepsTypes U W → (n : ℤ) →
      join_marks p ((new_guards p T U).guards n) ((new_guards p U W).guards n)
      ≡ (new_guards p T W).guards n
  new-guards-twice T U W f g n = new-or-not (T n) (U n) (W n) (f n) (g n)

-- ---- interference keeps room

-- what others do to a full table keeps the types of its regions
pub relies-types :
    (p : PlainProgram) (T U : Table) (q : Stock) → NoneOpen T → Relies p q.guards T U →
    KeepsTypes T U
relies-types p T U q full r n e h =
    let b = full n e h in
    let m = r n e.kind e.args b.0
    (h ∙ ap (λ o. Some (known_as e.kind e.args o)) b.1) in
    (known_as e.kind e.args (Some m.0), m.2, refl)

-- so what is held stays within the room
pub fits-relied :
    (p : PlainProgram) (T U : Table) (q : Stock) → NoneOpen T → Relies p q.guards T U →
    FitsRoom p T q → FitsRoom p U q
fits-relied p T U q full r h =
    fits-less p U q (both p q (new_guards p T U)) (inside-first p q (new_guards p T U))
    (fits-later p T U q (relies-types p T U q full r) h)
