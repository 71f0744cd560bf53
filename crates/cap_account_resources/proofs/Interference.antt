-- What a frame may do to regions, and what others may: interference is transitive, a smaller part
-- allows more of it, and one frame's steps are interference for the others.
use Rattle.std.proofs.Common.{◌≡◌, ◌≢◌, ◌⊎◌, ℕ, zero, suc, ◌+◌, ℤ, Bool, true, false, List, [], ◌∷◌, Option, Some, None, refl, sym, ap, ◌∙◌, subst, inl, inr, arith}
use Rattle.std.specs.Prelude.{slice_get}
use Rattle.std.specs.List.{AllByRecursion}
use Rattle.cap_lin.specs.Values.{Valuation, value}
use Rattle.cap_galg.specs.Elements.{Element}
use Rattle.cap_galg.specs.Algebras.{atom_algebra, IsElement}
use Rattle.cap_prog.specs.declared.assertion.Asked.{Asked}
use Rattle.cap_prog.specs.Program.{PlainAction, PlainRegionType, PlainProgram}
use Rattle.cap_machine_accounts.specs.Parts.{Guard, join, IsGuard, atom_guard, algebra_of, Region}
use Rattle.cap_machine_accounts.specs.Assertions.{CompHolds, AreWhole, IsAsked, TakesGuards, Acts}
use Rattle.cap_account_resources.specs.Parts.{known_as, Table}
use Rattle.cap_account_resources.proofs.Lists.{some-same, none-some}
use Rattle.cap_account_resources.proofs.Marks.{is-element, is-present, Mark, free, meet, meet_if, fit, fitting, joins-law, meets-join}
use Rattle.cap_account_resources.proofs.Covering.{join_marks, IsPartOf}

-- ---- definitions

-- what is held of each region: its guards, or none where they don't compose
abbrev pub Holding : Type 0
Holding = ℤ → Option Mark

-- what is asked of one atom of a region type's guards
pub record AsksAtom (p : PlainProgram) (v : Valuation) (k : ℕ) (g : ℕ × Asked)
    (m : Option Mark) : Type 0 where
  pub element : Element
  pub is_asked : IsAsked v g.1 element
  pub of_atom : IsElement (atom_algebra (algebra_of p k) g.0) element
  pub is_mark : m ≡ Some (atom_guard p k g.0 element)

-- what is asked of atoms, together
abbrev pub AsksAtoms : PlainProgram → Valuation → ℕ → List (ℕ × Asked) → Option Mark → Type 0
AsksAtoms p v k [] m = m ≡ Some free
AsksAtoms p v k (g ∷ gs) m =
    (a : Option Mark) × (b : Option Mark)
    × AsksAtom p v k g a
    × AsksAtoms p v k gs b
    × (m ≡ join_marks p a b)

-- an action of type k leads region n from a state to a state, by these guards
pub record MovesBy (p : PlainProgram) (k : ℕ) (n : ℤ) (args : List ℤ) (old new : ℤ)
    (m : Option Mark) : Type 0 where
  pub type : PlainRegionType
  pub is_type : slice_get p.regions k ≡ Some type
  pub number : ℕ
  pub action : PlainAction
  pub is_action : slice_get type.actions number ≡ Some action
  pub values : Valuation
  pub args_are : AreWhole values 0 (n ∷ args)
  pub source_is : value values.whole action.source ≡ old
  pub target_is : value values.whole action.target ≡ new
  pub conditions : AllByRecursion (CompHolds values) action.when
  pub guards : AsksAtoms p values k action.guards m

-- one who holds so much can't exclude the action: its guards compose with what is held
abbrev pub May : PlainProgram → Option Mark → ℕ → ℤ → List ℤ → ℤ → ℤ → Type 0
May p held k n args old new =
    (m : Option Mark) × MovesBy p k n args old new m × (join_marks p m held ≢ None)

-- one who holds so much may take the action
abbrev pub Can : PlainProgram → Option Mark → ℕ → ℤ → List ℤ → ℤ → ℤ → Type 0
Can p held k n args old new =
    (m : Option Mark) × MovesBy p k n args old new m × IsPartOf p m held

-- so many actions of the others
abbrev pub Reach : PlainProgram → Option Mark → ℕ → ℤ → List ℤ → ℕ → ℤ → ℤ → Type 0
Reach p held k n args zero b c = c ≡ b
Reach p held k n args (suc i) b c =
    (d : ℤ) × May p held k n args b d × Reach p held k n args i d c

-- each region that was there took actions that the part can't exclude; there may be more regions
abbrev pub Relies : PlainProgram → Holding → Table → Table → Type 0
Relies p part T U =
    (n : ℤ) (k : ℕ) (args : List ℤ) (b : ℤ) → T n ≡ Some (known_as k args (Some b)) →
    (c : ℤ) × (i : ℕ)
    × (U n ≡ Some (known_as k args (Some c)))
    × Reach p (part n) k n args i b c

-- each region that was there kept its state, or took an action that the part allows
abbrev pub Guarantees : PlainProgram → Holding → Table → Table → Type 0
Guarantees p part T U =
    (n : ℤ) (k : ℕ) (args : List ℤ) (b : ℤ) → T n ≡ Some (known_as k args (Some b)) →
    (c : ℤ)
    × (U n ≡ Some (known_as k args (Some c)))
    × ((c ≡ b) ⊎ Can p (part n) k n args b c)

-- at each region
abbrev pub ArePartOf : PlainProgram → Holding → Holding → Type 0
ArePartOf p a b = (n : ℤ) → IsPartOf p (a n) (b n)

-- ---- laws

module _ (p : PlainProgram) where
  -- a part of what composes composes
  part-composes : (a b : Option Mark) → IsPartOf p a b → b ≢ None → a ≢ None
  part-composes a b h ne e = ne (sym h.1 ∙ ap (λ x. join_marks p x h.0) e)

  part-joined :
      (a b c : Option Mark) → IsPartOf p a b → IsPartOf p (join_marks p c a) (join_marks p c b)
  part-joined a b c h =
      (h.0, (joins-law p).assoc c a h.0 ∙ ap (join_marks p c) h.1)

  -- what composes with something composes with a part of it
  pub less-composes :
      (m g h : Option Mark) → IsPartOf p g h → join_marks p m h ≢ None →
      join_marks p m g ≢ None
  less-composes m g h le ne =
      part-composes (join_marks p m g) (join_marks p m h) (part-joined g h m le) ne

  pub may-less :
      (g h : Option Mark) (k : ℕ) (n : ℤ) (args : List ℤ) (b c : ℤ) → IsPartOf p g h →
      May p h k n args b c → May p g k n args b c
  may-less g h k n args b c le m = (m.0, m.1, less-composes m.0 g h le m.2)

  -- what one frame may do, another can't exclude whose part composes with the first one's
  pub can-may :
      (h g : Option Mark) (k : ℕ) (n : ℤ) (args : List ℤ) (b c : ℤ) → Can p h k n args b c →
      join_marks p h g ≢ None → May p g k n args b c
  can-may h g k n args b c m ne = (
    m.0,
    m.1,
    λ e.
        less-composes g m.0 h m.2 (λ q. ne ((joins-law p).comm h g ∙ q))
        ((joins-law p).comm g m.0 ∙ e),
  )

  pub reach-trans :
      (g : Option Mark) (k : ℕ) (n : ℤ) (args : List ℤ) (i j : ℕ) (b c d : ℤ) →
      Reach p g k n args i b c → Reach p g k n args j c d → Reach p g k n args (i + j) b d
  reach-trans g k n args zero j b c d h r =
      subst (λ x. Reach p g k n args x b d) plain (subst (λ x. Reach p g k n args j x d) h r)
    where
      plain : j ≡ 0 + j
      plain = omega arith
  reach-trans g k n args (suc i) j b c d h r =
      subst (λ x. Reach p g k n args x b d) next
      (h.0, h.1, reach-trans g k n args i j h.0 c d h.2 r)
    where
      next : suc (i + j) ≡ suc i + j
      next = omega arith

  pub reach-less :
      (g h : Option Mark) (k : ℕ) (n : ℤ) (args : List ℤ) (i : ℕ) (b c : ℤ) → IsPartOf p g h →
      Reach p h k n args i b c → Reach p g k n args i b c
  reach-less g h k n args zero b c le r = r
  reach-less g h k n args (suc i) b c le r =
      (r.0, may-less g h k n args b r.0 le r.1, reach-less g h k n args i r.0 c le r.2)

  pub relies-same : (part : Holding) (T : Table) → Relies p part T T
  relies-same part T n k args b e = (b, 0, e, refl)

  pub relies-trans :
      (part : Holding) (T U W : Table) → Relies p part T U → Relies p part U W →
      Relies p part T W
  relies-trans part T U W r q n k args b e =
      let m = r n k args b e in
      let o = q n k args m.0 m.2 in
      (o.0, m.1 + o.1, o.2, reach-trans (part n) k n args m.1 o.1 b m.0 o.0 m.3 o.3)

  pub relies-less :
      (g h : Holding) (T U : Table) → ArePartOf p g h → Relies p h T U → Relies p g T U
  relies-less g h T U le r n k args b e =
      let m = r n k args b e in
      (m.0, m.1, m.2, reach-less (g n) (h n) k n args m.1 b m.0 (le n) m.3)

  -- one frame's step is interference for each part that composes with the frame's
  pub guarantees-relies :
      (h g : Holding) (T U : Table) → ((n : ℤ) → join_marks p (h n) (g n) ≢ None) →
      Guarantees p h T U → Relies p g T U
  guarantees-relies h g T U ok r n k args b e =
      let m = r n k args b e in
      elim m.2 [
        | inl same ↦ (m.0, 0, m.1, same)
        | inr can ↦ (m.0, 1, m.1, (m.0, can-may (h n) (g n) k n args b m.0 can (ok n), refl))
      ]

  -- what is true of a state, and stays true under each action that the held guards can't exclude,
  -- is true after interference
  pub carried :
      (P : ℤ → Type 0) (held part : Option Mark) (k : ℕ) (n : ℤ) (args : List ℤ) →
      IsPartOf p held part → ((b c : ℤ) → P b → May p held k n args b c → P c) → (i : ℕ)
      (b c : ℤ) → Reach p part k n args i b c → P b → P c
  carried P held part k n args le step zero b c r h = subst P (sym r) h
  carried P held part k n args le step (suc i) b c r h =
      carried P held part k n args le step i r.0 c r.2
      (step b r.0 h (may-less held part k n args b r.0 le r.1))

  -- ---- what accounts say of it

  -- marks that meet are guards that join
  pub met-joins : (a b c : Mark) → meet p a b ≡ Some c → join a b ≡ Some c
  met-joins None b c e = e
  met-joins (Some g) None c e = e
  met-joins (Some g) (Some h) c e = by (fit p g.kind g.element h.kind h.element) refl
    where
      by : (t : Bool) → fit p g.kind g.element h.kind h.element ≡ t →
          join (Some g) (Some h) ≡ Some c
      by true q =
          let f = fitting p g.kind g.element h.kind h.element q in
          sym (meets-join p g h f.first f.second) ∙ e
      by false q =
          absurd (none-some (sym (ap (λ t. meet_if t g.kind g.element h.element) q) ∙ e))

  -- the second of two marks that meet is a guard, where what they meet to is
  pub met-guard : (a b c : Mark) → meet p a b ≡ Some c → IsGuard p c → IsGuard p b
  met-guard None b c e h = subst (IsGuard p) (sym (some-same b c e)) h
  met-guard (Some g) None c e h = tt
  met-guard (Some g) (Some d) c e h = by (fit p g.kind g.element d.kind d.element) refl
    where
      by : (t : Bool) → fit p g.kind g.element d.kind d.element ≡ t → IsGuard p (Some d)
      by true q =
          let f = fitting p g.kind g.element d.kind d.element q in
          (is-element p d.kind d.element f.second, is-present p d.kind d.element f.second)
      by false q =
          absurd (none-some (sym (ap (λ t. meet_if t g.kind g.element d.element) q) ∙ e))

  -- what is left of a guard once a part is taken out of it
  record Taken (a : Mark) (c : Mark) (rest : Option Mark) : Type 0 where
    pub left : Mark
    pub is_left : rest ≡ Some left
    pub met : meet p a left ≡ Some c

  taken : (a c : Mark) (rest : Option Mark) → join_marks p (Some a) rest ≡ Some c → Taken a c rest
  taken a c None e = absurd (none-some e)
  taken a c (Some b) e = record { left = b; is_left = refl; met = e }

  -- what atoms are asked for is taken out of a guard of which it is part
  takes-guards :
      (v : Valuation) (k : ℕ) (gs : List (ℕ × Asked)) (m : Option Mark) (c : Mark) → IsGuard p c →
      AsksAtoms p v k gs m → IsPartOf p m (Some c) →
      (rest : Option Guard) × TakesGuards p v k gs c rest
  takes-guards v k [] m c guard asks h = (c, refl)
  takes-guards v k (g ∷ gs) m c guard asks h =
      let a = asks.2 in
      let ag = atom_guard p k g.0 a.element in
      let all : join_marks p (Some ag) (join_marks p asks.1 h.0) ≡ Some c =
      ap (λ x. join_marks p x (join_marks p asks.1 h.0)) (sym a.is_mark)
      ∙ (sym ((joins-law p).assoc asks.0 asks.1 h.0)
      ∙ (ap (λ x. join_marks p x h.0) (sym asks.4) ∙ h.1)) in
      let t = taken ag c (join_marks p asks.1 h.0) all in
      let left = met-guard ag t.left c t.met guard in
      let more = takes-guards v k gs asks.1 t.left left asks.3 (h.0, t.is_left) in (
        more.0,
        (
          t.left,
          record {
            element = a.element;
            is_asked = a.is_asked;
            of_atom = a.of_atom;
            rest_guard = left;
            joined = met-joins ag t.left c t.met;
          },
          more.1,
        ),
      )

  -- an action that the part allows is one that accounts allow
  pub can-acts :
      (r : Region) (held : Mark) (new : ℤ) → IsGuard p held →
      Can p (Some held) r.kind r.number r.args r.state new → Acts p r held new
  can-acts r held new guard can =
      let m = can.1 in
      let t = takes-guards m.values r.kind m.action.guards can.0 held guard m.guards can.2 in
      record {
        type = m.type;
        is_type = m.is_type;
        number = m.number;
        action = m.action;
        is_action = m.is_action;
        values = m.values;
        args_are = m.args_are;
        source_is = m.source_is;
        target_is = m.target_is;
        conditions = m.conditions;
        rest = t.0;
        guarded = t.1;
      }
