-- Regions that a table gets: what it tells then, and that all their guards are what it has room for
-- beyond the first one.
use Rattle.cap_account_resources.proofs.Order.{same-or, same-int, same-refl, relates-or}
use Rattle.std.proofs.Common.{◌≡◌, ◌≢◌, ◌⊎◌, ℕ, ℤ, ◌≤ℤ◌, ◌<ℤ◌, Bool, true, false, List, [], ◌∷◌, ◌++◌, Option, Some, None, refl, sym, ap, ◌∙◌, inl, inr, arith}
use Rattle.std.specs.Prelude.{if◌then◌else◌}
use Rattle.std.specs.List.{AllByRecursion}
use Rattle.std.proofs.lemmas.Int.{ints}
use Rattle.cap_lin.specs.Linear.{same_number}
use Rattle.cap_lin.specs.Values.{Valuation}
use Rattle.cap_lin.specs.declared.row.Op.TheVariants.{Lt as Less}
use Rattle.cap_prog.specs.Program.{PlainProgram}
use Rattle.cap_machine_accounts.specs.Accounts.{EachTwo}
use Rattle.cap_account_resources.specs.Parts.{Known, known_as, Table}
use Rattle.cap_account_resources.proofs.Lists.{none-some, all-more, Among}
use Rattle.cap_account_resources.proofs.Marks.{Mark, free, joins-law}
use Rattle.cap_account_resources.proofs.Covering.{join_marks, free-right}
use Rattle.cap_account_resources.proofs.Room.{all_guards, alone-here, alone-away, with_known}
use Rattle.cap_account_resources.proofs.Stocks.{same-stock}
use Rattle.cap_account_resources.proofs.Tables.{KeepsStates, Extends, extends-states, guards_if_new, new_guards}
use Rattle.cap_account_resources.proofs.Owners.{Owner, guards_of_all, numbers_of, Numbered, numbered-between, no-guards-of, no-cells-in}
use Rattle.cap_account_states.proofs.Alike.{Alike}
use Rattle.cap_account_states.proofs.Naming.{values_in}
use Rattle.cap_account_assertions.proofs.Asserted.{region-kept, case-kept}
use Rattle.cap_account_assertions.proofs.Laws.{IsOwner, Made, Creation, KeepsCreated}

-- ---- a table with one region more

pub told-here : (T : Table) (r : ℤ) (e : Known) → with_known T r e r ≡ Some e
told-here T r e = ap (λ same. if same then Some e else T r) (same-refl r)

pub told-apart : (T : Table) (r n : ℤ) (e : Known) → r ≢ n → with_known T r e n ≡ T n
told-apart T r n e ne = by (same_number r n) refl
  where
    by : (b : Bool) → same_number r n ≡ b → (if b then Some e else T n) ≡ T n
    by false q = refl
    by true q = absurd (ne (same-int r n q))

pub told-extends : (T : Table) (r : ℤ) (e : Known) → T r ≡ None → Extends T (with_known T r e)
told-extends T r e absent n k h = elim (same-or r n) [
  | inl q ↦ absurd (none-some (sym absent ∙ ap T q ∙ h))
  | inr q ↦ told-apart T r n e q ∙ h
]

-- owners are so in a table with more regions
pub owner-extends :
    (p : PlainProgram) (T U : Table) → Extends T U → (r : Owner) → IsOwner p T r → IsOwner p U r
owner-extends p T U f r h = record {
  known = f r.number (known_as r.kind r.args (Some r.state)) h.known;
  owns =
      region-kept p T U (extends-states T U f) r.number r.kind r.args r.state r.stock h.owns;
}

-- those that were created have their cases, by a table that keeps known states, at values whose alike
-- ones are alike to those before
pub created-on :
    (p : PlainProgram) (T U : Table) → KeepsStates T U → (P Q : ℕ → Type 0) (v w : Valuation) →
    ((x : Valuation) → Alike Q w x → Alike P v x) → (cs : List Creation) →
    AllByRecursion (KeepsCreated p T P v) cs → AllByRecursion (KeepsCreated p U Q w) cs
created-on p T U f P Q v w g cs h =
    all-more (KeepsCreated p T P v) (KeepsCreated p U Q w)
    (λ c k x l. case-kept p T U f c.owner c.number (values_in x c.env) (k x (g x l))) cs h

-- ---- a number is one of theirs, or none

pub below-or : (x y : ℤ) → (x <ℤ y) ⊎ (y ≤ℤ x)
below-or x y = relates-or Less x y

pub among-or : (n : ℤ) (rs : List Owner) → Among n (numbers_of rs) ⊎ (Among n (numbers_of rs) → ⊥)
among-or n [] = inr (λ m. m)
among-or n (r ∷ rs) = elim (same-or r.number n) [
  | inl e ↦ inl (inl e)
  | inr ne ↦ elim (among-or n rs) [
    | inl m ↦ inl (inr m)
    | inr f ↦ inr (λ m. elim m [ inl e ↦ ne e | inr k ↦ f k ])
  ]
]

pub none-of-both :
    (n : ℤ) (rs ss : List Owner) → (Among n (numbers_of (rs ++ ss)) → ⊥) →
    (Among n (numbers_of rs) → ⊥) × (Among n (numbers_of ss) → ⊥)
none-of-both n [] ss f = ((λ m. m), f)
none-of-both n (r ∷ rs) ss f =
    let q = none-of-both n rs ss (λ m. f (inr m)) in
    ((λ m. elim m [ inl e ↦ f (inl e) | inr k ↦ q.0 k ]), q.1)

-- what holds of each owner holds of one of this number
pub owner-of :
    (P : Owner → Type 0) (rs : List Owner) (n : ℤ) → AllByRecursion P rs → Among n (numbers_of rs) →
    (r : Owner) × (r.number ≡ n) × P r
owner-of P [] n h m = absurd m
owner-of P (r ∷ rs) n h m = elim m [ inl e ↦ (r, e, h.0) | inr k ↦ owner-of P rs n h.1 k ]

-- ---- their guards

-- outside their numbers there are none
pub guards-outside :
    (p : PlainProgram) (a b : ℤ) (rs : List Owner) → Numbered a rs b → (n : ℤ) →
    ((n <ℤ a) ⊎ (b ≤ℤ n)) → (guards_of_all p rs).guards n ≡ Some free
guards-outside p a b rs h n out =
    no-guards-of p rs n (λ m.
    let between = numbered-between a b rs h n m in
    let low = between.0 in
    let high = between.1 in
    elim out [
      | inl l ↦ absurd (omega (arith, ints, low, l))
      | inr l ↦ absurd (omega (arith, ints, high, l))
    ])

-- at one of their numbers they are all of its region
pub guards-here :
    (p : PlainProgram) (U : Table) (rs : List Owner) → EachTwo (λ r s. r.number ≢ s.number) rs →
    AllByRecursion (IsOwner p U) rs → (n : ℤ) → Among n (numbers_of rs) →
    (e : Known) × (U n ≡ Some e) × ((guards_of_all p rs).guards n ≡ all_guards p e.kind)
guards-here p U [] d o n m = absurd m
guards-here p U (r ∷ rs) d o n m = elim m [
  | inl e ↦ (
    known_as r.kind r.args (Some r.state),
    ap U (sym e) ∙ o.0.known,
    ap (λ g. join_marks p g ((guards_of_all p rs).guards n))
        (alone-here r.number (all_guards p r.kind) n e)
        ∙ (ap (join_marks p (all_guards p r.kind))
        (no-guards-of p rs n (λ k.
        let s = owner-of (λ s. r.number ≢ s.number) rs n d.0 k in s.2 (e ∙ sym s.1)))
        ∙ free-right p (all_guards p r.kind)),
  )
  | inr k ↦
      let s = owner-of (λ s. r.number ≢ s.number) rs n d.0 k in
      let t = guards-here p U rs d.1 o.1 n k in (
        t.0,
        t.1,
        ap (λ g. join_marks p g ((guards_of_all p rs).guards n))
            (alone-away r.number (all_guards p r.kind) n (λ e. s.2 (e ∙ sym s.1)))
            ∙ ((joins-law p).zero_left ((guards_of_all p rs).guards n) ∙ t.2),
      )
]

-- they are what the table has room for beyond the one that they were made from
pub made-guards :
    (p : PlainProgram) (T U : Table) (new : List Owner) → Made p T U new →
    guards_of_all p new ≡ new_guards p T U
made-guards p T U new m =
    same-stock (guards_of_all p new) (new_guards p T U) (no-cells-in p new) (λ n.
    elim (among-or n new) [
      | inl k ↦
          let g = guards-here p U new m.differ m.owners n k in
          let r = owner-of (λ r. T r.number ≡ None) new n m.absent k in
          g.2 ∙ sym (ap (λ o. guards_if_new p o (U n)) (ap T (sym r.1) ∙ r.2)
          ∙ ap (guards_if_new p None) g.1)
      | inr f ↦
          no-guards-of p new n f ∙ sym (ap (guards_if_new p (T n)) (m.others n f) ∙ same (T n))
    ])
  where
    same : (o : Option Known) → guards_if_new p o o ≡ Some free
    same None = refl
    same (Some e) = refl

-- they compose with what has none at their numbers
pub composes-with-new :
    (p : PlainProgram) (U : Table) (rs : List Owner) (lim : ℤ → Option Mark) →
    EachTwo (λ r s. r.number ≢ s.number) rs → AllByRecursion (IsOwner p U) rs →
    ((n : ℤ) → lim n ≢ None) → ((n : ℤ) → Among n (numbers_of rs) → lim n ≡ Some free) → (n : ℤ) →
    join_marks p (lim n) ((guards_of_all p rs).guards n) ≢ None
composes-with-new p U rs lim d o some unheld n e = elim (among-or n rs) [
  | inl m ↦
      let g = guards-here p U rs d o n m in
      full-there g.0.kind
      (sym ((joins-law p).zero_left (all_guards p g.0.kind))
      ∙ ap (λ x. join_marks p x (all_guards p g.0.kind)) (sym (unheld n m))
      ∙ ap (join_marks p (lim n)) (sym g.2) ∙ e)
  | inr f ↦
      some n (sym (free-right p (lim n))
      ∙ ap (join_marks p (lim n)) (sym (no-guards-of p rs n f)) ∙ e)
]
  where
    full-there : (k : ℕ) → all_guards p k ≡ None → ⊥
    full-there k q = cc
