-- Tables to which regions were added.
use Rattle.cap_account_resources.proofs.Order.{same-or}
use Rattle.std.proofs.Common.{◌≡◌, ◌⊎◌, suc, ℤ, List, [], ◌∷◌, length, Some, None, sym, ap, ◌∙◌, inl, inr}
use Rattle.std.specs.Prelude.{slice_get}
use Rattle.std.specs.List.{AllByRecursion}
use Rattle.cap_prog.specs.Program.{PlainProgram}
use Rattle.cap_account_resources.specs.Parts.{Known, known_as, Table}
use Rattle.cap_account_resources.proofs.Lists.{some-same, none-some, Among}
use Rattle.cap_account_resources.proofs.Stocks.{Stock, both, Inside, inside-trans, inside-first}
use Rattle.cap_account_resources.proofs.Tables.{TableFits, NoneOpen, Extends, extends-types, FitsRoom, new_guards, fits-less, fits-later}
use Rattle.cap_account_resources.proofs.Owners.{Owner, owned, numbers_of}
use Rattle.cap_account_assertions.proofs.Laws.{IsOwner, Made}

-- a number is one of theirs or not
pub among-or : (n : ℤ) (ns : List ℤ) → Among n ns ⊎ (Among n ns → ⊥)
among-or n [] = inr (λ a. a)
among-or n (m ∷ ns) = elim (same-or m n) [
  | inl e ↦ inl (inl e)
  | inr ne ↦ elim (among-or n ns) [
    | inl a ↦ inl (inr a)
    | inr f ↦ inr (λ a. elim a [ inl e ↦ ne e | inr b ↦ f b ])
  ]
]

-- what is true of each owner is true of the one that has a number
pub owner-of :
    (P : Owner → Type 0) (rs : List Owner) (n : ℤ) → AllByRecursion P rs →
    Among n (numbers_of rs) → (r : Owner) × P r × (r.number ≡ n)
owner-of P [] n h a = absurd a
owner-of P (r ∷ rs) n h a = elim a [
  | inl e ↦ (r, h.0, e)
  | inr b ↦ owner-of P rs n h.1 b
]

module _ (p : PlainProgram) (T U : Table) (new : List Owner) (made : Made p T U new) where
  -- a region of the later table is an earlier one, or one of the owners
  entry-of :
      (n : ℤ) (e : Known) → U n ≡ Some e →
      (T n ≡ Some e)
      ⊎ ((r : Owner) × IsOwner p U r × (known_as r.kind r.args (Some r.state) ≡ e))
  entry-of n e h = elim (among-or n (numbers_of new)) [
    | inl a ↦
        let w = owner-of (IsOwner p U) new n made.owners a in
        inr (
          w.0,
          w.1,
          some-same (known_as w.0.kind w.0.args (Some w.0.state)) e
              (sym w.1.known ∙ ap U w.2 ∙ h),
        )
    | inr f ↦ inl (sym (made.others n f) ∙ h)
  ]

  pub made-extends : Extends T U
  made-extends n e h =
      made.others n (λ a.
      let w = owner-of (λ r. T r.number ≡ None) new n made.absent a in
      none-some (sym w.1 ∙ ap T w.2 ∙ h))
      ∙ h

  pub made-fits : TableFits p T → TableFits p U
  made-fits fits n e h = elim (entry-of n e h) [
    | inl old ↦ fits n e old
    | inr w ↦
        let same = w.2 in (
          w.1.owns.type,
          ap (λ (k : Known). slice_get p.regions k.kind) (sym same) ∙ w.1.owns.is_type,
          w.1.owns.arity ∙ ap (λ (k : Known). suc (length k.args)) same,
        )
  ]

  pub made-full : NoneOpen T → NoneOpen U
  made-full full n e h = elim (entry-of n e h) [
    | inl old ↦ full n e old
    | inr w ↦ (w.0.state, sym (ap (λ (k : Known). k.state) w.2))
  ]

  -- what is kept of a part is within the later table's room
  pub made-room :
      (part kept given : Stock) → FitsRoom p T part →
      Inside p (both p (both p kept given) (owned p new)) (both p part (new_guards p T U)) →
      FitsRoom p U (both p kept given)
  made-room part kept given room budget =
      fits-less p U (both p kept given) (both p part (new_guards p T U))
      (inside-trans p (both p kept given) (both p (both p kept given) (owned p new))
      (both p part (new_guards p T U))
      (inside-first p (both p kept given) (owned p new)) budget)
      (fits-later p T U part (extends-types T U made-extends) room)
