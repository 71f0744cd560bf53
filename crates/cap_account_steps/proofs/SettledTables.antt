-- What a table tells once open regions are closed and new ones are made.
use Rattle.std.proofs.Common.{◌≡◌, inl, inr, ℕ, suc, ℤ, List, [], ◌∷◌, ◌++◌, length, Option, Some, None, Bool, true, false, refl, sym, ap, ◌∙◌, subst}
use Rattle.std.specs.Prelude.{slice_get, ◌||◌}
use Rattle.std.specs.List.{list_any}
use Rattle.cap_lin.specs.Linear.{same_number}
use Rattle.cap_prog.specs.Program.{PlainRegionType, PlainProgram}
use Rattle.cap_account_resources.specs.Parts.{Known, known_as, Table}
use Rattle.cap_account_resources.proofs.Lists.{some-same, none-some, Among, among-left, among-right}
use Rattle.cap_account_resources.proofs.Order.{same-int}
use Rattle.cap_account_resources.proofs.Tables.{TableFits, NoneOpen, AreListed, KeepsStates, KeepsTypes}
use Rattle.cap_account_resources.proofs.Owners.{Owner, numbers_of}
use Rattle.cap_account_resources.proofs.Stocks.{Stock}
use Rattle.cap_account_assertions.proofs.Laws.{IsOwner}
use Rattle.cap_account_assertions.proofs.MadeTables.{among-or, owner-of}
use Rattle.cap_account_steps.proofs.Exact.{all-two}
use Rattle.cap_account_steps.proofs.Worlds.{opened_at, opened_table, Settles}

-- what a table tells of an owner's region, and of it while it is open
abbrev pub told_of : Owner → Known
told_of r = known_as r.kind r.args (Some r.state)

abbrev pub open_of : Owner → Known
open_of r = known_as r.kind r.args None

-- an entry without a state is none with one
pub stateless : {X : Type 0} (k j : ℕ) (zs ys : List ℤ) (b : ℤ) →
    Some (known_as k zs None) ≡ Some (known_as j ys (Some b)) → X
stateless k j zs ys b e =
    let state = λ (x : Known). x.state in
    absurd (none-some (ap state
    (some-same (known_as k zs None) (known_as j ys (Some b)) e)))

-- the type of an entry, as a program has it
abbrev EntryFits : PlainProgram → Known → Type 0
EntryFits p e =
    (k : PlainRegionType) × (slice_get p.regions e.kind ≡ Some k) × (k.params ≡ suc (length e.args))

owner-fits : (p : PlainProgram) (U : Table) (r : Owner) → IsOwner p U r → EntryFits p (told_of r)
owner-fits p U r o = (o.owns.type, o.owns.is_type, o.owns.arity)

module _ (p : PlainProgram) (V W U : Table) (part : Stock) (opened : List ℤ)
    (closed made : List Owner) (st : Settles p V W U part opened closed made) where
  -- what becomes of a number: its region was open and is closed, it had none and one is made, or
  -- nothing changes
  pub data Fate (n : ℤ) : Type 0 where
    is_closed :
        (r : Owner) → IsOwner p U r → U n ≡ Some (told_of r) → W n ≡ Some (open_of r) → Fate n
    is_made :
        (r : Owner) → IsOwner p U r → U n ≡ Some (told_of r) → W n ≡ None →
        Among n (numbers_of made) → Fate n
    is_same : U n ≡ W n → (Among n (numbers_of closed) → ⊥) → Fate n

  pub fate : (n : ℤ) → Fate n
  fate n = elim (among-or n (numbers_of closed)) [
    | inl a ↦
        let P = λ (r : Owner). IsOwner p U r × (W r.number ≡ Some (open_of r)) in
        let r = owner-of P closed n
        (all-two (IsOwner p U) (λ r. W r.number ≡ Some (open_of r)) P (λ r o w. (o, w)) closed
        st.closed_owners st.were_open) a in
        is_closed r.0 r.1.0 (ap U (sym r.2) ∙ r.1.0.known) (ap W (sym r.2) ∙ r.1.1)
    | inr f ↦ elim (among-or n (numbers_of made)) [
      | inl a ↦
          let P = λ (r : Owner). IsOwner p U r × (W r.number ≡ None) in
          let r = owner-of P made n
          (all-two (IsOwner p U) (λ r. W r.number ≡ None) P (λ r o w. (o, w)) made st.made_owners
          st.absent) a in
          is_made r.0 r.1.0 (ap U (sym r.2) ∙ r.1.0.known) (ap W (sym r.2) ∙ r.1.1) a
      | inr g ↦ is_same (st.others n f g) f
    ]
  ]

  -- regions keep their types, and those that had a state keep it
  pub settled-types : KeepsTypes W U
  settled-types n e h = by (fate n)
    where
      by : Fate n → (g : Known) × (U n ≡ Some g) × (g.kind ≡ e.kind)
      by (is_closed r o u w) =
          (told_of r, u, ap (λ (x : Known). x.kind) (some-same (open_of r) e (sym w ∙ h)))
      by (is_made r o u w a) = absurd (none-some (sym w ∙ h))
      by (is_same s f) = (e, s ∙ h, refl)

  pub settled-states : KeepsStates W U
  settled-states n k zs b h = by (fate n)
    where
      by : Fate n → U n ≡ Some (known_as k zs (Some b))
      by (is_closed r o u w) = stateless r.kind k r.args zs b (sym w ∙ h)
      by (is_made r o u w a) = absurd (none-some (sym w ∙ h))
      by (is_same s f) = s ∙ h

  -- what has no state now was so before
  pub unsettled : (n : ℤ) → ((r : Owner) → U n ≡ Some (told_of r) → ⊥) → U n ≡ W n
  unsettled n f = by (fate n)
    where
      by : Fate n → U n ≡ W n
      by (is_closed r o u w) = absurd (f r u)
      by (is_made r o u w a) = absurd (f r u)
      by (is_same s g) = s

  pub settled-fits : TableFits p W → TableFits p U
  settled-fits fits n e h = by (fate n)
    where
      owned : (r : Owner) → IsOwner p U r → U n ≡ Some (told_of r) → EntryFits p e
      owned r o u =
          subst (EntryFits p) (some-same (told_of r) e (sym u ∙ h)) (owner-fits p U r o)

      by : Fate n → EntryFits p e
      by (is_closed r o u w) = owned r o u
      by (is_made r o u w a) = owned r o u
      by (is_same s f) = fits n e (sym s ∙ h)

  pub settled-listed :
      (ns : List ℤ) → AreListed ns W → AreListed (numbers_of made ++ ns) U
  settled-listed ns listed n e h = by (fate n)
    where
      by : Fate n → Among n (numbers_of made ++ ns)
      by (is_closed r o u w) = among-right n (numbers_of made) ns (listed n (open_of r) w)
      by (is_made r o u w a) = among-left n (numbers_of made) ns a
      by (is_same s f) = among-right n (numbers_of made) ns (listed n e (sym s ∙ h))

-- ---- once all that were opened are closed, none is open

outside-any : (n : ℤ) (ns : List ℤ) → (Among n ns → ⊥) → list_any (same_number n) ns ≡ false
outside-any n [] f = refl
outside-any n (m ∷ ns) f =
    ap (λ b. b || list_any (same_number n) ns) (unlike (same_number n m) refl)
    ∙ outside-any n ns (λ a. f (inr a))
  where
    unlike : (b : Bool) → same_number n m ≡ b → same_number n m ≡ false
    unlike true e = absurd (f (inl (sym (same-int n m e))))
    unlike false e = e

pub opened-apart :
    (ns : List ℤ) (V : Table) (n : ℤ) → (Among n ns → ⊥) → opened_table ns V n ≡ V n
opened-apart ns V n f = ap (λ b. opened_at b (V n)) (outside-any n ns f) ∙ as-it-was (V n)
  where
    as-it-was : (o : Option Known) → opened_at false o ≡ o
    as-it-was None = refl
    as-it-was (Some e) = refl

pub settled-full :
    (p : PlainProgram) (V U : Table) (part : Stock) (ns opened : List ℤ)
    (closed made : List Owner) →
    Settles p V (opened_table ns V) U part opened closed made →
    ((n : ℤ) → Among n ns → Among n opened) → NoneOpen V → NoneOpen U
settled-full p V U part ns opened closed made st all full n e h =
    by (fate p V W U part opened closed made st n)
  where
    W : Table
    W = opened_table ns V

    has-state : (r : Owner) → U n ≡ Some (told_of r) → (b : ℤ) × (e.state ≡ Some b)
    has-state r u =
        (r.state, sym (ap (λ (x : Known). x.state) (some-same (told_of r) e (sym u ∙ h))))

    by :
        Fate p V (opened_table ns V) U part opened closed made st n →
        (b : ℤ) × (e.state ≡ Some b)
    by (is_closed r o u w) = has-state r u
    by (is_made r o u w a) = has-state r u
    by (is_same s f) =
        full n e
        (sym (opened-apart ns V n (λ a. f (subst (Among n) (sym st.numbers) (all n a))))
        ∙ sym s ∙ h)
