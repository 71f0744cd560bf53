-- The regions after a step: those that were opened are closed with other states and stocks, made
-- ones come last, and the others are as they were.
use Rattle.cap_account_resources.proofs.Lists.{all-map, some-same, none-some, Among, all-more, all-both}
use Rattle.std.proofs.Common.{◌≡◌, ◌≢◌, ◌⊎◌, inl, inr, ℤ, List, [], ◌∷◌, ◌++◌, map, Option, Some, None, refl, sym, ap, ◌∙◌, subst}
use Rattle.std.specs.Prelude.{not, option_map}
use Rattle.std.specs.List.{AllByRecursion}
use Rattle.cap_prog.specs.Program.{PlainProgram}
use Rattle.cap_account_resources.specs.Parts.{Known, known_as, Table}
use Rattle.cap_account_resources.proofs.Interference.{Can, Guarantees}
use Rattle.cap_account_resources.proofs.Stocks.{Stock, both, all_of, Inside}
use Rattle.cap_account_resources.proofs.Owners.{Owner, owned, numbers_of, owned-join}
use Rattle.cap_account_assertions.proofs.Laws.{IsOwner, Reached}
use Rattle.cap_account_steps.proofs.Regained.{Stable, region-again}
use Rattle.cap_account_steps.proofs.Worlds.{HasMoved, Settles}
use Rattle.cap_account.proofs.Stocked.{sum_by, owner_at, known_by, table_by, stock_or_none, share_by, OwnsItsOwn}
use Rattle.cap_account.proofs.Totals.{sum-map, sum-each}
use Rattle.cap_account.proofs.Chosen.{members, of-member, each-two-mapped, has_number, test-all, found, missing, look, Apart, at-itself, number-among, apart-join, first_some, at-join, at-mapped, when, sum-alike, sum-split, if_numbered, unless_numbered, owned-sum, of-numbers}

-- ---- the owners afterwards

-- what an owner says that may be there, or else this
abbrev pub from : {A : Type 0} → (Owner → A) → A → Option Owner → A
from f z None = z
from f z (Some o) = f o

abbrev pub renewed : List Owner → Owner → Owner
renewed closed r = record {
  number = r.number;
  kind = r.kind;
  args = r.args;
  state = from (λ o. o.state) r.state (owner_at closed r.number);
  stock = from (λ o. o.stock) r.stock (owner_at closed r.number);
}

abbrev pub owners_after : List Owner → List Owner → List Owner → List Owner
owners_after closed made rs = map (renewed closed) rs ++ made

-- an owner that isn't closed stays
pub stays-same :
    (closed : List Owner) (r : Owner) → owner_at closed r.number ≡ None → renewed closed r ≡ r
stays-same closed r q i = record {
  number = r.number;
  kind = r.kind;
  args = r.args;
  state = from (λ o. o.state) r.state (q i);
  stock = from (λ o. o.stock) r.stock (q i);
}

-- a state that may be there, or else this
abbrev pub the_state : Option ℤ → ℤ → ℤ
the_state None z = z
the_state (Some b) z = b

-- ---- what becomes of them

-- the table W in which some of the regions are open is elsewhere as before
pub record Shift (p : PlainProgram) (rs : List Owner) : Type 0 where
  pub differ : Apart rs
  pub part : Stock
  pub W : Table
  pub U : Table
  pub opened : List ℤ
  pub closed : List Owner
  pub made : List Owner
  pub settles : Settles p (table_by rs) W U part opened closed made
  pub away : (n : ℤ) → (Among n opened → ⊥) → W n ≡ table_by rs n

module _ (p : PlainProgram) (rs : List Owner) (s : Shift p rs) where
  abbrev V : Table
  V = table_by rs

  abbrev later : List Owner
  later = map (renewed s.closed) rs

  abbrev pub after : List Owner
  after = owners_after s.closed s.made rs

  -- ---- the numbers of closed and made regions

  pub closed-numbers : (n : ℤ) → Among n (numbers_of s.closed) → Among n s.opened
  closed-numbers n m = subst (Among n) s.settles.numbers m

  opened-numbers : (n : ℤ) → Among n s.opened → Among n (numbers_of s.closed)
  opened-numbers n m = subst (Among n) (sym s.settles.numbers) m

  abbrev has-moved : (o : Owner) → Among o s.closed → HasMoved p V s.part o
  has-moved o m = of-member (HasMoved p V s.part) o s.closed m s.settles.moved

  closed-owner : (o : Owner) → Among o s.closed → IsOwner p s.U o
  closed-owner o m = of-member (IsOwner p s.U) o s.closed m s.settles.closed_owners

  made-owner : (o : Owner) → Among o s.made → IsOwner p s.U o
  made-owner o m = of-member (IsOwner p s.U) o s.made m s.settles.made_owners

  pub known-at : (r : Owner) → Among r rs → V r.number ≡ Some (known_by r)
  known-at r m = ap (option_map known_by) (at-itself rs s.differ r m)

  -- a made region wasn't there
  pub was-absent : (o : Owner) → Among o s.made → V o.number ≡ None
  was-absent o m =
      let none = of-member (λ r. s.W r.number ≡ None) o s.made m s.settles.absent in
      elim (look s.closed o.number) [
        | found c k e q ↦
            absurd (none-some (sym none
            ∙ ap s.W (sym e)
            ∙ of-member (λ r. s.W r.number ≡ Some (known_as r.kind r.args None)) c s.closed k
            s.settles.were_open))
        | missing f q ↦ sym (s.away o.number (λ k. f (opened-numbers o.number k))) ∙ none
      ]

  -- a number of neither
  others-same :
      (n : ℤ) → (Among n (numbers_of s.closed) → ⊥) → (Among n (numbers_of s.made) → ⊥) →
      s.U n ≡ V n
  others-same n c m = s.settles.others n c m ∙ s.away n (λ k. c (opened-numbers n k))

  -- what was there and isn't closed stays
  pub stays-known :
      (n : ℤ) (e : Known) → V n ≡ Some e → (Among n (numbers_of s.closed) → ⊥) → s.U n ≡ Some e
  stays-known n e h c =
      others-same n c (λ m. elim (look s.made n) [
        | found o k q t ↦ none-some (sym (was-absent o k) ∙ ap V q ∙ h)
        | missing f t ↦ f m
      ])
      ∙ h

  -- a region that is closed is its owner afterwards
  pub becomes :
      (r o : Owner) → Among r rs → Among o s.closed → owner_at s.closed r.number ≡ Some o →
      o.number ≡ r.number → renewed s.closed r ≡ o
  becomes r o m k q e =
      let was = has-moved o k in
      let same = some-same (known_by r) (known_as o.kind o.args (Some was.state))
      (sym (known-at r m) ∙ ap V (sym e) ∙ was.was) in
      let kinds = ap (λ (y : Known). y.kind) same in
      let lists = ap (λ (y : Known). y.args) same in
      λ i. record {
        number = sym e i;
        kind = kinds i;
        args = lists i;
        state = from (λ o. o.state) r.state (q i);
        stock = from (λ o. o.stock) r.stock (q i);
      }

  -- ---- the table

  at-later : (n : ℤ) → owner_at later n ≡ option_map (renewed s.closed) (owner_at rs n)
  at-later n = at-mapped (renewed s.closed) (λ r. refl) rs n

  at-after :
      (n : ℤ) → table_by after n
      ≡ option_map known_by
      (first_some (option_map (renewed s.closed) (owner_at rs n)) (owner_at s.made n))
  at-after n =
      ap (option_map known_by)
      (at-join later s.made n ∙ ap (λ o. first_some o (owner_at s.made n)) (at-later n))

  -- an old region in the table
  pub known-after : (r : Owner) → Among r rs → s.U r.number ≡ Some (known_by (renewed s.closed r))
  known-after r m = elim (look s.closed r.number) [
    | found o k e q ↦
        ap s.U (sym e) ∙ (closed-owner o k).known ∙ ap (λ y. Some (known_by y))
        (sym (becomes r o m k q e))
    | missing f q ↦
        stays-known r.number (known_by r) (known-at r m) f
        ∙ ap (λ y. Some (known_by y)) (sym (stays-same s.closed r q))
  ]

  pub table-after : (n : ℤ) → table_by after n ≡ s.U n
  table-after n = at-after n ∙ elim (look rs n) [
    | found r m e q ↦
        ap (λ o. option_map known_by (first_some (option_map (renewed s.closed) o)
        (owner_at s.made n))) q
        ∙ sym (known-after r m)
        ∙ ap s.U e
    | missing f q ↦
        let none = ap (option_map known_by) q in
        ap (λ o. option_map known_by (first_some (option_map (renewed s.closed) o)
        (owner_at s.made n))) q
        ∙ elim (look s.made n) [
          | found o m e t ↦
              ap (option_map known_by) t ∙ sym (made-owner o m).known ∙ ap s.U e
          | missing g t ↦
              ap (option_map known_by) t
              ∙ sym none
              ∙ sym (others-same n (λ c. elim (look s.closed n) [
                | found o k e u ↦
                    none-some (sym none ∙ ap V (sym e) ∙ (has-moved o k).was)
                | missing h u ↦ h c
              ]) g)
        ]
  ]

  pub apart-after : Apart after
  apart-after =
      apart-join later s.made
      (each-two-mapped (renewed s.closed) (λ r q. r.number ≢ q.number) rs s.differ)
      s.settles.made_differ (λ r m k.
      of-member (λ (r : Owner). Among r.number (numbers_of s.made) → ⊥) r later m
      (all-map (renewed s.closed) (λ r. Among r.number (numbers_of s.made) → ⊥) rs
      (all-more (λ r. Among r rs) (λ r. Among r.number (numbers_of s.made) → ⊥)
      (λ r m k. elim (look s.made r.number) [
        | found o j e q ↦
            none-some (sym (was-absent o j) ∙ ap V e ∙ known-at r m)
        | missing f q ↦ f k
      ]) rs (members rs))) k)

  -- a made region in the table
  pub made-known : (n : ℤ) (e : Known) → table_by s.made n ≡ Some e → s.U n ≡ Some e
  made-known n e h = elim (look s.made n) [
    | found o m k q ↦
        ap s.U (sym k) ∙ (made-owner o m).known ∙ sym (ap (option_map known_by) q) ∙ h
    | missing f q ↦ absurd (none-some (sym (ap (option_map known_by) q) ∙ h))
  ]

  -- ---- what the frame did

  abbrev Allowed : ℤ → Known → Type 0
  Allowed n e =
      (c : ℤ)
      × (s.U n ≡ Some (known_as e.kind e.args (Some c)))
      × ((c ≡ the_state e.state c)
      ⊎ Can p (s.part.guards n) e.kind n e.args (the_state e.state c) c)

  pub guarantees : Guarantees p s.part.guards V s.U
  guarantees n k args b h = elim (look s.closed n) [
    | found o m e q ↦
        let was = has-moved o m in
        subst (Allowed n)
        (some-same (known_as o.kind o.args (Some was.state)) (known_as k args (Some b))
        (sym was.was ∙ ap V e ∙ h))
        (subst (λ n. Allowed n (known_as o.kind o.args (Some was.state))) e
        (o.state, (closed-owner o m).known, was.moves))
    | missing f q ↦ (b, stays-known n (known_as k args (Some b)) h f, inl refl)
  ]

  -- ---- what they own

  -- regions that aren't opened
  abbrev pub free_stock : Stock
  free_stock = sum_by p (unless_numbered s.opened) rs

  abbrev pub opened_stock : Stock
  opened_stock = sum_by p (if_numbered s.opened) rs

  pub owned-before : owned p rs ≡ both p opened_stock free_stock
  owned-before = owned-sum p rs ∙ sum-split p (λ r. has_number s.opened r.number) (λ r. r.stock) rs

  pub free-each :
      (r : Owner) → Among r rs → owner_at s.closed r.number ≡ None → Inside p r.stock free_stock
  free-each r m q = elim (test-all r.number s.opened) [
    | inl t ↦ elim (look s.closed r.number) [
      | found o k e u ↦ absurd (none-some (sym q ∙ u))
      | missing f u ↦ absurd (f (opened-numbers r.number t.0))
    ]
    | inr t ↦
        subst (λ x. Inside p x free_stock) (ap (λ b. when (not b) r.stock) t.1)
        (of-member (λ r. Inside p (unless_numbered s.opened r) free_stock) r rs m
        (sum-each p (unless_numbered s.opened) rs))
  ]

  share-later : (o : Owner) → Among o s.closed → share_by later o.number ≡ o.stock
  share-later o k = elim (look rs o.number) [
    | found r m e q ↦
        ap stock_or_none (at-later o.number ∙ ap (option_map (renewed s.closed)) q)
        ∙ ap (λ (y : Owner). y.stock)
        (becomes r o m k
        (ap (owner_at s.closed) e ∙ at-itself s.closed s.settles.closed_differ o k) (sym e))
    | missing f q ↦
        absurd (none-some (sym (ap (option_map known_by) q) ∙ (has-moved o k).was))
  ]

  shares-later :
      (os : List Owner) → AllByRecursion (λ o. share_by later o.number ≡ o.stock) os →
      all_of p (numbers_of os) (share_by later) ≡ owned p os
  shares-later [] h = refl
  shares-later (o ∷ os) h =
      ap (λ q. both p q (all_of p (numbers_of os) (share_by later))) h.0
      ∙ ap (both p o.stock) (shares-later os h.1)

  abbrev apart-later : Apart later
  apart-later = each-two-mapped (renewed s.closed) (λ r q. r.number ≢ q.number) rs s.differ

  -- closed regions have what was closed
  pub closed-sum : sum_by p (if_numbered s.opened) later ≡ owned p s.closed
  closed-sum =
      ap (λ ns. sum_by p (if_numbered ns) later) (sym s.settles.numbers)
      ∙ of-numbers p (numbers_of s.closed)
      (each-two-mapped (λ (o : Owner). o.number) (λ m n. m ≢ n) s.closed s.settles.closed_differ)
      later apart-later
      ∙ shares-later s.closed
      (all-more (λ o. Among o s.closed) (λ o. share_by later o.number ≡ o.stock) share-later
      s.closed (members s.closed))

  -- and the others what they had
  free-sum : sum_by p (unless_numbered s.opened) later ≡ free_stock
  free-sum =
      sum-map p (unless_numbered s.opened) (renewed s.closed) rs
      ∙ sum-alike p (λ r. unless_numbered s.opened (renewed s.closed r))
      (unless_numbered s.opened) (λ r. elim (look s.closed r.number) [
        | found o k e q ↦ elim (test-all r.number s.opened) [
          | inl t ↦
              ap (λ b. when (not b) (renewed s.closed r).stock) t.1
              ∙ sym (ap (λ b. when (not b) r.stock) t.1)
          | inr t ↦
              absurd (t.0 (closed-numbers r.number
              (subst (λ n. Among n (numbers_of s.closed)) e (number-among s.closed o k))))
        ]
        | missing f q ↦ ap (unless_numbered s.opened) (stays-same s.closed r q)
      ]) rs

  pub owned-after :
      owned p after ≡ both p (both p (owned p s.closed) free_stock) (owned p s.made)
  owned-after =
      owned-join p later s.made
      ∙ ap (λ q. both p q (owned p s.made))
      (owned-sum p later
      ∙ sum-split p (λ r. has_number s.opened r.number) (λ r. r.stock) later
      ∙ ap (λ q. both p q (sum_by p (unless_numbered s.opened) later)) closed-sum
      ∙ ap (both p (owned p s.closed)) free-sum)

  -- each owns what its type says
  pub own-after :
      Stable p → AllByRecursion (OwnsItsOwn p V) rs →
      ((q : Stock) → Inside p q free_stock → Reached p V s.U q) →
      AllByRecursion (OwnsItsOwn p s.U) after
  own-after stable own reached =
      all-both (OwnsItsOwn p s.U) later s.made
      (all-map (renewed s.closed) (OwnsItsOwn p s.U) rs
      (all-more (λ r. Among r rs) (λ r. OwnsItsOwn p s.U (renewed s.closed r)) old rs
      (members rs)))
      (all-more (IsOwner p s.U) (OwnsItsOwn p s.U) (λ o i. i.owns) s.made s.settles.made_owners)
    where
      old : (r : Owner) → Among r rs → OwnsItsOwn p s.U (renewed s.closed r)
      old r m = elim (look s.closed r.number) [
        | found o k e q ↦
            subst (OwnsItsOwn p s.U) (sym (becomes r o m k q e)) (closed-owner o k).owns
        | missing f q ↦
            subst (OwnsItsOwn p s.U) (sym (stays-same s.closed r q))
            (region-again p stable V s.U r.stock r.number r.kind r.args r.state
            (reached r.stock (free-each r m q)) (known-at r m)
            (stays-known r.number (known_by r) (known-at r m) f)
            (of-member (OwnsItsOwn p V) r rs m own))
      ]
