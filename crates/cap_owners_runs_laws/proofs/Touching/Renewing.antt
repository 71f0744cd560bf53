-- Regions of a track that are closed: each stands in its place, with its number; so all of them are
-- what soundness makes of what they own at once.
use Rattle.std.proofs.Common.{◌≡◌, ◌≢◌, inl, inr, suc, ℤ, pos, ◌+ℤ◌, ◌<ℤ◌, Bool, true, false, List, [], ◌∷◌, map, length, cond, Some, None, refl, sym, ap, ◌∙◌, subst, arith}
use Rattle.std.specs.Prelude.{slice_get, drop, int_lt, if◌then◌else◌}
use Rattle.std.specs.List.{AllByRecursion}
use Rattle.std.proofs.lemmas.Int.{ints}
use Rattle.cap_lin.specs.Linear.{same_number}
use Rattle.cap_machine_accounts.specs.Parts.{Region}
use Rattle.cap_machine_accounts.specs.Accounts.{EachTwo}
use Rattle.cap_account_resources.specs.Parts.{Known, known_as, Table}
use Rattle.cap_account_resources.proofs.Lists.{some-same, Among, all-more, all-unmap}
use Rattle.cap_account_resources.proofs.Order.{same-int, same-refl}
use Rattle.cap_account_resources.proofs.Owners.{Owner, Numbered}
use Rattle.cap_account_steps.proofs.Exact.{all-two}
use Rattle.cap_account.proofs.Stocked.{owner_at}
use Rattle.cap_account.proofs.Renewed.{from}
use Rattle.cap_account.proofs.Renewed as once
use Rattle.cap_owners_spec.specs.Track.{TrackedRegion, tracked_at}
use Rattle.cap_owners_spec.specs.Walks.{with_region}
use Rattle.cap_owners_laws.specs.Owned.{AreNumbered}
use Rattle.cap_owners_walks_laws.proofs.Passes.Takes.{owner_of}
use Rattle.cap_owners_walks_laws.proofs.Regions.ClosesAll.{renewed, tracked-of}
use Rattle.cap_owners_walks_laws.proofs.Regions.Open.{numbers_in, AreAscending, put-there}

-- ---- numbers

abbrev regions_in : List TrackedRegion → List Region
regions_in rs = map (λ r. r.region) (map (λ r. r.owned) rs)

above :
    (n m : ℤ) (rs : List TrackedRegion) → AreNumbered n (regions_in rs) → m <ℤ n →
    AllByRecursion (λ k. m <ℤ k) (numbers_in rs)
above n m [] h l = tt
above n m (r ∷ rs) h l =
    let e = h.0 in (
      omega (arith, ints, e, l),
      above (n +ℤ pos 1) m rs h.1 (omega (arith, ints, l)),
    )

pub numbered-ascending :
    (n : ℤ) (rs : List TrackedRegion) → AreNumbered n (regions_in rs) →
    AreAscending (numbers_in rs)
numbered-ascending n [] h = tt
numbered-ascending n (r ∷ rs) h =
    let e = h.0 in (
      above (n +ℤ pos 1) r.owned.region.number rs h.1 (omega (arith, ints, e)),
      numbered-ascending (n +ℤ pos 1) rs h.1,
    )

pub numbered-below :
    (n : ℤ) (rs : List TrackedRegion) → AreNumbered n (regions_in rs) →
    AllByRecursion (λ k. k <ℤ (n +ℤ pos (length rs))) (numbers_in rs)
numbered-below n [] h = tt
numbered-below n (r ∷ rs) h =
    let e = h.0 in
    let same : (n +ℤ pos 1) +ℤ pos (length rs) ≡ n +ℤ pos (suc (length rs)) = omega (arith, ints) in (
      omega (arith, ints, e),
      subst (λ m. AllByRecursion (λ k. k <ℤ m) (numbers_in rs)) same
          (numbered-below (n +ℤ pos 1) rs h.1),
    )

pub numbered-same :
    (n : ℤ) (rs ss : List TrackedRegion) → numbers_in rs ≡ numbers_in ss →
    AreNumbered n (regions_in ss) → AreNumbered n (regions_in rs)
numbered-same n [] ss e h = tt
numbered-same n (r ∷ rs) [] e h =
    absurd (let m = ap (λ (ns : List ℤ). length ns) e in omega (arith, m))
numbered-same n (r ∷ rs) (s ∷ ss) e h =
    let first = some-same r.owned.region.number s.owned.region.number (ap (λ ns. slice_get ns 0) e)
    in
    let k = h.0 in
    (first ∙ k, numbered-same (n +ℤ pos 1) rs ss (ap (drop 1) e) h.1)

pub numbered-owners :
    (n m : ℤ) (rs : List TrackedRegion) → Numbered n (map owner_of rs) m →
    AreNumbered n (regions_in rs)
numbered-owners n m [] h = tt
numbered-owners n m (r ∷ rs) h = (h.0, numbered-owners (n +ℤ pos 1) m rs h.1)

-- ---- one region is put in its place

-- the table tells its type and arguments
abbrev pub IsKnownBy : Table → TrackedRegion → Type 0
IsKnownBy V r =
    (z : ℤ)
    × (V r.owned.region.number ≡ Some (known_as r.owned.region.kind r.owned.region.args (Some z)))

module _ (V : Table) where
  -- it has what one of the others had, but for state and part
  same-known :
      (r s : TrackedRegion) → IsKnownBy V r → IsKnownBy V s →
      r.owned.region.number ≡ s.owned.region.number →
      (r.owned.region.kind ≡ s.owned.region.kind) × (r.owned.region.args ≡ s.owned.region.args)
  same-known r s h k e =
      let a = r.owned.region in
      let b = s.owned.region in
      let same = some-same (known_as a.kind a.args (Some h.0)) (known_as b.kind b.args (Some k.0))
      (sym h.1 ∙ ap V e ∙ k.1) in
      (ap (λ (x : Known). x.kind) same, ap (λ (x : Known). x.args) same)

  -- none of these has its number
  not-there :
      (n : ℤ) (os : List Owner) → AllByRecursion (λ o. n ≢ o.number) os → owner_at os n ≡ None
  not-there n [] h = refl
  not-there n (o ∷ os) h = by (same_number o.number n) refl (not-there n os h.1)
    where
      by :
          (b : Bool) → same_number o.number n ≡ b → owner_at os n ≡ None →
          cond b (Some o) (owner_at os n) ≡ None
      by true t k = absurd (h.0 (sym (same-int o.number n t)))
      by false t k = k

  still : (o : Owner) (os : List Owner) → owner_at os o.number ≡ None → once.renewed os o ≡ o
  still o os e i = record {
    number = o.number;
    kind = o.kind;
    args = o.args;
    state = from (λ q. q.state) o.state (e i);
    stock = from (λ q. q.stock) o.stock (e i);
  }

  put-known :
      (c : TrackedRegion) (rs : List TrackedRegion) → IsKnownBy V c →
      AllByRecursion (IsKnownBy V) rs → AllByRecursion (IsKnownBy V) (with_region c rs)
  put-known c [] h k = (h, tt)
  put-known c (s ∷ ss) h k =
      by (same_number s.owned.region.number c.owned.region.number)
      (int_lt c.owned.region.number s.owned.region.number) (put-known c ss h k.1)
    where
      by :
          (b d : Bool) → AllByRecursion (IsKnownBy V) (with_region c ss) →
          AllByRecursion (IsKnownBy V)
          (if b then c ∷ ss else (if d then c ∷ (s ∷ ss) else s ∷ with_region c ss))
      by true d m = (h, k.1)
      by false true m = (h, k)
      by false false m = (k.0, m)

  -- the first closed one in its place, and then the others
  put-renewed :
      (c : TrackedRegion) (os : List Owner) (rs : List TrackedRegion) → IsKnownBy V c →
      AllByRecursion (IsKnownBy V) rs → AllByRecursion (λ o. c.owned.region.number ≢ o.number) os →
      AreAscending (numbers_in rs) → Among c.owned.region.number (numbers_in rs) →
      map (once.renewed (owner_of c ∷ os)) (map owner_of rs)
      ≡ map (once.renewed os) (map owner_of (with_region c rs))
  put-renewed c os [] h k ne up a = absurd a
  put-renewed c os (s ∷ ss) h k ne up a =
      by (same_number s.owned.region.number c.owned.region.number) refl
      (λ m. put-renewed c os ss h k.1 ne up.1 m)
    where
      n : ℤ
      n = c.owned.region.number

      here :
          s.owned.region.number ≡ c.owned.region.number →
          once.renewed (owner_of c ∷ os) (owner_of s) ≡ once.renewed os (owner_of c)
      here e =
          let same = same-known s c k.0 h e in
          let found : same_number c.owned.region.number s.owned.region.number ≡ true =
          ap (same_number n) e ∙ same-refl n in
          let none = not-there n os ne in
          λ i. record {
            number = e i;
            kind = same.0 i;
            args = same.1 i;
            state = (ap (λ b. from (λ (q : Owner). q.state) s.owned.region.state
                (cond b (Some (owner_of c)) (owner_at os s.owned.region.number))) found
                ∙ ap (from (λ (q : Owner). q.state) c.owned.region.state) (sym none)) i;
            stock = (ap (λ b. from (λ (q : Owner). q.stock) (owner_of s).stock
                (cond b (Some (owner_of c)) (owner_at os s.owned.region.number))) found
                ∙ ap (from (λ (q : Owner). q.stock) (owner_of c).stock) (sym none)) i;
          }

      elsewhere :
          (r : TrackedRegion) → c.owned.region.number ≢ r.owned.region.number →
          once.renewed (owner_of c ∷ os) (owner_of r) ≡ once.renewed os (owner_of r)
      elsewhere r apart = by (same_number n r.owned.region.number) refl
        where
          by :
              (b : Bool) → same_number c.owned.region.number r.owned.region.number ≡ b →
              once.renewed (owner_of c ∷ os) (owner_of r) ≡ once.renewed os (owner_of r)
          by true t = absurd (apart (same-int c.owned.region.number r.owned.region.number t))
          by false t = λ i. record {
            number = r.owned.region.number;
            kind = r.owned.region.kind;
            args = r.owned.region.args;
            state = from (λ q. q.state) r.owned.region.state
                (cond (t i) (Some (owner_of c)) (owner_at os r.owned.region.number));
            stock = from (λ q. q.stock) (owner_of r).stock
                (cond (t i) (Some (owner_of c)) (owner_at os r.owned.region.number));
          }

      all-elsewhere :
          (rs : List TrackedRegion) → AllByRecursion (λ m. c.owned.region.number <ℤ m) (numbers_in rs) →
          map (once.renewed (owner_of c ∷ os)) (map owner_of rs)
          ≡ map (once.renewed os) (map owner_of rs)
      all-elsewhere [] l = refl
      all-elsewhere (r ∷ rs) l =
          let less = l.0 in
          ap (λ o. o ∷ map (once.renewed (owner_of c ∷ os)) (map owner_of rs))
          (elsewhere r (λ e. omega (arith, ints, e, less)))
          ∙ ap (λ qs. once.renewed os (owner_of r) ∷ qs) (all-elsewhere rs l.1)

      before :
          (m : ℤ) (ns : List ℤ) → AllByRecursion (λ k. m <ℤ k) ns →
          Among c.owned.region.number ns → m <ℤ c.owned.region.number
      before m [] l q = absurd q
      before m (k ∷ ns) l (inl e) = (let i = l.0 in omega (arith, ints, i, e))
      before m (k ∷ ns) l (inr q) = before m ns l.1 q

      by :
          (b : Bool) → same_number s.owned.region.number c.owned.region.number ≡ b →
          (Among c.owned.region.number (numbers_in ss) →
          map (once.renewed (owner_of c ∷ os)) (map owner_of ss)
          ≡ map (once.renewed os) (map owner_of (with_region c ss))) →
          map (once.renewed (owner_of c ∷ os)) (map owner_of (s ∷ ss))
          ≡ map (once.renewed os) (map owner_of (if b then c ∷ ss
          else (if int_lt c.owned.region.number s.owned.region.number then c ∷ (s ∷ ss)
          else s ∷ with_region c ss)))
      by true t later =
          let e = same-int s.owned.region.number c.owned.region.number t in
          ap (λ o. o ∷ map (once.renewed (owner_of c ∷ os)) (map owner_of ss)) (here e)
          ∙ ap (λ qs. once.renewed os (owner_of c) ∷ qs)
          (all-elsewhere ss (subst (λ m. AllByRecursion (λ k. m <ℤ k) (numbers_in ss)) e up.0))
      by false t later = elim a [
        | inl e ↦ absurd (unlike (sym t ∙ ap (λ m. same_number m c.owned.region.number) e
            ∙ same-refl c.owned.region.number))
        | inr m ↦
            let l = before s.owned.region.number (numbers_in ss) up.0 m in
            lt (int_lt c.owned.region.number s.owned.region.number) refl l (later m)
      ]
        where
          unlike : false ≡ true → ⊥
          unlike e = cc

          lt :
              (d : Bool) → int_lt c.owned.region.number s.owned.region.number ≡ d →
              s.owned.region.number <ℤ c.owned.region.number →
              map (once.renewed (owner_of c ∷ os)) (map owner_of ss)
              ≡ map (once.renewed os) (map owner_of (with_region c ss)) →
              map (once.renewed (owner_of c ∷ os)) (map owner_of (s ∷ ss))
              ≡ map (once.renewed os) (map owner_of (if d then c ∷ (s ∷ ss)
              else s ∷ with_region c ss))
          lt true q l k =
              absurd (let i : c.owned.region.number <ℤ s.owned.region.number = grind (arith, ints)
              in omega (arith, ints, i, l))
          lt false q l k =
              ap (λ o. o ∷ map (once.renewed (owner_of c ∷ os)) (map owner_of ss))
              (elsewhere s (λ e. omega (arith, ints, e, l)))
              ∙ ap (λ qs. once.renewed os (owner_of s) ∷ qs) k

  -- all of them
  pub renew-owners :
      (cs rs : List TrackedRegion) → AllByRecursion (IsKnownBy V) cs →
      AllByRecursion (IsKnownBy V) rs → EachTwo (λ r s. r.number ≢ s.number) (map owner_of cs) →
      AreAscending (numbers_in rs) →
      AllByRecursion (λ c. Among c.owned.region.number (numbers_in rs)) cs →
      map (once.renewed (map owner_of cs)) (map owner_of rs) ≡ map owner_of (renewed cs rs)
  renew-owners [] rs h k d up a = none rs
    where
      none : (qs : List TrackedRegion) → map (once.renewed []) (map owner_of qs) ≡ map owner_of qs
      none [] = refl
      none (q ∷ qs) = ap (λ os. owner_of q ∷ os) (none qs)
  renew-owners (c ∷ cs) rs h k d up a =
      let q = tracked-of rs c.owned.region.number a.0 in
      let put = (put-there c q.0 rs [] up q.1).1 in
      put-renewed c (map owner_of cs) rs h.0 k d.0 up a.0
      ∙ renew-owners cs (with_region c rs) h.1 (put-known c rs h.0 k) d.1
      (subst AreAscending (sym put) up)
      (all-more (λ c. Among c.owned.region.number (numbers_in rs))
      (λ e. Among e.owned.region.number (numbers_in (with_region c rs)))
      (λ e m. subst (Among e.owned.region.number) (sym put) m) cs a.1)

-- ---- what holds of all of them

-- a region that stands among others with ascending numbers is found by its number
pub tracked-itself :
    (rs : List TrackedRegion) → AreAscending (numbers_in rs) →
    AllByRecursion (λ r. tracked_at rs r.owned.region.number ≡ Some r) rs
tracked-itself [] up = tt
tracked-itself (s ∷ rs) up = (
  ap (λ b. cond b (Some s) (tracked_at rs s.owned.region.number))
      (same-refl s.owned.region.number),
  all-two (λ r. s.owned.region.number <ℤ r.owned.region.number)
      (λ r. tracked_at rs r.owned.region.number ≡ Some r)
      (λ r. tracked_at (s ∷ rs) r.owned.region.number ≡ Some r)
      (λ r l e. by r (same_number s.owned.region.number r.owned.region.number) refl l e) rs
      (all-unmap (λ (r : TrackedRegion). r.owned.region.number) (λ m. s.owned.region.number <ℤ m) rs
      up.0)
      (tracked-itself rs up.1),
)
  where
    by :
        (r : TrackedRegion) (b : Bool) →
        same_number s.owned.region.number r.owned.region.number ≡ b →
        s.owned.region.number <ℤ r.owned.region.number →
        tracked_at rs r.owned.region.number ≡ Some r →
        cond b (Some s) (tracked_at rs r.owned.region.number) ≡ Some r
    by r true t l e =
        let same = same-int s.owned.region.number r.owned.region.number t in
        absurd (omega (arith, ints, l, same))
    by r false t l e = e

-- what holds of one that is put in its place, and of the others
put-all :
    (Q : TrackedRegion → Type 0) (c : TrackedRegion) (rs : List TrackedRegion) →
    AreAscending (numbers_in rs) → Among c.owned.region.number (numbers_in rs) → Q c →
    AllByRecursion (λ r. c.owned.region.number ≢ r.owned.region.number → Q r) rs →
    AllByRecursion Q (with_region c rs)
put-all Q c [] up a q h = absurd a
put-all Q c (s ∷ ss) up a q h =
    by (same_number s.owned.region.number c.owned.region.number) refl
    (λ m. put-all Q c ss up.1 m q h.1)
  where
    greater :
        (rs : List TrackedRegion) →
        AllByRecursion (λ m. c.owned.region.number <ℤ m) (numbers_in rs) →
        AllByRecursion (λ r. c.owned.region.number ≢ r.owned.region.number → Q r) rs →
        AllByRecursion Q rs
    greater [] l k = tt
    greater (r ∷ rs) l k = (
      k.0 (λ e. let less = l.0 in omega (arith, ints, e, less)),
      greater rs l.1 k.1,
    )

    before :
        (m : ℤ) (ns : List ℤ) → AllByRecursion (λ k. m <ℤ k) ns →
        Among c.owned.region.number ns → m <ℤ c.owned.region.number
    before m [] l q = absurd q
    before m (k ∷ ns) l (inl e) = (let i = l.0 in omega (arith, ints, i, e))
    before m (k ∷ ns) l (inr q) = before m ns l.1 q

    by :
        (b : Bool) → same_number s.owned.region.number c.owned.region.number ≡ b →
        (Among c.owned.region.number (numbers_in ss) → AllByRecursion Q (with_region c ss)) →
        AllByRecursion Q
        (if b then c ∷ ss
        else (if int_lt c.owned.region.number s.owned.region.number then c ∷ (s ∷ ss)
        else s ∷ with_region c ss))
    by true t later =
        let e = same-int s.owned.region.number c.owned.region.number t in
        (q, greater ss (subst (λ m. AllByRecursion (λ k. m <ℤ k) (numbers_in ss)) e up.0) h.1)
    by false t later = elim a [
      | inl e ↦ absurd (unlike (sym t ∙ ap (λ m. same_number m c.owned.region.number) e
          ∙ same-refl c.owned.region.number))
      | inr m ↦
          lt (int_lt c.owned.region.number s.owned.region.number) refl
          (before s.owned.region.number (numbers_in ss) up.0 m) (later m)
    ]
      where
        unlike : false ≡ true → ⊥
        unlike e = cc

        lt :
            (d : Bool) → int_lt c.owned.region.number s.owned.region.number ≡ d →
            s.owned.region.number <ℤ c.owned.region.number → AllByRecursion Q (with_region c ss) →
            AllByRecursion Q (if d then c ∷ (s ∷ ss) else s ∷ with_region c ss)
        lt true i l k =
            absurd (let j : c.owned.region.number <ℤ s.owned.region.number = grind (arith, ints)
            in omega (arith, ints, j, l))
        lt false i l k = (h.0 (λ e. omega (arith, ints, e, l)), k)

-- of those that are closed, and of others that aren't
pub renewed-all :
    (Q : TrackedRegion → Type 0) (cs rs : List TrackedRegion) → AreAscending (numbers_in rs) →
    AllByRecursion (λ c. Among c.owned.region.number (numbers_in rs)) cs → AllByRecursion Q cs →
    AllByRecursion (λ r. owner_at (map owner_of cs) r.owned.region.number ≡ None → Q r) rs →
    AllByRecursion Q (renewed cs rs)
renewed-all Q [] rs up a q h =
    all-more (λ r. owner_at [] r.owned.region.number ≡ None → Q r) Q (λ r k. k refl) rs h
renewed-all Q (c ∷ cs) rs up a q h =
    let P = λ (r : TrackedRegion). owner_at (map owner_of cs) r.owned.region.number ≡ None → Q r in
    let found = tracked-of rs c.owned.region.number a.0 in
    let put = (put-there c found.0 rs [] up found.1).1 in
    renewed-all Q cs (with_region c rs) (subst AreAscending (sym put) up)
    (all-more (λ c. Among c.owned.region.number (numbers_in rs))
    (λ e. Among e.owned.region.number (numbers_in (with_region c rs)))
    (λ e m. subst (Among e.owned.region.number) (sym put) m) cs a.1) q.1
    (put-all P c rs up a.0 (λ none. q.0)
    (all-more
    (λ r. owner_at (owner_of c ∷ map owner_of cs) r.owned.region.number ≡ None → Q r)
    (λ r. c.owned.region.number ≢ r.owned.region.number → P r)
    (λ r k ne none. k (apart r ne none)) rs h))
  where
    apart :
        (r : TrackedRegion) → c.owned.region.number ≢ r.owned.region.number →
        owner_at (map owner_of cs) r.owned.region.number ≡ None →
        owner_at (owner_of c ∷ map owner_of cs) r.owned.region.number ≡ None
    apart r ne none = by (same_number c.owned.region.number r.owned.region.number) refl
      where
        by :
            (b : Bool) → same_number c.owned.region.number r.owned.region.number ≡ b →
            cond b (Some (owner_of c)) (owner_at (map owner_of cs) r.owned.region.number) ≡ None
        by true t = absurd (ne (same-int c.owned.region.number r.owned.region.number t))
        by false t = none
