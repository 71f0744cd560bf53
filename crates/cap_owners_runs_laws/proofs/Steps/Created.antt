-- The regions that a Take creates are regions that a step makes: the track has them as they are
-- tracked, behind those that there were.
use Rattle.std.proofs.Common.{◌≡◌, suc, ◌+◌, ℤ, pos, ◌+ℤ◌, List, [], ◌∷◌, map, length, Option, Some, refl, ◌∙◌, subst, arith}
use Rattle.std.specs.List.{AllByRecursion, AllZip}
use Rattle.std.proofs.lemmas.Int.{ints}
use Rattle.cap_goal_spec.specs.Choices.{PlainTree}
use Rattle.cap_machine_accounts.specs.Accounts.{OwnedRegion}
use Rattle.cap_account_resources.specs.Parts.{known_as, Table}
use Rattle.cap_account_resources.proofs.Interference.{relies-same}
use Rattle.cap_account_resources.proofs.Lists.{map-length}
use Rattle.cap_account_resources.proofs.Owners.{Owner, owned, Numbered}
use Rattle.cap_account_resources.proofs.Stocks.{Stock, both, Inside, inside-same, inside-trans, inside-first, inside-second}
use Rattle.cap_account_resources.proofs.Tables.{FitsRoom, new_guards, fits-less, fits-later, extends-types}
use Rattle.cap_account_states.proofs.Checked.{Checked}
use Rattle.cap_account_assertions.proofs.Laws.{IsOwner, Made, Creation}
use Rattle.cap_account_assertions.proofs.MadeTables.{made-extends, made-fits, made-full}
use Rattle.cap_account_steps.proofs.Frames.{Roomy}
use Rattle.cap_account.proofs.Stocked.{part_stock, owners}
use Rattle.cap_owners_spec.specs.Track.{TrackedRegion}
use Rattle.cap_owners_laws.specs.Owned.{AreNumbered}
use Rattle.cap_owners_walks_laws.proofs.Passes.Takes.{IsTracked, AreBelow}
use Rattle.cap_owners_walks_laws.proofs.Regions.OwnedSo.{names-sorted}
use Rattle.cap_owners_runs_laws.proofs.Tracks.Tied.{RegionTied}
use Rattle.cap_owners_runs_laws.proofs.Steps.Making.{MadeSo}

-- ---- numbers

are-numbered :
    (n m : ℤ) (rs : List OwnedRegion) → Numbered n (owners rs) m →
    AreNumbered n (map (λ r. r.region) rs)
are-numbered n m [] h = tt
are-numbered n m (r ∷ rs) h = (h.0, are-numbered (n +ℤ pos 1) m rs h.1)

-- regions that are numbered from a number on are below that one with their count
pub numbered-below :
    (n : ℤ) (rs : List TrackedRegion) →
    AreNumbered n (map (λ r. r.region) (map (λ r. r.owned) rs)) →
    AreBelow (n +ℤ pos (length rs)) rs
numbered-below n [] h = tt
numbered-below n (r ∷ rs) h =
    let e = h.0 in
    let same : (n +ℤ pos 1) +ℤ pos (length rs) ≡ n +ℤ pos (suc (length rs)) = omega (arith, ints) in (
      omega (arith, ints, e),
      subst (λ m. AreBelow m rs) same (numbered-below (n +ℤ pos 1) rs h.1),
    )

-- ---- owners

owners-same :
    (p : Checked) (U : Table) (cs : List Creation) (rs : List TrackedRegion) →
    AllZip (IsTracked p.program U) cs rs →
    map (λ c. c.owner) cs ≡ owners (map (λ r. r.owned) rs)
owners-same p U [] [] h = refl
owners-same p U [] (r ∷ rs) h = absurd h
owners-same p U (c ∷ cs) [] h = absurd h
owners-same p U (c ∷ cs) (r ∷ rs) h = λ i. h.0.owner i ∷ owners-same p U cs rs h.1 i

module _ (p : Checked) (trees : List (Option PlainTree)) (T U : Table) (part given : Stock)
    (roomy : Roomy p.program T part) (new : List Owner) (made : Made p.program T U new)
    (budget :
    Inside p.program (both p.program given (owned p.program new))
    (both p.program part (new_guards p.program T U))) where
  -- what one of them owns is within the later table's room
  own-room : (q : Stock) → Inside p.program q (owned p.program new) → FitsRoom p.program U q
  own-room q le =
      let P = p.program in
      let all = both P part (new_guards P T U) in
      fits-less P U q all
      (inside-trans P q (owned P new) all le
      (inside-trans P (owned P new) (both P given (owned P new)) all
      (inside-second P given (owned P new)) budget))
      (fits-later P T U part (extends-types T U (made-extends P T U new made)) roomy.room)

  one-tied :
      (c : Creation) (r : TrackedRegion) → IsOwner p.program U c.owner →
      Inside p.program c.owner.stock (owned p.program new) → IsTracked p.program U c r →
      RegionTied p trees U r
  one-tied c r o le t =
      let P = p.program in
      let q = part_stock r.owned.part in
      record {
        T = U;
        reached = record {
          fits = made-fits P T U new made roomy.fits;
          full = made-full P T U new made roomy.full;
          room =
              own-room q
              (subst (λ (w : Owner). Inside P w.stock (owned P new)) t.owner le);
          relies = relies-same P q.guards U;
        };
        known =
            subst (λ (w : Owner). U w.number ≡ Some (known_as w.kind w.args (Some w.state)))
            t.owner o.known;
        own = t.own.0;
        number = t.own.1;
        met = t.met;
        fits = t.fits;
        sorted = names-sorted t.own.0.type t.own.0.case r.fill.names t.fits t.size;
      }

  all-tied :
      (cs : List Creation) (rs : List TrackedRegion) →
      AllByRecursion (IsOwner p.program U) (map (λ c. c.owner) cs) →
      Inside p.program (owned p.program (map (λ c. c.owner) cs)) (owned p.program new) →
      AllZip (IsTracked p.program U) cs rs → AllByRecursion (RegionTied p trees U) rs
  all-tied [] [] o le h = tt
  all-tied [] (r ∷ rs) o le h = absurd h
  all-tied (c ∷ cs) [] o le h = absurd h
  all-tied (c ∷ cs) (r ∷ rs) o le h =
      let P = p.program in
      let rest = owned P (map (λ c. c.owner) cs) in
      let all = both P c.owner.stock rest in (
        one-tied c r o.0
            (inside-trans P c.owner.stock all (owned P new) (inside-first P c.owner.stock rest) le)
            h.0,
        all-tied cs rs o.1
            (inside-trans P rest all (owned P new) (inside-second P c.owner.stock rest) le) h.1,
      )

  -- the step makes them
  pub created-so :
      (cs : List Creation) → new ≡ map (λ c. c.owner) cs → (old rs : List TrackedRegion) →
      AllZip (IsTracked p.program U) cs rs → (later : ℤ) →
      Numbered (pos (1 + length old)) new later → MadeSo p trees U new old rs
  created-so cs are old rs h later numbered =
      let P = p.program in
      let same = are ∙ owners-same p U cs rs h in
      let owned_old = map (λ (r : TrackedRegion). r.owned) old in
      let l = map-length (λ (r : TrackedRegion). r.owned) old in
      let m = map-length (λ (r : OwnedRegion). r.region) owned_old in
      let next : pos (1 + length old)
      ≡ pos 1 +ℤ pos (length (map (λ (r : OwnedRegion). r.region) owned_old)) =
      omega (arith, ints, l, m) in
      record {
        owners_are = same;
        tied =
            all-tied cs rs (subst (AllByRecursion (IsOwner P U)) are made.owners)
            (subst (λ os. Inside P (owned P os) (owned P new)) are (inside-same P (owned P new))) h;
        numbered =
            are-numbered (pos 1 +ℤ pos (length (map (λ r. r.region) owned_old))) later
            (map (λ r. r.owned) rs)
            (subst (λ n. Numbered n (owners (map (λ r. r.owned) rs)) later) next
            (subst (λ os. Numbered (pos (1 + length old)) os later) same numbered));
      }
