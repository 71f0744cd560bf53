-- A step by which regions are made, and none is closed: the account of the track after it, and that
-- all others are tied as they were.
use Rattle.std.proofs.Common.{◌≡◌, inl, inr, suc, ℤ, pos, ◌+ℤ◌, List, [], ◌∷◌, ◌++◌, map, length, drop, Option, refl, sym, ap, ◌∙◌, subst, arith}
use Rattle.std.specs.Prelude.{slice_get}
use Rattle.std.specs.List.{AllByRecursion}
use Rattle.std.proofs.lemmas.Int.{ints}
use Rattle.cap_goal_spec.specs.Choices.{PlainTree}
use Rattle.cap_machine.specs.Machine.{Configuration}
use Rattle.cap_machine.specs.declared.event.Event.{Event}
use Rattle.cap_machine_accounts.specs.Parts.{Part, Region}
use Rattle.cap_machine_accounts.specs.Accounts.{Held, OwnedRegion, Account}
use Rattle.cap_machine_accounts.specs.Following.{Follows}
use Rattle.cap_machine_accounts.specs.Safety.{KeepsContracts}
use Rattle.cap_account_resources.specs.Parts.{Table}
use Rattle.cap_account_resources.proofs.Lists.{Among, some-same, map-join, all-both}
use Rattle.cap_account_resources.proofs.Owners.{Owner}
use Rattle.cap_account_states.proofs.Checked.{Checked}
use Rattle.cap_account_steps.proofs.Regained.{Stable}
use Rattle.cap_account.proofs.Stocked.{owner_of, owners, owner_at, account_table, Sound, Turn}
use Rattle.cap_account.proofs.Successors.{Stride, cut, kept_of, kept, news, account, news-are, table-is}
use Rattle.cap_owners_spec.specs.Track.{TrackedRegion, TrackedFrame, account_of}
use Rattle.cap_owners_laws.specs.Owned.{AreNumbered, GoesOver}
use Rattle.cap_owners_runs_laws.proofs.Tracks.Tied.{derivation, EachTied, RegionTied, Kept}
use Rattle.cap_owners_runs_laws.proofs.Tracks.Steps.{TurnKept}
use Rattle.cap_owners_runs_laws.proofs.Tracks.Turns.{own}
use Rattle.cap_owners_runs_laws.proofs.Tracks.Later.{free-tied}
use Rattle.cap_owners_runs_laws.proofs.Steps.Stepping.{map-still, same-stock}

-- ---- lists

-- what holds of an element may rest on that it is one
pub all-with :
    {A : Type 0} (P Q : A → Type 0) (rs : List A) → ((r : A) → Among r rs → P r → Q r) →
    AllByRecursion P rs → AllByRecursion Q rs
all-with P Q [] f h = tt
all-with P Q (r ∷ rs) f h =
    (f r (inl refl) h.0, all-with P Q rs (λ s m. f s (inr m)) h.1)

-- ---- regions

region-one : (q r : OwnedRegion) → owner_of q ≡ owner_of r → q ≡ r
region-one q r e =
    let same = same-stock q.part r.part (ap (λ (o : Owner). o.stock) e) in
    λ i. record {
      region = record {
        number = (e i).number;
        kind = (e i).kind;
        args = (e i).args;
        state = (e i).state;
      };
      part = same i;
    }

pub regions-one : (qs rs : List OwnedRegion) → owners qs ≡ owners rs → qs ≡ rs
regions-one [] [] e = refl
regions-one [] (r ∷ rs) e =
    absurd (let n = ap (λ (os : List Owner). length os) e in omega (arith, n))
regions-one (q ∷ qs) [] e =
    absurd (let n = ap (λ (os : List Owner). length os) e in omega (arith, n))
regions-one (q ∷ qs) (r ∷ rs) e =
    (λ i. region-one q r (some-same (owner_of q) (owner_of r) (ap (λ os. slice_get os 0) e)) i ∷ qs)
    ∙ ap (λ ys. r ∷ ys) (regions-one qs rs (ap (drop 1) e))

pub numbered-join :
    (n : ℤ) (as' bs : List Region) → AreNumbered n as' → AreNumbered (n +ℤ pos (length as')) bs →
    AreNumbered n (as' ++ bs)
numbered-join n [] bs h k =
    let e : n +ℤ pos 0 ≡ n = omega (arith, ints) in subst (λ m. AreNumbered m bs) e k
numbered-join n (a ∷ as') bs h k =
    let e : n +ℤ pos (suc (length as')) ≡ (n +ℤ pos 1) +ℤ pos (length as') = omega (arith, ints) in
    (h.0, numbered-join (n +ℤ pos 1) as' bs h.1 (subst (λ m. AreNumbered m bs) e k))

-- regions that a step made, as the track has them behind those that there were
pub record MadeSo (p : Checked) (trees : List (Option PlainTree)) (U : Table) (new : List Owner)
    (old made : List TrackedRegion) : Type 0 where
  pub owners_are : new ≡ owners (map (λ r. r.owned) made)
  pub tied : AllByRecursion (RegionTied p trees U) made
  pub numbered :
      AreNumbered (pos 1 +ℤ pos (length (map (λ r. r.region) (map (λ r. r.owned) old))))
      (map (λ r. r.region) (map (λ r. r.owned) made))

-- ---- a step

module _ (p : Checked) (trees : List (Option PlainTree)) (stable : Stable p.program)
    (x : TurnKept p trees) (y : Stride p (own p trees x)) (none : y.change.by.closed ≡ [])
    (made : List TrackedRegion)
    (so : MadeSo p trees y.change.by.U y.change.by.made x.track.regions made) where
  abbrev turn : Turn p
  turn = own p trees x

  abbrev owned : List TrackedRegion → List OwnedRegion
  owned rs = map (λ r. r.owned) rs

  abbrev regions : List TrackedRegion
  regions = x.track.regions ++ made

  kept-same : kept p stable turn y ≡ owned x.track.regions
  kept-same =
      ap (λ os. map (kept_of (cut p stable turn y) os) (owned x.track.regions)) none
      ∙ map-still (kept_of (cut p stable turn y) []) (λ r. refl) (owned x.track.regions)

  news-same : news p stable turn y ≡ owned made
  news-same =
      regions-one (news p stable turn y) (owned made) (news-are p stable turn y ∙ so.owners_are)

  regions-same :
      kept p stable turn y ++ news p stable turn y ≡ map (λ r. r.owned) (x.track.regions ++ made)
  regions-same =
      (λ i. kept-same i ++ news-same i)
      ∙ sym (map-join (λ (r : TrackedRegion). r.owned) x.track.regions made)

  -- the account that follows is that of the track with these threads
  pub made-account :
      (hss : List (List Held)) (tracked : List (List TrackedFrame)) →
      hss ≡ map (map (λ f. f.held)) tracked →
      account p stable turn y hss
      ≡ account_of (record { regions = x.track.regions ++ made; threads = tracked })
  made-account hss tracked e i = record { regions = regions-same i; threads = e i }

  pub made-table :
      (tracked : List (List TrackedFrame)) →
      account_table
      (account_of (record { regions = x.track.regions ++ made; threads = tracked }))
      ≡ y.change.by.U
  made-table tracked =
      ap (λ rs. account_table (record { regions = rs; threads = map (map (λ f. f.held)) tracked }))
      (sym regions-same)
      ∙ table-is p stable turn y

  regions-tied : AllByRecursion (RegionTied p trees y.change.by.U) (x.track.regions ++ made)
  regions-tied =
      let V = account_table (account_of x.track) in
      all-both (RegionTied p trees y.change.by.U) x.track.regions made
      (all-with (RegionTied p trees V) (RegionTied p trees y.change.by.U) x.track.regions
      (λ r m h. free-tied p trees stable x y r m
      (ap (λ os. owner_at os r.owned.region.number) none) h) x.kept.regions)
      so.tied

  -- the track after it is kept
  pub made-kept :
      (c : Configuration) (tracked : List (List TrackedFrame)) →
      Sound p c
      (account_of (record { regions = x.track.regions ++ made; threads = tracked })) →
      EachTied p trees y.change.by.U c.threads tracked →
      Kept p trees c (record { regions = x.track.regions ++ made; threads = tracked })
  made-kept c tracked sound each = record {
    sound = sound;
    stacks = subst (λ U. EachTied p trees U c.threads tracked) (sym (made-table tracked)) each;
    regions =
        subst (λ U. AllByRecursion (RegionTied p trees U) (x.track.regions ++ made))
        (sym (made-table tracked)) regions-tied;
    numbered =
        subst (AreNumbered (pos 1))
        (sym (ap (map (λ (r : OwnedRegion). r.region))
        (map-join (λ (r : TrackedRegion). r.owned) x.track.regions made)
        ∙ map-join (λ (r : OwnedRegion). r.region) (owned x.track.regions) (owned made)))
        (numbered-join (pos 1) (map (λ r. r.region) (owned x.track.regions))
        (map (λ r. r.region) (owned made)) x.kept.numbered so.numbered);
  }

  -- an account that follows so
  abbrev pub Goes_to : Configuration → Event → Account → Type 0
  Goes_to c event b =
      (handed : Part)
      × Follows p.program x.turn.c.heap x.turn.thread event (account_of x.track) b handed
      × KeepsContracts p.program x.turn.thread event x.turn.c c (account_of x.track) b handed
      × Sound p c b

  -- so the track goes over, and is kept
  pub made-goes :
      (c : Configuration) (event : Event) (hss : List (List Held))
      (tracked : List (List TrackedFrame)) → hss ≡ map (map (λ f. f.held)) tracked →
      Goes_to c event (account p stable (own p trees x) y hss) →
      EachTied p trees y.change.by.U c.threads tracked →
      GoesOver (derivation p trees) x.turn.thread event x.turn.c c x.track
      (record { regions = x.track.regions ++ made; threads = tracked })
      × Kept p trees c (record { regions = x.track.regions ++ made; threads = tracked })
  made-goes c event hss tracked e goes each =
      let g = subst (Goes_to c event) (made-account hss tracked e) goes in
      ((g.0, g.1, g.2), made-kept c tracked g.3 each)
