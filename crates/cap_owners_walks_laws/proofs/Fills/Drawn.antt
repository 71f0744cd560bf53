-- By what the items of an assertion are met, where they are drawn out of a part.
use Rattle.std.proofs.Common.{◌≡◌, inl, inr, ℤ, pos, false, List, [], ◌∷◌, ◌++◌, Some, refl, ap, ◌∙◌}
use Rattle.std.specs.Prelude.{option_map}
use Rattle.cap_lin.specs.Values.{Valuation}
use Rattle.cap_prog.specs.declared.assertion.Slot.{Slot}
use Rattle.cap_prog.specs.declared.assertion.Slot.TheVariants.{Any, Is}
use Rattle.cap_prog.specs.declared.assertion.Asked.{Asked}
use Rattle.cap_prog.specs.declared.assertion.Asked.TheVariants.{One, Share, Src, Tok, At, From}
use Rattle.cap_prog.specs.Program.{PlainItem, compare, choose, fact, atom, cell, Items, none, item, append_items, PlainProgram}
use Rattle.cap_galg.specs.Elements.{Element}
use Rattle.cap_machine_accounts.specs.Assertions.{NameValue, a_number}
use Rattle.cap_account_resources.specs.Parts.{known_as, Table}
use Rattle.cap_account_resources.proofs.Lists.{join-assoc}
use Rattle.cap_account_resources.proofs.Stocks.{Stock, Inside, inside-same}
use Rattle.cap_account_states.proofs.Wants.{Wants}
use Rattle.cap_account_assertions.proofs.Asserted.{Draws, DrawsAll, draws-more, draws-all-more, draws-join}
use Rattle.cap_owners_spec.specs.Traced.{a_share, valuation}
use Rattle.cap_owners_spec.specs.Track.{Fill, TrackedRegion, tracked_at}
use Rattle.cap_owners_spec.specs.Walks.{no_items}

-- ---- what is drawn

-- the value of a slot `_`
abbrev pub slot_met : Slot → ℤ → List NameValue
slot_met Any z = a_number z ∷ []
slot_met (Is t) z = []

abbrev pub slots_met : List Slot → List ℤ → List NameValue
slots_met (x ∷ xs) (z ∷ zs) = slot_met x z ++ slots_met xs zs
slots_met xs zs = []

abbrev pub share_met : Slot → ℤ → List NameValue
share_met Any n = a_share n ∷ []
share_met (Is t) n = []

abbrev pub asked_met : (a : Valuation) (asked : Asked) (x : Element) → Wants a asked x → List NameValue
asked_met a One x h = []
asked_met a (Share s) x h = share_met s h.1
asked_met a (Src s) x h = slot_met s (pos h.0)
asked_met a (Tok s) x h = slot_met s (pos h.0)
asked_met a (At s) x h = slot_met s (pos h.0)
asked_met a (From s) x h = slot_met s (pos h.0)

module _ (p : PlainProgram) (T : Table) (a : Valuation) where
  -- the values of all `_`, in order
  abbrev mutual
    pub item_met : (i : PlainItem) (q r : Stock) → Draws p T a i q r → List NameValue
    item_met (compare c) q r d = []
    item_met (choose c x y) q r (inl d) = items_met x q r d.1
    item_met (choose c x y) q r (inr d) = items_met y q r d.1
    item_met (fact place n k args s) q r d = slots_met args d.0.0 ++ slot_met s d.0.1
    item_met (atom place n k i asked) q r d = asked_met a asked d.1.element d.1.wanted
    item_met (cell place x s) q r d = slot_met s d.0

    pub items_met : (xs : Items) (q r : Stock) → DrawsAll p T a xs q r → List NameValue
    items_met none q r d = []
    items_met (item i more) q r d = item_met i q d.0 d.1 ++ items_met more d.0 r d.2

  -- drawn out of more, they are met alike
  mutual
    item-met-more :
        (i : PlainItem) (q q' r : Stock) (le : Inside p q q') (d : Draws p T a i q r) →
        item_met i q' r (draws-more p T a i q q' r le d) ≡ item_met i q r d
    item-met-more (compare c) q q' r le d = refl
    item-met-more (choose c x y) q q' r le (inl m) =
        items-met-more x q q' r r le (inside-same p r) m.1
    item-met-more (choose c x y) q q' r le (inr m) =
        items-met-more y q q' r r le (inside-same p r) m.1
    item-met-more (fact place n k args s) q q' r le d = refl
    item-met-more (atom place n k i asked) q q' r le d = refl
    item-met-more (cell place x s) q q' r le d = refl

    items-met-more :
        (xs : Items) (q q' r r' : Stock) (le : Inside p q q') (less : Inside p r' r)
        (d : DrawsAll p T a xs q r) →
        items_met xs q' r' (draws-all-more p T a xs q q' r r' le less d) ≡ items_met xs q r d
    items-met-more none q q' r r' le less d = refl
    items-met-more (item i more) q q' r r' le less d =
        ap (λ ws. ws ++ items_met more d.0 r'
        (draws-all-more p T a more d.0 d.0 r r' (inside-same p d.0) less d.2))
        (item-met-more i q q' d.0 le d.1)
        ∙ ap (λ ws. item_met i q d.0 d.1 ++ ws)
        (items-met-more more d.0 d.0 r r' (inside-same p d.0) less d.2)

  -- items one after the other
  pub met-join :
      (xs ys : Items) (q m r : Stock) (d : DrawsAll p T a xs q m) (k : DrawsAll p T a ys m r) →
      items_met (append_items xs ys) q r (draws-join p T a xs ys q m r d k)
      ≡ items_met xs q m d ++ items_met ys m r k
  met-join none ys q m r d k = items-met-more ys m q r r d (inside-same p r) k
  met-join (item i xs) ys q m r d k =
      ap (λ ws. item_met i q d.0 d.1 ++ ws) (met-join xs ys d.0 m r d.2 k)
      ∙ join-assoc (item_met i q d.0 d.1) (items_met xs d.0 m d.2) (items_met ys m r k)

  -- the regions of all facts, with their states
  abbrev mutual
    pub item_told : (i : PlainItem) (q r : Stock) → Draws p T a i q r → List (ℤ × ℤ)
    item_told (compare c) q r d = []
    item_told (choose c x y) q r (inl d) = items_told x q r d.1
    item_told (choose c x y) q r (inr d) = items_told y q r d.1
    item_told (fact place n k args s) q r d = (a.whole n, d.0.1) ∷ []
    item_told (atom place n k i asked) q r d = []
    item_told (cell place x s) q r d = []

    pub items_told : (xs : Items) (q r : Stock) → DrawsAll p T a xs q r → List (ℤ × ℤ)
    items_told none q r d = []
    items_told (item i more) q r d = item_told i q d.0 d.1 ++ items_told more d.0 r d.2

-- ---- by what it is met

-- the items are drawn at the values of the fill's names, out of a part; what they are met by is the
-- fill
pub record IsMetBy (p : PlainProgram) (T : Table) (a : Valuation) (items : Items) (q r : Stock)
    (d : DrawsAll p T a items q r) (f : Fill) : Type 0 where
  pub names : a ≡ valuation f.names
  pub wildcards : items_met p T a items q r d ≡ f.wildcards
  pub facts : items_told p T a items q r d ≡ f.facts

-- the same, but where there are no items the names may be any
pub record IsMetOr (p : PlainProgram) (T : Table) (a : Valuation) (items : Items) (q r : Stock)
    (d : DrawsAll p T a items q r) (f : Fill) : Type 0 where
  pub names : no_items items ≡ false → a ≡ valuation f.names
  pub wildcards : items_met p T a items q r d ≡ f.wildcards
  pub facts : items_told p T a items q r d ≡ f.facts

-- ---- tables

-- the regions of a track are those of the table
abbrev pub Tells : List TrackedRegion → Table → Type 0
Tells rs T =
    (n : ℤ) →
    option_map (λ r. known_as r.owned.region.kind r.owned.region.args (Some r.owned.region.state))
    (tracked_at rs n)
    ≡ T n
