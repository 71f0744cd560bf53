-- What a walk brings where it gives items by what they are met: a value for each variable that is
-- new, as the law of giving says.
use Rattle.std.proofs.Common.{◌≡◌, ℕ, zero, suc, ◌+◌, ◌-◌, ℤ, pos, ◌*ℤ◌, Bool, true, false, List, [], ◌∷◌, ◌++◌, map, length, Option, Some, None, refl, sym, ap, ◌∙◌, subst, arith}
use Rattle.std.specs.Prelude.{is_some, if◌then◌else◌, slice_get, slice_set, get_or, IsSomeAnd}
use Rattle.std.specs.List.{AllByRecursion}
use Rattle.cap_lin.specs.Linear.{Linear, variable}
use Rattle.cap_lin.specs.Values.{Valuation, denominator}
use Rattle.cap_lin.specs.declared.row.Sort.{Sort}
use Rattle.cap_lin.specs.declared.row.Sort.TheVariants.{Int, Perm}
use Rattle.cap_galg.specs.Elements.{Element}
use Rattle.cap_galg.specs.Algebras.{PlainAlgebra, unique, divisible, counting, indexed, atom_algebra}
use Rattle.cap_prog.specs.declared.assertion.Comp.{Comp}
use Rattle.cap_prog.specs.declared.assertion.Slot.{Slot}
use Rattle.cap_prog.specs.declared.assertion.Slot.TheVariants.{Any, Is}
use Rattle.cap_prog.specs.declared.assertion.Asked.{Asked}
use Rattle.cap_prog.specs.declared.assertion.Asked.TheVariants.{One, Share, Src, Tok, At, From}
use Rattle.cap_prog.specs.Program.{PlainItem, compare, choose, fact, atom, cell, Items, none, item, PlainRegionType, PlainProgram}
use Rattle.cap_prog.specs.Scopes.{Scope, HasSort, SlotFits, CompFits}
use Rattle.cap_prog.specs.WellFormed.{AskedFits, AtomFits, FactFits, ItemFits}
use Rattle.cap_goal_spec.specs.States.{PlainEnv}
use Rattle.cap_goal_spec.specs.Environments.{zero_value, term_of, with_name}
use Rattle.cap_machine_accounts.specs.Assertions.{NameValue, a_number, a_fraction, SlotsAre}
use Rattle.cap_account_resources.specs.Parts.{Table}
use Rattle.cap_account_resources.proofs.Lists.{join-assoc}
use Rattle.cap_account_resources.proofs.Stocks.{Stock}
use Rattle.cap_account_states.proofs.Meets.{with_value}
use Rattle.cap_account_states.proofs.Scopes.{length-join}
use Rattle.cap_account_states.proofs.Filled.{Filled, share_for, fill_next, fill_name, fill_parts, fill_slot, fill_slots, fill_amount, fill_sides}
use Rattle.cap_account_states.proofs.Items.{AreFit, fits-more}
use Rattle.cap_account_states.proofs.Wants.{Wants}
use Rattle.cap_account_assertions.proofs.Asserted.{Draws, DrawsAll}
use Rattle.cap_account_assertions.proofs.GiveItems.{IsPlain}
use Rattle.cap_account_assertions.proofs.Filling.{fill_form, fill_item, fill_items}
use Rattle.cap_owners_spec.specs.Traced.{over, a_share, value_at, number_of, numerator_of, valuation}
use Rattle.cap_owners_spec.specs.Filling.{Giving, give_name, give_parts, give_wildcard, give_slot, give_slots, give_asked, give_comparison, give_item, give_all, parting}
use Rattle.cap_owners_walks_laws.proofs.Values.Numbers.{valuation-more}
use Rattle.cap_owners_walks_laws.proofs.Values.More.{FitsSort}
use Rattle.cap_owners_walks_laws.proofs.Fills.Drawn.{slot_met, slots_met, share_met, asked_met, item_met, items_met}

-- each name has a value of its sort
abbrev pub NamesFit : Scope → List NameValue → Type 0
NamesFit sc ns = (o : Sort) (x : ℕ) → HasSort sc o x → FitsSort o (value_at ns x)

-- which names are bound
abbrev pub are_bound : PlainEnv → List Bool
are_bound env = map is_some env

-- From these values of variables, what is given so far: the same names are bound, there are as many
-- values, which are these, and these values of `_` are left.
pub record GivesSo (vs : List NameValue) (left : List NameValue) (g : Giving) (f : Filled)
    : Type 0 where
  pub bound : are_bound g.env ≡ are_bound f.env
  pub next : f.next ≡ length (vs ++ g.new)
  pub values : f.values ≡ valuation (vs ++ g.new)
  pub wildcards : g.wildcards ≡ left

-- ---- which names are bound

pub set-bound :
    (env : PlainEnv) (x : ℕ) (t : Linear) →
    are_bound (with_name env x t) ≡ slice_set (are_bound env) x true
set-bound [] x t = refl
set-bound (o ∷ env) zero t = refl
set-bound (o ∷ env) (suc x) t = ap (λ bs. is_some o ∷ bs) (set-bound env x t)

pub term-bound : (env : PlainEnv) (x : ℕ) → is_some (term_of env x) ≡ get_or (are_bound env) x false
term-bound [] x = refl
term-bound (o ∷ env) zero = refl
term-bound (o ∷ env) (suc x) = term-bound env x

-- ---- a value more

-- the numerator of a name's value
numerator-for :
    (sc : Scope) (names : List NameValue) → NamesFit sc names → (o : Sort) (x : ℕ) →
    HasSort sc o x →
    share_for o (number_of (value_at names x) *ℤ pos (over - 1 + 1))
    (numerator_of (value_at names x))
    ≡ numerator_of (value_at names x)
numerator-for sc names ok Perm x has = refl
numerator-for sc names ok Int x has = by (value_at names x) (ok Int x has)
  where
    by :
        (y : NameValue) → FitsSort Int y →
        number_of y *ℤ pos (over - 1 + 1) ≡ numerator_of y
    by (a_number z) h = refl
    by (a_fraction n d) h = absurd h

module _ (vs : List NameValue) where
  -- the next variable's value
  value-given :
      (left rest : List NameValue) (g : Giving) (f : Filled) (y : NameValue) (env env' : PlainEnv) →
      GivesSo vs left g f → are_bound env ≡ are_bound env' →
      GivesSo vs rest (record { env = env; new = g.new ++ y ∷ []; wildcards = rest }) (record {
        env = env';
        next = f.next + 1;
        values = with_value f.values f.next (number_of y) (numerator_of y);
      })
  value-given left rest g f y env env' h same =
      let e = join-assoc vs g.new (y ∷ []) in
      let n = h.next in
      let count = length-join (vs ++ g.new) (y ∷ []) in
      let there = ap (λ (xs : List NameValue). length xs) e in
      record {
        bound = same;
        next = omega (arith, n, count, there);
        values =
            (λ i. with_value (h.values i) (h.next i) (number_of y) (numerator_of y))
            ∙ sym (valuation-more (vs ++ g.new) y)
            ∙ ap valuation (sym e);
        wildcards = refl;
      }

-- ---- by the fill

module _ (sc : Scope) (names vs : List NameValue) (ok : NamesFit sc names) where
  abbrev a : Valuation
  a = valuation names

  name-gives :
      (left : List NameValue) (o : Sort) (x : ℕ) (g : Giving) (f : Filled) → HasSort sc o x →
      GivesSo vs left g f →
      GivesSo vs left (give_name names x g) (fill_name a o x (term_of f.env x) f)
  name-gives left o x g f has h =
      by (term_of f.env x) (is_some (term_of g.env x))
      (term-bound g.env x ∙ ap (λ bs. get_or bs x false) h.bound ∙ sym (term-bound f.env x))
    where
      share :
          share_for o (a.whole x *ℤ denominator f.values.fraction) (a.fraction.numerator x)
          ≡ numerator_of (value_at names x)
      share =
          ap (λ (u : Valuation).
          share_for o (a.whole x *ℤ denominator u.fraction) (a.fraction.numerator x)) h.values
          ∙ numerator-for sc names ok o x has

      by :
          (t : Option Linear) (b : Bool) → b ≡ is_some t →
          GivesSo vs left
          (if b then g else record g {
            env = with_name g.env x zero_value;
            new = g.new ++ value_at names x ∷ [];
          }) (fill_name a o x t f)
      by (Some t) true e = h
      by (Some t) false e = absurd (cc)
      by None true e = absurd (cc)
      by None false e =
          let env = with_name g.env x zero_value in
          let env' = with_name f.env x (variable f.next) in
          let same = set-bound g.env x zero_value
          ∙ ap (λ bs. slice_set bs x true) h.bound
          ∙ sym (set-bound f.env x (variable f.next)) in
          let n = value-given vs left left g f (value_at names x) env env' h same in
          record {
            bound = n.bound;
            next = n.next;
            values =
                ap (with_value f.values f.next (a.whole x)) share
                ∙ n.values;
            wildcards = h.wildcards;
          }

  parts-give :
      (left : List NameValue) (o : Sort) (ps : List (ℕ × ℤ)) (g : Giving) (f : Filled) →
      AllByRecursion (λ part. HasSort sc o part.0) ps → GivesSo vs left g f →
      GivesSo vs left (give_parts names ps g) (fill_parts a o ps f)
  parts-give left o [] g f fit h = h
  parts-give left o (q ∷ qs) g f fit h =
      parts-give left o qs (give_name names q.0 g) (fill_name a o q.0 (term_of f.env q.0) f) fit.1
      (name-gives left o q.0 g f fit.0 h)

  -- the next value of `_`
  wildcard-gives :
      (left : List NameValue) (y : NameValue) (n : ℤ) (g : Giving) (f : Filled) →
      n ≡ numerator_of y → GivesSo vs (y ∷ left) g f →
      GivesSo vs left (give_wildcard g.wildcards g) (fill_next (number_of y) n f)
  wildcard-gives left y n g f e h =
      let m = value-given vs (y ∷ left) left g f y g.env f.env h h.bound in
      subst (λ ws. GivesSo vs left (give_wildcard ws g) (fill_next (number_of y) n f))
      (sym h.wildcards) (record {
        bound = m.bound;
        next = m.next;
        values = ap (with_value f.values f.next (number_of y)) e ∙ m.values;
        wildcards = refl;
      })

  slot-gives :
      (left : List NameValue) (x : Slot) (z : ℤ) (g : Giving) (f : Filled) → SlotFits sc Int x →
      GivesSo vs (slot_met x z ++ left) g f →
      GivesSo vs left (give_slot names x g) (fill_slot a x z f)
  slot-gives left Any z g f fit h =
      wildcard-gives left (a_number z) (z *ℤ denominator f.values.fraction) g f
      (ap (λ (u : Valuation). z *ℤ denominator u.fraction) h.values) h
  slot-gives left (Is t) z g f fit h = parts-give left Int t.parts g f fit h

  share-gives :
      (left : List NameValue) (x : Slot) (n : ℤ) (g : Giving) (f : Filled) → SlotFits sc Perm x →
      GivesSo vs (share_met x n ++ left) g f →
      GivesSo vs left (give_slot names x g) (fill_amount a x n f)
  share-gives left Any n g f fit h = wildcard-gives left (a_share n) n g f refl h
  share-gives left (Is t) n g f fit h = parts-give left Perm t.parts g f fit h

  slots-give :
      (left : List NameValue) (xs : List Slot) (zs : List ℤ) (g : Giving) (f : Filled) →
      AllByRecursion (SlotFits sc Int) xs → SlotsAre a xs zs →
      GivesSo vs (slots_met xs zs ++ left) g f →
      GivesSo vs left (give_slots names xs g) (fill_slots a xs zs f)
  slots-give left [] [] g f fit are h = h
  slots-give left [] (z ∷ zs) g f fit are h = absurd are
  slots-give left (x ∷ xs) [] g f fit are h = absurd are
  slots-give left (x ∷ xs) (z ∷ zs) g f fit are h =
      slots-give left xs zs (give_slot names x g) (fill_slot a x z f) fit.1 are.1
      (slot-gives (slots_met xs zs ++ left) x z g f fit.0
      (subst (λ ws. GivesSo vs ws g f) (sym (join-assoc (slot_met x z) (slots_met xs zs) left)) h))

  -- the slot of what is asked of a guard
  abbrev pub Shaped : Asked → Type 0
  Shaped One = Unit {0}
  Shaped (Share s) = SlotFits sc Perm s
  Shaped (Src s) = SlotFits sc Int s
  Shaped (Tok s) = SlotFits sc Int s
  Shaped (At s) = SlotFits sc Int s
  Shaped (From s) = SlotFits sc Int s

  shaped : (b : PlainAlgebra) (asked : Asked) → AskedFits sc b asked → Shaped asked
  shaped unique One h = h
  shaped divisible (Share s) h = h
  shaped counting (Src s) h = h
  shaped counting (Tok s) h = h
  shaped indexed (At s) h = h
  shaped indexed (From s) h = h
  shaped b asked h = absurd h

  asked-gives :
      (left : List NameValue) (asked : Asked) (y : Element) (w : Wants a asked y) (g : Giving)
      (f : Filled) → Shaped asked → GivesSo vs (asked_met a asked y w ++ left) g f →
      GivesSo vs left (give_asked names asked g) (fill_form a asked y w f)
  asked-gives left One y w g f fit h = h
  asked-gives left (Share s) y w g f fit h = share-gives left s w.1 g f fit h
  asked-gives left (Src s) y w g f fit h = slot-gives left s (pos w.0) g f fit h
  asked-gives left (Tok s) y w g f fit h = slot-gives left s (pos w.0) g f fit h
  asked-gives left (At s) y w g f fit h = slot-gives left s (pos w.0) g f fit h
  asked-gives left (From s) y w g f fit h = slot-gives left s (pos w.0) g f fit h

  -- the names of a comparison, also of a conditional item's
  pub sides-give :
      (left : List NameValue) (c : Comp) (g : Giving) (f : Filled) → CompFits sc c →
      GivesSo vs left g f → GivesSo vs left (give_comparison names c g) (fill_sides a c f)
  sides-give left c g f fit h =
      parts-give left c.sort c.right.parts (give_parts names c.left.parts g)
      (fill_parts a c.sort c.left.parts f) fit.1
      (parts-give left c.sort c.left.parts g f fit.0 h)

  -- ---- items

  pub fact-fit :
      (o : Option PlainRegionType) (args : List Slot) (x : Slot) →
      IsSomeAnd o (λ type. FactFits sc type args x) →
      AllByRecursion (SlotFits sc Int) args × SlotFits sc Int x
  fact-fit None args x h = absurd h
  fact-fit (Some type) args x h = (h.slots, h.value)

  pub atom-fit :
      (o : Option PlainRegionType) (i : ℕ) (asked : Asked) →
      IsSomeAnd o (λ type. AtomFits sc type i asked) → Shaped asked
  atom-fit None i asked h = absurd h
  atom-fit (Some type) i asked h = shaped (atom_algebra type.algebra i) asked h.form

  module _ (p : PlainProgram) (T : Table) where
    -- an item that isn't conditional
    pub item-gives :
        (left : List NameValue) (i : PlainItem) → IsPlain i → (q r : Stock)
        (d : Draws p T a i q r) (g : Giving) (f : Filled) → ItemFits p sc i →
        GivesSo vs (item_met p T a i q r d ++ left) g f →
        GivesSo vs left (give_item names i g) (fill_item p T a i q r d f)
    item-gives left (compare c) plain q r d g f fit h = sides-give left c g f fit h
    item-gives left (choose c x y) plain q r d g f fit h = absurd plain
    item-gives left (fact place n k args x) plain q r d g f fit h =
        let slots = fact-fit (slice_get p.regions k) args x fit.1 in
        let first = fill_parts a Int (variable n).parts f in
        slot-gives left x d.0.1 (give_slots names args (give_name names n g))
        (fill_slots a args d.0.0 first) slots.1
        (slots-give (slot_met x d.0.1 ++ left) args d.0.0 (give_name names n g) first slots.0 d.0.3
        (name-gives (slots_met args d.0.0 ++ (slot_met x d.0.1 ++ left)) Int n g f fit.0
        (subst (λ ws. GivesSo vs ws g f)
        (sym (join-assoc (slots_met args d.0.0) (slot_met x d.0.1) left)) h)))
    item-gives left (atom place n k i asked) plain q r d g f fit h =
        asked-gives left asked d.1.element d.1.wanted (give_name names n g)
        (fill_parts a Int (variable n).parts f) (atom-fit (slice_get p.regions k) i asked fit.1)
        (name-gives (asked_met a asked d.1.element d.1.wanted ++ left) Int n g f fit.0 h)
    item-gives left (cell place x y) plain q r d g f fit h =
        slot-gives left y d.0 (give_parts names x.parts g) (fill_parts a Int x.parts f) fit.1
        (parts-give (slot_met y d.0 ++ left) Int x.parts g f fit.0 h)

    -- ---- items one after the other, none of which is conditional

    -- it, and then those that follow
    after :
        (left : List NameValue) (i : PlainItem) (more : Items) → IsPlain i → (q r : Stock)
        (d : DrawsAll p T a (item i more) q r) (g : Giving) (f : Filled) →
        AreFit p sc (item i more) →
        GivesSo vs (items_met p T a (item i more) q r d ++ left) g f →
        ((g : Giving) (f : Filled) → GivesSo vs (items_met p T a more d.0 r d.2 ++ left) g f →
        GivesSo vs left (give_all names more g) (fill_items p T a more d.0 r d.2 f)) →
        GivesSo vs left (give_all names more (give_item names i g))
        (fill_items p T a (item i more) q r d f)
    after left i more plain q r d g f fit h later =
        let met = item_met p T a i q d.0 d.1 in
        let behind = items_met p T a more d.0 r d.2 in
        later (give_item names i g) (fill_item p T a i q d.0 d.1 f)
        (item-gives (behind ++ left) i plain q d.0 d.1 g f fit.0
        (subst (λ ws. GivesSo vs ws g f) (sym (join-assoc met behind left)) h))

    pub items-give :
        (left : List NameValue) (items : Items) → parting items ≡ None → (q r : Stock)
        (d : DrawsAll p T a items q r) (g : Giving) (f : Filled) → AreFit p sc items →
        GivesSo vs (items_met p T a items q r d ++ left) g f →
        GivesSo vs left (give_all names items g) (fill_items p T a items q r d f)
    items-give left none e q r d g f fit h = h
    items-give left (item (choose c x y) more) e q r d g f fit h = absurd (cc)
    items-give left (item (compare c) more) e q r d g f fit h =
        after left (compare c) more tt q r d g f fit h
        (λ g' f' k. items-give left more e d.0 r d.2 g' f' (fits-more p sc (compare c) more fit) k)
    items-give left (item (fact place n k args x) more) e q r d g f fit h =
        let i = fact place n k args x in
        after left i more tt q r d g f fit h
        (λ g' f' k. items-give left more e d.0 r d.2 g' f' (fits-more p sc i more fit) k)
    items-give left (item (atom place n k l asked) more) e q r d g f fit h =
        let i = atom place n k l asked in
        after left i more tt q r d g f fit h
        (λ g' f' k. items-give left more e d.0 r d.2 g' f' (fits-more p sc i more fit) k)
    items-give left (item (cell place x y) more) e q r d g f fit h =
        let i = cell place x y in
        after left i more tt q r d g f fit h
        (λ g' f' k. items-give left more e d.0 r d.2 g' f' (fits-more p sc i more fit) k)
