-- What is given at alike values, and alike, leads to alike values: over whichever denominator.
use Rattle.std.proofs.Common.{◌≡◌, ℕ, ◌+◌, ◌<◌, ℤ, pos, ◌*ℤ◌, List, [], ◌∷◌, length, Option, Some, None, arith, refl, sym, ap, ◌∙◌, subst, inl, inr}
use Rattle.std.specs.List.{AllByRecursion}
use Rattle.std.proofs.lemmas.Bool.{cases_eq}
use Rattle.cap_lin.specs.Linear.{Linear, variable}
use Rattle.cap_lin.specs.Values.{Valuation, denominator}
use Rattle.cap_lin.specs.declared.row.Sort.{Sort}
use Rattle.cap_lin.specs.declared.row.Sort.TheVariants.{Int, Perm}
use Rattle.cap_galg.specs.Elements.{Element}
use Rattle.cap_galg.specs.Algebras.{atom_algebra}
use Rattle.cap_prog.specs.declared.assertion.Asked.{Asked}
use Rattle.cap_prog.specs.declared.assertion.Asked.TheVariants.{One, Share, Src, Tok, At, From}
use Rattle.cap_prog.specs.declared.assertion.Comp.{Comp}
use Rattle.cap_prog.specs.declared.assertion.Slot.{Slot}
use Rattle.cap_prog.specs.declared.assertion.Slot.TheVariants.{Any, Is}
use Rattle.cap_prog.specs.Parts.{all_items}
use Rattle.cap_prog.specs.Program.{PlainItem, compare, choose, fact, atom, cell, Items, none, item, PlainProgram}
use Rattle.cap_prog.specs.Scopes.{Scope, HasSort, CompFits, SlotFits}
use Rattle.cap_prog.specs.WellFormed.{ItemFits, AtomFits, FactFits}
use Rattle.cap_goal_spec.specs.States.{PlainState}
use Rattle.cap_goal_spec.specs.Environments.{term_of, with_name}
use Rattle.cap_account_resources.specs.Parts.{Table}
use Rattle.cap_account_resources.proofs.Lists.{all-first, all-second}
use Rattle.cap_account_resources.proofs.Order.{swapped, grouped}
use Rattle.cap_account_resources.proofs.Stocks.{Stock}
use Rattle.cap_account_states.proofs.Alike.{Alike, InScope}
use Rattle.cap_account_states.proofs.Asking.{AskedOver}
use Rattle.cap_account_states.proofs.Filled.{Filled, share_for, fill_next, fill_name, fill_parts, fill_slot, fill_slots, fill_sides}
use Rattle.cap_account_states.proofs.Items.{AreFit, fits-more, fits-sides}
use Rattle.cap_account_states.proofs.Meets.{with_value, new-whole, new-share, with-agrees}
use Rattle.cap_account_states.proofs.Terms.{Vars}
use Rattle.cap_account_states.proofs.Wants.{Wants, IsFiner, asked-over}
use Rattle.cap_account_assertions.proofs.Asserted.{Draws, DrawsAll}
use Rattle.cap_account_assertions.proofs.Filling.{fill_form, fill_item, fill_items}
use Rattle.cap_account_assertions.proofs.Finer.{of-type, draws-all-finer, draws-finer}

-- ---- drawn alike

-- the same number of units, and of an amount that nothing says numerators equal crosswise
abbrev pub AskedAlike :
    (a b : Valuation) (asked : Asked) (y z : Element) → Wants a asked y → Wants b asked z → Type 0
AskedAlike a b One y z h k = Unit {0}
AskedAlike a b (Share Any) y z h k =
    k.1 *ℤ denominator a.fraction ≡ h.1 *ℤ denominator b.fraction
AskedAlike a b (Share (Is t)) y z h k = Unit {0}
AskedAlike a b (Src x) y z h k = k.0 ≡ h.0
AskedAlike a b (Tok x) y z h k = k.0 ≡ h.0
AskedAlike a b (At x) y z h k = k.0 ≡ h.0
AskedAlike a b (From x) y z h k = k.0 ≡ h.0

-- the same sides, and slots met at the same numbers
abbrev mutual
  pub DrawnAlike :
      (p : PlainProgram) (T : Table) (a b : Valuation) (i : PlainItem) (q r q' r' : Stock) →
      Draws p T a i q r → Draws p T b i q' r' → Type 0
  DrawnAlike p T a b (compare c) q r q' r' d e = Unit {0}
  DrawnAlike p T a b (choose c x y) q r q' r' (inl d) (inl e) =
      AllAlike p T a b x q r q' r' d.1 e.1
  DrawnAlike p T a b (choose c x y) q r q' r' (inl d) (inr e) = ⊥
  DrawnAlike p T a b (choose c x y) q r q' r' (inr d) (inl e) = ⊥
  DrawnAlike p T a b (choose c x y) q r q' r' (inr d) (inr e) =
      AllAlike p T a b y q r q' r' d.1 e.1
  DrawnAlike p T a b (fact place n k args s) q r q' r' d e = (e.0.0 ≡ d.0.0) × (e.0.1 ≡ d.0.1)
  DrawnAlike p T a b (atom place n k i asked) q r q' r' d e =
      AskedAlike a b asked d.1.element e.1.element d.1.wanted e.1.wanted
  DrawnAlike p T a b (cell place x s) q r q' r' d e = e.0 ≡ d.0

  pub AllAlike :
      (p : PlainProgram) (T : Table) (a b : Valuation) (xs : Items) (q r q' r' : Stock) →
      DrawsAll p T a xs q r → DrawsAll p T b xs q' r' → Type 0
  AllAlike p T a b none q r q' r' d e = Unit {0}
  AllAlike p T a b (item i more) q r q' r' d e =
      DrawnAlike p T a b i q d.0 q' e.0 d.1 e.1
      × AllAlike p T a b more d.0 r e.0 r' d.2 e.2

-- ---- filled alike

-- the same names for the same variables, of alike values; each over the denominator of its names
pub record FillAlike (a b : Valuation) (f g : Filled) : Type 0 where
  pub env : g.env ≡ f.env
  pub next : g.next ≡ f.next
  pub alike : Alike (λ x. x < f.next) f.values g.values
  pub first : a.fraction.under ≡ f.values.fraction.under
  pub second : b.fraction.under ≡ g.values.fraction.under

-- one more variable
grown :
    (n : ℕ) (v w : Valuation) (z x y : ℤ) → Alike (λ i. i < n) v w →
    y *ℤ denominator v.fraction ≡ x *ℤ denominator w.fraction →
    Alike (λ i. i < n + 1) (with_value v n z x) (with_value w n z y)
grown n v w z x y l e =
    let v1 = with_value v n z x in
    let w1 = with_value w n z y in
    let a = with-agrees (λ i. i < n) v n z x (λ i k q. omega (arith, k, q)) in
    let b = with-agrees (λ i. i < n) w n z y (λ i k q. omega (arith, k, q)) in
    record {
      whole = λ i k. elim (cases_eq i n) [
        | inl q ↦ subst (λ j. w1.whole j ≡ v1.whole j) (sym q)
            (new-whole w n z y ∙ sym (new-whole v n z x))
        | inr ne ↦
            let low : i < n = omega (arith, k, ne) in
            b.whole i low ∙ l.whole i low ∙ sym (a.whole i low)
      ];
      share = λ i k. elim (cases_eq i n) [
        | inl q ↦ subst
            (λ j. w1.fraction.numerator j *ℤ denominator v.fraction
            ≡ v1.fraction.numerator j *ℤ denominator w.fraction) (sym q)
            (ap (λ u. u *ℤ denominator v.fraction) (new-share w n z y)
            ∙ e
            ∙ ap (λ u. u *ℤ denominator w.fraction) (sym (new-share v n z x)))
        | inr ne ↦
            let low : i < n = omega (arith, k, ne) in
            ap (λ u. u *ℤ denominator v.fraction) (b.share i low)
            ∙ l.share i low
            ∙ ap (λ u. u *ℤ denominator w.fraction) (sym (a.share i low))
      ];
    }

module _ (sc : Scope) (a b : Valuation) (l : Alike (InScope sc) a b) where
  next-alike :
      (f g : Filled) (z x y : ℤ) → FillAlike a b f g →
      y *ℤ denominator f.values.fraction ≡ x *ℤ denominator g.values.fraction →
      FillAlike a b (fill_next z x f) (fill_next z y g)
  next-alike f g z x y h e = record {
    env = h.env;
    next = ap (λ n. n + 1) h.next;
    alike =
        subst (λ n. Alike (λ i. i < f.next + 1) (with_value f.values f.next z x)
        (with_value g.values n z y)) (sym h.next) (grown f.next f.values g.values z x y h.alike e);
    first = h.first;
    second = h.second;
  }

  -- a whole number is so over both
  both-over : (z d e : ℤ) → z *ℤ e *ℤ d ≡ z *ℤ d *ℤ e
  both-over z d e = swapped z e d

  share-cross :
      (f g : Filled) (o : Sort) (x : ℕ) → FillAlike a b f g → HasSort sc o x →
      share_for o (b.whole x *ℤ denominator g.values.fraction) (b.fraction.numerator x)
      *ℤ denominator f.values.fraction
      ≡ share_for o (a.whole x *ℤ denominator f.values.fraction) (a.fraction.numerator x)
      *ℤ denominator g.values.fraction
  share-cross f g Int x h i =
      ap (λ z. z *ℤ denominator g.values.fraction *ℤ denominator f.values.fraction)
      (l.whole x (Int, i))
      ∙ both-over (a.whole x) (denominator f.values.fraction) (denominator g.values.fraction)
  share-cross f g Perm x h i =
      ap (λ n. b.fraction.numerator x *ℤ pos (n + 1)) (sym h.first)
      ∙ l.share x (Perm, i)
      ∙ ap (λ n. a.fraction.numerator x *ℤ pos (n + 1)) h.second

  name-alike :
      (f g : Filled) (o : Sort) (x : ℕ) (t : Option Linear) → FillAlike a b f g →
      HasSort sc o x → FillAlike a b (fill_name a o x t f) (fill_name b o x t g)
  name-alike f g o x (Some t) h i = h
  name-alike f g o x None h i =
      let m = share_for o (a.whole x *ℤ denominator f.values.fraction) (a.fraction.numerator x) in
      let n = share_for o (b.whole x *ℤ denominator g.values.fraction) (b.fraction.numerator x) in
      let k = next-alike f g (a.whole x) m n h (share-cross f g o x h i) in
      record {
        env = λ j. with_name (h.env j) x (variable (h.next j));
        next = k.next;
        alike = subst
            (λ z. Alike (λ j. j < f.next + 1) (with_value f.values f.next (a.whole x) m)
            (with_value g.values g.next z n)) (sym (l.whole x (o, i))) k.alike;
        first = h.first;
        second = h.second;
      }

  pub parts-alike :
      (f g : Filled) (o : Sort) (ps : List (ℕ × ℤ)) → FillAlike a b f g →
      Vars (HasSort sc o) ps → FillAlike a b (fill_parts a o ps f) (fill_parts b o ps g)
  parts-alike f g o [] h i = h
  parts-alike f g o (p ∷ ps) h i =
      let t = term_of f.env p.0 in
      parts-alike (fill_name a o p.0 t f) (fill_name b o p.0 (term_of g.env p.0) g) o ps
      (subst (λ u. FillAlike a b (fill_name a o p.0 t f) (fill_name b o p.0 u g))
      (ap (λ es. term_of es p.0) (sym h.env)) (name-alike f g o p.0 t h i.0)) i.1

  slot-alike :
      (f g : Filled) (x : Slot) (y z : ℤ) → FillAlike a b f g → SlotFits sc Int x → z ≡ y →
      FillAlike a b (fill_slot a x y f) (fill_slot b x z g)
  slot-alike f g Any y z h i e =
      subst (λ u. FillAlike a b (fill_slot a Any y f) (fill_slot b Any u g)) (sym e)
      (next-alike f g y (y *ℤ denominator f.values.fraction) (y *ℤ denominator g.values.fraction) h
      (both-over y (denominator f.values.fraction) (denominator g.values.fraction)))
  slot-alike f g (Is t) y z h i e = parts-alike f g Int t.parts h i

  slots-alike :
      (f g : Filled) (xs : List Slot) (ys : List ℤ) → FillAlike a b f g →
      AllByRecursion (SlotFits sc Int) xs →
      FillAlike a b (fill_slots a xs ys f) (fill_slots b xs ys g)
  slots-alike f g [] ys h i = h
  slots-alike f g (x ∷ xs) [] h i = h
  slots-alike f g (x ∷ xs) (y ∷ ys) h i =
      slots-alike (fill_slot a x y f) (fill_slot b x y g) xs ys (slot-alike f g x y y h i.0 refl)
      i.1

  sides-alike :
      (f g : Filled) (c : Comp) → FillAlike a b f g → CompFits sc c →
      FillAlike a b (fill_sides a c f) (fill_sides b c g)
  sides-alike f g c h i =
      parts-alike (fill_parts a c.sort c.left.parts f) (fill_parts b c.sort c.left.parts g) c.sort
      c.right.parts (parts-alike f g c.sort c.left.parts h i.0) i.1

  form-alike :
      (f g : Filled) (asked : Asked) (y z : Element) (d : Wants a asked y) (e : Wants b asked z) →
      FillAlike a b f g → AskedOver sc asked → AskedAlike a b asked y z d e →
      FillAlike a b (fill_form a asked y d f) (fill_form b asked z e g)
  form-alike f g One y z d e h i same = h
  form-alike f g (Share Any) y z d e h i same =
      next-alike f g (pos 0) d.1 e.1 h
      (ap (λ n. e.1 *ℤ pos (n + 1)) (sym h.first) ∙ same ∙ ap (λ n. d.1 *ℤ pos (n + 1)) h.second)
  form-alike f g (Share (Is t)) y z d e h i same = parts-alike f g Perm t.parts h i
  form-alike f g (Src x) y z d e h i same = slot-alike f g x (pos d.0) (pos e.0) h i (ap pos same)
  form-alike f g (Tok x) y z d e h i same = slot-alike f g x (pos d.0) (pos e.0) h i (ap pos same)
  form-alike f g (At x) y z d e h i same = slot-alike f g x (pos d.0) (pos e.0) h i (ap pos same)
  form-alike f g (From x) y z d e h i same = slot-alike f g x (pos d.0) (pos e.0) h i (ap pos same)

  module _ (p : PlainProgram) (T : Table) where
    mutual
      item-alike :
          (i : PlainItem) (more : Items) (q r q' r' : Stock) (d : Draws p T a i q r)
          (e : Draws p T b i q' r') (f g : Filled) → AreFit p sc (item i more) →
          DrawnAlike p T a b i q r q' r' d e → FillAlike a b f g →
          FillAlike a b (fill_item p T a i q r d f) (fill_item p T b i q' r' e g)
      item-alike (compare c) more q r q' r' d e f g fit same h = sides-alike f g c h fit.0
      item-alike (choose c x y) more q r q' r' (inl d) (inl e) f g fit same h =
          items-alike x q r q' r' d.1 e.1 (fill_sides a c f) (fill_sides b c g)
          (all-first (ItemFits p sc) (all_items x) (all_items y)
          (fits-sides p sc (choose c x y) more fit)) same (sides-alike f g c h fit.0)
      item-alike (choose c x y) more q r q' r' (inl d) (inr e) f g fit same h = absurd same
      item-alike (choose c x y) more q r q' r' (inr d) (inl e) f g fit same h = absurd same
      item-alike (choose c x y) more q r q' r' (inr d) (inr e) f g fit same h =
          items-alike y q r q' r' d.1 e.1 (fill_sides a c f) (fill_sides b c g)
          (all-second (ItemFits p sc) (all_items x) (all_items y)
          (fits-sides p sc (choose c x y) more fit)) same (sides-alike f g c h fit.0)
      item-alike (fact place n k args s) more q r q' r' d e f g fit same h =
          let slots = of-type p (λ t. FactFits sc t args s) (AllByRecursion (SlotFits sc Int) args)
          k (λ t y. y.slots) fit.0.1 in
          let state = of-type p (λ t. FactFits sc t args s) (SlotFits sc Int s) k
          (λ t y. y.value) fit.0.1 in
          let f1 = fill_parts a Int (variable n).parts f in
          let g1 = fill_parts b Int (variable n).parts g in
          let first = parts-alike f g Int (variable n).parts h (fit.0.0, tt) in
          let second = subst (λ zs. FillAlike a b (fill_slots a args d.0.0 f1)
          (fill_slots b args zs g1)) (sym same.0) (slots-alike f1 g1 args d.0.0 first slots) in
          slot-alike (fill_slots a args d.0.0 f1) (fill_slots b args e.0.0 g1) s d.0.1 e.0.1 second
          state same.1
      item-alike (atom place n k i asked) more q r q' r' d e f g fit same h =
          let over = of-type p (λ t. AtomFits sc t i asked) (AskedOver sc asked) k
          (λ t y. asked-over sc (atom_algebra t.algebra i) asked y.form) fit.0.1 in
          form-alike (fill_parts a Int (variable n).parts f) (fill_parts b Int (variable n).parts g)
          asked d.1.element e.1.element d.1.wanted e.1.wanted
          (parts-alike f g Int (variable n).parts h (fit.0.0, tt)) over same
      item-alike (cell place x y) more q r q' r' d e f g fit same h =
          slot-alike (fill_parts a Int x.parts f) (fill_parts b Int x.parts g) y d.0 e.0
          (parts-alike f g Int x.parts h fit.0.0) fit.0.1 same

      pub items-alike :
          (xs : Items) (q r q' r' : Stock) (d : DrawsAll p T a xs q r)
          (e : DrawsAll p T b xs q' r') (f g : Filled) → AreFit p sc xs →
          AllAlike p T a b xs q r q' r' d e → FillAlike a b f g →
          FillAlike a b (fill_items p T a xs q r d f) (fill_items p T b xs q' r' e g)
      items-alike none q r q' r' d e f g fit same h = h
      items-alike (item i more) q r q' r' d e f g fit same h =
          items-alike more d.0 r e.0 r' d.2 e.2 (fill_item p T a i q d.0 d.1 f)
          (fill_item p T b i q' e.0 e.1 g) (fits-more p sc i more fit) same.1
          (item-alike i more q d.0 q' e.0 d.1 e.1 f g fit same.0 h)

-- ---- at finer values

module _ (p : PlainProgram) (T : Table) (sc : Scope) (a w b : Valuation)
    (l : Alike (InScope sc) a w) (finer : IsFiner a w) where
  -- an amount, over a multiple of the denominator
  times-cross : (x y d f k : ℤ) → y *ℤ d ≡ x *ℤ f → y *ℤ (d *ℤ k) ≡ x *ℤ k *ℤ f
  times-cross x y d f k e =
      sym (grouped y d k) ∙ ap (λ z. z *ℤ k) e ∙ swapped x f k

  mutual
    pub finer-alike :
        (i : PlainItem) (more : Items) (q r q' r' : Stock) (fit : AreFit p sc (item i more))
        (d : Draws p T a i q r) (e : Draws p T b i q' r') →
        DrawnAlike p T a b i q r q' r' d e →
        DrawnAlike p T w b i q r q' r' (draws-finer p T sc a w l finer i more q r fit d) e
    finer-alike (compare c) more q r q' r' fit d e same = tt
    finer-alike (choose c x y) more q r q' r' fit (inl d) (inl e) same =
        all-finer-alike x q r q' r'
        (all-first (ItemFits p sc) (all_items x) (all_items y)
        (fits-sides p sc (choose c x y) more fit)) d.1 e.1 same
    finer-alike (choose c x y) more q r q' r' fit (inl d) (inr e) same = absurd same
    finer-alike (choose c x y) more q r q' r' fit (inr d) (inl e) same = absurd same
    finer-alike (choose c x y) more q r q' r' fit (inr d) (inr e) same =
        all-finer-alike y q r q' r'
        (all-second (ItemFits p sc) (all_items x) (all_items y)
        (fits-sides p sc (choose c x y) more fit)) d.1 e.1 same
    finer-alike (fact place n k args s) more q r q' r' fit d e same = same
    finer-alike (atom place n k i One) more q r q' r' fit d e same = tt
    finer-alike (atom place n k i (Share Any)) more q r q' r' fit d e same =
        ap (λ z. e.1.wanted.1 *ℤ z) finer.1
        ∙ times-cross d.1.wanted.1 e.1.wanted.1 (denominator a.fraction) (denominator b.fraction)
        finer.0 same
    finer-alike (atom place n k i (Share (Is t))) more q r q' r' fit d e same = tt
    finer-alike (atom place n k i (Src x)) more q r q' r' fit d e same = same
    finer-alike (atom place n k i (Tok x)) more q r q' r' fit d e same = same
    finer-alike (atom place n k i (At x)) more q r q' r' fit d e same = same
    finer-alike (atom place n k i (From x)) more q r q' r' fit d e same = same
    finer-alike (cell place x s) more q r q' r' fit d e same = same

    pub all-finer-alike :
        (xs : Items) (q r q' r' : Stock) (fit : AreFit p sc xs) (d : DrawsAll p T a xs q r)
        (e : DrawsAll p T b xs q' r') → AllAlike p T a b xs q r q' r' d e →
        AllAlike p T w b xs q r q' r' (draws-all-finer p T sc a w l finer xs q r fit d) e
    all-finer-alike none q r q' r' fit d e same = tt
    all-finer-alike (item i more) q r q' r' fit d e same = (
      finer-alike i more q d.0 q' e.0 fit d.1 e.1 same.0,
      all-finer-alike more d.0 r e.0 r' (fits-more p sc i more fit) d.2 e.2 same.1,
    )

-- ---- values like those after items are given

-- a state's variables and their values: as many as after the items, and alike to what is given by any
-- values of the names and before, over one denominator, at which the same is drawn
abbrev pub FilledLike :
    (p : PlainProgram) (T : Table) (sc : Scope) (items : Items) (q : Stock) (start : Filled)
    (a : Valuation) (r : Stock) → DrawsAll p T a items q r → PlainState → Valuation → Type 0
FilledLike p T sc items q start a r d s v =
    (b c : Valuation) → b.fraction.under ≡ c.fraction.under → Alike (InScope sc) a b →
    Alike (λ x. x < start.next) start.values c → (k : Stock) (e : DrawsAll p T b items q k) →
    AllAlike p T a b items q r q k d e →
    (length s.sorts
    ≡ (fill_items p T b items q k e (record start { values = c })).next)
    × Alike (λ x. x < (fill_items p T b items q k e (record start { values = c })).next)
    (fill_items p T b items q k e (record start { values = c })).values v
