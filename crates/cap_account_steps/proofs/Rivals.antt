-- After the marks of all pairs of an opened region and a fact of its type no firm fact is of an
-- opened region: facts hold of the table in which these regions are open.
use Rattle.std.proofs.Common.{◌≡◌, ◌≢◌, ℕ, zero, suc, ◌+◌, ℤ, List, [], ◌∷◌, map, Option, Some, None, Bool, true, false, inl, inr, refl, sym, ap, ◌∙◌, subst, arith}
use Rattle.std.specs.Prelude.{slice_get, flat_map, ◌==◌, ◌||◌, if◌then◌else◌}
use Rattle.std.specs.List.{AllByRecursion, list_any}
use Rattle.std.proofs.lemmas.Bool.Decides.{nat_tests}
use Rattle.cap_lin.specs.Linear.{Linear, same_number}
use Rattle.cap_lin.specs.Values.{Valuation, value}
use Rattle.cap_lin.specs.declared.row.Sort.{Sort}
use Rattle.cap_lin.specs.declared.row.Sort.TheVariants.{Int}
use Rattle.cap_prog.specs.Program.{PlainProgram}
use Rattle.cap_goal_spec.specs.States.{PlainFact, PlainState}
use Rattle.cap_rules.specs.Closing.{Rival, rivals_from, rivals, with_marks}
use Rattle.cap_account_states.specs.Nodes.{Comes}
use Rattle.cap_account_resources.specs.Parts.{Known, known_as, Table}
use Rattle.cap_account_resources.proofs.Lists.{some-same, none-some, all-at, all-more, all-both, all-first, all-second, Among}
use Rattle.cap_account_resources.proofs.Order.{same-int, same-refl}
use Rattle.cap_account_resources.proofs.Covering.{Covered}
use Rattle.cap_account_resources.proofs.Stocks.{Stock}
use Rattle.cap_account_states.proofs.Terms.{Over, vars-more, value-agree}
use Rattle.cap_account_states.proofs.Alike.{agree-alike}
use Rattle.cap_account_states.proofs.Meets.{Usable, usable-on, usable-old, Old}
use Rattle.cap_account_states.proofs.Adding.{PieceOver}
use Rattle.cap_account_states.proofs.Pieces.{AllFit}
use Rattle.cap_account_states.proofs.Compatible.{pieces-more, covered-alike}
use Rattle.cap_account_states.proofs.Facts.{StateHolds, FactHolds, FactOver, Facts}
use Rattle.cap_account_states.proofs.Backed.{Grounded, Backed}
use Rattle.cap_account_steps.proofs.Worlds.{Exact, AllOver, regions_of, opened_at, opened_table, IsStillOpen, Earlier, IfAny}
use Rattle.cap_account_steps.proofs.Exact.{exact-alike, over-more, all-two, all-each}
use Rattle.cap_account_steps.proofs.Turning.{backed-before}
use Rattle.cap_account_steps.proofs.Marking.{IsPair, IsClear, Marked, all-marks}

-- ---- all pairs

abbrev pair_of : PlainFact → ℕ → PlainFact → Rival
pair_of o i f = record { opened = o; number = i; fact = f }

-- what all have, each opened region and each fact of its type have
of-pair :
    (Q : Rival → Type 0) (o : PlainFact) (i : ℕ) (fs : List PlainFact) →
    AllByRecursion Q (rivals_from o i fs) → (j : ℕ) (f : PlainFact) → slice_get fs j ≡ Some f →
    (f.kind == o.kind) ≡ true → Q (pair_of o (i + j) f)
of-pair Q o i [] h j f e k = absurd (none-some e)
of-pair Q o i (g ∷ fs) h zero f e k =
    let q = some-same g f e in
    let t : (g.kind == o.kind) ≡ true = ap (λ (y : PlainFact). y.kind == o.kind) q ∙ k in
    let rest = rivals_from o (suc i) fs in
    let here = (subst (λ b. AllByRecursion Q (if b then pair_of o i g ∷ rest else rest)) t h).0 in
    let z : i ≡ i + 0 = omega arith in
    subst (λ n. Q (pair_of o n f)) z (subst (λ y. Q (pair_of o i y)) q here)
of-pair Q o i (g ∷ fs) h (suc j) f e k =
    let z : suc i + j ≡ i + suc j = omega arith in
    let rest = rivals_from o (suc i) fs in
    subst (λ n. Q (pair_of o n f)) z
    (of-pair Q o (suc i) fs (others (g.kind == o.kind) rest h) j f e k)
  where
    others :
        (b : Bool) (xs : List Rival) →
        AllByRecursion Q (if b then pair_of o i g ∷ xs else xs) → AllByRecursion Q xs
    others true xs h = h.1
    others false xs h = h

of-opened :
    (Q : Rival → Type 0) (fs os : List PlainFact) →
    AllByRecursion Q (flat_map (λ o. rivals_from o 0 fs) os) →
    AllByRecursion (λ o. AllByRecursion Q (rivals_from o 0 fs)) os
of-opened Q fs [] h = tt
of-opened Q fs (o ∷ os) h =
    let more = flat_map (λ o. rivals_from o 0 fs) os in (
      all-first Q (rivals_from o 0 fs) more h,
      of-opened Q fs os (all-second Q (rivals_from o 0 fs) more h),
    )

-- and what each pair has, all have
all-pairs :
    (Q : Rival → Type 0) (A B : PlainFact → Type 0) →
    ((o f : PlainFact) (i : ℕ) → A o → B f → Q (pair_of o i f)) → (os fs : List PlainFact) →
    AllByRecursion A os → AllByRecursion B fs →
    AllByRecursion Q (flat_map (λ o. rivals_from o 0 fs) os)
all-pairs Q A B q [] fs h k = tt
all-pairs Q A B q (o ∷ os) fs h k =
    all-both Q (rivals_from o 0 fs) (flat_map (λ o. rivals_from o 0 fs) os) (each 0 fs k)
    (all-pairs Q A B q os fs h.1 k)
  where
    perhaps :
        (b : Bool) (x : Rival) (xs : List Rival) → Q x → AllByRecursion Q xs →
        AllByRecursion Q (if b then x ∷ xs else xs)
    perhaps true x xs a r = (a, r)
    perhaps false x xs a r = r

    each :
        (i : ℕ) (gs : List PlainFact) → AllByRecursion B gs → AllByRecursion Q (rivals_from o i gs)
    each i [] k = tt
    each i (g ∷ gs) k =
        perhaps (g.kind == o.kind) (pair_of o i g) (rivals_from o (suc i) gs) (q o g i h.0 k.0)
        (each (suc i) gs k.1)

-- ---- opened regions

-- a region is none of these, or is one
pub none-opened :
    (n : ℤ) (ns : List ℤ) → AllByRecursion (λ m. m ≢ n) ns → list_any (same_number n) ns ≡ false
none-opened n [] h = refl
none-opened n (m ∷ ms) h = by (same_number n m) refl (none-opened n ms h.1)
  where
    by :
        (b : Bool) → same_number n m ≡ b → list_any (same_number n) ms ≡ false →
        (b || list_any (same_number n) ms) ≡ false
    by true e r = absurd (h.0 (sym (same-int n m e)))
    by false e r = r

pub some-opened : (n : ℤ) (ns : List ℤ) → Among n ns → list_any (same_number n) ns ≡ true
some-opened n [] a = absurd a
some-opened n (m ∷ ms) (inl e) =
    let t : same_number n m ≡ true = ap (same_number n) e ∙ same-refl n in
    ap (λ b. b || list_any (same_number n) ms) t
some-opened n (m ∷ ms) (inr a) = by (same_number n m) (some-opened n ms a)
  where
    by :
        (b : Bool) → list_any (same_number n) ms ≡ true →
        (b || list_any (same_number n) ms) ≡ true
    by true r = refl
    by false r = r

-- a fact holds where these regions are open, if it is loose or of another region
pub fact-opened :
    (v : Valuation) (V : Table) (ns : List ℤ) (f : PlainFact) → FactHolds v V f →
    (f.loose ≡ false → AllByRecursion (λ m. m ≢ value v.whole f.region) ns) →
    FactHolds v (opened_table ns V) f
fact-opened v V ns f h apart =
    by (list_any (same_number n) ns) refl f.loose refl h.2
  where
    n : ℤ
    n = value v.whole f.region

    by :
        (b : Bool) → list_any (same_number n) ns ≡ b → (l : Bool) → f.loose ≡ l →
        StateHolds l h.0 (value v.whole f.state) →
        (o : Option ℤ) × (opened_at b (V n) ≡ Some (known_as f.kind (map (value v.whole) f.args)
        o)) × StateHolds l o (value v.whole f.state)
    by false e l q k = (h.0, h.1, k)
    by true e true q k = (None, ap (opened_at true) h.1, tt)
    by true e false q k = absurd (differ (sym e ∙ none-opened n ns (apart q)))
      where
        differ : true ≡ false → ⊥
        differ e = cc

-- ---- the state after the marks

pub record Acting (p : PlainProgram) (V : Table) (v : Valuation) (s : PlainState)
    (ms : List Bool) (P : PlainState → Type 0) : Type 0 where
  pub marked : Marked p V [] v s (rivals s) ms P
  pub facts : Facts marked.js marked.w (opened_table (regions_of v s.opened) V) marked.after
  pub opened :
      AllByRecursion
      (IsStillOpen marked.js marked.w V (opened_table (regions_of v s.opened) V) marked.after)
      marked.after.opened
  pub regions : regions_of marked.w marked.after.opened ≡ regions_of v s.opened
  pub backed : (q : Stock) → Backed p v s q → Backed p marked.w marked.after q
  pub earlier :
      (part : Stock) → IfAny s.opened (Earlier p [] v s part) →
      IfAny marked.after.opened (Earlier p marked.js marked.w marked.after part)

module _ (p : PlainProgram) (V : Table) (v : Valuation) (s : PlainState) (P : PlainState → Type 0)
    (g : Grounded p [] v s) (fs : Facts [] v V s)
    (os : AllByRecursion (λ o. AllOver (Usable [] s.sorts Int) o × Exact v V o) s.opened) where
  abbrev R : ℕ → Type 0
  R = Usable [] s.sorts Int

  abbrev ns : List ℤ
  ns = regions_of v s.opened

  pairs : AllByRecursion (IsPair [] v V s) (rivals s)
  pairs =
      let B : PlainFact → Type 0 = λ f. FactOver R f × FactHolds v V f in
      all-pairs (IsPair [] v V s) (λ o. AllOver R o × Exact v V o) B
      (λ o f i a b. record {
        opened_over = a.0.0;
        over = (b.0.0, b.0.1, tt);
        holds = (b.1.0, b.1.1, tt);
      }) s.opened s.facts os
      (all-two (FactOver R) (FactHolds v V) B (λ f o h. (o, h)) s.facts fs.over fs.holds)

  module _ (ms : List Bool) (m : Marked p V [] v s (rivals s) ms P) where
    abbrev w : Valuation
    w = m.w

    abbrev after : PlainState
    after = m.after

    to-old : (x : ℕ) → R x → Old s x
    to-old = usable-old [] s.sorts Int

    later : (o : Sort) (x : ℕ) → Usable [] s.sorts o x → Usable m.js after.sorts o x
    later o x u =
        let more = usable-on [] s.sorts after.sorts m.as_before.goes_on.sorts o x u in
        (more.0, m.free x (usable-old [] s.sorts o x u) tt)

    at : (t : Linear) → Over R t → value w.whole t ≡ value v.whole t
    at t o = value-agree (Old s) v w m.as_before.agree t (vars-more R (Old s) to-old t.parts o)

    -- a firm fact is of no opened region
    abbrev IsApart : PlainFact → Type 0
    IsApart f = f.loose ≡ false → AllByRecursion (λ n. n ≢ value w.whole f.region) ns

    all-regions :
        (Q : ℤ → Type 0) (xs : List PlainFact) →
        AllByRecursion (λ o. Q (value v.whole o.region)) xs → AllByRecursion Q (regions_of v xs)
    all-regions Q [] h = tt
    all-regions Q (x ∷ xs) h = (h.0, all-regions Q xs h.1)

    apart : AllByRecursion IsApart after.facts
    apart =
        all-each IsApart after.facts
        (λ i f e firm. all-regions (λ n. n ≢ value w.whole f.region) s.opened
        (all-two (λ o. AllOver R o × Exact v V o)
        (λ o. AllByRecursion (IsClear w after) (rivals_from o 0 s.facts))
        (λ o. value v.whole o.region ≢ value w.whole f.region) (other i f e firm) s.opened os
        (of-opened (IsClear w after) s.facts s.opened m.clear)))
      where
        other :
            (i : ℕ) (f : PlainFact) → slice_get after.facts i ≡ Some f → f.loose ≡ false →
            (o : PlainFact) → AllOver R o × Exact v V o →
            AllByRecursion (IsClear w after) (rivals_from o 0 s.facts) →
            value v.whole o.region ≢ value w.whole f.region
        other i f e firm o a clear same =
            let was = m.firm i f e firm in
            let over = all-at (FactOver R) s.facts i f fs.over was in
            let holds = all-at (FactHolds v V) s.facts i f fs.holds was in
            let known = some-same
            (known_as o.kind (map (value v.whole) o.args) (Some (value v.whole o.state)))
            (known_as f.kind (map (value v.whole) f.args) holds.0)
            (sym a.1 ∙ ap V (same ∙ at f.region over.0) ∙ holds.1) in
            let kind = ap (λ (k : Known). k.kind) known in
            let t : (f.kind == o.kind) ≡ true = grind (arith, nat_tests, kind) in
            let z : i ≡ 0 + i = omega arith in
            of-pair (IsClear w after) o 0 s.facts clear i f was t f
            (subst (λ n. slice_get after.facts n ≡ Some f) z e) firm (at o.region a.0.0 ∙ same)

    facts : Facts m.js w (opened_table ns V) after
    facts = record {
      holds =
          all-two (FactHolds w V) IsApart (FactHolds w (opened_table ns V))
          (fact-opened w V ns) after.facts m.facts.holds apart;
      over = m.facts.over;
      loose = m.facts.loose;
      differ = m.facts.differ;
    }

    -- each is among them
    among-all : (xs : List PlainFact) →
        AllByRecursion (λ o. Among (value v.whole o.region) (regions_of v xs)) xs
    among-all [] = tt
    among-all (x ∷ xs) = (
      inl refl,
      all-more (λ o. Among (value v.whole o.region) (regions_of v xs))
          (λ o. Among (value v.whole o.region) (regions_of v (x ∷ xs))) (λ o a. inr a) xs
          (among-all xs),
    )

    abbrev StillOpen : PlainFact → Type 0
    StillOpen = IsStillOpen m.js w V (opened_table ns V) after

    still-one :
        (o : PlainFact) → AllOver R o × Exact v V o → Among (value v.whole o.region) ns →
        StillOpen o
    still-one o a among =
        let e = exact-alike (Old s) v w V (agree-alike (Old s) v w m.as_before.agree) o
        (over-more R (Old s) to-old o a.0) a.1 in
        let n = value w.whole o.region in
        let here = some-opened n ns (subst (λ z. Among z ns) (sym (at o.region a.0.0)) among) in (
          over-more R (Usable m.js after.sorts Int) (later Int) o a.0,
          e,
          ap (λ b. opened_at b (V n)) here ∙ ap (opened_at true) e,
        )

    same-regions : (xs : List PlainFact) →
        AllByRecursion (λ o. AllOver R o × Exact v V o) xs → regions_of w xs ≡ regions_of v xs
    same-regions [] h = refl
    same-regions (x ∷ xs) h =
        let e = at x.region h.0.0.0 in
        let es = same-regions xs h.1 in
        rw (e, es) refl

    earlier-later : (part : Stock) → Earlier p [] v s part → Earlier p m.js w after part
    earlier-later part h =
        let a = agree-alike (Old s) v w m.as_before.agree in
        let o = Usable [] s.sorts in
        let e = sym m.as_before.goes_on.before in
        record {
          over =
              subst (AllByRecursion (PieceOver (Usable m.js after.sorts))) e
              (pieces-more o (Usable m.js after.sorts) later s.before h.over);
          fit = subst (AllFit p) e h.fit;
          covered = λ n.
              subst (λ ps. Covered p w ps n (part.guards n)) e
              (covered-alike p (Old s) v w a s.before n (part.guards n)
              (pieces-more o (λ q. Old s) (usable-old [] s.sorts) s.before h.over)
              (h.covered n));
        }

    acting-from : Acting p V v s ms P
    acting-from =
        let e = sym m.as_before.goes_on.opened in
        record {
          marked = m;
          facts = facts;
          opened =
              subst (AllByRecursion StillOpen) e
              (all-two (λ o. AllOver R o × Exact v V o)
              (λ o. Among (value v.whole o.region) ns) StillOpen still-one s.opened os
              (among-all s.opened));
          regions = subst (λ xs. regions_of w xs ≡ ns) e (same-regions s.opened os);
          backed = backed-before p [] v w s after m.as_before g;
          earlier = λ part h.
              subst (λ xs. IfAny xs (Earlier p m.js w after part)) e
              (if-any s.opened (earlier-later part) h);
        }
      where
        if-any :
            {A B : Type 0} (xs : List PlainFact) → (A → B) → IfAny xs A → IfAny xs B
        if-any [] f h = tt
        if-any (x ∷ xs) f h = f h

  pub acting : (ms : List Bool) → Comes (with_marks s (rivals s) ms) P → Acting p V v s ms P
  acting ms c = acting-from ms (all-marks p V (rivals s) ms [] v s P tt g fs pairs c)
