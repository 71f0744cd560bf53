-- Full pieces go: pieces that are proved to be all of their guards are taken out of a state, with
-- the guards that they are.
use Rattle.std.proofs.Common.{◌≡◌, ℕ, suc, ◌+◌, ℤ, pos, List, [], ◌∷◌, ◌++◌, take, drop, arith, refl, sym, ap, ◌∙◌, subst, Bool, true, false, Option, Some, None, inl, inr}
use Rattle.std.specs.Prelude.{slice_get, find, cond, not, if◌then◌else◌}
use Rattle.std.specs.List.{AllByRecursion}
use Rattle.std.proofs.lemmas.Int.{ints}
use Rattle.cap_lin.specs.Linear.{Linear}
use Rattle.cap_lin.specs.Values.{Valuation, value, amount}
use Rattle.cap_lin.specs.declared.row.Sort.TheVariants.{Int, Perm}
use Rattle.cap_lin.specs.declared.row.Op.TheVariants.{Eq as Equal}
use Rattle.cap_galg_indices.specs.Sets.{indices_from}
use Rattle.cap_galg.specs.Elements.{Element, nothing, share, src, indices, compose}
use Rattle.cap_galg.specs.Lists.{compose_all}
use Rattle.cap_galg.specs.Algebras.{PlainAlgebra, unique, divisible, counting, indexed, product, sum, atom_algebra, atom_element}
use Rattle.cap_galg.specs.Laws.Composition.{and-true, bind-is}
use Rattle.cap_gsolve.specs.declared.piece.Form.{Form}
use Rattle.cap_gsolve.specs.declared.piece.Form.TheVariants.{One, Share, Src, Tok, Span}
use Rattle.cap_gsolve.specs.declared.piece.Piece.{Piece}
use Rattle.cap_gsolve.specs.Pieces.{same_part}
use Rattle.cap_gsolve.specs.Merge.{zero_term, one_term}
use Rattle.cap_gsolve.specs.Meaning.{region_of, Takes, Fits, IsFormElement, IsPieceElement, IsElementAt, AreElementsAt}
use Rattle.cap_gsolve.proofs.Held.{part-is}
use Rattle.cap_prog.specs.Program.{PlainProgram}
use Rattle.cap_machine_accounts.specs.Parts.{algebra_of}
use Rattle.cap_goal_spec.specs.States.{PlainState}
use Rattle.cap_rules.specs.Attempts.{Attempt, ◌>>=◌}
use Rattle.cap_rules.specs.Making.{without_first}
use Rattle.cap_rules.specs.Taking.{has_end, may_be_full, prove_full, without_full}
use Rattle.cap_account_resources.proofs.Lists.{some-same, none-some, all-at}
use Rattle.cap_account_resources.proofs.Marks.{Mark}
use Rattle.cap_account_resources.proofs.Covering.{join_marks, mark}
use Rattle.cap_account_resources.proofs.Monoid.{atom, both as plus}
use Rattle.cap_account_resources.proofs.Stocks.{Stock, no_stock, guard_stock, both, Inside, reordered, inside-is, inside-trans, inside-beside, none-right}
use Rattle.cap_account_states.specs.Nodes.{Comes}
use Rattle.cap_account_states.proofs.Attempts.{comes-bind, after-found, comes-proved}
use Rattle.cap_account_states.proofs.Meets.{Usable, Meets}
use Rattle.cap_account_states.proofs.Guarding.{proved-relates, FormOver}
use Rattle.cap_account_states.proofs.Cutting.{one-fraction, cut-all}
use Rattle.cap_account_states.proofs.Adding.{PieceOver}
use Rattle.cap_account_states.proofs.Pieces.{form-element, element-of, elements-of, mark-joined, left_pieces, CutAt, cut-here, cut-away}
use Rattle.cap_account_states.proofs.Guards.{left-over, left-fits}
use Rattle.cap_account_states.proofs.Sums.{IsFull, FullPiece, full-fit}
use Rattle.cap_account_states.proofs.Backed.{Backed, Grounded}
use Rattle.cap_account_assertions.proofs.PieceCuts.{none-alone, guards-joined, cuts-out, stock_left, left-apart}

-- ---- forms that are full at these values

abbrev pub FullAt : Valuation → Form → Type 0
FullAt v One = Unit {0}
FullAt v (Share a) = amount v.fraction a ≡ amount v.fraction one_term
FullAt v (Src m) = value v.whole m ≡ value v.whole zero_term
FullAt v (Tok m) = ⊥
FullAt v (Span a None) = value v.whole a ≡ value v.whole zero_term
FullAt v (Span a (Some e)) = ⊥

full-at : (v : Valuation) (f : Form) → IsFull f → FullAt v f
full-at v One h = tt
full-at v (Share a) h = ap (amount v.fraction) h
full-at v (Src m) h = ap (value v.whole) h
full-at v (Tok m) h = h
full-at v (Span a None) h = ap (value v.whole) h
full-at v (Span a (Some e)) h = h

proved-full :
    (ks : List ℕ) (v : Valuation) (s : PlainState) (f : Form) (P : Unit {0} → Type 0) →
    Meets ks v s → FormOver (Usable ks s.sorts) f → Comes (prove_full s.rows f) P →
    FullAt v f × P tt
proved-full ks v s One P m o h = (tt, h.1)
proved-full ks v s (Share a) P m o h =
    let q = comes-proved s.rows a Equal one_term Perm P h in
    (proved-relates ks v s a Equal one_term Perm m q.0 o tt, q.1)
proved-full ks v s (Src n) P m o h =
    let q = comes-proved s.rows n Equal zero_term Int P h in
    (proved-relates ks v s n Equal zero_term Int m q.0 o tt, q.1)
proved-full ks v s (Tok n) P m o h = absurd h.1
proved-full ks v s (Span a None) P m o h =
    let q = comes-proved s.rows a Equal zero_term Int P h in
    (proved-relates ks v s a Equal zero_term Int m q.0 o.0 tt, q.1)
proved-full ks v s (Span a (Some e)) P m o h = absurd h.1

one-number : (i j : ℕ) → pos i ≡ pos j → i ≡ j
one-number i j e = omega (arith, ints, e)

-- of an atom there is one such element
full-one :
    (b : PlainAlgebra) (v : Valuation) (f g : Form) (x y : Element) → Takes b f → Takes b g →
    FullAt v f → FullAt v g → IsFormElement v f x → IsFormElement v g y → x ≡ y
full-one unique v One One x y t u m n h k = h ∙ sym k
full-one unique v One g x y t u m n h k = absurd u
full-one unique v f g x y t u m n h k = absurd t
full-one divisible v (Share a) (Share d) x y t u m n h k =
    h.3 ∙ ap share (one-fraction v a d h.0 k.0 h.1 k.1 h.2 k.2 (m ∙ sym n)) ∙ sym k.3
full-one divisible v (Share a) g x y t u m n h k = absurd u
full-one divisible v f g x y t u m n h k = absurd t
full-one counting v (Src a) (Src d) x y t u m n h k =
    h.2 ∙ ap src (one-number h.0 k.0 (sym h.1 ∙ m ∙ sym n ∙ k.1)) ∙ sym k.2
full-one counting v (Src a) (Tok d) x y t u m n h k = absurd n
full-one counting v (Src a) g x y t u m n h k = absurd u
full-one counting v (Tok a) g x y t u m n h k = absurd m
full-one counting v f g x y t u m n h k = absurd t
full-one indexed v (Span a None) (Span d None) x y t u m n h k =
    h.2
    ∙ ap (λ i. indices (indices_from i)) (one-number h.0 k.0 (sym h.1 ∙ m ∙ sym n ∙ k.1))
    ∙ sym k.2
full-one indexed v (Span a None) (Span d (Some e)) x y t u m n h k = absurd n
full-one indexed v (Span a (Some e)) g x y t u m n h k = absurd m
full-one indexed v (Span a None) g x y t u m n h k = absurd u
full-one indexed v f g x y t u m n h k = absurd t
full-one (product c d) v f g x y t u m n h k = absurd t
full-one (sum c d) v f g x y t u m n h k = absurd t

-- ---- the first of a list of which a test is true

record FirstAt {X : Type 0} (test : X → Bool) (xs : List X) (x : X) : Type 0 where
  index : ℕ
  is_there : slice_get xs index ≡ Some x
  others : take index xs ++ drop (index + 1) xs ≡ without_first test xs
  passes : test x ≡ true

first-at :
    {X : Type 0} (test : X → Bool) (xs : List X) (x : X) → find test xs ≡ Some x →
    FirstAt test xs x
first-at test [] x e = absurd (none-some e)
first-at test (y ∷ xs) x e = by (test y) refl e (λ h. first-at test xs x h)
  where
    by :
        (b : Bool) → test y ≡ b → cond b (Some y) (find test xs) ≡ Some x →
        (find test xs ≡ Some x → FirstAt test xs x) → FirstAt test (y ∷ xs) x
    by true t e f = record {
      index = 0;
      is_there = e;
      others = ap (λ b. if b then xs else y ∷ without_first test xs) (sym t);
      passes = subst (λ z. test z ≡ true) (some-same y x e) t;
    }
    by false t e f =
        let r = f e in
        let i = r.index in
        let next : suc i + 1 ≡ suc (i + 1) = omega arith in
        record {
          index = suc i;
          is_there = r.is_there;
          others =
              ap (λ n. take (suc i) (y ∷ xs) ++ drop n (y ∷ xs)) next
              ∙ ap (λ zs. y ∷ zs) r.others
              ∙ ap (λ b. if b then xs else y ∷ without_first test xs) (sym t);
          passes = r.passes;
        }

-- ---- what is left without a full piece

abbrev pub with_guards : PlainState → List Piece → PlainState
with_guards s guards = record s { guards = guards }

-- the state has these pieces, which are held apart from the guards that went
pub record Gone (p : PlainProgram) (ks : List ℕ) (v : Valuation) (s : PlainState) (n : ℤ)
    (m : Option Mark) (c : Stock) (guards : List Piece) : Type 0 where
  pub grounded : Grounded p ks v (with_guards s guards)
  pub rest : Stock
  pub backed : Backed p v (with_guards s guards) rest
  pub apart : Inside p (both p rest (guard_stock n m)) c

-- a piece is as an element says, at its region
at-own-region :
    (a : PlainAlgebra) (k : ℕ) (v : Valuation) (n : ℤ) (q : Piece) (x : Element) →
    region_of v q ≡ n → IsElementAt a k v n q x → IsPieceElement a v q x
at-own-region a k v n q x e (inl h) = h.1
at-own-region a k v n q x e (inr h) = absurd (h.0 e)

module _ (p : PlainProgram) (ks : List ℕ) (v : Valuation) (r : Linear) (k : ℕ) where
  abbrev n : ℤ
  n = value v.whole r

  abbrev w : PlainAlgebra
  w = algebra_of p k

  abbrev part_of : Piece → Piece → Bool
  part_of f q = may_be_full f q

  one-gone :
      (s : PlainState) (c : Stock) (ps : List Piece) (f : Piece) (x : Element) (q : Piece) →
      FullPiece w r k f → IsElementAt w k v n f x → Grounded p ks v (with_guards s ps) →
      Backed p v (with_guards s ps) c → find (part_of f) ps ≡ Some q → FullAt v q.form →
      Gone p ks v s n (mark k x) c (without_first (part_of f) ps)
  one-gone s c ps f x q full at g b e m =
      let here = at-own-region w k v n f x (ap (value v.whole) full.region_is) at in
      let first = first-at (part_of f) ps q e in
      let i = first.index in
      let same = part-is q f (and-true (same_part q f) (not (has_end q.form)) first.passes).0 in
      let region : region_of v q ≡ n = ap (value v.whole) (same.region ∙ full.region_is) in
      let kind : q.kind ≡ k = same.kind ∙ full.kind_is in
      let qa = atom_algebra (algebra_of p q.kind) q.atom in
      let algebras : qa ≡ atom_algebra w f.atom =
      ap (λ l. atom_algebra (algebra_of p l) q.atom) kind ∙ ap (atom_algebra w) same.atom in
      let fits = all-at (λ (y : Piece). Fits (algebra_of p y.kind) y) ps i q g.pieces_fit
      first.is_there in
      let over = all-at (PieceOver (Usable ks s.sorts)) ps i q g.pieces_over first.is_there in
      let cut = cut-here p v ps i q n (c.guards n) g.pieces_fit first.is_there region
      (b.guards n) in
      let own : cut.own ≡ here.0 =
      full-one (atom_algebra w f.atom) v q.form f.form cut.own here.0
      (subst (λ a. Takes a q.form) algebras fits.1) full.fits.1 m (full-at v f.form full.full)
      cut.is_own here.1 in
      let marks : mark q.kind (atom_element (algebra_of p q.kind) q.atom cut.own) ≡ mark k x =
      ap (λ l. mark l (atom_element (algebra_of p l) q.atom cut.own)) kind
      ∙ ap (λ a. mark k (atom_element w a cut.own)) same.atom
      ∙ ap (λ y. mark k (atom_element w f.atom y)) own ∙ ap (mark k) (sym here.2) in
      let left = left_pieces ps i q [] in
      let cuts = cuts-out p v left n (mark k x) c.guards
      (subst (λ y. CutAt p v left n y (c.guards n)) marks
      (cut.cut cut.own [] (form-element qa v q.form cut.own fits.1 cut.is_own) tt
      (cut-all v cut.own)))
      (λ z ne. cut-away p v ps i q [] z (c.guards z) first.is_there (λ h. ne (sym region ∙ h))
      (b.guards z)) in
      subst (Gone p ks v s n (mark k x) c) first.others (record {
        grounded = record {
          meets = record {
            sorted = g.meets.sorted;
            rows = g.meets.rows;
            rows_over = g.meets.rows_over;
            cells_over = g.meets.cells_over;
            positive = g.meets.positive;
            store_over = g.meets.store_over;
          };
          pieces_over = left-over (Usable ks s.sorts) ps i q [] g.pieces_over over.0 tt;
          pieces_fit = left-fits p ps i q [] g.pieces_fit tt;
        };
        rest = stock_left p v left n (mark k x) c cuts;
        backed = record { cells = b.cells; guards = λ z. (cuts z).covered };
        apart = left-apart p v left n (mark k x) c cuts;
      })

  -- all of them go, and what they are together
  pub fulls-gone :
      (s : PlainState) (fulls : List Piece) (xs : List Element) (x : Element) (c : Stock)
      (ps : List Piece) (P : List Piece → Type 0) → AllByRecursion (FullPiece w r k) fulls →
      AreElementsAt w k v n fulls xs → compose_all xs ≡ Some x →
      Grounded p ks v (with_guards s ps) → Backed p v (with_guards s ps) c →
      Comes (without_full s.rows ps fulls) P →
      (left : List Piece) × Gone p ks v s n (mark k x) c left × P left
  fulls-gone s [] [] x c ps P full at e g b h =
      let none : guard_stock n (mark k x) ≡ no_stock =
      ap (λ y. guard_stock n (mark k y)) (sym (some-same nothing x e)) ∙ none-alone n in (
        ps,
        record {
          grounded = g;
          rest = c;
          backed = b;
          apart =
              inside-is p (both p c (guard_stock n (mark k x))) c
              (ap (both p c) none ∙ none-right p c);
        },
        h.1,
      )
  fulls-gone s [] (y ∷ xs) x c ps P full at e g b h = absurd at
  fulls-gone s (f ∷ fs) [] x c ps P full at e g b h = absurd at
  fulls-gone s (f ∷ fs) (y ∷ xs) x c ps P full at e g b h =
      let parts = bind-is (compose_all xs) (λ z. compose y z) x e in
      let z = parts.0 in
      let without = without_first (part_of f) ps in
      let more : Unit {0} → Attempt (List Piece) = λ u. without_full s.rows without fs in
      let there = after-found (find (part_of f) ps) (λ q. prove_full s.rows q.form >>= more) P h in
      let q = there.0 in
      let over = all-at (PieceOver (Usable ks s.sorts)) ps
      (first-at (part_of f) ps q there.1).index q g.pieces_over
      (first-at (part_of f) ps q there.1).is_there in
      let proved = proved-full ks v (with_guards s ps) q.form (λ u. Comes (more u) P) g.meets over.1
      (comes-bind (prove_full s.rows q.form) more P there.2) in
      let one = one-gone s c ps f y q full.0 at.0 g b there.1 proved.0 in
      let rest = fulls-gone s fs xs z one.rest without P full.1 at.1 parts.1 one.grounded one.backed
      proved.1 in
      let fit = full-fit p r k (f ∷ fs) full in
      let joined : join_marks p (mark k y) (mark k z) ≡ mark k x =
      mark-joined p k y z x (element-of p k v n f y fit.0 at.0)
      (elements-of p k v n fs xs z fit.1 at.1 parts.1) parts.2 in
      let left = rest.1.rest in
      let first = guard_stock n (mark k y) in
      let second = guard_stock n (mark k z) in
      let turned = reordered p (left ∷ second ∷ first ∷ [])
      (plus (plus (atom 0) (atom 1)) (atom 2)) (plus (atom 0) (plus (atom 2) (atom 1))) refl in (
        rest.0,
        record {
          grounded = rest.1.grounded;
          rest = left;
          backed = rest.1.backed;
          apart =
              subst (λ m. Inside p (both p left (guard_stock n m)) c) joined
              (subst (λ t. Inside p (both p left t) c) (guards-joined p n (mark k y) (mark k z))
              (subst (λ t. Inside p t c) turned
              (inside-trans p (both p (both p left second) first) (both p one.rest first) c
              (inside-beside p (both p left second) one.rest first rest.1.apart) one.apart)));
        },
        rest.2,
      )
