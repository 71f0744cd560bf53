-- Pieces of a region whose full pieces are all of its guards.
use Rattle.cap_account_resources.proofs.Order.{same-or}
use Rattle.std.proofs.Common.{◌≡◌, ◌≢◌, inl, inr, ℕ, ℤ, Bool, true, false, List, [], ◌∷◌, Some, None, refl, sym, ap, ◌∙◌, subst}
use Rattle.std.specs.Prelude.{if◌then◌else◌}
use Rattle.std.specs.List.{AllByRecursion}
use Rattle.cap_lin.specs.Linear.{same_number}
use Rattle.cap_lin.specs.Values.{Valuation}
use Rattle.cap_lin.specs.Solves.{Holds}
use Rattle.cap_galg.specs.Elements.{Element, nothing, compose}
use Rattle.cap_galg.specs.Lists.{compose_all}
use Rattle.cap_galg.specs.Algebras.{full}
use Rattle.cap_galg.specs.Laws.Composition.{bind-is}
use Rattle.cap_galg.specs.Laws.Algebras.{full-present}
use Rattle.cap_gsolve.specs.declared.piece.Piece.{Piece}
use Rattle.cap_gsolve.specs.Merge.{merge_rows}
use Rattle.cap_gsolve.specs.Meaning.{IsPieceElement, region_of, IsElementAt, AreElementsAt}
use Rattle.cap_prog.specs.Program.{PlainProgram}
use Rattle.cap_machine_accounts.specs.Parts.{algebra_of}
use Rattle.cap_goal_spec.specs.States.{PlainState}
use Rattle.cap_rules.specs.Making.{with_piece, with_pieces}
use Rattle.cap_account_states.specs.Nodes.{Comes}
use Rattle.cap_account_resources.proofs.Lists.{some-same, all-both}
use Rattle.cap_account_states.proofs.Attempts.{comes-bind}
use Rattle.cap_account_resources.proofs.Marks.{free, joins-law}
use Rattle.cap_account_resources.proofs.Covering.{join_marks, mark, mark-of, free-right, first-some, Covered, IsPieceMark}
use Rattle.cap_account_states.proofs.Pieces.{AllFit, element-of, elements-of, mark-joined}
use Rattle.cap_account_states.proofs.Adding.{piece_added, comes-piece, piece-added}
use Rattle.cap_account_resources.proofs.Interference.{Holding}
use Rattle.cap_account_resources.proofs.Room.{all_guards, alone, alone-here, alone-away, alone-join}

-- ---- pieces alone

-- a piece's guards are those alone
pub piece-alone :
    (p : PlainProgram) (v : Valuation) (q : Piece) (y : Element) (n : ℤ) →
    IsPieceMark p v q y n (alone (region_of v q) (mark q.kind y) n)
piece-alone p v q y n = record {
  at = λ e. alone-here (region_of v q) (mark q.kind y) n e;
  away = λ ne. alone-away (region_of v q) (mark q.kind y) n ne;
  or_not = same-or (region_of v q) n;
}

-- ---- several pieces of one region

abbrev AtRegion : ℤ → ℕ → Valuation → List Piece → Type 0
AtRegion z k v qs = AllByRecursion (λ q. (region_of v q ≡ z) × (q.kind ≡ k)) qs

-- what adding them brings
pub record PiecesAdded (p : PlainProgram) (v : Valuation) (s : PlainState) (total : Holding)
    (P : PlainState → Type 0) : Type 0 where
  pub after : PlainState
  pub rows : AllByRecursion (Holds v) s.rows → AllByRecursion (Holds v) after.rows
  pub covered : (n : ℤ) → Covered p v after.guards n (total n)
  pub fits : AllFit p after.guards
  pub comes : P after

pub pieces-added :
    (p : PlainProgram) (v : Valuation) (z : ℤ) (k : ℕ) (qs : List Piece) (ys : List Element)
    (x : Element) (s : PlainState) (held : Holding)
    (P : PlainState → Type 0) → AtRegion z k v qs → AllFit p qs → AreElementsAt
    (algebra_of p k) k v z qs ys → compose_all ys ≡ Some x → AllFit p s.guards →
    ((n : ℤ) → Covered p v s.guards n (held n)) →
    ((n : ℤ) → join_marks p (held n) (alone z (mark k x) n) ≢ None) → Comes
    (with_pieces p s qs) P → PiecesAdded p v s
    (λ n. join_marks p (held n) (alone z (mark k x) n)) P
pieces-added p v z k [] [] x s held P at fit are e fits c ne h = record {
  after = s;
  rows = λ r. r;
  covered = λ n. subst (Covered p v s.guards n) (sym (same n)) (c n);
  fits = fits;
  comes = h.1;
}
  where
    same : (n : ℤ) → join_marks p (held n) (alone z (mark k x) n) ≡ held n
    same n = ap (join_marks p (held n)) (none (same_number z n) ∙ refl) ∙ free-right p (held n)
      where
        none : (b : Bool) → (if b then mark k x else Some free) ≡ Some free
        none true = ap (mark k) (sym (some-same nothing x e))
        none false = refl
pieces-added p v z k [] (y ∷ ys) x s held P at fit are e fits c ne h = absurd are
pieces-added p v z k (q ∷ qs) [] x s held P at fit are e fits c ne h = absurd are
pieces-added p v z k (q ∷ qs) (y ∷ ys) x s held P at fit are e fits c ne h =
    let t = bind-is (compose_all ys) (λ w. compose y w) x e in
    let iy = element-of p k v z q y fit.0 are.0 in
    let ir = elements-of p k v z qs ys t.0 fit.1 are.1 t.1 in
    let parts : join_marks p (mark k y)
    (mark k t.0) ≡ mark k x = mark-joined p k y t.0 x iy ir t.2 in
    let first : Holding = alone z (mark k y) in
    let more : Holding = alone z (mark k t.0) in
    let turn : (n : ℤ) → join_marks p (join_marks p (held n) (first n)) (more n) ≡ join_marks p
    (held n) (alone z (mark k x) n) =
    (λ n. (joins-law p).assoc (held n) (first n) (more n) ∙ ap (join_marks p (held n))
    (alone-join p z (mark k y) (mark k t.0) n ∙ ap (λ m. alone z m n) parts)) in
    let own : IsPieceElement (algebra_of p q.kind) v q y = subst
    (λ l. IsPieceElement (algebra_of p l) v q y) (sym at.0.1) (here are.0) in
    let marks : (n : ℤ) → IsPieceMark p v q y n (first n) =
    (λ n. subst (λ l. IsPieceMark p v q y n (alone z (mark l y) n)) at.0.1
    (subst (λ w. IsPieceMark p v q y n (alone w (mark q.kind y) n)) at.0.0
    (piece-alone p v q y n))) in
    let added = piece-added p v s q y held first fits fit.0 c own marks
    (λ n. first-some p (join_marks p (held n) (first n)) (more n)
    (λ w. ne n (sym (turn n) ∙ w))) in
    let s1 = piece_added p s q in
    let k1 = comes-piece p s q (λ s'. Comes (with_pieces p s' qs) P)
    (comes-bind (with_piece p s q) (λ s'. with_pieces p s' qs) P h) in
    let r = pieces-added p v z k qs ys t.0 s1
    (λ n. join_marks p (held n) (first n)) P at.1 fit.1 are.1 t.1 added.fits added.covered
    (λ n w. ne n (sym (turn n) ∙ w)) k1.2 in
    record {
      after = r.after;
      rows =
          λ rs. r.rows
          (all-both (Holds v) s.rows
          (merge_rows (algebra_of p q.kind) s.guards q) rs added.rows);
      covered = λ n. subst (Covered p v r.after.guards n) (turn n) (r.covered n);
      fits = r.fits;
      comes = r.comes;
    }
  where
    here : IsElementAt (algebra_of p k) k v z q y → IsPieceElement (algebra_of p k) v q y
    here (inl h) = h.1
    here (inr h) = absurd (h.0 at.0.0)

pub full-mark : (p : PlainProgram) (k : ℕ) → mark k (full (algebra_of p k)) ≡ all_guards p k
full-mark p k = mark-of k (full (algebra_of p k)) (full-present (algebra_of p k))
