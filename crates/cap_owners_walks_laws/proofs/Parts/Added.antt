-- A state with a piece or a cell more has just that more; and at alike values it has the same.
use Rattle.std.proofs.Common.{◌≡◌, ℕ, ℤ, List, [], ◌∷◌, ◌++◌, Option, Some, None, refl, sym, ap, ◌∙◌, subst, arith}
use Rattle.std.specs.List.{AllByRecursion}
use Rattle.cap_lin.specs.Linear.{Linear}
use Rattle.cap_lin.specs.Values.{Valuation, value}
use Rattle.cap_lin.specs.declared.row.Sort.{Sort}
use Rattle.cap_lin.specs.declared.row.Sort.TheVariants.{Int}
use Rattle.cap_galg.specs.Elements.{Element}
use Rattle.cap_galg.specs.Algebras.{atom_element}
use Rattle.cap_gsolve.specs.declared.piece.Piece.{Piece}
use Rattle.cap_gsolve.specs.Merge.{merged}
use Rattle.cap_gsolve.specs.Meaning.{IsFormElement, ComposeAt, Fits}
use Rattle.cap_gsolve.proofs.Held.{merged-composes}
use Rattle.cap_prog.specs.Program.{PlainProgram}
use Rattle.cap_goal_spec.specs.States.{PlainState}
use Rattle.cap_machine_accounts.specs.Parts.{algebra_of}
use Rattle.cap_account_resources.proofs.Marks.{Mark, free}
use Rattle.cap_account_resources.proofs.Covering.{join_marks, mark, free-right, Covered, Together, together}
use Rattle.cap_account_resources.proofs.Stocks.{Stock, cell_stock, guard_stock, both, Composes, same-stock}
use Rattle.cap_account_states.proofs.Pieces.{AllFit, element-of, elements-of, mark-joined}
use Rattle.cap_account_states.proofs.PiecesHeld.{piece_stock, piece-mark}
use Rattle.cap_account_states.proofs.Adding.{PieceOver, piece_added, merged-fit}
use Rattle.cap_account_states.proofs.Alike.{Alike, value-alike, need-alike}
use Rattle.cap_account_states.proofs.Backed.{Backed, Grounded}
use Rattle.cap_account_states.proofs.Compatible.{pieces-more, form-alike}
use Rattle.cap_account_states.proofs.Meets.{Usable, need}
use Rattle.cap_account_assertions.proofs.GiveTerms.{need-join}
use Rattle.cap_owners_walks_laws.proofs.Parts.Forms.{form-only}
use Rattle.cap_owners_walks_laws.proofs.Parts.Pieces.{AreForms, pieces_stock, piece-at, pieces-at}
use Rattle.cap_owners_walks_laws.proofs.Parts.Held.{IsOf, covered-is, own-of}

-- ---- what a state has is one

forms-only :
    (v : Valuation) (gs : List Piece) (xs ys : List Element) → AreForms v gs xs →
    AreForms v gs ys → xs ≡ ys
forms-only v [] [] [] f h = refl
forms-only v [] [] (y ∷ ys) f h = absurd h
forms-only v [] (x ∷ xs) ys f h = absurd f
forms-only v (g ∷ gs) [] ys f h = absurd f
forms-only v (g ∷ gs) (x ∷ xs) [] f h = absurd h
forms-only v (g ∷ gs) (x ∷ xs) (y ∷ ys) f h =
    ap (λ z. z ∷ xs) (form-only v g.form x y f.0 h.0)
    ∙ ap (λ zs. y ∷ zs) (forms-only v gs xs ys f.1 h.1)

-- ---- at alike values, and in other states

module _ (p : PlainProgram) (P : ℕ → Type 0) (v w : Valuation) (l : Alike P v w) where
  forms-alike :
      (gs : List Piece) (xs : List Element) → AllByRecursion (PieceOver (λ o. P)) gs →
      AreForms v gs xs → AreForms w gs xs
  forms-alike [] [] o f = tt
  forms-alike [] (x ∷ xs) o f = absurd f
  forms-alike (g ∷ gs) [] o f = absurd f
  forms-alike (g ∷ gs) (x ∷ xs) o f =
      (form-alike P v w l g.form o.0.1 x f.0, forms-alike gs xs o.1 f.1)

  pieces-alike :
      (gs : List Piece) (xs : List Element) → AllByRecursion (PieceOver (λ o. P)) gs →
      pieces_stock p w gs xs ≡ pieces_stock p v gs xs
  pieces-alike [] xs o = refl
  pieces-alike (g ∷ gs) [] o = refl
  pieces-alike (g ∷ gs) (x ∷ xs) o = λ i.
      both p
      (guard_stock (value-alike P v w l g.region o.0.0 i)
      (mark g.kind (atom_element (algebra_of p g.kind) g.atom x)))
      (pieces-alike gs xs o.1 i)

-- at values that are alike on what it uses a state has the same
pub of-at :
    (p : PlainProgram) (s : PlainState) (ks : List ℕ) (P : ℕ → Type 0) (v w : Valuation)
    (q : Stock) → ((o : Sort) (x : ℕ) → Usable ks s.sorts o x → P x) → Alike P v w →
    Grounded p ks v s → IsOf p v s q → IsOf p w s q
of-at p s ks P v w q uses l g h =
    let over = pieces-more (Usable ks s.sorts) (λ o. P) uses s.guards g.pieces_over in
    record {
      elements = h.elements;
      forms = forms-alike p P v w l s.guards h.elements over h.forms;
      cells = λ a z.
          h.cells a z
          ∙ sym (need-alike (Usable ks s.sorts) P v w (uses Int) l s.cells g.meets.cells_over a z);
      guards = λ n.
          h.guards n
          ∙ ap (λ (r : Stock). r.guards n)
          (sym (pieces-alike p P v w l s.guards h.elements over));
    }

-- and one with the same cells and pieces
pub of-same :
    (p : PlainProgram) (s t : PlainState) (v : Valuation) (q : Stock) → t.cells ≡ s.cells →
    t.guards ≡ s.guards → IsOf p v s q → IsOf p v t q
of-same p s t v q e f h = record {
  elements = h.elements;
  forms = subst (λ gs. AreForms v gs h.elements) (sym f) h.forms;
  cells = λ a z. h.cells a z ∙ ap (λ cs. need v cs a z) (sym e);
  guards = λ n.
      h.guards n ∙ ap (λ gs. (pieces_stock p v gs h.elements).guards n) (sym f);
}

module _ (p : PlainProgram) (v : Valuation) where
  pub one-of : (s : PlainState) (q r : Stock) → IsOf p v s q → IsOf p v s r → q ≡ r
  one-of s q r h k =
      same-stock q r (λ a z. h.cells a z ∙ sym (k.cells a z))
      (λ n. h.guards n
      ∙ ap (λ xs. (pieces_stock p v s.guards xs).guards n)
      (forms-only v s.guards h.elements k.elements h.forms k.forms)
      ∙ sym (k.guards n))

  -- ---- a cell more

  pub with-cell :
      (s : PlainState) (a t : Linear) (q : Stock) → IsOf p v s q →
      IsOf p v (record s { cells = s.cells ++ (a, t) ∷ [] })
      (both p q (cell_stock (value v.whole a) (value v.whole t)))
  with-cell s a t q h = record {
    elements = h.elements;
    forms = h.forms;
    cells = λ x z.
        let e = h.cells x z in
        let j = need-join v s.cells ((a, t) ∷ []) x z in
        omega (arith, e, j);
    guards = λ n. free-right p (q.guards n) ∙ h.guards n;
  }

  pub cell-more :
      (s : PlainState) (a t : Linear) (q r : Stock) → IsOf p v s q →
      IsOf p v (record s { cells = s.cells ++ (a, t) ∷ [] }) r →
      r ≡ both p q (cell_stock (value v.whole a) (value v.whole t))
  cell-more s a t q r h k =
      one-of (record s { cells = s.cells ++ (a, t) ∷ [] }) r
      (both p q (cell_stock (value v.whole a) (value v.whole t))) k (with-cell s a t q h)

  -- ---- a piece more

  fits-kind :
      (k : ℕ) (rs : List Piece) → AllFit p rs →
      AllByRecursion (λ r. r.kind ≡ k → Fits (algebra_of p k) r) rs
  fits-kind k [] h = tt
  fits-kind k (r ∷ rs) h = (λ e. subst (λ l. Fits (algebra_of p l) r) e h.0, fits-kind k rs h.1)

  -- pieces that are merged with one are these and that one
  merged-is :
      (ps : List Piece) (g : Piece) (xs zs : List Element) (y : Element) (n : ℤ)
      (m : Option Mark) → AllFit p ps → Fits (algebra_of p g.kind) g → AreForms v ps xs →
      IsFormElement v g.form y → AreForms v (merged ps g) zs → Covered p v ps n m →
      (join_marks p ((pieces_stock p v ps xs).guards n) ((piece_stock p v g y).guards n)
      ≡ None → ⊥) →
      (pieces_stock p v (merged ps g) zs).guards n
      ≡ join_marks p ((pieces_stock p v ps xs).guards n) ((piece_stock p v g y).guards n)
  merged-is ps g xs zs y n m fits fit f o k c ne =
      pieces-at p v t.kind n (merged ps g) zs composed.0 t.all (merged-fit p ps g fits fit) k
      composed.1 composed.2
      ∙ sym (mark-joined p t.kind t.others t.second t.all
      (elements-of p t.kind v n ps t.firsts t.others fits t.are t.first_all)
      (element-of p t.kind v n g t.second fit t.is_second) t.both)
      ∙ ap (λ w. join_marks p w (mark t.kind t.second))
      (sym (pieces-at p v t.kind n ps xs t.firsts t.others fits f t.are t.first_all))
      ∙ ap (join_marks p ((pieces_stock p v ps xs).guards n))
      (sym (piece-at p v t.kind n g y t.second o t.is_second))
    where
      own : Covered p v ps n ((pieces_stock p v ps xs).guards n)
      own = record {
        kind = c.kind;
        element = c.element;
        is = c.is;
        part = (
          Some free,
          free-right p (mark c.kind c.element) ∙ sym (covered-is p v ps xs n m fits f c),
        );
      }

      t :
          Together p v ps g n
          (join_marks p ((pieces_stock p v ps xs).guards n) ((piece_stock p v g y).guards n))
      t =
          together p v ps g (atom_element (algebra_of p g.kind) g.atom y) n
          ((pieces_stock p v ps xs).guards n) ((piece_stock p v g y).guards n) own (y, o, refl)
          (piece-mark p v g y n) ne

      composed : ComposeAt (algebra_of p t.kind) t.kind v n (merged ps g) t.all
      composed =
          merged-composes (algebra_of p g.kind) (algebra_of p t.kind) t.kind v n ps g t.firsts
          t.second t.others t.all (fits-kind g.kind ps fits) fit t.are t.is_second t.first_all
          t.both

  -- what backs the state may be more than it has
  pub piece-more :
      (s : PlainState) (g : Piece) (y : Element) (held q r : Stock) → AllFit p s.guards →
      Fits (algebra_of p g.kind) g → IsFormElement v g.form y → Backed p v s held →
      IsOf p v s q → IsOf p v (piece_added p s g) r → Composes (both p q (piece_stock p v g y)) →
      r ≡ both p q (piece_stock p v g y)
  piece-more s g y held q r fits fit o b h k ne =
      same-stock r (both p q (piece_stock p v g y))
      (λ a z. (let e = h.cells a z in let f = k.cells a z in omega (arith, e, f)))
      (λ n. k.guards n
      ∙ merged-is s.guards g h.elements k.elements y n (held.guards n) fits fit h.forms o k.forms
      (b.guards n)
      (λ none. ne n (ap (λ w. join_marks p w ((piece_stock p v g y).guards n)) (h.guards n) ∙ none))
      ∙ ap (λ w. join_marks p w ((piece_stock p v g y).guards n)) (sym (h.guards n)))

  -- where something backs the state with the piece, it has just that more
  pub with-piece :
      (s : PlainState) (g : Piece) (y : Element) (held whole q : Stock) → AllFit p s.guards →
      Fits (algebra_of p g.kind) g → IsFormElement v g.form y → Backed p v s held →
      Backed p v (piece_added p s g) whole → IsOf p v s q →
      Composes (both p q (piece_stock p v g y)) →
      IsOf p v (piece_added p s g) (both p q (piece_stock p v g y))
  with-piece s g y held whole q fits fit o b c h ne =
      let own = own-of p v (piece_added p s g) whole (merged-fit p s.guards g fits fit) c in
      subst (IsOf p v (piece_added p s g))
      (piece-more s g y held q own.own fits fit o b h own.just ne) own.just
