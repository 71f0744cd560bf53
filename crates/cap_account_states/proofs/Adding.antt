-- A piece is added to a state: the rows that it brings, and what then covers the pieces.
use Rattle.std.proofs.Common.{◌≡◌, ◌≢◌, inl, inr, ℕ, ℤ, Bool, true, false, List, [], ◌∷◌, ◌++◌, Option, Some, None, sym, ap, subst}
use Rattle.std.specs.Prelude.{slice_get, ◌&&◌, if◌then◌else◌}
use Rattle.std.specs.List.{AllByRecursion}
use Rattle.cap_lin.specs.Linear.{Linear, plus}
use Rattle.cap_lin.specs.Values.{Valuation}
use Rattle.cap_lin.specs.Rows.{row_of}
use Rattle.cap_lin.specs.Solves.{Holds}
use Rattle.cap_lin.specs.declared.row.Row.{Row}
use Rattle.cap_lin.specs.declared.row.Sort.{Sort}
use Rattle.cap_lin.specs.declared.row.Sort.TheVariants.{Int, Perm}
use Rattle.cap_lin.specs.declared.row.Op.TheVariants.{Eq as Equal, Le as AtMost, Gt as Greater, Ge as AtLeast, Ne as Unequal}
use Rattle.cap_galg.specs.Elements.{Element}
use Rattle.cap_galg.specs.Algebras.{PlainAlgebra, unique, divisible, counting, indexed, product, sum, atom_algebra}
use Rattle.cap_galg.specs.Laws.Composition.{true_or_false}
use Rattle.cap_gsolve.specs.declared.piece.Form.{Form}
use Rattle.cap_gsolve.specs.declared.piece.Form.TheVariants.{One, Share, Src, Tok, Span}
use Rattle.cap_gsolve.specs.declared.piece.Piece.{Piece}
use Rattle.cap_gsolve.specs.Pieces.{same_part, joins, has_indices, is_single}
use Rattle.cap_gsolve.specs.Merge.{zero_term, one_term, end_rows, added_rows, beside, parted_rows, combined, combined_rows, lone_rows, place, there, met_rows, clash, clash_rows, merged_at, merged, merge_rows, merge_steps}
use Rattle.cap_gsolve.specs.Meaning.{IsPieceElement, Takes, Fits}
use Rattle.cap_gsolve.proofs.Held.{merged-same, merged-other, there-same, there-other, part-is, joined-part}
use Rattle.cap_prog.specs.Program.{PlainRegionType, PlainProgram}
use Rattle.cap_machine_accounts.specs.Parts.{kind_algebra, algebra_of}
use Rattle.cap_goal_spec.specs.States.{PlainState}
use Rattle.cap_rules.specs.Attempts.{Attempt, ◌>>=◌, computed}
use Rattle.cap_rules.specs.Making.{with_rows, guards_with, with_piece}
use Rattle.cap_account_states.specs.Nodes.{Comes}
use Rattle.cap_account_resources.proofs.Lists.{join-nil, join-assoc, all-both}
use Rattle.cap_account_states.proofs.Terms.{Over, RowOver, row-over, over-plus, over-minus}
use Rattle.cap_account_states.proofs.Attempts.{comes-bind, after-found, after-computed, comes-appended, after-with-row}
use Rattle.cap_account_resources.proofs.Marks.{Mark}
use Rattle.cap_account_resources.proofs.Covering.{join_marks, Covered, IsPieceMark, Together, together, covered-merged, merging-rows-hold}
use Rattle.cap_account_states.proofs.Pieces.{AllFit}
use Rattle.cap_account_states.proofs.Guarding.{EndOver, FormOver}

-- ---- what the attempt makes

pub comes-rows :
    (rs : List Row) (s : PlainState) (P : PlainState → Type 0) → Comes (with_rows s rs) P →
    P (record s { rows = s.rows ++ rs })
comes-rows [] s P h = subst (λ us. P (record s { rows = us })) (sym (join-nil s.rows)) h.1
comes-rows (r ∷ rs) s P h =
    let k = after-with-row s r (λ s'. with_rows s' rs) P h in
    subst (λ us. P (record s { rows = us })) (sym (join-assoc s.rows (r ∷ []) rs))
    (comes-rows rs (record s { rows = s.rows ++ r ∷ [] }) P k)

comes-guards :
    (ps : List Piece) (q : Piece) (o : Option ℕ) (P : List Piece → Type 0) →
    Comes (guards_with ps q o) P → P (merged_at ps q o)
comes-guards ps q None P h = comes-appended ps q P h
comes-guards ps q (Some i) P h = h.1

-- the state with the piece
abbrev pub piece_added : PlainProgram → PlainState → Piece → PlainState
piece_added p s q =
    record s
    { guards = merged s.guards q; rows = s.rows ++ merge_rows (algebra_of p q.kind) s.guards q }

pub comes-piece :
    (p : PlainProgram) (s : PlainState) (q : Piece) (P : PlainState → Type 0) →
    Comes (with_piece p s q) P → (k : PlainRegionType) × (slice_get p.regions q.kind ≡ Some k)
    × P (piece_added p s q)
comes-piece p s q P h =
    let last : List Row → List Piece → Attempt PlainState = λ rows guards. with_rows
    (record s { guards = guards }) rows in
    let second : List Row → Attempt PlainState = λ rows. guards_with s.guards q
    (place s.guards q) >>= last rows in
    let first : PlainRegionType → Attempt PlainState = λ k. computed
    (merge_rows k.algebra s.guards q) (merge_steps k.algebra s.guards q) >>= second in
    let k1 = after-found (slice_get p.regions q.kind) first P h in
    let rows = merge_rows k1.0.algebra s.guards q in
    let k2 = after-computed rows (merge_steps k1.0.algebra s.guards q) second P k1.2 in
    let k3 = comes-guards s.guards q (place s.guards q) (λ guards. Comes (last rows guards) P)
    (comes-bind (guards_with s.guards q (place s.guards q)) (last rows) P k2) in
    let k4 = comes-rows rows (record s { guards = merged s.guards q }) P k3 in
    let same : algebra_of p q.kind ≡ k1.0.algebra = ap kind_algebra k1.1 in (
      k1.0,
      k1.1,
      subst
          (λ a. P (record s {
            guards = merged s.guards q;
            rows = s.rows ++ merge_rows a s.guards q;
          }))
          (sym same) k4,
    )

-- ---- variables

abbrev pub PieceOver : (Sort → ℕ → Type 0) → Piece → Type 0
PieceOver R q = Over (R Int) q.region × FormOver R q.form

abbrev RowsOver : (Sort → ℕ → Type 0) → List Row → Type 0
RowsOver R rs = AllByRecursion (RowOver R) rs

added-over : (R : Sort → ℕ → Type 0) (f : Form) → FormOver R f → RowsOver R (added_rows f)
added-over R One h = tt
added-over R (Share a) h = (row-over R a Greater zero_term Perm h tt, tt)
added-over R (Src n) h = (row-over R n AtLeast zero_term Int h tt, tt)
added-over R (Tok k) h = (row-over R k AtLeast zero_term Int h tt, tt)
added-over R (Span a e) h = (row-over R a AtLeast zero_term Int h.0 tt, ends e h.1)
  where
    ends : (e : Option Linear) → EndOver R e → RowsOver R (end_rows a e)
    ends None k = tt
    ends (Some e) k = (row-over R a AtMost e Int h.0 k, tt)

lone-over : (R : Sort → ℕ → Type 0) (f : Form) → FormOver R f → RowsOver R (lone_rows f)
lone-over R One h = tt
lone-over R (Share a) h = (row-over R a AtMost one_term Perm h tt, tt)
lone-over R (Src n) h = tt
lone-over R (Tok k) h = tt
lone-over R (Span a e) h = tt

false-over : (R : Sort → ℕ → Type 0) → RowOver R (row_of zero_term Equal one_term Int)
false-over R = row-over R zero_term Equal one_term Int tt tt

combined-rows-over :
    (R : Sort → ℕ → Type 0) (f g : Form) → FormOver R f → FormOver R g →
    RowsOver R (combined_rows f g)
combined-rows-over R (Share a) (Share b) h k =
    (row-over R (plus a b) AtMost one_term Perm (over-plus (R Perm) a b h k) tt, tt)
combined-rows-over R (Src n) (Tok j) h k = (row-over R j AtMost n Int k h, tt)
combined-rows-over R (Tok j) (Src n) h k = (row-over R j AtMost n Int h k, tt)
combined-rows-over R (Tok i) (Tok j) h k = tt
combined-rows-over R f g h k = (false-over R, tt)

combined-over :
    (R : Sort → ℕ → Type 0) (f g : Form) → FormOver R f → FormOver R g → FormOver R (combined f g)
combined-over R (Share a) (Share b) h k = over-plus (R Perm) a b h k
combined-over R (Src n) (Tok j) h k = over-minus (R Int) n j h k
combined-over R (Tok j) (Src n) h k = over-minus (R Int) n j k h
combined-over R (Tok i) (Tok j) h k = over-plus (R Int) i j h k
combined-over R f g h k = h

clash-over : (R : Sort → ℕ → Type 0) (b : Bool) → RowsOver R (clash_rows b)
clash-over R true = (false-over R, tt)
clash-over R false = tt

met-over :
    (R : Sort → ℕ → Type 0) (ps : List Piece) (q : Piece) → AllByRecursion (PieceOver R) ps →
    FormOver R q.form → RowsOver R (met_rows (there ps q) q.form)
met-over R [] q h k = lone-over R q.form k
met-over R (r ∷ ps) q h k = elim (true_or_false (joins r q)) [
  | inl t ↦ subst (λ o. RowsOver R (met_rows o q.form)) (sym (there-same r ps q t))
      (combined-rows-over R r.form q.form h.0.1 k)
  | inr f ↦ subst (λ o. RowsOver R (met_rows o q.form)) (sym (there-other r ps q f))
      (met-over R ps q h.1 k)
]

-- what is said of each piece of a part
pub beside-over :
    (R : Sort → ℕ → Type 0) (of : Form → Form → List Row) (ps : List Piece) (q : Piece) →
    ((f : Form) → FormOver R f → RowsOver R (of f q.form)) → AllByRecursion (PieceOver R) ps →
    RowsOver R (beside of ps q)
beside-over R of [] q g h = tt
beside-over R of (r ∷ ps) q g h =
    all-both (RowOver R) (if same_part r q then of r.form q.form else []) (beside of ps q)
    (by (same_part r q)) (beside-over R of ps q g h.1)
  where
    by : (b : Bool) → RowsOver R (if b then of r.form q.form else [])
    by true = g r.form h.0.1
    by false = tt

where-over :
    (R : Sort → ℕ → Type 0) (b : Bool) (rs : List Row) → RowsOver R rs →
    RowsOver R (if b then rs else [])
where-over R true rs h = h
where-over R false rs h = tt

parted-over :
    (R : Sort → ℕ → Type 0) (f g : Form) → FormOver R f → FormOver R g →
    RowsOver R (parted_rows f g)
parted-over R (Span a None) (Span b None) h k = (false-over R, tt)
parted-over R (Span a None) (Span b (Some d)) h k =
    where-over R (has_indices b (Some d)) _ (row-over R d AtMost a Int k.1 h.0, tt)
parted-over R (Span a (Some e)) (Span b None) h k =
    where-over R (has_indices a (Some e)) _ (row-over R e AtMost b Int h.1 k.0, tt)
parted-over R (Span a (Some e)) (Span b (Some d)) h k =
    where-over R (is_single a (Some e) && is_single b (Some d)) _
    (row-over R a Unequal b Int h.0 k.0, tt)
parted-over R f g h k = tt

pub merging-rows-over :
    (R : Sort → ℕ → Type 0) (a : PlainAlgebra) (ps : List Piece) (q : Piece) →
    AllByRecursion (PieceOver R) ps → FormOver R q.form → RowsOver R (merge_rows a ps q)
unfolding merge_rows
merging-rows-over R a ps q h k =
    let bs = beside parted_rows ps q in
    all-both (RowOver R) (added_rows q.form)
    (met_rows (there ps q) q.form ++ (bs ++ clash_rows (clash a ps q))) (added-over R q.form k)
    (all-both (RowOver R) (met_rows (there ps q) q.form) (bs ++ clash_rows (clash a ps q))
    (met-over R ps q h k)
    (all-both (RowOver R) bs (clash_rows (clash a ps q))
    (beside-over R parted_rows ps q (λ f o. parted-over R f q.form o k) h)
    (clash-over R (clash a ps q))))

pub merged-over :
    (R : Sort → ℕ → Type 0) (ps : List Piece) (q : Piece) → AllByRecursion (PieceOver R) ps →
    PieceOver R q → AllByRecursion (PieceOver R) (merged ps q)
merged-over R [] q h k = (k, tt)
merged-over R (r ∷ ps) q h k = elim (true_or_false (joins r q)) [
  | inl t ↦ subst (AllByRecursion (PieceOver R)) (sym (merged-same r ps q t))
      ((k.0, combined-over R r.form q.form h.0.1 k.1), h.1)
  | inr f ↦ subst (AllByRecursion (PieceOver R)) (sym (merged-other r ps q f))
      (h.0, merged-over R ps q h.1 k)
]

-- ---- forms

combined-takes : (b : PlainAlgebra) (f g : Form) → Takes b f → Takes b g → Takes b (combined f g)
combined-takes unique One One h k = tt
combined-takes unique One g h k = absurd k
combined-takes unique f g h k = absurd h
combined-takes divisible (Share a) (Share c) h k = tt
combined-takes divisible (Share a) g h k = absurd k
combined-takes divisible f g h k = absurd h
combined-takes counting (Src n) (Src m) h k = tt
combined-takes counting (Src n) (Tok j) h k = tt
combined-takes counting (Src n) g h k = absurd k
combined-takes counting (Tok j) (Src n) h k = tt
combined-takes counting (Tok i) (Tok j) h k = tt
combined-takes counting (Tok i) g h k = absurd k
combined-takes counting f g h k = absurd h
combined-takes indexed (Span a e) g h k = tt
combined-takes indexed f g h k = absurd h
combined-takes (product a b) f g h k = absurd h
combined-takes (sum a b) f g h k = absurd h

pub merged-fit :
    (p : PlainProgram) (ps : List Piece) (q : Piece) → AllFit p ps → Fits (algebra_of p q.kind) q →
    AllFit p (merged ps q)
merged-fit p [] q h k = (k, tt)
merged-fit p (r ∷ ps) q h k = elim (true_or_false (joins r q)) [
  | inl t ↦
      let e = part-is r q (joined-part r q t) in
      let g : Takes (atom_algebra (algebra_of p q.kind) q.atom) r.form = subst
      (λ i. Takes (atom_algebra (algebra_of p q.kind) i) r.form) e.atom
      (subst (λ l. Takes (atom_algebra (algebra_of p l) r.atom) r.form) e.kind h.0.1) in
      subst (AllFit p) (sym (merged-same r ps q t)) (
        (
          k.0,
          combined-takes
              (atom_algebra (algebra_of p q.kind) q.atom) r.form q.form g k.1,
        ),
        h.1,
      )
  | inr f ↦ subst (AllFit p) (sym (merged-other r ps q f)) (h.0, merged-fit p ps q h.1 k)
]

-- ---- a piece more

-- the state with the piece holds, where the pieces that were there and the new one join everywhere
pub record PieceAdded (p : PlainProgram) (v : Valuation) (s : PlainState) (q : Piece)
    (total : ℤ → Option Mark) : Type 0 where
  pub rows : AllByRecursion (Holds v) (merge_rows (algebra_of p q.kind) s.guards q)
  pub covered : (n : ℤ) → Covered p v (merged s.guards q) n (total n)
  pub fits : AllFit p (merged s.guards q)

pub piece-added :
    (p : PlainProgram) (v : Valuation) (s : PlainState) (q : Piece) (y : Element)
    (held more : ℤ → Option Mark) → AllFit p s.guards → Fits (algebra_of p q.kind) q →
    ((n : ℤ) → Covered p v s.guards n (held n)) → IsPieceElement (algebra_of p q.kind) v q y →
    ((n : ℤ) → IsPieceMark p v q y n (more n)) → ((n : ℤ) → join_marks p (held n) (more n) ≢ None) →
    PieceAdded p v s q (λ n. join_marks p (held n) (more n))
piece-added p v s q y held more fits fit c h m ne =
    let t : (n : ℤ) → Together p v s.guards q n (join_marks p (held n) (more n)) =
    (λ n. together p v s.guards q y n (held n) (more n) (c n) h (m n) (ne n)) in
    record {
      rows = merging-rows-hold p v s.guards q (λ n. join_marks p (held n) (more n)) fits fit t;
      covered =
          λ n. covered-merged p v s.guards q n (join_marks p (held n) (more n)) fits fit (t n);
      fits = merged-fit p s.guards q fits fit;
    }
