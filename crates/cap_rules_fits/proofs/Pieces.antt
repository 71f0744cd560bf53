-- Guard pieces that are merged fit, and no two of them are of one part.
use Rattle.std.proofs.Common.{◌≡◌, ◌≤◌, ℕ, List, [], ◌∷◌, ◌++◌, length, Option, Some, None, Bool, true, false, refl, sym, ap, ◌∙◌, subst, arith}
use Rattle.std.specs.Prelude.{slice_get, IsSomeAnd, ◌||◌, ◌&&◌, if◌then◌else◌}
use Rattle.std.specs.List.{AllByRecursion, list_any}
use Rattle.std.proofs.lemmas.List.{length-set}
use Rattle.cap_lin.specs.Linear.{Linear, plus, minus, IsBelow}
use Rattle.cap_lin.specs.Rows.{row_of}
use Rattle.cap_lin.specs.declared.row.Row.{Row}
use Rattle.cap_lin.specs.declared.row.Sort.TheVariants.{Int, Perm}
use Rattle.cap_lin.specs.declared.row.Op.TheVariants.{Eq as Equal, Ne as Unequal, Le as AtMost, Gt as Greater, Ge as AtLeast}
use Rattle.cap_galg.specs.Algebras.{PlainAlgebra, divisible, counting, atom_algebra}
use Rattle.cap_gsolve.specs.declared.piece.Form.{Form}
use Rattle.cap_gsolve.specs.declared.piece.Form.TheVariants.{One, Share, Src, Tok, Span}
use Rattle.cap_gsolve.specs.declared.piece.Piece.{Piece}
use Rattle.cap_gsolve.specs.Pieces.{same_part, joins, is_joined, has_indices, is_single}
use Rattle.cap_gsolve.specs.Merge.{zero_term, one_term, false_row, added_rows, combined, combined_rows, lone_rows, parted_rows, beside, place, there, met_rows, clashes, clash_rows, merged_at, merged, merge_rows, merge_steps}
use Rattle.cap_gsolve.specs.Meaning.{Takes, Fits}
use Rattle.cap_gsolve.proofs.Held.{as_one, merged-same, merged-other, there-same, there-other, IsPart, part-is, joined-part, joined-form}
use Rattle.cap_prog.specs.Program.{PlainRegionType, PlainProgram}
use Rattle.cap_goal_spec.specs.States.{PlainState, longest_list}
use Rattle.cap_goal_spec.specs.Fits.{FormIsBelow, PieceFits, AreParted, StateFits}
use Rattle.cap_rules.specs.Attempts.{Attempt, ◌>>=◌, computed, found}
use Rattle.cap_rules.specs.Making.{guards_with, with_rows, with_piece, with_pieces}
use Rattle.cap_rules_ascending.proofs.Lists.{IfSome, all-join}
use Rattle.cap_rules_fits.proofs.Values.{plus-is-below, minus-is-below, row-is-below}
use Rattle.cap_rules_fits.proofs.Growing.{RowsBelow, with-guards-fit, wider-piece, envs-same, Next, here}
use Rattle.cap_rules_fits.proofs.Makings.{count, zero-below, one-below, with-rows-next, on}
use Rattle.cap_rules_fits.proofs.Reaching.{Reaches, chain, at, at-computed, any, Longer, one-more}

-- ---- forms

pub combined-below : (n : ℕ) (f g : Form) → FormIsBelow n f → FormIsBelow n g → FormIsBelow n (combined f g)
combined-below n (Share a) (Share b) h k = plus-is-below n a b h k
combined-below n (Src a) (Tok b) h g = minus-is-below n a b h g
combined-below n (Tok b) (Src a) h g = minus-is-below n a b g h
combined-below n (Tok a) (Tok b) h g = plus-is-below n a b h g
combined-below n f g h k = h

pub like-share : (a : PlainAlgebra) (s t : Linear) → Takes a (Share s) → Takes a (Share t)
like-share divisible s t h = tt
like-share a s t h = absurd h

pub like-source : (a : PlainAlgebra) (s t : Linear) → Takes a (Src s) → Takes a (Src t)
like-source counting s t h = tt
like-source a s t h = absurd h

pub like-tokens : (a : PlainAlgebra) (s t : Linear) → Takes a (Tok s) → Takes a (Tok t)
like-tokens counting s t h = tt
like-tokens a s t h = absurd h

pub tokens-of-source : (a : PlainAlgebra) (s t : Linear) → Takes a (Src s) → Takes a (Tok t)
tokens-of-source counting s t h = tt
tokens-of-source a s t h = absurd h

-- a guard that takes both takes what they combine to
combined-takes : (a : PlainAlgebra) (f g : Form) → Takes a f → Takes a g → Takes a (combined f g)
combined-takes a (Share s) (Share t) h k = like-share a s (plus s t) h
combined-takes a (Src s) (Tok t) h k = like-source a s (minus s t) h
combined-takes a (Tok t) (Src s) h k = like-source a s (minus s t) k
combined-takes a (Tok s) (Tok t) h k = like-tokens a s (plus s t) h
combined-takes a f g h k = h

-- ---- the rows that then hold

added-below : (n : ℕ) (f : Form) → FormIsBelow n f → RowsBelow n (added_rows f)
added-below n One h = tt
added-below n (Share a) h = (row-is-below n a Greater zero_term Perm h (zero-below n), tt)
added-below n (Src a) h = (row-is-below n a AtLeast zero_term Int h (zero-below n), tt)
added-below n (Tok a) h = (row-is-below n a AtLeast zero_term Int h (zero-below n), tt)
added-below n (Span a None) h = (row-is-below n a AtLeast zero_term Int h (zero-below n), tt)
added-below n (Span a (Some e)) h = (row-is-below n a AtLeast zero_term Int h.0 (zero-below n), (row-is-below n a AtMost e Int h.0 h.1, tt))

false-below : (n : ℕ) → IsBelow n false_row.term
false-below n = row-is-below n zero_term Equal one_term Int (zero-below n) (one-below n)

lone-below : (n : ℕ) (f : Form) → FormIsBelow n f → RowsBelow n (lone_rows f)
lone-below n One h = tt
lone-below n (Share a) h = (row-is-below n a AtMost one_term Perm h (one-below n), tt)
lone-below n (Src a) h = tt
lone-below n (Tok a) h = tt
lone-below n (Span a e) h = tt

combined-rows-below : (n : ℕ) (f g : Form) → FormIsBelow n f → FormIsBelow n g → RowsBelow n (combined_rows f g)
combined-rows-below n (Share a) (Share b) h k = (row-is-below n (plus a b) AtMost one_term Perm (plus-is-below n a b h k) (one-below n), tt)
combined-rows-below n (Src a) (Tok b) h g = (row-is-below n b AtMost a Int g h, tt)
combined-rows-below n (Tok b) (Src a) h g = (row-is-below n b AtMost a Int h g, tt)
combined-rows-below n (Tok a) (Tok b) h g = tt
combined-rows-below n f g h k = (false-below n, tt)

met-below : (n : ℕ) (o : Option Form) (f : Form) → IfSome (FormIsBelow n) o → FormIsBelow n f → RowsBelow n (met_rows o f)
met-below n None f h k = lone-below n f k
met-below n (Some g) f h k = combined-rows-below n g f h k

clash-below : (n : ℕ) (b : Bool) → RowsBelow n (clash_rows b)
clash-below n true = (false-below n, tt)
clash-below n false = tt

rows-if : (n : ℕ) (b : Bool) (rows : List Row) → RowsBelow n rows → RowsBelow n (if b then rows else [])
rows-if n true rows h = h
rows-if n false rows h = tt

parted-below : (n : ℕ) (f g : Form) → FormIsBelow n f → FormIsBelow n g → RowsBelow n (parted_rows f g)
parted-below n (Span a None) (Span b None) h k = (false-below n, tt)
parted-below n (Span a None) (Span b (Some d)) h k = rows-if n (has_indices b (Some d)) (row_of d AtMost a Int ∷ []) (row-is-below n d AtMost a Int k.1 h, tt)
parted-below n (Span a (Some e)) (Span b None) h k = rows-if n (has_indices a (Some e)) (row_of e AtMost b Int ∷ []) (row-is-below n e AtMost b Int h.1 k, tt)
parted-below n (Span a (Some e)) (Span b (Some d)) h k = rows-if n (is_single a (Some e) && is_single b (Some d)) (row_of a Unequal b Int ∷ []) (row-is-below n a Unequal b Int h.0 k.0, tt)
parted-below n f g h k = tt

beside-below : (p : PlainProgram) (n : ℕ) (ps : List Piece) (q : Piece) → AllByRecursion (PieceFits p n) ps → FormIsBelow n q.form → RowsBelow n (beside parted_rows ps q)
beside-below p n [] q h k = tt
beside-below p n (x ∷ ps) q h k = all-join _ (if same_part x q then parted_rows x.form q.form else []) (beside parted_rows ps q) (rows-if n (same_part x q) (parted_rows x.form q.form) (parted-below n x.form q.form h.0.form k)) (beside-below p n ps q h.1 k)

-- ---- a piece more

there-below : (p : PlainProgram) (n : ℕ) (ps : List Piece) (q : Piece) → AllByRecursion (PieceFits p n) ps → IfSome (FormIsBelow n) (there ps q)
there-below p n [] q h = tt
there-below p n (x ∷ ps) q h = by_test (joins x q) refl (there-below p n ps q h.1)
  where
    more : (o o' : Option Form) → o ≡ o' → IfSome (FormIsBelow n) o' → IfSome (FormIsBelow n) o
    more o o' e k = subst (IfSome (FormIsBelow n)) (sym e) k

    by_test : (b : Bool) → joins x q ≡ b → IfSome (FormIsBelow n) (there ps q) → IfSome (FormIsBelow n) (there (x ∷ ps) q)
    by_test true e r = more (there (x ∷ ps) q) (Some x.form) (there-same x ps q e) h.0.form
    by_test false e r = more (there (x ∷ ps) q) (there ps q) (there-other x ps q e) r

merge-below : (p : PlainProgram) (n : ℕ) (a : PlainAlgebra) (ps : List Piece) (q : Piece) → AllByRecursion (PieceFits p n) ps → FormIsBelow n q.form → RowsBelow n (merge_rows a ps q)
unfolding merge_rows
merge-below p n a ps q h k = all-join _ (added_rows q.form) (met_rows (there ps q) q.form ++ (beside parted_rows ps q ++ clash_rows (clashes a ps q.region q.kind q.atom q.form))) (added-below n q.form k) (all-join _ (met_rows (there ps q) q.form) (beside parted_rows ps q ++ clash_rows (clashes a ps q.region q.kind q.atom q.form)) (met-below n (there ps q) q.form (there-below p n ps q h) k) (all-join _ (beside parted_rows ps q) (clash_rows (clashes a ps q.region q.kind q.atom q.form)) (beside-below p n ps q h k) (clash-below n _)))

-- what fits the region type of one fits that of the other
one-fits : (p : PlainProgram) (n : ℕ) (x q : Piece) → IsPart x q → PieceFits p n x → PieceFits p n q → PieceFits p n (as_one x q)
one-fits p n x q e h k = record {
  region = k.region;
  form = combined-below n x.form q.form h.form k.form;
  atom = both (slice_get p.regions q.kind) (subst (λ i. IsSomeAnd (slice_get p.regions i) (λ y. Fits y.algebra x)) e.kind h.atom) k.atom;
}
  where
    fits : (a : PlainAlgebra) → Fits a x → Fits a q → Fits a (as_one x q)
    fits a f g = (g.0, combined-takes (atom_algebra a q.atom) x.form q.form (subst (λ i. Takes (atom_algebra a i) x.form) e.atom f.1) g.1)

    both : (o : Option PlainRegionType) → IsSomeAnd o (λ y. Fits y.algebra x) → IsSomeAnd o (λ y. Fits y.algebra q) → IsSomeAnd o (λ y. Fits y.algebra (as_one x q))
    both None f g = f
    both (Some y) f g = fits y.algebra f g

merged-fit : (p : PlainProgram) (n : ℕ) (ps : List Piece) (q : Piece) → AllByRecursion (PieceFits p n) ps → PieceFits p n q → AllByRecursion (PieceFits p n) (merged ps q)
merged-fit p n [] q h k = (k, tt)
merged-fit p n (x ∷ ps) q h k = by_test (joins x q) refl (merged-fit p n ps q h.1 k)
  where
    more : (xs ys : List Piece) → xs ≡ ys → AllByRecursion (PieceFits p n) ys → AllByRecursion (PieceFits p n) xs
    more xs ys e g = subst (AllByRecursion (PieceFits p n)) (sym e) g

    by_test : (b : Bool) → joins x q ≡ b → AllByRecursion (PieceFits p n) (merged ps q) → AllByRecursion (PieceFits p n) (merged (x ∷ ps) q)
    by_test true e r = more (merged (x ∷ ps) q) (as_one x q ∷ ps) (merged-same x ps q e) (one-fits p n x q (part-is x q (joined-part x q e)) h.0 k, h.1)
    by_test false e r = more (merged (x ∷ ps) q) (x ∷ merged ps q) (merged-other x ps q e) (h.0, r)

-- no piece of the part of x is there, nor comes
none-merged : (x : Piece) (ps : List Piece) (q : Piece) → list_any (joins x) ps ≡ false → joins x q ≡ false → list_any (joins x) (merged ps q) ≡ false
none-merged x [] q h k = rw k refl
none-merged x (y ∷ ps) q h k = by_test (joins y q) refl (none-merged x ps q (second (joins x y) (list_any (joins x) ps) h) k)
  where
    first : (a b : Bool) → (a || b) ≡ false → a ≡ false
    first true b e = e
    first false b e = refl

    second : (a b : Bool) → (a || b) ≡ false → b ≡ false
    second true b e = absurd cc
    second false b e = e

    neither : (a b : Bool) → a ≡ false → b ≡ false → (a || b) ≡ false
    neither a b e f = rw (e, f) refl

    -- what joins nothing is of another part, since what becomes one with y may become one with its part
    other : (a b c : Bool) → b ≡ true → (a && b) ≡ false → (a && c) ≡ false
    other true b c e f = absurd cc
    other false b c e f = refl

    not-one : joins y q ≡ true → joins x (as_one y q) ≡ false
    not-one e = other (same_part x q) (is_joined q.form) (is_joined (as_one y q).form) (joined-form y q e) k

    by_test : (b : Bool) → joins y q ≡ b → list_any (joins x) (merged ps q) ≡ false → list_any (joins x) (merged (y ∷ ps) q) ≡ false
    by_test true e r = ap (list_any (joins x)) (merged-same y ps q e) ∙ neither (joins x (as_one y q)) (list_any (joins x) ps) (not-one e) (second (joins x y) (list_any (joins x) ps) h)
    by_test false e r = ap (list_any (joins x)) (merged-other y ps q e) ∙ neither (joins x y) (list_any (joins x) (merged ps q)) (first (joins x y) (list_any (joins x) ps) h) r

pub merged-parted : (ps : List Piece) (q : Piece) → AreParted ps → AreParted (merged ps q)
merged-parted [] q h = (refl, tt)
merged-parted (x ∷ ps) q h = by_test (joins x q) refl (merged-parted ps q h.1)
  where
    alike : IsPart x q → list_any (joins x) ps ≡ false → list_any (joins (as_one x q)) ps ≡ false
    alike e f = rw (sym e.region, sym e.kind, sym e.atom) f

    by_test : (b : Bool) → joins x q ≡ b → AreParted (merged ps q) → AreParted (merged (x ∷ ps) q)
    by_test true e r = subst AreParted (sym (merged-same x ps q e)) (alike (part-is x q (joined-part x q e)) h.0, h.1)
    by_test false e r = subst AreParted (sym (merged-other x ps q e)) (none-merged x ps q h.0 e, r)

-- ---- in a state

guards-with : (ps : List Piece) (q : Piece) (o : Option ℕ) → length ps ≤ longest_list → Reaches (λ gs. (gs ≡ merged_at ps q o) × (length gs ≤ longest_list)) (guards_with ps q o)
guards-with ps q None l = fewer (one-more ps q)
  where
    by : (v : Option (List Piece)) → IfSome (Longer ps q) v → IfSome (λ gs. (gs ≡ ps ++ q ∷ []) × (length gs ≤ longest_list)) v
    by None h = tt
    by (Some gs) h = (h.same, h.room)

    fewer : {o : Attempt (List Piece)} → Reaches (Longer ps q) o → Reaches (λ gs. (gs ≡ ps ++ q ∷ []) × (length gs ≤ longest_list)) o
    fewer {o = o} h = record { value = by o.value h.value }
guards-with ps q (Some i) l = record { value = (refl, subst (λ n. n ≤ longest_list) (sym (length-set ps i _)) l) }

pub with-piece-fits : (p : PlainProgram) (s : PlainState) (q : Piece) → StateFits p s → PieceFits p (count s) q → Reaches (Next p s) (with_piece p s q)
with-piece-fits p s q h k =
    chain _ _ (any (found (slice_get p.regions q.kind)))
    (λ y i. chain (computed (merge_rows y.algebra s.guards q) (merge_steps y.algebra s.guards q)) (λ rows. guards_with s.guards q (place s.guards q) >>= λ guards. with_rows (record s { guards = guards }) rows) (at-computed (RowsBelow (count s)) (merge_rows y.algebra s.guards q) (merge_steps y.algebra s.guards q) (merge-below p (count s) y.algebra s.guards q h.guards k.form))
    (λ rows j. chain _ _ (guards-with s.guards q (place s.guards q) h.room.guards)
    (λ guards l.
    let next : Next p s (record s { guards = guards }) = record {
      fits = with-guards-fit p s guards h (record {
        each = subst (AllByRecursion (PieceFits p (count s))) (sym l.0) (merged-fit p (count s) s.guards q h.guards k);
        parted = subst AreParted (sym l.0) (merged-parted s.guards q h.guards_parted);
        room = l.1;
      });
      grows = record { sorts = omega arith; store = refl; envs = envs-same s.envs };
      opened = refl;
    } in
    on next (with-rows-next p (record s { guards = guards }) rows next.fits j))))

pub with-pieces-fit : (p : PlainProgram) (s : PlainState) (qs : List Piece) → StateFits p s → AllByRecursion (PieceFits p (count s)) qs → Reaches (Next p s) (with_pieces p s qs)
with-pieces-fit p s [] h k = at (Next p s) s (here p s h)
with-pieces-fit p s (q ∷ qs) h k = chain _ _ (with-piece-fits p s q h k.0) (λ t i. on i (with-pieces-fit p t qs i.fits (later-pieces t i qs k.1)))
  where
    later-pieces : (t : PlainState) → Next p s t → (qs : List Piece) → AllByRecursion (PieceFits p (count s)) qs → AllByRecursion (PieceFits p (count t)) qs
    later-pieces t i [] g = tt
    later-pieces t i (q ∷ qs) g = (wider-piece p (count s) (count t) q i.grows.sorts g.0, later-pieces t i qs g.1)
