-- What changes of variables and rows leave as it is.
use Rattle.std.proofs.Common.{◌≡◌, List, [], ◌∷◌, Option, Some, None, refl, ◌∙◌}
use Rattle.std.specs.Prelude.{slice_get}
use Rattle.cap_lin.specs.Linear.{Linear}
use Rattle.cap_lin.specs.declared.row.Row.{Row}
use Rattle.cap_lin.specs.declared.row.Sort.{Sort}
use Rattle.cap_lin.specs.declared.row.Sort.TheVariants.{Int}
use Rattle.cap_lin.specs.declared.row.Op.{Op}
use Rattle.cap_lin.specs.declared.row.Op.TheVariants.{Ne as Unequal}
use Rattle.cap_gsolve.specs.declared.piece.Piece.{Piece}
use Rattle.cap_gsolve.specs.Merge.{place, merge_rows, merge_steps}
use Rattle.cap_prog.specs.Program.{PlainProgram}
use Rattle.cap_goal_spec.specs.States.{PlainFact, PlainState}
use Rattle.cap_rules.specs.Attempts.{Attempt, ◌>>=◌, computed, found, comparison_row}
use Rattle.cap_rules.specs.Making.{with_sort, with_sorts, with_row, with_rows, with_comparison, with_differing, guards_with, with_piece, with_pieces}
use Rattle.cap_rules_ascending.proofs.Lists.{IfSome}
use Rattle.cap_rules_fits.proofs.Reaching.{Reaches, chain, at, any, one-more}

-- what is seen of a state, and depends on neither its variables nor its rows
pub record IsQuiet {X : Type 0} (seen : PlainState → X) : Type 0 where
  pub sorts : (s : PlainState) (sorts : List Sort) → seen (record s { sorts = sorts }) ≡ seen s
  pub rows : (s : PlainState) (rows : List Row) → seen (record s { rows = rows }) ≡ seen s

-- the same is seen of both
abbrev pub Alike : {X : Type 0} → (PlainState → X) → PlainState → PlainState → Type 0
Alike seen s t = seen t ≡ seen s

then : {X : Type 0} (seen : PlainState → X) (s t : PlainState) {o : Attempt PlainState} → Alike seen s t → Reaches (Alike seen t) o → Reaches (Alike seen s) o
then seen s t {o = o} h k = record { value = by o.value k.value }
  where
    by : (v : Option PlainState) → IfSome (Alike seen t) v → IfSome (Alike seen s) v
    by None i = tt
    by (Some u) i = i ∙ h

pub sort-alike : {X : Type 0} (seen : PlainState → X) (s : PlainState) (o : Sort) → IsQuiet seen → Reaches (Alike seen s) (with_sort s o)
sort-alike seen s o q = chain _ _ (one-more s.sorts o) (λ sorts i. at (Alike seen s) (record s { sorts = sorts }) (q.sorts s sorts))

pub sorts-alike : {X : Type 0} (seen : PlainState → X) (s : PlainState) (os : List Sort) → IsQuiet seen → Reaches (Alike seen s) (with_sorts s os)
sorts-alike seen s [] q = at (Alike seen s) s refl
sorts-alike seen s (o ∷ os) q = chain _ _ (sort-alike seen s o q) (λ t i. then seen s t i (sorts-alike seen t os q))

row-alike : {X : Type 0} (seen : PlainState → X) (s : PlainState) (r : Row) → IsQuiet seen → Reaches (Alike seen s) (with_row s r)
row-alike seen s r q = chain _ _ (one-more s.rows r) (λ rows i. at (Alike seen s) (record s { rows = rows }) (q.rows s rows))

pub rows-alike : {X : Type 0} (seen : PlainState → X) (s : PlainState) (rs : List Row) → IsQuiet seen → Reaches (Alike seen s) (with_rows s rs)
rows-alike seen s [] q = at (Alike seen s) s refl
rows-alike seen s (r ∷ rs) q = chain _ _ (row-alike seen s r q) (λ t i. then seen s t i (rows-alike seen t rs q))

pub comparison-alike : {X : Type 0} (seen : PlainState → X) (s : PlainState) (l : Linear) (op : Op) (r : Linear) (o : Sort) → IsQuiet seen → Reaches (Alike seen s) (with_comparison s l op r o)
comparison-alike seen s l op r o q = chain (comparison_row l op r o) (λ x. with_row s x) (any (comparison_row l op r o)) (λ x i. row-alike seen s x q)

pub differing-alike : {X : Type 0} (seen : PlainState → X) (s : PlainState) (t : Linear) (fs : List PlainFact) → IsQuiet seen → Reaches (Alike seen s) (with_differing s t fs)
differing-alike seen s t [] q = at (Alike seen s) s refl
differing-alike seen s t (f ∷ fs) q = chain _ _ (comparison-alike seen s t Unequal f.region Int q) (λ u i. then seen s u i (differing-alike seen u t fs q))

-- nor on its guards
piece-alike : {X : Type 0} (seen : PlainState → X) (p : PlainProgram) (s : PlainState) (x : Piece) → IsQuiet seen → ((t : PlainState) (guards : List Piece) → seen (record t { guards = guards }) ≡ seen t) → Reaches (Alike seen s) (with_piece p s x)
piece-alike seen p s x q g =
    chain _ _ (any (found (slice_get p.regions x.kind)))
    (λ y i. chain (computed (merge_rows y.algebra s.guards x) (merge_steps y.algebra s.guards x)) (λ rows. guards_with s.guards x (place s.guards x) >>= λ guards. with_rows (record s { guards = guards }) rows) (any (computed (merge_rows y.algebra s.guards x) (merge_steps y.algebra s.guards x)))
    (λ rows j. chain _ _ (any (guards_with s.guards x (place s.guards x)))
    (λ guards l. then seen s (record s { guards = guards }) (g s guards) (rows-alike seen (record s { guards = guards }) rows q))))

pub pieces-alike : {X : Type 0} (seen : PlainState → X) (p : PlainProgram) (s : PlainState) (xs : List Piece) → IsQuiet seen → ((t : PlainState) (guards : List Piece) → seen (record t { guards = guards }) ≡ seen t) → Reaches (Alike seen s) (with_pieces p s xs)
pieces-alike seen p s [] q g = at (Alike seen s) s refl
pieces-alike seen p s (x ∷ xs) q g = chain _ _ (piece-alike seen p s x q g) (λ t i. then seen s t i (pieces-alike seen p t xs q g))

-- ---- both of two facts

pub both : {A : Type 0} {P Q : A → Type 0} {o : Attempt A} → Reaches P o → Reaches Q o → Reaches (λ x. P x × Q x) o
both {A = A} {P = P} {Q = Q} {o = o} h k = record { value = by o.value h.value k.value }
  where
    by : (v : Option A) → IfSome P v → IfSome Q v → IfSome (λ x. P x × Q x) v
    by None i j = tt
    by (Some x) i j = (i, j)
