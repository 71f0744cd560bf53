-- An assertion is given up: guards are taken out of pieces and converted, and regions are created.
use Rattle.std.specs.Prelude.{ℕ, zero, suc, ◌+◌, ◌-◌, nat_lt, Bool, true, false, not, ◌&&◌, if◌then◌else◌, List, [], ◌∷◌, ◌++◌, map, take, drop, find, length, Option, Some, None}
use Rattle.std.specs.List.{list_all, range_with_len}
use Rattle.cap_goal_spec.specs.cap_lin.Linear.{Linear}
use Rattle.cap_goal_spec.specs.cap_lin.declared.row.Row.{Row}
use Rattle.cap_goal_spec.specs.cap_lin.declared.row.Sort.TheVariants.{Int, Perm}
use Rattle.cap_goal_spec.specs.cap_lin.declared.row.Op.TheVariants.{Eq as Equal, Le as AtMost, Lt as Less, Gt as Greater}
use Rattle.cap_goal_spec.specs.cap_galg.Algebras.{PlainAlgebra, product, sum as either, atoms}
use Rattle.cap_goal_spec.specs.cap_gsolve.declared.piece.Form.{Form}
use Rattle.cap_goal_spec.specs.cap_gsolve.declared.piece.Form.TheVariants as form
use Rattle.cap_goal_spec.specs.cap_gsolve.declared.piece.Piece.{Piece}
use Rattle.cap_goal_spec.specs.cap_gsolve.Pieces.{piece, same_part, full_forms, full_pieces}
use Rattle.cap_goal_spec.specs.cap_prog.declared.assertion.Asked.{Asked}
use Rattle.cap_goal_spec.specs.cap_prog.declared.assertion.Asked.TheVariants.{One, Share, Src, Tok, At, From}
use Rattle.cap_goal_spec.specs.cap_prog.Program.{PlainCase, PlainRegionType, PlainProgram}
use Rattle.cap_goal_spec.specs.States.{PlainFact, PlainEnv, PlainState, longest_list}
use Rattle.cap_goal_spec.specs.Environments.{zero_value, one_value, Reading, settled, open_to, reading, bind_open, is_bound_by, unbound, region_env}
use Rattle.cap_rules.specs.Attempts.{Attempt, unit, ◌>>=◌, found, need, not_applicable, prove_that}
use Rattle.cap_rules.specs.Making.{sum, difference, value_by, fresh, with_sort, with_comparison, with_differing, with_env_at, without_first, with_pieces}

-- ---- taking a guard out of a piece

-- the environment, the state, and the forms that stay of the piece
pub record Cut : Type 0 where
  pub env : PlainEnv
  pub state : PlainState
  pub left : List Form

abbrev pub cut : PlainEnv → PlainState → List Form → Cut
cut env s left = record { env = env; state = s; left = left }

-- way 0 takes all of the piece, way 1 a part
abbrev pub cut_one : PlainState → PlainEnv → ℕ → Attempt Cut
cut_one s env zero = unit (cut env s [])
cut_one s env (suc way) = not_applicable

abbrev pub cut_share : PlainState → PlainEnv → Linear → ℕ → Reading → Attempt Cut
cut_share s env a zero (settled t) = do
  e ← value_by env t
  _ ← prove_that s.rows a Equal e Perm
  unit (cut env s [])
cut_share s env a (suc zero) (settled t) = do
  e ← value_by env t
  _ ← prove_that s.rows e Greater zero_value Perm
  _ ← prove_that s.rows e Less a Perm
  rest ← difference a e
  unit (cut env s (form.Share rest ∷ []))
cut_share s env a (suc zero) (open_to x) = do
  s' ← with_sort s Perm
  s'' ← with_comparison s' (fresh s) Greater zero_value Perm
  s''' ← with_comparison s'' (fresh s) Less a Perm
  rest ← difference a (fresh s)
  unit (cut (bind_open env x (fresh s)) s''' (form.Share rest ∷ []))
cut_share s env a way r = not_applicable

-- out of a source that has m tokens out
abbrev pub cut_source : PlainState → PlainEnv → Linear → ℕ → Reading → Attempt Cut
cut_source s env m zero (open_to x) = unit (cut (bind_open env x m) s [])
cut_source s env m zero (settled t) = do
  e ← value_by env t
  _ ← prove_that s.rows m Equal e Int
  unit (cut env s [])
cut_source s env m (suc zero) (settled t) = do
  e ← value_by env t
  _ ← prove_that s.rows m AtMost e Int
  rest ← difference e m
  unit (cut env s (form.Tok rest ∷ []))
cut_source s env m way r = not_applicable

-- out of m tokens
abbrev pub cut_tokens : PlainState → PlainEnv → Linear → ℕ → Reading → Attempt Cut
cut_tokens s env m zero (open_to x) = unit (cut (bind_open env x m) s [])
cut_tokens s env m zero (settled t) = do
  e ← value_by env t
  _ ← prove_that s.rows m Equal e Int
  unit (cut env s [])
cut_tokens s env m (suc zero) (settled t) = do
  e ← value_by env t
  _ ← prove_that s.rows zero_value AtMost e Int
  _ ← prove_that s.rows e AtMost m Int
  rest ← difference m e
  unit (cut env s (form.Tok rest ∷ []))
cut_tokens s env m way r = not_applicable

-- new tokens, out of a source that has m tokens out
abbrev pub cut_new_tokens : PlainState → PlainEnv → Linear → ℕ → Reading → Attempt Cut
cut_new_tokens s env m (suc zero) (settled t) = do
  e ← value_by env t
  _ ← prove_that s.rows zero_value AtMost e Int
  rest ← sum m e
  unit (cut env s (form.Src rest ∷ []))
cut_new_tokens s env m way r = not_applicable

-- a term is at most the end of a span, if that has one
abbrev pub prove_end : List Row → Option Linear → Linear → Attempt (Unit {0})
prove_end rows None next = unit tt
prove_end rows (Some e) next = prove_that rows next AtMost e Int

-- one index out of the indices from a on that are below an end: those before it and those behind it
-- stay
abbrev pub cut_index :
    PlainState → PlainEnv → Linear → Option Linear → ℕ → Reading → Attempt Cut
cut_index s env a (Some e) zero (settled t) = do
  i ← value_by env t
  _ ← prove_that s.rows a Equal i Int
  next ← sum i one_value
  _ ← prove_that s.rows e Equal next Int
  unit (cut env s [])
cut_index s env a e (suc zero) (settled t) = do
  i ← value_by env t
  _ ← prove_that s.rows a AtMost i Int
  next ← sum i one_value
  _ ← prove_end s.rows e next
  _ ← need (nat_lt (length s.guards) longest_list)
  unit (cut env s (form.Span a (Some i) ∷ form.Span next e ∷ []))
cut_index s env a e (suc zero) (open_to x) = do
  next ← sum a one_value
  _ ← prove_end s.rows e next
  unit (cut (bind_open env x a) s (form.Span next e ∷ []))
cut_index s env a e way r = not_applicable

-- all indices from one on, out of all those from a on
abbrev pub cut_onwards : PlainState → PlainEnv → Linear → ℕ → Reading → Attempt Cut
cut_onwards s env a zero (open_to x) = unit (cut (bind_open env x a) s [])
cut_onwards s env a zero (settled t) = do
  i ← value_by env t
  _ ← prove_that s.rows a Equal i Int
  unit (cut env s [])
cut_onwards s env a (suc zero) (settled t) = do
  i ← value_by env t
  _ ← prove_that s.rows a AtMost i Int
  unit (cut env s (form.Span a (Some i) ∷ []))
cut_onwards s env a way r = not_applicable

abbrev pub cut_form : PlainState → PlainEnv → Asked → Form → ℕ → Attempt Cut
cut_form s env One form.One way = cut_one s env way
cut_form s env (Share x) (form.Share a) way = cut_share s env a way (reading env x)
cut_form s env (Src x) (form.Src m) way = cut_source s env m way (reading env x)
cut_form s env (Tok x) (form.Tok m) way = cut_tokens s env m way (reading env x)
cut_form s env (Tok x) (form.Src m) way = cut_new_tokens s env m way (reading env x)
cut_form s env (At x) (form.Span a e) way = cut_index s env a e way (reading env x)
cut_form s env (From x) (form.Span a None) way = cut_onwards s env a way (reading env x)
cut_form s env asked f way = not_applicable

abbrev pub with_form : Piece → Form → Piece
with_form q f = record q { form = f }

-- the state after the cut of piece q, number j, in environment number e
abbrev pub after_cut : ℕ → ℕ → Piece → Cut → PlainState
after_cut e j q c =
    with_env_at
    (record c.state {
      guards = take j c.state.guards ++
          (map (with_form q) c.left ++ drop (j + 1) c.state.guards);
    })
    e c.env

-- ---- converting

-- an algebra within another, with the number of its first atom
pub record Side : Type 0 where
  pub algebra : PlainAlgebra
  pub atom : ℕ

pub record Sides : Type 0 where
  pub left : Side
  pub right : Side

abbrev pub sides_of : PlainAlgebra → PlainAlgebra → ℕ → Sides
sides_of a b i = record {
  left = record { algebra = a; atom = i };
  right = record { algebra = b; atom = i + atoms a };
}

abbrev pub sum_count : PlainAlgebra → ℕ
sum_count (product a b) = sum_count a + sum_count b
sum_count (either a b) = suc (sum_count a + sum_count b)
sum_count a = 0

-- the sum of this number, in preorder, of an algebra whose first atom has number i
abbrev pub sum_in : PlainAlgebra → ℕ → ℕ → Option Sides
sum_in (product a b) i n =
    if nat_lt n (sum_count a) then sum_in a i n else sum_in b (i + atoms a) (n - sum_count a)
sum_in (either a b) i zero = Some (sides_of a b i)
sum_in (either a b) i (suc n) =
    if nat_lt n (sum_count a) then sum_in a i n else sum_in b (i + atoms a) (n - sum_count a)
sum_in a i n = None

-- side 0 is the left one
abbrev pub given_side : Sides → ℕ → Option Side
given_side x zero = Some x.left
given_side x (suc zero) = Some x.right
given_side x (suc (suc n)) = None

abbrev pub other_side : Sides → ℕ → Side
other_side x zero = x.right
other_side x (suc n) = x.left

abbrev pub side_pieces : Side → Linear → ℕ → List Piece
side_pieces x r k = map (λ p. piece r k p.0 p.1) (full_forms x.algebra x.atom)

-- whether a form is of indices below an end
abbrev pub has_end : Form → Bool
has_end (form.Span a (Some e)) = true
has_end f = false

abbrev pub prove_full : List Row → Form → Attempt (Unit {0})
prove_full rows form.One = unit tt
prove_full rows (form.Share a) = prove_that rows a Equal one_value Perm
prove_full rows (form.Src m) = prove_that rows m Equal zero_value Int
prove_full rows (form.Tok m) = not_applicable
prove_full rows (form.Span a None) = prove_that rows a Equal zero_value Int
prove_full rows (form.Span a (Some e)) = not_applicable

-- of the part of a full piece, and with no end
abbrev pub may_be_full : Piece → Piece → Bool
may_be_full full q = same_part q full && not (has_end q.form)

-- the pieces without these full ones, each of which is there and proved full
abbrev pub without_full : List Row → List Piece → List Piece → Attempt (List Piece)
without_full rows ps [] = unit ps
without_full rows ps (full ∷ more) = do
  q ← found (find (may_be_full full) ps)
  _ ← prove_full rows q.form
  without_full rows (without_first (may_be_full full) ps) more

-- ---- creating

-- the fresh region differs from each that is known, and its guards are all there
abbrev pub with_new_region : PlainProgram → PlainState → PlainRegionType → ℕ → Attempt PlainState
with_new_region p s y k = do
  s' ← with_sort s Int
  s'' ← with_differing s' (fresh s) (s.facts ++ s.opened)
  with_pieces p s'' (full_pieces y.algebra (fresh s) k)

-- ---- the environment of a case

-- each name of the case has a binding position
abbrev pub binds_all : PlainRegionType → PlainCase → Bool
binds_all k c = list_all (λ x. is_bound_by x c.items) (range_with_len k.params (length c.names))

-- names with a binding position are unbound, the others have this term
abbrev pub names_with : PlainRegionType → PlainCase → Linear → PlainEnv
names_with k c t =
    map (λ x. if is_bound_by x c.items then None else Some t)
    (range_with_len k.params (length c.names))

-- the other names' term is computed only where there is such a name
abbrev pub case_env : PlainRegionType → PlainCase → PlainFact → Attempt Linear → Attempt PlainEnv
case_env k c f other =
    if binds_all k c
    then unit (region_env f (unbound (length c.names)))
    else (other >>= λ t. unit (region_env f (names_with k c t)))
