-- An assertion is given up.
use Rattle.std.proofs.Common.{ℕ, zero, suc, ◌+◌, Bool, true, false, List, [], ◌∷◌, ◌++◌, map, drop, take, length, Option, Some, None}
use Rattle.std.specs.Prelude.{find, nat_lt, if◌then◌else◌}
use Rattle.std.specs.List.{AllByRecursion, range_with_len}
use Rattle.cap_lin.specs.Linear.{Linear}
use Rattle.cap_lin.specs.declared.row.Row.{Row}
use Rattle.cap_lin.specs.declared.row.Sort.TheVariants.{Int, Perm}
use Rattle.cap_lin.specs.declared.row.Op.TheVariants.{Eq as Equal, Le as AtMost, Lt as Less, Gt as Greater}
use Rattle.cap_galg.specs.Algebras.{PlainAlgebra, unique, divisible, counting, indexed, product, sum as either, atoms}
use Rattle.cap_gsolve.specs.declared.piece.Form.{Form}
use Rattle.cap_gsolve.specs.declared.piece.Form.TheVariants as form
use Rattle.cap_gsolve.specs.declared.piece.Piece.{Piece}
use Rattle.cap_gsolve.specs.Pieces.{piece, full_forms, full_pieces}
use Rattle.cap_prog.specs.declared.assertion.Asked.{Asked}
use Rattle.cap_prog.specs.declared.assertion.Asked.TheVariants.{One, Share, Src, Tok, At, From}
use Rattle.cap_prog.specs.Program.{PlainCase, PlainRegionType, PlainProgram}
use Rattle.cap_rules.specs.cap_goal_spec.States.{PlainFact, PlainEnv, PlainState, longest_list}
use Rattle.cap_rules.specs.cap_goal_spec.Environments.{zero_value, one_value, Reading, settled, open_to, reading, bind_open, is_bound_by, unbound, region_env}
use Rattle.cap_rules.specs.Attempts.{Attempt, unit, ◌>>=◌, found, need, prove_that}
use Rattle.cap_rules.specs.Making.{sum, difference, value_by, fresh, with_sort, with_comparison, with_differing, without_first, with_pieces}
use Rattle.cap_rules_ascending.specs.Ascending.{TermAscends, RowAscends, FormAscends, PieceAscends, FactAscends, NameAscends, EnvAscends, StateAscends}
use Rattle.cap_rules_ascending.proofs.Lists.{all-join, all-take, all-drop, all-find, all-map, all-any}
use Rattle.cap_rules_ascending.proofs.Terms.{bind-ascends, unbound-ascends, region-ascends}
use Rattle.cap_rules_ascending.proofs.Safe.{IsAny, Safe, chain, of-some, of-none, of-found, need-safe, if-safe, prove-that-safe}
use Rattle.cap_rules_ascending.proofs.Makings.{sum-safe, difference-safe, by-safe, fresh-ascends, with-sort-safe, with-comparison-safe, differing-safe, env-set-ascends, without-first-ascends, guards-ascend, with-pieces-safe}
use Rattle.cap_rules.specs.Taking.{Cut, cut, cut_one, cut_share, cut_source, cut_tokens, cut_new_tokens, prove_end, cut_index, cut_onwards, may_be_full, cut_form, with_form, after_cut, Side, side_pieces, prove_full, without_full, with_new_region, binds_all, names_with, case_env}

pub record CutAscends (c : Cut) : Type 0 where
  pub env : EnvAscends c.env
  pub state : StateAscends c.state
  pub left : AllByRecursion FormAscends c.left

of-cut : (env : PlainEnv) (s : PlainState) (left : List Form) → EnvAscends env → StateAscends s → AllByRecursion FormAscends left → Safe CutAscends (unit (cut env s left))
of-cut env s left h k g = of-some CutAscends (cut env s left) (record { env = h; state = k; left = g })

one-safe : (s : PlainState) (env : PlainEnv) (w : ℕ) → StateAscends s → EnvAscends env → Safe CutAscends (cut_one s env w)
one-safe s env zero h k = of-cut env s [] k h tt
one-safe s env (suc w) h k = of-none CutAscends

share-safe : (s : PlainState) (env : PlainEnv) (a : Linear) (w : ℕ) (r : Reading) → StateAscends s → EnvAscends env → TermAscends a → Safe CutAscends (cut_share s env a w r)
share-safe s env a zero (settled t) h k g =
    chain (value_by env t) (λ e. prove_that s.rows a Equal e Perm >>= λ u. unit (cut env s [])) (by-safe env t k)
    (λ e i. chain (prove_that s.rows a Equal e Perm) (λ u. unit (cut env s [])) (prove-that-safe s.rows a Equal e Perm h.rows g i) (λ u j. of-cut env s [] k h tt))
share-safe s env a (suc zero) (settled t) h k g =
    chain (value_by env t) (λ e. prove_that s.rows e Greater zero_value Perm >>= λ u. prove_that s.rows e Less a Perm >>= λ v. difference a e >>= λ rest. unit (cut env s (form.Share rest ∷ []))) (by-safe env t k)
    (λ e i. chain (prove_that s.rows e Greater zero_value Perm) (λ u. prove_that s.rows e Less a Perm >>= λ v. difference a e >>= λ rest. unit (cut env s (form.Share rest ∷ []))) (prove-that-safe s.rows e Greater zero_value Perm h.rows i tt)
    (λ u j. chain (prove_that s.rows e Less a Perm) (λ v. difference a e >>= λ rest. unit (cut env s (form.Share rest ∷ []))) (prove-that-safe s.rows e Less a Perm h.rows i g)
    (λ v l. chain (difference a e) (λ rest. unit (cut env s (form.Share rest ∷ []))) (difference-safe a e g i) (λ rest m. of-cut env s (form.Share rest ∷ []) k h (m, tt)))))
share-safe s env a (suc zero) (open_to x) h k g =
    chain (with_sort s Perm) (λ t. with_comparison t (fresh s) Greater zero_value Perm >>= λ u. with_comparison u (fresh s) Less a Perm >>= λ v. difference a (fresh s) >>= λ rest. unit (cut (bind_open env x (fresh s)) v (form.Share rest ∷ []))) (with-sort-safe s Perm h)
    (λ t i. chain (with_comparison t (fresh s) Greater zero_value Perm) (λ u. with_comparison u (fresh s) Less a Perm >>= λ v. difference a (fresh s) >>= λ rest. unit (cut (bind_open env x (fresh s)) v (form.Share rest ∷ []))) (with-comparison-safe t (fresh s) Greater zero_value Perm i (fresh-ascends s) tt)
    (λ u j. chain (with_comparison u (fresh s) Less a Perm) (λ v. difference a (fresh s) >>= λ rest. unit (cut (bind_open env x (fresh s)) v (form.Share rest ∷ []))) (with-comparison-safe u (fresh s) Less a Perm j (fresh-ascends s) g)
    (λ v l. chain (difference a (fresh s)) (λ rest. unit (cut (bind_open env x (fresh s)) v (form.Share rest ∷ []))) (difference-safe a (fresh s) g (fresh-ascends s)) (λ rest m. of-cut (bind_open env x (fresh s)) v (form.Share rest ∷ []) (bind-ascends env x (fresh s) k (fresh-ascends s)) l (m, tt)))))
share-safe s env a w r h k g = of-none CutAscends

source-safe : (s : PlainState) (env : PlainEnv) (m : Linear) (w : ℕ) (r : Reading) → StateAscends s → EnvAscends env → TermAscends m → Safe CutAscends (cut_source s env m w r)
source-safe s env m zero (open_to x) h k g = of-cut (bind_open env x m) s [] (bind-ascends env x m k g) h tt
source-safe s env m zero (settled t) h k g =
    chain (value_by env t) (λ e. prove_that s.rows m Equal e Int >>= λ u. unit (cut env s [])) (by-safe env t k)
    (λ e i. chain (prove_that s.rows m Equal e Int) (λ u. unit (cut env s [])) (prove-that-safe s.rows m Equal e Int h.rows g i) (λ u j. of-cut env s [] k h tt))
source-safe s env m (suc zero) (settled t) h k g =
    chain (value_by env t) (λ e. prove_that s.rows m AtMost e Int >>= λ u. difference e m >>= λ rest. unit (cut env s (form.Tok rest ∷ []))) (by-safe env t k)
    (λ e i. chain (prove_that s.rows m AtMost e Int) (λ u. difference e m >>= λ rest. unit (cut env s (form.Tok rest ∷ []))) (prove-that-safe s.rows m AtMost e Int h.rows g i)
    (λ u j. chain (difference e m) (λ rest. unit (cut env s (form.Tok rest ∷ []))) (difference-safe e m i g) (λ rest l. of-cut env s (form.Tok rest ∷ []) k h (l, tt))))
source-safe s env m w r h k g = of-none CutAscends

tokens-safe : (s : PlainState) (env : PlainEnv) (m : Linear) (w : ℕ) (r : Reading) → StateAscends s → EnvAscends env → TermAscends m → Safe CutAscends (cut_tokens s env m w r)
tokens-safe s env m zero (open_to x) h k g = of-cut (bind_open env x m) s [] (bind-ascends env x m k g) h tt
tokens-safe s env m zero (settled t) h k g =
    chain (value_by env t) (λ e. prove_that s.rows m Equal e Int >>= λ u. unit (cut env s [])) (by-safe env t k)
    (λ e i. chain (prove_that s.rows m Equal e Int) (λ u. unit (cut env s [])) (prove-that-safe s.rows m Equal e Int h.rows g i) (λ u j. of-cut env s [] k h tt))
tokens-safe s env m (suc zero) (settled t) h k g =
    chain (value_by env t) (λ e. prove_that s.rows zero_value AtMost e Int >>= λ u. prove_that s.rows e AtMost m Int >>= λ v. difference m e >>= λ rest. unit (cut env s (form.Tok rest ∷ []))) (by-safe env t k)
    (λ e i. chain (prove_that s.rows zero_value AtMost e Int) (λ u. prove_that s.rows e AtMost m Int >>= λ v. difference m e >>= λ rest. unit (cut env s (form.Tok rest ∷ []))) (prove-that-safe s.rows zero_value AtMost e Int h.rows tt i)
    (λ u j. chain (prove_that s.rows e AtMost m Int) (λ v. difference m e >>= λ rest. unit (cut env s (form.Tok rest ∷ []))) (prove-that-safe s.rows e AtMost m Int h.rows i g)
    (λ v l. chain (difference m e) (λ rest. unit (cut env s (form.Tok rest ∷ []))) (difference-safe m e g i) (λ rest o. of-cut env s (form.Tok rest ∷ []) k h (o, tt)))))
tokens-safe s env m w r h k g = of-none CutAscends

new-tokens-safe : (s : PlainState) (env : PlainEnv) (m : Linear) (w : ℕ) (r : Reading) → StateAscends s → EnvAscends env → TermAscends m → Safe CutAscends (cut_new_tokens s env m w r)
new-tokens-safe s env m (suc zero) (settled t) h k g =
    chain (value_by env t) (λ e. prove_that s.rows zero_value AtMost e Int >>= λ u. sum m e >>= λ rest. unit (cut env s (form.Src rest ∷ []))) (by-safe env t k)
    (λ e i. chain (prove_that s.rows zero_value AtMost e Int) (λ u. sum m e >>= λ rest. unit (cut env s (form.Src rest ∷ []))) (prove-that-safe s.rows zero_value AtMost e Int h.rows tt i)
    (λ u j. chain (sum m e) (λ rest. unit (cut env s (form.Src rest ∷ []))) (sum-safe m e g i) (λ rest l. of-cut env s (form.Src rest ∷ []) k h (l, tt))))
new-tokens-safe s env m w r h k g = of-none CutAscends

end-safe : (rows : List Row) (o : Option Linear) (next : Linear) → AllByRecursion RowAscends rows → NameAscends o → TermAscends next → Safe IsAny (prove_end rows o next)
end-safe rows None next h k g = of-some IsAny tt tt
end-safe rows (Some e) next h k g = prove-that-safe rows next AtMost e Int h g k

index-safe : (s : PlainState) (env : PlainEnv) (a : Linear) (o : Option Linear) (w : ℕ) (r : Reading) → StateAscends s → EnvAscends env → TermAscends a → NameAscends o → Safe CutAscends (cut_index s env a o w r)
index-safe s env a (Some e) zero (settled t) h k g d =
    chain (value_by env t) (λ i. prove_that s.rows a Equal i Int >>= λ u. sum i one_value >>= λ next. prove_that s.rows e Equal next Int >>= λ v. unit (cut env s [])) (by-safe env t k)
    (λ i j. chain (prove_that s.rows a Equal i Int) (λ u. sum i one_value >>= λ next. prove_that s.rows e Equal next Int >>= λ v. unit (cut env s [])) (prove-that-safe s.rows a Equal i Int h.rows g j)
    (λ u l. chain (sum i one_value) (λ next. prove_that s.rows e Equal next Int >>= λ v. unit (cut env s [])) (sum-safe i one_value j tt)
    (λ next m. chain (prove_that s.rows e Equal next Int) (λ v. unit (cut env s [])) (prove-that-safe s.rows e Equal next Int h.rows d m) (λ v n. of-cut env s [] k h tt))))
index-safe s env a o (suc zero) (settled t) h k g d =
    chain (value_by env t) (λ i. prove_that s.rows a AtMost i Int >>= λ u. sum i one_value >>= λ next. prove_end s.rows o next >>= λ v. need (nat_lt (length s.guards) longest_list) >>= λ w. unit (cut env s (form.Span a (Some i) ∷ form.Span next o ∷ []))) (by-safe env t k)
    (λ i j. chain (prove_that s.rows a AtMost i Int) (λ u. sum i one_value >>= λ next. prove_end s.rows o next >>= λ v. need (nat_lt (length s.guards) longest_list) >>= λ w. unit (cut env s (form.Span a (Some i) ∷ form.Span next o ∷ []))) (prove-that-safe s.rows a AtMost i Int h.rows g j)
    (λ u l. chain (sum i one_value) (λ next. prove_end s.rows o next >>= λ v. need (nat_lt (length s.guards) longest_list) >>= λ w. unit (cut env s (form.Span a (Some i) ∷ form.Span next o ∷ []))) (sum-safe i one_value j tt)
    (λ next m. chain (prove_end s.rows o next) (λ v. need (nat_lt (length s.guards) longest_list) >>= λ w. unit (cut env s (form.Span a (Some i) ∷ form.Span next o ∷ []))) (end-safe s.rows o next h.rows d m)
    (λ v n. chain (need (nat_lt (length s.guards) longest_list)) (λ w. unit (cut env s (form.Span a (Some i) ∷ form.Span next o ∷ []))) (need-safe (nat_lt (length s.guards) longest_list)) (λ w z. of-cut env s (form.Span a (Some i) ∷ form.Span next o ∷ []) k h ((g, j), ((m, d), tt)))))))
index-safe s env a o (suc zero) (open_to x) h k g d =
    chain (sum a one_value) (λ next. prove_end s.rows o next >>= λ v. unit (cut (bind_open env x a) s (form.Span next o ∷ []))) (sum-safe a one_value g tt)
    (λ next m. chain (prove_end s.rows o next) (λ v. unit (cut (bind_open env x a) s (form.Span next o ∷ []))) (end-safe s.rows o next h.rows d m) (λ v n. of-cut (bind_open env x a) s (form.Span next o ∷ []) (bind-ascends env x a k g) h ((m, d), tt)))
index-safe s env a o w r h k g d = of-none CutAscends

onwards-safe : (s : PlainState) (env : PlainEnv) (a : Linear) (w : ℕ) (r : Reading) → StateAscends s → EnvAscends env → TermAscends a → Safe CutAscends (cut_onwards s env a w r)
onwards-safe s env a zero (open_to x) h k g = of-cut (bind_open env x a) s [] (bind-ascends env x a k g) h tt
onwards-safe s env a zero (settled t) h k g =
    chain (value_by env t) (λ i. prove_that s.rows a Equal i Int >>= λ u. unit (cut env s [])) (by-safe env t k)
    (λ i j. chain (prove_that s.rows a Equal i Int) (λ u. unit (cut env s [])) (prove-that-safe s.rows a Equal i Int h.rows g j) (λ u l. of-cut env s [] k h tt))
onwards-safe s env a (suc zero) (settled t) h k g =
    chain (value_by env t) (λ i. prove_that s.rows a AtMost i Int >>= λ u. unit (cut env s (form.Span a (Some i) ∷ []))) (by-safe env t k)
    (λ i j. chain (prove_that s.rows a AtMost i Int) (λ u. unit (cut env s (form.Span a (Some i) ∷ []))) (prove-that-safe s.rows a AtMost i Int h.rows g j) (λ u l. of-cut env s (form.Span a (Some i) ∷ []) k h ((g, j), tt)))
onwards-safe s env a w r h k g = of-none CutAscends

pub cut-form-safe : (s : PlainState) (env : PlainEnv) (x : Asked) (f : Form) (w : ℕ) → StateAscends s → EnvAscends env → FormAscends f → Safe CutAscends (cut_form s env x f w)
cut-form-safe s env One form.One w h k g = one-safe s env w h k
cut-form-safe s env (Share x) (form.Share a) w h k g = share-safe s env a w (reading env x) h k g
cut-form-safe s env (Src x) (form.Src m) w h k g = source-safe s env m w (reading env x) h k g
cut-form-safe s env (Tok x) (form.Tok m) w h k g = tokens-safe s env m w (reading env x) h k g
cut-form-safe s env (Tok x) (form.Src m) w h k g = new-tokens-safe s env m w (reading env x) h k g
cut-form-safe s env (At x) (form.Span a o) w h k g = index-safe s env a o w (reading env x) h k g.0 g.1
cut-form-safe s env (From x) (form.Span a None) w h k g = onwards-safe s env a w (reading env x) h k g.0
cut-form-safe s env x f w h k g = of-none CutAscends

pub after-cut-ascends : (e j : ℕ) (q : Piece) (c : Cut) → PieceAscends q → CutAscends c → StateAscends (after_cut e j q c)
after-cut-ascends e j q c h k =
    let guards = take j c.state.guards ++ (map (with_form q) c.left ++ drop (j + 1) c.state.guards) in
    let g = all-join PieceAscends (take j c.state.guards) (map (with_form q) c.left ++ drop (j + 1) c.state.guards) (all-take PieceAscends j c.state.guards k.state.guards) (all-join PieceAscends (map (with_form q) c.left) (drop (j + 1) c.state.guards) (all-map FormAscends PieceAscends (with_form q) (λ f i. record { region = h.region; form = i }) c.left k.left) (all-drop PieceAscends (j + 1) c.state.guards k.state.guards)) in
    env-set-ascends (record c.state { guards = guards }) e c.env (guards-ascend c.state guards k.state g) k.env

-- ---- converting
full-forms-ascend : (a : PlainAlgebra) (i : ℕ) → AllByRecursion (λ x. FormAscends x.1) (full_forms a i)
full-forms-ascend unique i = (tt, tt)
full-forms-ascend divisible i = (tt, tt)
full-forms-ascend counting i = (tt, tt)
full-forms-ascend indexed i = ((tt, tt), tt)
full-forms-ascend (product a b) i = all-join (λ x. FormAscends x.1) (full_forms a i) (full_forms b (i + atoms a)) (full-forms-ascend a i) (full-forms-ascend b (i + atoms a))
full-forms-ascend (either a b) i = full-forms-ascend a i

pub side-ascends : (x : Side) (r : Linear) (k : ℕ) → TermAscends r → AllByRecursion PieceAscends (side_pieces x r k)
side-ascends x r k h = all-map (λ y. FormAscends y.1) PieceAscends (λ y. piece r k y.0 y.1) (λ y i. record { region = h; form = i }) (full_forms x.algebra x.atom) (full-forms-ascend x.algebra x.atom)

pub full-pieces-ascend : (a : PlainAlgebra) (r : Linear) (k : ℕ) → TermAscends r → AllByRecursion PieceAscends (full_pieces a r k)
full-pieces-ascend a r k h = all-map (λ y. FormAscends y.1) PieceAscends (λ y. piece r k y.0 y.1) (λ y i. record { region = h; form = i }) (full_forms a 0) (full-forms-ascend a 0)

prove-full-safe : (rows : List Row) (f : Form) → AllByRecursion RowAscends rows → FormAscends f → Safe IsAny (prove_full rows f)
prove-full-safe rows form.One h k = of-some IsAny tt tt
prove-full-safe rows (form.Share a) h k = prove-that-safe rows a Equal one_value Perm h k tt
prove-full-safe rows (form.Src m) h k = prove-that-safe rows m Equal zero_value Int h k tt
prove-full-safe rows (form.Tok m) h k = of-none IsAny
prove-full-safe rows (form.Span a None) h k = prove-that-safe rows a Equal zero_value Int h k.0 tt
prove-full-safe rows (form.Span a (Some e)) h k = of-none IsAny

pub without-full-safe : (rows : List Row) (ps fs : List Piece) → AllByRecursion RowAscends rows → AllByRecursion PieceAscends ps → Safe (AllByRecursion PieceAscends) (without_full rows ps fs)
without-full-safe rows ps [] h k = of-some (AllByRecursion PieceAscends) ps k
without-full-safe rows ps (f ∷ fs) h k =
    chain (found (find (may_be_full f) ps)) (λ q. prove_full rows q.form >>= λ u. without_full rows (without_first (may_be_full f) ps) fs) (of-found PieceAscends (find (may_be_full f) ps) (all-find PieceAscends (may_be_full f) ps k))
    (λ q i. chain (prove_full rows q.form) (λ u. without_full rows (without_first (may_be_full f) ps) fs) (prove-full-safe rows q.form h i.form)
    (λ u j. without-full-safe rows (without_first (may_be_full f) ps) fs h (without-first-ascends PieceAscends (may_be_full f) ps k)))

-- ---- creating
pub new-region-safe : (p : PlainProgram) (s : PlainState) (y : PlainRegionType) (k : ℕ) → StateAscends s → Safe StateAscends (with_new_region p s y k)
new-region-safe p s y k h =
    chain (with_sort s Int) (λ t. with_differing t (fresh s) (s.facts ++ s.opened) >>= λ u. with_pieces p u (full_pieces y.algebra (fresh s) k)) (with-sort-safe s Int h)
    (λ t i. chain (with_differing t (fresh s) (s.facts ++ s.opened)) (λ u. with_pieces p u (full_pieces y.algebra (fresh s) k)) (differing-safe t (fresh s) (s.facts ++ s.opened) i (fresh-ascends s) (all-join FactAscends s.facts s.opened h.facts h.opened))
    (λ u j. with-pieces-safe p u (full_pieces y.algebra (fresh s) k) j (full-pieces-ascend y.algebra (fresh s) k (fresh-ascends s))))

name-if : (b : Bool) (t : Linear) → TermAscends t → NameAscends (if b then None else Some t)
name-if true t h = tt
name-if false t h = h

names-with-ascend : (k : PlainRegionType) (c : PlainCase) (t : Linear) → TermAscends t → EnvAscends (names_with k c t)
names-with-ascend k c t h = all-map IsAny NameAscends (λ x. if is_bound_by x c.items then None else Some t) (λ x i. name-if (is_bound_by x c.items) t h) (range_with_len k.params (length c.names)) (all-any IsAny (λ x. tt) (range_with_len k.params (length c.names)))

pub case-env-safe : (k : PlainRegionType) (c : PlainCase) (f : PlainFact) (o : Attempt Linear) → FactAscends f → Safe TermAscends o → Safe EnvAscends (case_env k c f o)
case-env-safe k c f o h g = if-safe EnvAscends (binds_all k c) (unit (region_env f (unbound (length c.names)))) (o >>= λ t. unit (region_env f (names_with k c t))) (of-some EnvAscends (region_env f (unbound (length c.names))) (region-ascends f (unbound (length c.names)) h (unbound-ascends (length c.names)))) (chain o (λ t. unit (region_env f (names_with k c t))) g (λ t i. of-some EnvAscends (region_env f (names_with k c t)) (region-ascends f (names_with k c t) h (names-with-ascend k c t i))))
