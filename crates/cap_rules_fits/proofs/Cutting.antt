-- Guards are taken out of pieces: what stays fits.
use Rattle.std.proofs.Common.{◌≡◌, ◌≤◌, ◌<◌, ℕ, pos, zero, suc, ◌+◌, ◌-◌, List, [], ◌∷◌, ◌++◌, length, map, take, drop, Option, Some, None, Bool, true, false, refl, sym, ap, ◌∙◌, subst, arith, length-append}
use Rattle.std.specs.Prelude.{slice_get, get_or, find, IsSomeAnd, nat_lt, if◌then◌else◌, ◌||◌, ◌&&◌}
use Rattle.std.specs.List.{AllByRecursion, list_any}
use Rattle.std.proofs.lemmas.Bool.Decides.{nat_tests}
use Rattle.std.proofs.lemmas.List.{length-map}
use Rattle.cap_lin.specs.Linear.{Linear, number, plus, minus, IsBelow}
use Rattle.cap_lin.specs.declared.row.Row.{Row}
use Rattle.cap_lin.specs.declared.row.Sort.TheVariants.{Int, Perm}
use Rattle.cap_lin.specs.declared.row.Op.TheVariants.{Eq as Equal, Le as AtMost, Lt as Less, Gt as Greater}
use Rattle.cap_galg.specs.Algebras.{PlainAlgebra, unique, divisible, counting, indexed, product, sum as either, atoms, atom_algebra}
use Rattle.cap_galg.specs.Laws.Atoms.{lt-true, lt-false}
use Rattle.cap_gsolve.specs.declared.piece.Form.{Form}
use Rattle.cap_gsolve.specs.declared.piece.Form.TheVariants as form
use Rattle.cap_gsolve.specs.declared.piece.Piece.{Piece}
use Rattle.cap_gsolve.specs.Pieces.{piece, same_part, joins, is_joined, full_forms}
use Rattle.cap_gsolve.specs.Meaning.{Takes, Fits}
use Rattle.cap_prog.specs.declared.assertion.Asked.{Asked}
use Rattle.cap_prog.specs.declared.assertion.Asked.TheVariants.{One, Share, Src, Tok, At, From}
use Rattle.cap_prog.specs.Program.{PlainRegionType, PlainProgram}
use Rattle.cap_goal_spec.specs.States.{PlainEnv, PlainState, longest_list}
use Rattle.cap_goal_spec.specs.Environments.{zero_value, one_value, Reading, settled, open_to, stuck, reading, bind_open}
use Rattle.cap_goal_spec.specs.Fits.{FormIsBelow, PieceFits, AreParted, StateFits}
use Rattle.cap_rules.specs.Attempts.{unit, ◌>>=◌, found, need, prove_that}
use Rattle.cap_rules.specs.Making.{sum, difference, value_by, fresh, without_first, env_at, with_env_at}
use Rattle.cap_rules.specs.Taking.{Cut, cut, cut_one, cut_share, cut_source, cut_tokens, cut_new_tokens, prove_end, cut_index, cut_onwards, may_be_full, cut_form, with_form, after_cut, Side, Sides, sum_count, sum_in, other_side, side_pieces, prove_full, without_full}
use Rattle.cap_rules_ascending.proofs.Lists.{IfSome, all-join, all-take, all-drop, all-map}
use Rattle.cap_rules_fits.proofs.Wider.{some-weaker}
use Rattle.cap_rules_fits.proofs.Below.{number-below}
use Rattle.cap_rules_fits.proofs.Values.{minus-is-below, plus-is-below, wider-env, EnvBelow, EnvKept, env-same, opened-to}
use Rattle.cap_rules_fits.proofs.Growing.{GuardsFit, with-guards-fit, wider-piece, Next, here, further}
use Rattle.cap_rules_fits.proofs.Makings.{count, zero-below, by-fits, with-sort-fits, fresh-below, later-term, with-comparison-fits, without-first-all, env-set-fits}
use Rattle.cap_rules_fits.proofs.Pieces.{like-share, like-source, like-tokens, tokens-of-source}
use Rattle.cap_rules_fits.proofs.Quiet.{IsQuiet, sort-alike, comparison-alike, both}
use Rattle.cap_rules_fits.proofs.Reaching.{Reaches, chain, at, nowhere, at-computed, any, needed}

-- ---- a cut

-- a form that stays of a piece
pub record Stays (n : ℕ) (f g : Form) : Type 0 where
  pub below : FormIsBelow n g
  pub takes : (a : PlainAlgebra) → Takes a f → Takes a g
  pub alike : is_joined f ≡ is_joined g

-- more than one form stays of a span alone
abbrev pub AreFew : Form → List Form → Type 0
AreFew f [] = Unit {0}
AreFew f (g ∷ []) = Unit {0}
AreFew f (g ∷ (h ∷ left)) = is_joined f ≡ false

pub record CutFits (p : PlainProgram) (s : PlainState) (env : PlainEnv) (f : Form) (c : Cut) : Type 0 where
  pub next : Next p s c.state
  pub names : EnvKept (count c.state) env c.env
  pub left : AllByRecursion (Stays (count c.state) f) c.left
  pub few : AreFew f c.left
  pub room : length s.guards + length c.left ≤ suc longest_list
  pub guards : c.state.guards ≡ s.guards
  pub envs : c.state.envs ≡ s.envs

few-forms : (f : Form) (left : List Form) → length left ≤ 1 → AreFew f left
few-forms f [] l = tt
few-forms f (g ∷ []) l = tt
few-forms f (g ∷ (h ∷ left)) l = absurd (let k : suc (suc (length left)) ≤ 1 = l in omega arith)

spans-few : (f : Form) (left : List Form) → is_joined f ≡ false → AreFew f left
spans-few f [] e = tt
spans-few f (g ∷ []) e = tt
spans-few f (g ∷ (h ∷ left)) e = e

few-room : (n l : ℕ) → n ≤ longest_list → l ≤ 1 → n + l ≤ suc longest_list
few-room n l h k = omega arith

-- the state is the same
same : (p : PlainProgram) (s : PlainState) (env new : PlainEnv) (f : Form) (left : List Form) → StateFits p s → EnvKept (count s) env new → AllByRecursion (Stays (count s) f) left → length left ≤ 1 → Reaches (CutFits p s env f) (unit (cut new s left))
same p s env new f left h k g l = at (CutFits p s env f) (cut new s left) (record { next = here p s h; names = k; left = g; few = few-forms f left l; room = few-room (length s.guards) (length left) h.room.guards l; guards = refl; envs = refl })

same-whole : (p : PlainProgram) (s : PlainState) (env new : PlainEnv) (f : Form) → StateFits p s → EnvKept (count s) env new → Reaches (CutFits p s env f) (unit (cut new s []))
same-whole p s env new f h k = same p s env new f [] h k tt (omega arith)

one-fits : (p : PlainProgram) (s : PlainState) (env : PlainEnv) (way : ℕ) → StateFits p s → EnvBelow (count s) env → Reaches (CutFits p s env form.One) (cut_one s env way)
one-fits p s env zero h e = same-whole p s env env form.One h (env-same (count s) env e)
one-fits p s env (suc way) h e = nowhere (CutFits p s env form.One)

quiet-guards : IsQuiet (λ (s : PlainState). s.guards)
quiet-guards = record { sorts = λ s x. refl; rows = λ s x. refl }

quiet-envs : IsQuiet (λ (s : PlainState). s.envs)
quiet-envs = record { sorts = λ s x. refl; rows = λ s x. refl }

share-fits : (p : PlainProgram) (s : PlainState) (env : PlainEnv) (a : Linear) (way : ℕ) (r : Reading) → StateFits p s → EnvBelow (count s) env → IsBelow (count s) a → Reaches (CutFits p s env (form.Share a)) (cut_share s env a way r)
share-fits p s env a zero (settled t) h e k = chain (value_by env t) (λ u. prove_that s.rows a Equal u Perm >>= λ x. unit (cut env s [])) (any (value_by env t)) (λ u i. chain (prove_that s.rows a Equal u Perm) (λ x. unit (cut env s [])) (any (prove_that s.rows a Equal u Perm)) (λ x j. same-whole p s env env (form.Share a) h (env-same (count s) env e)))
share-fits p s env a zero (open_to x) h e k = nowhere (CutFits p s env (form.Share a))
share-fits p s env a zero stuck h e k = nowhere (CutFits p s env (form.Share a))
share-fits p s env a (suc zero) (settled t) h e k =
    chain (value_by env t) (λ u. prove_that s.rows u Greater zero_value Perm >>= λ x. prove_that s.rows u Less a Perm >>= λ y. difference a u >>= λ rest. unit (cut env s (form.Share rest ∷ []))) (by-fits (count s) env t e)
    (λ u i. chain (prove_that s.rows u Greater zero_value Perm) (λ x. prove_that s.rows u Less a Perm >>= λ y. difference a u >>= λ rest. unit (cut env s (form.Share rest ∷ []))) (any (prove_that s.rows u Greater zero_value Perm))
    (λ x j. chain (prove_that s.rows u Less a Perm) (λ y. difference a u >>= λ rest. unit (cut env s (form.Share rest ∷ []))) (any (prove_that s.rows u Less a Perm))
    (λ y l. chain (difference a u) (λ rest. unit (cut env s (form.Share rest ∷ []))) (at-computed (IsBelow (count s)) (minus a u) _ (minus-is-below (count s) a u k i))
    (λ rest m. same p s env env (form.Share a) (form.Share rest ∷ []) h (env-same (count s) env e) (record { below = m; takes = λ g q. like-share g a rest q; alike = refl }, tt) (omega arith)))))
share-fits p s env a (suc zero) (open_to x) h e k =
    chain _ _ (both (with-sort-fits p s Perm h) (both (sort-alike (λ (s : PlainState). s.guards) s Perm quiet-guards) (sort-alike (λ (s : PlainState). s.envs) s Perm quiet-envs)))
    (λ t i. chain _ _ (both (with-comparison-fits p t (fresh s) Greater zero_value Perm i.0.next.fits (fresh-below p s t i.0) (zero-below (count t))) (both (comparison-alike (λ (s : PlainState). s.guards) t (fresh s) Greater zero_value Perm quiet-guards) (comparison-alike (λ (s : PlainState). s.envs) t (fresh s) Greater zero_value Perm quiet-envs)))
    (λ u j.
    let at-u = further p s t u i.0.next j.0 in
    let name = later-term p t u (fresh s) j.0 (fresh-below p s t i.0) in
    let amount = later-term p s u a at-u k in
    chain _ _ (both (with-comparison-fits p u (fresh s) Less a Perm j.0.fits name amount) (both (comparison-alike (λ (s : PlainState). s.guards) u (fresh s) Less a Perm quiet-guards) (comparison-alike (λ (s : PlainState). s.envs) u (fresh s) Less a Perm quiet-envs)))
    (λ v l.
    let at-v = further p s u v at-u l.0 in
    let named = later-term p u v (fresh s) l.0 name in
    let whole = later-term p u v a l.0 amount in
    chain (difference a (fresh s)) (λ rest. unit (cut (bind_open env x (fresh s)) v (form.Share rest ∷ []))) (at-computed (IsBelow (count v)) (minus a (fresh s)) _ (minus-is-below (count v) a (fresh s) whole named))
    (λ rest m. at (CutFits p s env (form.Share a)) (cut (bind_open env x (fresh s)) v (form.Share rest ∷ [])) (record {
      next = at-v;
      names = opened-to (count v) env x (fresh s) (wider-env (count s) (count v) env at-v.grows.sorts e) named;
      left = (record { below = m; takes = λ g q. like-share g a rest q; alike = refl }, tt);
      few = tt;
      room = few-room (length s.guards) 1 h.room.guards (omega arith);
      guards = l.1.0 ∙ (j.1.0 ∙ i.1.0);
      envs = l.1.1 ∙ (j.1.1 ∙ i.1.1);
    })))))
share-fits p s env a (suc zero) stuck h e k = nowhere (CutFits p s env (form.Share a))
share-fits p s env a (suc (suc way)) r h e k = nowhere (CutFits p s env (form.Share a))

source-fits : (p : PlainProgram) (s : PlainState) (env : PlainEnv) (m : Linear) (way : ℕ) (r : Reading) → StateFits p s → EnvBelow (count s) env → IsBelow (count s) m → Reaches (CutFits p s env (form.Src m)) (cut_source s env m way r)
source-fits p s env m zero (open_to x) h e k = same-whole p s env (bind_open env x m) (form.Src m) h (opened-to (count s) env x m e k)
source-fits p s env m zero (settled t) h e k = chain (value_by env t) (λ u. prove_that s.rows m Equal u Int >>= λ x. unit (cut env s [])) (any (value_by env t)) (λ u i. chain (prove_that s.rows m Equal u Int) (λ x. unit (cut env s [])) (any (prove_that s.rows m Equal u Int)) (λ x j. same-whole p s env env (form.Src m) h (env-same (count s) env e)))
source-fits p s env m zero stuck h e k = nowhere (CutFits p s env (form.Src m))
source-fits p s env m (suc zero) (settled t) h e k =
    chain (value_by env t) (λ u. prove_that s.rows m AtMost u Int >>= λ x. difference u m >>= λ rest. unit (cut env s (form.Tok rest ∷ []))) (by-fits (count s) env t e)
    (λ u i. chain (prove_that s.rows m AtMost u Int) (λ x. difference u m >>= λ rest. unit (cut env s (form.Tok rest ∷ []))) (any (prove_that s.rows m AtMost u Int))
    (λ x j. chain (difference u m) (λ rest. unit (cut env s (form.Tok rest ∷ []))) (at-computed (IsBelow (count s)) (minus u m) _ (minus-is-below (count s) u m i k))
    (λ rest l. same p s env env (form.Src m) (form.Tok rest ∷ []) h (env-same (count s) env e) (record { below = l; takes = λ g q. tokens-of-source g m rest q; alike = refl }, tt) (omega arith))))
source-fits p s env m (suc zero) (open_to x) h e k = nowhere (CutFits p s env (form.Src m))
source-fits p s env m (suc zero) stuck h e k = nowhere (CutFits p s env (form.Src m))
source-fits p s env m (suc (suc way)) r h e k = nowhere (CutFits p s env (form.Src m))

tokens-fit : (p : PlainProgram) (s : PlainState) (env : PlainEnv) (m : Linear) (way : ℕ) (r : Reading) → StateFits p s → EnvBelow (count s) env → IsBelow (count s) m → Reaches (CutFits p s env (form.Tok m)) (cut_tokens s env m way r)
tokens-fit p s env m zero (open_to x) h e k = same-whole p s env (bind_open env x m) (form.Tok m) h (opened-to (count s) env x m e k)
tokens-fit p s env m zero (settled t) h e k = chain (value_by env t) (λ u. prove_that s.rows m Equal u Int >>= λ x. unit (cut env s [])) (any (value_by env t)) (λ u i. chain (prove_that s.rows m Equal u Int) (λ x. unit (cut env s [])) (any (prove_that s.rows m Equal u Int)) (λ x j. same-whole p s env env (form.Tok m) h (env-same (count s) env e)))
tokens-fit p s env m zero stuck h e k = nowhere (CutFits p s env (form.Tok m))
tokens-fit p s env m (suc zero) (settled t) h e k =
    chain (value_by env t) (λ u. prove_that s.rows zero_value AtMost u Int >>= λ x. prove_that s.rows u AtMost m Int >>= λ y. difference m u >>= λ rest. unit (cut env s (form.Tok rest ∷ []))) (by-fits (count s) env t e)
    (λ u i. chain (prove_that s.rows zero_value AtMost u Int) (λ x. prove_that s.rows u AtMost m Int >>= λ y. difference m u >>= λ rest. unit (cut env s (form.Tok rest ∷ []))) (any (prove_that s.rows zero_value AtMost u Int))
    (λ x j. chain (prove_that s.rows u AtMost m Int) (λ y. difference m u >>= λ rest. unit (cut env s (form.Tok rest ∷ []))) (any (prove_that s.rows u AtMost m Int))
    (λ y l. chain (difference m u) (λ rest. unit (cut env s (form.Tok rest ∷ []))) (at-computed (IsBelow (count s)) (minus m u) _ (minus-is-below (count s) m u k i))
    (λ rest o. same p s env env (form.Tok m) (form.Tok rest ∷ []) h (env-same (count s) env e) (record { below = o; takes = λ g q. like-tokens g m rest q; alike = refl }, tt) (omega arith)))))
tokens-fit p s env m (suc zero) (open_to x) h e k = nowhere (CutFits p s env (form.Tok m))
tokens-fit p s env m (suc zero) stuck h e k = nowhere (CutFits p s env (form.Tok m))
tokens-fit p s env m (suc (suc way)) r h e k = nowhere (CutFits p s env (form.Tok m))

new-tokens-fit : (p : PlainProgram) (s : PlainState) (env : PlainEnv) (m : Linear) (way : ℕ) (r : Reading) → StateFits p s → EnvBelow (count s) env → IsBelow (count s) m → Reaches (CutFits p s env (form.Src m)) (cut_new_tokens s env m way r)
new-tokens-fit p s env m (suc zero) (settled t) h e k =
    chain (value_by env t) (λ u. prove_that s.rows zero_value AtMost u Int >>= λ x. sum m u >>= λ rest. unit (cut env s (form.Src rest ∷ []))) (by-fits (count s) env t e)
    (λ u i. chain (prove_that s.rows zero_value AtMost u Int) (λ x. sum m u >>= λ rest. unit (cut env s (form.Src rest ∷ []))) (any (prove_that s.rows zero_value AtMost u Int))
    (λ x j. chain (sum m u) (λ rest. unit (cut env s (form.Src rest ∷ []))) (at-computed (IsBelow (count s)) (plus m u) _ (plus-is-below (count s) m u k i))
    (λ rest l. same p s env env (form.Src m) (form.Src rest ∷ []) h (env-same (count s) env e) (record { below = l; takes = λ g q. like-source g m rest q; alike = refl }, tt) (omega arith))))
new-tokens-fit p s env m (suc zero) (open_to x) h e k = nowhere (CutFits p s env (form.Src m))
new-tokens-fit p s env m (suc zero) stuck h e k = nowhere (CutFits p s env (form.Src m))
new-tokens-fit p s env m zero r h e k = nowhere (CutFits p s env (form.Src m))
new-tokens-fit p s env m (suc (suc way)) r h e k = nowhere (CutFits p s env (form.Src m))

span-takes : (a : PlainAlgebra) (s t : Linear) (o q : Option Linear) → Takes a (form.Span s o) → Takes a (form.Span t q)
span-takes indexed s t o q h = tt
span-takes a s t o q h = absurd h

span-below : (n : ℕ) (a : Linear) (o : Option Linear) → FormIsBelow n (form.Span a o) → IsBelow n a
span-below n a None h = h
span-below n a (Some e) h = h.0

from-below : (n : ℕ) (a b : Linear) (o : Option Linear) → IsBelow n b → FormIsBelow n (form.Span a o) → FormIsBelow n (form.Span b o)
from-below n a b None k h = k
from-below n a b (Some e) k h = (k, h.1)

stays : (n : ℕ) (a b : Linear) (o q : Option Linear) → FormIsBelow n (form.Span b q) → Stays n (form.Span a o) (form.Span b q)
stays n a b o q h = record { below = h; takes = λ g i. span-takes g a b o q i; alike = refl }

next-at : (n : ℕ) (i : Linear) → IsBelow n i → Reaches (IsBelow n) (sum i one_value)
next-at n i h = at-computed (IsBelow n) (plus i one_value) _ (plus-is-below n i one_value h (number-below n (pos 1)))

index-fits : (p : PlainProgram) (s : PlainState) (env : PlainEnv) (a : Linear) (o : Option Linear) (way : ℕ) (r : Reading) → StateFits p s → EnvBelow (count s) env → FormIsBelow (count s) (form.Span a o) → Reaches (CutFits p s env (form.Span a o)) (cut_index s env a o way r)
index-fits p s env a (Some e) zero (settled t) h b k =
    chain _ _ (any (value_by env t))
    (λ i w. chain _ _ (any (prove_that s.rows a Equal i Int))
    (λ u x. chain _ _ (any (sum i one_value))
    (λ next y. chain (prove_that s.rows e Equal next Int) (λ v. unit (cut env s [])) (any (prove_that s.rows e Equal next Int)) (λ v z. same-whole p s env env (form.Span a (Some e)) h (env-same (count s) env b)))))
index-fits p s env a o (suc zero) (settled t) h b k =
    chain _ _ (by-fits (count s) env t b)
    (λ i w. chain _ _ (any (prove_that s.rows a AtMost i Int))
    (λ u x. chain _ _ (next-at (count s) i w)
    (λ next y. chain _ _ (any (prove_end s.rows o next))
    (λ v z. chain (need (nat_lt (length s.guards) longest_list)) (λ c. unit (cut env s (form.Span a (Some i) ∷ form.Span next o ∷ []))) (needed (nat_lt (length s.guards) longest_list))
    (λ c d. at (CutFits p s env (form.Span a o)) (cut env s (form.Span a (Some i) ∷ form.Span next o ∷ [])) (record {
      next = here p s h;
      names = env-same (count s) env b;
      left = (stays (count s) a a o (Some i) (span-below (count s) a o k, w), (stays (count s) a next o o (from-below (count s) a next o y k), tt));
      few = refl;
      room = below (length s.guards) d;
      guards = refl;
      envs = refl;
    }))))))
  where
    below : (n : ℕ) → nat_lt n longest_list ≡ true → n + 2 ≤ suc longest_list
    below n e = from n longest_list e
      where
        from : (n m : ℕ) → nat_lt n m ≡ true → n + 2 ≤ suc m
        from n m e = grind (arith, nat_tests)
index-fits p s env a o (suc zero) (open_to x) h b k =
    chain _ _ (next-at (count s) a (span-below (count s) a o k))
    (λ next y. chain (prove_end s.rows o next) (λ v. unit (cut (bind_open env x a) s (form.Span next o ∷ []))) (any (prove_end s.rows o next))
    (λ v z. same p s env (bind_open env x a) (form.Span a o) (form.Span next o ∷ []) h (opened-to (count s) env x a b (span-below (count s) a o k)) (stays (count s) a next o o (from-below (count s) a next o y k), tt) (omega arith)))
index-fits p s env a o way r h b k = nowhere (CutFits p s env (form.Span a o))

onwards-fit : (p : PlainProgram) (s : PlainState) (env : PlainEnv) (a : Linear) (way : ℕ) (r : Reading) → StateFits p s → EnvBelow (count s) env → IsBelow (count s) a → Reaches (CutFits p s env (form.Span a None)) (cut_onwards s env a way r)
onwards-fit p s env a zero (open_to x) h b k = same-whole p s env (bind_open env x a) (form.Span a None) h (opened-to (count s) env x a b k)
onwards-fit p s env a zero (settled t) h b k =
    chain _ _ (any (value_by env t))
    (λ i w. chain (prove_that s.rows a Equal i Int) (λ u. unit (cut env s [])) (any (prove_that s.rows a Equal i Int)) (λ u x. same-whole p s env env (form.Span a None) h (env-same (count s) env b)))
onwards-fit p s env a (suc zero) (settled t) h b k =
    chain _ _ (by-fits (count s) env t b)
    (λ i w. chain (prove_that s.rows a AtMost i Int) (λ u. unit (cut env s (form.Span a (Some i) ∷ []))) (any (prove_that s.rows a AtMost i Int))
    (λ u x. same p s env env (form.Span a None) (form.Span a (Some i) ∷ []) h (env-same (count s) env b) (stays (count s) a a None (Some i) (k, w), tt) (omega arith)))
onwards-fit p s env a way r h b k = nowhere (CutFits p s env (form.Span a None))

pub cut-fits : (p : PlainProgram) (s : PlainState) (env : PlainEnv) (x : Asked) (f : Form) (way : ℕ) → StateFits p s → EnvBelow (count s) env → FormIsBelow (count s) f → Reaches (CutFits p s env f) (cut_form s env x f way)
cut-fits p s env One form.One way h e k = one-fits p s env way h e
cut-fits p s env (Share x) (form.Share a) way h e k = share-fits p s env a way (reading env x) h e k
cut-fits p s env (Src x) (form.Src m) way h e k = source-fits p s env m way (reading env x) h e k
cut-fits p s env (Tok x) (form.Tok m) way h e k = tokens-fit p s env m way (reading env x) h e k
cut-fits p s env (Tok x) (form.Src m) way h e k = new-tokens-fit p s env m way (reading env x) h e k
cut-fits p s env (At x) (form.Span a o) way h e k = index-fits p s env a o way (reading env x) h e k
cut-fits p s env (From x) (form.Span a None) way h e k = onwards-fit p s env a way (reading env x) h e k
cut-fits p s env x f way h e k = nowhere (CutFits p s env f)

-- ---- the pieces after it

none-first : (a b : Bool) → (a || b) ≡ false → a ≡ false
none-first true b e = e
none-first false b e = refl

none-second : (a b : Bool) → (a || b) ≡ false → b ≡ false
none-second true b e = absurd cc
none-second false b e = e

none-both : (a b : Bool) → a ≡ false → b ≡ false → (a || b) ≡ false
none-both a b e f = rw (e, f) refl

-- what stays of a piece becomes one with the same pieces
abbrev AreAlike : Form → List Form → Type 0
AreAlike f left = AllByRecursion (λ g. is_joined f ≡ is_joined g) left

none-left : (x q : Piece) (left : List Form) (ps : List Piece) → AreAlike q.form left → joins x q ≡ false → list_any (joins x) ps ≡ false → list_any (joins x) (map (with_form q) left ++ ps) ≡ false
none-left x q [] ps l k h = h
none-left x q (f ∷ left) ps l k h = none-both (joins x (with_form q f)) _ (ap (λ b. same_part x q && b) (sym l.0) ∙ k) (none-left x q left ps l.1 k h)

none-cut : (x : Piece) (ps : List Piece) (j : ℕ) (q : Piece) (left : List Form) → slice_get ps j ≡ Some q → AreAlike q.form left → list_any (joins x) ps ≡ false → list_any (joins x) (take j ps ++ (map (with_form q) left ++ drop (suc j) ps)) ≡ false
none-cut x [] j q left e l h = absurd cc
none-cut x (y ∷ ps) zero q left e l h = none-left x q left ps l (ap (joins x) (sym (one e)) ∙ none-first (joins x y) (list_any (joins x) ps) h) (none-second (joins x y) (list_any (joins x) ps) h)
  where
    one : Some y ≡ Some q → y ≡ q
    one e = cc
none-cut x (y ∷ ps) (suc j) q left e l h = none-both (joins x y) _ (none-first (joins x y) (list_any (joins x) ps) h) (none-cut x ps j q left e l (none-second (joins x y) (list_any (joins x) ps) h))

fewer : (f g : Form) (left : List Form) → AreFew f (g ∷ left) → AreFew f left
fewer f g [] h = tt
fewer f g (x ∷ left) h = spans-few f (x ∷ left) h

not-itself : (f g : Form) (left : List Form) (b : Bool) → AreFew f (g ∷ left) → (left ≡ [] → ⊥) → (b && is_joined f) ≡ false
not-itself f g [] b h n = absurd (n refl)
not-itself f g (x ∷ left) true h n = h
not-itself f g (x ∷ left) false h n = refl

parted-left : (q : Piece) (left : List Form) (ps : List Piece) → AreAlike q.form left → AreFew q.form left → list_any (joins q) ps ≡ false → AreParted ps → AreParted (map (with_form q) left ++ ps)
parted-left q [] ps l w h k = k
parted-left q (f ∷ []) ps l w h k = (h, k)
parted-left q (f ∷ (g ∷ left)) ps l w h k = (none-left q q (g ∷ left) ps l.1 (not-itself q.form f (g ∷ left) (same_part q q) w (λ e. cc)) h, parted-left q (g ∷ left) ps l.1 (fewer q.form f (g ∷ left) w) h k)

parted-cut : (ps : List Piece) (j : ℕ) (q : Piece) (left : List Form) → slice_get ps j ≡ Some q → AreAlike q.form left → AreFew q.form left → AreParted ps → AreParted (take j ps ++ (map (with_form q) left ++ drop (suc j) ps))
parted-cut [] j q left e l w h = absurd cc
parted-cut (y ∷ ps) zero q left e l w h = parted-left q left ps l w (subst (λ z. list_any (joins z) ps ≡ false) (one e) h.0) h.1
  where
    one : Some y ≡ Some q → y ≡ q
    one e = cc
parted-cut (y ∷ ps) (suc j) q left e l w h = (none-cut y ps j q left e l h.0, parted-cut ps j q left e l w h.1)

cut-size : {A : Type 0} (ps : List A) (j : ℕ) (q : A) (xs : List A) → slice_get ps j ≡ Some q → suc (length (take j ps ++ (xs ++ drop (suc j) ps))) ≡ length ps + length xs
cut-size [] j q xs e = absurd cc
cut-size (y ∷ ps) zero q xs e = let k = length-append xs ps in omega arith
cut-size (y ∷ ps) (suc j) q xs e = let k = cut-size ps j q xs e in omega arith

pub cut-length : {A : Type 0} (ps : List A) (j : ℕ) (q : A) (xs : List A) → slice_get ps j ≡ Some q → length xs ≤ 1 → length (take j ps ++ (xs ++ drop (suc j) ps)) ≤ length ps
cut-length ps j q xs e l = let k = cut-size ps j q xs e in omega arith

piece-stays : (p : PlainProgram) (n : ℕ) (q : Piece) (f : Form) → PieceFits p n q → Stays n q.form f → PieceFits p n (with_form q f)
piece-stays p n q f h k = record {
  region = h.region;
  form = k.below;
  atom = some-weaker (slice_get p.regions q.kind) _ _ (λ y i. (i.0, k.takes (atom_algebra y.algebra q.atom) i.1)) h.atom;
}

are-alike : (n : ℕ) (f : Form) (left : List Form) → AllByRecursion (Stays n f) left → AreAlike f left
are-alike n f [] h = tt
are-alike n f (g ∷ left) h = (h.0.alike, are-alike n f left h.1)

guards-cut : (p : PlainProgram) (n : ℕ) (ps : List Piece) (j : ℕ) (q : Piece) (left : List Form) → slice_get ps j ≡ Some q → GuardsFit p n ps → PieceFits p n q → AllByRecursion (Stays n q.form) left → AreFew q.form left → length ps + length left ≤ suc longest_list → GuardsFit p n (take j ps ++ (map (with_form q) left ++ drop (suc j) ps))
guards-cut p n ps j q left e h k g w l =
    let size = cut-size ps j q (map (with_form q) left) e in
    let same = length-map left (with_form q) in
    record {
      each = all-join (PieceFits p n) (take j ps) (map (with_form q) left ++ drop (suc j) ps) (all-take (PieceFits p n) j ps h.each)
          (all-join (PieceFits p n) (map (with_form q) left) (drop (suc j) ps) (all-map (Stays n q.form) (PieceFits p n) (with_form q) (λ f i. piece-stays p n q f k i) left g) (all-drop (PieceFits p n) (suc j) ps h.each));
      parted = parted-cut ps j q left e (are-alike n q.form left g) w h.parted;
      room = omega arith;
    }

wider-guards : (p : PlainProgram) (n m : ℕ) (ps : List Piece) → n ≤ m → AllByRecursion (PieceFits p n) ps → AllByRecursion (PieceFits p m) ps
wider-guards p n m [] l h = tt
wider-guards p n m (q ∷ ps) l h = (wider-piece p n m q l h.0, wider-guards p n m ps l h.1)

pub after-cut-fits : (p : PlainProgram) (s : PlainState) (e j : ℕ) (q : Piece) (c : Cut) → StateFits p s → slice_get s.guards j ≡ Some q → PieceFits p (count s) q → CutFits p s (env_at s e) q.form c → Next p s (after_cut e j q c)
after-cut-fits p s e j q c h i k g =
    let n : ℕ = count c.state in
    let step : j + 1 ≡ suc j = omega arith in
    let old : GuardsFit p n s.guards = record { each = wider-guards p (count s) n s.guards g.next.grows.sorts h.guards; parted = h.guards_parted; room = h.room.guards } in
    let new : GuardsFit p n (take j s.guards ++ (map (with_form q) c.left ++ drop (suc j) s.guards)) = guards-cut p n s.guards j q c.left i old (wider-piece p (count s) n q g.next.grows.sorts k) g.left g.few g.room in
    let same : (take j c.state.guards ++ (map (with_form q) c.left ++ drop (j + 1) c.state.guards)) ≡ (take j s.guards ++ (map (with_form q) c.left ++ drop (suc j) s.guards)) = rw (g.guards, step) refl in
    let t : PlainState = record c.state { guards = take j c.state.guards ++ (map (with_form q) c.left ++ drop (j + 1) c.state.guards) } in
    let fits : StateFits p t = with-guards-fit p c.state _ g.next.fits (subst (GuardsFit p n) (sym same) new) in
    let at-t : Next p s t = record { fits = fits; grows = record { sorts = g.next.grows.sorts; store = g.next.grows.store; envs = g.next.grows.envs }; opened = g.next.opened } in
    let kept : EnvKept (count t) (env_at t e) c.env = subst (λ env. EnvKept n env c.env) (ap (λ envs. get_or envs e []) (sym g.envs)) g.names in
    further p s t (with_env_at t e c.env) at-t (env-set-fits p t e c.env fits kept)

-- ---- pieces that are all there

without-first-parted : (test : Piece → Bool) (ps : List Piece) → AreParted ps → AreParted (without_first test ps)
without-first-parted test [] h = tt
without-first-parted test (x ∷ ps) h = by_test (test x) (none x ps h.0) (without-first-parted test ps h.1)
  where
    none : (x : Piece) (ps : List Piece) → list_any (joins x) ps ≡ false → list_any (joins x) (without_first test ps) ≡ false
    none x [] h = refl
    none x (y ∷ ps) h = by (test y) (first (joins x y) (list_any (joins x) ps) h) (second (joins x y) (list_any (joins x) ps) h) (none x ps (second (joins x y) (list_any (joins x) ps) h))
      where
        first : (a b : Bool) → (a || b) ≡ false → a ≡ false
        first true b e = e
        first false b e = refl

        second : (a b : Bool) → (a || b) ≡ false → b ≡ false
        second true b e = absurd cc
        second false b e = e

        by : (b : Bool) → joins x y ≡ false → list_any (joins x) ps ≡ false → list_any (joins x) (without_first test ps) ≡ false → list_any (joins x) (if b then ps else y ∷ without_first test ps) ≡ false
        by true e f g = f
        by false e f g = rw (e, g) refl

    by_test : (b : Bool) → list_any (joins x) (without_first test ps) ≡ false → AreParted (without_first test ps) → AreParted (if b then ps else x ∷ without_first test ps)
    by_test true e r = h.1
    by_test false e r = (e, r)

without-first-length : {A : Type 0} (test : A → Bool) (xs : List A) → length (without_first test xs) ≤ length xs
without-first-length test [] = omega arith
without-first-length test (x ∷ xs) = by_test (test x) (without-first-length test xs)
  where
    by_test : (b : Bool) → length (without_first test xs) ≤ length xs → length (if b then xs else x ∷ without_first test xs) ≤ suc (length xs)
    by_test true h = omega arith
    by_test false h = omega arith

pub without-full-fits : (p : PlainProgram) (n : ℕ) (rows : List Row) (ps fulls : List Piece) → GuardsFit p n ps → Reaches (GuardsFit p n) (without_full rows ps fulls)
without-full-fits p n rows ps [] h = at (GuardsFit p n) ps h
without-full-fits p n rows ps (full ∷ more) h =
    chain _ _ (any (found (find (may_be_full full) ps)))
    (λ q i. chain _ _ (any (prove_full rows q.form))
    (λ u j.
    let l = without-first-length (may_be_full full) ps in
    let m = h.room in
    without-full-fits p n rows (without_first (may_be_full full) ps) more (record { each = without-first-all (PieceFits p n) (may_be_full full) ps h.each; parted = without-first-parted (may_be_full full) ps h.parted; room = omega arith })))

-- an algebra within another, from this atom on
pub record Within (w a : PlainAlgebra) (i : ℕ) : Type 0 where
  pub room : (j k : ℕ) → j ≡ i + k → k < atoms a → j < atoms w
  pub same : (j k : ℕ) → j ≡ i + k → k < atoms a → atom_algebra w j ≡ atom_algebra a k

pub within-itself : (w : PlainAlgebra) → Within w w 0
within-itself w = record { room = λ j k e l. omega arith; same = λ j k e l. ap (atom_algebra w) (let f : j ≡ k = omega arith in f) }

left-of : (w a b c : PlainAlgebra) (i : ℕ) → atoms c ≡ atoms a + atoms b → ((k : ℕ) → atom_algebra c k ≡ (if nat_lt k (atoms a) then atom_algebra a k else atom_algebra b (k - atoms a))) → Within w c i → Within w a i
left-of w a b c i size at h = record {
  room = λ j k e l. h.room j k e (omega arith);
  same = λ j k e l. h.same j k e (omega arith) ∙ (at k ∙ ap (λ t. if t then atom_algebra a k else atom_algebra b (k - atoms a)) (lt-true k (atoms a) l));
}

right-of : (w a b c : PlainAlgebra) (i : ℕ) → atoms c ≡ atoms a + atoms b → ((k : ℕ) → atom_algebra c k ≡ (if nat_lt k (atoms a) then atom_algebra a k else atom_algebra b (k - atoms a))) → Within w c i → Within w b (i + atoms a)
right-of w a b c i size at h = record {
  room = λ j k e l. h.room j (atoms a + k) (omega arith) (omega arith);
  same = λ j k e l.
      h.same j (atoms a + k) (omega arith) (omega arith)
      ∙ (at (atoms a + k)
      ∙ (ap (λ t. if t then atom_algebra a (atoms a + k) else atom_algebra b (atoms a + k - atoms a)) (lt-false (atoms a + k) (atoms a) (omega arith))
      ∙ ap (atom_algebra b) (let f : atoms a + k - atoms a ≡ k = omega arith in f)));
}

pub within-left : (w a b : PlainAlgebra) (i : ℕ) → Within w (product a b) i → Within w a i
within-left w a b i h = left-of w a b (product a b) i refl (λ k. refl) h

pub within-right : (w a b : PlainAlgebra) (i : ℕ) → Within w (product a b) i → Within w b (i + atoms a)
within-right w a b i h = right-of w a b (product a b) i refl (λ k. refl) h

pub sum-left : (w a b : PlainAlgebra) (i : ℕ) → Within w (either a b) i → Within w a i
sum-left w a b i h = left-of w a b (either a b) i refl (λ k. refl) h

pub sum-right : (w a b : PlainAlgebra) (i : ℕ) → Within w (either a b) i → Within w b (i + atoms a)
sum-right w a b i h = right-of w a b (either a b) i refl (λ k. refl) h

-- a form of an atom
pub record IsAtomForm (w : PlainAlgebra) (n : ℕ) (x : ℕ × Form) : Type 0 where
  pub exists : x.0 < atoms w
  pub takes : Takes (atom_algebra w x.0) x.1
  pub below : FormIsBelow n x.1

full-forms-fit : (w a : PlainAlgebra) (n i : ℕ) → Within w a i → AllByRecursion (IsAtomForm w n) (full_forms a i)
full-forms-fit w unique n i h = (record { exists = h.room i 0 (omega arith) (omega arith); takes = subst (λ a. Takes a form.One) (sym (h.same i 0 (omega arith) (omega arith))) tt; below = tt }, tt)
full-forms-fit w divisible n i h = (record { exists = h.room i 0 (omega arith) (omega arith); takes = subst (λ a. Takes a (form.Share (number (pos 1)))) (sym (h.same i 0 (omega arith) (omega arith))) tt; below = number-below n (pos 1) }, tt)
full-forms-fit w counting n i h = (record { exists = h.room i 0 (omega arith) (omega arith); takes = subst (λ a. Takes a (form.Src (number (pos 0)))) (sym (h.same i 0 (omega arith) (omega arith))) tt; below = number-below n (pos 0) }, tt)
full-forms-fit w indexed n i h = (record { exists = h.room i 0 (omega arith) (omega arith); takes = subst (λ a. Takes a (form.Span (number (pos 0)) None)) (sym (h.same i 0 (omega arith) (omega arith))) tt; below = number-below n (pos 0) }, tt)
full-forms-fit w (product a b) n i h = all-join (IsAtomForm w n) (full_forms a i) (full_forms b (i + atoms a)) (full-forms-fit w a n i (within-left w a b i h)) (full-forms-fit w b n (i + atoms a) (within-right w a b i h))
full-forms-fit w (either a b) n i h = full-forms-fit w a n i (sum-left w a b i h)

pub side-pieces-fit : (p : PlainProgram) (n : ℕ) (y : PlainRegionType) (x : Side) (r : Linear) (k : ℕ) → slice_get p.regions k ≡ Some y → Within y.algebra x.algebra x.atom → IsBelow n r → AllByRecursion (PieceFits p n) (side_pieces x r k)
side-pieces-fit p n y x r k e h g =
    all-map (IsAtomForm y.algebra n) (PieceFits p n) (λ q. piece r k q.0 q.1)
    (λ q i. record { region = g; form = i.below; atom = subst (λ (o : Option PlainRegionType). IsSomeAnd o (λ z. Fits z.algebra (piece r k q.0 q.1))) (sym e) (i.exists, i.takes) })
    (full_forms x.algebra x.atom) (full-forms-fit y.algebra x.algebra n x.atom h)

-- the sides of a sum
pub record SidesWithin (w : PlainAlgebra) (x : Sides) : Type 0 where
  pub left : Within w x.left.algebra x.left.atom
  pub right : Within w x.right.algebra x.right.atom

sum-by : (w : PlainAlgebra) (b : Bool) (o q : Option Sides) → IfSome (SidesWithin w) o → IfSome (SidesWithin w) q → IfSome (SidesWithin w) (if b then o else q)
sum-by w true o q h k = h
sum-by w false o q h k = k

pub sum-within : (w a : PlainAlgebra) (i n : ℕ) → Within w a i → IfSome (SidesWithin w) (sum_in a i n)
sum-within w (product a b) i n h = sum-by w (nat_lt n (sum_count a)) (sum_in a i n) (sum_in b (i + atoms a) (n - sum_count a)) (sum-within w a i n (within-left w a b i h)) (sum-within w b (i + atoms a) (n - sum_count a) (within-right w a b i h))
sum-within w (either a b) i zero h = record { left = sum-left w a b i h; right = sum-right w a b i h }
sum-within w (either a b) i (suc n) h = sum-by w (nat_lt n (sum_count a)) (sum_in a i n) (sum_in b (i + atoms a) (n - sum_count a)) (sum-within w a i n (sum-left w a b i h)) (sum-within w b (i + atoms a) (n - sum_count a) (sum-right w a b i h))
sum-within w unique i n h = tt
sum-within w divisible i n h = tt
sum-within w counting i n h = tt
sum-within w indexed i n h = tt

pub other-within : (w : PlainAlgebra) (x : Sides) (side : ℕ) → SidesWithin w x → Within w (other_side x side).algebra (other_side x side).atom
other-within w x zero h = h.right
other-within w x (suc n) h = h.left
