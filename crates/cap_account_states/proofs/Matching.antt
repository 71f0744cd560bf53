-- A slot of an assertion matched with a term of a state.
use Rattle.std.proofs.Common.{◌≡◌, ℕ, ◌<◌, ℤ, pos, negsuc, zero, suc, List, [], ◌∷◌, length, refl, sym, ap, ◌∙◌, subst, Option, Some, None, Bool, true, false}
use Rattle.std.specs.Prelude.{is_some, ◌&&◌, if◌then◌else◌}
use Rattle.std.specs.List.{list_all}
use Rattle.cap_lin.specs.Linear.{Linear, variable, is_zero, same_number}
use Rattle.cap_lin.specs.Rows.{row_of}
use Rattle.cap_lin.specs.Values.{Valuation, value}
use Rattle.cap_lin.specs.declared.row.Sort.{Sort}
use Rattle.cap_lin.specs.declared.row.Sort.TheVariants.{Int}
use Rattle.cap_lin.specs.declared.row.Op.TheVariants.{Eq as Equal}
use Rattle.cap_lin.proofs.Rows.{row_of-means}
use Rattle.cap_prog.specs.declared.assertion.Slot.{Slot}
use Rattle.cap_prog.specs.declared.assertion.Slot.TheVariants.{Any, Is}
use Rattle.cap_prog.specs.Scopes.{Scope, HasSort, SlotFits}
use Rattle.cap_machine_accounts.specs.Assertions.{SlotIs}
use Rattle.cap_goal_spec.specs.Terms.{lone_part, lone_variable}
use Rattle.cap_goal_spec.specs.States.{PlainEnv, PlainState}
use Rattle.cap_goal_spec.specs.Environments.{term_of, is_determined, term_in, term_in_steps, with_name, Reading, settled, open_to, read_name, reading, bind_open}
use Rattle.cap_rules.specs.Attempts.{unit, ◌>>=◌, prove_that}
use Rattle.cap_rules.specs.Making.{match_reading, match_slot}
use Rattle.cap_account_states.proofs.Alike.{usable-alike, Alike}
use Rattle.cap_account_states.specs.Nodes.{Comes}
use Rattle.cap_account_resources.proofs.Lists.{some-same, none-some, set-length}
use Rattle.cap_account_states.proofs.Terms.{Vars, Over, row-over}
use Rattle.cap_account_resources.proofs.Order.{same-int}
use Rattle.cap_account_states.proofs.Attempts.{after-computed, after-proved}
use Rattle.cap_account_states.proofs.Meets.{Usable, Meets, variable-value, proved-holds}
use Rattle.cap_account_states.proofs.Naming.{Placed, Means, Stays, term-same, term-other, placed-set, stays-set, term-over, term-number, bound-of}

-- names that may not stand in the assertion stay as they are
abbrev pub Outside : Scope → PlainEnv → PlainEnv → Type 0
Outside sc env env' = (x : ℕ) → ((o : Sort) → HasSort sc o x → ⊥) → term_of env' x ≡ term_of env x

-- the environment once a slot is met by a term
abbrev pub met_env : PlainEnv → Reading → Linear → PlainEnv
met_env env (open_to o) t = bind_open env o t
met_env env r t = env

-- a slot is matched with a term, in this environment from then on; it is the term's value whenever
-- the variables' values are alike to these
pub record Matching (ks : List ℕ) (sc : Scope) (sorts : List Sort) (v : Valuation) (env : PlainEnv)
    (x : Slot) (t : Linear) (P : PlainEnv → Type 0) : Type 0 where
  pub later : PlainEnv
  pub later_is : later ≡ met_env env (reading env x) t
  pub placed : Placed ks sc sorts later
  pub stays : Stays sc env later
  pub outside : Outside sc env later
  pub size : length later ≡ length env
  pub means :
      (w : Valuation) → Alike (λ y. y < length sorts) v w → (a : Valuation) → Means sc w later a →
      SlotIs a x (value v.whole t)
  pub comes : P later

pub lone-is :
    (t : Linear) (x : ℕ) → lone_variable t ≡ Some x → (t.parts ≡ (x, pos 1) ∷ [])
    × (t.constant ≡ pos 0)
lone-is t x e = by t.constant t.parts e
  where
    zero-is : (c : ℤ) → is_zero c ≡ true → c ≡ pos 0
    zero-is (pos zero) h = refl
    zero-is (pos (suc n)) h = absurd (cc)
    zero-is (negsuc n) h = absurd (cc)

    test :
        (c : ℤ) (p : ℕ × ℤ) (a b : Bool) → is_zero c ≡ a → same_number p.1 (pos 1) ≡ b →
        (if a && b then Some p.0 else None) ≡ Some x → (p ∷ [] ≡ (x, pos 1) ∷ []) × (c ≡ pos 0)
    test c p true true h k e =
        let q = some-same p.0 x e in
        let r = same-int p.1 (pos 1) k in
        (ap (λ y. (y, p.1) ∷ []) q ∙ ap (λ y. (x, y) ∷ []) r, zero-is c h)
    test c p true false h k e = absurd (none-some e)
    test c p false b h k e = absurd (none-some e)

    by :
        (c : ℤ) (ps : List (ℕ × ℤ)) → lone_part c ps ≡ Some x → (ps ≡ (x, pos 1) ∷ []) × (c ≡ pos 0)
    by c [] e = absurd (none-some e)
    by c (p ∷ []) e = test c p (is_zero c) (same_number p.1 (pos 1)) refl refl e
    by c (p ∷ q ∷ ps) e = absurd (none-some e)

-- a lone variable's value
lone-value :
    (t : Linear) (x : ℕ) (a : Valuation) → lone_variable t ≡ Some x → value a.whole t ≡ a.whole x
lone-value t x a e =
    let m = lone-is t x e in
    let q : t ≡ variable x = ap (λ c. record {
      constant = c;
      parts = t.parts;
    }) m.1 ∙ ap (λ ps. record { constant = pos 0; parts = ps }) m.0 in
    ap (value a.whole) q ∙ variable-value a x

pub matching :
    (ks : List ℕ) (sc : Scope) (v : Valuation) (s : PlainState) (env : PlainEnv) (x : Slot)
    (t : Linear) (P : PlainEnv → Type 0) → Meets ks v s → Placed ks sc s.sorts env →
    SlotFits sc Int x → Over (Usable ks s.sorts Int) t → Comes (match_slot s.rows env x t) P →
    Matching ks sc s.sorts v env x t P
matching ks sc v s env Any t P me pl h o c = record {
  later = env;
  later_is = refl;
  placed = pl;
  stays = λ x o i u e. e;
  outside = λ x n. refl;
  size = refl;
  means = λ w l a n. tt;
  comes = c.1;
}
matching ks sc v s env (Is u) t P me pl h o c = by_test (is_determined env u) refl c
  where
    by_lone :
        (y : Option ℕ) → lone_variable u ≡ y → is_determined env u ≡ false →
        Comes (match_reading s.rows env t (read_name y)) P → Matching ks sc s.sorts v env (Is u) t P
    by_lone None l d c = absurd c.1
    by_lone (Some x) l d c =
        let parts = (lone-is u x l).0 in
        let i : HasSort sc Int x = (subst (Vars (HasSort sc Int)) parts h).0 in
        let none = unbound (term_of env x)
        (ap (λ ps. list_all (λ p. is_some (term_of env p.0)) ps) (sym parts) ∙ d) in
        record {
          later = with_name env x t;
          later_is =
              sym (ap (λ b. met_env env (if b then settled u else read_name (lone_variable u)) t) d
              ∙ ap (λ y. met_env env (read_name y) t) l);
          placed =
              placed-set ks sc s.sorts env x t
              (λ p j. subst (λ y. Over (Usable ks s.sorts y) t)
              (some-same Int p (some-same (Some Int) (Some p) (sym i ∙ j))) o) pl;
          stays = stays-set sc env x t none;
          outside = λ y n. term-other env x y t (λ r. n Int (subst (HasSort sc Int) (sym r) i));
          size = set-length env x (Some t);
          means =
              λ w g a n. lone-value u x a l
              ∙ sym (n.whole x i t (term-same env x t (pl.room x Int i))) ∙ usable-alike ks s v w g
              t o;
          comes = c.1;
        }
      where
        unbound : (o : Option Linear) → (is_some o && true) ≡ false → o ≡ None
        unbound None h = refl
        unbound (Some z) h = absurd (cc)

    by_test :
        (b : Bool) → is_determined env u ≡ b →
        Comes (match_reading s.rows env t
        (if b then settled u else read_name (lone_variable u))) P →
        Matching ks sc s.sorts v env (Is u) t P
    by_test true d c =
        let k = after-computed (term_in env u) (term_in_steps env u)
        (λ l. prove_that s.rows l Equal t Int >>= λ _. unit env) P c in
        let q = after-proved s.rows (term_in env u) Equal t Int (λ _. unit env) P k in
        let b = bound-of env u.parts d in
        let over = term-over ks sc s.sorts env Int u pl h b in
        let holds = proved-holds ks ks v s (row_of (term_in env u) Equal t Int) me q.0
        (row-over (Usable ks s.sorts) (term_in env u) Equal t Int over o) in
        let eq : value v.whole (term_in env u) ≡ value v.whole t =
        (row_of-means v (term_in env u) Equal t Int).0 holds in
        record {
          later = env;
          later_is =
              sym (ap (λ b. met_env env (if b then settled u else read_name (lone_variable u)) t)
              d);
          placed = pl;
          stays = λ x o i u e. e;
          outside = λ x n. refl;
          size = refl;
          means = λ w g a n. sym (term-number sc w env a Int u n h b)
              ∙ usable-alike ks s v w g (term_in env u) over ∙ eq;
          comes = q.1.1;
        }
    by_test false d c = by_lone (lone_variable u) refl d c
