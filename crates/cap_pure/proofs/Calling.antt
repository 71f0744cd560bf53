-- Places of environments.
use Rattle.std.proofs.Common.{◌≡◌, ℕ, List, [], ◌∷◌, length, Option, Some, None, refl, ap, sym, ◌++◌}
use Rattle.std.specs.Prelude.{Ok, nat_lt, Bool, true, false}
use Rattle.cap_lin.specs.declared.row.Sort.{Sort}
use Rattle.cap_lin.specs.Linear.{Linear}
use Rattle.cap_goal_spec.specs.States.{PlainState, longest_list}
use Rattle.cap_rules.specs.Attempts.{need, unit, ◌>>=◌}
use Rattle.cap_rules.specs.Making.{with_sort, with_destination}
use Rattle.cap_rules_steps.specs.Walks.{Makes}

-- a fresh variable leaves the environments
kept : (b : Bool) (s t : PlainState) (xs : List Sort) → ((need b >>= λ _. unit xs) >>= λ sorts. unit (record s { sorts = sorts })).value ≡ Some t → t.envs ≡ s.envs
kept true s t xs e = ap (λ (u : PlainState). u.envs) (sym (same e))
  where
    same : {A : Type 0} {x y : A} → Some x ≡ Some y → x ≡ y
    same e = cc
kept false s t xs e = absurd (clash e)
  where
    clash : {A : Type 0} {x : A} → None ≡ Some x → ⊥
    clash e = cc

pub sort-envs : (s t : PlainState) (o : Sort) → Makes (Ok t) (with_sort s o) → t.envs ≡ s.envs
sort-envs s t o h = kept (nat_lt (length s.sorts) longest_list) s t (s.sorts ++ o ∷ []) (h.ends []).1

pub destination-envs : (s : PlainState) (x : Option ℕ) (u : Linear) → (with_destination s x u).envs ≡ s.envs
destination-envs s None u = refl
destination-envs s (Some x) u = refl
