-- States that go on while an assertion is taken: values stay alike, and names may get bound.
use Rattle.std.proofs.Common.{◌≡◌, ℕ, List, [], ◌∷◌, length, arith, refl, ◌∙◌, subst, inl, inr, true}
use Rattle.std.specs.List.{AllByRecursion}
use Rattle.cap_lin.specs.Values.{Valuation}
use Rattle.cap_prog.specs.Scopes.{Scope}
use Rattle.cap_goal_spec.specs.States.{PlainState}
use Rattle.cap_rules.specs.Making.{env_at}
use Rattle.cap_account_resources.proofs.Lists.{all-more, Among}
use Rattle.cap_account_states.proofs.Terms.{agree-same}
use Rattle.cap_account_states.proofs.Alike.{Alike, alike-same, alike-trans, alike-less}
use Rattle.cap_account_states.proofs.Meets.{Old}
use Rattle.cap_account_states.proofs.Naming.{Placed, Means, Stays, means-back}
use Rattle.cap_account_states.proofs.Matching.{Outside}
use Rattle.cap_account_states.proofs.Backed.{GoesOn, OtherEnvs}

-- facts that are loose were there before
abbrev pub LooseBefore : PlainState → PlainState → Type 0
LooseBefore s t = AllByRecursion (λ f. f.loose ≡ true → Among f s.facts) t.facts

-- the state goes on, and of its environments this one, where names may get bound
pub record Follows (sc : Scope) (e : ℕ) (v : Valuation) (s : PlainState) (w : Valuation)
    (t : PlainState) : Type 0 where
  pub alike : Alike (Old s) v w
  pub goes_on : GoesOn s t
  pub loose : LooseBefore s t
  pub stays : Stays sc (env_at s e) (env_at t e)
  pub outside : Outside sc (env_at s e) (env_at t e)
  pub size : length (env_at t e) ≡ length (env_at s e)
  pub others : OtherEnvs e s t

-- what holds of all holds of each, and each is one of all
pub all-among :
    {X : Type 0} (P : X → Type 0) (xs : List X) (x : X) → AllByRecursion P xs → Among x xs → P x
all-among P [] x h m = absurd m
all-among P (y ∷ ys) x h m = elim m [
  | inl e ↦ subst P e h.0
  | inr k ↦ all-among P ys x h.1 k
]

pub among-each :
    {X : Type 0} (P : X → Type 0) (xs : List X) → ((x : X) → Among x xs → P x) →
    AllByRecursion P xs
among-each P [] f = tt
among-each P (x ∷ xs) f = (f x (inl refl), among-each P xs (λ y m. f y (inr m)))

pub follows-none :
    (sc : Scope) (e : ℕ) (v : Valuation) (s : PlainState) → Follows sc e v s v s
follows-none sc e v s = record {
  alike = alike-same (Old s) v;
  goes_on = record {
    sorts = λ x o h. h;
    count = omega arith;
    store = refl;
    opened = refl;
    before = refl;
    envs = omega arith;
  };
  loose = among-each (λ f. f.loose ≡ true → Among f s.facts) s.facts (λ f m l. m);
  stays = λ x o i t h. h;
  outside = λ x h. refl;
  size = refl;
  others = λ x l ne. refl;
}

-- values in the end are alike to those between on what was there between
pub alike-between :
    (s t : PlainState) (v w x : Valuation) → GoesOn s t → Alike (Old s) v w → Alike (Old t) w x →
    Alike (Old s) v x
alike-between s t v w x g l m =
    alike-trans (Old s) v w x l
    (alike-less (Old s) (Old t) w x (λ y h. (let n = g.count in omega (arith, h, n))) m)

pub follows-trans :
    (sc : Scope) (e : ℕ) (u v w : Valuation) (r s t : PlainState) → Follows sc e u r v s →
    Follows sc e v s w t → Follows sc e u r w t
follows-trans sc e u v w r s t f g =
    let more = g.goes_on in
    let first = f.goes_on in
    record {
      alike = alike-between r s u v w first f.alike g.alike;
      goes_on = record {
        sorts = λ x o h. more.sorts x o (first.sorts x o h);
        count = (let m = first.count in let n = more.count in omega (arith, m, n));
        store = more.store ∙ first.store;
        opened = more.opened ∙ first.opened;
        before = more.before ∙ first.before;
        envs = (let m = first.envs in let n = more.envs in omega (arith, m, n));
      };
      loose =
          all-more (λ d. d.loose ≡ true → Among d s.facts) (λ d. d.loose ≡ true → Among d r.facts)
          (λ d m l. all-among (λ d. d.loose ≡ true → Among d r.facts) s.facts d f.loose (m l) l)
          t.facts g.loose;
      stays = λ x o i y h. g.stays x o i y (f.stays x o i y h);
      outside = λ x h. g.outside x h ∙ f.outside x h;
      size = g.size ∙ f.size;
      others = λ x l ne.
          (let m = first.envs in g.others x (omega (arith, l, m)) ne) ∙ f.others x l ne;
    }

-- what names that were bound before have in the end
pub means-before :
    (ks : List ℕ) (sc : Scope) (e : ℕ) (v w : Valuation) (s t : PlainState) →
    Follows sc e v s w t → Placed ks sc s.sorts (env_at s e) → (x a : Valuation) →
    Means sc x (env_at t e) a → Means sc x (env_at s e) a
means-before ks sc e v w s t f placed x a m =
    means-back ks sc s x x (env_at s e) (env_at t e) a placed (agree-same (Old s) x) f.stays m
