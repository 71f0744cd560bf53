-- What was asked of the first actions stays so where more is asked, and where a test gives back
-- what it was lent.
use Rattle.std.proofs.Common.{◌≡◌, ◌⊎◌, inl, inr, ℕ, zero, suc, Bool, true, false, ◌<◌, List, [], ◌∷◌, ◌++◌, map, length, get_or, Option, Some, None, refl, sym, ap, ◌∙◌, subst}
use Rattle.std.specs.Prelude.{slice_get, slice_set, option_map, Result, Ok, Err, IfOk}
use Rattle.std.specs.declared.alloc.AllocError.{AllocError}
use Rattle.std.proofs.lemmas.Option.{slice_get-map, slice_get_read}
use Rattle.cap_lin.specs.Linear.{Linear}
use Rattle.cap_lin.specs.declared.row.Row.{Row}
use Rattle.cap_prog.specs.Program.{PlainAction, PlainRegionType}
use Rattle.cap_prog.specs.declared.region.Action.{Action}
use Rattle.cap_prog.specs.Views.{action_view}
use Rattle.cap_goal_spec.specs.States.{PlainFact, PlainState}
use Rattle.cap_rules.specs.Attempts.{unit}
use Rattle.cap_rules.specs.Resting.{system, action_names, prove_closed}
use Rattle.cap_offer_spec.specs.Claims.{keeps_after}
use Rattle.cap_offer_spec.specs.Deciding.{PlainNotes, Outcome, succeeds}
use Rattle.cap_rules_steps.specs.declared.error.RuleError.{RuleError}
use Rattle.cap_rules_steps.specs.Walks.{Makes, seen}
use Rattle.cap_closure_decide.specs.Noting.{Adds, IsFailure}
use Rattle.cap_closure_decide.proofs.Refuting.{adds-same, failure-fails}
use Rattle.cap_closure.specs.declared.asking.Asked.{Asked}
use Rattle.cap_closure.specs.Asking.{PlainAsked, rows_if, asked_view, IsAsked, AreAsked}
use Rattle.cap_closure.proofs.Attempts.{made-succeeds, made-fails, unit-succeeds}

same-value : {A : Type 0} (x y : A) → Some x ≡ Some y → x ≡ y
same-value x y e = cc

-- of a list with one more, and of one in which one was set
get-pushed :
    {A : Type 0} (xs : List A) (x z : A) (i : ℕ) → slice_get (xs ++ x ∷ []) i ≡ Some z →
    ((i ≡ length xs) × (z ≡ x)) ⊎ (slice_get xs i ≡ Some z)
get-pushed [] x z zero e = inl (refl, sym (same-value x z e))
get-pushed [] x z (suc i) e = inr e
get-pushed (y ∷ xs) x z zero e = inr e
get-pushed (y ∷ xs) x z (suc i) e = elim (get-pushed xs x z i e) [
  | inl q ↦ inl (ap suc q.0, q.1)
  | inr h ↦ inr h
]

get-set :
    {A : Type 0} (xs : List A) (n : ℕ) (x z : A) (i : ℕ) →
    slice_get (slice_set xs n x) i ≡ Some z →
    ((i ≡ n) × (z ≡ x)) ⊎ (slice_get xs i ≡ Some z)
get-set [] n x z i e = inr e
get-set (y ∷ xs) zero x z zero e = inl (refl, sym (same-value x z e))
get-set (y ∷ xs) zero x z (suc i) e = inr e
get-set (y ∷ xs) (suc n) x z zero e = inr e
get-set (y ∷ xs) (suc n) x z (suc i) e = elim (get-set xs n x z i e) [
  | inl q ↦ inl (ap suc q.0, q.1)
  | inr h ↦ inr h
]

pub set-long :
    {A : Type 0} (xs : List A) (n : ℕ) (x : A) → length (slice_set xs n x) ≡ length xs
set-long [] n x = refl
set-long (y ∷ xs) zero x = refl
set-long (y ∷ xs) (suc n) x = ap suc (set-long xs n x)

module _ (k : PlainRegionType) (s : PlainState) (f : PlainFact) (known : List Row)
    (xs : List Asked) (are : AreAsked k s f known xs) where
  pub are-pushed :
      (x : Asked) (action : PlainAction) → slice_get k.actions (length xs) ≡ Some action →
      IsAsked k s f known action (asked_view x) → AreAsked k s f known (xs ++ x ∷ [])
  are-pushed x action is h i z a e at = elim (get-pushed xs x z i e) [
    | inr old ↦ are i z a old at
    | inl q ↦
        let same : action ≡ a =
        same-value action a (sym is ∙ subst (λ j. slice_get k.actions j ≡ Some a) q.0 at) in
        subst (λ b. IsAsked k s f known b (asked_view z)) same
        (subst (λ y. IsAsked k s f known action (asked_view y)) (sym q.1) h)
  ]

  pub are-set :
      (n : ℕ) (x y : Asked) → slice_get xs n ≡ Some x → asked_view y ≡ asked_view x →
      AreAsked k s f known (slice_set xs n y)
  are-set n x y there same i z a e at = elim (get-set xs n y z i e) [
    | inr old ↦ are i z a old at
    | inl q ↦
        subst (λ w. IsAsked k s f known a (asked_view w)) (sym q.1)
        (subst (IsAsked k s f known a) (sym same)
        (are n x a there (subst (λ j. slice_get k.actions j ≡ Some a) q.0 at)))
  ]

-- ---- a candidate's row after an action, by what is asked of it

module _ (k : PlainRegionType) (s : PlainState) (f : PlainFact) (known : List Row)
    (x : PlainAction) (names : List Linear) (rows : List Row) (others : Result Bool RuleError)
    (r : List Row) (n : PlainNotes) where
  abbrev pub asked_so : PlainAsked
  asked_so = record { names = names; rows = seen (λ b. rows_if b rows) others }

  -- its system is made of these names
  made-so :
      (o : Result (Option (List Row)) RuleError) → seen (λ b. rows_if b rows) others ≡ o →
      IsAsked k s f known x asked_so → Makes o (system k s f known x (action_names k s f x))
  made-so o e h =
      subst (λ ns. Makes o (system k s f known x ns)) h.0
      (subst (λ q. Makes q (system k s f known x names)) e h.1)

  pub asked-keeps :
      (m : PlainNotes) (o : Result Bool AllocError) → others ≡ Ok true →
      IsAsked k s f known x asked_so →
      IfOk o (λ yes. Adds n m yes (succeeds (prove_closed s r x names (Some rows)))) →
      IfOk o (λ yes. Adds n m yes (succeeds (keeps_after k s f known x r)))
  asked-keeps m o e h p =
      let ns = action_names k s f x in
      adds-same o n m (succeeds (prove_closed s r x ns (Some rows)))
      (succeeds (keeps_after k s f known x r))
      (sym (made-succeeds (system k s f known x ns) (λ q. prove_closed s r x ns q) (Some rows) n
      (made-so (Ok (Some rows)) (ap (seen (λ b. rows_if b rows)) e) h)))
      (subst (λ (zs : List Linear). IfOk o (λ yes. Adds n m yes (succeeds
      (prove_closed s r x zs (Some rows))))) h.0 p)

  -- where nobody else can hold the guards there is nothing to prove
  pub asked-vacuous :
      others ≡ Ok false → IsAsked k s f known x asked_so →
      Adds n n true (succeeds (keeps_after k s f known x r))
  asked-vacuous e h =
      let ns = action_names k s f x in
      let q = made-succeeds (system k s f known x ns) (λ z. prove_closed s r x ns z) None n
      (made-so (Ok None) (ap (seen (λ b. rows_if b rows)) e) h)
      ∙ none-closed r ∙ unit-succeeds n in
      (sym (ap (λ (z : Outcome Bool). z.value) q), sym (ap (λ (z : Outcome Bool). z.notes) q))
    where
      none-closed :
          (q : List Row) →
          succeeds (prove_closed s q x (action_names k s f x) None) n ≡ succeeds (unit (tt {0})) n
      none-closed [] = refl
      none-closed (y ∷ q) = refl

  pub asked-fails :
      (m : PlainNotes) (error : RuleError) → others ≡ Err error →
      IsAsked k s f known x asked_so → IsFailure error n m (Ok tt) →
      Adds n m false (succeeds (keeps_after k s f known x r))
  asked-fails m error e h failure =
      let ns = action_names k s f x in
      failure-fails error (keeps_after k s f known x r) n m
      (made-fails error (system k s f known x ns) (λ q. prove_closed s r x ns q)
      (made-so (Err error) (ap (seen (λ b. rows_if b rows)) e) h)) failure

-- ---- an action by its place

pub action-there :
    (xs : List Action) (i : ℕ) (x : Action) → i < length xs → x ≡ get_or xs i x →
    slice_get (map action_view xs) i ≡ Some (action_view x)
action-there xs i x l e =
    slice_get-map action_view xs i
    ∙ ap (option_map action_view) (slice_get_read xs (length xs) i x refl l e)
