-- The pieces that are named for the indexed atoms of an action.
use Rattle.std.proofs.Common.{◌≡◌, ℤ, ℕ, zero, suc, ◌+◌, ◌<◌, Bool, true, false, List, [], ◌∷◌, ◌++◌, map, length, drop, get_or, filter, Option, Some, None, refl, sym, ap, ◌∙◌, arith}
use Rattle.std.specs.Prelude.{◌-◌, ◌||◌, option_map, slice_get, if◌then◌else◌, Ok, Err}
use Rattle.std.specs.List.{list_any}
use Rattle.cap_lin.specs.Steps.{first_wide}
use Rattle.cap_lin.specs.declared.row.Row.{Row}
use Rattle.cap_prog.specs.declared.assertion.Asked.{Asked}
use Rattle.cap_prog.specs.Program.{PlainCase, PlainAction, PlainRegionType}
use Rattle.cap_goal_spec.specs.States.{PlainFact, PlainEnv, PlainState}
use Rattle.cap_rules.specs.Answers.{Answer, applies, answer_unless, lists_if, owed_lists, steps_of, proofs_of}
use Rattle.cap_rules.specs.Attempts.{Attempt}
use Rattle.cap_rules.specs.Closing.{is_indexed, indexed_of, match_spans}
use Rattle.cap_rules_steps.specs.Judging.{IsTold}
use Rattle.cap_rules_steps.specs.Walks.{Claims}
use Rattle.cap_rules_steps.specs.declared.error.RuleError.{RuleError}
use Rattle.cap_rules_steps.specs.declared.error.RuleError.TheVariants.{NotApplicable, Wide, OutOfMemory}
use Rattle.cap_rules_steps.proofs.Judges.{told-ok}
use Rattle.cap_offer_spec.specs.Deciding.{PlainNotes, Outcome, Noted, done, ◌>>=◌, certified_by, succeeds}
use Rattle.cap_offer_spec.specs.Shifting.{first_or, first_span, spans_found, spans_at, spans_by, action_of}
use Rattle.cap_offer_spec.specs.Turning.{up_to_spans, but_spans, with_lists}
use Rattle.cap_closure_decide.specs.Noting.{Adds}
use Rattle.cap_offer.specs.Turns.{turned_spans}

abbrev Guards : Type 0
Guards = List (ℕ × Asked)

-- ---- one piece after the other

a-member : {A : Type 0} (qs : List A) (i : ℕ) → i < length qs → (q : A) × (drop i qs ≡ q ∷ drop (suc i) qs)
a-member [] i h = absurd (omega arith)
a-member (q ∷ qs) zero h = (q, refl)
a-member (q ∷ qs) (suc i) h = a-member qs i (omega arith)

-- whether the atom is proved to be in the piece of this number
abbrev pub within : PlainState → PlainFact → PlainEnv → ℕ × Asked → ℕ → Noted Bool
within s f env g j = succeeds (match_spans s f env (g ∷ []) (j ∷ []))

by-next : (s : PlainState) (f : PlainFact) (env : PlainEnv) (g : ℕ × Asked) (j : ℕ) (n : PlainNotes) → j < length s.before → first_span s f env g j (drop j s.before) n ≡ first_or (within s f env g j n).value j (first_span s f env g (suc j) (drop (suc j) s.before)) (within s f env g j n).notes
unfolding first_span
by-next s f env g j n h = ap (λ xs. first_span s f env g j xs n) (a-member s.before j h).1

pub span-goes : (s : PlainState) (f : PlainFact) (env : PlainEnv) (g : ℕ × Asked) (j : ℕ) (old new : PlainNotes) → j < length s.before → Adds old new false (within s f env g j) → first_span s f env g j (drop j s.before) old ≡ first_span s f env g (j + 1) (drop (j + 1) s.before) new
span-goes s f env g j old new h a =
    let rest : Noted (Option ℕ) = first_span s f env g (suc j) (drop (suc j) s.before) in
    let e : suc j ≡ j + 1 = omega arith in
    by-next s f env g j old h
    ∙ (ap (λ b. first_or b j rest (within s f env g j old).notes) (sym a.0)
    ∙ (ap rest (sym a.1) ∙ ap (λ i. first_span s f env g i (drop i s.before) new) e))

pub span-finds : (s : PlainState) (f : PlainFact) (env : PlainEnv) (g : ℕ × Asked) (j : ℕ) (old new : PlainNotes) → j < length s.before → Adds old new true (within s f env g j) → first_span s f env g j (drop j s.before) old ≡ record { value = Some j; notes = new }
span-finds s f env g j old new h a =
    let rest : Noted (Option ℕ) = first_span s f env g (suc j) (drop (suc j) s.before) in
    by-next s f env g j old h
    ∙ (ap (λ b. first_or b j rest (within s f env g j old).notes) (sym a.0) ∙ ap (λ m. record { value = Some j; notes = m }) (sym a.1))

-- ---- one atom after the other

-- the pieces of the guards from one on
abbrev pub spans_from : PlainState → PlainFact → PlainEnv → List (ℕ × Asked) → ℕ → Noted (Option (List ℕ))
spans_from s f env gs i = spans_found s f env (filter is_indexed (drop i gs))

-- numbers in front of others, if there are such
abbrev pub behind_numbers : List ℕ → Option (List ℕ) → Option (List ℕ)
behind_numbers js o = option_map (λ is. js ++ is) o

-- all that is found is these numbers and what is found of the rest
pub record LeftOf (whole : Outcome (Option (List ℕ))) (js : List ℕ) (rest : Outcome (Option (List ℕ))) : Type 0 where
  pub value : whole.value ≡ behind_numbers js rest.value
  pub notes : whole.notes ≡ rest.notes

-- ---- what is owed before the spans

pub fails-before : (e : RuleError) (a : Answer (List (List Row))) (ls : List (List Row)) → IsTold (Err e) a → IsTold (Err e) (with_lists ls a)
fails-before NotApplicable a ls h = rw h refl
fails-before (Wide x y) a ls h = rw h refl
fails-before OutOfMemory a ls h = tt

owed-is : {A : Type 0} (w : Option (ℤ × ℤ)) (v : Option A) (ls ks : List (List Row)) → answer_unless w (lists_if ls v) ≡ applies ks → ls ≡ ks
owed-is None (Some x) ls ks e = cc
owed-is None None ls ks e = absurd cc
owed-is (Some w) v ls ks e = absurd cc

pub lists-told : {A B : Type 0} (o : Attempt A) (x : A) (all : Attempt B) (y : B) (ls ks : List (List Row)) → Claims (Ok x) [] ls o → Claims (Ok y) [] ks all → with_lists (owed_lists o.events) (proofs_of all) ≡ applies ls
lists-told o x all y ls ks h k =
    ap (with_lists (owed_lists o.events)) (told-ok all y ks k)
    ∙ ap applies (owed-is (first_wide (steps_of o.events)) o.value (owed_lists o.events) ls (told-ok o x ls h))

-- ---- whether there is an indexed atom

some-kept : (gs : Guards) → list_any is_indexed gs ≡ true → filter is_indexed gs ≡ [] → ⊥
some-kept [] h e = absurd cc
some-kept (g ∷ gs) h e = by-first (is_indexed g) (some-kept gs) h e
  where
    by-first : (b : Bool) → (list_any is_indexed gs ≡ true → filter is_indexed gs ≡ [] → ⊥) → (b || list_any is_indexed gs) ≡ true → (if b then g ∷ filter is_indexed gs else filter is_indexed gs) ≡ [] → ⊥
    by-first true k h e = cc
    by-first false k h e = k h e

none-kept : (gs : Guards) → list_any is_indexed gs ≡ false → filter is_indexed gs ≡ []
none-kept [] h = refl
none-kept (g ∷ gs) h = by-first (is_indexed g) (none-kept gs) h
  where
    by-first : (b : Bool) → (list_any is_indexed gs ≡ false → filter is_indexed gs ≡ []) → (b || list_any is_indexed gs) ≡ false → (if b then g ∷ filter is_indexed gs else filter is_indexed gs) ≡ []
    by-first true k h = absurd cc
    by-first false k h = k h

of-some : (s : PlainState) (o : ℕ) (f : PlainFact) (x : PlainCase) (env : PlainEnv) (a : PlainAction) (gs : Guards) → (gs ≡ [] → ⊥) → spans_by s o f x env a gs ≡ (certified_by (with_lists (owed_lists (up_to_spans s f x env a).events) (proofs_of (but_spans s o f x env a))) >>= spans_at s f gs (up_to_spans s f x env a).value)
of-some s o f x env a [] h = absurd (h refl)
of-some s o f x env a (g ∷ gs) h = refl

pub with-indexed : (s : PlainState) (o : ℕ) (f : PlainFact) (x : PlainCase) (env : PlainEnv) (a : PlainAction) → list_any is_indexed a.guards ≡ true → turned_spans s o f x env a ≡ spans_by s o f x env a (indexed_of a)
with-indexed s o f x env a h = sym (of-some s o f x env a (indexed_of a) (some-kept a.guards h))

pub without-indexed : (s : PlainState) (o : ℕ) (f : PlainFact) (x : PlainCase) (env : PlainEnv) (a : PlainAction) → list_any is_indexed a.guards ≡ false → spans_by s o f x env a (indexed_of a) ≡ done (Some [])
without-indexed s o f x env a h = ap (spans_by s o f x env a) (none-kept a.guards h)

-- ---- cases and actions by their numbers

pub seen-there : {X Y : Type 0} (f : X → Y) (xs : List X) (i : ℕ) (x : X) → i < length xs → x ≡ get_or xs i x → Some (f x) ≡ slice_get (map f xs) i
seen-there f [] i x h e = absurd (omega arith)
seen-there f (y ∷ ys) zero x h e = ap (λ z. Some (f z)) e
seen-there f (y ∷ ys) (suc i) x h e = seen-there f ys i x (omega arith) e

pub action-numbered : (k : PlainRegionType) (m : ℕ) → 0 < m → slice_get k.actions (m - 1) ≡ action_of k m
action-numbered k zero h = absurd (omega arith)
action-numbered k (suc i) h =
    let e : suc i - 1 ≡ i = omega arith in
    ap (slice_get k.actions) e
