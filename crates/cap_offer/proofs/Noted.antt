-- Calls that decide and note, one after the other.
use Rattle.std.proofs.Common.{◌≡◌, ℕ, zero, suc, ◌+◌, ◌-◌, ◌<◌, ◌≤◌, false, nat_le, List, [], ◌∷◌, length, take, drop, drop-cons, get_or, Option, Some, None, refl, sym, ap, ◌∙◌, arith}
use Rattle.std.specs.Prelude.{Result, Ok, Err, IfOk, is_none, filter, count_by, option_to_list, ◌==◌}
use Rattle.std.specs.Global.{Vec}
use Rattle.std.proofs.lemmas.List.Sums.{length-filter}
use Rattle.std.proofs.lemmas.Bool.Decides.{nat_tests}
use Rattle.cap_lin.specs.Linear.{Linear}
use Rattle.cap_lin.specs.declared.row.Row.{Row}
use Rattle.cap_farkas.specs.declared.cert.Cert.{Cert}
use Rattle.cap_prog.specs.Program.{PlainProgram}
use Rattle.cap_goal_spec.specs.States.{PlainState, longest_list, PlainFact, PlainGoal}
use Rattle.cap_goal_spec.specs.Choices.{PlainChoice}
use Rattle.cap_rules.specs.Making.{is_empty}
use Rattle.cap_offer_spec.specs.Deciding.{PlainNotes, Outcome, Noted, done, ◌>>=◌}
use Rattle.cap_offer_spec.specs.Scanning.{finds, ends, goes_on, unless_over, has_room_for, tried, tried_all}
use Rattle.cap_closure_decide.specs.Noting.{Adds}
use Rattle.cap_offer.specs.Seeking.{PlainSought, sought_scan, first_sought}
use Rattle.cap_offer.specs.Views.{lists_in}
use Rattle.cap_offer.proofs.Trials.{alone-tried}

-- a call, and another one that goes by its value
pub then-noted : {A B X E : Type 0} (r : Result X E) (view : X → B) (old mid new : PlainNotes) (v : A) (m : Noted A) (f : A → Noted B) → Adds old mid v m → IfOk r (λ x. Adds mid new (view x) (f v)) → IfOk r (λ x. Adds old new (view x) (m >>= f))
then-noted (Err e) view old mid new v m f h k = k
then-noted {A} {B} (Ok x) view old mid new v m f h k =
    let e : f v mid ≡ f (m old).value (m old).notes = ap (λ a. f a mid) h.0 ∙ ap (f (m old).value) h.1 in
    (k.0 ∙ ap (λ (o : Outcome B). o.value) e, k.1 ∙ ap (λ (o : Outcome B). o.notes) e)

-- a call, and another one that only makes something of its value
pub made-noted : {A B X E : Type 0} (r : Result X E) (view : X → B) (old new : PlainNotes) (v : A) (m : Noted A) (f : A → B) → Adds old new v m → IfOk r (λ x. view x ≡ f v) → IfOk r (λ x. Adds old new (view x) (m >>= (λ a. done (f a))))
made-noted (Err e) view old new v m f h k = k
made-noted (Ok x) view old new v m f h k = (k ∙ ap f h.0, h.1)

pub alone-noted : {X E : Type 0} (r : Result X E) (view : X → List PlainChoice) (p : PlainProgram) (g : PlainGoal) (c : PlainChoice) (old new : PlainNotes) (v : Option PlainChoice) → Adds old new v (tried p g c) → IfOk r (λ x. view x ≡ option_to_list v) → IfOk r (λ x. Adds old new (view x) (tried_all p g (c ∷ [])))
alone-noted (Err e) view p g c old new v h k = k
alone-noted (Ok x) view p g c old new v h k =
    let e = sym (alone-tried p g c old) in
    (k ∙ (ap option_to_list h.0 ∙ ap (λ (o : Outcome (List PlainChoice)). o.value) e), h.1 ∙ ap (λ (o : Outcome (List PlainChoice)). o.notes) e)

-- ---- at a cell

pub scan-goes : (p : PlainProgram) (g : PlainGoal) (x : PlainSought) (cs : List (Linear × Linear)) (j : ℕ) (c : Linear × Linear) (old new : PlainNotes) → drop j cs ≡ c ∷ drop (suc j) cs → Adds old new goes_on (sought_scan p g x j c) → first_sought p g x j (drop j cs) old ≡ first_sought p g x (j + 1) (drop (j + 1) cs) new
unfolding first_sought
scan-goes p g x cs j c old new d h =
    let rest : Noted (Option PlainChoice) = first_sought p g x (suc j) (drop (suc j) cs) in
    let e : suc j ≡ j + 1 = omega arith in
    ap (λ xs. first_sought p g x j xs old) d
    ∙ (ap (λ s. unless_over s rest (sought_scan p g x j c old).notes) (sym h.0)
    ∙ (ap rest (sym h.1) ∙ ap (λ i. first_sought p g x i (drop i cs) new) e))

pub scan-finds : (p : PlainProgram) (g : PlainGoal) (x : PlainSought) (cs : List (Linear × Linear)) (j : ℕ) (c : Linear × Linear) (k : PlainChoice) (old new : PlainNotes) → drop j cs ≡ c ∷ drop (suc j) cs → Adds old new (finds k) (sought_scan p g x j c) → first_sought p g x j (drop j cs) old ≡ record { value = Some k; notes = new }
unfolding first_sought
scan-finds p g x cs j c k old new d h =
    let rest : Noted (Option PlainChoice) = first_sought p g x (suc j) (drop (suc j) cs) in
    ap (λ xs. first_sought p g x j xs old) d
    ∙ (ap (λ s. unless_over s rest (sought_scan p g x j c old).notes) (sym h.0) ∙ ap (λ m. record { value = Some k; notes = m }) (sym h.1))

pub scan-ends : (p : PlainProgram) (g : PlainGoal) (x : PlainSought) (cs : List (Linear × Linear)) (j : ℕ) (c : Linear × Linear) (old new : PlainNotes) → drop j cs ≡ c ∷ drop (suc j) cs → Adds old new ends (sought_scan p g x j c) → first_sought p g x j (drop j cs) old ≡ record { value = None; notes = new }
unfolding first_sought
scan-ends p g x cs j c old new d h =
    let rest : Noted (Option PlainChoice) = first_sought p g x (suc j) (drop (suc j) cs) in
    ap (λ xs. first_sought p g x j xs old) d
    ∙ (ap (λ s. unless_over s rest (sought_scan p g x j c old).notes) (sym h.0) ∙ ap (λ m. record { value = None; notes = m }) (sym h.1))

-- ---- lists in two parts

pub front-lists : (xs : List (Vec Row)) (m : ℕ) → m ≤ 2 → m ≤ length xs → (m < 2 → length xs ≤ m) → lists_in (take m xs) ≡ take 2 (lists_in xs)
front-lists [] zero a b f = refl
front-lists [] (suc m) a b f = absurd (omega arith)
front-lists (x ∷ xs) zero a b f = let h : suc (length xs) ≤ 0 = f (omega arith) in absurd (omega arith)
front-lists (x ∷ []) (suc zero) a b f = refl
front-lists (x ∷ y ∷ xs) (suc zero) a b f = let h : suc (suc (length xs)) ≤ 1 = f (omega arith) in absurd (omega arith)
front-lists (x ∷ []) (suc (suc m)) a b f = absurd (omega arith)
front-lists (x ∷ y ∷ xs) (suc (suc zero)) a b f = refl
front-lists (x ∷ y ∷ xs) (suc (suc (suc m))) a b f = absurd (omega arith)

pub back-lists : (xs : List (Vec Row)) (m : ℕ) → m ≤ 2 → m ≤ length xs → (m < 2 → length xs ≤ m) → lists_in (drop m xs) ≡ drop 2 (lists_in xs)
back-lists [] zero a b f = refl
back-lists [] (suc m) a b f = absurd (omega arith)
back-lists (x ∷ xs) zero a b f = let h : suc (length xs) ≤ 0 = f (omega arith) in absurd (omega arith)
back-lists (x ∷ []) (suc zero) a b f = refl
back-lists (x ∷ y ∷ xs) (suc zero) a b f = let h : suc (suc (length xs)) ≤ 1 = f (omega arith) in absurd (omega arith)
back-lists (x ∷ []) (suc (suc m)) a b f = absurd (omega arith)
back-lists (x ∷ y ∷ xs) (suc (suc zero)) a b f = refl
back-lists (x ∷ y ∷ xs) (suc (suc (suc m))) a b f = absurd (omega arith)

pub no-opened : (fs : List PlainFact) → (length fs == 0) ≡ is_empty fs
no-opened [] = refl
no-opened (f ∷ fs) = grind (arith, nat_tests)

pub room-lacks : (s : PlainState) (ms : List (Option Cert)) → longest_list < length s.sorts → false ≡ has_room_for s ms
room-lacks s ms h = sym (too-much (length s.sorts) (length (filter is_none ms)) longest_list h)
  where
    too-much : (a b most : ℕ) → most < a → nat_le (a + b) most ≡ false
    too-much a b most h = grind (arith, nat_tests)

pub room-is : (s : PlainState) (ms : List (Option Cert)) (n : ℕ) → length s.sorts ≤ longest_list → n ≡ count_by is_none ms → nat_le n (longest_list - length s.sorts) ≡ has_room_for s ms
room-is s ms n h e =
    ap (λ k. nat_le k (longest_list - length s.sorts)) (e ∙ sym (length-filter is_none ms))
    ∙ same (length s.sorts) (length (filter is_none ms)) longest_list h
  where
    same : (a b most : ℕ) → a ≤ most → nat_le b (most - a) ≡ nat_le (a + b) most
    same a b most h = grind (arith, nat_tests)

pub split-at : {A : Type 0} (xs : List A) (i : ℕ) (x : A) → i < length xs → x ≡ get_or xs i x → drop i xs ≡ x ∷ drop (suc i) xs
split-at xs i x h e = drop-cons xs i x h ∙ ap (λ y. y ∷ drop (suc i) xs) (sym e)
