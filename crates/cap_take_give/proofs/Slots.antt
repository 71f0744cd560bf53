-- Slots that are given, one after the other, and names of a term.
use Rattle.std.proofs.Common.{◌≡◌, ℕ, ℤ, suc, ◌+◌, ◌<◌, ◌≤◌, Bool, true, false, Option, Some, None, List, [], ◌∷◌, ◌++◌, length, drop, get_or, add-one, refl, sym, ap, subst, ◌∙◌, rules}
use Rattle.std.proofs.lemmas.List.{append_assoc, append-nil, drop_all}
use Rattle.std.proofs.lemmas.Option.{slice_get-get_or}
use Rattle.std.specs.Prelude.{is_some, IfOk, Result, Ok, Err}
use Rattle.cap_lin.specs.Linear.{Linear}
use Rattle.cap_lin.specs.declared.row.Sort.{Sort}
use Rattle.cap_lin.specs.declared.row.Sort.TheVariants.{Int}
use Rattle.cap_prog.specs.declared.assertion.Slot.{Slot}
use Rattle.cap_prog.specs.declared.assertion.Comp.{Comp}
use Rattle.cap_prog.specs.declared.assertion.Assertion.{Assertion}
use Rattle.cap_prog.specs.declared.assertion.Item.TheVariants as items
use Rattle.cap_prog.specs.declared.assertion.Item.TheFolds.{the_lemmas}
use Rattle.cap_prog.specs.Program.{choose, PlainProgram}
use Rattle.cap_prog.specs.Views.{item_view, items_view}
use Rattle.cap_prog.specs.declared.assertion.Slot.TheVariants.{Any}
use Rattle.cap_goal_spec.specs.States.{PlainState}
use Rattle.cap_goal_spec.specs.Environments.{term_of}
use Rattle.cap_rules.specs.Attempts.{Attempt, unit, ◌>>=◌}
use Rattle.cap_rules.specs.Making.{env_at, fresh, with_sort}
use Rattle.cap_rules.specs.Giving.{Given, given, name_as, name_parts, give_slot, give_slots, give_item}
use Rattle.cap_rules_steps.specs.Walks.{Makes, giving}
use Rattle.cap_rules_steps.specs.declared.error.RuleError.{RuleError}
use Rattle.cap_take_give.specs.Given.{gives}
use Rattle.cap_rules_steps.proofs.Walking.{Goes, split-at, then_made, unmade, done, done_as}

-- ---- the names of a term

abbrev pub names-left : ℕ → Sort → PlainState → List (ℕ × ℤ) → Attempt PlainState
names-left e o s ps = name_parts s e o ps

abbrev pub name-step : ℕ → Sort → PlainState → ℕ × ℤ → Attempt PlainState
name-step e o s p = name_as s e o p.0 (term_of (env_at s e) p.0)

pub names_go : (e : ℕ) (o : Sort) → Goes (names-left e o) (name-step e o)
unfolding Goes
names_go e o s p ps = refl

same : {A : Type 0} {x y : A} → Some x ≡ Some y → x ≡ y
same e = cc

-- the part of a number, whatever it would be past the end
pub part-at : (ps : List (ℕ × ℤ)) (i : ℕ) (d : ℕ × ℤ) → i < length ps → get_or ps i d ≡ get_or ps i (get_or ps i d)
part-at ps i d h = same (sym (slice_get-get_or ps i d h) ∙ slice_get-get_or ps i (get_or ps i d) h)

-- ---- slots

-- what is left of an attempt to give terms, behind these
pub record LeadsGiven (ys : List Linear) (rest whole : Attempt (Given (List Linear))) : Type 0 where
  pub ok : (s : PlainState) (zs : List Linear) → Makes (Ok (given s zs)) rest → Makes (Ok (given s (ys ++ zs))) whole
  pub fails : (e : RuleError) → Makes (Err e) rest → Makes (Err e) whole

pub given-first : (o : Attempt (Given (List Linear))) → LeadsGiven [] o o
given-first o = record { ok = λ s zs k. k; fails = λ e k. k }

one-more : (ys : List Linear) (y : Linear) (zs : List Linear) → ys ++ (y ∷ zs) ≡ (ys ++ y ∷ []) ++ zs
one-more ys y zs = sym (append_assoc ys (y ∷ []) zs)

abbrev add-first : Linear → Given (List Linear) → Attempt (Given (List Linear))
add-first y more = unit (given more.state (y ∷ more.value))

abbrev after-slot : ℕ → List Slot → Given Linear → Attempt (Given (List Linear))
after-slot e xs g = give_slots g.state e xs >>= λ more. add-first g.value more

pub given-next : (s t : PlainState) (e : ℕ) (xs : List Slot) (i : ℕ) (x : Slot) (y : Linear) (ys : List Linear) (whole : Attempt (Given (List Linear))) → i < length xs → x ≡ get_or xs i x → Makes (Ok (given t y)) (give_slot s e Int x) → LeadsGiven ys (give_slots s e (drop i xs)) whole → LeadsGiven (ys ++ y ∷ []) (give_slots t e (drop (i + 1) xs)) whole
given-next s t e xs i x y ys whole h q m l =
    let rest = drop (suc i) xs in
    rw add-one (record {
      ok = λ u zs k. subst (λ us. Makes (Ok (given u us)) whole) (one-more ys y zs) (l.ok u (y ∷ zs) (rw (split-at xs i x h q) (then_made _ (give_slot s e Int x) (after-slot e rest) (given t y) m (then_made _ (give_slots t e rest) (add-first y) (given u zs) k (done (given u (y ∷ zs)))))));
      fails = λ f k. l.fails f (rw (split-at xs i x h q) (then_made _ (give_slot s e Int x) (after-slot e rest) (given t y) m (unmade f (give_slots t e rest) (add-first y) k)));
    })

pub given-fail : (s : PlainState) (e : ℕ) (xs : List Slot) (i : ℕ) (x : Slot) (ys : List Linear) (whole : Attempt (Given (List Linear))) (f : RuleError) → i < length xs → x ≡ get_or xs i x → Makes (Err f) (give_slot s e Int x) → LeadsGiven ys (give_slots s e (drop i xs)) whole → Makes (Err f) whole
given-fail s e xs i x ys whole f h q m l = l.fails f (rw (split-at xs i x h q) (unmade f (give_slot s e Int x) (after-slot e (drop (suc i) xs)) m))

pub given-end : (s : PlainState) (e : ℕ) (xs : List Slot) (i : ℕ) (ys : List Linear) (whole : Attempt (Given (List Linear))) → length xs ≤ i → LeadsGiven ys (give_slots s e (drop i xs)) whole → Makes (Ok (given s ys)) whole
given-end s e xs i ys whole h l = subst (λ zs. Makes (Ok (given s zs)) whole) (append-nil ys) (l.ok s [] (rw (drop_all i xs h) (done (given s []))))

-- ---- one name

pub name-stays : (s : PlainState) (e : ℕ) (o : Sort) (x : ℕ) (t : Option Linear) (b : Bool) → b ≡ is_some t → b ≡ true → Makes (Ok s) (name_as s e o x t)
name-stays s e o x None b h k = cc
name-stays s e o x (Some t) b h k = done s

pub name-new : (s : PlainState) (e : ℕ) (o : Sort) (x : ℕ) (t : Option Linear) (b : Bool) (r : Result PlainState RuleError) → b ≡ is_some t → b ≡ false → Makes r (name_as s e o x None) → Makes r (name_as s e o x t)
name-new s e o x None b r h k m = m
name-new s e o x (Some t) b r h k m = cc

-- ---- one slot

pub slot-fresh : (s t : PlainState) (e : ℕ) (o : Sort) (r : Result Linear RuleError) → Makes (giving r t) (with_sort s o) → IfOk r (λ x. x ≡ fresh s) → Makes (gives r t) (give_slot s e o Any)
slot-fresh s t e o (Ok x) h k = then_made _ (with_sort s o) (λ u. unit (given u (fresh s))) t h (done_as _ _ (ap (given t) k))
slot-fresh s t e o (Err f) h k = unmade f (with_sort s o) (λ u. unit (given u (fresh s))) h

-- ---- a conditional

pub choose-seen : (c : Comp) (a b : Assertion) → item_view (items.Choose c a b) ≡ choose c (items_view a) (items_view b)
choose-seen c a b = search (rules, the_lemmas)

pub choose-stays : (p : PlainProgram) (s : PlainState) (e : ℕ) (c : Comp) (a b : Assertion) → Makes (Ok s) (give_item p s e (item_view (items.Choose c a b)))
choose-stays p s e c a b = subst (λ i. Makes (Ok s) (give_item p s e i)) (sym (choose-seen c a b)) (done s)
