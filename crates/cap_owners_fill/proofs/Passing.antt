-- Items that are given, one after the other, up to a conditional.
use Rattle.std.proofs.Common.{◌≡◌, ℕ, ◌+◌, ◌-◌, ◌<◌, ◌≤◌, true, false, List, [], ◌∷◌, ◌++◌, length, get_or, take, drop, arith, refl, sym, ap, ◌∙◌, Some, None, pos, rules}
use Rattle.std.proofs.lemmas.Bool.Decides.{nat_tests}
use Rattle.std.specs.Prelude.{◌==◌, option_map, IfOk, Result, Ok, Err}
use Rattle.std.specs.Borrow.{Bor}
use Rattle.std.proofs.lemmas.List.{drop_all, drop_more, take_more, take_all}
use Rattle.cap_prog.specs.declared.assertion.Item.{Item}
use Rattle.cap_prog.specs.declared.assertion.Item.TheFolds.{the_lemmas}
use Rattle.cap_prog.specs.declared.assertion.Assertion.{Assertion}
use Rattle.cap_prog.specs.Program.{PlainItem, compare, choose, fact, atom, cell, Items, none, item, append_items}
use Rattle.cap_prog.specs.Views.{item_view, items_view as assertion_items}
use Rattle.cap_goal.specs.Views.{items_in}
use Rattle.cap_machine_accounts.specs.Assertions.{NameValue, a_number}
use Rattle.cap_owners_spec.specs.Filling.{Giving, Parting, parting, give_all, give_item, give_wildcard}
use Rattle.cap_owners_spec.specs.Walks.{no_items}
use Rattle.cap_goal_spec.specs.States.{PlainEnv}
use Rattle.cap_owners_spec.specs.Track.{Fill}
use Rattle.cap_owners_fill.specs.declared.given.Given as code_given
use Rattle.cap_owners_fill.specs.Views.{given_all, IsGivenSo, IsGiven, list_view, Conditional, conditional_of, parted, IsGivenWhole, IsGivenTo, sides_of}
use Rattle.cap_owners_fill.proofs.Meeting.{split_at}

-- ---- a walk along a list that changes a state

-- what the walk does at a member, and then from the rest on
abbrev pub Goes : {X S T : Type 0} → (List X → S → T) → (X → S → S) → Type 0
Goes {X} {S} F step = (x : X) (xs : List X) (s : S) → F (x ∷ xs) s ≡ F xs (step x s)

pub goes_on : {X S T : Type 0} (F : List X → S → T) (step : X → S → S) → Goes F step → (xs : List X) (i : ℕ) (x : X) (s s' : S) (whole : T) → i < length xs → x ≡ get_or xs i x → s' ≡ step x s → F (drop i xs) s ≡ whole → F (drop (i + 1) xs) s' ≡ whole
goes_on F step g xs i x s s' whole h e q w =
    ap (F (drop (i + 1) xs)) q ∙ (sym (g x (drop (i + 1) xs) s) ∙ (ap (λ ys. F ys s) (sym (split_at xs i x h e)) ∙ w))

pub ends : {X S T : Type 0} (F : List X → S → T) (xs : List X) (i : ℕ) (s : S) (whole : T) → length xs ≤ i → F (drop i xs) s ≡ whole → F [] s ≡ whole
ends F xs i s whole h w = ap (λ ys. F ys s) (sym (drop_all i xs h)) ∙ w

-- ---- one item

pub choose_seen : (c : Conditional) (i : PlainItem) (behind : Items) → conditional_of i behind ≡ Some c → (i ≡ choose c.condition c.holding c.failing) × (c.behind ≡ behind)
choose_seen c (choose d a b) behind e = (cc, cc)
choose_seen c (compare d) behind e = absurd (cc)
choose_seen c (fact place r k args x) behind e = absurd (cc)
choose_seen c (atom place r k i asked) behind e = absurd (cc)
choose_seen c (cell place a x) behind e = absurd (cc)

onward : (names : List NameValue) (i : PlainItem) (behind more : Items) (g : Giving) → conditional_of i behind ≡ None → give_all names (item i more) g ≡ give_all names more (give_item names i g)
onward names (compare c) behind more g e = refl
onward names (choose c a b) behind more g e = absurd (cc)
onward names (fact place r k args x) behind more g e = refl
onward names (atom place r k i asked) behind more g e = refl
onward names (cell place a x) behind more g e = refl

no_parting : (i : PlainItem) (behind more : Items) → conditional_of i behind ≡ None → parting (item i more) ≡ parting more
no_parting (compare c) behind more e = refl
no_parting (choose c a b) behind more e = absurd (cc)
no_parting (fact place r k args x) behind more e = refl
no_parting (atom place r k i asked) behind more e = refl
no_parting (cell place a x) behind more e = refl

-- ---- a list

-- a list from a place on is given, and then what comes behind it, as the whole list is
pub record Remains (names : List NameValue) (list : List Item) (place : ℕ) (first now : Giving) : Type 0 where
  pub giving : (after : Items) → give_all names (append_items (list_view list) after) first ≡ give_all names (append_items (list_view (drop place list)) after) now
  pub parting : (after : Items) → parting (append_items (list_view list) after) ≡ parting (append_items (list_view (drop place list)) after)

pub remains_first : (names : List NameValue) (list : List Item) (g : Giving) → Remains names list 0 g g
remains_first names list g = record { giving = λ after. refl; parting = λ after. refl }

next_view : (list : List Item) (place : ℕ) (x : Item) (after : Items) → place < length list → x ≡ get_or list place x → append_items (list_view (drop place list)) after ≡ item (item_view x) (append_items (list_view (drop (place + 1) list)) after)
next_view list place x after h e = ap (λ xs. append_items (list_view xs) after) (split_at list place x h e)

pub remains_next : (names : List NameValue) (list : List Item) (place : ℕ) (x : Item) (first now next : Giving) → place < length list → x ≡ get_or list place x → next ≡ give_item names (item_view x) now → conditional_of (item_view x) (list_view (drop (place + 1) list)) ≡ None → Remains names list place first now → Remains names list (place + 1) first next
remains_next names list place x first now next h e q n r =
    let behind = list_view (drop (place + 1) list) in
    record {
      giving = λ after. r.giving after ∙ (ap (λ is. give_all names is now) (next_view list place x after h e) ∙ (onward names (item_view x) behind (append_items behind after) now n ∙ ap (give_all names (append_items behind after)) (sym q)));
      parting = λ after. r.parting after ∙ (ap parting (next_view list place x after h e) ∙ no_parting (item_view x) behind (append_items behind after) n);
    }

parted_at : (c : Conditional) (behind after : Items) → c.behind ≡ behind → parting (item (choose c.condition c.holding c.failing) (append_items behind after)) ≡ Some (parted c after)
parted_at c behind after e = rw (← e) refl

pub given_to : (names : List NameValue) (list : List Item) (place : ℕ) (x : Item) (c : Conditional) (first now next : Giving) → place < length list → x ≡ get_or list place x → next ≡ give_item names (item_view x) now → conditional_of (item_view x) (list_view (drop (place + 1) list)) ≡ Some c → Remains names list place first now → IsGivenTo names (list_view list) first next c
given_to names list place x c first now next h e q k r =
    let behind = list_view (drop (place + 1) list) in
    let s = choose_seen c (item_view x) behind k in
    record {
      giving = λ after. r.giving after ∙ (ap (λ is. give_all names is now) (next_view list place x after h e) ∙ (ap (λ i. give_all names (item i (append_items behind after)) now) s.0 ∙ (ap (λ i. give_item names i now) (sym s.0) ∙ sym q)));
      parting = λ after. r.parting after ∙ (ap parting (next_view list place x after h e) ∙ (ap (λ i. parting (item i (append_items behind after))) s.0 ∙ parted_at c behind after s.1));
    }

pub given_whole : (names : List NameValue) (list : List Item) (place : ℕ) (first now : Giving) → length list ≤ place → Remains names list place first now → IsGivenWhole names (list_view list) first now
given_whole names list place first now h r = record {
  giving = λ after. r.giving after ∙ ap (λ xs. give_all names (append_items (list_view xs) after) now) (drop_all place list h);
  parting = λ after. r.parting after ∙ ap (λ xs. parting (append_items (list_view xs) after)) (drop_all place list h);
}

-- ---- lists of which the last comes first

last_first : (lists : List (Bor (List Item))) (l : Bor (List Item)) (after : Items) → items_in (lists ++ l ∷ []) after ≡ append_items (list_view l.now) (items_in lists after)
last_first [] l after = refl
last_first (m ∷ lists) l after = last_first lists l (append_items (list_view m.now) after)

-- the first lists, so many, are to be given yet
pub record Left (names : List NameValue) (lists : List (Bor (List Item))) (count : ℕ) (first now : Giving) : Type 0 where
  pub giving : give_all names (items_in lists none) first ≡ give_all names (items_in (take count lists) none) now
  pub parting : parting (items_in lists none) ≡ parting (items_in (take count lists) none)

pub left_first : (names : List NameValue) (lists : List (Bor (List Item))) (count : ℕ) (g h : Giving) → count ≡ length lists → h ≡ g → Left names lists count g h
left_first names lists count g h e q =
    let t : take count lists ≡ lists = rw e (take_all (length lists) lists (omega arith)) in
    record {
      giving = rw (t, q) refl;
      parting = rw t refl;
    }

next_list : (lists : List (Bor (List Item))) (count : ℕ) (l : Bor (List Item)) → 0 < count → count ≤ length lists → l ≡ get_or lists (count - 1) l → items_in (take count lists) none ≡ append_items (list_view l.now) (items_in (take (count - 1) lists) none)
next_list lists count l h k e =
    let n : count ≡ (count - 1) + 1 = omega arith in
    let t : take ((count - 1) + 1) lists ≡ take (count - 1) lists ++ get_or lists (count - 1) l ∷ [] = take_more lists (count - 1) l (omega arith) in
    ap (λ m. items_in (take m lists) none) n ∙ (ap (λ ls. items_in ls none) t ∙ (ap (λ m. items_in (take (count - 1) lists ++ m ∷ []) none) (sym e) ∙ last_first (take (count - 1) lists) l none))

pub left_next : (names : List NameValue) (lists : List (Bor (List Item))) (count : ℕ) (l : Bor (List Item)) (first now next : Giving) → 0 < count → count ≤ length lists → l ≡ get_or lists (count - 1) l → IsGivenWhole names (list_view l.now) now next → Left names lists count first now → Left names lists (count - 1) first next
left_next names lists count l first now next h k e g r =
    let n = next_list lists count l h k e in
    let after = items_in (take (count - 1) lists) none in
    record {
      giving = r.giving ∙ (ap (λ is. give_all names is now) n ∙ g.giving after);
      parting = r.parting ∙ (ap parting n ∙ g.parting after);
    }

pub left_to : (names : List NameValue) (lists : List (Bor (List Item))) (count : ℕ) (l : Bor (List Item)) (first now next : Giving) (c : Conditional) → 0 < count → count ≤ length lists → l ≡ get_or lists (count - 1) l → IsGivenTo names (list_view l.now) now next c → Left names lists count first now → (give_all names (items_in lists none) first ≡ next) × (parting (items_in lists none) ≡ Some (parted c (items_in (take (count - 1) lists) none)))
left_to names lists count l first now next c h k e g r =
    let n = next_list lists count l h k e in
    let after = items_in (take (count - 1) lists) none in
    (r.giving ∙ (ap (λ is. give_all names is now) n ∙ g.giving after), r.parting ∙ (ap parting n ∙ g.parting after))

-- ---- whether there are items

pub not_done : (a b : Items) → no_items a ≡ false → no_items (append_items a b) ≡ false
not_done none b h = absurd (cc)
not_done (item i a) b h = refl

pub done_first : (a b : Items) → no_items a ≡ true → no_items (append_items a b) ≡ no_items b
done_first none b h = refl
done_first (item i a) b h = absurd (cc)

pub is_empty_seen : (xs : List Item) → (length xs == 0) ≡ no_items (list_view xs)
is_empty_seen [] = refl
is_empty_seen (x ∷ xs) = let t : (length (x ∷ xs) == 0) ≡ false = grind (arith, nat_tests) in t

pub assertion_seen : (a : Assertion) → assertion_items a ≡ list_view a.items.items
assertion_seen a = search (rules, the_lemmas)

some_in : (ls : List (Bor (List Item))) (after : Items) → no_items after ≡ false → no_items (items_in ls after) ≡ false
some_in [] after h = h
some_in (l ∷ ls) after h = some_in ls (append_items (list_view l.now) after) (some_append (list_view l.now) after h)
  where
    some_append : (a b : Items) → no_items b ≡ false → no_items (append_items a b) ≡ false
    some_append none b h = h
    some_append (item i a) b h = refl

before_none : (a : Items) → no_items (append_items a none) ≡ no_items a
before_none none = refl
before_none (item i a) = refl

-- the lists from a place on leave nothing, if those behind it don't
pub record Checked (lists : List (Bor (List Item))) (place : ℕ) : Type 0 where
  pub same : items_in lists none ≡ items_in (drop place lists) none

pub checked_some : (lists : List (Bor (List Item))) (place : ℕ) (l : Bor (List Item)) → place < length lists → l ≡ get_or lists place l → no_items (list_view l.now) ≡ false → Checked lists place → no_items (items_in lists none) ≡ false
checked_some lists place l h e n c =
    ap no_items (c.same ∙ ap (λ ls. items_in ls none) (split_at lists place l h e)) ∙ some_in (drop (place + 1) lists) (append_items (list_view l.now) none) (before_none (list_view l.now) ∙ n)

is_none : (a : Items) → no_items a ≡ true → append_items a none ≡ none
is_none none h = refl
is_none (item i a) h = absurd (cc)

pub checked_next : (lists : List (Bor (List Item))) (place : ℕ) (l : Bor (List Item)) → place < length lists → l ≡ get_or lists place l → no_items (list_view l.now) ≡ true → Checked lists place → Checked lists (place + 1)
checked_next lists place l h e n c =
    record { same = c.same ∙ (ap (λ ls. items_in ls none) (split_at lists place l h e) ∙ ap (items_in (drop (place + 1) lists)) (is_none (list_view l.now) n)) }

pub checked_all : (lists : List (Bor (List Item))) (place : ℕ) → length lists ≤ place → Checked lists place → no_items (items_in lists none) ≡ true
checked_all lists place h c = ap no_items (c.same ∙ ap (λ ls. items_in ls none) (drop_all place lists h))

-- ---- what is brought

given_so : (f : Fill) (env : PlainEnv) (items : Items) (by : Giving) (x : Parting) (g : code_given.Given) → given_all f env items ≡ by → parting items ≡ Some x → IsGivenSo by (Some (sides_of x)) g → IsGiven f env items g
given_so f env items by x g e q h = record {
  new = h.new ∙ ap (λ b. b.new) (sym e);
  wildcards = h.wildcards ∙ ap (λ b. b.wildcards) (sym e);
  parting = h.parting ∙ ap (option_map sides_of) (sym q);
}

pub made_so : {E : Type 0} (r : Result code_given.Given E) (f : Fill) (env : PlainEnv) (items : Items) (by : Giving) (x : Parting) → given_all f env items ≡ by → parting items ≡ Some x → IfOk r (IsGivenSo by (Some (sides_of x))) → IfOk r (IsGiven f env items)
made_so (Ok g) f env items by x e q h = given_so f env items by x g e q h
made_so (Err d) f env items by x e q h = tt

-- ---- a `_`

wildcard_next : (env : PlainEnv) (new ws : List NameValue) (v : NameValue) (rest new' : List NameValue) → ws ≡ v ∷ rest → new' ≡ new ++ take 1 ws → ◌≡◌ {A = Giving} (record { env = env; new = new'; wildcards = rest }) (give_wildcard ws (record { env = env; new = new; wildcards = ws }))
wildcard_next env new ws v rest new' e q =
    rw e (ap (λ (ns : List NameValue). record { env = env; new = ns; wildcards = rest }) (q ∙ ap (λ us. new ++ take 1 us) e))

pub wildcard_given : (env : PlainEnv) (new all : List NameValue) (used : ℕ) (next new' : List NameValue) → used < length all → next ≡ take 1 (drop used all) → new' ≡ new ++ next → ◌≡◌ {A = Giving} (record { env = env; new = new'; wildcards = drop (used + 1) all }) (give_wildcard (drop used all) (record { env = env; new = new; wildcards = drop used all }))
wildcard_given env new all used next new' l e q =
    wildcard_next env new (drop used all) (get_or all used (a_number (pos 0))) (drop (used + 1) all) new' (drop_more all used (a_number (pos 0)) l) (q ∙ ap (λ us. new ++ us) e)

pub wildcard_none : (g : Giving) → g.wildcards ≡ [] → g ≡ give_wildcard g.wildcards g
wildcard_none g e = rw e refl
