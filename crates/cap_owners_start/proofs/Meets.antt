-- Items that are met, one after the other, and lists that are made.
use Rattle.std.proofs.Common.{◌≡◌, ℕ, zero, suc, ◌+◌, ◌<◌, ◌≤◌, List, [], ◌∷◌, ◌++◌, map, length, get_or, drop, drop-cons, add-one, replicate, arith, rules, refl, sym, ap, ◌∙◌, Option, Some, None, Err, ℤ, pos}
use Rattle.std.proofs.lemmas.List.{drop_all, drop_more, append_assoc}
use Rattle.cap_prog.specs.declared.assertion.Item.{Item}
use Rattle.cap_prog.specs.declared.assertion.Item.TheFolds.{the_lemmas}
use Rattle.cap_prog.specs.declared.assertion.Assertion.{Assertion}
use Rattle.cap_prog.specs.Program.{Items, items_of, PlainFunction}
use Rattle.cap_prog.specs.Views.{item_view, items_view}
use Rattle.cap_goal_spec.specs.States.{PlainEnv}
use Rattle.cap_goal_spec.specs.Environments.{zero_value, unbound}
use Rattle.cap_machine.specs.Machine.{Heap}
use Rattle.cap_machine_accounts.specs.Assertions.{NameValue, a_number}
use Rattle.cap_owners_spec.specs.Traced.{Traced, traced, ◌>>=◌}
use Rattle.cap_owners_spec.specs.Start.{Meeting, meets_item, meets_all, meets_if, unset, first_meeting}
use Rattle.cap_owners_values.specs.declared.error.TraceError.{TraceError}
use Rattle.cap_owners_values.specs.Views.{Traces}
use Rattle.cap_owners_values.proofs.Tracing.{stops, traces_same}

pub split_at : {X : Type 0} (xs : List X) (i : ℕ) (x : X) → i < length xs → x ≡ get_or xs i x → drop i xs ≡ x ∷ drop (i + 1) xs
split_at xs i x h e = rw add-one (drop-cons xs i x h ∙ ap (λ y. y ∷ drop (suc i) xs) (sym e))

abbrev pub list_view : List Item → Items
list_view is = items_of (map item_view is)

pub items_seen : (a : Assertion) → items_view a ≡ list_view a.items.items
items_seen a = search (rules, the_lemmas)

-- ---- items from a place on

abbrev pub met_from : List Item → ℕ → Meeting → Traced (Option Meeting)
met_from is i m = meets_all (list_view (drop i is)) m

abbrev then_met : List Item → ℕ → Option Meeting → Traced (Option Meeting)
then_met is i o = meets_if o (met_from is i)

met_next : (is : List Item) (i : ℕ) (x : Item) (m : Meeting) (whole : Traced (Option Meeting)) → i < length is → x ≡ get_or is i x → met_from is i m ≡ whole → whole ≡ meets_item (item_view x) m >>= then_met is (i + 1)
met_next is i x m whole h e w = sym w ∙ ap (λ xs. meets_all (list_view xs) m) (split_at is i x h e)

pub met_goes : (is : List Item) (i : ℕ) (x : Item) (m m' : Meeting) (whole : Traced (Option Meeting)) → i < length is → x ≡ get_or is i x → meets_item (item_view x) m ≡ traced (Some m') → met_from is i m ≡ whole → met_from is (i + 1) m' ≡ whole
met_goes is i x m m' whole h e q w = sym (met_next is i x m whole h e w ∙ ap (λ t. t >>= then_met is (i + 1)) q)

pub met_not : (is : List Item) (i : ℕ) (x : Item) (m : Meeting) (whole : Traced (Option Meeting)) → i < length is → x ≡ get_or is i x → meets_item (item_view x) m ≡ traced None → met_from is i m ≡ whole → whole ≡ traced None
met_not is i x m whole h e q w = met_next is i x m whole h e w ∙ ap (λ t. t >>= then_met is (i + 1)) q

pub met_stops : {C D : Type 0} (e : TraceError) (view : C → Option Meeting) (other : D → Option Meeting) (is : List Item) (i : ℕ) (x : Item) (m : Meeting) (whole : Traced (Option Meeting)) → i < length is → x ≡ get_or is i x → Traces {A = Option Meeting} {B = C} (Err e) view (meets_item (item_view x) m) → met_from is i m ≡ whole → Traces {A = Option Meeting} {B = D} (Err e) other whole
met_stops e view other is i x m whole h q t w = traces_same (Err e) other whole _ (met_next is i x m whole h q w) (stops e view other (meets_item (item_view x) m) (then_met is (i + 1)) t)

pub met_ends : (is : List Item) (i : ℕ) (m : Meeting) (whole : Traced (Option Meeting)) → length is ≤ i → met_from is i m ≡ whole → whole ≡ traced (Some m)
met_ends is i m whole h w = sym w ∙ ap (λ xs. meets_all (list_view xs) m) (drop_all i is h)

-- ---- lists that are made

replicate_suc : {X : Type 0} (n : ℕ) (x : X) → replicate (suc n) x ≡ replicate n x ++ x ∷ []
replicate_suc zero x = refl
replicate_suc (suc n) x = ap (λ xs. x ∷ xs) (replicate_suc n x)

replicate_more : {X : Type 0} (n : ℕ) (x : X) → replicate (n + 1) x ≡ replicate n x ++ x ∷ []
replicate_more n x = rw add-one (replicate_suc n x)

pub repeated_more : {X : Type 0} (start now next : List X) (n : ℕ) (x : X) → next ≡ now ++ x ∷ [] → now ≡ start ++ replicate n x → next ≡ start ++ replicate (n + 1) x
repeated_more start now next n x e h = e ∙ (ap (λ xs. xs ++ x ∷ []) h ∙ (append_assoc start (replicate n x) (x ∷ []) ∙ ap (λ xs. start ++ xs) (sym (replicate_more n x))))

pub replicate_sum : {X : Type 0} (m n : ℕ) (x : X) → replicate (m + n) x ≡ replicate m x ++ replicate n x
replicate_sum zero n x = let e : 0 + n ≡ n = omega arith in ap (λ k. replicate k x) e
replicate_sum (suc m) n x =
    let e : suc m + n ≡ suc (m + n) = omega arith in
    ap (λ k. replicate k x) e ∙ ap (λ xs. x ∷ xs) (replicate_sum m n x)

pub repeated_next : {A X : Type 0} (x : X) (now next : List X) (xs : List A) (i : ℕ) (whole : List X) (d : A) → i < length xs → next ≡ now ++ x ∷ [] → now ++ map (λ a. x) (drop i xs) ≡ whole → next ++ map (λ a. x) (drop (i + 1) xs) ≡ whole
repeated_next x now next xs i whole d h e w =
    let rest = map (λ a. x) (drop (i + 1) xs) in
    ap (λ us. us ++ rest) e ∙ (append_assoc now (x ∷ []) rest ∙ (ap (λ us. now ++ map (λ a. x) us) (sym (drop_more xs i d h)) ∙ w))

-- ---- where a start is met

pub meeting_so : (f : PlainFunction) (args : List ℤ) (heap : Heap) (env : PlainEnv) (names wildcards : List NameValue) (facts : List (ℤ × ℤ)) (cells : Heap) → env ≡ map (λ z. Some zero_value) args ++ (unbound f.locals ++ unbound (length f.fixed)) → names ≡ map a_number args ++ (replicate f.locals (a_number (pos 0)) ++ map unset f.fixed) → wildcards ≡ [] → facts ≡ [] → cells ≡ heap → ◌≡◌ {A = Meeting} (record { env = env; fill = record { names = names; wildcards = wildcards; facts = facts }; heap = cells }) (first_meeting f args heap)
meeting_so f args heap env names wildcards facts cells e q w s k =
    let n : env ≡ map (λ z. Some zero_value) args ++ unbound (f.locals + length f.fixed) = e ∙ ap (λ us. map (λ z. Some zero_value) args ++ us) (sym (replicate_sum f.locals (length f.fixed) None)) in
    rw (n, q, w, s, k) refl
