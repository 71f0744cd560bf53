-- Members of lists by their place.
use Rattle.std.proofs.Common.{◌≡◌, ℕ, zero, suc, ◌<◌, ◌≤◌, List, [], ◌∷◌, ◌++◌, map, length, get_or, Option, Some, None, refl, sym, ap, ◌∙◌, arith}
use Rattle.std.specs.Prelude.{slice_get, is_some}
use Rattle.std.specs.Borrow.{Bor}
use Rattle.std.specs.Global.{Vec}
use Rattle.cap_farkas.specs.declared.cert.Cert.{Cert}
use Rattle.cap_prog.specs.declared.assertion.Item.{Item}
use Rattle.cap_prog.specs.Views.{item_view}
use Rattle.cap_goal.specs.Views.{items_in}
use Rattle.cap_closure_decide.specs.Noting.{certs_seen}
use Rattle.cap_offer.specs.Views.{first_of_items}
use Rattle.cap_prog.specs.Program.{Items, none, items_of, append_items, PlainRegionType, PlainProgram}
use Rattle.cap_goal_spec.specs.States.{PlainFact}
use Rattle.cap_offer_spec.specs.Listing.{type_of_opened}

pub at-place : {A : Type 0} (xs : List A) (i : ℕ) (x : A) → i < length xs → x ≡ get_or xs i x → slice_get xs i ≡ Some x
at-place [] i x h e = absurd (omega arith)
at-place (y ∷ ys) zero x h e = ap Some (sym e)
at-place (y ∷ ys) (suc i) x h e = at-place ys i x (omega arith) e

pub past-end : {A : Type 0} (xs : List A) (i : ℕ) → length xs ≤ i → slice_get xs i ≡ None
past-end [] i h = refl
past-end (y ∷ ys) zero h = absurd (omega arith)
past-end (y ∷ ys) (suc i) h = past-end ys i (omega arith)

pub opened-type : (p : PlainProgram) (fs : List PlainFact) (o : ℕ) (f : PlainFact) (k : Option PlainRegionType) → slice_get fs o ≡ Some f → k ≡ slice_get p.regions f.kind → k ≡ type_of_opened p (slice_get fs o)
opened-type p fs o f k q e = e ∙ sym (ap (type_of_opened p) q)

pub no-opened-type : (p : PlainProgram) (fs : List PlainFact) (o : ℕ) → length fs ≤ o → None ≡ type_of_opened p (slice_get fs o)
no-opened-type p fs o h = sym (ap (type_of_opened p) (past-end fs o h))

pub some-seen : (o : Option (Vec Cert)) → is_some o ≡ is_some (certs_seen o)
some-seen None = refl
some-seen (Some cs) = refl

-- ---- items

last-list : (lists : List (Bor (List Item))) (l : Bor (List Item)) (after : Items) → items_in (lists ++ l ∷ []) after ≡ append_items (items_of (map item_view l.now)) (items_in lists after)
last-list [] l after = refl
last-list (m ∷ lists) l after = last-list lists l (append_items (items_of (map item_view m.now)) after)

no-item : (is : List Item) (after : Items) → length is < 1 → append_items (items_of (map item_view is)) after ≡ after
no-item [] after h = refl
no-item (i ∷ is) after h = absurd (omega arith)

pub none-last : (lists : List (Bor (List Item))) (l : Bor (List Item)) → length l.now < 1 → first_of_items (items_in (lists ++ l ∷ []) none) ≡ first_of_items (items_in lists none)
none-last lists l h = ap first_of_items (last-list lists l none ∙ no-item l.now (items_in lists none) h)

first-there : (is : List Item) (i : Item) (after : Items) → 0 < length is → i ≡ get_or is 0 i → first_of_items (append_items (items_of (map item_view is)) after) ≡ Some (item_view i)
first-there [] i after h e = absurd (omega arith)
first-there (j ∷ is) i after h e = ap (λ x. Some (item_view x)) (sym e)

pub first-last : (lists : List (Bor (List Item))) (l : Bor (List Item)) (i : Item) → 0 < length l.now → i ≡ get_or l.now 0 i → first_of_items (items_in (lists ++ l ∷ []) none) ≡ Some (item_view i)
first-last lists l i h e = ap first_of_items (last-list lists l none) ∙ first-there l.now i (items_in lists none) h e
