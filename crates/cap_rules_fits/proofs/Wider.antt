-- What fits a scope fits each that knows no less.
use Rattle.std.proofs.Common.{◌≡◌, ℕ, zero, suc, List, [], ◌∷◌, ◌++◌, Option, Some, None}
use Rattle.std.specs.Prelude.{slice_get, IsSomeAnd}
use Rattle.cap_lin.specs.Linear.{Linear}
use Rattle.cap_lin.specs.declared.row.Sort.{Sort}
use Rattle.cap_lin.specs.declared.row.Sort.TheVariants.{Int, Perm}
use Rattle.cap_galg.specs.Algebras.{PlainAlgebra, unique, divisible, counting, indexed, atom_algebra}
use Rattle.cap_fm_spec.proofs.Lists.{each-map}
use Rattle.cap_prog.specs.declared.assertion.Comp.{Comp}
use Rattle.cap_prog.specs.declared.assertion.Slot.{Slot}
use Rattle.cap_prog.specs.declared.assertion.Slot.TheVariants.{Any, Is}
use Rattle.cap_prog.specs.declared.assertion.Asked.{Asked}
use Rattle.cap_prog.specs.declared.assertion.Asked.TheVariants.{One, Share, Src, Tok, At, From}
use Rattle.cap_prog.specs.Program.{PlainItem, compare, choose, fact, atom, cell, PlainProgram}
use Rattle.cap_prog.specs.Scopes.{Scope, HasSort, TermFits, SlotFits, CompFits}
use Rattle.cap_prog.specs.WellFormed.{AskedFits, AtomFits, FactFits, ItemFits}

abbrev pub IsWider : Scope → Scope → Type 0
IsWider a b = (s : Sort) (x : ℕ) → HasSort a s x → HasSort b s x

pub get-append : {A : Type 0} (xs ys : List A) (i : ℕ) (y : A) → slice_get xs i ≡ Some y → slice_get (xs ++ ys) i ≡ Some y
get-append [] ys i y e = cc
get-append (x ∷ xs) ys zero y e = e
get-append (x ∷ xs) ys (suc i) y e = get-append xs ys i y e

pub some-weaker : {A : Type 0} (o : Option A) (P Q : A → Type 0) → ((x : A) → P x → Q x) → IsSomeAnd o P → IsSomeAnd o Q
some-weaker None P Q f h = h
some-weaker (Some x) P Q f h = f x h

term-wider : (a b : Scope) → IsWider a b → (s : Sort) (t : Linear) → TermFits a s t → TermFits b s t
term-wider a b w s t h = each-map _ _ t.parts h (λ p k. w s p.0 k)

slot-wider : (a b : Scope) → IsWider a b → (s : Sort) (x : Slot) → SlotFits a s x → SlotFits b s x
slot-wider a b w s Any h = tt
slot-wider a b w s (Is t) h = term-wider a b w s t h

comp-wider : (a b : Scope) → IsWider a b → (c : Comp) → CompFits a c → CompFits b c
comp-wider a b w c h = (term-wider a b w c.sort c.left h.0, term-wider a b w c.sort c.right h.1)

asked-wider : (a b : Scope) → IsWider a b → (g : PlainAlgebra) (x : Asked) → AskedFits a g x → AskedFits b g x
asked-wider a b w unique One h = tt
asked-wider a b w divisible (Share s) h = slot-wider a b w Perm s h
asked-wider a b w counting (Src s) h = slot-wider a b w Int s h
asked-wider a b w counting (Tok s) h = slot-wider a b w Int s h
asked-wider a b w indexed (At s) h = slot-wider a b w Int s h
asked-wider a b w indexed (From s) h = slot-wider a b w Int s h
asked-wider a b w _ _ h = absurd h

pub item-wider : (p : PlainProgram) (a b : Scope) → IsWider a b → (i : PlainItem) → ItemFits p a i → ItemFits p b i
item-wider p a b w (compare c) h = comp-wider a b w c h
item-wider p a b w (choose c l r) h = comp-wider a b w c h
item-wider p a b w (fact place r k args s) h =
    (w Int r h.0, some-weaker (slice_get p.regions k) (λ type. FactFits a type args s) (λ type. FactFits b type args s) (λ type f. record { arity = f.arity; slots = each-map _ _ args f.slots (λ x q. slot-wider a b w Int x q); value = slot-wider a b w Int s f.value }) h.1)
item-wider p a b w (atom place r k i asked) h =
    (w Int r h.0, some-weaker (slice_get p.regions k) (λ type. AtomFits a type i asked) (λ type. AtomFits b type i asked) (λ type f. record { exists = f.exists; form = asked-wider a b w (atom_algebra type.algebra i) asked f.form }) h.1)
item-wider p a b w (cell place t s) h = (term-wider a b w Int t h.0, slot-wider a b w Int s h.1)
