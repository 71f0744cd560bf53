-- Facts on lists and options, by recursion.
use Rattle.std.proofs.Common.{◌≡◌, ◌∙◌, sym, refl, ap, subst, ℕ, zero, suc, List, [], ◌∷◌, ◌++◌, append_assoc}
use Rattle.std.specs.Prelude.{Option, Some, None, slice_get, slice_set, IsSomeAnd}
use Rattle.std.proofs.Common.{inl, inr}
use Rattle.std.specs.List.{AllByRecursion}
use Rattle.cap_prog.specs.Program.{PlainStatement, Block, done, first, append}
use Rattle.cap_prog.specs.Parts.{all_statements, block_statements}
use Rattle.cap_machine.specs.Fits.{IsStatementOf}

pub all_map : {X : Type 0} (P Q : X → Type 0) (xs : List X) → ((x : X) → P x → Q x) → AllByRecursion P xs → AllByRecursion Q xs
all_map P Q [] f h = tt
all_map P Q (x ∷ xs) f h = (f x h.0, all_map P Q xs f h.1)

pub all_at : {X : Type 0} (P : X → Type 0) (xs : List X) (n : ℕ) (x : X) → AllByRecursion P xs → slice_get xs n ≡ Some x → P x
all_at P [] n x h e = absurd (cc)
all_at P (y ∷ ys) zero x h e = let f : y ≡ x = cc in subst P f h.0
all_at P (y ∷ ys) (suc n) x h e = all_at P ys n x h.1 e

pub all_set : {X : Type 0} (P : X → Type 0) (xs : List X) (n : ℕ) (y : X) → AllByRecursion P xs → P y → AllByRecursion P (slice_set xs n y)
all_set P [] n y h k = tt
all_set P (x ∷ xs) zero y h k = (k, h.1)
all_set P (x ∷ xs) (suc n) y h k = (h.0, all_set P xs n y h.1 k)

pub all_append : {X : Type 0} (P : X → Type 0) (xs ys : List X) → AllByRecursion P xs → AllByRecursion P ys → AllByRecursion P (xs ++ ys)
all_append P [] ys h k = k
all_append P (x ∷ xs) ys h k = (h.0, all_append P xs ys h.1 k)

pub all_front : {X : Type 0} (P : X → Type 0) (xs ys : List X) → AllByRecursion P (xs ++ ys) → AllByRecursion P xs
all_front P [] ys h = tt
all_front P (x ∷ xs) ys h = (h.0, all_front P xs ys h.1)

pub all_back : {X : Type 0} (P : X → Type 0) (xs ys : List X) → AllByRecursion P (xs ++ ys) → AllByRecursion P ys
all_back P [] ys h = h
all_back P (x ∷ xs) ys h = all_back P xs ys h.1

pub some_map : {X : Type 0} (P Q : X → Type 0) (o : Option X) → ((x : X) → P x → Q x) → IsSomeAnd o P → IsSomeAnd o Q
some_map P Q None f h = absurd h
some_map P Q (Some x) f h = f x h

-- what holds of each statement of a list holds of one of it
pub all_one : (P : PlainStatement → Type 0) (ss : List PlainStatement) (s : PlainStatement) → AllByRecursion P ss → IsStatementOf ss s → P s
all_one P [] s h m = absurd m
all_one P (t ∷ ts) s h m = elim m [ inl e ↦ subst P (sym e) h.0 | inr k ↦ all_one P ts s h.1 k ]

pub each_of_itself : (ss : List PlainStatement) → AllByRecursion (IsStatementOf ss) ss
each_of_itself [] = tt
each_of_itself (s ∷ ss) = (inl refl, all_map (IsStatementOf ss) (IsStatementOf (s ∷ ss)) ss (λ x m. inr m) (each_of_itself ss))

pub all_statements-append : (a b : Block) → all_statements (append a b) ≡ all_statements a ++ all_statements b
all_statements-append done b = refl
all_statements-append (first l s a) b =
    ap (λ ss. record { label = l; act = s } ∷ (block_statements s ++ ss)) (all_statements-append a b)
    ∙ ap (λ ss. record { label = l; act = s } ∷ ss) (sym (append_assoc (block_statements s) (all_statements a) (all_statements b)))

pub all_joined : (P : PlainStatement → Type 0) (a b : Block) → AllByRecursion P (all_statements a) → AllByRecursion P (all_statements b) → AllByRecursion P (all_statements (append a b))
all_joined P a b h k = subst (AllByRecursion P) (sym (all_statements-append a b)) (all_append P (all_statements a) (all_statements b) h k)
