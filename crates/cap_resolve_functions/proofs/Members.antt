-- What holds of all members of a list holds of each.
use Rattle.std.proofs.Common.{◌≡◌, ℕ, zero, suc, ◌<◌, List, [], ◌∷◌, map, length, get_or, sym, ap, subst, ◌∙◌, arith}
use Rattle.std.specs.List.{AllByRecursion}
use Rattle.cap_syntax.specs.declared.place.Place.{Place}
use Rattle.cap_parse_tree.specs.declared.assertion.And.{And, out-And}
use Rattle.cap_parse_tree.specs.declared.assertion.Assertion.{Assertion, out-Assertion}
use Rattle.cap_parse_tree.specs.declared.statement.Statement.{Statement}
use Rattle.cap_parse_tree.specs.declared.statement.Block.{Block, out-Block}
use Rattle.cap_parse_tree.specs.Views.{item_view, AndTree, assertion_view, statement_view, block_view}
use Rattle.cap_resolve_spec.specs.Names.{NameScope}
use Rattle.cap_resolve_spec.specs.Functions.{Context}
use Rattle.cap_resolve_functions.specs.Narrow.{IsNarrowItem, AreNarrowItems, IsNarrowAssertion, IsNarrowStatement, AreNarrowStatements, IsNarrowBlock}
use Rattle.cap_resolve_functions.proofs.Rests.{behind, ands_view, statements_view}
use Rattle.cap_resolve_functions.proofs.Trees.{view-And, view-Assertion, view-Block}

pub member_at : {A B : Type 0} (P : B → Type 0) (view : A → B) (xs : List A) (i : ℕ) (x : A) → i < length xs → x ≡ get_or xs i x → AllByRecursion P (map view xs) → P (view x)
member_at P view [] i x h e a = absurd (omega arith)
member_at P view (y ∷ ys) zero x h e a = subst (λ z. P (view z)) (sym e) a.0
member_at P view (y ∷ ys) (suc i) x h e a = member_at P view ys i x (omega arith) e a.1

pub behind_at : {A B : Type 0} (P : B → Type 0) (view : A → B) (xs : List (Place × A)) (i : ℕ) (x : Place × A) → i < length xs → x ≡ get_or xs i x → AllByRecursion P (behind view xs) → P (view x.1)
behind_at P view [] i x h e a = absurd (omega arith)
behind_at P view (y ∷ ys) zero x h e a = subst (λ z. P (view z.1)) (sym e) a.0
behind_at P view (y ∷ ys) (suc i) x h e a = behind_at P view ys i x (omega arith) e a.1

-- of a slice that is a vector's
pub member_in : {A B : Type 0} (P : B → Type 0) (view : A → B) (all xs : List A) (i : ℕ) (x : A) → xs ≡ all → i < length xs → x ≡ get_or xs i x → AllByRecursion P (map view all) → P (view x)
member_in P view all xs i x s h e a = member_at P view xs i x h e (subst (λ ys. AllByRecursion P (map view ys)) (sym s) a)

pub behind_in : {A B : Type 0} (P : B → Type 0) (view : A → B) (all xs : List (Place × A)) (i : ℕ) (x : Place × A) → xs ≡ all → i < length xs → x ≡ get_or xs i x → AllByRecursion P (behind view all) → P (view x.1)
behind_in P view all xs i x s h e a = behind_at P view xs i x h e (subst (λ ys. AllByRecursion P (behind view ys)) (sym s) a)

-- ---- items and statements

item_at : (scope : NameScope) (xs : List And) (i : ℕ) (x : And) → i < length xs → x ≡ get_or xs i x → AreNarrowItems scope (ands_view xs) → IsNarrowItem scope (item_view (out-And x).item)
item_at scope [] i x h e a = absurd (omega arith)
item_at scope (y ∷ ys) zero x h e a = subst (IsNarrowItem scope) (ap (λ (z : AndTree). z.1) (view-And y) ∙ ap (λ (z : And). item_view (out-And z).item) (sym e)) a.0
item_at scope (y ∷ ys) (suc i) x h e a = item_at scope ys i x (omega arith) e a.1

pub item_of : (scope : NameScope) (a : Assertion) (xs : List And) (i : ℕ) (x : And) → x ≡ get_or xs i x → i < length xs → xs ≡ (out-Assertion a).more.items → IsNarrowAssertion scope (assertion_view a) → IsNarrowItem scope (item_view (out-And x).item)
item_of scope a xs i x e h s n = item_at scope xs i x h e (subst (λ ys. AreNarrowItems scope (ands_view ys)) (sym s) (subst (IsNarrowAssertion scope) (view-Assertion a) n).1)

statement_at : (g : Context) (xs : List Statement) (i : ℕ) (x : Statement) → i < length xs → x ≡ get_or xs i x → AreNarrowStatements g (statements_view xs) → IsNarrowStatement g (statement_view x)
statement_at g [] i x h e a = absurd (omega arith)
statement_at g (y ∷ ys) zero x h e a = subst (λ z. IsNarrowStatement g (statement_view z)) (sym e) a.0
statement_at g (y ∷ ys) (suc i) x h e a = statement_at g ys i x (omega arith) e a.1

pub statement_of : (g : Context) (b : Block) (xs : List Statement) (i : ℕ) (x : Statement) → x ≡ get_or xs i x → i < length xs → xs ≡ (out-Block b).statements.items → IsNarrowBlock g (block_view b) → IsNarrowStatement g (statement_view x)
statement_of g b xs i x e h s n = statement_at g xs i x h e (subst (λ ys. AreNarrowStatements g (statements_view ys)) (sym s) (subst (IsNarrowBlock g) (view-Block b) n))
