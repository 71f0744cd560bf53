-- The views of items and of what is built compute, and what is left of a list of items at one of them.
use Rattle.std.proofs.Common.{◌≡◌, ℕ, suc, ◌+◌, ◌<◌, ◌≤◌, List, ◌∷◌, length, get_or, drop, ap, sym, ◌∙◌, add-one, drop-cons, rules}
use Rattle.std.proofs.lemmas.List.{drop_all}
use Rattle.cap_syntax.specs.declared.place.Place.{Place}
use Rattle.cap_parse_tree.specs.declared.assertion.Item.TheVariants as code
use Rattle.cap_parse_tree.specs.declared.assertion.Item.TheFolds.{the_lemmas}
use Rattle.cap_parse_tree.specs.declared.assertion.And.{And, out-And}
use Rattle.cap_parse_tree.specs.declared.assertion.Assertion.{Assertion, out-Assertion}
use Rattle.cap_parse_tree.specs.declared.statement.Statement.{Statement}
use Rattle.cap_parse_tree.specs.declared.statement.Statement.TheFolds as folds
use Rattle.cap_parse_tree.specs.declared.statement.Block.{Block, out-Block}
use Rattle.cap_parse_tree.specs.Tree.{block, no_statement, then_statement, holds, no_item, and_item, assertion}
use Rattle.cap_parse_tree.specs.Views.{item_view, and_view, assertion_view, AndTree, statement_view, block_view}
use Rattle.cap_resolve_functions.proofs.Rests.{ands_view, statements_view}

pub view-True : (p : Place) → item_view (code.True p) ≡ holds p
view-True p = search (rules, the_lemmas)

pub view-And : (a : And) → and_view a ≡ ((out-And a).place, item_view (out-And a).item)
view-And a = search (rules, the_lemmas)

pub view-Assertion : (a : Assertion) → assertion_view a ≡ assertion (item_view (out-Assertion a).first) (ands_view (out-Assertion a).more.items)
view-Assertion a = search (rules, the_lemmas)

-- ---- what is left

pub dropped : {A : Type 0} (ts : List A) (i : ℕ) (r : A) → i < length ts → r ≡ get_or ts i r → drop i ts ≡ r ∷ drop (i + 1) ts
dropped ts i r h e = drop-cons ts i r h ∙ (ap (λ x. x ∷ drop (suc i) ts) (sym e) ∙ ap (λ n. r ∷ drop n ts) (sym (add-one i)))

pub ands-rest : (ts : List And) (i : ℕ) (r : And) → i < length ts → r ≡ get_or ts i r → ands_view (drop i ts) ≡ and_item (out-And r).place (item_view (out-And r).item) (ands_view (drop (i + 1) ts))
ands-rest ts i r h e =
    ap ands_view (dropped ts i r h e)
    ∙ ap (λ (x : AndTree). and_item x.0 x.1 (ands_view (drop (i + 1) ts))) (view-And r)

pub ands-done : (ts : List And) (i : ℕ) → length ts ≤ i → ands_view (drop i ts) ≡ no_item
ands-done ts i h = ap ands_view (drop_all i ts h)

pub view-Block : (b : Block) → block_view b ≡ block (out-Block b).«open» (statements_view (out-Block b).statements.items) (out-Block b).close
view-Block b = search (rules, folds.the_lemmas)

pub statements-rest : (ts : List Statement) (i : ℕ) (r : Statement) → i < length ts → r ≡ get_or ts i r → statements_view (drop i ts) ≡ then_statement (statement_view r) (statements_view (drop (i + 1) ts))
statements-rest ts i r h e = ap statements_view (dropped ts i r h e)

pub statements-done : (ts : List Statement) (i : ℕ) → length ts ≤ i → statements_view (drop i ts) ≡ no_statement
statements-done ts i h = ap statements_view (drop_all i ts h)
