-- Tests of the leaves of products and sums.
use Rattle.std.proofs.Common.{◌≡◌, refl, sym, ap, ◌∙◌, Bool, true, false, ◌||◌, ◌&&◌, List, ◌++◌}
use Rattle.std.specs.List.{list_any, list_all}
use Rattle.std.proofs.lemmas.List.Folds.{list_any-append, list_all-append}
use Rattle.cap_parse_tree.specs.Tree.{FactorTree}

or_assoc : (a b c : Bool) → ((a || b) || c) ≡ (a || (b || c))
or_assoc true b c = refl
or_assoc false b c = refl

and_assoc : (a b c : Bool) → ((a && b) && c) ≡ (a && (b && c))
and_assoc true b c = refl
and_assoc false b c = refl

pub any_two : (p : FactorTree → Bool) (b : Bool) (xs ys : List FactorTree) → b ≡ list_any p xs → (b || list_any p ys) ≡ list_any p (xs ++ ys)
any_two p b xs ys e = ap (λ a. a || list_any p ys) e ∙ sym (list_any-append p xs ys)

pub any_more : (p : FactorTree → Bool) (a b : Bool) (xs ys : List FactorTree) → b ≡ list_any p xs → ((a || b) || list_any p ys) ≡ (a || list_any p (xs ++ ys))
any_more p a b xs ys e = or_assoc a b (list_any p ys) ∙ ap (λ c. a || c) (any_two p b xs ys e)

pub all_two : (p : FactorTree → Bool) (b : Bool) (xs ys : List FactorTree) → b ≡ list_all p xs → (b && list_all p ys) ≡ list_all p (xs ++ ys)
all_two p b xs ys e = ap (λ a. a && list_all p ys) e ∙ sym (list_all-append p xs ys)

pub all_more : (p : FactorTree → Bool) (a b : Bool) (xs ys : List FactorTree) → b ≡ list_all p xs → ((a && b) && list_all p ys) ≡ (a && list_all p (xs ++ ys))
all_more p a b xs ys e = and_assoc a b (list_all p ys) ∙ ap (λ c. a && c) (all_two p b xs ys e)

pub ruleset leaves = (any_two, any_more, all_two, all_more)
