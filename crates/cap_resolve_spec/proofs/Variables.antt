-- Which variables stand in a linear form: those of the names in the term.
use Rattle.std.proofs.Common.{ℕ, zero, suc, ℤ, pos, negsuc, ◌+ℤ◌, ◌*ℤ◌, List, [], ◌∷◌, map, filter_map, Option, Some, None, inl, inr}
use Rattle.std.specs.List.{AllByRecursion}
use Rattle.std.proofs.lemmas.Bool.{cases_lt}
use Rattle.cap_syntax.specs.declared.place.Place.{Place}
use Rattle.cap_lin.specs.Linear.{Linear, merged, only_right, put_part, sums, plus, multiples, negative}
use Rattle.cap_lin.specs.Linear.{times as multiple}
use Rattle.cap_lin.proofs.Merge.{merged-lt, merged-gt, merged-eq, merged-left}
use Rattle.cap_parse_tree.specs.declared.term.Sign.{Sign}
use Rattle.cap_parse_tree.specs.declared.term.Sign.TheVariants.{Plus, Minus}
use Rattle.cap_parse_tree.specs.declared.word.Word.{Word}
use Rattle.cap_parse_tree.specs.Tree.{FactorTree, literal, whole_share, named, bracketed, ProductTree, product, FactorTrees, no_factor, times, TermTree, term, ProductTrees, no_product, signed}
use Rattle.cap_resolve_spec.specs.Parts.{factor_leaves, product_leaves, factors_leaves, term_leaves, products_leaves, named_word}
use Rattle.cap_resolve_spec.specs.Names.{NameScope, variable_of}
use Rattle.cap_resolve_spec.specs.Linear.{product_of, product_by_parts, signed_sum, opened, factor_form, product_form, factors_form, term_form, products_form}
use Rattle.cap_resolve_spec.proofs.Every.{each_front, each_behind}

-- what holds of the variable of each part
abbrev pub PartsAre : (ℕ → Type 0) → List (ℕ × ℤ) → Type 0
PartsAre P ps = AllByRecursion (λ p. P p.0) ps

put-parts : (P : ℕ → Type 0) (x : ℕ) (k : ℤ) (ps : List (ℕ × ℤ)) → P x → PartsAre P ps → PartsAre P (put_part x k ps)
put-parts P x (pos zero) ps h a = a
put-parts P x (pos (suc n)) ps h a = (h, a)
put-parts P x (negsuc n) ps h a = (h, a)

right-sums : (P : ℕ → Type 0) (qs : List (ℕ × ℤ)) → PartsAre P qs → PartsAre P (sums (map only_right qs))
unfolding sums
right-sums P [] a = tt
right-sums P (q ∷ qs) a = put-parts P q.0 (pos 0 +ℤ q.1) (sums (map only_right qs)) a.0 (right-sums P qs a.1)

nil-sums : (P : ℕ → Type 0) (qs : List (ℕ × ℤ)) → PartsAre P qs → PartsAre P (sums (merged [] qs))
unfolding merged
nil-sums P qs a = right-sums P qs a

cons-sums : (P : ℕ → Type 0) (p : ℕ × ℤ) (ps : List (ℕ × ℤ)) → ((qs : List (ℕ × ℤ)) → PartsAre P ps → PartsAre P qs → PartsAre P (sums (merged ps qs))) → (qs : List (ℕ × ℤ)) → PartsAre P (p ∷ ps) → PartsAre P qs → PartsAre P (sums (merged (p ∷ ps) qs))
unfolding sums
cons-sums P p ps ih [] a b = rw (merged-left p ps) (put-parts P p.0 (p.1 +ℤ pos 0) (sums (merged ps [])) a.0 (ih [] a.1 tt))
cons-sums P p ps ih (q ∷ qs) a b =
    elim (cases_lt p.0 q.0) [
      | inl lt ↦ rw (merged-lt p q ps qs lt) (put-parts P p.0 (p.1 +ℤ pos 0) (sums (merged ps (q ∷ qs))) a.0 (ih (q ∷ qs) a.1 b))
      | inr ge ↦ elim (cases_lt q.0 p.0) [
        | inl gt ↦ rw (merged-gt p q ps qs gt) (put-parts P q.0 (pos 0 +ℤ q.1) (sums (merged (p ∷ ps) qs)) b.0 (cons-sums P p ps ih qs a b.1))
        | inr le ↦ rw (merged-eq p q ps qs ge le) (put-parts P p.0 (p.1 +ℤ q.1) (sums (merged ps qs)) a.0 (ih qs a.1 b.1))
      ]
    ]

both-sums : (P : ℕ → Type 0) (ps qs : List (ℕ × ℤ)) → PartsAre P ps → PartsAre P qs → PartsAre P (sums (merged ps qs))
both-sums P [] qs a b = nil-sums P qs b
both-sums P (p ∷ ps) qs a b = cons-sums P p ps (λ rs c d. both-sums P ps rs c d) qs a b

multiples-parts : (P : ℕ → Type 0) (k : ℤ) (ps : List (ℕ × ℤ)) → PartsAre P ps → PartsAre P (multiples k ps)
unfolding multiples
multiples-parts P k [] a = tt
multiples-parts P k (p ∷ ps) a = put-parts P p.0 (k *ℤ p.1) (multiples k ps) a.0 (multiples-parts P k ps a.1)

plus-parts : (P : ℕ → Type 0) (s t : Linear) → PartsAre P s.parts → PartsAre P t.parts → PartsAre P (plus s t).parts
unfolding plus
plus-parts P s t a b = both-sums P s.parts t.parts a b

pub times-parts : (P : ℕ → Type 0) (k : ℤ) (t : Linear) → PartsAre P t.parts → PartsAre P (multiple k t).parts
unfolding multiple
times-parts P k t a = multiples-parts P k t.parts a

by-parts : (P : ℕ → Type 0) (a b : Linear) (ps qs : List (ℕ × ℤ)) → PartsAre P a.parts → PartsAre P b.parts → PartsAre P (product_by_parts a b ps qs).parts
by-parts P a b ps [] x y = times-parts P b.constant a x
by-parts P a b [] (q ∷ qs) x y = times-parts P a.constant b y
by-parts P a b (p ∷ ps) (q ∷ qs) x y = tt

product-parts : (P : ℕ → Type 0) (a b : Linear) → PartsAre P a.parts → PartsAre P b.parts → PartsAre P (product_of a b).parts
product-parts P a b x y = by-parts P a b a.parts b.parts x y

signed-parts : (P : ℕ → Type 0) (s : Sign) (a b : Linear) → PartsAre P a.parts → PartsAre P b.parts → PartsAre P (signed_sum s a b).parts
signed-parts P Plus a b x y = plus-parts P a b x y
signed-parts P Minus a b x y = plus-parts P a (negative b) x (times-parts P (negsuc 0) b y)

opened-parts : (P : ℕ → Type 0) (m : Option Place) (a : Linear) → PartsAre P a.parts → PartsAre P (opened m a).parts
opened-parts P None a x = x
opened-parts P (Some p) a x = times-parts P (negsuc 0) a x

-- what holds of each name of a term
abbrev pub NamesAre : (Word → Type 0) → FactorTree → Type 0
NamesAre Q (named w) = Q w
NamesAre Q _ = Unit {0}

abbrev pub LeavesAre : (Word → Type 0) → List FactorTree → Type 0
LeavesAre Q fs = AllByRecursion (NamesAre Q) fs

pub words-leaves : (Q : Word → Type 0) (fs : List FactorTree) → AllByRecursion Q (filter_map named_word fs) → LeavesAre Q fs
words-leaves Q [] a = tt
words-leaves Q (literal n ∷ fs) a = (tt, words-leaves Q fs a)
words-leaves Q (whole_share p ∷ fs) a = (tt, words-leaves Q fs a)
words-leaves Q (named w ∷ fs) a = (a.0, words-leaves Q fs a.1)
words-leaves Q (bracketed p t q ∷ fs) a = (tt, words-leaves Q fs a)

abbrev VariableIs : NameScope → (ℕ → Type 0) → Word → Type 0
VariableIs scope P w = P (variable_of scope w.text)

mutual
  pub factor-form-parts : (scope : NameScope) (P : ℕ → Type 0) (f : FactorTree) → LeavesAre (VariableIs scope P) (factor_leaves f) → PartsAre P (factor_form scope f).parts
  factor-form-parts scope P (literal n) a = tt
  factor-form-parts scope P (whole_share p) a = tt
  factor-form-parts scope P (named w) a = (a.0, tt)
  factor-form-parts scope P (bracketed p t q) a = term-form-parts scope P t a

  product-form-parts : (scope : NameScope) (P : ℕ → Type 0) (m : ProductTree) → LeavesAre (VariableIs scope P) (product_leaves m) → PartsAre P (product_form scope m).parts
  product-form-parts scope P (product f fs) a =
      factors-form-parts scope P fs (factor_form scope f)
      (factor-form-parts scope P f (each_front (NamesAre (VariableIs scope P)) (factor_leaves f) (factors_leaves fs) a))
      (each_behind (NamesAre (VariableIs scope P)) (factor_leaves f) (factors_leaves fs) a)

  factors-form-parts : (scope : NameScope) (P : ℕ → Type 0) (fs : FactorTrees) (a : Linear) → PartsAre P a.parts → LeavesAre (VariableIs scope P) (factors_leaves fs) → PartsAre P (factors_form scope a fs).parts
  factors-form-parts scope P no_factor a x h = x
  factors-form-parts scope P (times p f fs) a x h =
      factors-form-parts scope P fs (product_of a (factor_form scope f))
      (product-parts P a (factor_form scope f) x (factor-form-parts scope P f (each_front (NamesAre (VariableIs scope P)) (factor_leaves f) (factors_leaves fs) h)))
      (each_behind (NamesAre (VariableIs scope P)) (factor_leaves f) (factors_leaves fs) h)

  pub term-form-parts : (scope : NameScope) (P : ℕ → Type 0) (t : TermTree) → LeavesAre (VariableIs scope P) (term_leaves t) → PartsAre P (term_form scope t).parts
  term-form-parts scope P (term p m ms) h =
      products-form-parts scope P ms (opened p (product_form scope m))
      (opened-parts P p (product_form scope m) (product-form-parts scope P m (each_front (NamesAre (VariableIs scope P)) (product_leaves m) (products_leaves ms) h)))
      (each_behind (NamesAre (VariableIs scope P)) (product_leaves m) (products_leaves ms) h)

  products-form-parts : (scope : NameScope) (P : ℕ → Type 0) (ms : ProductTrees) (a : Linear) → PartsAre P a.parts → LeavesAre (VariableIs scope P) (products_leaves ms) → PartsAre P (products_form scope a ms).parts
  products-form-parts scope P no_product a x h = x
  products-form-parts scope P (signed s p m ms) a x h =
      products-form-parts scope P ms (signed_sum s a (product_form scope m))
      (signed-parts P s a (product_form scope m) x (product-form-parts scope P m (each_front (NamesAre (VariableIs scope P)) (product_leaves m) (products_leaves ms) h)))
      (each_behind (NamesAre (VariableIs scope P)) (product_leaves m) (products_leaves ms) h)
