-- Where nothing is found in terms whose names are known, they fit their places in a program.
use Rattle.std.proofs.Common.{◌≡◌, List, [], ◌∷◌, ◌++◌, flat_map, Some, refl, sym, ap, ◌∙◌}
use Rattle.std.specs.List.{AllByRecursion}
use Rattle.cap_lin.specs.declared.row.Sort.{Sort}
use Rattle.cap_prog.specs.Scopes.{HasSort, TermFits, SlotFits, CompFits}
use Rattle.cap_parse_tree.specs.declared.word.Word.{Word}
use Rattle.cap_parse_tree.specs.Tree.{FactorTree, literal, whole_share, named, bracketed, TermTree, ComparisonTree, SlotTree, any, is}
use Rattle.cap_resolve_spec.specs.Parts.{term_leaves, term_brackets, term_words, comparison_words}
use Rattle.cap_resolve_spec.specs.Names.{NameScope, sorts_of, variable_of}
use Rattle.cap_resolve_spec.specs.Linear.{term_form}
use Rattle.cap_resolve_spec.specs.Terms.{term_sort, products_findings, WantedTerm, wanted_as, term_findings, terms_findings, comparison_wanted, slot_wanted}
use Rattle.cap_resolve_spec.specs.Program.{comparison_program, sort_or_int, slot_program}
use Rattle.cap_resolve_spec.proofs.Every.{each_front, each_behind, each_weaker}
use Rattle.cap_resolve_spec.proofs.Nothing.{nothing_front, nothing_behind, nothing_both, nothing_flat}
use Rattle.cap_resolve_spec.proofs.Variables.{NamesAre, LeavesAre, words-leaves, term-form-parts}
use Rattle.cap_resolve_spec.proofs.Sorts.{IsKnown, IsOfSort, SomeSort, sorted-variable, term-sorted, term-names}

names-weaker : (P Q : Word → Type 0) → ((w : Word) → P w → Q w) → (f : FactorTree) → NamesAre P f → NamesAre Q f
names-weaker P Q h (literal n) a = tt
names-weaker P Q h (whole_share p) a = tt
names-weaker P Q h (named w) a = h w a
names-weaker P Q h (bracketed p t q) a = tt

abbrev pub TermKnown : NameScope → TermTree → Type 0
TermKnown scope t = AllByRecursion (IsKnown scope) (term_words t)

abbrev pub SlotKnown : NameScope → SlotTree → Type 0
SlotKnown scope (any p) = Unit {0}
SlotKnown scope (is t) = TermKnown scope t

abbrev pub ComparisonKnown : NameScope → ComparisonTree → Type 0
ComparisonKnown scope c = AllByRecursion (IsKnown scope) (comparison_words c)

known-leaves : (scope : NameScope) (t : TermTree) → TermKnown scope t → LeavesAre (IsKnown scope) (term_leaves t)
known-leaves scope t a = words-leaves (IsKnown scope) (term_leaves t) a

abbrev HasVariable : NameScope → Sort → Word → Type 0
HasVariable scope s w = HasSort (sorts_of scope) s (variable_of scope w.text)

pub term-fits : (scope : NameScope) (s : Sort) (t : TermTree) → TermKnown scope t → term_findings scope (wanted_as (Some s) t) ≡ [] → TermFits (sorts_of scope) s (term_form scope t)
term-fits scope s t a e =
    term-form-parts scope (HasSort (sorts_of scope) s) t
    (each_weaker (NamesAre (IsOfSort scope s)) (NamesAre (HasVariable scope s))
    (names-weaker (IsOfSort scope s) (HasVariable scope s) (λ w x. sorted-variable scope w.text s x))
    (term_leaves t)
    (term-names scope s t (known-leaves scope t a) (nothing_front (products_findings scope (Some s) t) _ e)
    (nothing_flat (λ u. products_findings scope (term_sort scope u) u) (term_brackets t)
    (nothing_front (flat_map (λ u. products_findings scope (term_sort scope u) u) (term_brackets t)) _ (nothing_behind (products_findings scope (Some s) t) _ e)))))

pub slot-fits : (scope : NameScope) (s : Sort) (t : SlotTree) → SlotKnown scope t → terms_findings scope (slot_wanted (Some s) t) ≡ [] → SlotFits (sorts_of scope) s (slot_program scope t)
slot-fits scope s (any p) a e = tt
slot-fits scope s (is t) a e = term-fits scope s t a (nothing_front (term_findings scope (wanted_as (Some s) t)) [] e)

pub comparison-fits : (scope : NameScope) (c : ComparisonTree) → ComparisonKnown scope c → terms_findings scope (comparison_wanted scope c) ≡ [] → CompFits (sorts_of scope) (comparison_program scope c)
comparison-fits scope c a e = of-sort (term-sorted scope c.left (known-leaves scope c.left left))
  where
    left : TermKnown scope c.left
    left = each_front (IsKnown scope) (term_words c.left) (term_words c.right) a

    right : TermKnown scope c.right
    right = each_behind (IsKnown scope) (term_words c.left) (term_words c.right) a

    first : term_findings scope (wanted_as (term_sort scope c.left) c.left) ≡ []
    first = nothing_front (term_findings scope (wanted_as (term_sort scope c.left) c.left)) _ e

    second : term_findings scope (wanted_as (term_sort scope c.left) c.right) ≡ []
    second = nothing_front (term_findings scope (wanted_as (term_sort scope c.left) c.right)) [] (nothing_behind (term_findings scope (wanted_as (term_sort scope c.left) c.left)) _ e)

    of-sort : SomeSort (term_sort scope c.left) → TermFits (sorts_of scope) (sort_or_int (term_sort scope c.left)) (term_form scope c.left) × TermFits (sorts_of scope) (sort_or_int (term_sort scope c.left)) (term_form scope c.right)
    of-sort h = rw h.1 (
      term-fits scope h.0 c.left left (sym (ap (λ o. term_findings scope (wanted_as o c.left)) h.1) ∙ first),
      term-fits scope h.0 c.right right (sym (ap (λ o. term_findings scope (wanted_as o c.right)) h.1) ∙ second),
    )

-- one after another
pub terms-front : (scope : NameScope) (ws vs : List WantedTerm) → terms_findings scope (ws ++ vs) ≡ [] → terms_findings scope ws ≡ []
terms-front scope [] vs e = refl
terms-front scope (w ∷ ws) vs e = nothing_both (term_findings scope w) (terms_findings scope ws) (nothing_front (term_findings scope w) (terms_findings scope (ws ++ vs)) e) (terms-front scope ws vs (nothing_behind (term_findings scope w) (terms_findings scope (ws ++ vs)) e))

pub terms-behind : (scope : NameScope) (ws vs : List WantedTerm) → terms_findings scope (ws ++ vs) ≡ [] → terms_findings scope vs ≡ []
terms-behind scope [] vs e = e
terms-behind scope (w ∷ ws) vs e = terms-behind scope ws vs (nothing_behind (term_findings scope w) (terms_findings scope (ws ++ vs)) e)

pub terms-flat : {A : Type 0} (scope : NameScope) (f : A → List WantedTerm) (xs : List A) → terms_findings scope (flat_map f xs) ≡ [] → AllByRecursion (λ x. terms_findings scope (f x) ≡ []) xs
terms-flat scope f [] e = tt
terms-flat scope f (x ∷ xs) e = (terms-front scope (f x) (flat_map f xs) e, terms-flat scope f xs (terms-behind scope (f x) (flat_map f xs) e))
