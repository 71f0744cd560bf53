-- The scope of names knows their names.
use Rattle.std.proofs.Common.{◌≡◌, ℕ, Bool, true, false, ◌||◌, List, [], ◌∷◌, ◌++◌, fold, filter, not, cond, refl, sym, ap, ◌∙◌, bytes_eq}
use Rattle.std.specs.Prelude.{if◌then◌else◌}
use Rattle.std.specs.List.{list_any}
use Rattle.cap_parse_tree.specs.declared.word.Word.{Word}
use Rattle.cap_resolve_spec.specs.Names.{NameScope, knows, whole_numbers, is_among, with_first}
use Rattle.cap_resolve_spec.specs.Items.{Occurrence, name_of, scope_of}
use Rattle.cap_resolve_tables.specs.Views.{with_new}

pub known_among : (os : List Occurrence) (x : List ℕ) → knows (scope_of os) x ≡ list_any (λ o. bytes_eq x (name_of o)) os
known_among [] x = refl
known_among (o ∷ os) x = ap (λ b. bytes_eq x (name_of o) || b) (known_among os x)

pub whole_among : (ws : List Word) (x : List ℕ) → knows (whole_numbers ws) x ≡ is_among ws x
whole_among [] x = refl
whole_among (w ∷ ws) x = ap (λ b. bytes_eq x w.text || b) (whole_among ws x)

-- a name that is there already adds nothing
pub first_kept : (os : List Occurrence) (o : Occurrence) → knows (scope_of os) (name_of o) ≡ true → os ≡ with_first name_of os o
first_kept os o e = ap (λ b. if b then os else os ++ o ∷ []) (sym e ∙ known_among os (name_of o))

pub first_added : (os : List Occurrence) (o : Occurrence) → knows (scope_of os) (name_of o) ≡ false → os ++ o ∷ [] ≡ with_first name_of os o
first_added os o e = ap (λ b. if b then os else os ++ o ∷ []) (sym e ∙ known_among os (name_of o))

pub ruleset firsts = (first_kept, first_added)

pub new_step : (scope : NameScope) (now before : List Occurrence) (o : Occurrence) (rest : List Occurrence) → now ≡ with_new scope before o → fold (with_first name_of) now (filter (λ q. not (knows scope (name_of q))) rest) ≡ fold (with_first name_of) before (filter (λ q. not (knows scope (name_of q))) (o ∷ rest))
new_step scope now before o rest e = ap (λ os. fold (with_first name_of) os (filter (λ q. not (knows scope (name_of q))) rest)) e ∙ by (knows scope (name_of o))
  where
    by : (b : Bool) → fold (with_first name_of) (if b then before else with_first name_of before o) (filter (λ q. not (knows scope (name_of q))) rest) ≡ fold (with_first name_of) before (cond (not b) (o ∷ filter (λ q. not (knows scope (name_of q))) rest) (filter (λ q. not (knows scope (name_of q))) rest))
    by true = refl
    by false = refl
