-- The function that is built of its names is the function of the tree.
use Rattle.std.proofs.Common.{◌≡◌, ℕ, Bool, true, false, not, ◌&&◌, ◌||◌, cond, List, [], ◌∷◌, ◌++◌, map, filter, flat_map, None, refl, ap, ◌∙◌, bytes_eq}
use Rattle.cap_parse_tree.specs.declared.word.Word.{Word}
use Rattle.cap_parse_tree.specs.Tree.{RegionTree, FunctionTree}
use Rattle.cap_resolve_spec.specs.Parts.{PlacedItem, clause_parts, parameters}
use Rattle.cap_resolve_spec.specs.Names.{NameScope, known_as, knows, whole_numbers, is_among, firsts, word_text}
use Rattle.cap_resolve_spec.specs.Items.{TypedName, Occurrence, name_of, scope_of, occurrence_words}
use Rattle.cap_resolve_spec.specs.Functions.{Context, context_of, requires_types, fixed_names, fixed_words, locals, is_local, destinations, statements, statement_words, name_in_body}
use Rattle.cap_resolve_spec.specs.Program.{function_program}
use Rattle.cap_resolve_scopes.specs.Lists.{is_known_local, known_entry}
use Rattle.cap_resolve_tables.proofs.Firsts.{whole_among}
use Rattle.cap_resolve_terms.proofs.Numbers.{knows-append}
use Rattle.cap_resolve_functions.specs.Functions.{Named, locals_in, context_built, function_in, function_built, named_by, function_by}
use Rattle.cap_resolve_functions.proofs.Contexts.{with_rest, body-same}

words_among : (os : List Occurrence) (x : List ℕ) → knows (scope_of os) x ≡ is_among (occurrence_words os) x
words_among [] x = refl
words_among (o ∷ os) x = ap (λ b. bytes_eq x (name_of o) || b) (words_among os x)

not_either : (a b : Bool) → not (a || b) ≡ (not a && not b)
not_either true b = refl
not_either false b = refl

filter_same : {A : Type 0} (p q : A → Bool) → ((x : A) → p x ≡ q x) → (xs : List A) → filter p xs ≡ filter q xs
filter_same p q e [] = refl
filter_same p q e (x ∷ xs) =
    ap (λ b. cond b (x ∷ filter p xs) (filter p xs)) (e x) ∙ ap (λ ys. cond (q x) (x ∷ ys) ys) (filter_same p q e xs)

module _ (rs : List RegionTree) (f : FunctionTree) where
  local_same : (w : Word) → is_known_local (whole_numbers (destinations f)) (whole_numbers (parameters f) ++ scope_of (fixed_names rs f)) w ≡ is_local rs f w
  local_same w =
      ap (λ b. b && not (knows (whole_numbers (parameters f) ++ scope_of (fixed_names rs f)) w.text)) (whole_among (destinations f) w.text)
      ∙ ap (λ b. is_among (destinations f) w.text && b)
      (ap not (knows-append (whole_numbers (parameters f)) (scope_of (fixed_names rs f)) w.text
      ∙ (ap (λ b. b || knows (scope_of (fixed_names rs f)) w.text) (whole_among (parameters f) w.text)
      ∙ ap (λ b. is_among (parameters f) w.text || b) (words_among (fixed_names rs f) w.text)))
      ∙ not_either (is_among (parameters f) w.text) (is_among (fixed_words rs f) w.text))

  locals_same : locals_in (whole_numbers (destinations f)) (parameters f) (fixed_names rs f) (statements f) ≡ locals rs f
  locals_same = ap (firsts word_text) (filter_same _ _ local_same (flat_map statement_words (statements f)))

  entries_same : (os : List Occurrence) → map (known_entry (whole_numbers (destinations f))) os ≡ map (name_in_body f) os
  entries_same [] = refl
  entries_same (o ∷ os) =
      ap (λ b. cond b (known_as o.sort o.word) None ∷ map (known_entry (whole_numbers (destinations f))) os) (whole_among (destinations f) (name_of o))
      ∙ ap (λ ks. name_in_body f o ∷ ks) (entries_same os)

abbrev pub named_of : List Word → List Word → List Occurrence → NameScope → Named
named_of ps ls os ds = record { parameters = ps; locals = ls; fixed = os; destinations = ds }

module _ (rs : List RegionTree) (fs : List FunctionTree) (f : FunctionTree) where
  abbrev pub the_names : Named
  the_names = named_of (parameters f) (locals rs f) (fixed_names rs f) (whole_numbers (destinations f))

  abbrev body_as : NameScope → Context
  body_as ks = record {
    regions = rs;
    functions = fs;
    types = requires_types rs f;
    result = [];
    loop = (context_of rs fs f).loop;
    body = whole_numbers (parameters f) ++ (whole_numbers (locals rs f) ++ ks);
    given = [];
    counted = [];
  }

  pub context_same : context_built rs fs (requires_types rs f) the_names ≡ with_rest (context_of rs fs f) [] [] []
  context_same = ap body_as (entries_same rs f (fixed_names rs f))

  pub names_same : named_by (parameters f) (fixed_names rs f) (statements f) ≡ the_names
  names_same = ap (λ ls. named_of (parameters f) ls (fixed_names rs f) (whole_numbers (destinations f))) (locals_same rs f)

  body_as_is : function_in (with_rest (context_of rs fs f) [] [] []) the_names f ≡ function_program rs fs f
  body_as_is = ap (λ b. record (function_program rs fs f) { body = b }) (body-same (context_of rs fs f) [] [] [] f.body)

  pub function_same : (types : List TypedName) (n : Named) → types ≡ requires_types rs f → n.parameters ≡ parameters f → n.fixed ≡ fixed_names rs f → n.destinations ≡ whole_numbers (destinations f) → n.locals ≡ locals_in n.destinations n.parameters n.fixed (statements f) → function_built rs fs types n f ≡ function_program rs fs f
  function_same types n t p x d l =
      ap (λ ts. function_built rs fs ts n f) t
      ∙ (ap (λ ls. function_built rs fs (requires_types rs f) (named_of n.parameters ls n.fixed n.destinations) f) l
      ∙ (ap (λ ps. function_built rs fs (requires_types rs f) (named_of ps (locals_in n.destinations ps n.fixed (statements f)) n.fixed n.destinations) f) p
      ∙ (ap (λ os. function_built rs fs (requires_types rs f) (named_of (parameters f) (locals_in n.destinations (parameters f) os (statements f)) os n.destinations) f) x
      ∙ (ap (λ ds. function_built rs fs (requires_types rs f) (named_of (parameters f) (locals_in ds (parameters f) (fixed_names rs f) (statements f)) (fixed_names rs f) ds) f) d
      ∙ (ap (λ ls. function_built rs fs (requires_types rs f) (named_of (parameters f) ls (fixed_names rs f) (whole_numbers (destinations f))) f) (locals_same rs f)
      ∙ (ap (λ g. function_in g the_names f) context_same ∙ body_as_is))))))

pub function_is : (rs : List RegionTree) (fs : List FunctionTree) (f : FunctionTree) (ps : List Word) (parts : List PlacedItem) → ps ≡ parameters f → parts ≡ clause_parts f.precondition → function_by rs fs ps parts f ≡ function_program rs fs f
function_is rs fs f ps parts p q =
    ap (λ xs. function_by rs fs xs parts f) p
    ∙ (ap (λ xs. function_by rs fs (parameters f) xs f) q
    ∙ function_same rs fs f (requires_types rs f) (named_by (parameters f) (fixed_names rs f) (statements f)) refl refl refl refl refl)
