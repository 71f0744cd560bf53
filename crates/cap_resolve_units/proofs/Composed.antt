-- What is noted of a function, composed of its parts.
use Rattle.std.proofs.Common.{◌≡◌, List, ◌++◌, filter, filter_map, flat_map, fold, Option, sym, ap, ◌∙◌}
use Rattle.std.proofs.lemmas.List.Sums.{fold-append}
use Rattle.cap_parse_tree.specs.declared.word.Word.{Word}
use Rattle.cap_parse_tree.specs.Tree.{ClauseTree, StatementTree, RegionTree, FunctionTree}
use Rattle.cap_resolve_spec.specs.Finding.{Finding, note}
use Rattle.cap_resolve_spec.specs.Parts.{PlacedItem, destination}
use Rattle.cap_resolve_spec.specs.Names.{NameScope, whole_numbers, parameters_findings}
use Rattle.cap_resolve_spec.specs.Items.{TypedName, types_told, Occurrence, is_bound, occurrence_words}
use Rattle.cap_resolve_spec.specs.Functions.{new_findings, statement_words}
use Rattle.cap_resolve_scopes.specs.Lists.{new_in, firsts_known}
use Rattle.cap_resolve_units.specs.Bodies.{locals_part, fixed_part, typed_part, function_part}

pub fixed_is : (n : Option Finding) (rs : List RegionTree) (fs : List FunctionTree) (types : List TypedName) (params : List Word) (fixed : List Occurrence) (parts : List PlacedItem) (post : Option ClauseTree) (ss : List StatementTree) (words : List Word) (given dests : NameScope) (locals : List Word)
    → words ≡ params ++ occurrence_words fixed → given ≡ whole_numbers (params ++ occurrence_words fixed) → dests ≡ whole_numbers (filter_map destination ss) → locals ≡ firsts_known dests given (flat_map statement_words ss)
    → fold note n (locals_part rs fs types params fixed words given dests locals parts post ss) ≡ fold note n (fixed_part rs fs types params fixed parts post ss)
fixed_is n rs fs types params fixed parts post ss words given dests locals w g d l =
    ap (λ x. fold note n (locals_part rs fs types params fixed words given dests x parts post ss)) l
    ∙ (ap (λ x. fold note n (locals_part rs fs types params fixed x given dests (firsts_known dests given (flat_map statement_words ss)) parts post ss)) w
    ∙ (ap (λ x. fold note n (locals_part rs fs types params fixed (params ++ occurrence_words fixed) x dests (firsts_known dests x (flat_map statement_words ss)) parts post ss)) g
    ∙ ap (λ x. fold note n (locals_part rs fs types params fixed (params ++ occurrence_words fixed) (whole_numbers (params ++ occurrence_words fixed)) x (firsts_known x (whole_numbers (params ++ occurrence_words fixed)) (flat_map statement_words ss)) parts post ss)) d))

pub typed_is : (n m : Option Finding) (rs : List RegionTree) (fs : List FunctionTree) (types : List TypedName) (params : List Word) (new fixed : List Occurrence) (parts : List PlacedItem) (post : Option ClauseTree) (ss : List StatementTree)
    → new ≡ new_in (whole_numbers params) types parts → fixed ≡ filter is_bound (new_in (whole_numbers params) types parts) → m ≡ fold note n (new_findings new)
    → fold note m (fixed_part rs fs types params fixed parts post ss) ≡ fold note n (typed_part rs fs types params parts post ss)
typed_is n m rs fs types params new fixed parts post ss e f h =
    ap (λ x. fold note x (fixed_part rs fs types params fixed parts post ss)) (h ∙ ap (λ os. fold note n (new_findings os)) e)
    ∙ (ap (λ x. fold note (fold note n (new_findings (new_in (whole_numbers params) types parts))) (fixed_part rs fs types params x parts post ss)) f
    ∙ sym (fold-append note n (new_findings (new_in (whole_numbers params) types parts)) (fixed_part rs fs types params (filter is_bound (new_in (whole_numbers params) types parts)) parts post ss)))

pub function_is : (n m : Option Finding) (rs : List RegionTree) (fs : List FunctionTree) (types : List TypedName) (params : List Word) (parts : List PlacedItem) (post : Option ClauseTree) (ss : List StatementTree)
    → types ≡ types_told rs parts → m ≡ fold note n (parameters_findings params)
    → fold note m (typed_part rs fs types params parts post ss) ≡ fold note n (function_part rs fs params parts post ss)
function_is n m rs fs types params parts post ss e h =
    ap (λ x. fold note x (typed_part rs fs types params parts post ss)) h
    ∙ (ap (λ x. fold note (fold note n (parameters_findings params)) (typed_part rs fs x params parts post ss)) e
    ∙ sym (fold-append note n (parameters_findings params) (typed_part rs fs (types_told rs parts) params parts post ss)))
