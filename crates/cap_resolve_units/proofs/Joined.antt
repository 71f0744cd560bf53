-- The parts of a function, made one after the other.
use Rattle.std.proofs.Common.{◌≡◌, List, fold, Option, ap, ◌∙◌}
use Rattle.cap_parse_tree.specs.declared.word.Word.{Word}
use Rattle.cap_parse_tree.specs.Tree.{ClauseTree, StatementTree, RegionTree, FunctionTree}
use Rattle.cap_resolve_spec.specs.Finding.{Finding, note}
use Rattle.cap_resolve_spec.specs.Parts.{PlacedItem, clause_parts, parameters}
use Rattle.cap_resolve_spec.specs.Functions.{statements, function_findings}
use Rattle.cap_resolve_units.specs.Bodies.{function_part}
use Rattle.cap_resolve_units.proofs.Same.{function_same}

pub with_statements : (n m : Option Finding) (rs : List RegionTree) (fs : List FunctionTree) (params : List Word) (parts : List PlacedItem) (post : Option ClauseTree) (ss ts : List StatementTree) → ss ≡ ts → m ≡ fold note n (function_part rs fs params parts post ss) → m ≡ fold note n (function_part rs fs params parts post ts)
with_statements n m rs fs params parts post ss ts same is = is ∙ ap (λ x. fold note n (function_part rs fs params parts post x)) same

pub with_parts : (n m : Option Finding) (rs : List RegionTree) (fs : List FunctionTree) (params : List Word) (is js : List PlacedItem) (post : Option ClauseTree) (ss : List StatementTree) → is ≡ js → m ≡ fold note n (function_part rs fs params is post ss) → m ≡ fold note n (function_part rs fs params js post ss)
with_parts n m rs fs params is js post ss same noted = noted ∙ ap (λ x. fold note n (function_part rs fs params x post ss)) same

pub with_parameters : (n m : Option Finding) (rs : List RegionTree) (fs : List FunctionTree) (ps qs : List Word) (parts : List PlacedItem) (post : Option ClauseTree) (ss : List StatementTree) → ps ≡ qs → m ≡ fold note n (function_part rs fs ps parts post ss) → m ≡ fold note n (function_part rs fs qs parts post ss)
with_parameters n m rs fs ps qs parts post ss same noted = noted ∙ ap (λ x. fold note n (function_part rs fs x parts post ss)) same

pub function_noted : (n m : Option Finding) (rs : List RegionTree) (fs : List FunctionTree) (f : FunctionTree) (pre post : Option ClauseTree) → pre ≡ f.precondition → post ≡ f.postcondition → m ≡ fold note n (function_part rs fs (parameters f) (clause_parts pre) post (statements f)) → m ≡ fold note n (function_findings rs fs f)
function_noted n m rs fs f pre post same_pre same_post noted =
    noted
    ∙ (ap (λ x. fold note n (function_part rs fs (parameters f) (clause_parts x) post (statements f))) same_pre
    ∙ (ap (λ x. fold note n (function_part rs fs (parameters f) (clause_parts f.precondition) x (statements f))) same_post
    ∙ ap (fold note n) (function_same rs fs f)))
