-- The program for which a tree stands is one of a text, and each name that is new in an assertion
-- is bound there.
use Rattle.std.proofs.Common.{◌≡◌, codes, List, [], ◌++◌, map, flat_map, length, slice_get, Option, Some, None, option_map, option_to_list, refl, sym, ap, subst, ◌∙◌}
use Rattle.std.specs.List.{AllByRecursion, range_with_len}
use Rattle.std.proofs.lemmas.List.Folds.{find_at}
use Rattle.std.proofs.lemmas.Option.{slice_get-map, same_Some}
use Rattle.cap_prog.specs.Program.{PlainFunction, PlainProgram}
use Rattle.cap_prog.specs.Parts.{all_statements}
use Rattle.cap_prog.specs.Scopes.{names_start}
use Rattle.cap_prog.specs.WellFormed.{most_functions, most_regions, most_atoms}
use Rattle.cap_parse_tree.specs.Tree.{RegionTree, FunctionTree, ProgramTree}
use Rattle.cap_resolve_spec.specs.Finding.{twice_word, region_count, function_count, guard_count}
use Rattle.cap_resolve_spec.specs.Parts.{parameters, regions, functions}
use Rattle.cap_resolve_spec.specs.Names.{repeated, past, parameters_findings}
use Rattle.cap_resolve_spec.specs.Items.{NumberedRegion, numbered_regions}
use Rattle.cap_resolve_spec.specs.Regions.{own_parameters, case_findings, guard_names, region_type_findings}
use Rattle.cap_resolve_spec.specs.Functions.{statements, context_of, clause_findings, statement_findings, requires_findings, body_findings, is_function, function_findings, main_findings}
use Rattle.cap_resolve_spec.specs.Program.{case_program, region_program, function_program, function_number, program_of}
use Rattle.cap_resolve_spec.specs.Refusal.{IsRight}
use Rattle.cap_resolve_spec.specs.Stands.{region_word, function_word, main_of, Stands}
use Rattle.cap_resolve_spec.proofs.Every.{each_map, each_weaker}
use Rattle.cap_resolve_spec.proofs.Nothing.{nothing_front, nothing_behind, nothing_flat}
use Rattle.cap_resolve_spec.proofs.First.{unrefused-right}
use Rattle.cap_owners_laws.specs.Owned.{BindsFixed, AsksForCells, IsTextual}
use Rattle.cap_owners_runs_laws.proofs.Texts.Named.{get-each, BindsFrom}
use Rattle.cap_owners_runs_laws.proofs.Texts.Bound.{requires-bound, ensures-bound, InvariantBinds, body-bound, BindsCase, case-bound}
use Rattle.cap_owners_runs_laws.proofs.Texts.Cells.{main-asks}

-- ---- what is found nothing of

module _ (t : ProgramTree) (r : IsRight t) where
  abbrev rs : List RegionTree
  rs = regions t

  abbrev fs : List FunctionTree
  fs = functions t

  behind-words :
      past most_regions region_count (map region_word rs)
      ++ (past most_functions function_count (map function_word fs)
      ++ (flat_map (region_type_findings rs) (numbered_regions rs)
      ++ (flat_map (function_findings rs fs) fs
      ++ flat_map main_findings (option_to_list (main_of t)))))
      ≡ []
  behind-words =
      nothing_behind
      (map twice_word (repeated (map region_word rs) ++ repeated (map function_word fs))) _
      r.nothing

  behind-counts :
      flat_map (region_type_findings rs) (numbered_regions rs)
      ++ (flat_map (function_findings rs fs) fs
      ++ flat_map main_findings (option_to_list (main_of t)))
      ≡ []
  behind-counts =
      nothing_behind (past most_functions function_count (map function_word fs)) _
      (nothing_behind (past most_regions region_count (map region_word rs)) _ behind-words)

  behind-regions :
      flat_map (function_findings rs fs) fs ++ flat_map main_findings (option_to_list (main_of t))
      ≡ []
  behind-regions =
      nothing_behind (flat_map (region_type_findings rs) (numbered_regions rs)) _ behind-counts

  regions-right : AllByRecursion (λ k. region_type_findings rs k ≡ []) (numbered_regions rs)
  regions-right =
      nothing_flat (region_type_findings rs) (numbered_regions rs)
      (nothing_front (flat_map (region_type_findings rs) (numbered_regions rs)) _ behind-counts)

  functions-right : AllByRecursion (λ f. function_findings rs fs f ≡ []) fs
  functions-right =
      nothing_flat (function_findings rs fs) fs
      (nothing_front (flat_map (function_findings rs fs) fs) _ behind-regions)

  main-right : AllByRecursion (λ f. main_findings f ≡ []) (option_to_list (main_of t))
  main-right =
      nothing_flat main_findings (option_to_list (main_of t))
      (nothing_behind (flat_map (function_findings rs fs) fs) _ behind-regions)

  -- ---- one function, one region type

  requires-right :
      (f : FunctionTree) → function_findings rs fs f ≡ [] → requires_findings rs f ≡ []
  requires-right f e =
      nothing_front (requires_findings rs f) _
      (nothing_behind (parameters_findings (parameters f)) _ e)

  body-right :
      (f : FunctionTree) → function_findings rs fs f ≡ [] →
      body_findings (context_of rs fs f) f ≡ []
  body-right f e =
      nothing_behind (requires_findings rs f) _
      (nothing_behind (parameters_findings (parameters f)) _ e)

  cases-right :
      (k : NumberedRegion) → region_type_findings rs k ≡ [] →
      AllByRecursion (λ c. case_findings rs k c ≡ []) k.region.cases.parts
  cases-right k e =
      nothing_flat (case_findings rs k) k.region.cases.parts
      (nothing_front (flat_map (case_findings rs k) k.region.cases.parts) _
      (nothing_behind (past most_atoms guard_count (guard_names k.region)) _
      (nothing_behind (map twice_word (repeated (guard_names k.region))) _
      (nothing_behind (parameters_findings (own_parameters k)) _ e))))

  all-mapped :
      {A B : Type 0} (P : A → Type 0) (Q : B → Type 0) (f : A → B) → ((x : A) → P x → Q (f x)) →
      (xs : List A) → AllByRecursion P xs → AllByRecursion Q (map f xs)
  all-mapped P Q f h xs a = each_map Q f xs (each_weaker P (λ x. Q (f x)) h xs a)

-- ---- the names of a program are bound

-- In each assertion the names are bound that are new there, outside the sides of conditionals: the
-- fixed names in `requires`, the own names of `ensures` and of an invariant, and those of a case
-- that aren't its whole state.
pub record NamesAreBound (p : PlainProgram) : Type 0 where
  pub requires : AllByRecursion BindsFixed p.functions
  pub ensures :
      AllByRecursion (λ f. BindsFrom (names_start f) (length f.ensures.names) f.ensures.items)
      p.functions
  pub invariants :
      AllByRecursion (λ f. AllByRecursion (λ s. InvariantBinds f s.act) (all_statements f.body))
      p.functions
  pub cases : AllByRecursion (λ k. AllByRecursion (BindsCase k) k.cases) p.regions

right-bound : (t : ProgramTree) → IsRight t → NamesAreBound (program_of t)
right-bound t r =
    let rs = regions t in
    let fs = functions t in
    let Right = λ (f : FunctionTree). function_findings rs fs f ≡ [] in
    let all = functions-right t r in
    record {
      requires =
          all-mapped t r Right BindsFixed (function_program rs fs)
          (λ f e. requires-bound rs fs f (requires-right t r f e)) fs all;
      ensures =
          all-mapped t r Right
          (λ f. BindsFrom (names_start f) (length f.ensures.names) f.ensures.items)
          (function_program rs fs)
          (λ f e. ensures-bound rs fs f
          (nothing_front (clause_findings (context_of rs fs f) (context_of rs fs f).result
          f.postcondition)
          _ (body-right t r f e))) fs all;
      invariants =
          all-mapped t r Right
          (λ f. AllByRecursion (λ s. InvariantBinds f s.act) (all_statements f.body))
          (function_program rs fs)
          (λ f e. body-bound rs fs f
          (nothing_flat (statement_findings (context_of rs fs f)) (statements f)
          (nothing_behind
          (clause_findings (context_of rs fs f) (context_of rs fs f).result f.postcondition) _
          (body-right t r f e)))) fs all;
      cases =
          all-mapped t r (λ k. region_type_findings rs k ≡ [])
          (λ k. AllByRecursion (BindsCase k) k.cases) (region_program rs)
          (λ k e. all-mapped t r (λ c. case_findings rs k c ≡ []) (BindsCase (region_program rs k))
          (case_program rs k) (λ c d. case-bound rs k c d) k.region.cases.parts
          (cases-right t r k e)) (numbered_regions rs) (regions-right t r);
    }

pub names-bound : (t : ProgramTree) (p : PlainProgram) → Stands t p → NamesAreBound p
names-bound t p s =
    subst NamesAreBound (sym s.same) (right-bound t (unrefused-right t s.unrefused))

-- ---- main

main-is :
    (t : ProgramTree) → IsRight t → (f : PlainFunction) →
    slice_get (program_of t).functions (program_of t).main ≡ Some f →
    AsksForCells (range_with_len 0 f.params) f.requires
main-is t r f e =
    by (main_of t) refl (main-right t r)
    (sym (slice_get-map (function_program rs fs) fs (function_number fs (codes "main"))) ∙ e)
  where
    rs : List RegionTree
    rs = regions t

    fs : List FunctionTree
    fs = functions t

    by :
        (o : Option FunctionTree) → main_of t ≡ o →
        AllByRecursion (λ g. main_findings g ≡ []) (option_to_list o) →
        option_map (function_program (regions t) (functions t))
        (slice_get (functions t) (function_number (functions t) (codes "main")))
        ≡ Some f →
        AsksForCells (range_with_len 0 f.params) f.requires
    by None h a d = absurd (r.main h)
    by (Some g) h a d =
        let at : slice_get fs (function_number fs (codes "main")) ≡ Some g =
        sym (find_at (is_function (codes "main")) fs) ∙ h in
        let is : function_program rs fs g ≡ f =
        same_Some (function_program rs fs g) f
        (sym (ap (option_map (function_program rs fs)) at) ∙ d) in
        subst (λ (x : PlainFunction). AsksForCells (range_with_len 0 x.params) x.requires) is
        (main-asks rs fs g
        (requires-right t r g
        (get-each (λ x. function_findings rs fs x ≡ []) fs (function_number fs (codes "main")) g
        (functions-right t r) at)) a.0)

right-textual : (t : ProgramTree) → IsRight t → IsTextual (program_of t)
right-textual t r =
    record { fixed = (right-bound t r).requires; main = λ f e. main-is t r f e }

-- the programs that trees stand for are those of texts
pub textual : (t : ProgramTree) (p : PlainProgram) → Stands t p → IsTextual p
textual t p s = subst IsTextual (sym s.same) (right-textual t (unrefused-right t s.unrefused))
