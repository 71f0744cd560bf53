-- The program for which a tree stands is well-formed.
use Rattle.std.proofs.Common.{◌≡◌, ℕ, suc, ◌+◌, ◌<◌, ◌≤◌, codes, List, [], ◌∷◌, ◌++◌, map, flat_map, length, slice_get, Option, Some, None, option_to_list, refl, sym, ap, subst, ◌∙◌, arith, append_assoc, length-append}
use Rattle.std.specs.List.{AllByRecursion, enumerate_from}
use Rattle.std.proofs.lemmas.List.{length-map}
use Rattle.std.proofs.lemmas.List.Folds.{find_at}
use Rattle.std.proofs.lemmas.Option.{slice_get_within}
use Rattle.cap_prog.specs.Program.{PlainProgram}
use Rattle.cap_prog.specs.WellFormed.{most_members, most_regions, most_functions, RegionFits, FunctionFits, IsWellFormed}
use Rattle.cap_parse_tree.specs.Spelling.{spelling}
use Rattle.cap_parse_tree.specs.Tree.{RegionTree, FunctionTree, ProgramTree}
use Rattle.cap_resolve_spec.specs.Finding.{twice_word, region_count, function_count}
use Rattle.cap_resolve_spec.specs.Parts.{regions, functions}
use Rattle.cap_resolve_spec.specs.Names.{repeated, past}
use Rattle.cap_resolve_spec.specs.Items.{NumberedRegion, numbered, numbered_regions}
use Rattle.cap_resolve_spec.specs.Regions.{region_type_findings}
use Rattle.cap_resolve_spec.specs.Functions.{is_function, function_findings, main_findings}
use Rattle.cap_resolve_spec.specs.Program.{region_program, function_program, function_number, program_of}
use Rattle.cap_resolve_spec.specs.Refusal.{IsRight}
use Rattle.cap_resolve_spec.specs.Stands.{region_word, function_word, main_of, Stands}
use Rattle.cap_resolve_spec.proofs.Nothing.{nothing_front, nothing_behind, nothing_flat, not_past}
use Rattle.cap_resolve_spec.proofs.First.{unrefused-right}
use Rattle.cap_resolve_spec.proofs.Items.{IsNumbered}
use Rattle.cap_resolve_spec.proofs.Regions.{region-fits}
use Rattle.cap_resolve_spec.proofs.Statements.{function-fits}
use Rattle.cap_resolve_spec.proofs.Short.{IsShortRegion, IsShortFunction, regions-short, functions-short, region-short, function-short}

-- ---- region types have the numbers of their places

at-front : (n : ℕ) (front : List RegionTree) (r : RegionTree) (rs : List RegionTree) → slice_get (map numbered (enumerate_from n (front ++ (r ∷ rs)))) (length front) ≡ Some (record { number = n + length front; region = r })
at-front n [] r rs = ap (λ k. Some (record { number = k; region = r })) (omega arith)
at-front n (f ∷ front) r rs = at-front (n + 1) front r rs ∙ ap (λ k. Some (record { number = k; region = r })) (omega arith)

numbered-from : (front rs : List RegionTree) → AllByRecursion (IsNumbered (front ++ rs)) (map numbered (enumerate_from (length front) rs))
numbered-from front [] = tt
numbered-from front (r ∷ rs) =
    let e : length (front ++ r ∷ []) ≡ length front + 1 = length-append front (r ∷ []) in (
      at-front 0 front r rs ∙ ap (λ k. Some (record { number = k; region = r })) (omega arith),
      subst (λ all. AllByRecursion (IsNumbered all) (map numbered (enumerate_from (length front + 1) rs))) (append_assoc front (r ∷ []) rs)
          (subst (λ n. AllByRecursion (IsNumbered ((front ++ r ∷ []) ++ rs)) (map numbered (enumerate_from n rs))) e (numbered-from (front ++ r ∷ []) rs)),
    )

numbered-short : (n : ℕ) (rs : List RegionTree) → AllByRecursion IsShortRegion rs → AllByRecursion (λ (k : NumberedRegion). IsShortRegion k.region) (map numbered (enumerate_from n rs))
numbered-short n [] a = tt
numbered-short n (r ∷ rs) a = (a.0, numbered-short (n + 1) rs a.1)

enumerated-length : (n : ℕ) (rs : List RegionTree) → length (map numbered (enumerate_from n rs)) ≡ length rs
enumerated-length n [] = refl
enumerated-length n (r ∷ rs) = ap suc (enumerated-length (n + 1) rs)

-- ---- all of them fit

regions-fit : (p : PlainProgram) (rs : List RegionTree) → p.regions ≡ map (region_program rs) (numbered_regions rs) → (ks : List NumberedRegion) → AllByRecursion (IsNumbered rs) ks → AllByRecursion (λ k. region_type_findings rs k ≡ []) ks → AllByRecursion (λ (k : NumberedRegion). IsShortRegion k.region) ks → AllByRecursion (RegionFits p) (map (region_program rs) ks)
regions-fit p rs h [] a b c = tt
regions-fit p rs h (k ∷ ks) a b c = (region-fits p rs h k a.0 b.0 (region-short rs k c.0.behind c.0.short), regions-fit p rs h ks a.1 b.1 c.1)

functions-fit : (p : PlainProgram) (rs : List RegionTree) (fs : List FunctionTree) → p.regions ≡ map (region_program rs) (numbered_regions rs) → p.functions ≡ map (function_program rs fs) fs → (gs : List FunctionTree) → AllByRecursion (λ f. function_findings rs fs f ≡ []) gs → AllByRecursion IsShortFunction gs → AllByRecursion (FunctionFits p) (map (function_program rs fs) gs)
functions-fit p rs fs h g [] a b = tt
functions-fit p rs fs h g (f ∷ gs) a b = (function-fits p rs fs h g f a.0 (function-short rs fs f b.0.behind b.0.short), functions-fit p rs fs h g gs a.1 b.1)

right-fits : (t : ProgramTree) → IsRight t → length (spelling t) ≤ most_members → IsWellFormed (program_of t)
right-fits t r short = record {
  main = by (main_of t) refl;
  region_count = subst (λ n. n ≤ most_regions) (length-map (regions t) region_word ∙ sym (length-map (numbered_regions (regions t)) (region_program (regions t)) ∙ enumerated-length 0 (regions t))) (not_past most_regions region_count (map region_word (regions t)) (nothing_front (past most_regions region_count (map region_word (regions t))) _ rest1));
  function_count = subst (λ n. n ≤ most_functions) (length-map (functions t) function_word ∙ sym (length-map (functions t) (function_program (regions t) (functions t)))) (not_past most_functions function_count (map function_word (functions t)) (nothing_front (past most_functions function_count (map function_word (functions t))) _ rest2));
  regions = regions-fit (program_of t) (regions t) refl (numbered_regions (regions t)) (numbered-from [] (regions t)) (nothing_flat (region_type_findings (regions t)) (numbered_regions (regions t)) (nothing_front (flat_map (region_type_findings (regions t)) (numbered_regions (regions t))) _ rest3)) (numbered-short 0 (regions t) (regions-short t short));
  functions = functions-fit (program_of t) (regions t) (functions t) refl refl (functions t) (nothing_flat (function_findings (regions t) (functions t)) (functions t) (nothing_front (flat_map (function_findings (regions t) (functions t)) (functions t)) _ rest4)) (functions-short t short);
}
  where
    rest1 : past most_regions region_count (map region_word (regions t)) ++ (past most_functions function_count (map function_word (functions t)) ++ (flat_map (region_type_findings (regions t)) (numbered_regions (regions t)) ++ (flat_map (function_findings (regions t) (functions t)) (functions t) ++ flat_map main_findings (option_to_list (main_of t))))) ≡ []
    rest1 = nothing_behind (map twice_word (repeated (map region_word (regions t)) ++ repeated (map function_word (functions t)))) _ r.nothing

    rest2 : past most_functions function_count (map function_word (functions t)) ++ (flat_map (region_type_findings (regions t)) (numbered_regions (regions t)) ++ (flat_map (function_findings (regions t) (functions t)) (functions t) ++ flat_map main_findings (option_to_list (main_of t)))) ≡ []
    rest2 = nothing_behind (past most_regions region_count (map region_word (regions t))) _ rest1

    rest3 : flat_map (region_type_findings (regions t)) (numbered_regions (regions t)) ++ (flat_map (function_findings (regions t) (functions t)) (functions t) ++ flat_map main_findings (option_to_list (main_of t))) ≡ []
    rest3 = nothing_behind (past most_functions function_count (map function_word (functions t))) _ rest2

    rest4 : flat_map (function_findings (regions t) (functions t)) (functions t) ++ flat_map main_findings (option_to_list (main_of t)) ≡ []
    rest4 = nothing_behind (flat_map (region_type_findings (regions t)) (numbered_regions (regions t))) _ rest3

    by : (o : Option FunctionTree) → main_of t ≡ o → function_number (functions t) (codes "main") < length (map (function_program (regions t) (functions t)) (functions t))
    by None e = absurd (r.main e)
    by (Some f) e =
        let n : length (map (function_program (regions t) (functions t)) (functions t)) ≡ length (functions t) = length-map (functions t) (function_program (regions t) (functions t)) in
        subst (λ m. function_number (functions t) (codes "main") < m) (sym n) (slice_get_within (functions t) (function_number (functions t) (codes "main")) f (sym (find_at (is_function (codes "main")) (functions t)) ∙ e))

pub stands-well_formed : (t : ProgramTree) (p : PlainProgram) → length (spelling t) ≤ most_members → Stands t p → IsWellFormed p
stands-well_formed t p short s = subst IsWellFormed (sym s.same) (right-fits t (unrefused-right t s.unrefused) short)
