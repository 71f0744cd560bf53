-- The program for which the tree of the bytes stands, and nothing else.
use Rattle.std.proofs.Common.{◌≡◌, ℕ, List, Option, Some, None, Ok, Err, refl, sym, ap, ◌∙◌}
use Rattle.cap_prog.specs.declared.program.Program.{Program}
use Rattle.cap_prog.specs.Program.{PlainProgram}
use Rattle.cap_prog.specs.Views.{program_view}
use Rattle.cap_parse_tree.specs.Tree.{ProgramTree}
use Rattle.cap_parse_tree.specs.declared.tree.Tree.{Tree}
use Rattle.cap_parse_tree.specs.Views.{tree_view}
use Rattle.cap_parse_laws.specs.Texts.{Spells}
use Rattle.cap_resolve_spec.specs.Program.{program_of}
use Rattle.cap_resolve_spec.specs.Stands.{refusal, Stands}
use Rattle.cap_resolve.specs.declared.error.ResolveError.{ResolveError}
use Rattle.cap_resolve.specs.declared.error.ResolveError.TheVariants as error
use Rattle.cap_resolve.specs.Errors.{error_view, IsResolved}
use Rattle.cap_top_reading.specs.declared.refusal.Refusal.{Refusal}
use Rattle.cap_top_reading.specs.declared.refusal.Refusal.TheVariants.{BadByte, LongLiteral, TextTooLong, Unexpected, TooDeep, Unresolved, OutOfMemory}
use Rattle.cap_top_reading.specs.Refused.{SpellNone, IsRefused, IsTextOf}
use Rattle.cap_top_reading.specs.Reading.{UnlessMemory, FindsTree, FindsProgram, resolve_refusal}
use Rattle.cap_resolve_spec.specs.Finding as plain
use Rattle.cap_resolve_terms.specs.declared.finding.Limit.{Limit}
use Rattle.cap_resolve_terms.specs.declared.finding.Limit.TheVariants as limits
use Rattle.cap_resolve_terms.specs.Views.{limit_view}
use Rattle.cap_syntax.specs.declared.place.Place.{Place}
use Rattle.cap_top_reading.proofs.Causes.{memory_is}

limit_of : plain.Limit → Limit
limit_of plain.function_count = limits.Functions
limit_of plain.region_count = limits.Regions
limit_of plain.parameter_count = limits.Parameters
limit_of plain.guard_count = limits.Guards
limit_of plain.variable_count = limits.Variables
limit_of plain.cell_count = limits.Alloc
limit_of plain.width = limits.Width

limit_again : (l : Limit) → limit_of (limit_view l) ≡ l
unfolding limit_of
limit_again limits.Functions = refl
limit_again limits.Regions = refl
limit_again limits.Parameters = refl
limit_again limits.Guards = refl
limit_again limits.Variables = refl
limit_again limits.Alloc = refl
limit_again limits.Width = refl

-- the error of a finding
error_of : Option plain.Finding → ResolveError
error_of None = error.OutOfMemory
error_of (Some f) = by f.cause f.place
  where
    by : plain.Cause → Place → ResolveError
    by (plain.unknown x) p = error.Unknown x p
    by (plain.twice x) p = error.Twice x p
    by plain.wrong_arity p = error.Arity p
    by plain.wrong_sort p = error.Sort p
    by plain.nonlinear p = error.NonLinear p
    by plain.no_main p = error.NoMain p
    by plain.main_precondition p = error.MainPre p
    by plain.self_fact p = error.SelfFact p
    by (plain.limit l) p = error.Limit (limit_of l) p

error_again : (e : ResolveError) → error_of (error_view e) ≡ e
unfolding error_of
error_again (error.Unknown x p) = refl
error_again (error.Twice x p) = refl
error_again (error.Arity p) = refl
error_again (error.Sort p) = refl
error_again (error.NonLinear p) = refl
error_again (error.NoMain p) = refl
error_again (error.MainPre p) = refl
error_again (error.SelfFact p) = refl
error_again (error.Limit l p) = ap (λ m. error.Limit m p) (limit_again l)
error_again error.OutOfMemory = refl

same_error : (d e : ResolveError) → error_view d ≡ error_view e → d ≡ e
same_error d e h = sym (error_again d) ∙ ap error_of h ∙ error_again e

module _ (bytes : List ℕ) (t : Tree) (f : FindsTree bytes (Ok t)) where
  abbrev tree : ProgramTree
  tree = tree_view t

  -- a tree that the bytes spell is this one
  the_tree : (u : ProgramTree) → Spells bytes u → tree ≡ u
  the_tree u s = f.only_found u s

  no_other : (r : Refusal) → SpellNone bytes r → ⊥
  no_other r g = f.only_caused r g

  -- the program that was found
  pub program_found : (p : Program) → Stands tree (program_view p) → FindsProgram bytes (Ok p)
  program_found p s = record {
    found = record { tree = tree; spelled = f.found; stands = s };
    not_found = tt;
    only_found = λ q h. s.same ∙ ap program_of (the_tree h.tree h.spelled) ∙ sym h.stands.same;
    only_caused = by;
  }
    where
      by : (r : Refusal) → IsRefused bytes r → ⊥
      by (Unresolved e) u =
          let g : None ≡ Some u.finding = sym s.unrefused ∙ ap refusal (the_tree u.tree u.spelled) ∙ u.refused in cc
      by (BadByte p) g = no_other (BadByte p) g
      by (LongLiteral p) g = no_other (LongLiteral p) g
      by TextTooLong g = no_other TextTooLong g
      by (Unexpected p) g = no_other (Unexpected p) g
      by (TooDeep p) g = no_other (TooDeep p) g
      by OutOfMemory g = g

  -- the tree is refused
  refused : (e : ResolveError) (x : plain.Finding) → refusal tree ≡ Some x → error_view e ≡ Some x
      → FindsProgram bytes (Err (Unresolved e))
  refused e x h v = record {
    found = tt;
    not_found = record { tree = tree; spelled = f.found; finding = x; refused = h; caused = v };
    only_found = λ q s. absurd (stands_not s);
    only_caused = by;
  }
    where
      stands_not : {q : PlainProgram} → IsTextOf bytes q → ⊥
      stands_not s =
          let g : None ≡ Some x = sym s.stands.unrefused ∙ sym (ap refusal (the_tree s.tree s.spelled)) ∙ h in cc

      by : (r : Refusal) → IsRefused bytes r → Unresolved e ≡ r
      by (Unresolved d) u =
          ap Unresolved (same_error e d (v ∙ (sym h ∙ (ap refusal (the_tree u.tree u.spelled) ∙ (u.refused ∙ sym u.caused)))))
      by (BadByte p) g = absurd (no_other (BadByte p) g)
      by (LongLiteral p) g = absurd (no_other (LongLiteral p) g)
      by TextTooLong g = absurd (no_other TextTooLong g)
      by (Unexpected p) g = absurd (no_other (Unexpected p) g)
      by (TooDeep p) g = absurd (no_other (TooDeep p) g)
      by OutOfMemory g = absurd g

  pub program_refused : (e : ResolveError) → IsResolved tree (Err e) → FindsProgram bytes (Err (resolve_refusal e))
  program_refused (error.Unknown x p) h = refused (error.Unknown x p) _ h refl
  program_refused (error.Twice x p) h = refused (error.Twice x p) _ h refl
  program_refused (error.Arity p) h = refused (error.Arity p) _ h refl
  program_refused (error.Sort p) h = refused (error.Sort p) _ h refl
  program_refused (error.NonLinear p) h = refused (error.NonLinear p) _ h refl
  program_refused (error.NoMain p) h = refused (error.NoMain p) _ h refl
  program_refused (error.MainPre p) h = refused (error.MainPre p) _ h refl
  program_refused (error.SelfFact p) h = refused (error.SelfFact p) _ h refl
  program_refused (error.Limit l p) h = refused (error.Limit l p) _ h refl
  program_refused error.OutOfMemory h =
      record { found = tt; not_found = tt; only_found = λ q s. refl; only_caused = λ r u. tt }

-- the bytes spell no tree
pub no_tree : (bytes : List ℕ) (e : Refusal) → FindsTree bytes (Err e) → FindsProgram bytes (Err e)
no_tree bytes e f = record {
  found = tt;
  not_found = caused e f.not_found;
  only_found = λ q s. f.only_found s.tree s.spelled;
  only_caused = by;
}
  where
    caused : (d : Refusal) → UnlessMemory d (SpellNone bytes d) → UnlessMemory d (IsRefused bytes d)
    caused (BadByte p) h = h
    caused (LongLiteral p) h = h
    caused TextTooLong h = h
    caused (Unexpected p) h = h
    caused (TooDeep p) h = h
    caused (Unresolved x) h = absurd h
    caused OutOfMemory h = tt

    by : (r : Refusal) → IsRefused bytes r → UnlessMemory e (e ≡ r)
    by (Unresolved x) u = memory_is e (Unresolved x) (f.only_found u.tree u.spelled)
    by (BadByte p) g = f.only_caused (BadByte p) g
    by (LongLiteral p) g = f.only_caused (LongLiteral p) g
    by TextTooLong g = f.only_caused TextTooLong g
    by (Unexpected p) g = f.only_caused (Unexpected p) g
    by (TooDeep p) g = f.only_caused (TooDeep p) g
    by OutOfMemory g = absurd g
