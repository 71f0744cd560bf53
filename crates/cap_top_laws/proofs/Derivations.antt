-- Something is said of the derivation of each program.
use Rattle.std.proofs.Common.{◌≡◌, inl, inr, ℕ, ◌<◌, ◌≤◌, ◌^◌, arith, Bool, true, false, List, length, Option, refl}
use Rattle.cap_prog.specs.Program.{PlainProgram}
use Rattle.cap_goal_spec.specs.Choices.{PlainTree}
use Rattle.cap_deriv.specs.Told.{most_nodes}
use Rattle.cap_deriv_write.specs.Preorder.{choices_of_roots}
use Rattle.cap_deriv_write.specs.Spelled.{AreBundle, DerivationLines, HaveNoSpaces}
use Rattle.cap_deriv_write.specs.Written.{derivation_text}
use Rattle.cap_top_commands.specs.cap_top_report.Found.{found_trees}
use Rattle.cap_top_commands.specs.cap_top_report.Report.{is_good, report_text}
use Rattle.cap_io.specs.Outside.{longest}
use Rattle.cap_top_commands.specs.Derivations.{HaveText, IsDerivation}
use Rattle.cap_top_commands.specs.Output.{Output, report_output, derivation_output, long_derivation_output}
use Rattle.cap_top_laws.specs.Laws.{FoundHaveLines, DerivationsAreAnswered}
use Rattle.cap_top_laws.proofs.Certificates.{EitherWay, as-well, both, less, at-most}

abbrev pub WritingsAreLines : Type 0
WritingsAreLines =
    (roots : List (Option PlainTree)) → AreBundle roots → length (choices_of_roots roots) < 2 ^ 64
    → DerivationLines roots (derivation_text roots) × HaveNoSpaces (derivation_text roots)

have-text-or-not : (trees : List (Option PlainTree)) → EitherWay (HaveText trees)
have-text-or-not trees =
    as-well (λ h. record { roots = h.0.0; nodes = h.0.1; bytes = h.1 }) (λ (h : HaveText trees). ((h.roots, h.nodes), h.bytes))
    (both (both (less (length trees) (2 ^ 32)) (at-most (length (choices_of_roots trees)) most_nodes))
    (at-most (length (derivation_text trees)) longest))

few : (n : ℕ) → n ≤ most_nodes → n < 2 ^ 64
few n h = omega arith

module _ (write : WritingsAreLines) (budget : ℕ) (p : PlainProgram) (have : FoundHaveLines budget p) where
  says-proved : is_good p budget ≡ true → EitherWay (HaveText (found_trees p budget)) → (o : Output) × IsDerivation budget p o
  says-proved e (inl h) = (
    derivation_output (derivation_text (found_trees p budget)),
    inr (inr (record {
      good = e;
      short = h;
      lines = (write (found_trees p budget) (h.roots, have e) (few _ h.nodes)).0;
      whole = refl;
    })),
  )
  says-proved e (inr n) = (long_derivation_output, inr (inl (record { good = e; long = n; whole = refl })))

  says-derived : (b : Bool) → is_good p budget ≡ b → (o : Output) × IsDerivation budget p o
  says-derived true e = says-proved e (have-text-or-not (found_trees p budget))
  says-derived false e =
      (report_output (is_good p budget) (report_text p budget), inl (record { bad = e; report = refl }))

pub derivation-answered : WritingsAreLines → DerivationsAreAnswered
derivation-answered write budget p have = says-derived write budget p have (is_good p budget) refl
