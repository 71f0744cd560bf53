-- What is known of the bytes of a derivation.
use Rattle.std.proofs.Common.{◌≡◌, ◌≢◌, ℕ, List, map, Ok, Err, refl, sym, ap, ◌∙◌, subst}
use Rattle.cap_goal.specs.Views.{choice_view}
use Rattle.cap_deriv.specs.Told.{told_by_bytes, choices_told, all_told}
use Rattle.cap_deriv.specs.Whole.{ReadsWhole}
use Rattle.cap_deriv.specs.declared.cursor.DerivError.{DerivError}
use Rattle.cap_deriv.specs.declared.cursor.DerivError.TheVariants.{OutOfMemory}
use Rattle.cap_deriv.specs.declared.entire.Lines.{Lines}
use Rattle.cap_top_commands.specs.Derivations.{IsBadDerivation, SaysBadLines}
use Rattle.cap_top_commands.specs.Output.{Output, bad_derivation_output}
use Rattle.cap_top_commands.proofs.Following.{one_list, same-trees, one_error, apart}
use Rattle.cap_top_commands.proofs.Outlines.{bad_whole}
use Rattle.cap_top_accounts.specs.Listing.{IsOnlyLinesOf, IsOnlyBadLines}

pub lists_lines : (bytes : List ℕ) (l : Lines) → ReadsWhole (Ok l) (told_by_bytes bytes)
    → IsOnlyLinesOf bytes l.trees (map choice_view l.choices.items)
lists_lines bytes l h =
    let cs = map choice_view l.choices.items in
    record {
      told = h;
      only = λ m ds k. (
        same-trees l.trees m (choices_told cs all_told) (choices_told ds all_told) (sym h ∙ k),
        one_list bytes l.trees m cs ds h k,
      );
      unrefused = λ o b. apart bytes l.trees cs b.error h b.bad;
    }

bad_only : (bytes : List ℕ) (e : DerivError) → IsBadDerivation bytes e → IsOnlyBadLines bytes (bad_derivation_output e)
bad_only bytes e h = record {
  output = record { said = record { error = e; bad = h; whole = refl }; only = by };
  none = λ n cs k. apart bytes n cs e k h;
}
  where
    by : (q : Output) → SaysBadLines bytes q → bad_derivation_output e ≡ q
    by q k = ap bad_derivation_output (one_error bytes e k.error h k.bad) ∙ sym k.whole

pub lists_bad : (bytes : List ℕ) (e : DerivError) (o : Output) → ReadsWhole (Err e) (told_by_bytes bytes)
    → o ≡ bad_derivation_output e → e ≢ OutOfMemory → IsOnlyBadLines bytes o
lists_bad bytes e o f same h = subst (IsOnlyBadLines bytes) (sym same) (bad_only bytes e (bad_whole bytes e f h))
