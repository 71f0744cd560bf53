-- The certificates of a shift, and the pieces that it names or none, are read from tokens as from values.
use Rattle.std.proofs.Common.{◌≡◌, ℕ, suc, List, [], ◌∷◌, Option, Some, None, option_map, option_and_then, refl, sym, ap, ◌∙◌}
use Rattle.std.specs.Prelude.{codes}
use Rattle.json.specs.Token.{Token}
use Rattle.json.specs.Json.{parse_map, after_end_array, value}
use Rattle.json.proofs.Grammar.{items_end}
use Rattle.serde_json.specs.Data.{Data}
use Rattle.serde_json.specs.Read.{converted}
use Rattle.cap_farkas.specs.declared.cert.Cert.{Cert}
use Rattle.cap_goal_spec.specs.Choices.{by_shift}
use Rattle.cap_deriv_choices.specs.Reading.{numbers_of_json, certs_of_json, unless_empty, spans_of_json, choice_of_items}
use Rattle.cap_deriv_choices.specs.Taking.{take_numbers, take_certs, take_spans, spans_turn, take_last_spans, take_shift}
use Rattle.cap_deriv_choices.proofs.ReadAs.{listed, list_as, ReadsData, ReadsItems, then_reads, first_reads, item_reads}
use Rattle.cap_deriv_choices.proofs.Parts.{of_none, ended, none_read, map_read, last_map, nothing, under, numbers_read, certs_read}

-- no argument, or one
abbrev spans_of_items : List Data → Option (List ℕ)
spans_of_items [] = Some []
spans_of_items (b ∷ []) = spans_of_json b
spans_of_items (b ∷ c ∷ ds) = None

same_some : {A : Type 0} (o : Option A) → o ≡ option_and_then (λ a. Some a) o
same_some None = refl
same_some (Some a) = refl

one_step : (x : Data) (xs : List Data) → spans_of_items (x ∷ xs) ≡ option_and_then (λ ns. of_none ns xs) (spans_of_json x)
one_step x [] = same_some (spans_of_json x)
one_step x (y ∷ ys) = sym (nothing (spans_of_json x))

spans_read : (d : ℕ) → ReadsData spans_of_json (suc d) take_spans
spans_read d = then_reads numbers_of_json unless_empty (suc d) take_numbers (numbers_read d)

last_spans_read : (d : ℕ) → ReadsItems spans_of_items (suc d) take_last_spans
last_spans_read d n ts le = at (after_end_array ts) refl
  where
    at : (o : Option (List Token)) → after_end_array ts ≡ o → spans_turn ts o ≡ list_as spans_of_items (suc d) n ts
    at (Some r) e = sym (ap (converted (listed spans_of_items)) (items_end (value (suc d)) n ts r le e))
    at None e = first_reads spans_of_json spans_of_items of_none ended (suc d) one_step (λ ns. none_read ns (suc d)) take_spans (spans_read d) n ts le e

shift_step : (x : Data) (xs : List Data) → choice_of_items (codes "shift") (x ∷ xs) ≡ option_and_then (λ cs. option_map (by_shift cs) (spans_of_items xs)) (certs_of_json x)
shift_step x [] = sym (last_map (λ cs. by_shift cs []) (certs_of_json x))
shift_step x (b ∷ []) = refl
shift_step x (b ∷ c ∷ []) = sym (nothing (certs_of_json x))
shift_step x (b ∷ c ∷ d ∷ ds) = sym (nothing (certs_of_json x))

module _ (d : ℕ) where
  abbrev deep : ℕ
  deep = suc (suc (suc (suc d)))

  pub shift_read : ReadsItems (choice_of_items (codes "shift")) deep take_shift
  shift_read n ts le =
      under (λ (cs : List Cert × List Token). option_and_then (λ (ns : List ℕ × List Token). Some (by_shift cs.0 ns.0, ns.1)) (take_last_spans cs.1)) (λ cs. parse_map (by_shift cs.0) (take_last_spans cs.1))
      (λ cs. last_map (λ (ns : List ℕ × List Token). (by_shift cs.0 ns.0, ns.1)) (take_last_spans cs.1)) (take_certs ts)
      ∙ item_reads certs_of_json (choice_of_items (codes "shift")) (λ cs xs. option_map (by_shift cs) (spans_of_items xs)) (λ cs us. parse_map (by_shift cs) (take_last_spans us)) deep shift_step
      (λ cs. map_read (by_shift cs) spans_of_items deep take_last_spans (last_spans_read (suc (suc (suc d))))) refl take_certs (certs_read d) n ts le
