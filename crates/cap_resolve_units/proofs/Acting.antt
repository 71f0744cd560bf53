-- What is noted of an action, composed of what is noted of its indices and of the rest.
use Rattle.std.proofs.Common.{◌≡◌, List, flat_map, fold, Option, sym, ap, ◌∙◌}
use Rattle.std.proofs.lemmas.List.Sums.{fold-append}
use Rattle.cap_parse_tree.specs.declared.word.Word.{Word}
use Rattle.cap_parse_tree.specs.Tree.{TermTree, ComparisonTree, GuardTree}
use Rattle.cap_resolve_spec.specs.Finding.{Finding, note}
use Rattle.cap_resolve_spec.specs.Parts.{whole_name}
use Rattle.cap_resolve_spec.specs.Names.{NameScope, whole_numbers}
use Rattle.cap_resolve_spec.specs.Items.{NumberedRegion, Occurrence}
use Rattle.cap_resolve_spec.specs.Regions.{indices_findings}
use Rattle.cap_resolve_units.specs.Parts.{action_names, whole_action_of, whole_action_part}

module _ (n : Option Finding) (k : NumberedRegion) (params : List Word) (atoms : List GuardTree) (source target : TermTree) (when : List ComparisonTree) where
  abbrev indices : NameScope → Option Word → Option Word → List Finding
  indices scope first last = flat_map (indices_findings scope first last) atoms

  abbrev others : List Occurrence → List Finding
  others new = whole_action_of k params new atoms source target when

  abbrev names : NameScope → List Occurrence
  names scope = action_names scope k atoms source target when

  pub action_is : (m : Option Finding) (scope : NameScope) (first last : Option Word) (new : List Occurrence) → scope ≡ whole_numbers params → first ≡ whole_name source → last ≡ whole_name target → new ≡ names scope → m ≡ fold note n (indices scope first last) → fold note m (others new) ≡ fold note n (whole_action_part k params atoms source target when)
  action_is m scope first last new s f l e h =
      ap (λ x. fold note x (others new)) h
      ∙ (ap (λ x. fold note (fold note n (indices scope first last)) (others x)) e
      ∙ (ap (λ x. fold note (fold note n (indices scope x last)) (others (names scope))) f
      ∙ (ap (λ x. fold note (fold note n (indices scope (whole_name source) x)) (others (names scope))) l
      ∙ (ap (λ x. fold note (fold note n (indices x (whole_name source) (whole_name target))) (others (names x))) s
      ∙ sym (fold-append note n (indices (whole_numbers params) (whole_name source) (whole_name target)) (others (names (whole_numbers params))))))))
