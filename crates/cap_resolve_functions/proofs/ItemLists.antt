-- Items behind items.
use Rattle.std.proofs.Common.{◌≡◌, List, [], ◌∷◌, ◌++◌, map, Some, refl, ap, sym, ◌∙◌}
use Rattle.std.proofs.lemmas.List.{map-append}
use Rattle.cap_prog.specs.declared.assertion.Item.{Item}
use Rattle.cap_prog.specs.Program.{PlainItem, Items, none, item, items_of, append_items}
use Rattle.cap_prog.specs.Views.{item_view}
use Rattle.cap_parse_tree.specs.declared.word.Word.{Word}
use Rattle.cap_parse_tree.specs.Tree.{GuardTree}
use Rattle.cap_resolve_spec.specs.Names.{NameScope}
use Rattle.cap_resolve_spec.specs.Items.{NumberedRegion}
use Rattle.cap_resolve_spec.specs.Program.{lone, atoms_program}
use Rattle.cap_resolve_functions.specs.Views.{items_seen, atom_built}

pub items_behind : (a b : List PlainItem) → items_of (a ++ b) ≡ append_items (items_of a) (items_of b)
items_behind [] b = refl
items_behind (i ∷ a) b = ap (item i) (items_behind a b)

pub append_none : (a : Items) → append_items a none ≡ a
append_none none = refl
append_none (item i a) = ap (item i) (append_none a)

pub append_append : (a b c : Items) → append_items (append_items a b) c ≡ append_items a (append_items b c)
append_append none b c = refl
append_append (item i a) b c = ap (item i) (append_append a b c)

pub one_more : (is : List Item) (i : Item) → items_seen (is ++ i ∷ []) ≡ append_items (items_seen is) (lone (item_view i))
one_more is i = ap items_of (map-append item_view is (i ∷ [])) ∙ items_behind (map item_view is) (item_view i ∷ [])

pub ruleset pushed = (one_more, append_none, append_append)

atoms_list : (k : NumberedRegion) (scope : NameScope) (r : Word) (gs : List GuardTree) → items_of (map (atom_built k scope r) gs) ≡ atoms_program (Some k) scope r gs
atoms_list k scope r [] = refl
atoms_list k scope r (g ∷ gs) = ap (item (atom_built k scope r g)) (atoms_list k scope r gs)

pub atoms_behind : (k : NumberedRegion) (scope : NameScope) (r : Word) (gs : List GuardTree) (old new : List Item) → map item_view new ≡ map item_view old ++ map (atom_built k scope r) gs → items_seen new ≡ append_items (items_seen old) (atoms_program (Some k) scope r gs)
atoms_behind k scope r gs old new e =
    ap items_of e
    ∙ (items_behind (map item_view old) (map (atom_built k scope r) gs)
    ∙ ap (append_items (items_seen old)) (atoms_list k scope r gs))

-- ---- a loop over items

pub more_stays : (a b x rest whole : Items) → b ≡ append_items a x → append_items a (append_items x rest) ≡ whole → append_items b rest ≡ whole
more_stays a b x rest whole e h = ap (λ y. append_items y rest) e ∙ (append_append a x rest ∙ h)

pub none_stays : (a rest whole : Items) → rest ≡ none → append_items a rest ≡ whole → a ≡ whole
none_stays a rest whole e h = sym (ap (append_items a) e ∙ append_none a) ∙ h
