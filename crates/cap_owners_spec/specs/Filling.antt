-- By what the items of an assertion are met when they are taken, and which values that brings when
-- they are given.
use Rattle.std.specs.Prelude.{ℕ, ◌^◌, nat_lt, Bool, true, ◌&&◌, ℤ, pos, negsuc, if◌then◌else◌, is_some, List, [], ◌∷◌, ◌++◌, slice_set, Option, Some, None}
use Rattle.std.specs.FinMap.{insert}
use Rattle.cap_rules.specs.cap_goal_spec.cap_lin.Linear.{Linear}
use Rattle.cap_rules.specs.cap_goal_spec.cap_galg.Fractions.{lowest}
use Rattle.cap_rules.specs.cap_goal_spec.cap_galg.Elements.{Element, one, share, tok, src, both, left, right, tokens, indices, index_set}
use Rattle.cap_rules.specs.cap_goal_spec.cap_gsolve.declared.piece.Form.{Form}
use Rattle.cap_rules.specs.cap_goal_spec.cap_gsolve.declared.piece.Form.TheVariants as form
use Rattle.cap_rules.specs.cap_goal_spec.cap_gsolve.declared.piece.Piece.{Piece}
use Rattle.cap_rules.specs.cap_goal_spec.cap_prog.declared.assertion.Comp.{Comp}
use Rattle.cap_rules.specs.cap_goal_spec.cap_prog.declared.assertion.Slot.{Slot}
use Rattle.cap_rules.specs.cap_goal_spec.cap_prog.declared.assertion.Slot.TheVariants.{Any, Is}
use Rattle.cap_rules.specs.cap_goal_spec.cap_prog.declared.assertion.Asked.{Asked}
use Rattle.cap_rules.specs.cap_goal_spec.cap_prog.declared.assertion.Asked.TheVariants.{One, Share, Src, Tok, At, From}
use Rattle.cap_rules.specs.cap_goal_spec.cap_prog.Program.{PlainItem, compare, choose, fact, atom, cell, Items, none, item, append_items, PlainProgram}
use Rattle.cap_rules.specs.cap_goal_spec.Terms.{lone_variable}
use Rattle.cap_rules.specs.cap_goal_spec.States.{PlainEnv, PlainState}
use Rattle.cap_rules.specs.cap_goal_spec.Environments.{zero_value, term_of, with_name, Reading, settled, open_to}
use Rattle.cap_galg_indices.specs.Sets.{one_index, indices_from, index_range}
use Rattle.cap_machine_accounts.specs.Parts.{Guard, join, atom_guard, Part, no_part, guard_at, with_guard}
use Rattle.cap_machine_accounts.specs.Assertions.{NameValue, a_number, a_fraction}
use Rattle.cap_owners_spec.specs.Traced.{Traced, traced, past_width, untold, ◌>>=◌, found, each, over, a_share, value_at, number_in, amount_in, half_of}
use Rattle.cap_owners_spec.specs.Track.{Fill}

-- ---- guards

-- n over the one denominator
abbrev pub share_element : ℤ → Traced Element
share_element (pos n) = traced (share (lowest n over))
share_element (negsuc n) = untold

abbrev pub counted : (ℕ → Element) → ℤ → Traced Element
counted make (pos n) = traced (make n)
counted make (negsuc n) = untold

abbrev pub range_element : ℤ → ℤ → Traced Element
range_element (pos i) (pos j) = traced (index_set (index_range i j))
range_element i j = untold

-- the element of a form
abbrev pub form_element : List NameValue → Form → Traced Element
form_element vs form.One = traced one
form_element vs (form.Share t) = amount_in vs t >>= share_element
form_element vs (form.Src t) = number_in vs t >>= counted src
form_element vs (form.Tok t) = number_in vs t >>= counted tokens
form_element vs (form.Span a None) = number_in vs a >>= counted (λ i. indices (indices_from i))
form_element vs (form.Span a (Some e)) = do
  i ← number_in vs a
  j ← number_in vs e
  range_element i j

-- the element that is asked for, by the value of its slot
abbrev pub asked_element : Asked → NameValue → Traced Element
asked_element One v = traced one
asked_element (Share x) (a_fraction n d) = share_element n
asked_element (Src x) (a_number z) = counted src z
asked_element (Tok x) (a_number z) = counted tokens z
asked_element (At x) (a_number z) = counted (λ i. indices (one_index i)) z
asked_element (From x) (a_number z) = counted (λ i. indices (indices_from i)) z
asked_element asked v = untold

-- Counts of tokens stay within 128 unsigned bits. Nothing else of a guard needs a bound: shares are
-- at most 1, and sets of indices have bounds that are narrow terms, or one more.
abbrev pub counts_fit : Element → Bool
counts_fit (tok k) = nat_lt k (2 ^ 128)
counts_fit (both x y) = counts_fit x && counts_fit y
counts_fit (left x) = counts_fit x
counts_fit (right y) = counts_fit y
counts_fit x = true

abbrev pub fitting : Option Guard → Traced (Option Guard)
fitting None = traced None
fitting (Some g) = if counts_fit g.element then traced (Some g) else past_width

-- what two guards of a region compose to
abbrev pub joined : Option Guard → Option Guard → Traced (Option Guard)
joined g h = found (join g h) >>= fitting

-- the part with one guard more of a region
abbrev pub with_more : Part → ℤ → Option Guard → Traced Part
with_more q n g = do
  h ← joined (guard_at q n) g
  traced (with_guard q n h)

-- ---- what a state holds

abbrev pub with_cells : List NameValue → Part → List (Linear × Linear) → Traced Part
with_cells vs q [] = traced q
with_cells vs q (c ∷ cs) = do
  a ← number_in vs c.0
  z ← number_in vs c.1
  with_cells vs (record q { cells = insert q.cells a z }) cs

abbrev pub with_pieces : PlainProgram → List NameValue → Part → List Piece → Traced Part
with_pieces p vs q [] = traced q
with_pieces p vs q (g ∷ gs) = do
  n ← number_in vs g.region
  x ← form_element vs g.form
  more ← with_more q n (atom_guard p g.kind g.atom x)
  with_pieces p vs more gs

-- its cells and its pieces
abbrev pub part_held : PlainProgram → PlainState → List NameValue → Traced Part
part_held p s vs = do
  q ← with_cells vs no_part s.cells
  with_pieces p vs q s.guards

-- ---- to take: what names and `_` are met by

-- a variable alone has its own value, which may be a share
abbrev pub bound_value : List NameValue → Linear → Option ℕ → Traced NameValue
bound_value vs t (Some x) = traced (value_at vs x)
bound_value vs t None = do
  z ← number_in vs t
  traced (a_number z)

-- the value of a name; of one that isn't bound it doesn't matter
abbrev pub name_value : List NameValue → Option Linear → Traced NameValue
name_value vs None = traced (a_number (pos 0))
name_value vs (Some t) = bound_value vs t (lone_variable t)

abbrev pub names_in : List NameValue → PlainEnv → Traced (List NameValue)
names_in vs env = each (name_value vs) env

abbrev pub met_at : Option ℕ → NameValue → Fill → Fill
met_at None v f = record f { wildcards = f.wildcards ++ v ∷ [] }
met_at (Some x) v f = record f { names = slice_set f.names x v }

-- a slot is met by a value, which an open one takes
abbrev pub met : Reading → NameValue → Fill → Fill
met (open_to x) v f = met_at x v f
met r v f = f

abbrev pub met_by_term : List NameValue → Reading → Linear → Fill → Traced Fill
met_by_term vs (open_to x) t f = do
  z ← number_in vs t
  traced (met_at x (a_number z) f)
met_by_term vs r t f = traced f

abbrev pub all_met : List NameValue → List Reading → List Linear → Fill → Traced Fill
all_met vs (r ∷ rs) (t ∷ ts) f = do
  f' ← met_by_term vs r t f
  all_met vs rs ts f'
all_met vs rs ts f = traced f

-- the value at which an atom's slot is met: what it says, or all there is, or half of a share
abbrev pub count_met : List NameValue → List NameValue → Linear → Reading → Traced NameValue
count_met vs names m (settled t) = do
  z ← number_in names t
  traced (a_number z)
count_met vs names m r = do
  z ← number_in vs m
  traced (a_number z)

abbrev pub share_met : List NameValue → List NameValue → Linear → Reading → Traced NameValue
share_met vs names a (settled t) = do
  n ← amount_in names t
  traced (a_share n)
share_met vs names a r = do
  n ← amount_in vs a
  h ← half_of n
  traced (a_share h)

abbrev pub atom_met : List NameValue → List NameValue → Form → Reading → Traced NameValue
atom_met vs names form.One r = traced (a_number (pos 0))
atom_met vs names (form.Share a) r = share_met vs names a r
atom_met vs names (form.Src m) r = count_met vs names m r
atom_met vs names (form.Tok m) r = count_met vs names m r
atom_met vs names (form.Span a e) r = count_met vs names a r

-- ---- to give: the values of the variables that are new

-- which names have terms by now, the values that are new, and those of `_` that are left
pub record Giving : Type 0 where
  pub env : PlainEnv
  pub new : List NameValue
  pub wildcards : List NameValue

abbrev pub give_name : List NameValue → ℕ → Giving → Giving
give_name names x g =
    if is_some (term_of g.env x) then g else record g {
      env = with_name g.env x zero_value;
      new = g.new ++ value_at names x ∷ [];
    }

abbrev pub give_parts : List NameValue → List (ℕ × ℤ) → Giving → Giving
give_parts names [] g = g
give_parts names (q ∷ qs) g = give_parts names qs (give_name names q.0 g)

abbrev pub give_wildcard : List NameValue → Giving → Giving
give_wildcard [] g = g
give_wildcard (v ∷ vs) g = record g { new = g.new ++ v ∷ []; wildcards = vs }

abbrev pub give_slot : List NameValue → Slot → Giving → Giving
give_slot names Any g = give_wildcard g.wildcards g
give_slot names (Is t) g = give_parts names t.parts g

abbrev pub give_slots : List NameValue → List Slot → Giving → Giving
give_slots names [] g = g
give_slots names (x ∷ xs) g = give_slots names xs (give_slot names x g)

abbrev pub give_asked : List NameValue → Asked → Giving → Giving
give_asked names One g = g
give_asked names (Share x) g = give_slot names x g
give_asked names (Src x) g = give_slot names x g
give_asked names (Tok x) g = give_slot names x g
give_asked names (At x) g = give_slot names x g
give_asked names (From x) g = give_slot names x g

abbrev pub give_comparison : List NameValue → Comp → Giving → Giving
give_comparison names c g = give_parts names c.right.parts (give_parts names c.left.parts g)

abbrev pub give_item : List NameValue → PlainItem → Giving → Giving
give_item names (compare c) g = give_comparison names c g
give_item names (choose c a b) g = give_comparison names c g
give_item names (fact place r k args x) g =
    give_slot names x (give_slots names args (give_name names r g))
give_item names (atom place r k i asked) g = give_asked names asked (give_name names r g)
give_item names (cell place a x) g = give_slot names x (give_parts names a.parts g)

-- a conditional, with what remains to be given on each side
pub record Parting : Type 0 where
  pub condition : Comp
  pub holding : Items
  pub failing : Items

-- the first conditional
abbrev pub parting : Items → Option Parting
parting none = None
parting (item (choose c a b) more) = Some (record {
  condition = c;
  holding = append_items a more;
  failing = append_items b more;
})
parting (item i more) = parting more

-- up to the first conditional, with its comparison
abbrev pub give_all : List NameValue → Items → Giving → Giving
give_all names none g = g
give_all names (item (choose c a b) more) g = give_item names (choose c a b) g
give_all names (item i more) g = give_all names more (give_item names i g)
