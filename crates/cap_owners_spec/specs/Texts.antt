-- The text of an account.
use Rattle.std.specs.Prelude.{ℕ, suc, ◌+◌, ℤ, pos, negsuc, List, [], ◌∷◌, ◌++◌, map, reverse, drop, flat_map, codes, slice_get, Option, Some, None}
use Rattle.std.specs.List.{join_by, zip}
use Rattle.std.specs.Fmt.{decimal, signed_decimal}
use Rattle.std.specs.FinMap.{entries}
use Rattle.cap_rules.specs.cap_goal_spec.cap_galg.cap_galg_spec.declared.fraction.Fraction.{Fraction}
use Rattle.cap_rules.specs.cap_goal_spec.cap_galg.Fractions.{lowest}
use Rattle.cap_rules.specs.cap_goal_spec.cap_galg.Elements.{Element, one, share, tok, src, indices, both, whole, left, right}
use Rattle.cap_rules.specs.cap_goal_spec.cap_galg.Algebras.{PlainAlgebra, product, sum, full, atoms}
use Rattle.cap_rules.specs.cap_goal_spec.cap_prog.Program.{Name, PlainFunction, PlainProgram}
use Rattle.cap_rules.specs.cap_goal_spec.cap_prog.Scopes.{fixed_start}
use Rattle.cap_machine.specs.Machine.{Frame, Thread, Configuration}
use Rattle.cap_machine_accounts.specs.Parts.{Guard, algebra_of, Part}
use Rattle.cap_machine_accounts.specs.Assertions.{NameValue, a_number, a_fraction}
use Rattle.cap_machine_accounts.specs.Accounts.{Held, OwnedRegion, Account}
use Rattle.cap_outline_spec.specs.Texts.{type_name, atom_name}

-- ---- guards

abbrev pub fraction_text : Fraction → List ℕ
fraction_text f = decimal f.num ++ (codes "/" ++ decimal f.den)

abbrev pub in_brackets : List ℕ → List ℕ
in_brackets t = codes "[" ++ (t ++ codes "]")

-- each interval of a set of indices, by its bounds
abbrev pub interval_text : ℕ → List ℕ → List ℕ
interval_text i end = codes "{" ++ (decimal i ++ (codes ".." ++ (end ++ codes "}")))

abbrev pub interval_texts : Name → List ℕ → List (List ℕ)
interval_texts n [] = []
interval_texts n (i ∷ []) = (n ++ interval_text i []) ∷ []
interval_texts n (i ∷ (j ∷ bounds)) = (n ++ interval_text i (decimal j)) ∷ interval_texts n bounds

-- of an atom
abbrev pub own_texts : Name → Element → List (List ℕ)
own_texts n one = n ∷ []
own_texts n (share f) = (n ++ in_brackets (fraction_text f)) ∷ []
own_texts n (src k) = (codes "src " ++ (n ++ in_brackets (decimal k))) ∷ []
own_texts n (tok k) = (codes "tok " ++ (n ++ in_brackets (decimal k))) ∷ []
own_texts n (indices bounds) = interval_texts n bounds
own_texts n x = []

-- the atoms of an algebra that have something of an element, the first of which has number i. All
-- of a sum is all of its left side
abbrev pub atom_texts : (ℕ → Name) → PlainAlgebra → ℕ → Element → List (List ℕ)
atom_texts names (product a b) i (both x y) =
    atom_texts names a i x ++ atom_texts names b (i + atoms a) y
atom_texts names (sum a b) i whole = atom_texts names a i (full a)
atom_texts names (sum a b) i (left x) = atom_texts names a i x
atom_texts names (sum a b) i (right y) = atom_texts names b (i + atoms a) y
atom_texts names (product a b) i x = []
atom_texts names (sum a b) i x = []
atom_texts names a i x = own_texts (names i) x

abbrev pub all_of : List (List ℕ) → List ℕ
all_of ts = join_by (λ t. t) (codes " * ") ts

-- a region's number with its guard
abbrev pub guard_text : PlainProgram → ℤ × Guard → List ℕ
guard_text p q =
    signed_decimal q.0
    ++ (codes "@"
    ++ all_of (atom_texts (atom_name p q.1.kind) (algebra_of p q.1.kind) 0 q.1.element))

-- ---- parts

abbrev pub owned_cell_text : ℤ × ℤ → List ℕ
owned_cell_text c = signed_decimal c.0 ++ (codes " |-> " ++ signed_decimal c.1)

abbrev pub or_nothing : List (List ℕ) → List ℕ
or_nothing [] = codes "nothing"
or_nothing (t ∷ ts) = join_by (λ u. u) (codes ", ") (t ∷ ts)

-- the cells by their addresses, and then the guards by the numbers of their regions
abbrev pub part_text : PlainProgram → Part → List ℕ
part_text p q =
    or_nothing (map owned_cell_text (entries q.cells) ++ map (guard_text p) (entries q.guards))

-- ---- regions

abbrev pub args_text : List ℤ → List ℕ
args_text [] = []
args_text (z ∷ zs) = join_by signed_decimal (codes ", ") (z ∷ zs) ++ codes "; "

abbrev pub region_line : PlainProgram → OwnedRegion → List ℕ
region_line p r =
    codes "region " ++ (signed_decimal r.region.number
    ++ (codes " " ++ (type_name p r.region.kind
    ++ (codes "(" ++ (args_text r.region.args ++ (signed_decimal r.region.state
    ++ (codes "): " ++ (part_text p r.part ++ codes "\n"))))))))

-- ---- frames

abbrev pub share_text : ℤ → ℕ → List ℕ
share_text (pos n) d = fraction_text (lowest n d)
share_text (negsuc n) d = codes "-" ++ fraction_text (lowest (suc n) d)

abbrev pub name_value_text : NameValue → List ℕ
name_value_text (a_number z) = signed_decimal z
name_value_text (a_fraction n d) = share_text n (suc d)

abbrev pub named_text : Name × NameValue → List ℕ
named_text q = q.0 ++ (codes " = " ++ name_value_text q.1)

abbrev pub names_text : List (Name × NameValue) → List ℕ
names_text [] = []
names_text (q ∷ qs) = codes " with " ++ join_by named_text (codes ", ") (q ∷ qs)

abbrev pub fixed_names : Option PlainFunction → List Name
fixed_names None = []
fixed_names (Some f) = drop (fixed_start f) f.variables

abbrev pub frame_line : PlainProgram → ℕ → ℕ → Frame × Held → List ℕ
frame_line p t n q =
    codes "thread " ++ (decimal t ++ (codes " frame " ++ (decimal n
    ++ (codes ": " ++ (part_text p q.1.part
    ++ (names_text (zip (fixed_names (slice_get p.functions q.0.function)) q.1.fixed)
    ++ codes "\n"))))))

abbrev pub frame_lines : PlainProgram → ℕ → ℕ → List (Frame × Held) → List ℕ
frame_lines p t n [] = []
frame_lines p t n (q ∷ qs) = frame_line p t n q ++ frame_lines p t (suc n) qs

-- threads from number t on, the frames of each from the bottom
abbrev pub thread_lines : PlainProgram → ℕ → List (Thread × List Held) → List ℕ
thread_lines p t [] = []
thread_lines p t (q ∷ qs) =
    frame_lines p t 0 (reverse (zip q.0 q.1)) ++ thread_lines p (suc t) qs

-- ---- the whole

unfoldable pub account_text : PlainProgram → Configuration → Account → List ℕ
account_text p c a =
    flat_map (region_line p) a.regions ++ thread_lines p 0 (zip c.threads a.threads)
