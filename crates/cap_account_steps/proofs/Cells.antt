-- Cells of a state: which of them are needed, and one changed.
use Rattle.cap_account_resources.proofs.Lists.{join-assoc, some-same, none-some, map-set}
use Rattle.cap_account_states.proofs.Terms.{value-number, Over, row-over}
use Rattle.std.proofs.Common.{sym, ◌≡◌, ℕ, zero, suc, ◌+◌, ◌<◌, ◌≤◌, ℤ, List, [], ◌∷◌, arith, ap, ◌∙◌, subst, Some, pos, ◌+ℤ◌, ◌++◌, refl}
use Rattle.std.specs.Prelude.{slice_get, slice_set}
use Rattle.std.specs.List.{AllByRecursion}
use Rattle.cap_lin.specs.Linear.{Linear, number, plus}
use Rattle.cap_lin.specs.Values.{Valuation, value}
use Rattle.cap_lin.specs.Rows.{row_of}
use Rattle.cap_lin.specs.Solves.{Proves}
use Rattle.cap_lin.specs.declared.row.Sort.TheVariants.{Int}
use Rattle.cap_lin.specs.declared.row.Op.TheVariants.{Eq as Equal}
use Rattle.cap_lin.proofs.Rows.{row_of-means}
use Rattle.cap_prog.specs.Program.{Block, PlainFunction}
use Rattle.cap_goal_spec.specs.States.{PlainState, Home}
use Rattle.cap_rules.specs.Attempts.{◌>>=◌}
use Rattle.cap_rules.specs.Making.{with_cell, with_local}
use Rattle.cap_rules.specs.Rules.{with_new_cells}
use Rattle.cap_machine.specs.Machine.{Frame, with_rest, with_value}
use Rattle.cap_machine_accounts.specs.Assertions.{NameValue}
use Rattle.cap_account_states.specs.Nodes.{Comes}
use Rattle.cap_account_resources.specs.Parts.{one_cell}
use Rattle.cap_account_states.proofs.Attempts.{after-computed, after-cell}
use Rattle.cap_account_states.proofs.Meets.{Usable, Meets, need, proved-holds}
use Rattle.cap_account_steps.proofs.Stores.{Store}
use Rattle.cap_account_resources.proofs.Heaps.{fresh_cells}
use Rattle.cap_lin.specs.Steps.{plus_steps}
use Rattle.cap_lin.proofs.Values.{value-plus}
use Rattle.cap_goal_spec.specs.Environments.{zero_value}

abbrev pub Cell : Type 0
Cell = Linear × Linear

abbrev pub cell_here : Valuation → Cell → ℤ → ℤ → ℕ
cell_here v c a z = one_cell (value v.whole c.0) (value v.whole c.1) a z

pub need-one :
    (v : Valuation) (cs : List Cell) (j : ℕ) (c : Cell) (a z : ℤ) → slice_get cs j ≡ Some c →
    cell_here v c a z ≤ need v cs a z
need-one v [] j c a z e = absurd (none-some e)
need-one v (x ∷ cs) zero c a z e =
    let r = ap (λ y. cell_here v y a z) (some-same x c e) in omega (arith, r)
need-one v (x ∷ cs) (suc j) c a z e = let q = need-one v cs j c a z e in omega (arith, q)

-- two cells of a list are both needed
pub need-two :
    (v : Valuation) (cs : List Cell) (i j : ℕ) (c d : Cell) (a z : ℤ) → i < j →
    slice_get cs i ≡ Some c → slice_get cs j ≡ Some d →
    cell_here v c a z + cell_here v d a z ≤ need v cs a z
need-two v [] i j c d a z l e k = absurd (none-some e)
need-two v (x ∷ cs) zero zero c d a z l e k = absurd (omega (arith, l))
need-two v (x ∷ cs) zero (suc j) c d a z l e k =
    let q = need-one v cs j d a z k in
    let r = ap (λ y. cell_here v y a z) (some-same x c e) in
    omega (arith, q, r)
need-two v (x ∷ cs) (suc i) zero c d a z l e k = absurd (omega (arith, l))
need-two v (x ∷ cs) (suc i) (suc j) c d a z l e k =
    let q = need-two v cs i j c d a z (omega (arith, l)) e k in
    omega (arith, q)

pub need-set :
    (v : Valuation) (cs : List Cell) (j : ℕ) (c d : Cell) (a z : ℤ) → slice_get cs j ≡ Some c →
    need v (slice_set cs j d) a z + cell_here v c a z ≡ need v cs a z + cell_here v d a z
need-set v [] j c d a z e = absurd (none-some e)
need-set v (x ∷ cs) zero c d a z e =
    let r = ap (λ y. cell_here v y a z) (some-same x c e) in
    omega (arith, r)
need-set v (x ∷ cs) (suc j) c d a z e =
    let q = need-set v cs j c d a z e in
    omega (arith, q)

-- what is proved equal has one value
pub equal-here :
    (v : Valuation) (s : PlainState) (l r : Linear) → Meets [] v s →
    Proves s.rows (row_of l Equal r Int) → Over (Usable [] s.sorts Int) l →
    Over (Usable [] s.sorts Int) r → value v.whole l ≡ value v.whole r
equal-here v s l r m pr ol or' =
    (row_of-means v l Equal r Int).0
    (proved-holds [] [] v s (row_of l Equal r Int) m pr
    (row-over (Usable [] s.sorts) l Equal r Int ol or'))

-- another local
pub store-local :
    (v : Valuation) (s : PlainState) (h : Home) (fn : PlainFunction) (fx : List NameValue)
    (f : Frame)
    (y : ℕ) (t : Linear) (z : ℤ) (b : Block) → value v.whole t ≡ z → Store v s h fn fx f →
    Store v (with_local s y t) h fn fx (with_value (with_rest f b) y z)
store-local v s h fn fx f y t z b e st = record {
  home = st.home;
  store = map-set (value v.whole) s.store y t
      ∙ (ap (λ zs. slice_set zs y (value v.whole t)) st.store ∙ ap (slice_set f.store y) e);
  fixed_are = st.fixed_are;
  fixed_known = st.fixed_known;
}

abbrev pub new_cells : Linear → ℕ → ℕ → List Cell
new_cells b i zero = []
new_cells b i (suc n) = (plus b (number (pos i)), zero_value) ∷ new_cells b (suc i) n

pub comes-new-cells :
    (s : PlainState) (b : Linear) (i n : ℕ) (P : PlainState → Type 0) →
    Comes (with_new_cells s b i n) P → P (record s { cells = s.cells ++ new_cells b i n })
comes-new-cells s b i zero P h = subst (λ cs. P (record s { cells = cs })) (with-none s.cells) h.1
  where
    with-none : (xs : List Cell) → xs ≡ xs ++ []
    with-none [] = refl
    with-none (x ∷ xs) = ap (λ zs. x ∷ zs) (with-none xs)
comes-new-cells s b i (suc n) P h =
    let a = plus b (number (pos i)) in
    let more = λ (s' : PlainState). with_new_cells s' b (suc i) n in
    let g = after-computed a (plus_steps b (number (pos i)))
    (λ a. with_cell s a zero_value >>= more) P h in
    let k = after-cell s a zero_value more P g in
    let c : Cell = (a, zero_value) in
    subst (λ cs. P (record s { cells = cs }))
    (sym (join-assoc s.cells (c ∷ []) (new_cells b (suc i) n)))
    (comes-new-cells (record s { cells = s.cells ++ c ∷ [] }) b (suc i) n P k)

pub address-is :
    (v : Valuation) (u : Linear) (i : ℕ) →
    value v.whole (plus u (number (pos i))) ≡ value v.whole u +ℤ pos i
address-is v u i =
    value-plus v.whole u (number (pos i))
    ∙ ap (λ z. value v.whole u +ℤ z) (value-number v.whole (pos i))

pub need-both :
    (v : Valuation) (cs ds : List Cell) (a z : ℤ) →
    need v (cs ++ ds) a z ≡ need v cs a z + need v ds a z
need-both v [] ds a z = omega arith
need-both v (c ∷ cs) ds a z = let q = need-both v cs ds a z in omega (arith, q)

pub new-cells-need :
    (v : Valuation) (u : Linear) (i n : ℕ) (a z : ℤ) →
    need v (new_cells u i n) a z + fresh_cells (value v.whole u) i a z
    ≡ fresh_cells (value v.whole u) (i + n) a z
new-cells-need v u i zero a z =
    let e : i ≡ i + 0 = omega arith in
    let g = ap (λ m. fresh_cells (value v.whole u) m a z) e in
    omega (arith, g)
new-cells-need v u i (suc n) a z =
    let q = new-cells-need v u (suc i) n a z in
    let e : suc i + n ≡ i + suc n = omega arith in
    let g = ap (λ m. fresh_cells (value v.whole u) m a z) e in
    let d : cell_here v (plus u (number (pos i)), zero_value) a z
    ≡ one_cell (value v.whole u +ℤ pos i) (pos 0) a z =
    ap (λ x. one_cell x (value v.whole zero_value) a z) (address-is v u i)
    ∙ ap (λ x. one_cell (value v.whole u +ℤ pos i) x a z) (value-number v.whole (pos 0)) in
    omega (arith, q, g, d)

pub new-cells-all :
    (P : Cell → Type 0) (u : Linear) (i n : ℕ) →
    ((j : ℕ) → P (plus u (number (pos j)), zero_value)) → AllByRecursion P (new_cells u i n)
new-cells-all P u i zero f = tt
new-cells-all P u i (suc n) f = (f i, new-cells-all P u (suc i) n f)
