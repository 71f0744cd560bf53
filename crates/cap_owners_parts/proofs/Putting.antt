-- A guard that is put into a part.
use Rattle.std.proofs.Common.{◌≡◌, ◌∙◌, ap, refl, sym, Option, Some, None, ℤ, Err}
use Rattle.std.specs.Prelude.{option_map, option_copied}
use Rattle.std.specs.Ordering.{int_cmp}
use Rattle.std.specs.Borrow.{Bor}
use Rattle.std.specs.FinMap.{from_entries}
use Rattle.std.specs.BTreeMap as tree
use Rattle.std.specs.BTreeMap.{BTreeMap, Updates, UpdatesBy}
use Rattle.cap_machine_accounts.specs.Parts as plain
use Rattle.cap_machine_accounts.specs.Parts.{Part, guard_at, with_guard}
use Rattle.cap_owners_spec.specs.Traced.{traced, ◌>>=◌}
use Rattle.cap_owners_spec.specs.Filling.{joined, with_more}
use Rattle.cap_owners_values.specs.declared.error.TraceError.{TraceError}
use Rattle.cap_owners_values.specs.Views.{Traces}
use Rattle.cap_owners_values.proofs.Tracing.{stops}
use Rattle.cap_owners_parts.specs.declared.guard.Guard.{Guard}
use Rattle.cap_owners_parts.specs.Views.{guard_view, part_of}
use Rattle.cap_owners_parts.proofs.Maps.{seen_get, seen_put, seen_cut}

copied-seen : (r : Option (Bor Guard)) → option_map (λ b. guard_view b.now) r ≡ option_map guard_view (option_copied r)
copied-seen None = refl
copied-seen (Some b) = refl

pub held_is : (cells : BTreeMap ℤ ℤ) (m : BTreeMap ℤ Guard) (q : Part) (n : ℤ) (r : Option (Bor Guard)) → part_of cells.entries m.entries ≡ q → option_copied r ≡ tree.get int_cmp m n → option_map (λ b. guard_view b.now) r ≡ guard_at q n
held_is cells m q n r e h = copied-seen r ∙ (ap (option_map guard_view) h ∙ (sym (seen_get guard_view m n) ∙ ap (λ p. guard_at p n) e))

pub put_stops : {B D : Type 0} (e : TraceError) (view : B → Option plain.Guard) (other : D → Part) (q : Part) (n : ℤ) (g h : Option plain.Guard) → h ≡ guard_at q n → Traces {A = Option plain.Guard} {B = B} (Err e) view (joined h g) → Traces {A = Part} {B = D} (Err e) other (with_more q n g)
put_stops e view other q n g h is t = stops e view other (joined (guard_at q n) g) (λ x. traced (with_guard q n x)) (rw is at t)

pub put_goes : (q p : Part) (n : ℤ) (g h k : Option plain.Guard) → h ≡ guard_at q n → joined h g ≡ traced k → with_guard q n k ≡ p → with_more q n g ≡ traced p
put_goes q p n g h k is t e =
    let u : joined (guard_at q n) g ≡ traced k = rw is at t in
    ap (λ x. x >>= λ y. traced (with_guard q n y)) u ∙ ap traced e

pub put_none : (cells : BTreeMap ℤ ℤ) (m new : BTreeMap ℤ Guard) (q : Part) (n : ℤ) → part_of cells.entries m.entries ≡ q → UpdatesBy int_cmp (int_cmp n) m new None → with_guard q n None ≡ part_of cells.entries new.entries
put_none cells m new q n e u = ap (λ p. with_guard p n None) (sym e) ∙ ap (λ gs. record { cells = from_entries cells.entries; guards = gs }) (sym (seen_cut guard_view m new n u))

pub put_some : (cells : BTreeMap ℤ ℤ) (m new : BTreeMap ℤ Guard) (q : Part) (n : ℤ) (g : Guard) → part_of cells.entries m.entries ≡ q → Updates int_cmp m new n (Some g) → with_guard q n (Some (guard_view g)) ≡ part_of cells.entries new.entries
put_some cells m new q n g e u = ap (λ p. with_guard p n (Some (guard_view g))) (sym e) ∙ ap (λ gs. record { cells = from_entries cells.entries; guards = gs }) (sym (seen_put guard_view m new n g u))
