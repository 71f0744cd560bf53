-- What is read of a schedule has positive addresses.
use Rattle.std.proofs.Common.{◌≡◌, ◌∙◌, sym, refl, subst, ℕ, Bool, true, false, cond, List, [], ◌∷◌, Some, None, Ok, arith}
use Rattle.std.specs.Prelude.{ℤ, pos, ◌<ℤ◌, ◌≤ℤ◌}
use Rattle.std.specs.Ordering.{int_cmp, is_eq}
use Rattle.std.specs.Cmp.{int_cmp_total}
use Rattle.std.specs.FinMap.{from_entries, find, get-from_entries, int_cmp-IsAntisymmetric}
use Rattle.std.specs.declared.cmp.Ordering.{Ordering}
use Rattle.std.specs.declared.cmp.Ordering.TheVariants.{Less, Equal, Greater}
use Rattle.std.proofs.lemmas.Int.{ints}
use Rattle.cap_machine.specs.Cells.{AscendsFrom}
use Rattle.cap_machine.specs.Machine.{IsPositive}
use Rattle.cap_replay_schedules.specs.Reading.{Progress, read}
use Rattle.cap_replay_schedules.proofs.Ascending.{read_ascends}

is-equal : (o : Ordering) → is_eq o ≡ true → o ≡ Equal
is-equal Less e = cc
is-equal Equal e = refl
is-equal Greater e = cc

further : (a b c : ℤ) → a <ℤ b → b <ℤ c → a <ℤ c
further a b c h k = grind (arith, ints)

found : (below : ℤ) (es : List (ℤ × ℤ)) (a v : ℤ) → AscendsFrom below es → find int_cmp a es ≡ Some v → below <ℤ a
found below [] a v h e = let f : None ≡ Some v = e in cc
found below (c ∷ es) a v h e = go (is_eq (int_cmp a c.0)) refl (λ k. found c.0 es a v h.1 k) e
  where
    go : (b : Bool) → is_eq (int_cmp a c.0) ≡ b → (find int_cmp a es ≡ Some v → c.0 <ℤ a)
        → cond b (Some c.1) (find int_cmp a es) ≡ Some v → below <ℤ a
    go true t later k = subst (λ z. below <ℤ z) (sym (int_cmp-IsAntisymmetric a c.0 (is-equal (int_cmp a c.0) t))) h.0
    go false t later k = further below c.0 a h.0 (later k)

one-or-more : (a : ℤ) → pos 0 <ℤ a → pos 1 ≤ℤ a
one-or-more a l = grind (arith, ints)

pub addresses_are_positive : (bytes : List ℕ) (s : Progress) → read bytes ≡ Ok s → IsPositive (from_entries s.heap)
addresses_are_positive bytes s e a v f =
    one-or-more a (found (pos 0) s.heap a v (read_ascends bytes s e) (sym (get-from_entries int_cmp_total s.heap a) ∙ f))
