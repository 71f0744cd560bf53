-- What is gathered of units, one after the other.
use Rattle.std.proofs.Common.{◌≡◌, ℕ, ◌+◌, List, [], ◌∷◌, ◌++◌, length, map, flat_map, sym, ap, ◌∙◌, subst, append_assoc, arith}
use Rattle.std.specs.List.{range_with_len}
use Rattle.std.proofs.lemmas.List.{append-nil, length-append, length-map}
use Rattle.std.proofs.lemmas.List.FromFn.{map-range_with_len_more}
use Rattle.std.proofs.lemmas.Grind.{flat_map-append}
use Rattle.cap_prog.specs.Program.{PlainProgram}
use Rattle.cap_goal_spec.specs.Roots.{PlainUnit, roots}
use Rattle.cap_goal_roots.specs.Views.{root_view, roots_view}
use Rattle.cap_owners_places.specs.Gathered.{AreGathered}
use Rattle.cap_owners_places.specs.Places.{begins_from}
use Rattle.cap_owners_places.specs.declared.units.UnitRoots.{UnitRoots}

module _ (p : PlainProgram) where
  begins-append : (n : ℕ) (us vs : List PlainUnit) → begins_from p n (us ++ vs) ≡ begins_from p n us ++ begins_from p (n + length (flat_map (roots p) us)) vs
  begins-append n [] vs = ap (λ m. begins_from p m vs) (omega arith)
  begins-append n (u ∷ us) vs =
      ap (λ z. n ∷ z)
      (begins-append (n + length (roots p u)) us vs
      ∙ ap (λ m. begins_from p (n + length (roots p u)) us ++ begins_from p m vs)
      (sum (length (roots p u)) (length (flat_map (roots p) us)) (length (flat_map (roots p) (u ∷ us))) (length-append (roots p u) (flat_map (roots p) us))))
    where
      sum : (a b c : ℕ) → c ≡ a + b → n + a + b ≡ n + c
      sum a b c e = omega (arith, e)

  -- how many roots there are by then
  count : (us : List PlainUnit) (old now : UnitRoots) → AreGathered p us old now → length now.goals.items ≡ length old.goals.items + length (flat_map (roots p) us)
  count us old now h =
      sym (length-map now.goals.items root_view)
      ∙ (ap length h.goals
      ∙ (length-append (roots_view old.goals.items) (flat_map (roots p) us)
      ∙ ap (λ n. n + length (flat_map (roots p) us)) (length-map old.goals.items root_view)))

  pub gathered-more : (us vs : List PlainUnit) (old now next : UnitRoots) → AreGathered p us old now → AreGathered p vs now next → AreGathered p (us ++ vs) old next
  gathered-more us vs old now next h k = record {
    goals = k.goals
        ∙ (ap (λ x. x ++ flat_map (roots p) vs) h.goals
        ∙ (append_assoc (roots_view old.goals.items) (flat_map (roots p) us) (flat_map (roots p) vs)
        ∙ ap (λ x. roots_view old.goals.items ++ x) (sym (flat_map-append (roots p) us vs))));
    begins = k.begins
        ∙ (ap (λ x. x ++ begins_from p (length now.goals.items) vs) h.begins
        ∙ (append_assoc old.begins.items (begins_from p (length old.goals.items) us) (begins_from p (length now.goals.items) vs)
        ∙ ap (λ x. old.begins.items ++ x)
        (ap (λ n. begins_from p (length old.goals.items) us ++ begins_from p n vs) (count us old now h)
        ∙ sym (begins-append (length old.goals.items) us vs))));
  }

  -- by their numbers
  pub one-more : (f : ℕ → PlainUnit) (old now next : UnitRoots) (n : ℕ) → AreGathered p (map f (range_with_len 0 n)) old now → AreGathered p (f n ∷ []) now next → AreGathered p (map f (range_with_len 0 (n + 1))) old next
  one-more f old now next n h k =
      subst (λ us. AreGathered p us old next) (sym (map-range_with_len_more f 0 n n (omega arith))) (gathered-more (map f (range_with_len 0 n)) (f n ∷ []) old now next h k)

  pub none-yet : (old now : UnitRoots) → roots_view now.goals.items ≡ roots_view old.goals.items → now.begins.items ≡ old.begins.items → AreGathered p [] old now
  none-yet old now g b = record {
    goals = g ∙ sym (append-nil (roots_view old.goals.items));
    begins = b ∙ sym (append-nil old.begins.items);
  }

  -- what is gathered of one unit
  pub one-gathered : (u : PlainUnit) (old new : UnitRoots) → roots_view new.goals.items ≡ roots_view old.goals.items ++ roots p u → new.begins.items ≡ old.begins.items ++ length old.goals.items ∷ [] → AreGathered p (u ∷ []) old new
  one-gathered u old new g b = record {
    goals = g ∙ ap (λ x. roots_view old.goals.items ++ x) (sym (append-nil (roots p u)));
    begins = b;
  }

  -- of all units, where nothing was there
  pub all-begins : (us vs : List PlainUnit) (old now next : UnitRoots) → length old.goals.items ≡ 0 → old.begins.items ≡ [] → AreGathered p us old now → AreGathered p vs now next → next.begins.items ≡ begins_from p 0 (us ++ vs)
  all-begins us vs old now next n b h k =
      (gathered-more us vs old now next h k).begins ∙ (ap (λ x. x ++ begins_from p (length old.goals.items) (us ++ vs)) b ∙ ap (λ m. begins_from p m (us ++ vs)) n)
