-- The atoms of a region type's algebra are the guards that it declares, in the order of the text.
use Rattle.std.proofs.Common.{◌≡◌, ℕ, ◌+◌, ◌-◌, ◌<◌, true, false, nat_lt, List, [], ◌∷◌, ◌++◌, map, length, get_or, slice_get, Some, refl, sym, ap, ◌∙◌, arith, append_assoc, append-nil, length-append, option_map, inl, inr}
use Rattle.std.specs.Prelude.{if◌then◌else◌}
use Rattle.std.proofs.Math.ListN.{get_or-append}
use Rattle.std.proofs.Common.{get_or-append-add}
use Rattle.std.proofs.lemmas.List.{map-append, length-map}
use Rattle.std.proofs.lemmas.Bool.{cases_lt}
use Rattle.std.proofs.lemmas.Bool.Decides.{nat_tests}
use Rattle.std.proofs.lemmas.Option.{slice_get_within, get_or_from_slice_get, slice_get-map}
use Rattle.cap_galg.specs.Algebras.{PlainAlgebra, unique, divisible, counting, indexed, product, sum, atoms, atom_algebra}
use Rattle.cap_parse_tree.specs.Tree as tree
use Rattle.cap_parse_tree.specs.Tree.{DeclaredTree, DeclaredTrees, no_declared, and_declared, JointTree, joint, JointTrees, no_joint, or_joint, AlgebraTree, algebra}
use Rattle.cap_resolve_spec.specs.Parts.{declared_guards, declareds_guards, joint_guards, joints_guards, algebra_guards}
use Rattle.cap_resolve_spec.specs.Items.{guard_kind}
use Rattle.cap_resolve_spec.specs.Program.{declared_program, declareds_program, joint_program, joints_program, algebra_program}

abbrev kinds : PlainAlgebra → List PlainAlgebra
kinds (product a b) = kinds a ++ kinds b
kinds (sum a b) = kinds a ++ kinds b
kinds a = a ∷ []

kinds-count : (a : PlainAlgebra) → atoms a ≡ length (kinds a)
kinds-count unique = refl
kinds-count divisible = refl
kinds-count counting = refl
kinds-count indexed = refl
kinds-count (product a b) = rw (length-append (kinds a) (kinds b), kinds-count a, kinds-count b) refl
kinds-count (sum a b) = rw (length-append (kinds a) (kinds b), kinds-count a, kinds-count b) refl

pair-kind : (a b : PlainAlgebra) → ((i : ℕ) → i < atoms a → atom_algebra a i ≡ get_or (kinds a) i unique) → ((i : ℕ) → i < atoms b → atom_algebra b i ≡ get_or (kinds b) i unique) → (i : ℕ) → i < atoms a + atoms b → (if nat_lt i (atoms a) then atom_algebra a i else atom_algebra b (i - atoms a)) ≡ get_or (kinds a ++ kinds b) i unique
pair-kind a b f g i h =
    elim (cases_lt i (atoms a)) [
      | inl lt ↦
          let e : nat_lt i (atoms a) ≡ true = grind (arith, nat_tests) in
          let m : i < length (kinds a) = omega (arith, kinds-count a) in
          ap (λ c. if c then atom_algebra a i else atom_algebra b (i - atoms a)) e ∙ (f i lt ∙ sym (get_or-append (kinds a) (kinds b) unique i m))
      | inr ge ↦
          let e : nat_lt i (atoms a) ≡ false = grind (arith, nat_tests) in
          let m : i - atoms a < atoms b = omega arith in
          let n : length (kinds a) + (i - atoms a) ≡ i = omega (arith, kinds-count a) in
          ap (λ c. if c then atom_algebra a i else atom_algebra b (i - atoms a)) e ∙ (g (i - atoms a) m ∙ (sym (get_or-append-add (kinds a) (kinds b) (i - atoms a) unique) ∙ ap (λ k. get_or (kinds a ++ kinds b) k unique) n))
    ]

atom-kind : (a : PlainAlgebra) (i : ℕ) → i < atoms a → atom_algebra a i ≡ get_or (kinds a) i unique
atom-kind unique i h = let e : i ≡ 0 = omega arith in sym (ap (λ k. get_or (unique ∷ []) k unique) e)
atom-kind divisible i h = let e : i ≡ 0 = omega arith in sym (ap (λ k. get_or (divisible ∷ []) k unique) e)
atom-kind counting i h = let e : i ≡ 0 = omega arith in sym (ap (λ k. get_or (counting ∷ []) k unique) e)
atom-kind indexed i h = let e : i ≡ 0 = omega arith in sym (ap (λ k. get_or (indexed ∷ []) k unique) e)
atom-kind (product a b) i h = pair-kind a b (λ j k. atom-kind a j k) (λ j k. atom-kind b j k) i h
atom-kind (sum a b) i h = pair-kind a b (λ j k. atom-kind a j k) (λ j k. atom-kind b j k) i h

mutual
  declared-kinds : (d : DeclaredTree) → kinds (declared_program d) ≡ map guard_kind (declared_guards d)
  declared-kinds (tree.unique w) = refl
  declared-kinds (tree.divisible p w) = refl
  declared-kinds (tree.counting p w q) = refl
  declared-kinds (tree.indexed p w q) = refl
  declared-kinds (tree.grouped p a q) = algebra-kinds a

  declareds-kinds : (ds : DeclaredTrees) (a : PlainAlgebra) → kinds (declareds_program a ds) ≡ kinds a ++ map guard_kind (declareds_guards ds)
  declareds-kinds no_declared a = sym (append-nil (kinds a))
  declareds-kinds (and_declared p d ds) a =
      declareds-kinds ds (product a (declared_program d))
      ∙ (ap (λ ks. (kinds a ++ ks) ++ map guard_kind (declareds_guards ds)) (declared-kinds d)
      ∙ (append_assoc (kinds a) (map guard_kind (declared_guards d)) (map guard_kind (declareds_guards ds))
      ∙ ap (λ ks. kinds a ++ ks) (sym (map-append guard_kind (declared_guards d) (declareds_guards ds)))))

  joint-kinds : (j : JointTree) → kinds (joint_program j) ≡ map guard_kind (joint_guards j)
  joint-kinds (joint d ds) =
      declareds-kinds ds (declared_program d)
      ∙ (ap (λ ks. ks ++ map guard_kind (declareds_guards ds)) (declared-kinds d)
      ∙ sym (map-append guard_kind (declared_guards d) (declareds_guards ds)))

  joints-kinds : (js : JointTrees) (a : PlainAlgebra) → kinds (joints_program a js) ≡ kinds a ++ map guard_kind (joints_guards js)
  joints-kinds no_joint a = sym (append-nil (kinds a))
  joints-kinds (or_joint p j js) a =
      joints-kinds js (sum a (joint_program j))
      ∙ (ap (λ ks. (kinds a ++ ks) ++ map guard_kind (joints_guards js)) (joint-kinds j)
      ∙ (append_assoc (kinds a) (map guard_kind (joint_guards j)) (map guard_kind (joints_guards js))
      ∙ ap (λ ks. kinds a ++ ks) (sym (map-append guard_kind (joint_guards j) (joints_guards js)))))

  algebra-kinds : (a : AlgebraTree) → kinds (algebra_program a) ≡ map guard_kind (algebra_guards a)
  algebra-kinds (algebra j js) =
      joints-kinds js (joint_program j)
      ∙ (ap (λ ks. ks ++ map guard_kind (joints_guards js)) (joint-kinds j)
      ∙ sym (map-append guard_kind (joint_guards j) (joints_guards js)))

pub algebra-count : (a : AlgebraTree) → atoms (algebra_program a) ≡ length (algebra_guards a)
algebra-count a = kinds-count (algebra_program a) ∙ (ap length (algebra-kinds a) ∙ length-map (algebra_guards a) guard_kind)

pub algebra-atom : (a : AlgebraTree) (i : ℕ) (d : DeclaredTree) → slice_get (algebra_guards a) i ≡ Some d → (i < atoms (algebra_program a)) × (atom_algebra (algebra_program a) i ≡ guard_kind d)
algebra-atom a i d e =
    let l : i < length (algebra_guards a) = slice_get_within (algebra_guards a) i d e in
    let n : i < atoms (algebra_program a) = omega (arith, algebra-count a) in
    (n, atom-kind (algebra_program a) i n ∙ (ap (λ ks. get_or ks i unique) (algebra-kinds a) ∙ get_or_from_slice_get (map guard_kind (algebra_guards a)) i (guard_kind d) unique (slice_get-map guard_kind (algebra_guards a) i ∙ ap (option_map guard_kind) e)))
