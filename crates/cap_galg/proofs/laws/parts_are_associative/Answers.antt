use Rattle.cap_galg_spec.specs.Laws.Composition.{IsSound, compose_assoc}
use Rattle.cap_galg_spec.specs.Laws.Algebras.{sound-of}
use Rattle.cap_galg.proofs.laws.parts_are_associative.Goals as goal

pub returns : goal.returns
returns g c = λ x y z. compose_assoc (g.A.Guard.element x) (g.A.Guard.element y) (g.A.Guard.element z) (sound x) (sound y) (sound z)
  where
    sound : (x : g.row.A.Denot) → IsSound (g.A.Guard.element x)
    sound x = let k = g.met.A.Guard.lawful x x (g.met.A.Guard.kin_reflexive x) in sound-of k.0 (g.A.Guard.element x) k.2
