-- What was taken last goes to a region that is closed or made.
use Rattle.std.proofs.Common.{◌≡◌, ℕ, List, ◌∷◌, drop, Option, Some, sym, ap, ◌∙◌}
use Rattle.std.specs.Prelude.{slice_get}
use Rattle.cap_farkas.specs.declared.cert.Cert.{Cert}
use Rattle.cap_lin.specs.Linear.{Linear}
use Rattle.cap_prog.specs.Program.{PlainProgram}
use Rattle.cap_goal_spec.specs.States.{PlainState, PlainTask, to_make, to_shift}
use Rattle.cap_goal_spec.specs.Choices.{by_made, by_shift}
use Rattle.cap_owners_spec.specs.Traced.{found, ◌>>=◌}
use Rattle.cap_owners_spec.specs.Walks.{Taking, Walk, Interpreting, pass_task, pass_shift, pass_made}
use Rattle.cap_owners_passes.specs.Views.{with_taken}

pub shift-goes : (enter : Interpreting) (p : PlainProgram) (s : PlainState) (cs : List Cert) (spans : List ℕ) (o x m e n : ℕ) (ts : List PlainTask) (w rest : Walk) (t : Taking) → slice_get w.taken 0 ≡ Some t → rest ≡ record w { taken = drop 1 w.taken } → pass_task enter p s (by_shift cs spans) (to_shift o x m e n) ts w ≡ pass_shift p s o x e t (with_taken rest t)
shift-goes enter p s cs spans o x m e n ts w rest t f g =
    ap (λ top. found top >>= (λ t. pass_shift p s o x e t w)) f ∙ ap (λ v. pass_shift p s o x e t (with_taken v t)) (sym g)

pub made-goes : (enter : Interpreting) (p : PlainProgram) (s : PlainState) (cs : List Cert) (k x e : ℕ) (u : Linear) (n : ℕ) (ts : List PlainTask) (w rest : Walk) (t : Taking) → slice_get w.taken 0 ≡ Some t → rest ≡ record w { taken = drop 1 w.taken } → pass_task enter p s (by_made cs) (to_make k x e u n) ts w ≡ pass_made p s k x e u t (with_taken rest t)
made-goes enter p s cs k x e u n ts w rest t f g =
    ap (λ top. found top >>= (λ t. pass_made p s k x e u t w)) f ∙ ap (λ v. pass_made p s k x e u t (with_taken v t)) (sym g)
