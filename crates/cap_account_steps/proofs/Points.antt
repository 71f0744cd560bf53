-- Points of a body: what remains fits its function, and its loops are loops of the body.
use Rattle.cap_account_resources.proofs.Lists.{join-assoc, set-length, all-both, all-first, all-second, Among, among-left, among-right, among-either}
use Rattle.std.proofs.Common.{◌≡◌, ℕ, zero, suc, ◌≤◌, ℤ, List, [], ◌∷◌, ◌++◌, length, take, arith, refl, sym, ap, ◌∙◌, subst, Some, inl, inr}
use Rattle.std.specs.Prelude.{slice_get, slice_set}
use Rattle.std.specs.List.{AllByRecursion}
use Rattle.cap_prog.specs.declared.assertion.Comp.{Comp}
use Rattle.cap_prog.specs.Program.{PlainAssertion, Label, PlainAct, branch, loop, Block, done, first, append, PlainStatement, PlainFunction, PlainProgram}
use Rattle.cap_prog.specs.Parts.{block_statements, all_statements}
use Rattle.cap_prog.specs.Scopes.{fixed_start}
use Rattle.cap_prog.specs.WellFormed.{ActFits}
use Rattle.cap_goal_spec.specs.Roots.{LoopPoint, loops_of, loops_in}
use Rattle.cap_machine.specs.Machine.{Frame}
use Rattle.cap_machine_accounts.specs.Assertions.{NameValue, ValuesFit}

-- ---- blocks

append-append : (a b c : Block) → append (append a b) c ≡ append a (append b c)
append-append done b c = refl
append-append (first l s a) b c = ap (first l s) (append-append a b c)

append-done : (a : Block) → append a done ≡ a
append-done done = refl
append-done (first l s a) = ap (first l s) (append-done a)

loops-append :
    (a b after : Block) →
    loops_in (append a b) after ≡ loops_in a (append b after) ++ loops_in b after
loops-append done b after = refl
loops-append (first l s a) b after =
    ap (λ z. loops_of s l z ++ loops_in (append a b) after) (append-append a b after)
    ∙ (ap (λ z. loops_of s l (append a (append b after)) ++ z) (loops-append a b after)
    ∙ (join-assoc
    (loops_of s l (append a (append b after)))
    (loops_in a (append b after))
    (loops_in b after)))

statements-append :
    (a b : Block) → all_statements (append a b) ≡ all_statements a ++ all_statements b
statements-append done b = refl
statements-append (first l s a) b =
    ap (λ z. record { label = l; act = s } ∷ (block_statements s ++ z)) (statements-append a b)
    ∙ ap (λ z. record { label = l; act = s } ∷ z)
    (join-assoc (block_statements s) (all_statements a) (all_statements b))

abbrev pub StatementsFit : PlainProgram → PlainFunction → List PlainStatement → Type 0
StatementsFit p fn ss = AllByRecursion (λ s. ActFits p fn s.act) ss

fits-append :
    (p : PlainProgram) (fn : PlainFunction) (a b : Block) → StatementsFit p fn (all_statements a) →
    StatementsFit p fn (all_statements b) → StatementsFit p fn (all_statements (append a b))
fits-append p fn a b h k =
    subst (StatementsFit p fn) (sym (statements-append a b))
    (all-both (λ s. ActFits p fn s.act) (all_statements a) (all_statements b) h k)

-- ---- points

pub record Point (p : PlainProgram) (fn : PlainFunction) (b : Block) : Type 0 where
  pub fits : StatementsFit p fn (all_statements b)
  pub loops : (w : LoopPoint) → Among w (loops_in b done) → Among w (loops_in fn.body done)

pub point-act :
    (p : PlainProgram) (fn : PlainFunction) (l : Label) (a : PlainAct) (rest : Block) →
    Point p fn (first l a rest) → ActFits p fn a
point-act p fn l a rest q = q.fits.0

-- the blocks of the first statement
inside-fits :
    (p : PlainProgram) (fn : PlainFunction) (l : Label) (a : PlainAct) (rest : Block) →
    Point p fn (first l a rest) → StatementsFit p fn (block_statements a)
inside-fits p fn l a rest q =
    all-first (λ s. ActFits p fn s.act) (block_statements a) (all_statements rest) q.fits.1

rest-fits :
    (p : PlainProgram) (fn : PlainFunction) (l : Label) (a : PlainAct) (rest : Block) →
    Point p fn (first l a rest) → StatementsFit p fn (all_statements rest)
rest-fits p fn l a rest q =
    all-second (λ s. ActFits p fn s.act) (block_statements a) (all_statements rest) q.fits.1

pub point-next :
    (p : PlainProgram) (fn : PlainFunction) (l : Label) (a : PlainAct) (rest : Block) →
    Point p fn (first l a rest) → Point p fn rest
point-next p fn l a rest q = record {
  fits = rest-fits p fn l a rest q;
  loops = λ w h.
      q.loops w (among-right w (loops_of a l (append rest done)) (loops_in rest done) h);
}

pub point-then :
    (p : PlainProgram) (fn : PlainFunction) (l : Label) (c : Comp) (a b rest : Block) →
    Point p fn (first l (branch c a b) rest) → Point p fn (append a rest)
point-then p fn l c a b rest q =
    let after = append rest done in
    let inside = inside-fits p fn l (branch c a b) rest q in
    let here = all-first (λ s. ActFits p fn s.act) (all_statements a) (all_statements b) inside in
    record {
      fits = fits-append p fn a rest here (rest-fits p fn l (branch c a b) rest q);
      loops = λ w h.
          elim (among-either w (loops_in a after) (loops_in rest done)
          (subst (Among w) (loops-append a rest done) h)) [
            | inl m ↦
                q.loops w (among-left w (loops_in a after ++ loops_in b after) (loops_in rest done)
                (among-left w (loops_in a after) (loops_in b after) m))
            | inr m ↦
                q.loops w
                (among-right w (loops_in a after ++ loops_in b after) (loops_in rest done) m)
          ];
    }

pub point-else :
    (p : PlainProgram) (fn : PlainFunction) (l : Label) (c : Comp) (a b rest : Block) →
    Point p fn (first l (branch c a b) rest) → Point p fn (append b rest)
point-else p fn l c a b rest q =
    let after = append rest done in
    let inside = inside-fits p fn l (branch c a b) rest q in
    let here = all-second (λ s. ActFits p fn s.act) (all_statements a) (all_statements b) inside in
    record {
      fits = fits-append p fn b rest here (rest-fits p fn l (branch c a b) rest q);
      loops = λ w h.
          elim (among-either w (loops_in b after) (loops_in rest done)
          (subst (Among w) (loops-append b rest done) h)) [
            | inl m ↦
                q.loops w (among-left w (loops_in a after ++ loops_in b after) (loops_in rest done)
                (among-right w (loops_in a after) (loops_in b after) m))
            | inr m ↦
                q.loops w
                (among-right w (loops_in a after ++ loops_in b after) (loops_in rest done) m)
          ];
    }

abbrev pub loop_point : Label → Comp → PlainAssertion → Block → Block → LoopPoint
loop_point l c i a rest = record { invariant = i; block = first l (loop c i a) rest }

pub point-loop :
    (p : PlainProgram) (fn : PlainFunction) (l : Label) (c : Comp) (i : PlainAssertion)
    (a rest : Block) → Point p fn (first l (loop c i a) rest) →
    Among (loop_point l c i a rest) (loops_in fn.body done)
point-loop p fn l c i a rest q =
    q.loops (loop_point l c i a rest)
    (inl (ap (λ b. record { invariant = i; block = first l (loop c i a) b }) (append-done rest)))

pub point-again :
    (p : PlainProgram) (fn : PlainFunction) (l : Label) (c : Comp) (i : PlainAssertion)
    (a rest : Block) → Point p fn (first l (loop c i a) rest) →
    Point p fn (append a (first l (loop c i a) rest))
point-again p fn l c i a rest q =
    let whole = first l (loop c i a) rest in
    record {
      fits = fits-append p fn a whole (inside-fits p fn l (loop c i a) rest q) q.fits;
      loops = λ w h.
          elim (among-either w (loops_in a (append whole done)) (loops_in whole done)
          (subst (Among w) (loops-append a whole done) h)) [
            | inl m ↦
                q.loops w
                (inr (among-left w (loops_in a (append whole done)) (loops_in rest done) m))
            | inr m ↦ q.loops w m
          ];
    }

-- ---- frames

-- of a frame, whatever its state: its function, its arguments, and the values of its fixed names
pub record FrameOk (p : PlainProgram) (fn : PlainFunction) (fixed : List NameValue)
    (f : Frame) : Type 0 where
  pub is_fn : slice_get p.functions f.function ≡ Some fn
  pub size : length f.store ≡ fixed_start fn
  pub args : take fn.params f.store ≡ f.arguments
  pub values : ValuesFit fn.fixed fixed
  pub point : Point p fn f.rest

take-set :
    {X : Type 0} (xs : List X) (n i : ℕ) (x : X) → n ≤ i → take n (slice_set xs i x) ≡ take n xs
take-set [] n i x h = refl
take-set (y ∷ xs) zero i x h = refl
take-set (y ∷ xs) (suc n) zero x h = absurd (omega (arith, h))
take-set (y ∷ xs) (suc n) (suc i) x h = ap (λ zs. y ∷ zs) (take-set xs n i x (omega (arith, h)))

pub ok-rest :
    (p : PlainProgram) (fn : PlainFunction) (fixed : List NameValue) (f : Frame) (b : Block) →
    FrameOk p fn fixed f → Point p fn b → FrameOk p fn fixed (record f { rest = b })
ok-rest p fn fixed f b k q =
    record { is_fn = k.is_fn; size = k.size; args = k.args; values = k.values; point = q }

pub ok-store :
    (p : PlainProgram) (fn : PlainFunction) (fixed : List NameValue) (f : Frame) (x : ℕ) (z : ℤ)
    (b : Block) → FrameOk p fn fixed f → fn.params ≤ x → Point p fn b →
    FrameOk p fn fixed (record f { store = slice_set f.store x z; rest = b })
ok-store p fn fixed f x z b k le q = record {
  is_fn = k.is_fn;
  size = set-length f.store x z ∙ k.size;
  args = take-set f.store fn.params x z le ∙ k.args;
  values = k.values;
  point = q;
}
