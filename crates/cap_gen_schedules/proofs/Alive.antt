-- The threads that have not ended, thread by thread.
use Rattle.std.proofs.Common.{◌≡◌, ◌∙◌, ap, sym, refl, subst, ℕ, zero, suc, ◌+◌, ◌<◌, List, [], ◌∷◌}
use Rattle.std.proofs.Common.{◌++◌, drop, length, append_assoc, add-one, arith}
use Rattle.std.specs.Prelude.{Bool, true, false, Option, Some, None, is_some, slice_get}
use Rattle.cap_machine.specs.Machine.{Thread, Configuration, top_frame}
use Rattle.cap_machine.specs.Laws.{running}
use Rattle.cap_gen_schedules.specs.Drawn.{alive_from, alive}

record Next (ts : List Thread) (i : ℕ) : Type 0 where
  thread : Thread
  rest : drop i ts ≡ thread ∷ drop (suc i) ts
  is : slice_get ts i ≡ Some thread

next : (ts : List Thread) (i : ℕ) → i < length ts → Next ts i
next [] i l = absurd (omega arith)
next (t ∷ ts) zero l = record { thread = t; rest = refl; is = refl }
next (t ∷ ts) (suc i) l =
    let n = next ts i (omega arith) in record { thread = n.thread; rest = n.rest; is = n.is }

-- the threads before a number that have not ended, in front of those from there on
abbrev pub IsSoFar : List ℕ → Configuration → ℕ → Type 0
IsSoFar xs c i = xs ++ alive_from i (drop i c.threads) ≡ alive c

pub so-far-alive :
    (xs ys : List ℕ) (c : Configuration) (i : ℕ) → IsSoFar xs c i → i < length c.threads →
    (running c i ≡ None → ⊥) → ys ≡ xs ++ i ∷ [] → IsSoFar ys c (i + 1)
so-far-alive xs ys c i h l r w =
    subst (IsSoFar ys c) (sym (add-one i))
    (ap (λ zs. zs ++ alive_from (suc i) (drop (suc i) c.threads)) w
    ∙ (append_assoc xs (i ∷ []) (alive_from (suc i) (drop (suc i) c.threads))
    ∙ (ap (λ zs. xs ++ zs) (sym (runs n.thread (ap top_frame n.is)))
    ∙ (ap (λ ts. xs ++ alive_from i ts) (sym n.rest) ∙ h))))
  where
    n : Next c.threads i
    n = next c.threads i l

    runs :
        (t : Thread) → running c i ≡ top_frame (Some t) →
        alive_from i (t ∷ drop (suc i) c.threads)
        ≡ i ∷ alive_from (suc i) (drop (suc i) c.threads)
    runs [] e = absurd (r e)
    runs (f ∷ fs) e = refl

pub so-far-ended :
    (xs ys : List ℕ) (c : Configuration) (i : ℕ) → IsSoFar xs c i → i < length c.threads →
    running c i ≡ None → ys ≡ xs → IsSoFar ys c (i + 1)
so-far-ended xs ys c i h l r w =
    subst (IsSoFar ys c) (sym (add-one i))
    (ap (λ zs. zs ++ alive_from (suc i) (drop (suc i) c.threads)) w
    ∙ (ap (λ zs. xs ++ zs) (sym (stops n.thread (ap top_frame n.is)))
    ∙ (ap (λ ts. xs ++ alive_from i ts) (sym n.rest) ∙ h)))
  where
    n : Next c.threads i
    n = next c.threads i l

    stops :
        (t : Thread) → running c i ≡ top_frame (Some t) →
        alive_from i (t ∷ drop (suc i) c.threads) ≡ alive_from (suc i) (drop (suc i) c.threads)
    stops [] e = refl
    stops (f ∷ fs) e = absurd (cc)

-- whether there is something, by the test of the code
pub is-there : {A : Type 0} (o : Option A) (b : Bool) → b ≡ is_some o → b ≡ true → o ≡ None → ⊥
is-there None b e t n = cc
is-there (Some x) b e t n = cc

pub is-missing : {A : Type 0} (o : Option A) (b : Bool) → b ≡ is_some o → b ≡ false → o ≡ None
is-missing None b e f = refl
is-missing (Some x) b e f = absurd (cc)
