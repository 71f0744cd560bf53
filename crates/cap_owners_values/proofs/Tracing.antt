-- Chains of `?`: how the contract `Traces` goes along `>>=`. Where a call answers an error, `stops`
-- gives the error for all that stands behind it; where it answers Ok, `goes` gives what remains, and
-- `goes_on` the whole from the rest. The error that a `?`
-- hands on is had by `err_from_is_err_and`, for `rw` at its goal (`Values/holds` shows all three).
use Rattle.std.proofs.Common.{◌≡◌, Result, Ok, Err, ap}
use Rattle.cap_owners_spec.specs.Traced.{Traced, ◌>>=◌}
use Rattle.cap_owners_values.specs.declared.error.TraceError.{TraceError}
use Rattle.cap_owners_values.specs.declared.error.TraceError.TheVariants.{PastWidth, Untold, OutOfMemory}
use Rattle.cap_owners_values.specs.Views.{Traces}

-- an error of the first part is one of the whole
pub stops : {A B C D : Type 0} (e : TraceError) (view : C → A) (other : D → B) (t : Traced A) (f : A → Traced B) → Traces {A = A} {B = C} (Err e) view t → Traces {A = B} {B = D} (Err e) other (t >>= f)
stops PastWidth view other t f h = ap (λ x. x >>= f) h
stops Untold view other t f h = ap (λ x. x >>= f) h
stops OutOfMemory view other t f h = tt

-- an error whose view is another
pub stops_same : {A C D : Type 0} (e : TraceError) (view : C → A) (other : D → A) (t : Traced A) → Traces {A = A} {B = C} (Err e) view t → Traces {A = A} {B = D} (Err e) other t
stops_same PastWidth view other t h = h
stops_same Untold view other t h = h
stops_same OutOfMemory view other t h = tt

-- behind a first part that is there
pub goes : {A B C : Type 0} (x : C) (view : C → A) (t : Traced A) (f : A → Traced B) → Traces {A = A} {B = C} (Ok x) view t → t >>= f ≡ f (view x)
goes x view t f h = ap (λ y. y >>= f) h

pub goes_on : {A B C D : Type 0} (x : C) (view : C → A) (r : Result D TraceError) (other : D → B) (t : Traced A) (f : A → Traced B) → Traces {A = A} {B = C} (Ok x) view t → Traces r other (f (view x)) → Traces r other (t >>= f)
goes_on x view r other t f h k = rw (goes x view t f h) k

-- the same answer to a definition that is equal
pub traces_same : {A D : Type 0} (r : Result D TraceError) (other : D → A) (t u : Traced A) → t ≡ u → Traces r other u → Traces r other t
traces_same r other t u e h = rw e h
