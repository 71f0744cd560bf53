-- What is told of a part of a step is told of what comes of it.
use Rattle.cap_owners_spec.specs.Traced.{Traced, traced, past_width, untold, ◌>>=◌}
use Rattle.cap_owners_laws.specs.Owned.{IsTold}

pub told-on :
    {A B : Type 0} (P : A → Type 0) (Q : B → Type 0) (o : Traced A) (f : A → Traced B) →
    IsTold P o → ((x : A) → P x → IsTold Q (f x)) → IsTold Q (o >>= f)
told-on P Q (traced x) f h k = k x h
told-on P Q past_width f h k = tt
told-on P Q untold f h k = h

pub told-more :
    {A : Type 0} (P Q : A → Type 0) (o : Traced A) → ((x : A) → P x → Q x) → IsTold P o →
    IsTold Q o
told-more P Q (traced x) f h = f x h
told-more P Q past_width f h = tt
told-more P Q untold f h = h
