-- Known bytes over several reads or writes in a row.
use Rattle.std.proofs.Common.{arith, ◌≡◌, ℕ, ◌+◌, ◌≤◌, List, [], ◌++◌, length, take, drop, Option, Some, None, Result, Ok, Err, length-append, refl, sym, ap, ◌∙◌, append_assoc}
use Rattle.std.proofs.Math.Seq.{take-add}
use Rattle.std.proofs.lemmas.List.{take_all, length-take-le}
use Rattle.std.proofs.lemmas.Grind.{common_steps}
use Rattle.std.specs.Io.KnownBytes.{Keeps, Appends, Consumes, ReadConsumes, WriteAppends}
use Rattle.cap_io.specs.Outside.{Gains, GainsPrefix}

pub keeps_same : (a : Option (List ℕ)) → Keeps a a
keeps_same None = tt
keeps_same (Some xs) = refl

pub keeps_twice : (a b c : Option (List ℕ)) → Keeps a b → Keeps b c → Keeps a c
keeps_twice None b c h k = tt
keeps_twice (Some xs) None c h k = absurd h
keeps_twice (Some xs) (Some ys) None h k = absurd k
keeps_twice (Some xs) (Some ys) (Some zs) h k = k ∙ h

consumes_kept : (a b c : Option (List ℕ)) (bytes : List ℕ) → Keeps a b → Consumes b c bytes → Consumes a c bytes
consumes_kept None b c bytes h k = tt
consumes_kept (Some xs) None c bytes h k = absurd h
consumes_kept (Some xs) (Some ys) None bytes h k = absurd k
consumes_kept (Some xs) (Some ys) (Some zs) bytes h k = sym h ∙ k

pub reads_kept : {E : Type 0} (a b c : Option (List ℕ)) (r : Result ℕ E) (buffer : List ℕ) → Keeps a b → ReadConsumes b c r buffer → ReadConsumes a c r buffer
reads_kept a b c (Ok n) buffer h k = (consumes_kept a b c (take n buffer) h k.0, k.1)
reads_kept a b c (Err e) buffer h k = keeps_twice a b c h k

pub consumes_twice : (a b c : Option (List ℕ)) (xs ys : List ℕ) → Consumes a b xs → Consumes b c ys → Consumes a c (xs ++ ys)
consumes_twice None b c xs ys h k = tt
consumes_twice (Some us) None c xs ys h k = absurd h
consumes_twice (Some us) (Some vs) None xs ys h k = absurd k
consumes_twice (Some us) (Some vs) (Some ws) xs ys h k = grind (arith, h, k, append_assoc xs ys ws)

pub consumes_none : (a : Option (List ℕ)) → Consumes a a []
consumes_none None = tt
consumes_none (Some xs) = grind arith

appends_kept : (a b c : Option (List ℕ)) (bytes : List ℕ) → Keeps a b → Appends b c bytes → Appends a c bytes
appends_kept None b c bytes h k = tt
appends_kept (Some xs) None c bytes h k = absurd h
appends_kept (Some xs) (Some ys) None bytes h k = absurd k
appends_kept (Some xs) (Some ys) (Some zs) bytes h k = grind (arith, h, k)

pub writes_kept : {E : Type 0} (a b c : Option (List ℕ)) (r : Result ℕ E) (bytes : List ℕ) → Keeps a b → WriteAppends b c r bytes → WriteAppends a c r bytes
writes_kept a b c (Ok n) bytes h k = appends_kept a b c (take n bytes) h k
writes_kept a b c (Err e) bytes h k = keeps_twice a b c h k

-- the next n bytes are appended
pub appends_more : (a b c : Option (List ℕ)) (bytes rest : List ℕ) (k n : ℕ) → rest ≡ drop k bytes → Appends a b (take k bytes) → Appends b c (take n rest) → Appends a c (take (k + n) bytes)
appends_more None b c bytes rest k n e g h = tt
appends_more (Some xs) None c bytes rest k n e g h = absurd g
appends_more (Some xs) (Some ys) None bytes rest k n e g h = absurd h
appends_more (Some xs) (Some ys) (Some zs) bytes rest k n e g h =
    rw (h, g, take-add k n bytes, e) (append_assoc xs (take k bytes) (take n (drop k bytes)))

pub appends_none : (a : Option (List ℕ)) (bytes : List ℕ) → Appends a a (take 0 bytes)
appends_none None bytes = tt
appends_none (Some xs) bytes = grind (arith, common_steps)

pub appends_then_kept : (a b c : Option (List ℕ)) (bytes : List ℕ) → Appends a b bytes → Keeps b c → Appends a c bytes
appends_then_kept None b c bytes h k = tt
appends_then_kept (Some xs) None c bytes h k = absurd h
appends_then_kept (Some xs) (Some ys) None bytes h k = absurd k
appends_then_kept (Some xs) (Some ys) (Some zs) bytes h k = k ∙ h

pub gains_prefix : (a b : Option (List ℕ)) (bytes : List ℕ) (k : ℕ) → k ≤ length bytes → Appends a b (take k bytes) → GainsPrefix a b bytes
gains_prefix None b bytes k h g = tt
gains_prefix (Some xs) None bytes k h g = absurd g
gains_prefix (Some xs) (Some ys) bytes k h g = (k, h, ap Some g)

pub gains_all : (a b : Option (List ℕ)) (bytes : List ℕ) (k : ℕ) → length bytes ≤ k → Appends a b (take k bytes) → Gains a b bytes
gains_all None b bytes k h g = tt
gains_all (Some xs) None bytes k h g = absurd g
gains_all (Some xs) (Some ys) bytes k h g = ap Some (g ∙ ap (λ zs. xs ++ zs) (take_all k bytes h))

-- n more bytes were seen
pub seen_more : (a b c : Option (List ℕ)) (before seen n : ℕ) (buffer : List ℕ) → ((bytes : List ℕ) × Consumes a b bytes × (seen ≡ before + length bytes))
    → Consumes b c (take n buffer) → n ≤ length buffer → (bytes : List ℕ) × Consumes a c bytes × (seen + n ≡ before + length bytes)
seen_more a b c before seen n buffer h k l =
    (h.0 ++ take n buffer, consumes_twice a b c h.0 (take n buffer) h.1 k, rw (length-append, length-take-le) (omega (arith, h.2)))
