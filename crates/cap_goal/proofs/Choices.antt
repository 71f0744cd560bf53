-- Certificates in place of others.
use Rattle.std.proofs.Common.{◌≡◌, List, refl}
use Rattle.cap_farkas.specs.declared.cert.Cert.{Cert}
use Rattle.cap_goal_spec.specs.Choices.{PlainChoice, by_absurd, by_clash, by_set, by_alloc, by_assert, by_if, by_loop, by_turn, by_call, by_fork, by_return, by_enter, by_act, by_pick, by_shift, by_settle, by_keep, by_give, by_fact, by_cases, by_cell, by_region, by_guard, by_convert, by_create, by_made, with_certs}

-- of two lists put in one after the other, the second counts
pub with_certs_twice : (c : PlainChoice) (first second : List Cert) → with_certs (with_certs c first) second ≡ with_certs c second
with_certs_twice (by_absurd c) ds es = refl
with_certs_twice (by_clash i j cs) ds es = refl
with_certs_twice by_set ds es = refl
with_certs_twice by_alloc ds es = refl
with_certs_twice (by_assert cs) ds es = refl
with_certs_twice by_if ds es = refl
with_certs_twice by_loop ds es = refl
with_certs_twice by_turn ds es = refl
with_certs_twice by_call ds es = refl
with_certs_twice by_fork ds es = refl
with_certs_twice by_return ds es = refl
with_certs_twice (by_enter i cs) ds es = refl
with_certs_twice (by_act j cs ms) ds es = refl
with_certs_twice (by_pick o c m) ds es = refl
with_certs_twice (by_shift cs spans) ds es = refl
with_certs_twice (by_settle list cs) ds es = refl
with_certs_twice (by_keep cs) ds es = refl
with_certs_twice by_give ds es = refl
with_certs_twice (by_fact cs) ds es = refl
with_certs_twice by_cases ds es = refl
with_certs_twice (by_cell j cs) ds es = refl
with_certs_twice (by_region j cs) ds es = refl
with_certs_twice (by_guard j way cs) ds es = refl
with_certs_twice (by_convert n side cs) ds es = refl
with_certs_twice (by_create c) ds es = refl
with_certs_twice (by_made cs) ds es = refl
