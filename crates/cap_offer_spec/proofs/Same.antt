-- What a rule comes to doesn't depend on the certificates that a choice holds; and rules without
-- certificates have nothing to prove.
use Rattle.std.proofs.Common.{◌≡◌, ℕ, zero, suc, Bool, List, [], ◌∷◌, Option, Some, None, refl}
use Rattle.cap_lin.specs.Linear.{Linear}
use Rattle.cap_farkas.specs.declared.cert.Cert.{Cert}
use Rattle.cap_rules.specs.cap_prog.Program.{PlainItem, compare, choose, fact, atom, cell, Items, none, item, Label, PlainAct, set, alloc, call, fork, branch, loop, check, give_back, Block, done, first, append, PlainFunction, PlainProgram}
use Rattle.cap_rules.specs.cap_prog.declared.assertion.Comp.{Comp}
use Rattle.cap_rules.specs.cap_prog.declared.assertion.Slot.{Slot}
use Rattle.cap_rules.specs.cap_goal_spec.States.{PlainState, Home, PlainTask, to_run, to_turn, to_give, to_take, to_make, to_close, to_shift, to_rest, PlainGoal}
use Rattle.cap_rules.specs.cap_goal_spec.Choices.{PlainChoice, by_clash, by_set, by_alloc, by_assert, by_if, by_loop, by_turn, by_call, by_fork, by_return, by_enter, by_act, by_pick, by_shift, by_settle, by_keep, by_give, by_fact, by_cases, by_cell, by_region, by_guard, by_convert, by_create, by_made, with_certs}
use Rattle.cap_rules.specs.Rules.{at_task, at_tasks, rule, branches, called, with_new_cells, at_create, at_close, Remaining}
use Rattle.cap_offer_spec.proofs.Quiet.{Quiet, chain, after-steps, of-none, need-quiet, value-quiet, values-quiet, row-quiet, row-by-quiet, slot-quiet, slots-quiet, sort-quiet, with-row-quiet, comparison-quiet, cell-quiet, env-quiet, give-quiet, case-env-quiet, new-region-quiet, target-quiet}

-- ---- with other certificates
same-done : (p : PlainProgram) (s : PlainState) (m : List Bool) (ts : List PlainTask) (h : Home) (c : PlainChoice) (cs : List Cert) → at_task p s m (with_certs c cs) (to_run h done) ts ≡ at_task p s m c (to_run h done) ts
same-done p s m ts h (by_clash i j old) cs = refl
same-done p s m ts h c cs = refl

same-run : (p : PlainProgram) (s : PlainState) (m : List Bool) (ts : List PlainTask) (h : Home) (l : Label) (a : PlainAct) (b : Block) (c : PlainChoice) (cs : List Cert) → at_task p s m (with_certs c cs) (to_run h (first l a b)) ts ≡ at_task p s m c (to_run h (first l a b)) ts
same-run p s m ts h l (check x) b (by_assert old) cs = refl
same-run p s m ts h l a b (by_assert old) cs = refl
same-run p s m ts h l a b (by_clash i j old) cs = refl
same-run p s m ts h l a b (by_enter i old) cs = refl
same-run p s m ts h l a b (by_shift old js) cs = refl
same-run p s m ts h l a b (by_settle list old) cs = refl
same-run p s m ts h l a b (by_keep old) cs = refl
same-run p s m ts h l a b (by_fact old) cs = refl
same-run p s m ts h l a b (by_cell j old) cs = refl
same-run p s m ts h l a b (by_region j old) cs = refl
same-run p s m ts h l a b (by_guard j w old) cs = refl
same-run p s m ts h l a b (by_convert j w old) cs = refl
same-run p s m ts h l a b (by_made old) cs = refl
same-run p s m ts h l a b c cs = refl

same-ended : (p : PlainProgram) (s : PlainState) (m : List Bool) (ts : List PlainTask) (h : Home) (c : PlainChoice) (cs : List Cert) → at_task p s m (with_certs c cs) (to_turn h done) ts ≡ at_task p s m c (to_turn h done) ts
same-ended p s m ts h (by_clash i j old) cs = refl
same-ended p s m ts h c cs = refl

same-turn : (p : PlainProgram) (s : PlainState) (m : List Bool) (ts : List PlainTask) (h : Home) (l : Label) (a : PlainAct) (b : Block) (c : PlainChoice) (cs : List Cert) → at_task p s m (with_certs c cs) (to_turn h (first l a b)) ts ≡ at_task p s m c (to_turn h (first l a b)) ts
same-turn p s m ts h l a b (by_clash i j old) cs = refl
same-turn p s m ts h l a b c cs = refl

same-give : (p : PlainProgram) (s : PlainState) (m : List Bool) (ts : List PlainTask) (x : Items) (e n : ℕ) (c : PlainChoice) (cs : List Cert) → at_task p s m (with_certs c cs) (to_give x e n) ts ≡ at_task p s m c (to_give x e n) ts
same-give p s m ts x e n (by_clash i j old) cs = refl
same-give p s m ts x e n c cs = refl

same-taken : (p : PlainProgram) (s : PlainState) (m : List Bool) (ts : List PlainTask) (e l n : ℕ) (c : PlainChoice) (cs : List Cert) → at_task p s m (with_certs c cs) (to_take none e l n) ts ≡ at_task p s m c (to_take none e l n) ts
same-taken p s m ts e l n (by_clash i j old) cs = refl
same-taken p s m ts e l n c cs = refl

same-take : (p : PlainProgram) (s : PlainState) (m : List Bool) (ts : List PlainTask) (i : PlainItem) (x : Items) (e l n : ℕ) (c : PlainChoice) (cs : List Cert) → at_task p s m (with_certs c cs) (to_take (item i x) e l n) ts ≡ at_task p s m c (to_take (item i x) e l n) ts
same-take p s m ts (compare x) y e l n (by_fact old) cs = refl
same-take p s m ts i y e l n (by_fact old) cs = refl
same-take p s m ts (cell a b d) y e l n (by_cell j old) cs = refl
same-take p s m ts i y e l n (by_cell j old) cs = refl
same-take p s m ts (fact a b d g k) y e l n (by_region j old) cs = refl
same-take p s m ts i y e l n (by_region j old) cs = refl
same-take p s m ts (atom a b d g k) y e l n (by_guard j w old) cs = refl
same-take p s m ts i y e l n (by_guard j w old) cs = refl
same-take p s m ts (atom a b d g k) y e l n (by_convert j w old) cs = refl
same-take p s m ts i y e l n (by_convert j w old) cs = refl
same-take p s m ts i y e l n c cs = refl

same-make : (p : PlainProgram) (s : PlainState) (m : List Bool) (ts : List PlainTask) (k d e : ℕ) (t : Linear) (n : ℕ) (c : PlainChoice) (cs : List Cert) → at_task p s m (with_certs c cs) (to_make k d e t n) ts ≡ at_task p s m c (to_make k d e t n) ts
same-make p s m ts k d e t n (by_clash i j old) cs = refl
same-make p s m ts k d e t n c cs = refl

same-close : (p : PlainProgram) (s : PlainState) (m : List Bool) (ts : List PlainTask) (b : Bool) (n : ℕ) (c : PlainChoice) (cs : List Cert) → at_task p s m (with_certs c cs) (to_close b n) ts ≡ at_task p s m c (to_close b n) ts
same-close p s m ts b n (by_clash i j old) cs = refl
same-close p s m ts b n c cs = refl

same-shift : (p : PlainProgram) (s : PlainState) (m : List Bool) (ts : List PlainTask) (o d x e n : ℕ) (c : PlainChoice) (cs : List Cert) → at_task p s m (with_certs c cs) (to_shift o d x e n) ts ≡ at_task p s m c (to_shift o d x e n) ts
same-shift p s m ts o d x e n (by_clash i j old) cs = refl
same-shift p s m ts o d x e n c cs = refl

same-rest : (p : PlainProgram) (s : PlainState) (m : List Bool) (ts : List PlainTask) (j n : ℕ) (c : PlainChoice) (cs : List Cert) → at_task p s m (with_certs c cs) (to_rest j n) ts ≡ at_task p s m c (to_rest j n) ts
same-rest p s m ts x n (by_clash i j old) cs = refl
same-rest p s m ts x n c cs = refl

same-task : (p : PlainProgram) (s : PlainState) (m : List Bool) (ts : List PlainTask) (t : PlainTask) (c : PlainChoice) (cs : List Cert) → at_task p s m (with_certs c cs) t ts ≡ at_task p s m c t ts
same-task p s m ts (to_run h done) c cs = same-done p s m ts h c cs
same-task p s m ts (to_run h (first l a b)) c cs = same-run p s m ts h l a b c cs
same-task p s m ts (to_turn h done) c cs = same-ended p s m ts h c cs
same-task p s m ts (to_turn h (first l a b)) c cs = same-turn p s m ts h l a b c cs
same-task p s m ts (to_give x e n) c cs = same-give p s m ts x e n c cs
same-task p s m ts (to_take none e l n) c cs = same-taken p s m ts e l n c cs
same-task p s m ts (to_take (item i x) e l n) c cs = same-take p s m ts i x e l n c cs
same-task p s m ts (to_make k d e t n) c cs = same-make p s m ts k d e t n c cs
same-task p s m ts (to_close b n) c cs = same-close p s m ts b n c cs
same-task p s m ts (to_shift o d x e n) c cs = same-shift p s m ts o d x e n c cs
same-task p s m ts (to_rest j n) c cs = same-rest p s m ts j n c cs

same-tasks : (p : PlainProgram) (s : PlainState) (m : List Bool) (ts : List PlainTask) (c : PlainChoice) (cs : List Cert) → at_tasks p s m (with_certs c cs) ts ≡ at_tasks p s m c ts
same-tasks p s m [] c cs = refl
same-tasks p s m (t ∷ ts) c cs = same-task p s m ts t c cs

pub same-rule : (p : PlainProgram) (g : PlainGoal) (m : List Bool) (c : PlainChoice) (cs : List Cert) → rule p g (with_certs c cs) m ≡ rule p g c m
same-rule p g m c cs = same-tasks p g.state m g.tasks c cs

act-tasks : (p : PlainProgram) (s : PlainState) (m : List Bool) (ts : List PlainTask) (j : ℕ) (cs : List Cert) (ms : List (Option Cert)) → at_tasks p s m (by_act j cs ms) ts ≡ at_tasks p s m (by_act j [] []) ts
act-tasks p s m [] j cs ms = refl
act-tasks p s m (to_run h done ∷ ts) j cs ms = refl
act-tasks p s m (to_run h (first l a b) ∷ ts) j cs ms = refl
act-tasks p s m (to_turn h done ∷ ts) j cs ms = refl
act-tasks p s m (to_turn h (first l a b) ∷ ts) j cs ms = refl
act-tasks p s m (to_take none e l n ∷ ts) j cs ms = refl
act-tasks p s m (to_take (item i x) e l n ∷ ts) j cs ms = refl
act-tasks p s m (t ∷ ts) j cs ms = refl

pub act-rule : (p : PlainProgram) (g : PlainGoal) (m : List Bool) (j : ℕ) (cs : List Cert) (ms : List (Option Cert)) → rule p g (by_act j cs ms) m ≡ rule p g (by_act j [] []) m
act-rule p g m j cs ms = act-tasks p g.state m g.tasks j cs ms

-- ---- rules without certificates

abbrev pub IsBare : PlainChoice → Type 0
IsBare by_set = Unit {0}
IsBare by_alloc = Unit {0}
IsBare by_if = Unit {0}
IsBare by_loop = Unit {0}
IsBare by_turn = Unit {0}
IsBare by_call = Unit {0}
IsBare by_fork = Unit {0}
IsBare by_return = Unit {0}
IsBare (by_pick o c m) = Unit {0}
IsBare by_give = Unit {0}
IsBare by_cases = Unit {0}
IsBare (by_create c) = Unit {0}
IsBare _ = ⊥

cells-quiet : (s : PlainState) (b : Linear) (i n : ℕ) → Quiet (with_new_cells s b i n)
cells-quiet s b i zero = of-none (Some s)
cells-quiet s b i (suc n) = search (after-steps, chain, cell-quiet, λ (t : PlainState). cells-quiet t b (suc i) n)

called-quiet : (s : PlainState) (f : PlainFunction) (args : List Linear) (x : Option ℕ) → Quiet (called s f args x)
called-quiet s f args x = search (chain, values-quiet, sort-quiet, env-quiet)

branches-quiet : (s : PlainState) (c : Comp) (xs ys : List PlainTask) → Quiet (branches s c xs ys)
branches-quiet s c xs ys = search (chain, row-quiet, with-row-quiet, of-none)

close-quiet : (p : PlainProgram) (s : PlainState) (o c m : ℕ) (any : Bool) (n : ℕ) (ts : List PlainTask) → Quiet (at_close p s o c m any n ts)
close-quiet p s o c m any n ts = search (chain, need-quiet, case-env-quiet, target-quiet, env-quiet, of-none) depth 12

at-create-quiet : (p : PlainProgram) (s : PlainState) (c n k : ℕ) (xs : List Slot) (x : Slot) (i : PlainItem) (l : ℕ) (r : Remaining) → Quiet (at_create p s c n k xs x i l r)
at-create-quiet p s c n k xs x i l r = search (chain, need-quiet, slots-quiet, new-region-quiet, case-env-quiet, slot-quiet, env-quiet, of-none) depth 12

set-quiet : (p : PlainProgram) (s : PlainState) (m : List Bool) (ts : List PlainTask) (t : PlainTask) → Quiet (at_task p s m by_set t ts)
set-quiet p s m ts (to_run h (first l (set x t) b)) = search (chain, value-quiet, of-none)
set-quiet p s m ts (to_run h done) = of-none None
set-quiet p s m ts (to_run h (first l a b)) = of-none None
set-quiet p s m ts (to_turn h done) = of-none None
set-quiet p s m ts (to_turn h (first l a b)) = of-none None
set-quiet p s m ts (to_take none e l n) = of-none None
set-quiet p s m ts (to_take (item i x) e l n) = of-none None
set-quiet p s m ts t = of-none None

alloc-quiet : (p : PlainProgram) (s : PlainState) (m : List Bool) (ts : List PlainTask) (t : PlainTask) → Quiet (at_task p s m by_alloc t ts)
alloc-quiet p s m ts (to_run h (first l (alloc x n) b)) = search (chain, sort-quiet, comparison-quiet, cells-quiet, of-none)
alloc-quiet p s m ts (to_run h done) = of-none None
alloc-quiet p s m ts (to_run h (first l a b)) = of-none None
alloc-quiet p s m ts (to_turn h done) = of-none None
alloc-quiet p s m ts (to_turn h (first l a b)) = of-none None
alloc-quiet p s m ts (to_take none e l n) = of-none None
alloc-quiet p s m ts (to_take (item i x) e l n) = of-none None
alloc-quiet p s m ts t = of-none None

if-quiet : (p : PlainProgram) (s : PlainState) (m : List Bool) (ts : List PlainTask) (t : PlainTask) → Quiet (at_task p s m by_if t ts)
if-quiet p s m ts (to_run h (first l (branch x a b) d)) = branches-quiet s x (to_run h (append a d) ∷ ts) (to_run h (append b d) ∷ ts)
if-quiet p s m ts (to_run h done) = of-none None
if-quiet p s m ts (to_run h (first l a b)) = of-none None
if-quiet p s m ts (to_turn h done) = of-none None
if-quiet p s m ts (to_turn h (first l a b)) = of-none None
if-quiet p s m ts (to_take none e l n) = of-none None
if-quiet p s m ts (to_take (item i x) e l n) = of-none None
if-quiet p s m ts t = of-none None

loop-quiet : (p : PlainProgram) (s : PlainState) (m : List Bool) (ts : List PlainTask) (t : PlainTask) → Quiet (at_task p s m by_loop t ts)
loop-quiet p s m ts (to_run h (first l (loop c i a) b)) = search (chain, env-quiet, of-none)
loop-quiet p s m ts (to_run h done) = of-none None
loop-quiet p s m ts (to_run h (first l a b)) = of-none None
loop-quiet p s m ts (to_turn h done) = of-none None
loop-quiet p s m ts (to_turn h (first l a b)) = of-none None
loop-quiet p s m ts (to_take none e l n) = of-none None
loop-quiet p s m ts (to_take (item i x) e l n) = of-none None
loop-quiet p s m ts t = of-none None

turn-quiet : (p : PlainProgram) (s : PlainState) (m : List Bool) (ts : List PlainTask) (t : PlainTask) → Quiet (at_task p s m by_turn t ts)
turn-quiet p s m ts (to_turn h (first l (loop c i a) b)) = branches-quiet s c (to_run h (append a (first l (loop c i a) b)) ∷ ts) (to_run h b ∷ ts)
turn-quiet p s m ts (to_run h done) = of-none None
turn-quiet p s m ts (to_run h (first l a b)) = of-none None
turn-quiet p s m ts (to_turn h done) = of-none None
turn-quiet p s m ts (to_turn h (first l a b)) = of-none None
turn-quiet p s m ts (to_take none e l n) = of-none None
turn-quiet p s m ts (to_take (item i x) e l n) = of-none None
turn-quiet p s m ts t = of-none None

call-quiet : (p : PlainProgram) (s : PlainState) (m : List Bool) (ts : List PlainTask) (t : PlainTask) → Quiet (at_task p s m by_call t ts)
call-quiet p s m ts (to_run h (first l (call x n args) b)) = search (chain, called-quiet, of-none)
call-quiet p s m ts (to_run h done) = of-none None
call-quiet p s m ts (to_run h (first l a b)) = of-none None
call-quiet p s m ts (to_turn h done) = of-none None
call-quiet p s m ts (to_turn h (first l a b)) = of-none None
call-quiet p s m ts (to_take none e l n) = of-none None
call-quiet p s m ts (to_take (item i x) e l n) = of-none None
call-quiet p s m ts t = of-none None

fork-quiet : (p : PlainProgram) (s : PlainState) (m : List Bool) (ts : List PlainTask) (t : PlainTask) → Quiet (at_task p s m by_fork t ts)
fork-quiet p s m ts (to_run h (first l (fork n args) b)) = search (chain, called-quiet, of-none)
fork-quiet p s m ts (to_run h done) = of-none None
fork-quiet p s m ts (to_run h (first l a b)) = of-none None
fork-quiet p s m ts (to_turn h done) = of-none None
fork-quiet p s m ts (to_turn h (first l a b)) = of-none None
fork-quiet p s m ts (to_take none e l n) = of-none None
fork-quiet p s m ts (to_take (item i x) e l n) = of-none None
fork-quiet p s m ts t = of-none None

return-quiet : (p : PlainProgram) (s : PlainState) (m : List Bool) (ts : List PlainTask) (t : PlainTask) → Quiet (at_task p s m by_return t ts)
return-quiet p s m ts (to_run h (first l (give_back t) b)) = search (chain, value-quiet, env-quiet, of-none)
return-quiet p s m ts (to_run h done) = of-none None
return-quiet p s m ts (to_run h (first l a b)) = of-none None
return-quiet p s m ts (to_turn h done) = of-none None
return-quiet p s m ts (to_turn h (first l a b)) = of-none None
return-quiet p s m ts (to_take none e l n) = of-none None
return-quiet p s m ts (to_take (item i x) e l n) = of-none None
return-quiet p s m ts t = of-none None

pick-quiet : (p : PlainProgram) (s : PlainState) (m : List Bool) (ts : List PlainTask) (o c k : ℕ) (t : PlainTask) → Quiet (at_task p s m (by_pick o c k) t ts)
pick-quiet p s m ts o c k (to_close any n) = close-quiet p s o c k any n ts
pick-quiet p s m ts o c k (to_run h done) = of-none None
pick-quiet p s m ts o c k (to_run h (first l a b)) = of-none None
pick-quiet p s m ts o c k (to_turn h done) = of-none None
pick-quiet p s m ts o c k (to_turn h (first l a b)) = of-none None
pick-quiet p s m ts o c k (to_take none e l n) = of-none None
pick-quiet p s m ts o c k (to_take (item i x) e l n) = of-none None
pick-quiet p s m ts o c k t = of-none None

given-quiet : (p : PlainProgram) (s : PlainState) (m : List Bool) (ts : List PlainTask) (t : PlainTask) → Quiet (at_task p s m by_give t ts)
given-quiet p s m ts (to_give x e n) = give-quiet p s e n ts x
given-quiet p s m ts (to_run h done) = of-none None
given-quiet p s m ts (to_run h (first l a b)) = of-none None
given-quiet p s m ts (to_turn h done) = of-none None
given-quiet p s m ts (to_turn h (first l a b)) = of-none None
given-quiet p s m ts (to_take none e l n) = of-none None
given-quiet p s m ts (to_take (item i x) e l n) = of-none None
given-quiet p s m ts t = of-none None

cases-quiet : (p : PlainProgram) (s : PlainState) (m : List Bool) (ts : List PlainTask) (t : PlainTask) → Quiet (at_task p s m by_cases t ts)
cases-quiet p s m ts (to_take (item (choose c a b) x) e l n) = search (chain, row-by-quiet, with-row-quiet, of-none)
cases-quiet p s m ts (to_run h done) = of-none None
cases-quiet p s m ts (to_run h (first l a b)) = of-none None
cases-quiet p s m ts (to_turn h done) = of-none None
cases-quiet p s m ts (to_turn h (first l a b)) = of-none None
cases-quiet p s m ts (to_take none e l n) = of-none None
cases-quiet p s m ts (to_take (item i x) e l n) = of-none None
cases-quiet p s m ts t = of-none None

create-quiet : (p : PlainProgram) (s : PlainState) (m : List Bool) (ts : List PlainTask) (c : ℕ) (t : PlainTask) → Quiet (at_task p s m (by_create c) t ts)
create-quiet p s m ts c (to_take (item (fact q n k xs x) r) e zero d) = of-none None
create-quiet p s m ts c (to_take (item (fact q n k xs x) r) e (suc l) d) = at-create-quiet p s c n k xs x (fact q n k xs x) l (record { items = r; env = e; left = suc l; statement = d; tasks = ts })
create-quiet p s m ts c (to_run h done) = of-none None
create-quiet p s m ts c (to_run h (first l a b)) = of-none None
create-quiet p s m ts c (to_turn h done) = of-none None
create-quiet p s m ts c (to_turn h (first l a b)) = of-none None
create-quiet p s m ts c (to_take none e l n) = of-none None
create-quiet p s m ts c (to_take (item i x) e l n) = of-none None
create-quiet p s m ts c t = of-none None

bare-task : (p : PlainProgram) (s : PlainState) (ts : List PlainTask) (c : PlainChoice) → IsBare c → (t : PlainTask) → Quiet (at_task p s [] c t ts)
bare-task p s ts by_set h t = set-quiet p s [] ts t
bare-task p s ts by_alloc h t = alloc-quiet p s [] ts t
bare-task p s ts by_if h t = if-quiet p s [] ts t
bare-task p s ts by_loop h t = loop-quiet p s [] ts t
bare-task p s ts by_turn h t = turn-quiet p s [] ts t
bare-task p s ts by_call h t = call-quiet p s [] ts t
bare-task p s ts by_fork h t = fork-quiet p s [] ts t
bare-task p s ts by_return h t = return-quiet p s [] ts t
bare-task p s ts (by_pick o c m) h t = pick-quiet p s [] ts o c m t
bare-task p s ts by_give h t = given-quiet p s [] ts t
bare-task p s ts by_cases h t = cases-quiet p s [] ts t
bare-task p s ts (by_create c) h t = create-quiet p s [] ts c t
bare-task p s ts c h t = absurd h

bare-tasks : (p : PlainProgram) (s : PlainState) (c : PlainChoice) → IsBare c → (ts : List PlainTask) → Quiet (at_tasks p s [] c ts)
bare-tasks p s c h [] = of-none None
bare-tasks p s c h (t ∷ ts) = bare-task p s ts c h t

pub bare-quiet : (p : PlainProgram) (g : PlainGoal) (c : PlainChoice) → IsBare c → Quiet (rule p g c [])
bare-quiet p g c h = bare-tasks p g.state c h g.tasks
