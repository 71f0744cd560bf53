-- A node is passed in the same way whatever steps of the frame are to come behind those at hand.
use Rattle.std.proofs.Common.{◌≡◌, ℕ, zero, suc, false, List, [], ◌∷◌, ◌++◌, map, Option, Some, None, refl, ap, ◌∙◌}
use Rattle.std.specs.Prelude.{slice_get}
use Rattle.std.specs.List.{zip}
use Rattle.cap_rules.specs.cap_goal_spec.cap_lin.Linear.{Linear, variable}
use Rattle.cap_rules.specs.cap_goal_spec.cap_farkas.declared.cert.Cert.{Cert}
use Rattle.cap_rules.specs.cap_goal_spec.cap_prog.declared.assertion.Slot.{Slot}
use Rattle.cap_rules.specs.cap_goal_spec.cap_prog.declared.assertion.Slot.TheVariants.{Is}
use Rattle.cap_rules.specs.cap_goal_spec.cap_prog.declared.assertion.Asked.{Asked}
use Rattle.cap_rules.specs.cap_goal_spec.cap_prog.declared.assertion.Asked.TheVariants.{Tok}
use Rattle.cap_rules.specs.cap_goal_spec.cap_prog.Program.{PlainItem, compare, choose, fact, atom, cell, Items, none, item, PlainAct, set, alloc, call, fork, branch, loop, check, give_back, Block, done, first, PlainProgram}
use Rattle.cap_rules.specs.cap_goal_spec.States.{PlainEnv, PlainState, Home, PlainTask, to_run, to_turn, to_give, to_take, to_make, to_close, to_shift, to_rest}
use Rattle.cap_rules.specs.cap_goal_spec.Choices.{PlainChoice, by_set, by_alloc, by_assert, by_if, by_loop, by_turn, by_call, by_fork, by_return, by_enter, by_act, by_pick, by_shift, by_settle, by_keep, by_give, by_fact, by_cases, by_cell, by_region, by_guard, by_convert, by_create, by_made}
use Rattle.cap_rules.specs.cap_goal_spec.Environments.{reading}
use Rattle.cap_rules.specs.Making.{is_empty, env_at}
use Rattle.cap_rules.specs.Closing.{Rival, rivals}
use Rattle.cap_machine.specs.declared.event.Event.{Event}
use Rattle.cap_machine.specs.declared.event.Event.TheVariants.{Alloc, Branch}
use Rattle.cap_owners_spec.specs.Traced.{Traced, traced, past_width, untold, ◌>>=◌, found, number_in, holds_by}
use Rattle.cap_machine_accounts.specs.Parts.{atom_guard}
use Rattle.cap_owners_spec.specs.Track.{Fill, tracked_at}
use Rattle.cap_owners_spec.specs.Filling.{with_more, names_in, all_met, atom_met, asked_element, Giving, Parting, parting, give_all}
use Rattle.cap_owners_spec.specs.Walks.{Taking, Walk, Descent, descends, on, bringing, state_at, asked_reading, firmed, act_child, taken_at, pass_cell, pass_region, pass_piece, pass_guard, pass_item, pass_shift, pass_made, pass_settle, Interpreting, pass_enter, mark_values, mark_value, result_for, pass_callee, pass_statement, pass_event, pass_turn, pass_parting, pass_give, pass_task, pass_tasks, stops_at, stops}

-- ---- one part after another

-- what is done to the end of a part is done to what it comes to
pub through :
    {A B C : Type 0} (m : Traced A) (f : A → Traced B) (g : B → Traced C) (h : A → Traced C) →
    ((x : A) → h x ≡ (f x >>= g)) → (m >>= h) ≡ ((m >>= f) >>= g)
through (traced x) f g h e = e x
through past_width f g h e = refl
through untold f g h e = refl

-- ---- steps that are to come

-- these come behind
abbrev pub more : Walk → List Event → Walk
more w es = record w { events = w.events ++ es }

abbrev pub later : List Event → Descent → Traced Descent
later es (descends i w) = traced (descends i (more w es))

module _ (es : List Event) where
  -- ---- at the head of what is taken

  cell-more :
      (s : PlainState) (env : PlainEnv) (j : ℕ) (x : Slot) (t : Taking) (w : Walk) →
      pass_cell s env j x t (more w es) ≡ (pass_cell s env j x t w >>= later es)
  cell-more s env j x t w =
      through (found (slice_get s.cells j)) _ (later es) _ (λ c.
      through (number_in w.values c.0) _ (later es) _ (λ a.
      through (number_in w.values c.1) _ (later es) _ (λ z. refl)))

  region-more :
      (s : PlainState) (env : PlainEnv) (j r : ℕ) (args : List Slot) (x : Slot) (t : Taking)
      (w : Walk) →
      pass_region s env j r args x t (more w es) ≡ (pass_region s env j r args x t w >>= later es)
  region-more s env j r args x t w =
      through (found (slice_get s.facts j)) _ (later es) _ (λ f.
      through (number_in w.values f.region) _ (later es) _ (λ n.
      through (number_in w.values f.state) _ (later es) _ (λ z.
      through
      (all_met w.values (map (reading env) (Is (variable r) ∷ (args ++ x ∷ [])))
      (f.region ∷ (f.args ++ f.state ∷ [])) t.fill) _ (later es) _ (λ m. refl))))

  piece-more :
      (p : PlainProgram) (s : PlainState) (env : PlainEnv) (j k i : ℕ) (asked : Asked) (t : Taking)
      (w : Walk) →
      pass_piece p s env j k i asked t (more w es) ≡ (pass_piece p s env j k i asked t w >>= later es)
  piece-more p s env j k i asked t w =
      through (found (slice_get s.guards j)) _ (later es) _ (λ q.
      through (number_in w.values q.region) _ (later es) _ (λ n.
      through (atom_met w.values t.fill.names q.form (asked_reading env asked)) _ (later es) _ (λ v.
      through (asked_element asked v) _ (later es) _ (λ y.
      through (with_more t.part n (atom_guard p k i y)) _ (later es) _ (λ part. refl)))))

  guard-more :
      (p : PlainProgram) (s : PlainState) (env : PlainEnv) (j way k i : ℕ) (asked : Asked)
      (t : Taking) (w : Walk) →
      pass_guard p s env j way k i asked t (more w es)
      ≡ (pass_guard p s env j way k i asked t w >>= later es)
  guard-more p s env j (suc (suc zero)) k i (Tok x) t w = refl
  guard-more p s env j way k i asked t w = piece-more p s env j k i asked t w

  item-more :
      (p : PlainProgram) (s : PlainState) (c : PlainChoice) (i : PlainItem) (rest : Items)
      (e left n : ℕ) (ts : List PlainTask) (t : Taking) (w : Walk) →
      pass_item p s c i rest e left n ts t (more w es)
      ≡ (pass_item p s c i rest e left n ts t w >>= later es)
  item-more p s (by_fact cs) (compare c) rest e left n ts t w = refl
  item-more p s by_cases (choose c a b) rest e left n ts t w =
      through (holds_by t.fill.names c) _ (later es) _ (λ b. refl)
  item-more p s (by_cell j cs) (cell place a x) rest e left n ts t w =
      cell-more s (env_at s e) j x t w
  item-more p s (by_region j cs) (fact place r k args x) rest e left n ts t w =
      region-more s (env_at s e) j r args x t w
  item-more p s (by_guard j way cs) (atom place r k i asked) rest e left n ts t w =
      guard-more p s (env_at s e) j way k i asked t w
  item-more p s (by_convert m side cs) (atom place r k i asked) rest e left n ts t w = refl
  item-more p s (by_create c) (fact place r k args x) rest e left n ts t w = refl
  item-more p s c i rest e left n ts t w = refl

  -- ---- regions

  shift-more :
      (p : PlainProgram) (s : PlainState) (o c e : ℕ) (t : Taking) (w : Walk) →
      pass_shift p s o c e t (more w es) ≡ (pass_shift p s o c e t w >>= later es)
  shift-more p s o c e t w =
      through (found (slice_get s.opened o)) _ (later es) _ (λ f.
      through (found (slice_get p.regions f.kind)) _ (later es) _ (λ k.
      through (found (slice_get k.cases c)) _ (later es) _ (λ x.
      through (number_in w.values f.region) _ (later es) _ (λ n.
      through (found (tracked_at w.regions n)) _ (later es) _ (λ r.
      through (names_in w.values (env_at s e)) _ (later es) _ (λ names.
      through (number_in names x.state) _ (later es) _ (λ z.
      through (firmed s.facts n z w.values) _ (later es) _ (λ vs. refl))))))))

  made-more :
      (p : PlainProgram) (s : PlainState) (k c e : ℕ) (u : Linear) (t : Taking) (w : Walk) →
      pass_made p s k c e u t (more w es) ≡ (pass_made p s k c e u t w >>= later es)
  made-more p s k c e u t w =
      through (found (slice_get p.regions k)) _ (later es) _ (λ y.
      through (found (slice_get y.cases c)) _ (later es) _ (λ x.
      through (number_in w.values u) _ (later es) _ (λ n.
      through (names_in w.values (env_at s e)) _ (later es) _ (λ names.
      through (number_in names x.state) _ (later es) _ (λ z. refl)))))

  settle-more :
      (s : PlainState) (j : ℕ) (w : Walk) →
      pass_settle s j (more w es) ≡ (pass_settle s j w >>= later es)
  settle-more s j w =
      through (found (slice_get s.facts j)) _ (later es) _ (λ f.
      through (number_in w.values f.region) _ (later es) _ (λ n.
      through (state_at w n) _ (later es) _ (λ z. refl)))

  enter-more :
      (enter : Interpreting) (p : PlainProgram) (s : PlainState) (i : ℕ) (w : Walk) →
      pass_enter enter p s i (more w es) ≡ (pass_enter enter p s i w >>= later es)
  enter-more enter p s i w =
      through (found (slice_get s.facts i)) _ (later es) _ (λ f.
      through (found (slice_get p.regions f.kind)) _ (later es) _ (λ k.
      through (number_in w.values f.region) _ (later es) _ (λ n.
      through (found (tracked_at w.regions n)) _ (later es) _ (λ r.
      through (enter w.regions r) _ (later es) _ (λ x. refl)))))

  -- ---- statements

  mark-same :
      (w : Walk) (m : Rival × Option Cert) → mark_value (more w es) m ≡ mark_value w m
  mark-same w (x, Some c) = refl
  mark-same w (x, None) = refl

  marks-same :
      (w : Walk) (ms : List (Rival × Option Cert)) → mark_values (more w es) ms ≡ mark_values w ms
  marks-same w [] = refl
  marks-same w (m ∷ ms) =
      ap (λ o. o >>= λ vs. mark_values (more w es) ms >>= λ us. traced (vs ++ us)) (mark-same w m)
      ∙ ap (λ o. mark_value w m >>= λ vs. o >>= λ us. traced (vs ++ us)) (marks-same w ms)

  callee-more :
      (s : PlainState) (x : Option ℕ) (w : Walk) →
      pass_callee s x (more w es) ≡ (pass_callee s x w >>= later es)
  callee-more s None w = refl
  callee-more s (Some x) w =
      through (result_for s (Some x) w) _ (later es) _ (λ v. refl)

  statement-more :
      (s : PlainState) (c : PlainChoice) (a : PlainAct) (event : Event) (w : Walk) →
      pass_statement s c a event (more w es) ≡ (pass_statement s c a event w >>= later es)
  statement-more s by_set (set x t) event w = refl
  statement-more s by_alloc (alloc x n) (Alloc base) w = refl
  statement-more s (by_assert cs) (check c) event w = refl
  statement-more s by_if (branch c a b) (Branch taken) w = refl
  statement-more s by_loop (loop c i a) event w = refl
  statement-more s by_call (call x n args) event w = callee-more s x w
  statement-more s by_fork (fork n args) event w = callee-more s None w
  statement-more s by_return (give_back t) event w = refl
  statement-more s (by_act j cs ms) a event w =
      ap (λ o. o >>= λ vs. on (act_child event) (bringing (more w es) vs))
      (marks-same w (zip (rivals s) ms))
      ∙ through (mark_values w (zip (rivals s) ms)) _ (later es) _ (λ vs. refl)
  statement-more s c a event w = refl

  event-more :
      (s : PlainState) (c : PlainChoice) (a : PlainAct) (evs : List Event) (w : Walk) →
      is_empty evs ≡ false →
      pass_event s c a (evs ++ es) (record w { events = evs ++ es })
      ≡ (pass_event s c a evs (record w { events = evs }) >>= later es)
  event-more s c a [] w h = absurd (cc)
  event-more s c a (x ∷ xs) w h = statement-more s c a x (record w { events = xs })

  turn-more :
      (evs : List Event) (w : Walk) → is_empty evs ≡ false →
      pass_turn (evs ++ es) (record w { events = evs ++ es })
      ≡ (pass_turn evs (record w { events = evs }) >>= later es)
  turn-more [] w h = absurd (cc)
  turn-more (Branch taken ∷ xs) w h = refl
  turn-more (x ∷ xs) w h = refl

  -- ---- what is given

  parting-more :
      (s : PlainState) (e n : ℕ) (ts : List PlainTask) (f : Fill) (g : Giving) (w : Walk)
      (o : Option Parting) →
      pass_parting s e n ts f g (more w es) o ≡ (pass_parting s e n ts f g w o >>= later es)
  parting-more s e n ts f g w None = refl
  parting-more s e n ts f g w (Some x) =
      through (holds_by f.names x.condition) _ (later es) _ (λ b. refl)

  give-more :
      (s : PlainState) (items : Items) (e n : ℕ) (ts : List PlainTask) (w : Walk) →
      pass_give s items e n ts (more w es) ≡ (pass_give s items e n ts w >>= later es)
  give-more s items e n ts w =
      through (found w.fill) _ (later es) _ (λ f.
      parting-more s e n ts f
      (give_all f.names items (record { env = env_at s e; new = []; wildcards = f.wildcards })) w
      (parting items))

  -- ---- a node

  run-more :
      (enter : Interpreting) (p : PlainProgram) (s : PlainState) (c : PlainChoice) (h : Home)
      (b : Block) (ts : List PlainTask) (w : Walk) → is_empty w.events ≡ false →
      pass_task enter p s c (to_run h b) ts (more w es)
      ≡ (pass_task enter p s c (to_run h b) ts w >>= later es)
  run-more enter p s (by_enter i cs) h b ts w o = enter-more enter p s i w
  run-more enter p s c h (first l a rest) ts w o = event-more s c a w.events w o
  run-more enter p s c h done ts w o = refl

  take-more :
      (enter : Interpreting) (p : PlainProgram) (s : PlainState) (c : PlainChoice) (i : PlainItem)
      (rest : Items) (e left n : ℕ) (ts : List PlainTask) (w : Walk) →
      pass_task enter p s c (to_take (item i rest) e left n) ts (more w es)
      ≡ (pass_task enter p s c (to_take (item i rest) e left n) ts w >>= later es)
  take-more enter p s by_give i rest e left n ts w =
      through (taken_at s e w) _ (later es) _ (λ t. item-more p s by_give i rest e left n ts t w)
  take-more enter p s c i rest e left n ts w =
      through (taken_at s e w) _ (later es) _ (λ t. item-more p s c i rest e left n ts t w)

  task-more :
      (enter : Interpreting) (p : PlainProgram) (s : PlainState) (c : PlainChoice) (t : PlainTask)
      (ts : List PlainTask) (w : Walk) → stops_at false t w ≡ false →
      pass_task enter p s c t ts (more w es) ≡ (pass_task enter p s c t ts w >>= later es)
  task-more enter p s c (to_run h b) ts w o = run-more enter p s c h b ts w o
  task-more enter p s by_turn (to_turn h b) ts w o = turn-more w.events w o
  task-more enter p s by_give (to_give items e n) ts w o = give-more s items e n ts w
  task-more enter p s c (to_take (item i rest) e left n) ts w o =
      take-more enter p s c i rest e left n ts w
  task-more enter p s by_give (to_take none e left n) ts w o = refl
  task-more enter p s (by_pick j c m) (to_close any n) ts w o = refl
  task-more enter p s (by_shift cs spans) (to_shift j c m e n) ts w o =
      through (found (slice_get w.taken 0)) _ (later es) _ (λ t. shift-more p s j c e t w)
  task-more enter p s (by_made cs) (to_make k c e u n) ts w o =
      through (found (slice_get w.taken 0)) _ (later es) _ (λ t. made-more p s k c e u t w)
  task-more enter p s (by_settle list cs) (to_rest j n) ts w o = settle-more s j w
  task-more enter p s (by_keep cs) (to_rest j n) ts w o = refl
  task-more enter p s c t ts w o = refl

  pub tasks-more :
      (enter : Interpreting) (p : PlainProgram) (s : PlainState) (c : PlainChoice)
      (ts : List PlainTask) (w : Walk) → stops false ts w ≡ false →
      pass_tasks enter p s c ts (more w es) ≡ (pass_tasks enter p s c ts w >>= later es)
  tasks-more enter p s c [] w o = refl
  tasks-more enter p s c (t ∷ ts) w o = task-more enter p s c t ts w o
