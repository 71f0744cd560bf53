-- What the names of assertions stand for.
use Rattle.std.specs.Prelude.{ℕ, ◌+◌, Bool, false, ◌==◌, ◌||◌, if◌then◌else◌, is_some, List, ◌∷◌, ◌++◌, map, length, replicate, slice_get, slice_set, unwrap_or, pos, Option, Some, None}
use Rattle.std.specs.List.{list_all, list_any}
use Rattle.cap_fm_spec.specs.cap_lin.Linear.{Linear, number}
use Rattle.cap_fm_spec.specs.cap_lin.Steps.{Step}
use Rattle.cap_prog.specs.declared.assertion.Slot.{Slot}
use Rattle.cap_prog.specs.declared.assertion.Slot.TheVariants.{Any, Is}
use Rattle.cap_prog.specs.declared.assertion.Asked.{Asked}
use Rattle.cap_prog.specs.declared.assertion.Asked.TheVariants.{One, Share, Src, Tok, At, From}
use Rattle.cap_prog.specs.Program.{PlainItem, compare, choose, fact, atom, cell, Items, none, item, PlainFunction}
use Rattle.cap_goal_spec.specs.Terms.{term_over, term_over_steps, lone_variable, variables_from}
use Rattle.cap_goal_spec.specs.States.{PlainFact, PlainEnv, Home}

abbrev pub zero_value : Linear
zero_value = number (pos 0)

abbrev pub one_value : Linear
one_value = number (pos 1)

-- the term of a name, if it is bound
abbrev pub term_of : PlainEnv → ℕ → Option Linear
term_of env x = unwrap_or (slice_get env x) None

-- each name of the term is bound
abbrev pub is_determined : PlainEnv → Linear → Bool
is_determined env t = list_all (λ p. is_some (term_of env p.0)) t.parts

abbrev pub bound_term : PlainEnv → ℕ → Linear
bound_term env x = unwrap_or (term_of env x) zero_value

-- what a determined term stands for
abbrev pub term_in : PlainEnv → Linear → Linear
term_in env t = term_over (bound_term env) t

abbrev pub term_in_steps : PlainEnv → Linear → List Step
term_in_steps env t = term_over_steps (bound_term env) t

abbrev pub with_name : PlainEnv → ℕ → Linear → PlainEnv
with_name env x t = slice_set env x (Some t)

-- a slot is a term that is determined, or open, as `_` or as one unbound name, or it is neither
pub data Reading : Type 0 where
  settled : Linear → Reading
  open_to : Option ℕ → Reading
  stuck : Reading

abbrev pub read_name : Option ℕ → Reading
read_name None = stuck
read_name (Some x) = open_to (Some x)

abbrev pub reading : PlainEnv → Slot → Reading
reading env Any = open_to None
reading env (Is t) = if is_determined env t then settled t else read_name (lone_variable t)

-- an open slot's name is bound; `_` has none
abbrev pub bind_open : PlainEnv → Option ℕ → Linear → PlainEnv
bind_open env None t = env
bind_open env (Some x) t = with_name env x t

-- the slot of what is asked of a guard
abbrev pub asked_slot : Asked → Slot
asked_slot One = Any
asked_slot (Share s) = s
asked_slot (Src s) = s
asked_slot (Tok s) = s
asked_slot (At s) = s
asked_slot (From s) = s

abbrev pub is_name : ℕ → Option ℕ → Bool
is_name x None = false
is_name x (Some y) = y == x

-- a name has a binding position where it is a slot alone, or names the region of a fact
abbrev pub is_slot : ℕ → Slot → Bool
is_slot x Any = false
is_slot x (Is t) = is_name x (lone_variable t)

abbrev pub binds : ℕ → PlainItem → Bool
binds x (compare c) = false
binds x (choose c a b) = false
binds x (fact place r k args s) = (r == x) || (list_any (is_slot x) args || is_slot x s)
binds x (atom place r k i asked) = is_slot x (asked_slot asked)
binds x (cell place a s) = is_slot x s

-- some item outside the sides of conditionals binds the name
abbrev pub is_bound_by : ℕ → Items → Bool
is_bound_by x none = false
is_bound_by x (item i more) = binds x i || is_bound_by x more

abbrev pub bound : List Linear → PlainEnv
bound ts = map Some ts

abbrev pub unbound : ℕ → PlainEnv
unbound n = replicate n None

-- of a call: the arguments and the result; the locals, the fixed names and the new names are
-- unbound
abbrev pub callee_env : PlainFunction → List Linear → Linear → PlainEnv
callee_env f args result =
    bound args ++
    (unbound (f.locals + length f.fixed) ++ Some result ∷ unbound (length f.ensures.names))

-- of a function at home: parameters, what is bound of the locals, the variables of the fixed names,
-- perhaps the result; so many new names are unbound
abbrev pub own_env : PlainFunction → Home → List Linear → PlainEnv → Option Linear → ℕ → PlainEnv
own_env f home params locals result new =
    bound params ++
    (locals ++ (bound (variables_from home.fixed (length f.fixed)) ++ result ∷ unbound new))

-- of a region type: the region and its arguments, and then the names of a case or an action
abbrev pub region_env : PlainFact → PlainEnv → PlainEnv
region_env f names = Some f.region ∷ (bound f.args ++ names)
