-- Texts of guards and starts of small programs, by what the definitions compute.
use Rattle.std.specs.Prelude.{◌≡◌, ℕ, ◌-◌, ◌^◌, pos, List, [], ◌∷◌, codes, None}
use Rattle.std.specs.FinMap.{empty}
use Rattle.cap_rules.specs.cap_goal_spec.cap_lin.Linear.{Linear, number, variable}
use Rattle.cap_rules.specs.cap_goal_spec.cap_lin.declared.row.Sort.TheVariants.{Int}
use Rattle.cap_rules.specs.cap_goal_spec.cap_lin.declared.row.Op.TheVariants.{Ge as AtLeast}
use Rattle.cap_rules.specs.cap_goal_spec.cap_galg.Fractions.{fraction}
use Rattle.cap_rules.specs.cap_goal_spec.cap_galg.Elements.{Element, nothing, one, share, tok, src, indices, both, whole, right}
use Rattle.cap_rules.specs.cap_goal_spec.cap_galg.Algebras.{PlainAlgebra, unique, divisible, counting, indexed, product, sum}
use Rattle.cap_rules.specs.cap_goal_spec.cap_syntax.declared.place.Place.{Place}
use Rattle.cap_rules.specs.cap_goal_spec.cap_prog.Program.{Name, compare, Items, none, item, give_back, done, first, PlainProgram}
use Rattle.cap_machine_accounts.specs.Assertions.{a_number}
use Rattle.cap_owners_spec.specs.Traced.{traced, past_width, a_share}
use Rattle.cap_owners_spec.specs.Steps.{Proved}
use Rattle.cap_owners_spec.specs.Start.{first_track}
use Rattle.cap_owners_spec.specs.Texts.{guard_text, name_value_text}

abbrev pub nowhere : Place
nowhere = record { line = 1; column = 1 }

-- ---- guards

-- of one region type, whose guards are these
abbrev pub guarded : PlainAlgebra → List Name → PlainProgram
guarded a names = record {
  regions = record {
    name = codes "R";
    params = 1;
    algebra = a;
    atoms = names;
    cases = [];
    actions = [];
    place = nowhere;
  } ∷ [];
  functions = [];
  main = 0;
}

abbrev pub IsGuardText : PlainAlgebra → List Name → Element → List ℕ → Type 0
IsGuardText a names x text =
    guard_text (guarded a names) (pos 1, record { kind = 0; element = x }) ≡ text

-- B * %C, |T|, [K] * U, and A + %B
abbrev pub pair_names : List Name
pair_names = codes "B" ∷ (codes "C" ∷ [])

abbrev pub sum_names : List Name
sum_names = codes "A" ∷ (codes "B" ∷ [])

abbrev pub span_names : List Name
span_names = codes "K" ∷ (codes "U" ∷ [])

pub record GuardExamples : Type 0 where
  pub amount : IsGuardText (product unique divisible) pair_names
      (both one (share (fraction 1 2))) (codes "1@B * C[1/2]")
  pub part : IsGuardText (product unique divisible) pair_names (both one nothing) (codes "1@B")
  pub source : IsGuardText counting (codes "T" ∷ []) (src 2) (codes "1@src T[2]")
  pub tokens : IsGuardText counting (codes "T" ∷ []) (tok 3) (codes "1@tok T[3]")
  pub spans : IsGuardText (product indexed unique) span_names
      (both (indices (0 ∷ (2 ∷ (3 ∷ [])))) one) (codes "1@K{0..2} * K{3..} * U")
  pub all : IsGuardText (sum unique divisible) sum_names whole (codes "1@A")
  pub side : IsGuardText (sum unique divisible) sum_names (right (share (fraction 1 4)))
      (codes "1@B[1/4]")
  pub share_of_name : name_value_text (a_share (pos (2 ^ 61))) ≡ codes "1/4"
  pub number_of_name : name_value_text (a_number (pos 7)) ≡ codes "7"

-- ---- starts

-- function main(n) requires ..; { }
abbrev pub asking : Items → Proved
asking requires = record {
  program = record {
    regions = [];
    functions = record {
      name = codes "main";
      params = 1;
      locals = 0;
      fixed = [];
      variables = codes "n" ∷ [];
      requires = requires;
      ensures = record { names = []; items = none };
      body = first (record { number = 1; place = nowhere }) (give_back (number (pos 0))) done;
      place = nowhere;
    } ∷ [];
    main = 0;
  };
  trees = None ∷ (None ∷ (None ∷ []));
}

-- the term is at least 1
abbrev pub at_least_one : Linear → Items
at_least_one t =
    item
    (compare (record {
      left = t;
      op = AtLeast;
      right = number (pos 1);
      sort = Int;
      place = nowhere;
    }))
    none

abbrev pub twice : Linear
twice = record { constant = pos 0; parts = (0, pos 2) ∷ [] }

pub record StartExamples : Type 0 where
  pub unmet :
      first_track (asking (at_least_one (variable 0))) (pos 0 ∷ []) empty ≡ traced None
  pub wide :
      first_track (asking (at_least_one twice)) (pos (2 ^ 127 - 1) ∷ []) empty ≡ past_width
