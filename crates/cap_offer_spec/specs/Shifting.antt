-- The spans that an offered `shift` names: for each indexed atom of the action the first piece, in
-- order, of which it is proved.
use Rattle.std.specs.Prelude.{ℕ, zero, suc, Bool, true, false, List, [], ◌∷◌, slice_get, option_map, Option, Some, None}
use Rattle.cap_rules.specs.cap_gsolve.declared.piece.Piece.{Piece}
use Rattle.cap_rules.specs.cap_prog.declared.assertion.Asked.{Asked}
use Rattle.cap_rules.specs.cap_prog.Program.{PlainCase, PlainAction, PlainRegionType, PlainProgram}
use Rattle.cap_rules.specs.cap_goal_spec.States.{PlainFact, PlainEnv, PlainState}
use Rattle.cap_rules.specs.cap_goal_spec.Choices.{PlainChoice, by_shift}
use Rattle.cap_farkas.specs.declared.cert.Cert.{Cert}
use Rattle.cap_rules.specs.Answers.{owed_lists, proofs_of}
use Rattle.cap_rules.specs.Making.{env_at}
use Rattle.cap_rules.specs.Closing.{indexed_of, match_spans}
use Rattle.cap_offer_spec.specs.Deciding.{Noted, done, ◌>>=◌, certified_by, succeeds}
use Rattle.cap_offer_spec.specs.Turning.{Turn, up_to_spans, but_spans, with_lists}

abbrev pub first_or : Bool → ℕ → Noted (Option ℕ) → Noted (Option ℕ)
first_or true j rest = done (Some j)
first_or false j rest = rest

-- the first piece, from number j on, of which the atom is proved
unfoldable pub first_span :
    PlainState → PlainFact → PlainEnv → ℕ × Asked → ℕ → List Piece → Noted (Option ℕ)
first_span s f env g j [] = done None
first_span s f env g j (q ∷ qs) = do
  b ← succeeds (match_spans s f env (g ∷ []) (j ∷ []))
  first_or b j (first_span s f env g (suc j) qs)

abbrev pub and_spans : Option ℕ → Noted (Option (List ℕ)) → Noted (Option (List ℕ))
and_spans None rest = done None
and_spans (Some j) rest = do
  js ← rest
  done (option_map (λ is. j ∷ is) js)

unfoldable pub spans_found :
    PlainState → PlainFact → PlainEnv → List (ℕ × Asked) → Noted (Option (List ℕ))
spans_found s f env [] = done (Some [])
spans_found s f env (g ∷ gs) = do
  o ← first_span s f env g 0 s.before
  and_spans o (spans_found s f env gs)

abbrev pub spans_at :
    PlainState → PlainFact → List (ℕ × Asked) → Option Turn → Option (List Cert) →
    Noted (Option (List ℕ))
spans_at s f gs None cs = done None
spans_at s f gs (Some t) None = done None
spans_at s f gs (Some t) (Some cs) = spans_found s f t.env gs

-- what is proved before the spans is decided first; without an indexed atom nothing is
abbrev pub spans_by :
    PlainState → ℕ → PlainFact → PlainCase → PlainEnv → PlainAction → List (ℕ × Asked) →
    Noted (Option (List ℕ))
spans_by s o f x env a [] = done (Some [])
spans_by s o f x env a (g ∷ gs) = do
  cs ← certified_by
      (with_lists (owed_lists (up_to_spans s f x env a).events)
      (proofs_of (but_spans s o f x env a)))
  spans_at s f (g ∷ gs) (up_to_spans s f x env a).value cs

abbrev pub spans_of :
    PlainState → ℕ → PlainFact → PlainEnv → Option PlainCase → Option PlainAction →
    Noted (Option (List ℕ))
spans_of s o f env (Some x) (Some a) = spans_by s o f x env a (indexed_of a)
spans_of s o f env x a = done (Some [])

-- move 0 has no spans
abbrev pub action_of : PlainRegionType → ℕ → Option PlainAction
action_of k zero = None
action_of k (suc i) = slice_get k.actions i

abbrev pub spans_in :
    PlainState → ℕ → ℕ → ℕ → ℕ → PlainFact → Option PlainRegionType → Noted (Option (List ℕ))
spans_in s o c m e f None = done None
spans_in s o c m e f (Some k) = spans_of s o f (env_at s e) (slice_get k.cases c) (action_of k m)

abbrev pub spans_for :
    PlainProgram → PlainState → ℕ → ℕ → ℕ → ℕ → Option PlainFact → Noted (Option (List ℕ))
spans_for p s o c m e None = done None
spans_for p s o c m e (Some f) = spans_in s o c m e f (slice_get p.regions f.kind)

abbrev pub shift_with : Option (List ℕ) → List PlainChoice
shift_with None = []
shift_with (Some js) = by_shift [] js ∷ []
