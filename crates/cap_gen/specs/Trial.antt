-- The text of a trial: copies of a lock with its client, each with its number behind its names, and
-- a main that calls each client.
use Rattle.std.specs.Prelude.{ℕ, zero, suc, List, [], ◌∷◌, ◌++◌, flat_map, codes}
use Rattle.std.specs.Fmt.{decimal}

-- some of a text that is the same for all numbers but for where the number stands
pub data PlainFragment : Type 0 where
  fixed : List ℕ → PlainFragment
  its_number : PlainFragment

-- with these digits as the number
abbrev pub fragment_text : List ℕ → PlainFragment → List ℕ
fragment_text digits (fixed bytes) = bytes
fragment_text digits its_number = digits

abbrev pub filled : List ℕ → List PlainFragment → List ℕ
filled digits fragments = flat_map (fragment_text digits) fragments

-- the fragments for each number from 1 to this one, in order
abbrev pub numbered : List PlainFragment → ℕ → List ℕ
numbered fragments zero = []
numbered fragments (suc n) = numbered fragments n ++ filled (decimal (suc n)) fragments

-- a spin lock and its client, line by line
unfoldable pub lock_lines : List PlainFragment
lock_lines =
    fixed (codes "region SLock") ∷ its_number ∷ fixed (codes "(r, x) {\n")
    ∷ fixed (codes "  guards %LOCK * UNLOCK;\n")
    ∷ fixed (codes "  interpretation {\n")
    ∷ fixed (codes "    0 : x |-> 0 &*& r@UNLOCK;\n")
    ∷ fixed (codes "    1 : x |-> 1;\n")
    ∷ fixed (codes "  }\n")
    ∷ fixed (codes "  actions {\n")
    ∷ fixed (codes "    LOCK[_] : 0 ~> 1;\n")
    ∷ fixed (codes "    UNLOCK : 1 ~> 0;\n")
    ∷ fixed (codes "  }\n")
    ∷ fixed (codes "}\n")
    ∷ fixed (codes "function makeLock") ∷ its_number ∷ fixed (codes "()\n")
    ∷ fixed (codes "  ensures SLock") ∷ its_number ∷ fixed (codes "(r, ret; 0) &*& r@LOCK[1p];\n")
    ∷ fixed (codes "{ v := alloc(1); [v] := 0; return v; }\n")
    ∷ fixed (codes "function lock") ∷ its_number ∷ fixed (codes "(x)\n")
    ∷ fixed (codes "  requires SLock") ∷ its_number ∷ fixed (codes "(r, x; _) &*& r@LOCK[p];\n")
    ∷ fixed (codes "  ensures SLock") ∷ its_number
    ∷ fixed (codes "(r, x; 1) &*& r@(LOCK[p] * UNLOCK);\n")
    ∷ fixed (codes "{\n")
    ∷ fixed (codes "  b := CAS(x, 0, 1);\n")
    ∷ fixed (codes "  if (b = 0) { lock") ∷ its_number ∷ fixed (codes "(x); }\n")
    ∷ fixed (codes "}\n")
    ∷ fixed (codes "function unlock") ∷ its_number ∷ fixed (codes "(x)\n")
    ∷ fixed (codes "  requires SLock") ∷ its_number ∷ fixed (codes "(r, x; 1) &*& r@UNLOCK;\n")
    ∷ fixed (codes "  ensures SLock") ∷ its_number ∷ fixed (codes "(r, x; _);\n")
    ∷ fixed (codes "{ [x] := 0; }\n")
    ∷ fixed (codes "function worker") ∷ its_number ∷ fixed (codes "(x)\n")
    ∷ fixed (codes "  requires SLock") ∷ its_number ∷ fixed (codes "(r, x; _) &*& r@LOCK[p];\n")
    ∷ fixed (codes "{ lock") ∷ its_number ∷ fixed (codes "(x); unlock") ∷ its_number
    ∷ fixed (codes "(x); }\n")
    ∷ fixed (codes "function client") ∷ its_number ∷ fixed (codes "() {\n")
    ∷ fixed (codes "  x := makeLock") ∷ its_number ∷ fixed (codes "();\n")
    ∷ fixed (codes "  fork worker") ∷ its_number ∷ fixed (codes "(x);\n")
    ∷ fixed (codes "  lock") ∷ its_number ∷ fixed (codes "(x);\n")
    ∷ fixed (codes "  unlock") ∷ its_number ∷ fixed (codes "(x);\n")
    ∷ fixed (codes "}\n")
    ∷ []

-- the line of main that calls the client
unfoldable pub call_line : List PlainFragment
call_line = fixed (codes "  client") ∷ its_number ∷ fixed (codes "();\n") ∷ []

-- so many locks with their clients, and a main that calls each client
abbrev pub trial_text : ℕ → List ℕ
trial_text n =
    numbered lock_lines n ++ codes "function main() {\n" ++ numbered call_line n ++ codes "}\n"
