-- A part in brackets, where one more may open.
use Rattle.std.proofs.Common.{◌≡◌, ℕ, zero, suc, ◌-◌, ◌<◌, List, ap, arith}
use Rattle.cap_syntax.specs.declared.token.Token.{Token}
use Rattle.cap_parse_laws.specs.Grammar.{read_bracketed, bracketed_at, read_term, read_side, side_at, read_assertion, read_block_with, block_at, read_statement, read_grouped, grouped_at, read_algebra}

one_fewer : (room : ℕ) → room ≡ suc room - 1
one_fewer room = omega arith

pub bracketed-inside : (room : ℕ) (ts : List Token) → 0 < room → bracketed_at room ts ≡ read_bracketed (read_term (room - 1)) ts
bracketed-inside zero ts h = absurd (omega (arith, h))
bracketed-inside (suc room) ts h = ap (λ r. read_bracketed (read_term r) ts) (one_fewer room)

pub side-inside : (room : ℕ) (ts : List Token) → 0 < room → side_at room ts ≡ read_side (read_assertion (room - 1)) ts
side-inside zero ts h = absurd (omega (arith, h))
side-inside (suc room) ts h = ap (λ r. read_side (read_assertion r) ts) (one_fewer room)

pub block-inside : (room : ℕ) (ts : List Token) → 0 < room
    → block_at room ts ≡ read_block_with (read_statement (block_at (room - 1)) (room - 1)) ts
block-inside zero ts h = absurd (omega (arith, h))
block-inside (suc room) ts h = ap (λ r. read_block_with (read_statement (block_at r) r) ts) (one_fewer room)

pub grouped-inside : (room : ℕ) (ts : List Token) → 0 < room → grouped_at room ts ≡ read_grouped (read_algebra (room - 1)) ts
grouped-inside zero ts h = absurd (omega (arith, h))
grouped-inside (suc room) ts h = ap (λ r. read_grouped (read_algebra r) ts) (one_fewer room)
