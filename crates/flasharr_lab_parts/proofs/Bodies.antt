-- What stands behind the first statements of a body.
use Rattle.std.proofs.Common.{ℕ, zero, suc}
use mir.Syntax.{Body, skip, seq, assign, block, loop, cond, switch, exit, return, call, call_v, unreachable, lend_static}

abbrev behind : Body → Body
behind skip = skip
behind (seq x₀ x₁) = x₁
behind (assign x₀ x₁) = skip
behind (block x₀) = skip
behind (loop x₀) = skip
behind (cond x₀ x₁ x₂) = skip
behind (switch x₀ x₁) = skip
behind (exit x₀) = skip
behind return = skip
behind (call x₀ x₁ x₂) = skip
behind (call_v x₀ x₁ x₂ x₃) = skip
behind unreachable = skip
behind (lend_static x₀ x₁ x₂) = skip

-- behind the first `n`
abbrev pub after : ℕ → Body → Body
after zero b = b
after (suc n) b = after n (behind b)
