use Rattle.std.proofs.Common.{◌≡◌, ◌-◌, All, length}
use Rattle.flasharr_lab_calls.proofs.digests.parts.Given as goal

abbrev pub invariant-messages : goal.invariant-messages
invariant-messages l = All (λ part. length part.now ≡ l.fn.to - l.fn.from) l.parts.items
