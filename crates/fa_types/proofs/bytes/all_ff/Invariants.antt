use Rattle.std.proofs.Common.{take, ◌==◌, ◌≡◌}
use Rattle.std.specs.List.{list_all}
use Rattle.fa_types.proofs.bytes.all_ff.Given as goal

abbrev pub invariant-loop-byte : goal.invariant-loop-byte
invariant-loop-byte l = l.all ≡ list_all (λ byte. byte == 0xff) (take l.byte-index l.part)
