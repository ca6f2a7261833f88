use Rattle.std.proofs.Common.{◌≡◌, ◌++◌, take, map, All, string_bytes}
use Rattle.std.specs.Fmt.{decimal}
use Rattle.fa_texts.specs.Text.{IsWord}
use Rattle.fa_texts.proofs.Printed.{page_head, spaced}
use Rattle.fa_texts.proofs.batch_print.print_page.Given as goal

abbrev pub invariant-loop-die : goal.invariant-loop-die
invariant-loop-die g l =
    (string_bytes l.out ≡ string_bytes l.fn.out ++ (page_head l.fn.page.0 ++ spaced (map (λ d. decimal d.0) (take l.die-index l.holders))))
    × All (λ d. IsWord (decimal d.0)) (take l.die-index l.holders)
