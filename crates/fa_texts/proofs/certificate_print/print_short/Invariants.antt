use Rattle.std.proofs.Common.{◌≡◌, ◌++◌, take, map, codes, All, string_bytes}
use Rattle.std.specs.Fmt.{decimal}
use Rattle.fa_texts.specs.Text.{IsWord}
use Rattle.fa_texts.proofs.Printed.{spaced}
use Rattle.fa_texts.proofs.certificate_print.print_short.Given as goal

abbrev pub invariant-loop-page : goal.invariant-loop-page
invariant-loop-page g l =
    (string_bytes l.out ≡ string_bytes l.fn.out ++ (codes "short" ++ spaced (map (λ p. decimal p.0) (take l.page-index l.pages))))
    × All (λ p. IsWord (decimal p.0)) (take l.page-index l.pages)
