use Rattle.std.proofs.Common.{map, take, string_bytes}
use Rattle.fa_texts.specs.CertificateText.{place_line}
use Rattle.fa_texts.specs.Text.{PrintsLines}
use Rattle.fa_texts.proofs.certificate_print.print_places.Given as goal

abbrev pub invariant-loop-place : goal.invariant-loop-place
invariant-loop-place g l = PrintsLines (string_bytes l.fn.out) (string_bytes l.out) (map place_line (take l.place-index l.places))
