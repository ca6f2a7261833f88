use Rattle.std.proofs.Common.{ℕ, List}
use Rattle.fa_tag.specs.HeaderGrammar.{header_bytes}
use Rattle.fa_mount_headers.specs.FirstHeader.{first_header, format_number}
use Rattle.fa_mount_headers.proofs.NewImages.{Formats}
use Rattle.fa_mount_headers.proofs.formatting.format_all.Given as goal

abbrev pub invariant-loop-image : goal.invariant-loop-image
invariant-loop-image g l =
    let header : ℕ → List ℕ = λ die. header_bytes (format_number l.format) (first_header l.geometry l.array die) in
    Formats g.I.Image.view g.I.Image.honest header 0 l.fn.images l.images l.image
