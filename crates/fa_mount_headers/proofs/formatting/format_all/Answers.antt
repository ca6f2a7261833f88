use Rattle.std.proofs.Common.{◌≡◌, ℕ, List, get_or, ap, subst, ◌∙◌, arith}
use Rattle.fa_tag.specs.HeaderGrammar.{header_bytes}
use Rattle.fa_mount_headers.specs.FirstHeader.{first_header, format_number}
use Rattle.fa_mount_headers.specs.Formatted.{formatted, IsStopped}
use Rattle.fa_mount_headers.proofs.NewImages.{formats_next, formats_stop}
use Rattle.fa_mount_headers.proofs.formatting.format_all.Goals as goal

pub loop-image-preserved : goal.loop-image-preserved
loop-image-preserved g c =
    let view = g.I.Image.view in
    let format = format_number c.args.format in
    let header : ℕ → List ℕ = λ die. header_bytes format (first_header c.args.geometry c.args.array die) in
    let images = c.loop-image.images in
    let index = c.loop-image.image in
    let x = c.index-images-image.result in
    let is : c.sealed-bytes.result ≡ header index = c.sealed-bytes.ensures ∙ ap (header_bytes format) c.first_header-header.ensures.header in
    let new = c.in_default.ensures.formatted ∙ ap (λ (bytes : List ℕ). formatted bytes (view (get_or images index x))) is in
    formats_next view g.I.Image.honest header index c.args.images.now images x c.format_one.new.image c.loop-image.invariant (omega arith)
    (new, c.in_default.ensures.honest)

pub returns-in-Err : goal.returns-in-Err
returns-in-Err g c =
    let view = g.I.Image.view in
    let format = format_number c.args.format in
    let header : ℕ → List ℕ = λ die. header_bytes format (first_header c.args.geometry c.args.array die) in
    let images = c.loop-image.images in
    let index = c.loop-image.image in
    let x = c.index-images-image.result in
    let y = c.format_one.new.image in
    let is : c.sealed-bytes.result ≡ header index = c.sealed-bytes.ensures ∙ ap (header_bytes format) c.first_header-header.ensures.header in
    let fault = c.in-Err.fault in
    let stopped = subst (λ (bytes : List ℕ). IsStopped bytes fault (view (get_or images index x)) (view y)) is c.in-Err.ensures.formatted in
    formats_stop view g.I.Image.honest header (header index) fault index c.args.images.now images x y 0 c.loop-image.invariant (omega arith)
    stopped c.in-Err.ensures.honest
