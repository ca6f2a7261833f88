use Rattle.std.proofs.Common.{string_bytes}
use Rattle.std.proofs.lemmas.Result.{IfOk-weaker}
use Rattle.fa_prog_images.proofs.Told.{document_told, lines_told, mounting_told, opening_told, synced_if}
use Rattle.fa_prog_images.proofs.look.text_of.Goals as goal

pub returns-in-Err-clause-refused : goal.returns-in-Err-clause-refused
returns-in-Err-clause-refused g c =
    opening_told (λ image. image) c.args.settings.now c.args.look.terms c.in-Err.refused c.not_told.result c.not_told.ensures c.in-Err.ensures.refused

pub returns-in-Err-mounted_of-clause-refused : goal.returns-in-Err-mounted_of-clause-refused
returns-in-Err-mounted_of-clause-refused g c =
    let opened = synced_if (λ watched. watched.image) c.args.settings.now c.args.look.terms c.is_whole.result c.is_whole.ensures
    c.in-Ok.opened.places.items c.in-Ok.opened.images.items c.in-Ok.ensures.opened in
    let why = c.in-Err-mounted_of.ensures.refused in
    mounting_told (λ watched. watched.image) c.args.settings.now c.args.look.terms c.in-Ok.opened.places.items c.in-Ok.opened.images.items
    c.as_mut_slice-images.result.now c.mounted_of.new.images c.as_mut_slice-images.ensures.value opened why.0 c.in-Err-mounted_of.refused why.1 why.2

pub returns-then-look-clause-text : goal.returns-then-look-clause-text
returns-then-look-clause-text g c =
    let opened = synced_if (λ watched. watched.image) c.args.settings.now c.args.look.terms c.is_whole.result c.is_whole.ensures
    c.in-Ok.opened.places.items c.in-Ok.opened.images.items c.in-Ok.ensures.opened in
    IfOk-weaker c.json_of.result _ _ (λ text document. document_told (λ watched. watched.image) c.args.settings.now c.args.look.terms
    c.in-Ok.opened.places.items c.in-Ok.opened.images.items c.as_mut_slice-images.result.now c.mounted_of.new.images
    c.as_mut_slice-images.ensures.value opened c.in-Ok-mounted_of.array.founds.items c.in-Ok-mounted_of.array.mounted c.in-Ok-mounted_of.ensures.mounted c.args.look.asked
    c.args.look.json (string_bytes text) c.if-look.true c.deref-then-look.result.now c.deref-then-look.ensures.value c.deref-then-look-2.result.now c.deref-then-look-2.ensures.value document) c.json_of.ensures.document

pub returns-clause-text : goal.returns-clause-text
returns-clause-text g c =
    let opened = synced_if (λ watched. watched.image) c.args.settings.now c.args.look.terms c.is_whole.result c.is_whole.ensures
    c.in-Ok.opened.places.items c.in-Ok.opened.images.items c.in-Ok.ensures.opened in
    IfOk-weaker c.lines_of.result _ _ (λ text lines. lines_told (λ watched. watched.image) c.args.settings.now c.args.look.terms
    c.in-Ok.opened.places.items c.in-Ok.opened.images.items c.as_mut_slice-images.result.now c.mounted_of.new.images
    c.as_mut_slice-images.ensures.value opened c.in-Ok-mounted_of.array.founds.items c.in-Ok-mounted_of.array.mounted c.in-Ok-mounted_of.ensures.mounted c.args.look.asked
    c.args.look.json (string_bytes text) c.if-look.false lines) c.lines_of.ensures.lines
