use Rattle.std.proofs.Common.{◌≡◌, ◌∙◌, ◌*◌, ◌<◌, ℕ, List, Option, Some, length, set, get_or, sym, subst, ap}
use Rattle.std.proofs.lemmas.Option.{same_Some, slice_get-get_or}
use Rattle.fa_types.specs.declared.geometry.Geometry.{Geometry}
use Rattle.fa_image.specs.Image.{ImageState, slot_bytes}
use Rattle.fa_mount_scan.specs.ContentReading.{HasOutcome, HasImageOf, ReadsDie, image_read}
use Rattle.fa_mount_headers.specs.Found.{IsOnlyRead}
use Rattle.fa_mount_scan.proofs.ByDie.{put_at, put_other}
use Rattle.fa_mount_scan.proofs.OnlyReading.{die_only_read, one_read, same_read}
use Rattle.fa_mount_scan.proofs.slots.dies.read_standing.Goals as goal

-- the image at an index is made for the geometry
made_for : {I : Type 0} (view : I → ImageState) (geometry : Geometry) (images : List I) (index : ℕ) (d : I) → index < length images
    → HasImageOf view geometry images index → (view (get_or images index d)).geometry ≡ geometry
made_for view geometry images index d within has =
    ap (λ x. (view x).geometry) (same_Some (get_or images index d) has.0 (sym (slice_get-get_or images index d within) ∙ has.1)) ∙ has.2

pub read_image-requires : goal.read_image-requires
read_image-requires g c =
    let which : image_read c.args.standing ≡ Some c.in-Some.index = sym c.index_read.ensures ∙ c.in-Some.is in
    c.requires.buffer
    ∙ ap (λ (shape : Geometry). 8 * slot_bytes shape) (sym (made_for g.I.Image.view c.args.geometry c.args.images.now c.in-Some.index c.index-images-index.result
    (c.requires.within c.in-Some.index which) (c.requires.image c.in-Some.index which)))

pub returns-in_err-outcome-clause-only_read : goal.returns-in_err-outcome-clause-only_read
returns-in_err-outcome-clause-only_read g c =
    let which : image_read c.args.standing ≡ Some c.in-Some.index = sym c.index_read.ensures ∙ c.in-Some.is in
    let old : g.row.I.Denot = get_or c.args.images.now c.in-Some.index c.index-images-index.result in
    one_read g.I.Image.view c.args.images.now c.in-Some.index old c.read_image.new.image
    (slice_get-get_or c.args.images.now c.in-Some.index c.index-images-index.result (c.requires.within c.in-Some.index which))
    (subst (λ (x : g.row.I.Denot). IsOnlyRead (g.I.Image.view old) (g.I.Image.view x)) (sym c.in_err-outcome.ensures.err) (same_read (g.I.Image.view old)))

pub returns-clause-outcome : goal.returns-clause-outcome
returns-clause-outcome g c =
    let which : image_read c.args.standing ≡ Some c.in-Some.index = sym c.index_read.ensures ∙ c.in-Some.is in
    let within : c.in-Some.index < length c.args.images.now = c.requires.within c.in-Some.index which in
    let old : g.row.I.Denot = get_or c.args.images.now c.in-Some.index c.index-images-index.result in
    let after : List g.row.I.Denot = set c.args.images.now c.in-Some.index c.read_image.new.image in
    let shape = made_for g.I.Image.view c.args.geometry c.args.images.now c.in-Some.index c.index-images-index.result within
    (c.requires.image c.in-Some.index which) in
    subst (λ (o : Option ℕ). HasOutcome g.I.Image.made c.args.geometry c.args.images.now after c.args.die.0 o (Some c.in_ok-outcome.outcome)) (sym which) (record {
      old = old;
      new = c.read_image.new.image;
      was = slice_get-get_or c.args.images.now c.in-Some.index c.index-images-index.result within;
      is = put_at c.args.images.now c.in-Some.index c.read_image.new.image within;
      reads = subst (λ (x : Geometry). ReadsDie g.I.Image.made x c.args.die.0 c.in_ok-outcome.outcome old c.read_image.new.image) shape
          c.in_ok-outcome.ensures.read;
    })

pub returns-clause-others : goal.returns-clause-others
returns-clause-others g c = λ i apart.
    let which : image_read c.args.standing ≡ Some c.in-Some.index = sym c.index_read.ensures ∙ c.in-Some.is in
    put_other c.args.images.now c.in-Some.index c.read_image.new.image i (λ same. apart (which ∙ ap Some (sym same)))

pub returns-clause-only_read : goal.returns-clause-only_read
returns-clause-only_read g c =
    let which : image_read c.args.standing ≡ Some c.in-Some.index = sym c.index_read.ensures ∙ c.in-Some.is in
    let old : g.row.I.Denot = get_or c.args.images.now c.in-Some.index c.index-images-index.result in
    one_read g.I.Image.view c.args.images.now c.in-Some.index old c.read_image.new.image
    (slice_get-get_or c.args.images.now c.in-Some.index c.index-images-index.result (c.requires.within c.in-Some.index which))
    (die_only_read g.I.Image.view g.I.Image.honest g.I.Image.made g.met.I.Image.meets (g.I.Image.view old).geometry c.args.die.0
    c.in_ok-outcome.outcome old c.read_image.new.image c.in_ok-outcome.ensures.read)
