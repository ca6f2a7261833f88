use Rattle.std.proofs.Common.{arith, refl, sym, ◌<◌, ◌≡◌, ◌∙◌, length, Ok, Err, List, Result, ℕ, subst, get_or}
use Rattle.std.proofs.lemmas.Bool.{eqb-true}
use Rattle.std.proofs.lemmas.Option.{same_Some, slice_get-get_or}
use Rattle.std.specs.Int.{bit_at}
use Rattle.std.specs.Result.{IfErr, OnOk}
use Rattle.fa_image.specs.Image.{ImageCall, ImageAnswer, WritingHeader, Done, Refused}
use Rattle.fa_image.specs.declared.fault.ImageFault.{ImageFault}
use Rattle.fa_mount.proofs.Bits.{in_below}
use Rattle.fa_mount.specs.Phases.{answer_of}
use Rattle.fa_mount.proofs.telling.tell_one.Goals as goal

pub overflow_cast-header : goal.overflow_cast-header
overflow_cast-header g c =
    let told = c.args.told.now in
    let low = in_below told.mask told.geometry.dies c.args.die c.requires.told.inside c.requires.die in
    let most = told.geometry.within.dies_fit.most in
    omega (arith, low, most)

pub seal_header-requires : goal.seal_header-requires
seal_header-requires g c =
    let told = c.args.told.now in record {
      die = in_below told.mask told.geometry.dies c.args.die c.requires.told.inside c.requires.die;
      live_dies = c.requires.told.inside;
      role = (c.requires.told.first, c.requires.told.most, eqb-true (bit_at told.mask c.args.die) 1 c.requires.die);
      array = c.requires.told.number;
    }

told_as : {I : Type 0} (made : I → ImageCall → ImageAnswer → I → Type 0) (x y : I) (bytes spelled : List ℕ) (r : Result (Unit {0}) ImageFault)
    → OnOk r (made x (WritingHeader bytes) Done y) → IfErr r (λ fault. made x (WritingHeader bytes) (Refused fault) y) → bytes ≡ spelled
    → made x (WritingHeader spelled) (answer_of r) y
told_as made x y bytes spelled (Ok done) ok err same = subst (λ b. made x (WritingHeader b) Done y) same ok
told_as made x y bytes spelled (Err fault) ok err same = subst (λ b. made x (WritingHeader b) (Refused fault) y) same err

pub returns : goal.returns
returns g c =
    let images = c.args.images.now in
    let index = c.unwrap-index.result in
    let x = c.index-images-index.result in
    let place = sym c.place_at.ensures ∙ c.unwrap-index.ensures in
    let low : index < length images = omega (arith, same_Some c.requires.place.0 index (sym c.requires.place.1 ∙ place), c.requires.place.2) in
    record {
      index = index;
      place = place;
      image = get_or images index x;
      at = slice_get-get_or images index x low;
      result = c.write_header.new.self;
      link = told_as g.I.Image.made _ _ _ _ c.write_header.result c.write_header.ensures.done c.write_header.ensures.refused c.seal_header.ensures;
      rest = refl;
    }
