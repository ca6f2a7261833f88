use Rattle.std.proofs.Common.{[], ◌∷◌, codes, string_bytes, refl, subst}
use Rattle.std.specs.Fmt.{decimal}
use Rattle.fa_texts.specs.Text.{PrintsLines}
use Rattle.fa_texts.proofs.Printed.{is_word}
use Rattle.fa_texts.proofs.certificate_print.print_place.Goals as goal

pub print_three-requires : goal.print_three-requires
print_three-requires g c = is_word (codes "place") refl

pub returns : goal.returns
returns g c =
    let place = c.args.place.now in
    subst (λ die. PrintsLines (string_bytes c.args.out.now) (string_bytes c.print_three.new.out)
    ((codes "place" ∷ decimal place.page.0 ∷ decimal die ∷ decimal place.round.0 ∷ []) ∷ [])) c.into-die.ensures c.in_ok-print_three.ensures
