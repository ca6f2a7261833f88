use Rattle.std.proofs.Common.{[], ◌∷◌, codes, string_bytes, refl, subst}
use Rattle.std.specs.Fmt.{decimal}
use Rattle.fa_texts.specs.Text.{PrintsLines}
use Rattle.fa_texts.proofs.Printed.{is_word}
use Rattle.fa_texts.proofs.batch_print.print_run.Goals as goal

pub print_three-requires : goal.print_three-requires
print_three-requires g c = is_word (codes "closed") refl

pub returns : goal.returns
returns g c =
    let run = c.args.run.now in
    subst (λ die. PrintsLines (string_bytes c.args.out.now) (string_bytes c.print_three.new.out)
    ((codes "closed" ∷ decimal die ∷ decimal run.first.0 ∷ decimal run.last.0 ∷ []) ∷ [])) c.into-die.ensures c.in_ok-print_three.ensures
