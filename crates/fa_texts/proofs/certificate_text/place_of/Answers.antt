use Rattle.std.proofs.Common.{◌≡◌, ◌≢◌, ◌∷◌, codes, sym, subst}
use Rattle.std.specs.Option.{MatchOption}
use Rattle.fa_batch_terms.specs.declared.place.Place.{Place}
use Rattle.fa_texts.specs.CertificateText.{HasPlaceLine, place_line}
use Rattle.fa_texts.specs.Text.{words_left}
use Rattle.fa_batch_terms.proofs.Parts.{rest_same}
use Rattle.fa_texts.proofs.certificate_text.place_of.Goals as goal

pub returns-in_err-page : goal.returns-in_err-page
returns-in_err-page c =
    subst (λ r. MatchOption r ((x : Place) → HasPlaceLine x → codes "place" ∷ words_left c.args.rest ≢ place_line x)
    (λ x. (codes "place" ∷ words_left c.args.rest ≡ place_line x) × HasPlaceLine x))
    (sym c.from_residual.ensures) (λ x fine is. c.in_err-page.ensures (x.page.0, x.die.0, x.round.0) (fine.page, fine.die, fine.round) (rest_same is))
