use Rattle.std.proofs.Common.{ℕ, map, string_bytes, sym, arith, subst}
use Rattle.std.proofs.lemmas.List.{map_more, take_all}
use Rattle.fa_batch_terms.specs.declared.place.Place.{Place}
use Rattle.fa_texts.specs.CertificateText.{place_line}
use Rattle.fa_texts.specs.Text.{PrintsLines}
use Rattle.fa_texts.proofs.Printed.{prints_behind, prints_none}
use Rattle.fa_texts.proofs.certificate_print.print_places.Goals as goal

pub loop-place-init : goal.loop-place-init
loop-place-init g c = prints_none (string_bytes c.args.out.now)

pub loop-place-preserved : goal.loop-place-preserved
loop-place-preserved g c =
    let none : Place = record { page = record { 0 = 0 }; die = record { 0 = 0 }; round = record { 0 = 0 } } in
    let i : ℕ = c.loop-place.place-index in
    subst (λ v. PrintsLines (string_bytes c.args.out.now) (string_bytes c.print_place.new.out) v) (sym (map_more place_line c.args.places.now i none (omega arith)))
    (prints_behind c.loop-place.invariant c.in_ok-print_place.ensures)

pub returns : goal.returns
returns g c =
    subst (λ v. PrintsLines (string_bytes c.args.out.now) (string_bytes c.loop-place.out) (map place_line v)) (take_all c.loop-place.place-index c.args.places.now (omega arith)) c.loop-place.invariant
