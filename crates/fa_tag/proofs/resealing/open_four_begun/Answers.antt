use Rattle.std.proofs.Common.{◌≡◌, ℕ, List, [], ◌-◌, ◌<◌, length, ap, arith, ◌∙◌}
use Rattle.std.proofs.lemmas.List.{length-take-le}
use Rattle.std.proofs.lemmas.List.Elements.{All-from_get_or}
use Rattle.std.specs.Borrow.{Bor}
use Rattle.fa_lanes.specs.Lanes.{message}
use Rattle.fa_tag.proofs.resealing.open_four_begun.Goals as goal

abbrev none : Bor (List ℕ)
none = record { ref_ptr = (0, 0); now = [] }

pub fronts_of_four-requires-clause-within : goal.fronts_of_four-requires-clause-within
fronts_of_four-requires-clause-within c = λ k d lt. omega (arith, c.have_length.ensures.0 c.if-not-have_length.false k d lt)

pub begin_four-begun-requires-clause-whole : goal.begin_four-begun-requires-clause-whole
begin_four-begun-requires-clause-whole c =
    let slots = c.args.slots.now in
    let bytes : ℕ = length (message slots 0) in (
      bytes - 64,
      omega (arith, c.if-bytes-ne0.false),
      All-from_get_or (λ part. length part.now ≡ bytes - 64) c.fronts_of_four.result none (λ l lt.
          let in_lanes : l < 4 = omega (arith, c.fronts_of_four.ensures.size) in
          let size : length (message slots l) ≡ bytes = c.have_length.ensures.0 c.if-not-have_length.false l none (omega arith) in
          ap length (c.fronts_of_four.ensures.fronts l in_lanes) ∙ length-take-le (bytes - 64) (message slots l) (omega (arith, size))),
    )
