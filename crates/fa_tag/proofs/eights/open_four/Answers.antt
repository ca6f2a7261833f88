use Rattle.std.proofs.Common.{◌≡◌, ℕ, List, [], ◌-◌, ◌<◌, length, slice_index_or, take, ap, arith, sym, ◌∙◌}
use Rattle.std.proofs.lemmas.List.{get_or-map, length-set, length-take-le, take_all}
use Rattle.std.proofs.lemmas.List.Elements.{All-from_get_or}
use Rattle.std.specs.Borrow.{Bor}
use Rattle.sha2.specs.Sha256.{sha256}
use Rattle.fa_lanes.specs.Lanes.{message}
use Rattle.fa_tag.proofs.OpenedParts.{one_more_opened}
use Rattle.fa_tag.proofs.eights.open_four.Goals as goal

abbrev none : Bor (List ℕ)
none = record { ref_ptr = (0, 0); now = [] }

pub fronts_of_four-requires-clause-within : goal.fronts_of_four-requires-clause-within
fronts_of_four-requires-clause-within c = λ k d lt. omega (arith, c.have_length.ensures.0 c.if-not-have_length.false k d lt)

pub digests_of_four-made-requires-clause-one_length : goal.digests_of_four-made-requires-clause-one_length
digests_of_four-made-requires-clause-one_length c =
    let slots = c.args.slots.now in
    let bytes : ℕ = length (message slots 0) in (
      bytes - 32,
      All-from_get_or (λ part. length part.now ≡ bytes - 32) c.fronts_of_four.result none (λ l lt.
          let in_lanes : l < 4 = omega (arith, c.fronts_of_four.ensures.size) in
          let size : length (message slots l) ≡ bytes = c.have_length.ensures.0 c.if-not-have_length.false l none (omega arith) in
          ap length (c.fronts_of_four.ensures.fronts l in_lanes) ∙ length-take-le (bytes - 32) (message slots l) (omega (arith, size))),
    )

pub open_with-requires : goal.open_with-requires
open_with-requires c =
    let i : ℕ = c.slots.i in
    let slot : List ℕ = message c.args.slots.now i in
    let size : length slot ≡ length (message c.args.slots.now 0) = c.have_length.ensures.0 c.if-not-have_length.false i none (omega arith) in
    ap (λ (l : List (List ℕ)). slice_index_or l i []) c.digests_of_four-made.ensures
    ∙ get_or-map (λ m. sha256 m.now) c.fronts_of_four.result i none [] (omega (arith, c.fronts_of_four.ensures.size))
    ∙ ap sha256 (c.fronts_of_four.ensures.fronts i (omega arith) ∙ ap (λ (n : ℕ). take (n - 32) slot) (sym size))

pub slots-preserved : goal.slots-preserved
slots-preserved c = (
  length-set c.slots.opened c.slots.i c.open_with.result ∙ c.slots.invariant.0,
  one_more_opened c.args.slots.now c.slots.opened c.slots.i c.open_with.result (omega arith) (omega arith) c.slots.invariant.1 c.open_with.ensures.opened,
)

pub returns : goal.returns
returns c =
    rw (← take_all c.slots.i c.args.slots.now (omega arith), ← take_all c.slots.i c.slots.opened (omega arith)) c.slots.invariant.1
