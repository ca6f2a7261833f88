use Rattle.std.proofs.Common.{◌≡◌, List, subst, ℕ}
use Rattle.fa_tag.specs.SlotGrammar.{IsOpened, payload_of}
use Rattle.fa_workers_making.proofs.moves.open_four.Goals as goal

pub opened_move-requires-3 : goal.opened_move-requires-3
opened_move-requires-3 g c =
    let begun = c.begin_four_slots-one.result.2 in
    let Has : List ℕ → Type 0 = λ bytes. IsOpened bytes begun.0 × (begun.1 ≡ payload_of bytes) in
    subst Has c.as_slice-3.ensures.value c.begin_four_slots-one.ensures.third

pub opened_move-requires-4 : goal.opened_move-requires-4
opened_move-requires-4 g c =
    let begun = c.begin_four_slots-one.result.3 in
    let Has : List ℕ → Type 0 = λ bytes. IsOpened bytes begun.0 × (begun.1 ≡ payload_of bytes) in
    subst Has c.as_slice-4.ensures.value c.begin_four_slots-one.ensures.fourth
