use Rattle.std.proofs.Common.{◌≡◌, ◌∙◌, ◌+◌, ℕ, List, [], length, slice_index_or, slice_set, take, arith, ap, subst, sym, inl, inr}
use Rattle.std.proofs.lemmas.Bool.{cases_lt}
use Rattle.std.proofs.lemmas.List.{get_or-set_other, get_or-set_same, get_or-take, get_or_append_left, length-set, length-take-le}
use Rattle.std.specs.Borrow.{Bor}
use Rattle.fa_lanes.specs.Lanes.{message}
use Rattle.fa_tag.proofs.OpenedParts.{same_size}
use Rattle.fa_tag.specs.SlotGrammar.{IsOpened}
use Rattle.fa_tag.specs.declared.tag.Opened.{Opened}
use Rattle.fa_tag.specs.declared.tag.Opened.TheVariants.{Erased}
use Rattle.fa_mount_scan.specs.Content.{content_of}
use Rattle.fa_mount_scan.specs.ContentReading.{IsContentOf}
use Rattle.fa_mount_scan.specs.ReadingAhead.{slot_of}
use Rattle.fa_mount_scan.specs.declared.slots.content.SlotContent.TheVariants.{Stale}
use Rattle.fa_mount_scan.proofs.ReadAhead.{opened_at}
use Rattle.fa_mount_scan.proofs.slots.die.open_some.Goals as goal

pub found-preserved : goal.found-preserved
found-preserved c =
    let i : ℕ = c.found.i in
    let count : ℕ = length c.args.found.now in
    let new : List Opened = c.open_all.new.opened in
    let slots : List (Bor (List ℕ)) = take count c.parts-slots.result in
    let many : length slots ≡ count = length-take-le count c.parts-slots.result (omega (arith, c.parts-slots.ensures.size)) in
    let size : length new ≡ count = same_size slots new c.open_all.ensures ∙ many in
    let bytes : message slots i ≡ slot_of c.args.bytes c.args.buffer.now i =
    ap (λ (b : Bor (List ℕ)). b.now) (get_or-take count c.parts-slots.result i (record { ref_ptr = (0, 0); now = [] }) (omega arith))
    ∙ c.parts-slots.ensures.parts i (omega arith) in
    let is : IsOpened (slot_of c.args.bytes c.args.buffer.now i) (slice_index_or new i Erased) =
    subst (λ (l : List ℕ). IsOpened l (slice_index_or new i Erased)) bytes (opened_at slots new i Erased c.open_all.ensures (omega (arith, many))) in
    let content : c.content_of_opened.result ≡ content_of c.args.pages c.args.die.0 (c.args.first + i) (slice_index_or new i Erased) =
    c.content_of_opened.ensures ∙ ap (content_of c.args.pages c.args.die.0 (c.args.first + i)) (get_or_append_left new _ Erased i (omega (arith, size))) in
    let holds : IsContentOf (slot_of c.args.bytes c.args.buffer.now i) c.args.pages c.args.die.0 (c.args.first + i) c.content_of_opened.result =
    record { opened = slice_index_or new i Erased; opens = is; is = content } in (
      length-set c.found.found i c.content_of_opened.result ∙ c.found.invariant.0,
      λ k below. elim (cases_lt k i) [
        | inl low ↦
            subst (IsContentOf (slot_of c.args.bytes c.args.buffer.now k) c.args.pages c.args.die.0 (c.args.first + k))
            (sym (get_or-set_other c.found.found i k c.content_of_opened.result Stale (omega arith))) (c.found.invariant.1 k low)
        | inr high ↦
            let e : i ≡ k = omega arith in
            subst (λ (n : ℕ). IsContentOf (slot_of c.args.bytes c.args.buffer.now n) c.args.pages c.args.die.0 (c.args.first + n)
            (slice_index_or (slice_set c.found.found i c.content_of_opened.result) n Stale)) e
            (subst (IsContentOf (slot_of c.args.bytes c.args.buffer.now i) c.args.pages c.args.die.0 (c.args.first + i))
            (sym (get_or-set_same c.found.found i c.content_of_opened.result Stale (omega arith))) holds)
      ],
    )
