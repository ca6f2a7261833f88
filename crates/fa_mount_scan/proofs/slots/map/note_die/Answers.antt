use Rattle.std.proofs.Common.{◌≡◌, ◌∙◌, ◌+◌, ℕ, List, Option, Some, length, get_or, sym, subst, ap, slice_get, arith}
use Rattle.std.proofs.lemmas.Option.{slice_get-get_or}
use Rattle.fa_machine.specs.declared.places.Version.{Version}
use Rattle.fa_mount_scan.specs.Content.{NamePages, slots_on}
use Rattle.fa_mount_scan.specs.ContentMerging.{AreLastBefore}
use Rattle.fa_mount_scan.specs.declared.slots.content.SlotContent.{SlotContent}
use Rattle.fa_mount_scan.specs.declared.slots.content.SlotContent.TheVariants.{Erased}
use Rattle.fa_mount_scan.proofs.LastWrites.{die_read, names_page, next_die, noted_slot, nothing_on, within_die}
use Rattle.fa_mount_scan.proofs.slots.map.note_die.Goals as goal

pub returns-in_default-clause-last : goal.returns-in_default-clause-last
returns-in_default-clause-last g c =
    let on = die_read c.args.contents.now c.args.die c.index-contents-die.result c.requires.die c.index-contents-die.is ∙ c.in_default.is in
    next_die c.args.contents.now c.args.die 0 c.args.last.now.items (nothing_on c.args.contents.now c.args.die on) c.requires.last

pub note_slot-requires : goal.note_slot-requires
note_slot-requires g c =
    let slots : List SlotContent = c.slots-slots.result.now in
    let content : SlotContent = get_or slots c.loop-slot.slot Erased in
    let on : slots_on c.args.contents.now c.args.die ≡ Some slots =
    die_read c.args.contents.now c.args.die c.index-contents-die.result c.requires.die c.index-contents-die.is ∙ c.in-Some.is
    ∙ ap (λ (l : List SlotContent). Some l) (sym c.slots-slots.ensures) in
    names_page c.args.contents.now c.args.die c.loop-slot.slot (length c.loop-slot.last.items) slots content on
    (slice_get-get_or slots c.loop-slot.slot Erased (omega arith))
    (subst (NamePages c.args.contents.now) (sym c.loop-slot.invariant.long) c.requires.pages)

pub loop-slot-preserved : goal.loop-slot-preserved
loop-slot-preserved g c =
    let slots : List SlotContent = c.slots-slots.result.now in
    let slot : ℕ = c.loop-slot.slot in
    let content : SlotContent = get_or slots slot Erased in
    let on : slots_on c.args.contents.now c.args.die ≡ Some slots =
    die_read c.args.contents.now c.args.die c.index-contents-die.result c.requires.die c.index-contents-die.is ∙ c.in-Some.is
    ∙ ap (λ (l : List SlotContent). Some l) (sym c.slots-slots.ensures) in
    let found : slice_get slots slot ≡ Some content = slice_get-get_or slots slot Erased (omega arith) in
    record {
      long = c.note_slot.ensures.length ∙ c.loop-slot.invariant.long;
      last = subst (AreLastBefore c.args.contents.now c.args.die (slot + 1)) (sym {A = List (Option Version)} c.note_slot.ensures.noted)
          (noted_slot c.args.contents.now c.args.die slot slots on c.loop-slot.last.items c.loop-slot.invariant.last content found
          (names_page c.args.contents.now c.args.die slot (length c.loop-slot.last.items) slots content on found
          (subst (NamePages c.args.contents.now) (sym c.loop-slot.invariant.long) c.requires.pages)));
    }

pub returns-clause-last : goal.returns-clause-last
returns-clause-last g c =
    let slots : List SlotContent = c.slots-slots.result.now in
    let on : slots_on c.args.contents.now c.args.die ≡ Some slots =
    die_read c.args.contents.now c.args.die c.index-contents-die.result c.requires.die c.index-contents-die.is ∙ c.in-Some.is
    ∙ ap (λ (l : List SlotContent). Some l) (sym c.slots-slots.ensures) in
    let P : ℕ → Type 0 = λ n. AreLastBefore c.args.contents.now c.args.die n c.loop-slot.last.items in
    let end : c.loop-slot.slot ≡ length slots = omega arith in
    next_die c.args.contents.now c.args.die (length slots) c.loop-slot.last.items
    (within_die c.args.contents.now c.args.die slots on) (subst P end c.loop-slot.invariant.last)
