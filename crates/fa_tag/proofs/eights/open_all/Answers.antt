use Rattle.std.proofs.Common.{rules, ℕ, List, ◌∙◌, ◌*◌, ◌-◌, ◌/◌, ◌≡◌, arith, drop, take, length, length-drop, ◌+◌, subst, sym}
use Rattle.std.proofs.lemmas.List.{length-take-le}
use Rattle.std.proofs.lemmas.Slice.{overwrites}
use Rattle.fa_tag.specs.declared.tag.Opened.{Opened}
use Rattle.fa_tag.specs.OpenedTogether.{AreOpened}
use Rattle.fa_tag.proofs.ByEights.{eight_more, eight_put}
use Rattle.fa_tag.proofs.OpenedParts.{both_opened, parts_opened, same_size}
use Rattle.fa_tag.proofs.eights.open_all.Goals as goal

pub eights-preserved : goal.eights-preserved
eights-preserved c =
    let new = c.open_eight.new.opened in
    let size : length new ≡ 8 = same_size _ new c.open_eight.ensures
    ∙ length-take-le (8 * c.eights.i + 8 - 8 * c.eights.i) (drop (8 * c.eights.i) c.args.slots.now)
    (omega (arith, length-drop (8 * c.eights.i) c.args.slots.now)) ∙ omega arith in (
      search (rules, overwrites),
      rw (eight_more c.args.slots.now c.eights.i, eight_put c.eights.opened new c.eights.i _ size (omega arith))
          (both_opened _ _ _ _ c.eights.invariant.1 c.open_eight.ensures),
    )

pub returns : goal.returns
returns c =
    let slots = c.args.slots.now in
    let whole : ℕ = 8 * (length slots / 8) in
    let all : 8 * c.eights.i ≡ whole = omega arith in
    let front : AreOpened (take whole slots) (take whole c.eights.opened) =
    subst (λ (n : ℕ). AreOpened (take n slots) (take n c.eights.opened)) all c.eights.invariant.1 in
    parts_opened slots whole _ c.open_rest.new.opened
    (subst (λ (l : List Opened). AreOpened (take whole slots) l) (sym c.split_at_mut-rest.ensures.front) front) c.open_rest.ensures
