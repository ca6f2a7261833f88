use Rattle.std.proofs.Common.{rules, ◌≡◌, ◌∙◌, ◌+◌, ◌-◌, ◌*◌, ℕ, List, drop, length, length-drop, take, arith, subst, sym}
use borrow.Rule.Slice.PartMut.{put_mid}
use Rattle.std.proofs.lemmas.List.{length-take-le}
use Rattle.std.proofs.lemmas.Slice.{overwrites, take-put_mid}
use Rattle.fa_mount_scan.specs.ContentReading.{ReadsSlots, StopsAfter}
use Rattle.fa_mount_scan.specs.declared.slots.content.SlotContent.{SlotContent}
use Rattle.fa_mount_scan.proofs.ReadAhead.{read_behind, stops_behind}
use Rattle.fa_mount_scan.proofs.slots.die.read_eights.Goals as goal

pub returns-in-Err-clause-refused : goal.returns-in-Err-clause-refused
returns-in-Err-clause-refused g c =
    let done : List SlotContent = take (8 * c.eights.i) c.eights.contents in
    let size : length done ≡ 8 * c.eights.i = length-take-le (8 * c.eights.i) c.eights.contents (let long = c.eights.invariant.contents in omega (arith, long)) in
    stops_behind g.I.Image.made c.args.pages c.args.die.0 done c.in-Err.fault c.args.image.now c.eights.image c.read_some.new.image c.eights.invariant.read
    (subst (λ (n : ℕ). StopsAfter g.I.Image.made c.args.pages c.args.die.0 n c.in-Err.fault c.eights.image c.read_some.new.image) (sym size)
    c.in-Err.ensures.refused)

pub eights-preserved : goal.eights-preserved
eights-preserved g c =
    let contents : List SlotContent = c.eights.contents in
    let new : List SlotContent = c.read_some.new.found in
    let from : ℕ = 8 * c.eights.i in
    let long = c.eights.invariant.contents in
    let size : length (take from contents) ≡ from = length-take-le from contents (omega (arith, long)) in
    let eight : length new ≡ 8 =
    c.read_some.auto.found ∙ length-take-le (from + 8 - from) (drop from contents) (omega (arith, length-drop from contents, long)) ∙ omega arith in
    let same : length (put_mid from (from + 8 - from) contents new) ≡ length contents = search (rules, overwrites) in
    let grown = take-put_mid from _ contents new (8 * (c.eights.i + 1)) (omega arith) (omega (arith, long)) in
    record {
      geometry = c.read_some.ensures.geometry ∙ c.eights.invariant.geometry;
      contents = same ∙ long;
      read = subst (λ (l : List SlotContent). ReadsSlots g.I.Image.made c.args.pages c.args.die.0 0 l c.args.image.now c.read_some.new.image) (sym grown)
          (read_behind g.I.Image.made c.args.pages c.args.die.0 0 (take from contents) new c.args.image.now c.eights.image c.read_some.new.image
          c.eights.invariant.read
          (subst (λ (n : ℕ). ReadsSlots g.I.Image.made c.args.pages c.args.die.0 n new c.eights.image c.read_some.new.image) (let e : from ≡ 0 + length (take from contents) = omega arith in e) c.in-Ok.ensures.read));
    }
