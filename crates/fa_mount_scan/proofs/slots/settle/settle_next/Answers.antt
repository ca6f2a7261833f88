use Rattle.std.proofs.Common.{◌≡◌, ◌∙◌, ◌++◌, ◌∷◌, [], List, Option, Some, length, slice_get, get_or, sym, subst, ap, arith}
use Rattle.std.proofs.lemmas.Option.{slice_get-get_or}
use Rattle.fa_mount_scan.specs.Content.{Contents}
use Rattle.fa_mount_scan.specs.Scanned.{AreSettled, Outcome, mounted_of, settled}
use Rattle.fa_mount_scan.specs.declared.slots.content.SlotContent.{SlotContent}
use Rattle.fa_mount_headers.specs.declared.judging.Standing.{Standing}
use Rattle.fa_mount_headers.specs.declared.judging.Standing.TheVariants.{Missing}
use Rattle.fa_mount_scan.proofs.Settling.{one_more_settled}
use Rattle.fa_mount_scan.proofs.slots.settle.settle_next.Goals as goal

pub returns : goal.returns
returns g c = λ outcomes before.
    let old_dies : List Standing = c.args.settled.now.dies.items in
    let old_contents : Contents = c.args.settled.now.contents.items in
    let standing : Standing = get_or c.args.standings.now c.len.result Missing in
    let outcome : Outcome = c.args.outcome in
    let whole = c.args.settled.now.dies.ok.0 in
    let len = c.len.ensures in
    let long = before.dies_length in
    let here : length outcomes ≡ c.len.result = omega (arith, whole, long, len) in
    let at : slice_get c.args.standings.now (length outcomes) ≡ Some standing =
    ap (slice_get c.args.standings.now) here
    ∙ slice_get-get_or c.args.standings.now c.len.result Missing (let room = c.requires in omega (arith, room, whole, len)) in
    let dies : c.push.new.self.items ≡ old_dies ++ settled standing outcome ∷ [] =
    c.in_ok-push.ensures.items ∙ ap (λ (x : Standing). old_dies ++ x ∷ []) c.settled_by.ensures in
    let contents : c.push-2.new.self.items ≡ old_contents ++ mounted_of standing outcome ∷ [] =
    c.in_ok-push-2.ensures.items ∙ ap (λ (x : Option (List SlotContent)). old_contents ++ x ∷ []) c.found_on_live.ensures in
    subst (λ (l : List Standing). AreSettled c.args.standings.now (outcomes ++ outcome ∷ []) l c.push-2.new.self.items) (sym dies)
    (subst (λ (l : Contents). AreSettled c.args.standings.now (outcomes ++ outcome ∷ []) (old_dies ++ settled standing outcome ∷ []) l) (sym contents)
    (one_more_settled c.args.standings.now outcomes old_dies old_contents standing outcome at before))
