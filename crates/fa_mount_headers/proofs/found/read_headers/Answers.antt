use Rattle.std.proofs.Common.{◌≡◌, ℕ, ◌<◌, List, ◌∷◌, [], ◌++◌, length, set, get_or, ◌+◌, map, ap, ◌∙◌, sym, subst, arith}
use Rattle.std.proofs.lemmas.List.{length_push}
use Rattle.fa_mount_headers.specs.Found.{ReadsHeader, ReadsHeaders}
use Rattle.fa_mount_headers.specs.declared.found.Found.{Found}
use Rattle.fa_mount_headers.proofs.Reading.{are_only_read, as_they_were, reads_more}
use Rattle.fa_mount_headers.proofs.found.read_headers.Goals as goal

pub loop-index-preserved : goal.loop-index-preserved
loop-index-preserved g c =
    let view = g.I.Image.view in
    let made = g.I.Image.made in
    let images = c.loop-index.images in
    let index = c.loop-index.index in
    let founds = c.loop-index.founds.items in
    let x = c.index-images-index.result in
    let y = c.read_one-found.new.image in
    let f = c.read_one-found.result in
    let count : length founds ≡ index = c.loop-index.invariant.count in
    let P : ℕ → Type 0 = λ i. i < length images → ReadsHeader view made (get_or images i x) y f
    → ReadsHeaders view made c.args.images.now (set images i y) (founds ++ f ∷ []) in
    let step : P (length founds) = reads_more view made c.args.images.now images founds x y f c.loop-index.invariant.read in
    let Q : List Found → Type 0 = λ l. ReadsHeaders view made c.args.images.now (set images index y) l in
    record {
      read = subst Q (sym c.in_ok-push.ensures.items) (subst P count step (omega arith) c.read_one-found.ensures);
      count = ap length c.in_ok-push.ensures.items ∙ length_push founds f ∙ ap (λ (n : ℕ). n + 1) count;
      room = omega (arith, c.in_ok-push.ensures.capacity, c.loop-index.invariant.room);
    }

pub returns-in_err-founds-clause-only_read : goal.returns-in_err-founds-clause-only_read
returns-in_err-founds-clause-only_read g c = as_they_were (map g.I.Image.view c.args.images.now)

pub returns-clause-only_read : goal.returns-clause-only_read
returns-clause-only_read g c =
    are_only_read g.I.Image.view g.I.Image.honest g.I.Image.made g.met.I.Image.meets c.args.images.now c.loop-index.images c.loop-index.founds.items
    c.loop-index.invariant.read
