use Rattle.std.proofs.Common.{◌≡◌, ◌+◌, ◌++◌, ◌∷◌, [], Option, true, length, map, ap, ◌∙◌, subst, sym, arith}
use Rattle.std.specs.List.{AllByRecursion}
use Rattle.std.specs.Prelude.{IfSome}
use Rattle.fa_image.specs.declared.file_image.FileImage.{FileImage}
use Rattle.fa_prog_host.specs.Opened.{AreRising, WasSynced}
use Rattle.fa_prog_host.proofs.Opened.{all_more, one_longer, rising_on, rising_past}
use Rattle.fa_prog_host.proofs.images.open_images.Goals as goal
use Rattle.fa_prog_host.proofs.images.open_images.Goals.{in-Some+in_ok-push-in-Some+in_ok-push-in-Some-2, in-None}

pub loop-place-preserved : goal.loop-place-preserved
loop-place-preserved g c =
    let end = c.loop-place.place in
    let inv = c.loop-place.invariant in
    elim c.match-branch-5.branch [
      | in-Some+in_ok-push-in-Some+in_ok-push-in-Some-2 w ↦
          let images : c.match-branch-5.images.items ≡ c.loop-place.images.items ++ w.new.result ∷ [] =
          ap (λ v. v.items) w.images-is ∙ w.in_ok-push-in-Some.ensures.items in
          let places : c.match-branch-5.places.items ≡ c.loop-place.places.items ++ end ∷ [] =
          ap (λ v. v.items) w.places-is ∙ w.in_ok-push-in-Some-2.ensures.items in
          let shaped = subst (λ (o : Option FileImage). IfSome o (λ image. image.geometry ≡ c.args.settings.now.geometry)) w.in-Some.is
          c.in_ok-image.ensures.shape in
          let was = subst (λ (o : Option FileImage). IfSome o (λ image. c.args.opening.syncs ≡ true → WasSynced c.args.opening.terms image))
          w.in-Some.is c.in_ok-image.ensures.synced in
          let more_images = one_longer _ _ _ images in
          let more_places = one_longer _ _ _ places in record {
            end = inv.end;
            order = omega arith;
            each = omega (arith, more_images, more_places, inv.each);
            rising = subst (AreRising 0 (end + 1)) (sym places) (rising_on 0 end c.loop-place.places.items inv.rising);
            all = λ h. (let so_far = inv.all h in omega (arith, more_places, so_far));
            shape = all_more (λ watched. watched.image) (λ image. image.geometry ≡ c.args.settings.now.geometry) _ _ _ images inv.shape
                (ap (λ image. image.geometry) w.new.ensures ∙ shaped);
            synced = λ s. all_more (λ watched. watched.image) (WasSynced c.args.opening.terms) _ _ _ images (inv.synced s)
                (subst (WasSynced c.args.opening.terms) (sym w.new.ensures) (was s));
          }
      | in-None w ↦
          let images : c.match-branch-5.images.items ≡ c.loop-place.images.items = ap (λ v. v.items) w.images-is in
          let places : c.match-branch-5.places.items ≡ c.loop-place.places.items = ap (λ v. v.items) w.places-is in record {
            end = inv.end;
            order = omega arith;
            each = ap length places ∙ inv.each ∙ sym (ap length images);
            rising = subst (AreRising 0 (end + 1)) (sym places) (rising_past 0 end c.loop-place.places.items inv.rising);
            all = λ h. absurd (c.in_ok-image.ensures.all h w.in-None.is);
            shape = subst (λ l. AllByRecursion (λ image. image.geometry ≡ c.args.settings.now.geometry) (map (λ watched. watched.image) l))
                (sym images) inv.shape;
            synced = λ s. subst (λ l. AllByRecursion (WasSynced c.args.opening.terms) (map (λ watched. watched.image) l)) (sym images)
                (inv.synced s);
          }
    ]
