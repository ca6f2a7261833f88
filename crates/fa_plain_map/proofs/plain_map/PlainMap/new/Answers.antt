use Rattle.std.proofs.Common.{◌≡◌, ℕ, ◌*◌, false, None, Some, Option, refl, sym, ap, subst, ◌∙◌}
use Rattle.std.specs.Prelude.{replicate}
use Rattle.fa_machine.specs.declared.places.Used.{Used}
use Rattle.fa_map_calls.specs.Changes.{new_map}
use Rattle.fa_map_calls.specs.Plain.{IsPlain}
use Rattle.fa_map_calls.proofs.Plain.{plain_new, told}
use Rattle.fa_plain_map.proofs.plain_map.PlainMap.new.Goals as goal

only_none : {X : Type 0} (R : Option X → Type 0) → ((x : X) → R (Some x) → ⊥) → (y : Option X) → R y → y ≡ None
only_none R off None h = refl
only_none R off (Some x) h = absurd (off x h)

abbrev nothing : Option Used
nothing = None

pub invariant_of-result : goal.invariant_of-result
invariant_of-result g c =
    let live = c.in_ok-live.ensures.items_if_clones_equal (λ y same. same) in
    let versions = c.in_ok-versions.ensures.items_if_clones_equal (only_none _ (λ x h. h)) in
    let used = c.in_ok-used.ensures.items_if_clones_equal (only_none _ (λ x h. h)) in
    let size = ap (λ (k : ℕ). replicate (c.args.geometry.dies * k) nothing) c.slots_of_die.ensures in
    record {
      sound =
          subst (λ l. IsPlain c.begin.result.shown c.args.geometry l 0 c.in_ok-versions.versions.items c.in_ok-used.used.items) (sym live)
          (subst (λ l. IsPlain c.begin.result.shown c.args.geometry (replicate c.args.geometry.dies false) 0 l c.in_ok-used.used.items) (sym versions)
          (told c.args.geometry (replicate c.args.geometry.dies false) (replicate c.args.geometry.pages None) (new_map c.args.geometry) c.begin.result.shown 0 0 _ _ c.begin.ensures refl (used ∙ size)
          (plain_new c.args.geometry)));
    }
