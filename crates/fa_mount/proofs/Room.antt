-- An array that is not refused for its headers has as many dies in use as a page is to have copies.
use Rattle.std.proofs.Common.{◌≡◌, ℕ, ◌-◌, ◌*◌, ◌&&◌, Bool, true, List, [], ◌∷◌, Option, Some, None, refl, sym, ap, subst, ◌∙◌, inl, inr}
use Rattle.std.proofs.lemmas.Bool.{and_parts, cases_Bool, leb-true}
use Rattle.std.proofs.lemmas.Option.{none-some, same_Some}
use Rattle.std.specs.Prelude.{nat_le, option_map, if◌then◌else◌}
use Rattle.fa_types.specs.Geometry.{AreCopies}
use Rattle.fa_types.specs.declared.geometry.Geometry.{Geometry}
use Rattle.fa_mount_headers.specs.Judged.{IsJudged, first_seen}
use Rattle.fa_mount_headers.specs.Rules.{can_hold, first_of, header_refusal, of_another_array}
use Rattle.fa_mount_headers.specs.Rules.{of_another_geometry, reading_refusal, refused_for, seen_from, seen_refusal, without_room}
use Rattle.fa_mount_headers.specs.declared.fault.MountFault.TheVariants.{GeometryDiffers}
use Rattle.fa_mount_headers.specs.declared.found.Found.{Found}
use Rattle.fa_mount_headers.specs.declared.judging.Judged.{Judged}
use Rattle.fa_mount_headers.specs.declared.seen.Seen.{Seen}

first_none : {X : Type 0} (o : Option X) (others : List (Option X)) → first_of (o ∷ others) ≡ None → (o ≡ None) × (first_of others ≡ None)
first_none None others none = (refl, none)
first_none (Some x) others none = absurd (none-some x (sym none))

with_room : (copies : ℕ) (x : Seen) → without_room copies x ≡ None → can_hold copies x.header.geometry ≡ true
with_room copies x none =
    elim (cases_Bool (can_hold copies x.header.geometry)) [
      | inl holds ↦ holds
      | inr not ↦
          let fault = refused_for GeometryDiffers x in
          let is : Some fault ≡ None = sym (ap (λ (b : Bool). if b then None else Some fault) not) ∙ none in
          absurd (none-some fault (sym is))
    ]

seen_holds : (copies : ℕ) (unclean : Bool) (seen : List Seen) (judged : Geometry) → seen_refusal copies unclean seen ≡ None
    → option_map (λ x. x.header.geometry) (first_seen seen) ≡ Some judged → can_hold copies judged ≡ true
seen_holds copies unclean [] judged none is = absurd (none-some judged is)
seen_holds copies unclean (x ∷ others) judged none is =
    let seen = x ∷ others in
    let arrays = first_none (of_another_array x.header.array seen) _ none in
    let geometries = first_none (of_another_geometry x.header.geometry seen) _ arrays.1 in
    let room = first_none (without_room copies x) _ geometries.1 in
    subst (λ (g : Geometry). can_hold copies g ≡ true) (same_Some x.header.geometry judged is) (with_room copies x room.0)

pub is_held : {A : Type 0} (copies : ℕ) (unclean : Bool) (founds : List Found) (judged : Judged A) → header_refusal copies unclean founds ≡ None
    → IsJudged (seen_from 0 founds) judged → can_hold copies judged.geometry ≡ true
is_held copies unclean founds judged none is =
    let seen = seen_from 0 founds in
    let not_refused = (first_none (seen_refusal copies unclean seen) [] (first_none (reading_refusal unclean founds) _ none).1).0 in
    seen_holds copies unclean seen judged.geometry not_refused is.geometry

pub copies_fit : (copies : ℕ) (g : Geometry) → can_hold copies g ≡ true → AreCopies copies g.dies g.spares g.blocks g.slots g.pages
copies_fit copies g holds =
    let a = nat_le 2 copies in
    let b = nat_le copies 3 in
    let c = nat_le copies (g.dies - g.spares) in
    let d = nat_le (copies * g.pages) ((g.dies - g.spares) * (g.blocks - 2) * g.slots) in
    let three = and_parts (a && b && c) d holds in
    let two = and_parts (a && b) c three.0 in
    let one = and_parts a b two.0 in
    record {
      two_or_three = (leb-true 2 copies one.0, leb-true copies 3 one.1);
      each_on_a_die = leb-true copies (g.dies - g.spares) two.1;
      fit = leb-true (copies * g.pages) ((g.dies - g.spares) * (g.blocks - 2) * g.slots) three.1;
    }
