-- What is found in a page map after a change, place by place.
use Rattle.std.proofs.Common.{◌≡◌, ◌⊎◌, ℕ, Bool, true, not, ◌==◌, ◌&&◌, ◌||◌, Option, Some, None, ap, cond, inl, inr, refl, sym, ◌∙◌}
use Rattle.std.proofs.lemmas.Bool.{cases_Bool, cases_eq}
use Rattle.std.proofs.lemmas.Option.{none-some, same_Some}
use Rattle.std.specs.FinMap.{get-empty}
use Rattle.std.specs.Prelude.{option_map}
use Rattle.fa_types.specs.declared.geometry.Geometry.{Geometry}
use Rattle.fa_types.specs.declared.numbers.Page.{Page}
use Rattle.fa_machine.specs.declared.places.Used.{Used}
use Rattle.fa_machine.specs.declared.places.Used.TheVariants.{Held}
use Rattle.fa_machine.specs.declared.places.Version.{Version}
use Rattle.fa_machine.specs.Collecting.{is_in_block}
use Rattle.fa_machine.specs.Copies.{is_reserved_slot}
use Rattle.fa_machine.specs.Maps.{place_cmp}
use Rattle.fa_machine.specs.State.{MapState, used_at}
use Rattle.fa_machine.proofs.Maps.{place_cmp_total, place_same, passed, get-keep, get-change, get-place_same, get-place_other}
use Rattle.fa_machine.specs.Writing.{without_page}
use Rattle.fa_map_calls.specs.Changes.{new_map, with_used, made_current, outdated, renewed, dropped, without_block}

-- two places are one, or not
pub place_cases : (d s die slot : ℕ) → ((d ≡ die) × (s ≡ slot)) ⊎ (d ≡ die → s ≡ slot → ⊥)
place_cases d s die slot =
    elim (cases_eq d die) [
      | inr apart ↦ inr (λ a b. apart a)
      | inl a ↦ elim (cases_eq s slot) [
        | inl b ↦ inl (a, b)
        | inr apart ↦ inr (λ a b. apart b)
      ]
    ]

pub passed_some : {X : Type 0} (test : X → Bool) (o : Option X) (x : X) → passed test o ≡ Some x → (o ≡ Some x) × (test x ≡ true)
passed_some test None x e = absurd (none-some x e)
passed_some {X} test (Some y) x e =
    elim (cases_Bool (test y)) [
      | inr fails ↦ absurd (none-some x (sym (ap (λ b. cond b (Some y) None) fails) ∙ e))
      | inl passes ↦
          let is : y ≡ x = same_Some y x (sym (ap (λ b. cond b (Some y) None) passes) ∙ e) in
          (ap Some is, sym (ap test is) ∙ passes)
    ]

pub mapped_some : {X Y : Type 0} (f : X → Y) (o : Option X) (y : Y) → option_map f o ≡ Some y → (x : X) × (o ≡ Some x) × (f x ≡ y)
mapped_some f None y e = absurd (none-some y e)
mapped_some f (Some x) y e = (x, refl, same_Some (f x) y e)

-- nothing is used in a new map
pub used-new : (g : Geometry) (d s : ℕ) → used_at (new_map g) d s ≡ None
used-new g d s = get-empty place_cmp (d, s)

pub used-same : (m : MapState) (die slot : ℕ) (u : Used) → used_at (with_used die slot u m) die slot ≡ Some u
used-same m die slot u = get-place_same m.used die slot u

pub used-other : (m : MapState) (die slot : ℕ) (u : Used) (d s : ℕ) → (d ≡ die → s ≡ slot → ⊥)
    → used_at (with_used die slot u m) d s ≡ used_at m d s
used-other m die slot u d s apart = get-place_other m.used die slot u d s apart

-- a slot after a write of a page was made current elsewhere
pub used-outdated : (m : MapState) (page : Page) (version : Version) (die slot d s : ℕ) → (d ≡ die → s ≡ slot → ⊥)
    → used_at (made_current page version die slot m) d s ≡ option_map (outdated page.0 version) (used_at m d s)
used-outdated m page version die slot d s apart =
    get-place_other _ die slot (Held page version) d s apart
    ∙ get-change place_cmp_total place_same (λ place used. outdated page.0 version used) m.used (d, s)

pub used-current : (m : MapState) (page : Page) (version : Version) (die slot : ℕ)
    → used_at (made_current page version die slot m) die slot ≡ Some (Held page version)
used-current m page version die slot = get-place_same _ die slot (Held page version)

-- a slot after each copy of a page became stale
pub used-renewed : (m : MapState) (page : ℕ) (version : Version) (d s : ℕ)
    → used_at (renewed page version m) d s ≡ option_map (without_page page) (used_at m d s)
used-renewed m page version d s = get-change place_cmp_total place_same (λ place used. without_page page used) m.used (d, s)

pub used-dropped : (m : MapState) (die d s : ℕ)
    → used_at (dropped die m) d s ≡ passed (λ used. not (d == die)) (used_at m d s)
used-dropped m die d s = get-keep place_cmp_total place_same (λ place used. not (place.0 == die)) m.used (d, s)

pub used-erased : (m : MapState) (die block d s : ℕ)
    → used_at (without_block die block m) d s
    ≡ passed (λ used. not (d == die && is_in_block m block s) || is_reserved_slot (Some used)) (used_at m d s)
used-erased m die block d s =
    get-keep place_cmp_total place_same (λ place used. not (place.0 == die && is_in_block m block place.1) || is_reserved_slot (Some used)) m.used (d, s)
