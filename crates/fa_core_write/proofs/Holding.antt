-- What is reserved may come to hold its page's last write.
use Rattle.fa_machine.proofs.Maps.{get-change, get-insert_same, place_cmp_total, place_same}
use Rattle.fa_machine.specs.Among.{tally}
use Rattle.fa_machine.specs.Conditions.{reserved_under}
use Rattle.fa_machine.specs.Copies.{holds_last, is_current, is_held_slot}
use Rattle.fa_machine.specs.State.{Core, MapState, Reservation, is_live, used_at}
use Rattle.fa_machine.specs.Writing.{without_page}
use Rattle.fa_machine.specs.declared.places.Target.{Target}
use Rattle.fa_machine.specs.declared.places.Used.{Used}
use Rattle.fa_machine.specs.declared.places.Used.TheVariants.{Held, Reserved, Stale}
use Rattle.fa_machine.specs.declared.places.Version.{Version}
use Rattle.fa_map_calls.proofs.Ranges.{find_none}
use Rattle.fa_map_calls.specs.Changes.{renewed}
use Rattle.fa_sound.specs.Sound.{IsSound}
use Rattle.fa_types.specs.declared.numbers.Page.{Page}
use Rattle.fa_core_write.proofs.Kept.{reserved_fit, reserved_kept, owner_of}
use Rattle.fa_core_commit.specs.Holding.{MayHoldAll}
use Rattle.std.proofs.Common.{Bool, List, None, Option, Some, [], ap, arith, eq-eqb, false, get_or, inl, inr, length, map, refl}
use Rattle.std.proofs.Common.{suc, take, true, zero, ℕ, ◌*◌, ◌<◌, ◌≤◌}
use Rattle.std.proofs.Common.{◌∙◌, ◌∷◌, ◌≡◌}
use Rattle.std.proofs.lemmas.Bool.{cases_Bool}
use Rattle.std.specs.FinMap.{get}
use Rattle.std.specs.Prelude.{if◌then◌else◌, is_some, option_map, ◌&&◌, ◌==◌}

one_passes : {X : Type 0} (p : X → Bool) (xs : List X) (k : ℕ) (d : X) → k < length xs → p (get_or xs k d) ≡ true → 1 ≤ tally p xs
one_passes p [] k d low is = absurd (omega (arith, low))
one_passes p (x ∷ xs) zero d low is = let first = ap {B = ℕ} (λ b. if b then 1 else 0) is in omega (arith, first)
one_passes p (x ∷ xs) (suc k) d low is = let rest = one_passes p xs k d (omega (arith, low)) is in omega (arith, rest)

two_pass : {X : Type 0} (p : X → Bool) (xs : List X) (j k : ℕ) (d : X) → j < k → k < length xs → p (get_or xs j d) ≡ true
    → p (get_or xs k d) ≡ true
    → 2 ≤ tally p xs
two_pass p [] j k d less low first second = absurd (omega (arith, low))
two_pass p (x ∷ xs) j zero d less low first second = absurd (omega (arith, less))
two_pass p (x ∷ xs) zero (suc k) d less low first second =
    let one = ap {B = ℕ} (λ b. if b then 1 else 0) first in
    let rest = one_passes p xs k d (omega (arith, low)) second in omega (arith, one, rest)
two_pass p (x ∷ xs) (suc j) (suc k) d less low first second =
    let rest = two_pass p xs j k d (omega (arith, less)) (omega (arith, low)) first second in omega (arith, rest)

-- a page that is renewed has no current copy
not_held : (page : ℕ) (number : Option Version) (u : Option Used) → holds_last page number (option_map (without_page page) u) ≡ false
not_held page None u = refl
not_held page (Some v) None = refl
not_held page (Some v) (Some Reserved) = refl
not_held page (Some v) (Some Stale) = refl
not_held page (Some v) (Some (Held p w)) =
    elim (cases_Bool (p.0 == page)) [
      | inl its ↦ ap (λ b. holds_last page (Some v) (Some (if b then Stale else Held p w))) its
      | inr other ↦ ap (λ b. holds_last page (Some v) (Some (if b then Stale else Held p w))) other
          ∙ ap (λ b. b && w.seq.0 == v.seq.0) other
    ]

-- what is reserved may be held once its page is renewed
pub ready : (core : Core) → IsSound core → (id : ℕ) (r : Reservation) → reserved_under core id ≡ Some r → (page : Page)
    → page.0 < core.page_map.geometry.pages
    → MayHoldAll (renewed page.0 r.version core.page_map) page r.version r.targets
ready core sound id r is page fits = record {
  page_fits = fits;
  last = get-insert_same core.page_map.versions page.0 r.version;
  fits = reserved_fit core sound id r is;
  free = λ k d low live.
      ap is_held_slot (get-change place_cmp_total place_same (λ place u. without_page page.0 u) core.page_map.used
      ((get_or r.targets k d).die.0, (get_or r.targets k d).slot.0)
      ∙ ap (option_map (without_page page.0)) (reserved_kept core sound id r is k d low live));
  once = λ die. ap is_some (find_none (is_current (renewed page.0 r.version core.page_map) page.0 die) 0 _ (λ slot from below.
      ap (λ u. is_live core.page_map die && holds_last page.0 (get (renewed page.0 r.version core.page_map).versions page.0) u)
      (get-change place_cmp_total place_same (λ place u. without_page page.0 u) core.page_map.used (die, slot))
      ∙ ap (λ b. is_live core.page_map die && b)
      (not_held page.0 (get (renewed page.0 r.version core.page_map).versions page.0) (used_at core.page_map die slot))
      ∙ never (is_live core.page_map die)));
  apart = λ j k d less low same.
      let die = (get_or r.targets k d).die.0 in
      let few = sound.spread (Some id) _ (owner_of core id r is) die in
      let two = two_pass (λ (t : Target). t.die.0 == die) r.targets j k d less low (eq-eqb (get_or r.targets j d).die.0 die same)
      (eq-eqb die die refl) in
      omega (arith, few, two);
}
  where
    never : (b : Bool) → (b && false) ≡ false
    never true = refl
    never false = refl
