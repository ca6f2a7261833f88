-- What is left of the pages that were written, and of the places of a page, after one more was looked up.
use Rattle.std.proofs.Common.{◌≡◌, ℕ, zero, suc, ◌+◌, ◌-◌, ◌<◌, [], ◌∷◌, Option, Some, None, cond, refl, ap, sym, ◌∙◌, arith}
use Rattle.std.proofs.lemmas.Option.{none-some, same_Some}
use Rattle.std.specs.FinMap.{get}
use Rattle.std.specs.List.{range_with_len}
use Rattle.std.specs.Prelude.{IfSome, find, is_some, option_map}
use Rattle.fa_types.specs.declared.numbers.Die.{Die}
use Rattle.fa_types.specs.declared.numbers.Slot.{Slot}
use Rattle.fa_machine.specs.declared.places.Version.{Version}
use Rattle.fa_machine.specs.Copies.{copy_on, holds_page}
use Rattle.fa_machine.specs.State.{MapState}
use Rattle.fa_map_calls.specs.Slots.{first_holder}
use Rattle.fa_mount_scan.specs.Pages.{place_at, place_on, places_from, places_left, places_of, written_at, written_from, Written}
use Rattle.fa_mount_scan.proofs.GivenNumbers.{all_given, given_at_all, next_number, none_given, one_given}

module _ (m : MapState) where
  abbrev written_as : ℕ → Version → Written
  written_as page version = record { page = record { 0 = page }; version = version; places = places_of m page }

  pub page_given : (page : ℕ) (version : Version) → page < m.geometry.pages → get m.versions page ≡ Some version
      → written_from m page ≡ record { page = record { 0 = page }; version = version; places = places_of m page } ∷ written_from m (page + 1)
  page_given page version below is = one_given (written_at m) page m.geometry.pages (written_as page version) below (ap (option_map (written_as page)) is)

  pub page_passed : (page : ℕ) → page < m.geometry.pages → get m.versions page ≡ None → written_from m page ≡ written_from m (page + 1)
  page_passed page below is = none_given (written_at m) page m.geometry.pages below (ap (option_map (written_as page)) is)

-- ## Places

die_number : Die × Slot → ℕ
die_number copy = copy.0.0

module _ (m : MapState) (page : ℕ) where
  abbrev first_from : ℕ → Option ℕ
  first_from first = find (holds_page m page) (range_with_len first (m.geometry.dies - first))

  abbrev IsCopy : Option (Die × Slot) → Type 0
  IsCopy copy = IfSome copy (λ c. copy_on m page c.0.0 ≡ Some c.1.0)

  -- the die is asked first
  asked : (first : ℕ) → first < m.geometry.dies → first_from first ≡ cond (holds_page m page first) (Some first) (first_from (first + 1))
  asked first below = ap (find (holds_page m page)) (next_number first m.geometry.dies below)

  -- the first place, and those behind it
  first_given : (first : ℕ) → first < m.geometry.dies → (copy : Option (Die × Slot)) → option_map die_number copy ≡ Some first → IsCopy copy
      → places_left m page copy ≡ places_from m page first
  unfolding die_number
  first_given first below None at is = absurd (none-some first at)
  first_given first below (Some c) at is =
      let same : c.0.0 ≡ first = same_Some c.0.0 first at in
      sym (one_given (place_on m page) c.0.0 m.geometry.dies c (omega (arith, same, below)) (ap (option_map (place_at c.0.0)) is))
      ∙ ap (places_from m page) same

  none_left : (copy : Option (Die × Slot)) → option_map die_number copy ≡ None → places_left m page copy ≡ []
  none_left None at = refl
  none_left (Some c) at = absurd (none-some (die_number c) (sym at))

  left_among : (n first : ℕ) → m.geometry.dies - first ≡ n → (copy : Option (Die × Slot)) → option_map die_number copy ≡ first_from first
      → IsCopy copy → places_left m page copy ≡ places_from m page first
  left_among zero first size copy at is =
      none_left copy (at ∙ ap (λ k. find (holds_page m page) (range_with_len first k)) size)
      ∙ sym (all_given (place_on m page) first m.geometry.dies (omega arith))
  left_among (suc n) first size copy at is =
      go (copy_on m page first) refl (left_among n (first + 1) (omega arith) copy)
    where
      below : first < m.geometry.dies
      below = omega arith

      go : (o : Option ℕ) → copy_on m page first ≡ o
          → (option_map die_number copy ≡ first_from (first + 1) → IsCopy copy → places_left m page copy ≡ places_from m page (first + 1))
          → places_left m page copy ≡ places_from m page first
      go None none later =
          later (at ∙ asked first below ∙ ap (λ (k : Option ℕ). cond (is_some k) (Some first) (first_from (first + 1))) none) is
          ∙ sym (none_given (place_on m page) first m.geometry.dies below (ap (option_map (place_at first)) none))
      go (Some slot) some later =
          first_given first below copy
          (at ∙ asked first below ∙ ap (λ (k : Option ℕ). cond (is_some k) (Some first) (first_from (first + 1))) some) is

  -- the copy that a map answers is the first of the places that are left
  pub left_from : (first : ℕ) (copy : Option (Die × Slot)) → option_map (λ (c : Die × Slot). c.0.0) copy ≡ first_holder m page first → IsCopy copy
      → places_left m page copy ≡ places_from m page first
  unfolding die_number
  left_from first copy at is = left_among (m.geometry.dies - first) first refl copy at is

  -- all of them
  pub left_of_all : (copy : Option (Die × Slot)) → option_map (λ (c : Die × Slot). c.0.0) copy ≡ first_holder m page 0 → IsCopy copy
      → places_left m page copy ≡ places_of m page
  left_of_all copy at is = left_from 0 copy at is ∙ given_at_all (place_on m page) m.geometry.dies
