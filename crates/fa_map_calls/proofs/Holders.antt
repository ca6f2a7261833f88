-- Which slot of a die holds a page, and how many dies do.
use Rattle.std.proofs.Common.{◌≡◌, ℕ, ◌*◌, ◌==◌, true, false, Option, Some, None, ap, inl, inr, refl, sym, ◌∙◌, length}
use Rattle.std.proofs.Common.{eq-eqb, eqb-true}
use Rattle.std.proofs.lemmas.Bool.{and_from, and_left, and_right, cases_Bool}
use Rattle.std.proofs.lemmas.List.Sums.{length-filter}
use Rattle.std.specs.FinMap.{get}
use Rattle.std.specs.Prelude.{count_by, find, is_some, option_map}
use Rattle.fa_machine.specs.declared.places.Used.{Used}
use Rattle.fa_machine.specs.declared.places.Used.TheVariants.{Reserved, Held, Stale}
use Rattle.fa_machine.specs.declared.places.Version.{Version}
use Rattle.fa_machine.specs.Copies.{copy_on, holders, holds_last, holds_page, is_current}
use Rattle.fa_machine.specs.Maps.{below}
use Rattle.fa_machine.specs.State.{MapState, is_live, slots_of, used_at}
use Rattle.fa_map_calls.specs.Slots.{IsPageMap}
use Rattle.fa_map_calls.specs.Plain.{holds}
use Rattle.fa_map_calls.proofs.Ranges.{find_agree}

no_last : (page : ℕ) (number : Option Version) (used : Option Used) → holds page used ≡ false → holds_last page number used ≡ false
no_last page None used e = refl
no_last page (Some v) None e = refl
no_last page (Some v) (Some Reserved) e = refl
no_last page (Some v) (Some Stale) e = refl
no_last page (Some v) (Some (Held p w)) e = and_left (p.0 == page) (w.seq.0 == v.seq.0) e

-- in a page map what a slot holds is current
pub current_holds : (m : MapState) → IsPageMap m → (page die slot : ℕ) → is_current m page die slot ≡ holds page (used_at m die slot)
current_holds m whole page die slot = go (used_at m die slot) refl
  where
    none : (used : Option Used) → used_at m die slot ≡ used → holds page used ≡ false → is_current m page die slot ≡ holds page used
    none used is off =
        and_right (is_live m die) (holds_last page (get m.versions page) (used_at m die slot)) (ap (holds_last page (get m.versions page)) is ∙ no_last page (get m.versions page) used off)
        ∙ sym off

    go : (used : Option Used) → used_at m die slot ≡ used → is_current m page die slot ≡ holds page used
    go None is = none None is refl
    go (Some Reserved) is = none (Some Reserved) is refl
    go (Some Stale) is = none (Some Stale) is refl
    go (Some (Held p v)) is =
        elim (cases_Bool (p.0 == page)) [
          | inr off ↦ none (Some (Held p v)) is off
          | inl on ↦
              let same = eqb-true p.0 page on in
              let number : get m.versions page ≡ Some v = ap (get m.versions) (sym same) ∙ whole.last die slot p v is in
              let last : holds_last page (get m.versions page) (used_at m die slot) ≡ true =
              (λ i. holds_last page (number i) (is i)) ∙ and_from (p.0 == page) (v.seq.0 == v.seq.0) on (eq-eqb v.seq.0 v.seq.0 refl) in
              and_from (is_live m die) (holds_last page (get m.versions page) (used_at m die slot)) (whole.used die slot (ap is_some is)).0 last
              ∙ sym on
        ]

pub copy_found : (m : MapState) → IsPageMap m → (page die : ℕ) → copy_on m page die ≡ find (λ slot. holds page (used_at m die slot)) (slots_of m)
copy_found m whole page die =
    find_agree (is_current m page die) (λ slot. holds page (used_at m die slot)) 0 (m.geometry.blocks * m.geometry.slots) (λ k low high. current_holds m whole page die k)

pub holders_counted : (m : MapState) (page : ℕ) → length (holders m page) ≡ count_by (holds_page m page) (below m.geometry.dies)
holders_counted m page = length-filter (holds_page m page) (below m.geometry.dies)

pub still_some : {X Y : Type 0} (f : X → Y) (o : Option X) → is_some (option_map f o) ≡ is_some o
still_some f None = refl
still_some f (Some x) = refl
