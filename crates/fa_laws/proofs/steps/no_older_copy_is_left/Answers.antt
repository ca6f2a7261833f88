use Rattle.std.proofs.Common.{◌≡◌, ℕ, Bool, true, false, inl, inr, map, Option, Some, None, refl, sym, ap, ◌∙◌, eq-eqb}
use Rattle.std.specs.Prelude.{◌==◌, if◌then◌else◌, option_map, Ok}
use Rattle.std.specs.FinMap.{get}
use Rattle.std.proofs.lemmas.Bool.{true≢false, false≢true}
use Rattle.std.proofs.lemmas.Option.{none-some, same_Some}
use Rattle.fa_types.specs.declared.numbers.Page.{Page}
use Rattle.fa_types.specs.declared.numbers.Seq.{Seq}
use Rattle.fa_machine.specs.declared.places.Used.{Used}
use Rattle.fa_machine.specs.declared.places.Used.TheVariants.{Reserved, Held, Stale}
use Rattle.fa_machine.specs.declared.places.Version.{Version}
use Rattle.fa_machine.specs.Conditions.{reserved_under}
use Rattle.fa_machine.specs.Maps.{change}
use Rattle.fa_machine.specs.State.{Core, Reservation, used_at}
use Rattle.fa_machine.specs.Writing.{Commits, claimed_page, committed, live_targets, without_page}
use Rattle.fa_machine.proofs.Maps.{get-change, place_cmp_total, place_same}
use Rattle.fa_machine.proofs.Values.{get-insert_all}
use Rattle.fa_laws.proofs.steps.no_older_copy_is_left.Goals as goal

abbrev number_of : Version → Used → Version
number_of other Reserved = other
number_of other (Held page version) = version
number_of other Stale = other

abbrev is_held : Used → Bool
is_held Reserved = false
is_held (Held page version) = true
is_held Stale = false

abbrev page_of : ℕ → Used → ℕ
page_of other Reserved = other
page_of other (Held page version) = page.0
page_of other Stale = other

-- what was staled holds the page no more
staled : (p : ℕ) (used : Used) (page : Page) (version : Version) → Held page version ≡ without_page p used → page.0 ≡ p → ⊥
staled p Reserved page version e same = false≢true (sym (ap is_held e))
staled p Stale page version e same = false≢true (sym (ap is_held e))
staled p (Held page' version') page version e same =
    elim (page'.0 == p) as (λ b. (page'.0 == p) ≡ b → Held page version ≡ (if b then Stale else Held page' version') → ⊥) [
      | true ↦ λ is found. false≢true (sym (ap is_held found))
      | false ↦ λ is found. true≢false (sym (eq-eqb page'.0 p (sym (ap (page_of 0) found) ∙ same)) ∙ is)
    ] refl e

not_staled : (p : ℕ) (found : Option Used) (page : Page) (version : Version) → option_map (without_page p) found ≡ Some (Held page version)
    → page.0 ≡ p → ⊥
not_staled p None page version e same = none-some _ e
not_staled p (Some used) page version e same = staled p used page version (sym (same_Some _ _ e)) same

no_older : (old new : Core) (claim seat die slot : ℕ) (seq : Seq) (page : Page) (version : Version) (r : Option Reservation)
    → Commits old claim seat r (Ok seq) new → used_at new.page_map die slot ≡ Some (Held page version)
    → page.0 ≡ claimed_page old claim → version.seq ≡ seq
no_older old new claim seat die slot seq page version None commits held same = absurd commits
no_older old new claim seat die slot seq page version (Some r) commits held same =
    let p = claimed_page old claim in
    let there : used_at (committed claim seat r old).page_map die slot ≡ Some (Held page version) =
    sym (ap (λ (core : Core). used_at core.page_map die slot) commits.2) ∙ held in
    let before = change (λ place used. without_page p used) old.page_map.used in
    elim (get-insert_all place_cmp_total place_same (map (λ t. (t.die.0, t.slot.0)) (live_targets old r.targets))
    (Held (record { 0 = p }) r.version) before (die, slot)) [
      | inr found ↦ sym (ap (λ (used : Used). (number_of version used).seq) (same_Some _ _ (sym found.1 ∙ there))) ∙ sym commits.1
      | inl kept ↦
          absurd (not_staled p (get old.page_map.used (die, slot)) page version
          (sym (get-change place_cmp_total place_same (λ place used. without_page p used) old.page_map.used (die, slot)) ∙ sym kept ∙ there) same)
    ]

pub returns : goal.returns
returns c old new claim seat die slot seq page version commits held same =
    no_older old new claim seat die slot seq page version (reserved_under old claim) commits held same
