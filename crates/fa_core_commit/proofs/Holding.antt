-- Slots that come to hold a page's last write, one after the other.
use Rattle.fa_machine.proofs.Lists.{among-filter, among-map}
use Rattle.fa_machine.proofs.Maps.{place_cmp_total, place_same}
use Rattle.fa_machine.proofs.Values.{get-insert_all}
use Rattle.fa_machine.specs.Among.{Among}
use Rattle.fa_machine.specs.Copies.{holds_last, is_current, is_held_slot}
use Rattle.fa_machine.specs.State.{MapState, is_live, used_at}
use Rattle.fa_machine.specs.Writing.{with_targets}
use Rattle.fa_machine.specs.declared.places.Target.{Target}
use Rattle.fa_machine.specs.declared.places.Used.TheVariants.{Held}
use Rattle.fa_machine.specs.declared.places.Version.{Version}
use Rattle.fa_map_calls.proofs.Ranges.{find_agree}
use Rattle.fa_map_calls.specs.Changes.{MayKeep}
use Rattle.fa_types.specs.declared.numbers.Page.{Page}
use Rattle.fa_core_commit.specs.Holding.{MayHoldAll, live_of}
use Rattle.std.proofs.Common.{List, [], ap, arith, get_or, inl, inr, length, map, suc, take, true, zero, ℕ, ◌*◌, ◌<◌}
use Rattle.std.proofs.Common.{◌∙◌, ◌∷◌, ◌≡◌}
use Rattle.std.specs.FinMap.{get}
use Rattle.std.specs.Prelude.{is_some, ◌&&◌}

-- what stands among the first elements stands at one of the first indices
among_first : (ts : List Target) (n : ℕ) (t : Target) → Among t (take n ts) → (j : ℕ) × (j < n) × ((d : Target) → get_or ts j d ≡ t)
among_first ts zero t i = absurd i
among_first [] (suc n) t i = absurd i
among_first (x ∷ ts) (suc n) t (inl is) = (0, omega arith, λ d. is)
among_first (x ∷ ts) (suc n) t (inr rest) =
    let found = among_first ts n t rest in
    let low = found.1 in (suc found.0, omega (arith, low), found.2)

module _ (m : MapState) (page : Page) (version : Version) (ts : List Target) (may : MayHoldAll m page version ts) where
  -- the state where the first slots hold the write
  abbrev pub held_first : ℕ → MapState
  held_first n = with_targets (Held page version) (live_of m (take n ts)) m

  -- a slot of a die that comes later is as it was
  untouched : (n : ℕ) (d : Target) → n < length ts → (slot : ℕ)
      → used_at (held_first n) (get_or ts n d).die.0 slot ≡ used_at m (get_or ts n d).die.0 slot
  untouched n d low slot =
      elim (get-insert_all place_cmp_total place_same (map (λ (t : Target). (t.die.0, t.slot.0)) (live_of m (take n ts)))
      (Held page version) m.used
      ((get_or ts n d).die.0, slot)) [
        | inl same ↦ same
        | inr among ↦
            let at = among-map (λ (t : Target). (t.die.0, t.slot.0)) ((get_or ts n d).die.0, slot) (live_of m (take n ts)) among.0 in
            let first = among_first ts n at.0 (among-filter (λ (t : Target). is_live m t.die.0) at.0 (take n ts) at.1).0 in
            absurd (may.apart first.0 n d first.1 low (ap (λ (t : Target). t.die.0) (first.2 d) ∙ ap (λ (place : ℕ × ℕ). place.0) at.2))
      ]

  pub may_keep : (n : ℕ) (d : Target) → n < length ts → is_live m (get_or ts n d).die.0 ≡ true
      → MayKeep (held_first n) page version (get_or ts n d).die.0 (get_or ts n d).slot.0
  may_keep n d low live = record {
    page_fits = may.page_fits;
    slot_fits = may.fits n d low live;
    live = live;
    last = may.last;
    free = ap is_held_slot (untouched n d low (get_or ts n d).slot.0) ∙ may.free n d low live;
    once = ap is_some (find_agree (is_current (held_first n) page.0 (get_or ts n d).die.0) (is_current m page.0 (get_or ts n d).die.0) 0
        (m.geometry.blocks * m.geometry.slots) (λ slot from below.
        ap (λ u. is_live m (get_or ts n d).die.0 && holds_last page.0 (get m.versions page.0) u) (untouched n d low slot)))
        ∙ may.once (get_or ts n d).die.0;
  }
