-- What is true of an array as it is mounted, after an event, and once buffers came back.
use Rattle.fa_core_batches.specs.Batches.{batches_of, bytes_of, next_of, state_of as stands_in}
use Rattle.fa_core_batches.specs.Pages.{opened}
use Rattle.fa_core_batches.specs.declared.batches.Batches.{Batches}
use Rattle.fa_core.specs.Array.{IsWhole, state_of}
use Rattle.fa_core_state.specs.Begun.{begun, numbers_of}
use Rattle.fa_core.specs.declared.array.Array.{Array}
use Rattle.fa_laws.specs.Counted.{HasHistory}
use Rattle.fa_machine.proofs.Maps.{found_changed, has_some, nat_same}
use Rattle.fa_machine.specs.Conditions.{claim_open}
use Rattle.fa_machine.specs.Maps.{Numbers}
use Rattle.fa_machine.specs.Reading.{zeros}
use Rattle.fa_machine.specs.State.{Core, MapState, OpenBatch, OpenClaim, is_live}
use Rattle.fa_machine.specs.Step.{Act, Step}
use Rattle.fa_machine.specs.Writing.{claimed_page}
use Rattle.fa_machine.specs.declared.places.Used.TheVariants.{Held}
use Rattle.fa_machine.specs.declared.places.Version.{Version}
use Rattle.fa_map_calls.specs.Slots.{IsPageMap}
use Rattle.fa_core_read.proofs.Others.{AreInside, fitted_with, tracked_again}
use Rattle.fa_sound.specs.Owners.{Owned, owned_claim, owned_of}
use Rattle.fa_sound.specs.Ready.{AreReady}
use Rattle.fa_sound.specs.Sound.{IsSound}
use Rattle.fa_core_state.specs.Fitted.{IsFitted}
use Rattle.fa_types.specs.declared.geometry.Geometry.{Geometry}
use Rattle.std.proofs.Common.{None, Option, Some, ap, arith, false, length, map, refl, subst, sym, true, ℕ, ◌-◌, ◌<◌, ◌≤◌, ◌∙◌, ◌≡◌}
use Rattle.std.proofs.lemmas.Option.{none-some, same_Some}
use Rattle.std.specs.Cmp.{nat_cmp_total}
use Rattle.std.specs.FinMap.{FinMap, contains_key, empty, entries, get, get-empty, get-entries, get-from_entries}
use Rattle.std.specs.Ordering.{nat_cmp}
use Rattle.std.specs.Prelude.{is_some, option_and_then, option_map, replicate, unwrap_or}

-- the numbers that the pages have, page by page
numbers_get : (m : MapState) (page : ℕ) → get (numbers_of m) page ≡ option_map (λ (v : Version). v.seq.0) (get m.versions page)
numbers_get m page =
    get-from_entries nat_cmp_total (map (λ e. (e.0, e.1.seq.0)) (entries m.versions)) page
    ∙ found_changed nat_cmp_total nat_same (λ (page : ℕ) (version : Version). version.seq.0) page (entries m.versions)
    ∙ sym (ap (option_map (λ (v : Version). v.seq.0)) (get-entries m.versions page))

pub begun_history : (copies : ℕ) (m : MapState) (epoch : ℕ) (spares : Numbers) (last : ℕ) → HasHistory (begun copies m epoch spares last)
begun_history copies m epoch spares last = record { replayed = numbers_get m; legal = refl }

-- the state as it is mounted is sound
module _ (copies : ℕ) (m : MapState) (epoch : ℕ) (spares : Numbers) (last : ℕ) (whole : IsPageMap m)
    (numbers : (page : ℕ) (version : Version) → get m.versions page ≡ Some version → (1 ≤ version.seq.0) × (version.seq.0 ≤ last)) where
  none_owned : (owner : Option ℕ) (x : Owned) → owned_of None empty owner ≡ Some x → ⊥
  none_owned None x is = none-some x is
  none_owned (Some id) x is = none-some x (sym (ap (option_and_then owned_claim) (get-empty nat_cmp id)) ∙ is)

  none_claimed : (id page : ℕ) → option_map (λ (c : OpenClaim). c.page) (get (empty {X = OpenClaim} {R = nat_cmp}) id) ≡ Some page → ⊥
  none_claimed id page is =
      none-some page (sym (ap (option_map (λ (c : OpenClaim). c.page)) (get-empty nat_cmp id)) ∙ is)

  pub begun_sound : 2 ≤ copies → copies ≤ 3 → copies ≤ m.geometry.dies - m.geometry.spares
      → ((die : ℕ) → contains_key spares die ≡ true → die < m.geometry.dies)
      → ((die : ℕ) → contains_key spares die ≡ true → is_live m die ≡ false) → IsSound (begun copies m epoch spares last)
  begun_sound least most enough inside apart = record {
    copies = record { least = least; most = most; enough = enough };
    numbers = λ page version is. let n = numbers page version is in
        record { inside = whole.written page (ap is_some is); given = n.0; below = n.1 };
    slots = λ die slot used is. let there = whole.used die slot (ap is_some is) in record { on_live = there.0; inside = there.1 };
    held = whole.last;
    once = λ die slot other page version second here there.
        let same = same_Some second version (sym (whole.last die other page second there) ∙ whole.last die slot page version here) in
        whole.once die slot other page version here (there ∙ ap (λ v. Some (Held page v)) same);
    targets = λ die slot a. absurd (none_owned a.owner a.owned a.owns);
    apart = λ die slot a b on. absurd (none_owned a.owner a.owned a.owns);
    spread = λ owner x is. absurd (none_owned owner x is);
    new = λ id x is. absurd (none_owned (Some id) x is);
    old = λ x is. absurd (none_owned None x is);
    away = λ x is. absurd (none_owned None x is);
    jobs = λ die flight is. absurd (none-some flight (sym (get-empty nat_cmp die) ∙ is));
    dies = record { live_inside = whole.live; spare_inside = inside; apart = apart };
    claims = record { inside = λ id p is. absurd (none_claimed id p is); once = λ id other p is also. absurd (none_claimed id p is) };
  }

-- the page of a claim that is open is one of the array
pub claimed_inside : (core : Core) → IsSound core → (claim : ℕ) → claim_open core claim ≡ true
    → claimed_page core claim < core.page_map.geometry.pages
claimed_inside core sound claim is =
    let found = has_some (get core.claims claim) is in
    subst (λ (o : Option OpenClaim). unwrap_or (option_map (λ (c : OpenClaim). c.page) o) 0 < core.page_map.geometry.pages) (sym found.1)
    (sound.claims.inside claim found.0.page (ap (option_map (λ (c : OpenClaim). c.page)) found.1))

-- an event keeps what is true of the array, and its page of zeros stays
module _ {M A : Type 0} (view : M → MapState) (old new : Array M A) (act : Act)
    (step : Step (state_of view old) act (state_of view new)) where
  pub whole_after : ((a b : Core) (x : Act) → Step a x b → IsSound a → IsSound b)
      → ((a b : Core) (x : Act) → Step a x b → IsSound a → AreReady a → AreReady b)
      → ((a b : Core) (x : Act) → Step a x b → HasHistory a → HasHistory b)
      → ((a b : Core) (x : Act) → Step a x b → b.page_map.geometry ≡ a.page_map.geometry)
      → IsWhole view old → IsFitted view new.state → new.zeros ≡ old.zeros → IsWhole view new
  whole_after sound ready history geometry whole fitted same = record {
    sound = sound (state_of view old) (state_of view new) act step whole.sound;
    ready = ready (state_of view old) (state_of view new) act step whole.sound whole.ready;
    fitted = fitted;
    history = history (state_of view old) (state_of view new) act step whole.history;
    zeros = same ∙ whole.zeros
        ∙ sym (ap (λ (k : Geometry). replicate k.page_bytes 0) (geometry (state_of view old) (state_of view new) act step));
  }

-- an array with other batches of which clauses see the same
module _ {M A : Type 0} (view : M → MapState) (array : Array M A) (after : Batches A) where
  same_state : batches_of after ≡ batches_of array.state.batches
      → state_of view (record array { state = record array.state { batches = after } }) ≡ state_of view array
  same_state same = ap (λ (m : FinMap nat_cmp OpenBatch). record (state_of view array) { batches = m }) same

  pub whole_with : batches_of after ≡ batches_of array.state.batches
      → ((b p : ℕ) → stands_in after b p ≡ stands_in array.state.batches b p) → next_of after ≡ next_of array.state.batches
      → bytes_of after ≡ bytes_of array.state.batches → IsWhole view array
      → IsWhole view (record array { state = record array.state { batches = after } })
  whole_with batches states number bytes whole = record {
    sound = subst IsSound (sym (same_state batches)) whole.sound;
    ready = subst AreReady (sym (same_state batches)) whole.ready;
    fitted = fitted_with view array.state whole.fitted after bytes
        (tracked_again array.state.batches after _ _ whole.fitted.tracked states batches (omega (arith, number)))
        (λ batch. subst (λ (m : FinMap nat_cmp OpenBatch). AreInside (view array.state.page_map).geometry.pages (opened m batch).pages)
        (sym batches) (whole.fitted.listed batch))
        (λ batch. subst (λ (m : FinMap nat_cmp OpenBatch). length (opened m batch).pages ≤ 1024) (sym batches) (whole.fitted.few batch));
    history = subst HasHistory (sym (same_state batches)) whole.history;
    zeros = whole.zeros;
  }
