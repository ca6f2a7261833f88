-- When a slot may come to hold a write of a page, by what looks tell.
use Rattle.std.proofs.Common.{◌≡◌, ℕ, ◌*◌, ◌<◌, ◌==◌, true, false, Option, Some, None, ap, refl, sym, ◌∙◌, arith, eq-eqb}
use Rattle.std.proofs.lemmas.Bool.{false≢true}
use Rattle.std.proofs.lemmas.Option.{same_Some}
use Rattle.std.specs.FinMap.{get}
use Rattle.std.specs.Prelude.{is_some, option_map}
use Rattle.fa_types.specs.declared.numbers.Page.{Page}
use Rattle.fa_machine.specs.declared.places.Used.{Used}
use Rattle.fa_machine.specs.declared.places.Used.TheVariants.{Reserved, Held, Stale}
use Rattle.fa_machine.specs.declared.places.Version.{Version}
use Rattle.fa_machine.specs.Copies.{copy_on, is_held_slot}
use Rattle.fa_machine.specs.State.{MapState, is_live, used_at}
use Rattle.fa_map_calls.specs.Changes.{MayHold}
use Rattle.fa_map_calls.specs.Slots.{IsPageMap, copy_in}
use Rattle.fa_map_calls.specs.Plain.{holds}
use Rattle.fa_map_calls.proofs.Holders.{copy_found}
use Rattle.fa_map_calls.proofs.Ranges.{count_none, find_counted}

pub held_copy : (used : Option Used) → is_some (copy_in used) ≡ is_held_slot used
held_copy None = refl
held_copy (Some Reserved) = refl
held_copy (Some (Held p v)) = refl
held_copy (Some Stale) = refl

module _ (m : MapState) (whole : IsPageMap m) (page : Page) (version : Version) (die slot : ℕ) (page_fits : page.0 < m.geometry.pages)
    (slot_fits : slot < m.geometry.blocks * m.geometry.slots) (live : is_live m die ≡ true) (free : is_held_slot (used_at m die slot) ≡ false) where
  -- one more copy of the page's last write, on a die that does not hold it
  pub may_hold_more : copy_on m page.0 die ≡ None → get m.versions page.0 ≡ Some version → MayHold m page version die slot
  may_hold_more none last = record {
    page_fits = page_fits;
    slot_fits = slot_fits;
    live = live;
    free = free;
    once = λ other v is.
        let inside = (whole.used die other (ap is_some is)).1 in
        let bare = count_none (λ s. holds page.0 (used_at m die s)) 0 (m.geometry.blocks * m.geometry.slots) other (omega arith) (omega arith)
        (find_counted (λ s. holds page.0 (used_at m die s)) 0 (m.geometry.blocks * m.geometry.slots) (sym (copy_found m whole page.0 die) ∙ none)) in
        absurd (false≢true (sym bare ∙ ap (holds page.0) is ∙ eq-eqb page.0 page.0 refl));
    one_kind = λ v is seqs. same_Some v version (sym is ∙ last);
  }

  -- a copy of another write than the page's last
  pub may_hold_new : ((v : Version) → get m.versions page.0 ≡ Some v → (v.seq.0 == version.seq.0) ≡ false) → MayHold m page version die slot
  may_hold_new new = record {
    page_fits = page_fits;
    slot_fits = slot_fits;
    live = live;
    free = free;
    once = λ other v is. new v (whole.last die other page v is);
    one_kind = λ v is seqs. absurd (false≢true (sym (new v is) ∙ seqs));
  }

pub none_mapped : {X Y : Type 0} (f : X → Y) (o : Option X) → is_some o ≡ false → option_map f o ≡ None
none_mapped f None e = refl
none_mapped f (Some x) e = absurd (false≢true (sym e))
