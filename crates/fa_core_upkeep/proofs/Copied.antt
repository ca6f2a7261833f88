-- What is true of the copy under way.
use Rattle.fa_machine.specs.Conditions.{first_that}
use Rattle.fa_machine.specs.Copies.{holds_last, is_current, is_held_slot}
use Rattle.fa_machine.specs.State.{Core, is_live, used_at}
use Rattle.fa_machine.specs.Turning.{has_number}
use Rattle.fa_machine.specs.declared.places.Copying.{Copying}
use Rattle.fa_machine.specs.declared.places.Used.{Used}
use Rattle.fa_machine.specs.declared.places.Used.TheVariants.{Held, Reserved, Stale}
use Rattle.fa_machine.specs.declared.places.Version.{Version}
use Rattle.fa_machine.specs.declared.refusals.CommitCopyRefused.{CommitCopyRefused}
use Rattle.fa_machine.specs.declared.refusals.CommitCopyRefused.TheVariants.{Failed, Pending}
use Rattle.fa_map_calls.proofs.Ranges.{find_none}
use Rattle.fa_map_calls.specs.Changes.{MayKeep}
use Rattle.fa_map_calls.specs.Slots.{IsPageMap}
use Rattle.fa_sound.specs.Owners.{owned_of}
use Rattle.fa_sound.specs.Sound.{IsSound}
use Rattle.fa_types.specs.declared.numbers.Page.{Page}
use Rattle.std.proofs.Common.{Bool, None, Option, Some, [], ap, eqb-true, false, inl, refl, sym, true, ℕ, ◌*◌, ◌<◌, ◌∙◌, ◌∷◌, ◌≡◌}
use Rattle.std.proofs.lemmas.Bool.{and_parts, false_from_ne_true, false≢true}
use Rattle.std.proofs.lemmas.Option.{none-some}
use Rattle.std.specs.FinMap.{get}
use Rattle.std.specs.Prelude.{is_some, not, ◌&&◌, ◌==◌}

-- a copy that is not refused is on a live die
pub live_unless : (live done : Bool)
    → first_that {R = CommitCopyRefused} ((live && not done, Pending) ∷ (not live, Failed) ∷ []) ≡ None → live ≡ true
live_unless true done is = refl
live_unless false done is = absurd (none-some Failed (sym is))

-- a page with a number has been written
numbered : (seq : ℕ) (o : Option Version) → has_number seq o ≡ true → (v : Version) × (o ≡ Some v) × (v.seq.0 ≡ seq)
numbered seq None is = absurd (false≢true is)
numbered seq (Some v) is = (v, refl, eqb-true v.seq.0 seq is)

-- a slot that holds no copy with the number is not current
not_last : (page : ℕ) (number : Version) (u : Option Used)
    → ((p : Page) (v : Version) → u ≡ Some (Held p v) → p.0 ≡ page → v.seq.0 ≡ number.seq.0 → ⊥) → holds_last page (Some number) u ≡ false
not_last page number None off = refl
not_last page number (Some Reserved) off = refl
not_last page number (Some Stale) off = refl
not_last page number (Some (Held p v)) off = false_from_ne_true _ (λ is.
    let both = and_parts (p.0 == page) (v.seq.0 == number.seq.0) is in
    off p v refl (eqb-true p.0 page both.0) (eqb-true v.seq.0 number.seq.0 both.1))

never : (b : Bool) → (b && false) ≡ false
never true = refl
never false = refl

module _ (core : Core) (sound : IsSound core) (c : Copying) (is : core.copying ≡ Some c) where
  owner : owned_of core.copying core.claims None ≡ Some (record { page = c.page.0; version = c.version; targets = c.target ∷ [] })
  owner = ap (λ (o : Option Copying). owned_of o core.claims None) is

  -- its page is one of the array's
  pub page_inside : IsPageMap core.page_map → c.page.0 < core.page_map.geometry.pages
  page_inside whole = whole.written c.page.0 (sound.old _ owner).written

  kept : is_live core.page_map c.target.die.0 ≡ true → used_at core.page_map c.target.die.0 c.target.slot.0 ≡ Some Reserved
  kept live =
      (sound.targets c.target.die.0 c.target.slot.0 (record {
        owner = None;
        owned = _;
        target = c.target;
        owns = owner;
        among = inl refl;
        on_die = refl;
        at_slot = refl;
      })).kept live

  -- and its slot one of the die's
  pub slot_inside : is_live core.page_map c.target.die.0 ≡ true
      → c.target.slot.0 < core.page_map.geometry.blocks * core.page_map.geometry.slots
  slot_inside live = (sound.slots c.target.die.0 c.target.slot.0 Reserved (kept live)).inside

  -- it may be held while the page has its number
  pub may_keep : IsPageMap core.page_map → is_live core.page_map c.target.die.0 ≡ true
      → has_number c.version.seq.0 (get core.page_map.versions c.page.0) ≡ true
      → MayKeep core.page_map c.page c.version c.target.die.0 c.target.slot.0
  may_keep whole live number =
      let found = numbered c.version.seq.0 (get core.page_map.versions c.page.0) number in
      let same : found.0 ≡ c.version = (sound.old _ owner).same found.0 found.1 found.2 in
      let last : get core.page_map.versions c.page.0 ≡ Some c.version = found.1 ∙ ap Some same in
      record {
        page_fits = page_inside whole;
        slot_fits = slot_inside live;
        live = live;
        last = last;
        free = ap is_held_slot (kept live);
        once = ap is_some (find_none (is_current core.page_map c.page.0 c.target.die.0) 0 _ (λ slot from below.
            ap (λ o. is_live core.page_map c.target.die.0 && holds_last c.page.0 o (used_at core.page_map c.target.die.0 slot)) last
            ∙ ap (λ b. is_live core.page_map c.target.die.0 && b)
            (not_last c.page.0 c.version (used_at core.page_map c.target.die.0 slot) (λ p v held page_is seq_is.
            sound.away _ owner c.target (inl refl) slot p v held page_is seq_is))
            ∙ never (is_live core.page_map c.target.die.0)));
      }
