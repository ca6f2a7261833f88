-- The world over what was mounted is a beginning.
use Rattle.std.proofs.Common.{◌≡◌, ℕ, zero, suc, ◌*◌, ◌<◌, ◌≤◌, ◌⊎◌, ◌||◌, inl, inr, Bool, true, false, List, [], ◌∷◌, Option, Some, None}
use Rattle.std.proofs.Common.{length, replicate, refl, sym, ap, subst, ◌∙◌, arith}
use Rattle.std.proofs.lemmas.Bool.{cases_lt, cases_Bool}
use Rattle.std.specs.FinMap.{contains_key, get}
use Rattle.std.specs.Prelude.{All, is_some, slice_index_or}
use Rattle.fa_types.specs.Plain.{HasPages}
use Rattle.fa_types.specs.declared.kind.Kind.{Kind}
use Rattle.fa_tag.specs.SlotGrammar.{IsErased, IsPayloadOf, payload_of}
use Rattle.fa_machine.specs.Beginning.{IsBeginning, IsPlainOf, StandsAt}
use Rattle.fa_machine.specs.Cells.{Empty, Sealed}
use Rattle.fa_machine.specs.State.{is_live, used_at}
use Rattle.fa_machine.specs.World.{World, plain_page}
use Rattle.fa_machine.specs.declared.places.Used.{Used}
use Rattle.fa_machine.specs.declared.places.Used.TheVariants.{Reserved, Held, Stale as StaleSlot}
use Rattle.fa_machine.specs.declared.places.Version.{Version}
use Rattle.fa_mount_scan.proofs.Cells.{one_cell}
use Rattle.fa_mount_scan.proofs.MountedFacts.{current_once, held_found, live_within, none_found, none_reserved, used_within, written_within}
use Rattle.fa_mount_scan.proofs.SlotCells.{copy_bytes, erased_bytes}
use Rattle.fa_mount_scan.specs.MountedWorld.{HoldsPayload, IsFirstPlain, IsMountedWorld, SlotBytes}
use Rattle.fa_mount_scan.specs.declared.slots.content.SlotContent.TheVariants.{Erased, Copy}

zeros_of : (bytes : List ℕ) → All (λ byte. byte ≡ 0) bytes → bytes ≡ replicate (length bytes) 0
zeros_of [] all = refl
zeros_of (byte ∷ bytes) all =
    ap (λ b. b ∷ bytes) (all 0 0 (omega arith)) ∙ ap (λ l. 0 ∷ l) (zeros_of bytes (λ k d within. all (suc k) d (omega (arith, within))))

page_long : (size : ℕ) (pages : List (List ℕ)) (page : ℕ) → HasPages size pages → page < length pages → length (slice_index_or pages page []) ≡ size
page_long size [] page all within = absurd (omega (arith, within))
page_long size (x ∷ pages) zero all within = all.0
page_long size (x ∷ pages) (suc page) all within = page_long size pages page all.1 (omega (arith, within))

two_or_three : (copies : ℕ) → 2 ≤ copies → copies ≤ 3 → (copies ≡ 2) ⊎ (copies ≡ 3)
two_or_three copies least most =
    elim (cases_lt copies 3) [
      | inl below ↦ inl (omega (arith, least, below))
      | inr above ↦ inr (omega (arith, most, above))
    ]

module _ (bytes : SlotBytes) (is_spare : ℕ → Bool) (w : World) (is : IsMountedWorld bytes is_spare w) where
  -- bytes of an erased slot of a live die or of a spare
  erased_there : (die slot : ℕ) → (is_live w.core.page_map die || contains_key w.core.spares die) ≡ true
      → slot < w.core.page_map.geometry.blocks * w.core.page_map.geometry.slots → used_at w.core.page_map die slot ≡ None
      → IsErased (bytes die slot)
  erased_there die slot alive within none =
      elim (cases_Bool (is_live w.core.page_map die)) [
        | inl live ↦
            let found = none_found w.core.page_map.geometry is.holds.contents w.core.page_map is.holds.are is.holds.content die slot live within none in
            erased_bytes (bytes die slot) w.core.page_map.geometry.pages die slot Erased (is.holds.found die slot Erased found) refl
        | inr out ↦ is.holds.erased die slot (is.spares die (sym (ap (λ b. b || contains_key w.core.spares die) out) ∙ alive)) within
      ]

  -- the plain array has what a slot holds
  plain_there : (page : ℕ) (version : Version) (die slot : ℕ) (payload : List ℕ) → get w.core.page_map.versions page ≡ Some version
      → page < w.core.page_map.geometry.pages → HoldsPayload bytes w.core.page_map page version die slot payload → payload ≡ plain_page w page
  plain_there page version die slot payload written within holds =
      let first = subst (IsFirstPlain bytes w.core.page_map page (plain_page w page)) written (is.plain page within) in
      is.agree page version version die slot first.0 first.1 payload (plain_page w page) holds first.2

  stands_at : (die slot : ℕ) → (is_live w.core.page_map die || contains_key w.core.spares die) ≡ true
      → slot < w.core.page_map.geometry.blocks * w.core.page_map.geometry.slots → (used : Option Used)
      → used_at w.core.page_map die slot ≡ used → StandsAt w die slot used
  stands_at die slot alive within None e =
      one_cell (bytes die slot) ((w.images die).seen slot) Empty (is.cells die slot alive within) (erased_there die slot alive within e)
  stands_at die slot alive within (Some Reserved) e =
      absurd (none_reserved w.core.page_map.geometry is.holds.contents w.core.page_map is.holds.are is.holds.content die slot e)
  stands_at die slot alive within (Some StaleSlot) e = tt
  stands_at die slot alive within (Some (Held page version)) e =
      let found = held_found w.core.page_map.geometry is.holds.contents w.core.page_map is.holds.are is.holds.content die slot page version e in
      let copy = copy_bytes (bytes die slot) w.core.page_map.geometry.pages die slot (Copy page version)
      (is.holds.found die slot (Copy page version) found.1) page version refl in
      let plain = plain_there page.0 version die slot (payload_of (bytes die slot)) found.0 copy.0 (record { held = e; sealed = copy.1 }) in (
        found.0,
        one_cell (bytes die slot) ((w.images die).seen slot) (Sealed page.0 version die slot (payload_of (bytes die slot)))
            (is.cells die slot alive within) copy.1
            ∙ ap (Sealed page.0 version die slot) plain,
      )

  plain_of : (page : ℕ) → page < w.core.page_map.geometry.pages → (number : Option Version) → get w.core.page_map.versions page ≡ number
      → IsPlainOf w page number
  plain_of page within None e = subst (IsFirstPlain bytes w.core.page_map page (plain_page w page)) e (is.plain page within)
  plain_of page within (Some version) e =
      let first = subst (IsFirstPlain bytes w.core.page_map page (plain_page w page)) e (is.plain page within) in
      let sealed = first.2.sealed in
      let many = is.pages.0 in
      let long = page_long w.core.page_map.geometry.page_bytes w.plain page is.pages.1 (omega (arith, within, many)) in (
        is.payloads page version e,
        λ hole. zeros_of (plain_page w page) (subst (λ (kind : Kind). IsPayloadOf kind (plain_page w page)) hole sealed.1)
            ∙ ap (λ n. replicate n 0) long,
        sealed.0.seq_from_one,
        is.given page version e,
      )

  not_live : (die : ℕ) → contains_key w.core.spares die ≡ true → is_live w.core.page_map die ≡ false
  not_live die spare = is.holds.content.live die ∙ ap is_some (is.holds.spares die (is.spares die spare)).1

  pub is_beginning : IsBeginning w
  is_beginning =
      let g = w.core.page_map.geometry in
      let m = w.core.page_map in
      record {
        fresh = is.fresh;
        copies = two_or_three w.core.copies is.copies.two_or_three.0 is.copies.two_or_three.1;
        enough = is.copies.each_on_a_die;
        based = is.based;
        last = is.last;
        live = live_within g is.holds.contents m is.holds.are is.holds.content;
        spares = λ die spare. ((is.holds.spares die (is.spares die spare)).0, not_live die spare);
        used = used_within g is.holds.contents m is.holds.are is.holds.content;
        stands = λ die slot alive within. stands_at die slot alive within (used_at m die slot) refl;
        once = current_once g is.holds.contents m is.holds.are is.holds.content;
        written = written_within g is.holds.contents m is.holds.are is.holds.content;
        plain = λ page within. plain_of page within (get m.versions page) refl;
        pages = is.pages;
        idle = is.idle;
        told = is.told;
      }
