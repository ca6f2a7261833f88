-- What is mounted of a cut is again such as a run begins with.
use Rattle.fa_crash.proofs.Standing.{number_is, number_none}
use Rattle.fa_crash.specs.Flushed.{AreOfLast}
use Rattle.fa_crash.specs.Outlasts.{AreReserved, IsLeftOn}
use Rattle.fa_crash.specs.Unsynced.{number_of}
use Rattle.fa_crash.proofs.Mounted.{CopyLaw, OneCellLaw, held_bytes, number_left}
use Rattle.fa_crash.specs.Left.{IsMountedLeft}
use Rattle.fa_machine.specs.Cells.{Cell, Empty, Sealed}
use Rattle.fa_machine.specs.State.{MapState, is_live}
use Rattle.fa_machine.specs.World.{World, plain_page}
use Rattle.fa_machine.specs.declared.places.Version.{Version}
use Rattle.fa_mount_scan.proofs.MountedFacts.{held_found, used_within}
use Rattle.fa_mount_scan.specs.ContentCells.{IsCellOf, tag_of}
use Rattle.fa_mount_scan.specs.MountedWorld.{CopiesAgree, HoldsPayload, IsFirstPlain, IsMountedWorld, SlotBytes}
use Rattle.fa_mount_scan.specs.declared.slots.content.SlotContent.TheVariants.{Copy}
use Rattle.fa_tag.specs.SlotGrammar.{IsSlot}
use Rattle.fa_types.specs.declared.geometry.Geometry.{Geometry}
use Rattle.fa_types.specs.declared.numbers.Page.{Page}
use Rattle.std.proofs.Common.{Bool, List, None, Option, Some, ap, arith, false, inl, inr, refl, subst, sym, true, ℕ, ◌*◌, ◌<◌, ◌∙◌, ◌≡◌, ◌≤◌, ◌⊎◌}
use Rattle.std.proofs.lemmas.Bool.{cases_Bool}
use Rattle.std.proofs.lemmas.Option.{same_Some}
use Rattle.std.specs.FinMap.{contains_key, get}
use Rattle.std.specs.Prelude.{is_some, ◌||◌}

or_right : (a b : Bool) → a ≡ false → (a || b) ≡ true → b ≡ true
or_right a b out either = sym (ap (λ (x : Bool). x || b) out) ∙ either

-- a page that was mounted in the life before has a good cell on a live die, with no smaller number
pub record LeftLive (first w : World) (cells : ℕ → ℕ → Cell) (m : MapState) (page : ℕ) : Type 0 where
  pub die : ℕ
  pub left : IsLeftOn w cells page (number_of first.core page) die
  pub alive : is_live m die ≡ true

module _ (one_cell : OneCellLaw) (copy_law : CopyLaw) (first w : World) (cells : ℕ → ℕ → Cell) (bytes : SlotBytes) (is_spare : ℕ → Bool) (m : MapState)
    (l : IsMountedLeft first w cells bytes is_spare m)
    (reserved : (page : ℕ) → page < w.core.page_map.geometry.pages → AreReserved first w cells page (number_of first.core page))
    (lefts : (page : ℕ) (version : Version) → get first.core.page_map.versions page ≡ Some version → LeftLive first w cells m page) where
  -- what is mounted is of no older write
  pub at_least : (page : ℕ) (version : Version) → get m.versions page ≡ Some version → number_of first.core page ≤ version.seq.0
  at_least page version is = at (get first.core.page_map.versions page) refl
    where
      at : (o : Option Version) → get first.core.page_map.versions page ≡ o → number_of first.core page ≤ version.seq.0
      at None e = let none = number_none first.core page e in omega (arith, none)
      at (Some before) e =
          let here = lefts page before e in
          let n = number_left one_cell copy_law first w cells bytes is_spare m l page (number_of first.core page) here.die here.alive here.left in
          subst (λ (v : Version). number_of first.core page ≤ v.seq.0) (same_Some n.0 version (sym n.1 ∙ is)) n.2

  -- what is known of a copy that is held
  pub record HeldCopy (page : ℕ) (version : Version) (payload : List ℕ) : Type 0 where
    pub inside : page < w.core.page_map.geometry.pages
    pub is : get m.versions page ≡ Some version
    pub bytes_are : payload ≡ w.payloads page version.seq.0

  pub held_copy : (page : ℕ) (version : Version) (die slot : ℕ) (payload : List ℕ) → HoldsPayload bytes m page version die slot payload
      → HeldCopy page version payload
  held_copy page version die slot payload h =
      let named : Page = record { 0 = page } in
      let found = held_found m.geometry l.holds.contents m l.holds.are l.holds.content die slot named version h.held in
      let place = used_within m.geometry l.holds.contents m l.holds.are l.holds.content die slot (ap is_some h.held) in
      let cell = (copy_law (bytes die slot) m.geometry.pages die slot (Copy named version) (cells die slot) named version
      (l.holds.found die slot (Copy named version) found.1) (l.are_left.left die slot place.0 place.1)).0 refl in
      let inside : page < w.core.page_map.geometry.pages = subst (λ (g : Geometry). page < g.pages) l.are_left.shape cell.0 in
      record {
        inside = inside;
        is = found.0;
        bytes_are = held_bytes one_cell copy_law first w cells bytes is_spare m l page (number_of first.core page) (reserved page inside) version
            (at_least page version found.0) die slot payload h;
      }

  pub copies_agree : CopiesAgree bytes m
  copies_agree page version other die slot d s one two a b =
      let here = held_copy page version die slot one a in
      let there = held_copy page other d s two b in
      let same : version ≡ other = same_Some version other (sym here.is ∙ there.is) in
      here.bytes_are ∙ ap (λ (v : Version). w.payloads page v.seq.0) same ∙ sym there.bytes_are

module _ (one_cell : OneCellLaw) (copy_law : CopyLaw) (first w next : World) (cells : ℕ → ℕ → Cell) (bytes : SlotBytes) (is_spare : ℕ → Bool)
    (is : IsMountedWorld bytes is_spare next) (l : IsMountedLeft first w cells bytes is_spare next.core.page_map)
    (reserved : (page : ℕ) → page < w.core.page_map.geometry.pages → AreReserved first w cells page (number_of first.core page))
    (lefts : (page : ℕ) (version : Version) → get first.core.page_map.versions page ≡ Some version
    → LeftLive first w cells next.core.page_map page) where
  abbrev m : MapState
  m = next.core.page_map

  pub of_last : AreOfLast next
  of_last page die slot version payload low inside ours stands = at (cases_Bool (is_live m die))
    where
      sealed : IsSlot (tag_of page version die slot) payload (bytes die slot)
      sealed = subst (IsCellOf (bytes die slot)) stands (is.cells die slot ours inside)

      plain_is : (last : Version) → get m.versions page ≡ Some last → plain_page next page ≡ w.payloads page last.seq.0
      plain_is last e =
          let first_plain = subst (IsFirstPlain bytes m page (plain_page next page)) e (is.plain page low) in
          (held_copy one_cell copy_law first w cells bytes is_spare m l reserved lefts page last first_plain.0 first_plain.1 (plain_page next page) first_plain.2).bytes_are

      at : (is_live m die ≡ true) ⊎ (is_live m die ≡ false)
          → (version.seq.0 ≤ number_of next.core page) × (version.seq.0 ≡ number_of next.core page → payload ≡ next.payloads page version.seq.0)
      at (inr out) =
          let spare = is.spares die (or_right (is_live m die) (contains_key next.core.spares die) out ours) in
          let other : Empty ≡ Sealed page version die slot payload =
          one_cell (bytes die slot) Empty (Sealed page version die slot payload) (is.holds.erased die slot spare inside) sealed in cc
      at (inl alive) =
          let cell = one_cell (bytes die slot) (cells die slot) (Sealed page version die slot payload) (l.are_left.left die slot alive inside) sealed in
          let inside_then = subst (λ (g : Geometry). slot < g.blocks * g.slots) l.are_left.shape inside in
          let low_then = subst (λ (g : Geometry). page < g.pages) l.are_left.shape low in
          let left : IsLeftOn w cells page version.seq.0 die = record {
            inside_page = low_then;
            slot = slot;
            inside = inside_then;
            version = version;
            payload = payload;
            stands = cell;
            newer = omega arith;
          } in
          let n = number_left one_cell copy_law first w cells bytes is_spare m l page version.seq.0 die alive left in
          let number = number_is next.core page n.0 n.1 in
          let newest = n.2 in
          let least = at_least one_cell copy_law first w cells bytes is_spare m l reserved lefts page n.0 n.1 in (
            omega (arith, number, newest),
            λ same.
                let equal : version.seq.0 ≡ n.0.seq.0 = same ∙ number in
                reserved page low_then die slot version payload (l.are_left.ours die alive) inside_then cell (omega (arith, equal, least))
                ∙ ap (w.payloads page) equal
                ∙ sym (plain_is n.0 n.1)
                ∙ sym (is.payloads page n.0 n.1)
                ∙ ap (next.payloads page) (sym equal),
          )
