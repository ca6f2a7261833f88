-- What closing leaves of the images of the dies that are left.
use Rattle.fa_batch_terms.proofs.Counting.{count_by-le-on}
use Rattle.fa_mount_close_laws.proofs.Headers.{all_from, clean_header}
use Rattle.fa_mount_close_laws.proofs.Kept.{Kept}
use Rattle.fa_mount_close_laws.specs.Closed.{WasClosed}
use Rattle.fa_mount_close_laws.specs.LastCells.{HoldAll}
use Rattle.fa_mount_headers.specs.Rules.{is_in}
use Rattle.fa_mount_headers.specs.declared.judging.Standing.{Standing}
use Rattle.fa_image.specs.Image.{Done, ImageAnswer, ImageCall, ImageMeets, ImageState, Syncing, WritingHeader, accepted, slot_at}
use Rattle.fa_machine.proofs.Lists.{among-range, none_passes}
use Rattle.fa_machine.proofs.Maps.{has_some}
use Rattle.fa_machine.specs.Among.{Among}
use Rattle.fa_machine.specs.Copies.{holds_page}
use Rattle.fa_machine.specs.Looks.{is_busy}
use Rattle.fa_machine.specs.Maps.{below}
use Rattle.fa_machine.specs.State.{dies_of, is_live}
use Rattle.fa_machine.specs.World.{World}
use Rattle.fa_mount.proofs.Bits.{count_at_most, fits_below}
use Rattle.fa_mount.specs.Closing.{AreAccepted, IsClosed, IsClosedClean, IsEarlier, IsOut, is_held_in, is_lost_in, writing_in}
use Rattle.fa_mount.specs.Standings.{place_on}
use Rattle.fa_mount.specs.declared.closing.CloseFault.{CloseFault}
use Rattle.fa_mount.specs.declared.closing.CloseFault.TheVariants.{Busy}
use Rattle.fa_tag.specs.HeaderGrammar.{IsHeader, header_bytes}
use Rattle.fa_types.specs.declared.geometry.Geometry.{Geometry}
use Rattle.std.proofs.Common.{Bool, List, None, Some, [], ap, arith, eqb-true, false, inl, inr, length, not, refl, slice_get, subst, sym, true}
use Rattle.std.proofs.Common.{ℕ, ◌*◌, ◌<◌, ◌∙◌, ◌∷◌, ◌≡◌, ◌≤◌, ◌++◌, ◌⊎◌, get_or}
use Rattle.std.proofs.lemmas.Bool.{and_parts, false≢true, not-false, or_cases, true≢false}
use Rattle.std.proofs.lemmas.Option.{same_Some, slice_get_cases}
use Rattle.std.specs.Bool.{MatchBool}
use Rattle.std.specs.FinMap.{get}
use Rattle.std.specs.Int.{bit_at}
use Rattle.std.specs.List.{AllByRecursion, list_any}
use Rattle.std.specs.Prelude.{Err, Ok, Result, slice_index_or, ◌&&◌}
use Rattle.fa_mount_scan.specs.ContentCells.{IsCellOf}

some_passes : {X : Type 0} (p : X → Bool) (xs : List X) → list_any p xs ≡ true → (x : X) × Among x xs × (p x ≡ true)
some_passes p [] e = absurd (false≢true e)
some_passes p (x ∷ xs) e =
    elim (or_cases (p x) (list_any p xs) e) [
      | inl here ↦ (x, inl refl, here)
      | inr later ↦ let found = some_passes p xs later in (found.0, inr found.1, found.2)
    ]

module _ {I : Type 0} (view : I → ImageState) (honest : I → Bool) (made : I → ImageCall → ImageAnswer → I → Type 0)
    (meets : (before after : I) (call : ImageCall) (answer : ImageAnswer) → made before call answer after
    → ImageMeets (view before) (honest before) call answer (view after) (honest after)) where
  -- what no call of closing changes
  abbrev pub stands_of : I → Geometry × List (List ℕ)
  stands_of image = ((view image).geometry, (view image).slots)

  abbrev stands_in : ImageState → Geometry × List (List ℕ)
  stands_in image = (image.geometry, image.slots)

  leads : (x y : I) (call : ImageCall) → made x call Done y → view y ≡ accepted call (view x)
  leads x y call link = (meets x y call Done link).leads

  earlier_stands : (g : Geometry) (array : List ℕ) (epoch die : ℕ) (call : ImageCall) (x y : I) → IsEarlier g array epoch die call → made x call Done y
      → stands_of y ≡ stands_of x
  earlier_stands g array epoch die call x y (inl is) link = ap stands_in (leads x y call link ∙ ap (λ c. accepted c (view x)) is)
  earlier_stands g array epoch die call x y (inr e) link = ap stands_in (leads x y call link ∙ ap (λ c. accepted c (view x)) e.3)

  -- after the last calls of closing
  marked_after : (g : Geometry) (array bytes : List ℕ) (epoch die : ℕ) (calls : List ImageCall) (x y : I) → AllByRecursion (IsEarlier g array epoch die) calls
      → AreAccepted made (calls ++ Syncing ∷ WritingHeader bytes ∷ Syncing ∷ []) x y → ((view y).header ≡ bytes) × (stands_of y ≡ stands_of x)
  marked_after g array bytes epoch die [] x y all (a, first, (b, write, (c, second, same))) =
      let one = leads x a Syncing first in
      let two = leads a b (WritingHeader bytes) write in
      let three = leads b c Syncing second in (
        ap (λ i. (view i).header) same ∙ ap (λ (s : ImageState). s.header) three ∙ ap (λ (s : ImageState). s.header) two,
        ap stands_of same ∙ ap stands_in three ∙ ap stands_in two ∙ ap stands_in one,
      )
  marked_after g array bytes epoch die (call ∷ calls) x y all (between, link, rest) =
      let later = marked_after g array bytes epoch die calls between y all.1 rest in
      (later.0, later.1 ∙ earlier_stands g array epoch die call x between all.0 link)

  module _ (w : World) (array : List ℕ) (dies : List Standing) (before after : List I) (mask : ℕ) (was : WasClosed view made w array dies before after mask) where
    abbrev is_ok : Result ℕ CloseFault → Bool
    is_ok (Ok n) = true
    is_ok (Err fault) = false

    -- nothing was open, and the dies that are left were told so
    pub was_clean : (is_busy w.core ≡ false) × IsClosedClean made w.core array dies before after mask
    was_clean = by_busy (is_busy w.core) refl was.closes
      where
        by_busy : (b : Bool) → is_busy w.core ≡ b → MatchBool b ((Ok mask ≡ Err Busy) × (after ≡ before)) (IsClosedClean made w.core array dies before after mask)
            → (is_busy w.core ≡ false) × IsClosedClean made w.core array dies before after mask
        by_busy true e busy = absurd (true≢false (ap is_ok busy.0))
        by_busy false e clean = (e, clean)

    abbrev clean : IsClosedClean made w.core array dies before after mask
    clean = was_clean.1

    abbrev g : Geometry
    g = w.core.page_map.geometry

    -- the image of a die that is left
    pub record IsLeft (die : ℕ) (y : I) : Type 0 where
      pub header : (view y).header ≡ header_bytes 2 (clean_header g array clean.epoch mask die)
      pub shape : (view y).geometry ≡ g
      pub cells : (slot : ℕ) → slot < g.blocks * g.slots → IsCellOf (slot_at slot (view y)) ((w.images die).seen slot)

    closed_image : (die index : ℕ) (x y : I) → is_in mask die ≡ true → place_on dies die ≡ Some index → slice_get before index ≡ Some x
        → slice_get after index ≡ Some y
        → IsClosed made (IsEarlier g array clean.epoch die) (writing_in g array clean.epoch mask true die) x y
    closed_image die index x y inside place at at_then =
        let kind = IsEarlier g array clean.epoch die in
        let mark = writing_in g array clean.epoch mask true die in
        let became = clean.images.each die index x y place at at_then in
        let lives = subst (λ b. MatchBool b (MatchBool (is_in mask die) (IsClosed made kind mark x y) (IsOut made kind x y)) (y ≡ x))
        (clean.left.live die inside) became in
        subst (λ b. MatchBool b (IsClosed made kind mark x y) (IsOut made kind x y)) inside lives

    pub left_image : (die index : ℕ) (y : I) → is_in mask die ≡ true → place_on dies die ≡ Some index → slice_get after index ≡ Some y → IsLeft die y
    left_image die index y inside place at = by_place (slice_get_cases before index).1
      where
        by_place : ((x : I) × (index < length before) × (slice_get before index ≡ Some x) × (get_or before index x ≡ x)) ⊎ ((length before ≤ index) × (slice_get before index ≡ None)) → IsLeft die y
        by_place (inr past) =
            let have = was.have die (clean.left.live die inside) in
            let same : have.0 ≡ index = same_Some have.0 index (sym have.1 ∙ place) in
            let low = have.2 in
            let far = past.0 in
            absurd (omega (arith, same, low, far))
        by_place (inl found) =
            let x = found.0 in
            let closed = closed_image die index x y inside place found.2 at in
            let marked = marked_after g array _ clean.epoch die closed.earlier x y closed.are_earlier closed.accepted in
            let given = was.images die index x (clean.left.live die inside) place found.2 in
            record {
              header = marked.0;
              shape = ap (λ (s : Geometry × List (List ℕ)). s.0) marked.1 ∙ given.0;
              cells = λ slot low. subst (λ l. IsCellOf (slice_index_or l slot []) ((w.images die).seen slot))
                  (sym (ap (λ (s : Geometry × List (List ℕ)). s.1) marked.1)) (given.1 slot low);
            }

    module _ (kept : Kept w) where
      die_low : (die : ℕ) → is_in mask die ≡ true → die < g.dies
      die_low die inside = kept.sound.dies.live_inside die (clean.left.live die inside)

      -- each page that was written is held on a die that is left
      pub hold_all : HoldAll w (is_in mask)
      hold_all = record {
        live = clean.left.live;
        hold = λ page written.
            let some = has_some (get w.core.page_map.versions page) written in
            let low = (kept.sound.numbers page some.0 some.1).inside in
            let found = none_passes (is_lost_in w.core.page_map mask) (below g.pages) clean.none_lost page
            (among-range 0 g.pages page (omega arith) (omega (arith, low))) in
            let held : is_held_in w.core.page_map mask page ≡ true =
            not-false (is_held_in w.core.page_map mask page) (sym (ap (λ b. b && not (is_held_in w.core.page_map mask page)) written) ∙ found) in
            let die = some_passes (λ die. is_in mask die && holds_page w.core.page_map page die) (dies_of w.core.page_map) held in
            let parts = and_parts (is_in mask die.0) (holds_page w.core.page_map page die.0) die.2 in
            (die.0, parts.0, parts.1);
      }

      -- the headers that were written are in the grammar
      pub header_fits : (die : ℕ) → is_in mask die ≡ true → IsHeader (clean_header g array clean.epoch mask die)
      header_fits die inside =
          let rose = clean.left.rose in
          let fewer = count_by-le-on (is_in mask) (is_live w.core.page_map) (below g.dies)
          (all_from (λ d. is_in mask d ≡ true → is_live w.core.page_map d ≡ true) (below g.dies) (λ i d at. clean.left.live d)) in
          let most = count_at_most g.dies w.core.page_map.live in
          let first = was.first in
          let room = was.room in
          record {
            die = die_low die inside;
            live_dies = fits_below g.dies mask die_low;
            role = (omega (arith, rose, fewer, first), omega (arith, rose, fewer, most, room), eqb-true (bit_at mask die) 1 inside);
            array = was.number;
          }
