-- Each job that Take may hand out fits what stands.
use Rattle.fa_laws.proofs.Admitting.{one_value_other, one_value_same}
use Rattle.fa_laws.proofs.ImageCalls.{read_too}
use Rattle.fa_laws.proofs.Invariant.{Holds, next, quiet, scene_of, still}
use Rattle.fa_laws.proofs.Keeping.{Keeps, kept_is_sound}
use Rattle.fa_machine.proofs.Lists.{among-without, counted_none, cut_first, found_passes, in_the_block, none_passes, tally-without}
use Rattle.fa_machine.proofs.Lists.{without_first}
use Rattle.fa_machine.proofs.Maps.{get-place_other, get-place_same}
use Rattle.fa_laws.proofs.Parts.{kept≢held, kept≢none, moved_to_come, none≢settled, target_kept, to_come_kept}
use Rattle.fa_laws.proofs.Scene.{IsErasing, JobFits, flight_writes, is_settled, program_is_at, writes}
use Rattle.fa_machine.specs.Among.{Among, tally}
use Rattle.fa_laws.proofs.Starting.{Fits, begin_holds, idle_works}
use Rattle.fa_machine.proofs.Takes.{IsOther, IsUrgent, take_cases}
use Rattle.fa_laws.specs.Counted.{is_read}
use Rattle.fa_machine.specs.Cells.{Broken, Cell, Empty, Sealed, payload_of}
use Rattle.fa_machine.specs.Collecting.{count_in, is_erased_outside, may_be_victim, move_place, next_step, slots_in}
use Rattle.fa_machine.specs.Collecting.{step_on, victim}
use Rattle.fa_machine.specs.Copies.{copy_on, holds_last, is_current, is_held_slot, is_reserved_slot, is_stale_slot}
use Rattle.fa_machine.specs.Maps.{below, place_cmp}
use Rattle.fa_machine.specs.Placement.{is_erased_slot}
use Rattle.fa_machine.specs.State.{CalendarState, Core, MapState, WaitingProgram, is_live, slots_of, used_at}
use Rattle.fa_machine.specs.Step.{Take}
use Rattle.fa_machine.specs.Taking.{Handed, Takes, begins, begun, handed, is_for, is_idle, program_of, without_stale_booking}
use Rattle.fa_machine.specs.World.{Due, World, plain_page, with_value}
use Rattle.fa_machine.specs.declared.answers.HistoryEntry.{HistoryEntry}
use Rattle.fa_machine.specs.declared.answers.HistoryEntry.TheVariants.{Start}
use Rattle.fa_machine.specs.declared.ids.BatchId.{BatchId}
use Rattle.fa_machine.specs.declared.ids.Block.{Block}
use Rattle.fa_machine.specs.declared.jobs.CollectorStep.{CollectorStep}
use Rattle.fa_machine.specs.declared.jobs.CollectorStep.TheVariants.{EraseBlock, MoveSlot, Nothing}
use Rattle.fa_machine.specs.declared.jobs.Flight.{Flight}
use Rattle.fa_machine.specs.declared.jobs.Flight.TheVariants.{Erase, Header, Move, Program, Read, Sync}
use Rattle.fa_machine.specs.declared.places.Used.{Used}
use Rattle.fa_machine.specs.declared.places.Used.TheVariants.{Held, Reserved, Stale}
use Rattle.fa_machine.specs.declared.places.Version.{Version}
use Rattle.fa_types.specs.declared.numbers.Page.{Page}
use Rattle.fa_types.specs.declared.numbers.Slot.{Slot}
use Rattle.std.proofs.Common.{Bool, List, None, Option, Some, [], ap, arith, cond, eq-eqb, eqb-true, false, inl, inr, nat_lt, refl}
use Rattle.std.proofs.Common.{subst, sym, true, ℕ, ◌++◌, ◌+◌, ◌/◌, ◌<◌, ◌∙◌, ◌∷◌, ◌≡◌, ◌≤◌, ◌⊎◌}
use Rattle.std.proofs.lemmas.Bool.{and_parts, cases_eq, cases_lt, false≢true, ne_eqb}
use Rattle.std.proofs.lemmas.Option.{none-some}
use Rattle.std.specs.FinMap.{FinMap, get, insert}
use Rattle.std.specs.List.{after_first, before_first}
use Rattle.std.specs.Option.{option_map_or}
use Rattle.std.specs.Prelude.{find, if◌then◌else◌, is_none, ◌&&◌, ◌==◌}

-- a tag is compared by page, number, die and slot
payload_same : (page page' : ℕ) (v v' : Version) (die slot : ℕ) (cell : Cell) → page ≡ page' → v.seq.0 ≡ v'.seq.0
    → payload_of page v die slot cell ≡ payload_of page' v' die slot cell
payload_same page page' v v' die slot Empty e f = refl
payload_same page page' v v' die slot Broken e f = refl
payload_same page page' v v' die slot (Sealed p u d s bytes) e f =
    λ i. cond (p == e i && u.seq.0 == f i && d == die && s == slot) (Some bytes) None

-- what holds the last number of a page holds that page
pub holds_held : (page : ℕ) (v : Version) (o : Option Used) → holds_last page (Some v) o ≡ true
    → (p : Page) × (u : Version) × (o ≡ Some (Held p u)) × (p.0 ≡ page) × (u.seq.0 ≡ v.seq.0)
holds_held page v None e = absurd (false≢true e)
holds_held page v (Some Reserved) e = absurd (false≢true e)
holds_held page v (Some Stale) e = absurd (false≢true e)
holds_held page v (Some (Held p u)) e =
    let parts = and_parts (p.0 == page) (u.seq.0 == v.seq.0) e in
    (p, u, refl, eqb-true p.0 page parts.0, eqb-true u.seq.0 v.seq.0 parts.1)

-- the bytes of a current copy are the plain array's page
pub current_copy : (w : World) → Holds w → (page die slot : ℕ) (v : Version) → get w.core.page_map.versions page ≡ Some v
    → is_current w.core.page_map page die slot ≡ true → payload_of page v die slot ((w.images die).seen slot) ≡ Some (plain_page w page)
current_copy w h page die slot v number current =
    let holds = (and_parts (is_live w.core.page_map die) _ current).1 in
    let held = holds_held page v (used_at w.core.page_map die slot) (ap (λ o. holds_last page o (used_at w.core.page_map die slot)) (sym number) ∙ holds) in
    let stands = h.sound.held die slot held.0 held.1 held.2 in
    payload_same page held.0.0 v held.1 die slot ((w.images die).seen slot) (sym held.3) (sym held.4)
    ∙ read_too held.0.0 held.1 die slot ((w.images die).seen slot) _ stands.cell
    ∙ ap Some ((λ i. w.payloads (held.3 i) (held.4 i)) ∙ (h.sound.numbered page v number).right)

pub no_state : (o : Option Used) → is_none o ≡ true → o ≡ None
no_state None e = refl
no_state (Some u) e = absurd (false≢true e)

abbrev is_erase : CollectorStep → Bool
is_erase (MoveSlot slot) = false
is_erase (EraseBlock b) = true
is_erase Nothing = false

abbrev erased_number : CollectorStep → ℕ
erased_number (MoveSlot slot) = 0
erased_number (EraseBlock b) = b.0
erased_number Nothing = 0

nothing_held : (b : ℕ) (found : Option ℕ) (block : Block)
    → option_map_or (λ slot. MoveSlot (record { 0 = slot })) found (EraseBlock (record { 0 = b })) ≡ EraseBlock block → (found ≡ None) × (b ≡ block.0)
nothing_held b None block e = (refl, ap erased_number e)
nothing_held b (Some slot) block e = absurd (false≢true (ap is_erase e))

at_most_one : (b : Bool) → (if b then 1 else 0) ≤ 1
at_most_one true = omega arith
at_most_one false = omega arith

-- the block of an erase is the victim, and all that it held was moved
erased_block : (m : MapState) (die : ℕ) (block : Block) (v : Option ℕ) → victim m die ≡ v → option_map_or (step_on m die) v Nothing ≡ EraseBlock block
    → (count_in m die block.0 is_reserved_slot ≡ 0) × (find (λ slot. is_held_slot (used_at m die slot)) (slots_in m block.0) ≡ None)
erased_block m die block None is e = absurd (false≢true (ap is_erase e))
erased_block m die block (Some b) is e =
    let facts = nothing_held b (find (λ slot. is_held_slot (used_at m die slot)) (slots_in m b)) block e in
    let may = (and_parts (may_be_victim m die b) _ (found_passes _ (below m.geometry.blocks) b is).0).0 in
    let stale : Bool = nat_lt 0 (count_in m die b is_stale_slot) in
    let unkept : Bool = count_in m die b is_reserved_slot == 0 in
    let none : unkept ≡ true = (and_parts stale unkept (and_parts (stale && unkept) _ may).0).1 in (
      ap (λ (n : ℕ). count_in m die n is_reserved_slot) (sym facts.1) ∙ eqb-true _ _ none,
      ap (λ (n : ℕ). find (λ slot. is_held_slot (used_at m die slot)) (slots_in m n)) (sym facts.1) ∙ facts.0,
    )

module _ (w : World) (h : Holds w) (die : ℕ) (idle : w.works die ≡ None) where
  -- one program at most waits where no job writes
  one_waits : (slot : ℕ) → tally (program_is_at die slot) w.core.waiting ≤ 1
  one_waits slot = let e = ap (λ o. writes o slot) idle in let n = h.sound.once die slot in omega (arith, e, n)

  module _ (calendar : CalendarState) (history : List HistoryEntry) where
    -- a job that neither programs nor reads
    pub plain_fits : (flight : Flight) → ((slot : ℕ) → flight_writes flight slot ≡ 0) → is_read flight ≡ false
        → JobFits (scene_of w).bytes (scene_of w).places (scene_of w).in_block (w.due die).bytes die flight []
        → Fits w h die (handed flight) w.core.page_map.used w.core.waiting w.due calendar history idle
    plain_fits flight no_write no_read fits = record {
      sound = h.sound;
      fewer = λ p among. among;
      count = λ d slot apart. omega arith;
      once = λ slot. let n = one_waits slot in let z = no_write slot in omega (arith, n, z);
      same_due = λ d apart. refl;
      fits = fits;
      reading = λ batch page version slot b e is. absurd (false≢true (sym no_read ∙ ap is_read e));
    }

    -- the block that is erased has no slot that is held or kept
    erasing : (block : Block) → is_live w.core.page_map die ≡ true → next_step w.core.page_map die ≡ EraseBlock block
        → IsErasing (scene_of w).in_block (scene_of w).places die block.0
    erasing block alive step =
        let facts = erased_block w.core.page_map die block (victim w.core.page_map die) refl step in
        record {
          none_held = λ slot inside. none_passes (λ slot. is_held_slot (used_at w.core.page_map die slot)) (slots_in w.core.page_map block.0) facts.1 slot
              (in_the_block w.core.page_map.geometry.slots block.0 slot some_slots inside);
          none_done = λ slot q x t at inside. absurd (false≢true (
              sym (counted_none (λ slot. is_reserved_slot (used_at w.core.page_map die slot)) (slots_in w.core.page_map block.0) facts.0 slot
              (in_the_block w.core.page_map.geometry.slots block.0 slot some_slots inside))
              ∙ ap is_reserved_slot (target_kept (scene_of w) h.sound die slot q x t at alive)));
        }
      where
        some_slots : 0 < w.core.page_map.geometry.slots
        some_slots = let n = w.core.page_map.geometry.within.slots_fit.0 in omega (arith, n)

    pub erase_fits : (block : Block) → is_live w.core.page_map die ≡ true → next_step w.core.page_map die ≡ EraseBlock block
        → Fits w h die (handed (Erase block)) w.core.page_map.used w.core.waiting w.due calendar history idle
    erase_fits block alive step = plain_fits (Erase block) (λ slot. refl) refl (erasing block alive step)

    -- a read is due the plain array's page
    pub read_fits : (batch : BatchId) (page : Page) (version : Version) (slot : Slot) → get w.core.page_map.versions page.0 ≡ Some version
        → copy_on w.core.page_map page.0 die ≡ Some slot.0
        → Fits w h die (handed (Read batch page version slot)) w.core.page_map.used w.core.waiting
        (with_value die (record { bytes = plain_page w page.0; since = w.moment }) w.due) calendar history idle
    read_fits batch page version slot number copy = record {
      sound = h.sound;
      fewer = λ p among. among;
      count = λ d k apart. omega arith;
      once = λ k. let n = one_waits k in omega (arith, n);
      same_due = λ d apart. one_value_other die (record { bytes = plain_page w page.0; since = w.moment }) w.due d apart;
      fits = record {
        cell = current_copy w h page.0 die slot.0 version number (found_passes (is_current w.core.page_map page.0 die) (slots_of w.core.page_map) slot.0 copy).0
            ∙ ap Some (sym (ap (λ (u : Due). u.bytes) here));
        right = ap (λ (u : Due). u.bytes) here ∙ sym (h.sound.numbered page.0 version number).right;
        below = (h.sound.numbered page.0 version number).below;
      };
      reading = λ b p v k o e is.
          let n = h.answered.since b.0 o is in
          let s = ap (λ (u : Due). u.since) here in omega (arith, n, s);
    }
      where
        here : with_value die (record { bytes = plain_page w page.0; since = w.moment }) w.due die ≡ record { bytes = plain_page w page.0; since = w.moment }
        here = one_value_same die (record { bytes = plain_page w page.0; since = w.moment }) w.due die refl

    module _ (page : Page) (version : Version) (from to : Slot) (alive : is_live w.core.page_map die ≡ true)
        (source : used_at w.core.page_map die from.0 ≡ Some (Held page version))
        (place : move_place w.core.page_map die (from.0 / w.core.page_map.geometry.slots) ≡ Some to.0) where
      abbrev then_map : FinMap place_cmp Used
      then_map = insert w.core.page_map.used (die, to.0) Reserved

      empty_there : used_at w.core.page_map die to.0 ≡ None
      empty_there =
          let found = found_passes (is_erased_outside w.core.page_map die (from.0 / w.core.page_map.geometry.slots)) (slots_of w.core.page_map) to.0 place in
          no_state _ (and_parts (is_erased_slot w.core.page_map die to.0) _ found.0).0

      kept_there : get then_map (die, to.0) ≡ Some Reserved
      kept_there = get-place_same w.core.page_map.used die to.0 Reserved

      elsewhere : (d k : ℕ) → (d ≡ die → k ≡ to.0 → ⊥) → get then_map (d, k) ≡ used_at w.core.page_map d k
      elsewhere d k apart = get-place_other w.core.page_map.used die to.0 Reserved d k apart

      at_place : (d k : ℕ) → ((d ≡ die) × (k ≡ to.0)) ⊎ (d ≡ die → k ≡ to.0 → ⊥)
      at_place d k =
          elim (cases_eq d die) [
            | inr away ↦ inr (λ e f. away e)
            | inl same ↦ elim (cases_eq k to.0) [
              | inl here ↦ inl (same, here)
              | inr away ↦ inr (λ e f. away f)
            ]
          ]

      from_elsewhere : from.0 ≡ to.0 → ⊥
      from_elsewhere same = none-some (Held page version) (sym (ap (used_at w.core.page_map die) same ∙ empty_there) ∙ source)

      -- each slot that is filled is as it was
      filled : (d k : ℕ) → (used_at w.core.page_map d k ≡ None → ⊥) → get then_map (d, k) ≡ used_at w.core.page_map d k
      filled d k some = elsewhere d k (λ e f. some ((λ i. used_at w.core.page_map (e i) (f i)) ∙ empty_there))

      held_before : (d k : ℕ) (p : Page) (v : Version) → get then_map (d, k) ≡ Some (Held p v) → used_at w.core.page_map d k ≡ Some (Held p v)
      held_before d k p v e =
          elim (at_place d k) [
            | inr away ↦ sym (elsewhere d k away) ∙ e
            | inl here ↦ absurd (kept≢held (get then_map (d, k)) p v ((λ i. get then_map (here.0 i, here.1 i)) ∙ kept_there) e)
          ]

      keeps : Keeps (scene_of w) (λ d k. get then_map (d, k))
      keeps = record {
        kept = λ d k e. filled d k (λ none. kept≢none (used_at w.core.page_map d k) e none) ∙ e;
        held = held_before;
        settled = λ d work e k s. ap is_settled (filled d k (λ none. none≢settled (used_at w.core.page_map d k) none s)) ∙ s;
      }

      once_there : (k : ℕ) → tally (program_is_at die k) w.core.waiting + (if to.0 == k then 1 else 0) ≤ 1
      once_there k =
          elim (cases_lt 0 (tally (program_is_at die k) w.core.waiting)) [
            | inr none ↦ let n = at_most_one (to.0 == k) in omega (arith, none, n)
            | inl some ↦
                let z : ◌≡◌ {A = ℕ} (if to.0 == k then 1 else 0) 0 = ap {B = ℕ} (λ b. if b then 1 else 0) (ne_eqb to.0 k (λ same.
                kept≢none (used_at w.core.page_map die k) (to_come_kept (scene_of w) h.sound die k (omega arith)) (ap (used_at w.core.page_map die) (sym same) ∙ empty_there))) in
                let n = one_waits k in omega (arith, z, n)
          ]

      -- the new slot of a move was erased, and lies elsewhere
      pub move_fits : Fits w h die (handed (Move page version from to)) then_map w.core.waiting w.due calendar history idle
      move_fits = record {
        sound = kept_is_sound (scene_of w) h.sound (λ d k. get then_map (d, k)) keeps;
        fewer = λ p among. among;
        count = λ d k apart. omega arith;
        once = once_there;
        same_due = λ d apart. refl;
        fits = record {
          cell = (h.sound.held die from.0 page version source).cell;
          below = (h.sound.held die from.0 page version source).below;
          settled = ap is_settled (elsewhere die from.0 (λ e f. from_elsewhere f) ∙ source);
          kept = kept_there;
          alone = λ q x t at. kept≢none (used_at w.core.page_map die to.0) (target_kept (scene_of w) h.sound die to.0 q x t at alive) empty_there;
        };
        reading = λ b p v k o e is. absurd (false≢true (ap is_read e));
      }

    -- the oldest program waits no more
    module _ (p : WaitingProgram) (oldest : find (is_for die) w.core.waiting ≡ Some p) where
      abbrev left : List WaitingProgram
      left = before_first (is_for die) w.core.waiting ++ after_first (is_for die) w.core.waiting

      its_die : p.die ≡ die
      its_die = eqb-true p.die die (found_passes (is_for die) w.core.waiting p oldest).0

      cut : left ≡ without_first (is_for die) w.core.waiting
      cut = cut_first (is_for die) w.core.waiting

      fewer_wait : (d k : ℕ) → tally (program_is_at d k) left + (if program_is_at d k p then 1 else 0) ≡ tally (program_is_at d k) w.core.waiting
      fewer_wait d k =
          ap {B = ℕ} (λ ws. tally (program_is_at d k) ws + (if program_is_at d k p then 1 else 0)) cut
          ∙ tally-without (is_for die) (program_is_at d k) w.core.waiting p oldest

      here_too : (k : ℕ) → ◌≡◌ {A = ℕ} (if program_is_at die k p then 1 else 0) (if p.slot == k then 1 else 0)
      here_too k = ap {B = ℕ} (λ b. if b && p.slot == k then 1 else 0) (eq-eqb p.die die its_die)

      pub program_fits : Fits w h die (program_of w.core.page_map p) w.core.page_map.used left w.due calendar history idle
      program_fits = record {
        sound = h.sound;
        fewer = λ q among. among-without (is_for die) q w.core.waiting (subst (Among q) cut among);
        count = λ d k apart. let n = fewer_wait d k in omega (arith, n);
        once = λ k. let n = fewer_wait die k in let e = here_too k in let o = one_waits k in omega (arith, n, e, o);
        same_due = λ d apart. refl;
        fits =
            let waits = h.sound.waits p (found_passes (is_for die) w.core.waiting p oldest).1 in
            record {
              bytes = waits.payload;
              below = waits.below;
              place = moved_to_come (scene_of w).places p.die die p.slot p.slot p.page p.page p.version p.version its_die refl refl refl waits.place;
            };
        reading = λ b q v k o e is. absurd (false≢true (ap is_read e));
      }

-- what a Take leads to
abbrev TakeHolds : World → ℕ → ℕ → Option Handed × Core → Type 0
TakeHolds w die seat pair = Holds (next (Take die seat pair.0) pair.1 w)

urgent_holds : (w : World) (h : Holds w) (die seat : ℕ) (flight : Flight) → is_idle w.core die ≡ true → IsUrgent w.core die flight
    → TakeHolds w die seat (Some (handed flight), begun die seat flight w.core)
urgent_holds w h die seat (Header epoch live) idle u =
    begin_holds w h die (handed (Header epoch live)) w.core.page_map.used w.core.waiting w.due w.core.calendar w.core.history (idle_works w h die idle).1
    (plain_fits w h die (idle_works w h die idle).1 w.core.calendar w.core.history (Header epoch live) (λ slot. refl) refl tt)
urgent_holds w h die seat (Erase block) idle u =
    begin_holds w h die (handed (Erase block)) w.core.page_map.used w.core.waiting w.due w.core.calendar w.core.history (idle_works w h die idle).1
    (erase_fits w h die (idle_works w h die idle).1 w.core.calendar w.core.history block (idle_works w h die idle).0 u)
urgent_holds w h die seat (Move page version from to) idle u =
    begin_holds w h die (handed (Move page version from to)) (insert w.core.page_map.used (die, to.0) Reserved) w.core.waiting w.due w.core.calendar w.core.history
    (idle_works w h die idle).1
    (move_fits w h die (idle_works w h die idle).1 w.core.calendar w.core.history page version from to (idle_works w h die idle).0 u.0 u.1)
urgent_holds w h die seat (Read batch page version slot) idle u =
    begin_holds w h die (handed (Read batch page version slot)) w.core.page_map.used w.core.waiting
    (with_value die (record { bytes = plain_page w page.0; since = w.moment }) w.due)
    (record (w.core.calendar) {
      bookings = insert w.core.calendar.bookings (die, w.core.calendar.round) (record { batch = batch; page = page; started = true });
    })
    (w.core.history ++ Start seat page version.seq ∷ []) (idle_works w h die idle).1
    (read_fits w h die (idle_works w h die idle).1 _ _ batch page version slot u.number u.copy)
urgent_holds w h die seat (Program page version slot) idle u = absurd u
urgent_holds w h die seat (Sync flushes) idle u = absurd u

other_holds : (w : World) (h : Holds w) (die seat : ℕ) (job : Option Handed) → is_idle w.core die ≡ true
    → IsOther (without_stale_booking die w.core) die job → TakeHolds w die seat (begins die seat (without_stale_booking die w.core) job)
other_holds w h die seat None idle u =
    quiet w h (without_stale_booking die w.core).calendar w.core.epoch w.core.behind w.core.stepped w.core.flushes w.core.asked w.core.synced w.core.base w.core.history
other_holds w h die seat (Some job) idle u =
    elim u [
      | inl p ↦ subst (λ j. TakeHolds w die seat (begins die seat (without_stale_booking die w.core) (Some j))) (sym p.2)
          (begin_holds w h die (program_of w.core.page_map p.0) w.core.page_map.used (before_first (is_for die) w.core.waiting ++ after_first (is_for die) w.core.waiting) w.due
          (without_stale_booking die w.core).calendar w.core.history (idle_works w h die idle).1
          (program_fits w h die (idle_works w h die idle).1 (without_stale_booking die w.core).calendar w.core.history p.0 p.1))
      | inr f ↦ subst (λ j. TakeHolds w die seat (begins die seat (without_stale_booking die w.core) (Some j))) (sym f.1)
          (begin_holds w h die (handed (Sync f.0)) w.core.page_map.used w.core.waiting w.due
          (without_stale_booking die w.core).calendar w.core.history (idle_works w h die idle).1
          (plain_fits w h die (idle_works w h die idle).1 (without_stale_booking die w.core).calendar w.core.history (Sync f.0) (λ slot. refl) refl tt))
    ]

pub take_holds : (w : World) (h : Holds w) (die seat : ℕ) (answer : Option Handed) (core : Core) → Takes w.core die seat answer core
    → Holds (next (Take die seat answer) core w)
take_holds w h die seat answer core e =
    subst (TakeHolds w die seat) (sym e)
    (take_cases w.core die seat (TakeHolds w die seat) (still w h) (urgent_holds w h die seat) (other_holds w h die seat))
