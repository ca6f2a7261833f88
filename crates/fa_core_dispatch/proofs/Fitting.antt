-- Whatever a Take hands out fits its die.
use Rattle.fa_machine.proofs.Lists.{among_low, found_passes}
use Rattle.fa_machine.proofs.Takes.{IsOther, IsUrgent, take_cases}
use Rattle.fa_machine.specs.Among.{Among}
use Rattle.fa_machine.specs.Collecting.{is_erased_outside, is_no_better, may_be_victim, move_place, step_on, victim}
use Rattle.fa_machine.specs.Copies.{copy_on, is_current}
use Rattle.fa_machine.specs.Maps.{below}
use Rattle.fa_machine.specs.State.{Core, MapState, WaitingProgram, is_live, slots_of}
use Rattle.fa_machine.specs.Taking.{Handed, Takes, after_urgent, flight_of, handed, header_job, is_for, is_idle, mask_of, move_from}
use Rattle.fa_machine.specs.Taking.{other_job, program_of, read_from, read_job, read_of, step_job, sync_job, taken, urgent_job, without_stale_booking}
use Rattle.fa_machine.specs.declared.ids.Block.{Block}
use Rattle.fa_machine.specs.declared.jobs.CollectorStep.{CollectorStep}
use Rattle.fa_machine.specs.declared.jobs.CollectorStep.TheVariants.{EraseBlock, MoveSlot, Nothing}
use Rattle.fa_machine.specs.declared.jobs.Flight.{Flight}
use Rattle.fa_machine.specs.declared.jobs.Flight.TheVariants.{Erase, Header, Move, Program, Read, Sync}
use Rattle.fa_machine.specs.declared.places.Booking.{Booking}
use Rattle.fa_machine.specs.declared.places.Used.{Used}
use Rattle.fa_machine.specs.declared.places.Used.TheVariants.{Held, Reserved, Stale}
use Rattle.fa_machine.specs.declared.places.Version.{Version}
use Rattle.fa_sound.specs.Ready.{AreReady}
use Rattle.fa_sound.specs.Sound.{IsSound}
use Rattle.fa_tag.specs.SlotGrammar.{IsPayloadOf}
use Rattle.fa_core_dispatch.proofs.Masks.{bit, mask_below, mask_more, still_below}
use Rattle.fa_core_dispatch.specs.Limits.{HasLimits}
use Rattle.fa_core_outcome.specs.Fits.{IsJobFor}
use Rattle.fa_types.specs.declared.kind.Kind.{Kind}
use Rattle.fa_types.specs.declared.kind.Kind.TheVariants.{Data, Hole}
use Rattle.fa_types.specs.declared.numbers.Page.{Page}
use Rattle.fa_types.specs.declared.numbers.Slot.{Slot}
use Rattle.std.proofs.Common.{Bool, List, None, Option, Some, add-one, ap, arith, false, inl, inr, length, refl, suc, subst, sym, true, zero, ℕ}
use Rattle.std.proofs.Common.{◌*◌, ◌+◌, ◌/◌, ◌<◌, ◌≤◌, ◌∙◌, ◌≡◌, ◌⊎◌, ◌^◌, ◌-◌}
use Rattle.std.proofs.lemmas.Bool.{and_parts, cases_eq, true≢false}
use Rattle.std.proofs.lemmas.List.Elements.{All-replicate}
use Rattle.std.proofs.lemmas.Nat.Bits.{bit_at-pow_same, bit_at_cat_high, bit_at_cat_low}
use Rattle.std.proofs.lemmas.Option.{none-some, same_Some}
use Rattle.std.specs.Int.{bit_at}
use Rattle.std.specs.List.{list_all}
use Rattle.std.specs.Option.{option_map_or, option_or}
use Rattle.std.specs.Prelude.{All, find, if◌then◌else◌, option_and_then, option_map, replicate, ◌&&◌}

-- The mask of the dies below one has no bit above, and the bit of each die that is live.
module _ (live : ℕ → Bool) where
  pub mask_low : (dies : ℕ) → mask_below live dies < 2 ^ dies
  mask_low zero = omega arith
  mask_low (suc dies) =
      subst (λ n. mask_below live n < 2 ^ n) (add-one dies)
      (subst (λ n. n < 2 ^ (dies + 1)) (sym (mask_more live dies)) (still_below live (mask_below live dies) dies (mask_low dies)))

  bit_one : (mask dies : ℕ) → mask < 2 ^ dies → bit_at (1 * 2 ^ dies + mask) dies ≡ 1
  bit_one mask dies low =
      bit_at_cat_high 1 dies mask dies low (omega arith) ∙ ap (bit_at 1) (let none : dies - dies ≡ 0 = omega arith in none) ∙ bit_at-pow_same 0

  bit_kept : (b : Bool) (mask dies die : ℕ) → die < dies → bit_at mask die ≡ 1 → bit_at (mask + (if b then 2 ^ dies else 0)) die ≡ 1
  bit_kept true mask dies die low is =
      ap (λ n. bit_at n die) (let same : mask + 2 ^ dies ≡ 1 * 2 ^ dies + mask = omega arith in same) ∙ bit_at_cat_low 1 dies mask die low ∙ is
  bit_kept false mask dies die low is = ap (λ n. bit_at n die) (let same : mask + 0 ≡ mask = omega arith in same) ∙ is

  bit_added : (b : Bool) (mask dies : ℕ) → b ≡ true → mask < 2 ^ dies → bit_at (mask + (if b then 2 ^ dies else 0)) dies ≡ 1
  bit_added true mask dies is low =
      ap (λ n. bit_at n dies) (let same : mask + 2 ^ dies ≡ 1 * 2 ^ dies + mask = omega arith in same) ∙ bit_one mask dies low
  bit_added false mask dies is low = absurd (true≢false (sym is))

  pub mask_bit : (dies die : ℕ) → die < dies → live die ≡ true → bit_at (mask_below live dies) die ≡ 1
  mask_bit zero die inside is = absurd (omega arith)
  mask_bit (suc dies) die inside is =
      ap (λ n. bit_at (mask_below live n) die) (sym (add-one dies)) ∙ ap (λ n. bit_at n die) (mask_more live dies)
      ∙ elim (cases_eq die dies) [
        | inl same ↦ subst (λ d. bit_at (mask_below live dies + bit live dies) d ≡ 1) (sym same)
            (bit_added (live dies) (mask_below live dies) dies (ap live (sym same) ∙ is) (mask_low dies))
        | inr apart ↦ bit_kept (live dies) (mask_below live dies) dies die (omega (arith, apart, inside))
            (mask_bit dies die (omega (arith, apart, inside)) is)
      ]

-- what a header that is handed out tells
abbrev TellsState : Core → Flight → Type 0
TellsState core (Header epoch live) = (epoch ≡ core.epoch) × (live ≡ mask_of core.page_map)
TellsState core flight = Unit {0}

one_of_two : {A : Type 0} (a b : Option A) (x : A) → option_or a b ≡ Some x → (a ≡ Some x) ⊎ (b ≡ Some x)
one_of_two None b x e = inr e
one_of_two (Some a) b x e = inl e

if_some : {A : Type 0} (b : Bool) (o : Option A) (x : A) → (if b then o else None) ≡ Some x → o ≡ Some x
if_some true o x e = e
if_some false o x e = absurd (none-some x e)

if_none : {A : Type 0} (b : Bool) (o : Option A) (x : A) → (if b then None else o) ≡ Some x → o ≡ Some x
if_none true o x e = absurd (none-some x e)
if_none false o x e = e

move_tells : (core : Core) (m : MapState) (die from : ℕ) (used : Option Used) (flight : Flight) → move_from m die from used ≡ Some flight
    → TellsState core flight
move_tells core m die from None flight e = absurd (none-some flight e)
move_tells core m die from (Some Reserved) flight e = absurd (none-some flight e)
move_tells core m die from (Some Stale) flight e = absurd (none-some flight e)
move_tells core m die from (Some (Held page version)) flight e = go (move_place m die (from / m.geometry.slots)) e
  where
    go : (to : Option ℕ) → option_map (λ t. Move page version (record { 0 = from }) (record { 0 = t })) to ≡ Some flight → TellsState core flight
    go None e = absurd (none-some flight e)
    go (Some to) e = subst (TellsState core) (same_Some _ flight e) tt

step_tells : (core : Core) (m : MapState) (die : ℕ) (step : CollectorStep) (flight : Flight) → flight_of m die step ≡ Some flight → TellsState core flight
step_tells core m die (MoveSlot from) flight e = move_tells core m die from.0 _ flight e
step_tells core m die (EraseBlock block) flight e = subst (TellsState core) (same_Some _ flight e) tt
step_tells core m die Nothing flight e = absurd (none-some flight e)

read_tells : (core : Core) (b : Booking) (v : Option Version) (s : Option ℕ) (flight : Flight) → read_from b v s ≡ Some flight → TellsState core flight
read_tells core b None s flight e = absurd (none-some flight e)
read_tells core b (Some version) None flight e = absurd (none-some flight e)
read_tells core b (Some version) (Some slot) flight e = subst (TellsState core) (same_Some _ flight e) tt

booked_tells : (core : Core) (m : MapState) (die : ℕ) (b : Option Booking) (flight : Flight) → option_and_then (read_of m die) b ≡ Some flight
    → TellsState core flight
booked_tells core m die None flight e = absurd (none-some flight e)
booked_tells core m die (Some b) flight e = read_tells core b _ _ flight (if_none b.started _ flight e)

urgent_tells : (core : Core) (die : ℕ) (flight : Flight) → urgent_job core die ≡ Some flight → TellsState core flight
urgent_tells core die flight e =
    elim (one_of_two (header_job core die) (option_or (step_job core die) (read_job core die)) flight e) [
      | inl header ↦ subst (TellsState core) (same_Some (Header core.epoch (mask_of core.page_map)) flight (if_some _ _ flight header)) (refl, refl)
      | inr later ↦ elim (one_of_two (step_job core die) (read_job core die) flight later) [
        | inl step ↦ step_tells core core.page_map die _ flight (if_some _ _ flight step)
        | inr read ↦ booked_tells core core.page_map die _ flight read
      ]
    ]

other_tells : (core seen : Core) (die : ℕ) (job : Handed) → other_job seen die ≡ Some job → TellsState core job.flight
other_tells core seen die job e =
    elim (one_of_two (option_map (program_of seen.page_map) (find (is_for die) seen.waiting)) (option_map handed (sync_job seen die)) job e) [
      | inl program ↦ of_program (find (is_for die) seen.waiting) program
      | inr sync ↦ of_sync (sync_job seen die) refl sync
    ]
  where
    of_program : (p : Option WaitingProgram) → option_map (program_of seen.page_map) p ≡ Some job → TellsState core job.flight
    of_program None e = absurd (none-some job e)
    of_program (Some p) e = subst (λ (j : Handed). TellsState core j.flight) (same_Some _ job e) tt

    of_sync : (f : Option Flight) → sync_job seen die ≡ f → option_map handed f ≡ Some job → TellsState core job.flight
    of_sync None is e = absurd (none-some job e)
    of_sync (Some f) is e = subst (λ (j : Handed). TellsState core j.flight) (same_Some _ job e)
        (subst (TellsState core) (same_Some _ f (if_some _ _ f is)) tt)

taken_tells : (core : Core) (die seat : ℕ) (job : Handed) → (taken core die seat).0 ≡ Some job → TellsState core job.flight
taken_tells core die seat job =
    elim (is_idle core die) as (λ b. (if b then after_urgent die seat core (urgent_job core die) else (None, core)).0 ≡ Some job
    → TellsState core job.flight) [
      | false ↦ λ e. absurd (none-some job e)
      | true ↦ at_urgent (urgent_job core die) refl
    ]
  where
    at_urgent : (o : Option Flight) → urgent_job core die ≡ o → (after_urgent die seat core o).0 ≡ Some job → TellsState core job.flight
    at_urgent None is e = other_tells core (without_stale_booking die core) die job e
    at_urgent (Some flight) is e = subst (λ (j : Handed). TellsState core j.flight) (same_Some _ job e) (urgent_tells core die flight is)

-- what is handed out fits: as it comes, but for what a header tells
abbrev Fits : Core → List ℕ → ℕ → Handed → Type 0
Fits core array die job = TellsState core job.flight → IsJobFor core.page_map.geometry array die job

kind_fits : (kind : Kind) (payload : List ℕ) (n : ℕ) → (kind ≡ Hole → payload ≡ replicate n 0) → IsPayloadOf kind payload
kind_fits Data payload n is = tt
kind_fits Hole payload n is = subst (All (λ byte. byte ≡ 0)) (sym (is refl)) (All-replicate (λ byte. byte ≡ 0) n 0 refl)

abbrev is_nothing : CollectorStep → Bool
is_nothing Nothing = true
is_nothing step = false

nothing≢erase : (block : Block) → Nothing ≡ EraseBlock block → ⊥
nothing≢erase block e = true≢false (ap is_nothing e)

abbrev block_of : CollectorStep → Option Block
block_of (EraseBlock block) = Some block
block_of step = None

-- the block that a victim's step erases is the victim
step_block : (slot : Option ℕ) (b : ℕ) (block : Block) {blocks : ℕ}
    → option_map_or (λ s. MoveSlot (record { 0 = s })) slot (EraseBlock (record { 0 = b })) ≡ EraseBlock block → b < blocks → block.0 < blocks
step_block None b block {blocks} e low = subst (λ (k : Block). k.0 < blocks) (same_Some _ block (ap block_of e)) low
step_block (Some slot) b block e low = absurd (none-some block (ap block_of e))

module _ (core : Core) (sound : IsSound core) (ready : AreReady core) (limits : HasLimits core) (array : List ℕ) (sixteen : length array ≡ 16)
    (die : ℕ) where
  abbrev total : ℕ
  total = core.page_map.geometry.blocks * core.page_map.geometry.slots

  die_low : is_live core.page_map die ≡ true → die < 64
  die_low on = let low = sound.dies.live_inside die on in let few = limits.dies in omega arith

  found_slot : (test : ℕ → Bool) (slot : ℕ) → find test (slots_of core.page_map) ≡ Some slot → slot < total
  found_slot test slot is = let low = among_low 0 total slot (found_passes test (slots_of core.page_map) slot is).1 in omega (arith, low)

  move_fits : (page : Page) (version : Version) (from to : Slot) → is_live core.page_map die ≡ true → IsUrgent core die (Move page version from to)
      → Fits core array die (handed (Move page version from to))
  move_fits page version from to on u tells =
      let n = sound.numbers page.0 version (sound.held die from.0 page version u.0) in
      let there = found_slot (is_erased_outside core.page_map die (from.0 / core.page_map.geometry.slots)) to.0 u.1 in
      let pages = limits.pages in let slots = limits.slots in let inside = n.inside in let below = n.below in let last = limits.last in (
        record {
          page_fits = omega arith;
          seq_from_one = n.given;
          seq_fits = omega arith;
          die_fits = die_low on;
          slot_fits = omega arith;
        },
        (sound.slots die from.0 (Held page version) u.0).inside,
        there,
      )

  erase_of : (o : Option ℕ) (block : Block) → victim core.page_map die ≡ o → option_map_or (step_on core.page_map die) o Nothing ≡ EraseBlock block
      → block.0 < core.page_map.geometry.blocks
  erase_of None block is e = absurd (nothing≢erase block e)
  erase_of (Some b) block is e =
      let low = among_low 0 core.page_map.geometry.blocks b
      (found_passes (λ b. may_be_victim core.page_map die b && list_all (is_no_better core.page_map die b) (below core.page_map.geometry.blocks))
      (below core.page_map.geometry.blocks) b is).1 in
      step_block _ b block e (omega (arith, low))

  read_fits : (page slot : ℕ) → copy_on core.page_map page die ≡ Some slot → slot < total
  read_fits page slot is = found_slot (is_current core.page_map page die) slot is

  program_fits : (p : WaitingProgram) → is_live core.page_map die ≡ true → Among p core.waiting → Fits core array die (program_of core.page_map p)
  program_fits p on among tells =
      let w = ready.programs p among in
      let pages = limits.pages in let slots = limits.slots in let last = limits.last in
      let inside = w.inside in let below = w.below in let there = w.on_die in
      record {
        tag = record {
          page_fits = omega arith;
          seq_from_one = w.given;
          seq_fits = omega arith;
          die_fits = die_low on;
          slot_fits = omega arith;
        };
        inside = there;
        sized = w.sized;
        kind = kind_fits p.version.kind p.payload core.page_map.geometry.page_bytes w.zeros;
      }

  header_fits : (epoch live : ℕ) → is_live core.page_map die ≡ true → Fits core array die (handed (Header epoch live))
  header_fits epoch live on tells = record {
    die = sound.dies.live_inside die on;
    live_dies = subst (λ n. n < 2 ^ core.page_map.geometry.dies) (sym tells.1) (mask_low (is_live core.page_map) core.page_map.geometry.dies);
    role = (
      subst (λ n. 1 ≤ n) (sym tells.0) ready.epoch,
      subst (λ n. n ≤ 2 ^ 62) (sym tells.0) limits.epoch,
      ap (λ n. bit_at n die) tells.1 ∙ mask_bit (is_live core.page_map) core.page_map.geometry.dies die (sound.dies.live_inside die on) on,
    );
    array = sixteen;
  }

  abbrev FitsAnswer : Option Handed × Core → Type 0
  FitsAnswer pair = (job : Handed) → pair.0 ≡ Some job → Fits core array die job

  live_of : is_idle core die ≡ true → is_live core.page_map die ≡ true
  live_of idle = (and_parts (is_live core.page_map die) _ idle).0

  urgent_fits : (flight : Flight) → is_idle core die ≡ true → IsUrgent core die flight → Fits core array die (handed flight)
  urgent_fits (Header epoch live) idle u = header_fits epoch live (live_of idle)
  urgent_fits (Move page version from to) idle u = move_fits page version from to (live_of idle) u
  urgent_fits (Erase block) idle u = λ tells. erase_of (victim core.page_map die) block refl u
  urgent_fits (Read batch page version slot) idle u = λ tells. read_fits page.0 slot.0 u.copy
  urgent_fits (Program page version slot) idle u = absurd u
  urgent_fits (Sync flushes) idle u = absurd u

  other_fits : (job : Handed) → is_idle core die ≡ true → IsOther (without_stale_booking die core) die (Some job) → Fits core array die job
  other_fits job idle u =
      elim u [
        | inl p ↦ subst (Fits core array die) (sym p.2)
            (program_fits p.0 (live_of idle) (found_passes (is_for die) core.waiting p.0 p.1).1)
        | inr f ↦ subst (Fits core array die) (sym f.1) (λ tells. tt)
      ]

  taken_fits : (seat : ℕ) → FitsAnswer (taken core die seat)
  taken_fits seat =
      take_cases core die seat FitsAnswer (λ job e. absurd (none-some job e))
      (λ flight idle u job e. subst (Fits core array die) (same_Some _ job e) (urgent_fits flight idle u))
      (λ o idle u job e. other_fits job idle (subst (IsOther (without_stale_booking die core) die) e u))

  -- whatever is handed out fits the die
  pub handed_fits : (seat : ℕ) (job : Handed) (new : Core) → Takes core die seat (Some job) new
      → IsJobFor core.page_map.geometry array die job
  handed_fits seat job new takes =
      let is : (taken core die seat).0 ≡ Some job = sym (ap (λ (pair : Option Handed × Core). pair.0) takes) in
      taken_fits seat job is (taken_tells core die seat job is)
