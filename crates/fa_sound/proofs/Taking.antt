-- Takes, programs that end, and spares that come in keep the state sound.
use Rattle.std.specs.Option.{option_map_or}
use Rattle.fa_machine.proofs.Lists.{among_low, counted_none, found_passes, in_the_block, none_passes}
use Rattle.fa_machine.proofs.Maps.{get-insert_cases, get-place_other, get-place_same}
use Rattle.fa_machine.proofs.Takes.{IsOther, IsUrgent, take_cases}
use Rattle.fa_machine.specs.Among.{Among}
use Rattle.fa_machine.specs.Collecting.{count_in, is_erased_outside, may_be_victim, next_step, slots_in, step_on, victim}
use Rattle.fa_machine.specs.Copies.{is_held_slot, is_reserved_slot, is_stale_slot}
use Rattle.fa_machine.specs.Maps.{below}
use Rattle.fa_machine.specs.State.{Core, MapState, is_live, slots_of, used_at}
use Rattle.fa_machine.specs.Taking.{Handed, Takes, begins, begun, is_idle, without_stale_booking}
use Rattle.fa_machine.specs.declared.ids.Block.{Block}
use Rattle.fa_machine.specs.declared.jobs.CollectorStep.{CollectorStep}
use Rattle.fa_machine.specs.declared.jobs.CollectorStep.TheVariants.{EraseBlock, MoveSlot, Nothing}
use Rattle.fa_machine.specs.declared.jobs.Flight.{Flight}
use Rattle.fa_machine.specs.declared.jobs.Flight.TheVariants.{Erase, Header, Move, Program, Read, Sync}
use Rattle.fa_machine.specs.declared.places.Used.{Used}
use Rattle.fa_machine.specs.declared.places.Used.TheVariants.{Held, Reserved}
use Rattle.fa_machine.specs.declared.places.Version.{Version}
use Rattle.fa_sound.proofs.Changing.{held≢none, not_held, reserved≢none}
use Rattle.fa_sound.proofs.Reserving.{IsTaken, reserve_sound, was_held}
use Rattle.fa_sound.specs.Owners.{Owned}
use Rattle.fa_sound.specs.Sound.{IsErasing, IsJob, IsSoundView, View, is_settled, view_of}
use Rattle.fa_types.specs.declared.kind.Kind.TheVariants.{Data}
use Rattle.fa_types.specs.declared.numbers.Page.{Page}
use Rattle.std.proofs.Common.{Bool, None, Option, Some, [], ap, arith, eqb-true, false, inl, inr, refl, subst, sym, true, ℕ, ◌*◌, ◌/◌, ◌<◌, ◌∙◌, ◌≡◌, ◌⊎◌}
use Rattle.std.proofs.lemmas.Bool.{and_parts, cases_eq, false≢true}
use Rattle.std.specs.FinMap.{get, insert}
use Rattle.std.specs.Prelude.{find, is_none, nat_lt, ◌&&◌, ◌==◌}

-- a job begins
module _ (core : Core) (h : IsSoundView (view_of core)) (die : ℕ) (on : is_live core.page_map die ≡ true) where
  abbrev v : View
  v = view_of core

  pub job_begins : (flight : Flight) → IsJob v.slots v.live (v.used die) v.own die flight
      → IsSoundView (record v { job = λ d. get (insert core.jobs die flight) d })
  job_begins flight fits = record {
    copies = h.copies;
    numbers = h.numbers;
    slots = h.slots;
    held = h.held;
    once = h.once;
    targets = h.targets;
    apart = h.apart;
    spread = h.spread;
    new = h.new;
    old = h.old;
    away = h.away;
    dies = h.dies;
    claims = h.claims;
    jobs = λ d other e. elim (get-insert_cases core.jobs die flight d other e) [
      | inl new ↦ subst (λ (q : ℕ × Flight). IsJob v.slots v.live (v.used q.0) v.own q.0 q.1) {x = (die, flight)} {y = (d, other)}
          (λ i. (sym new.0 i, new.1 i)) fits
      | inr was ↦ h.jobs d other was.0
    ];
  }

  -- a slot for a move
  module _ (to : ℕ) (erased : v.used die to ≡ None) (inside : to < v.total) where
    abbrev used : ℕ → ℕ → Option Used
    used d slot = get (insert core.page_map.used (die, to) Reserved) (d, slot)

    at_to : used die to ≡ Some Reserved
    at_to = get-place_same core.page_map.used die to Reserved

    placed : (d slot : ℕ) → (used d slot ≡ v.used d slot) ⊎ IsTaken v used d slot
    placed d slot =
        elim (cases_eq d die) [
          | inr apart ↦ inl (get-place_other core.page_map.used die to Reserved d slot (λ a b. apart a))
          | inl same ↦ elim (cases_eq slot to) [
            | inr away ↦ inl (get-place_other core.page_map.used die to Reserved d slot (λ a b. away b))
            | inl at ↦ inr (subst (λ (q : ℕ × ℕ). IsTaken v used q.0 q.1) {x = (die, to)} {y = (d, slot)} (λ i. (sym same i, sym at i))
                (record { erased = erased; kept = at_to; on_live = on; inside = inside }))
          ]
        ]

    abbrev nobody : Owned
    nobody = record { page = 0; version = record { seq = record { 0 = 0 }; kind = Data }; targets = [] }

    pub slot_sound : IsSoundView (record v { used = used })
    slot_sound = reserve_sound v h used v.own None nobody placed (λ q y e. inl e) (λ t among. absurd among) v.last v.claim (omega arith) h.new h.old
        (λ y e t among slot p w f same seq. h.away y e t among slot p w
        (was_held v h used v.own None nobody placed (λ q y e. inl e) (λ t among. absurd among) t.die.0 slot p w f) same seq)
        h.claims (λ d. omega arith)

    pub to_kept : used die to ≡ Some Reserved
    to_kept = at_to

    pub from_same : (from : ℕ) (p : Page) (w : Version) → v.used die from ≡ Some (Held p w) → used die from ≡ Some (Held p w)
    from_same from p w e = get-place_other core.page_map.used die to Reserved die from
        (λ a b. held≢none (v.used die from) p w e (ap (v.used die) b ∙ erased)) ∙ e

held_page : (p q : Page) (v w : Version) (o : Option Used) → o ≡ Some (Held p v) → o ≡ Some (Held q w) → q ≡ p
held_page p q v w o e f = cc

held_version : (p q : Page) (v w : Version) (o : Option Used) → o ≡ Some (Held p v) → o ≡ Some (Held q w) → w ≡ v
held_version p q v w o e f = cc

is_none_of : (o : Option Used) → is_none o ≡ true → o ≡ None
is_none_of None e = refl
is_none_of (Some u) e = absurd (false≢true e)

abbrev is_erase : CollectorStep → Bool
is_erase (MoveSlot slot) = false
is_erase (EraseBlock block) = true
is_erase Nothing = false

abbrev erased_block : CollectorStep → ℕ
erased_block (MoveSlot slot) = 0
erased_block (EraseBlock block) = block.0
erased_block Nothing = 0

-- the block that is erased is the victim, in which nothing is held
the_victim : (b : ℕ) (found : Option ℕ) (block : Block)
    → option_map_or (λ slot. MoveSlot (record { 0 = slot })) found (EraseBlock (record { 0 = b })) ≡ EraseBlock block → (b ≡ block.0) × (found ≡ None)
the_victim b None block e = (ap erased_block e, refl)
the_victim b (Some slot) block e = absurd (false≢true (ap is_erase e))

abbrev IsEmptied : MapState → ℕ → ℕ → Type 0
IsEmptied m die block = (count_in m die block is_reserved_slot ≡ 0) × (find (λ slot. is_held_slot (used_at m die slot)) (slots_in m block) ≡ None)

emptied : (m : MapState) (die : ℕ) (block : Block) (v : Option ℕ) → victim m die ≡ v → option_map_or (step_on m die) v Nothing ≡ EraseBlock block
    → IsEmptied m die block.0
emptied m die block None is e = absurd (false≢true (ap is_erase e))
emptied m die block (Some b) is e =
    let same = the_victim b _ block e in
    let passes = (found_passes _ (below m.geometry.blocks) b is).0 in
    let may : may_be_victim m die b ≡ true = (and_parts (may_be_victim m die b) _ passes).0 in
    let stale : Bool = nat_lt 0 (count_in m die b is_stale_slot) in
    let unreserved : Bool = count_in m die b is_reserved_slot == 0 in
    let none : unreserved ≡ true = (and_parts stale unreserved (and_parts (stale && unreserved) _ may).0).1 in
    subst (IsEmptied m die) same.0 (eqb-true _ _ none, same.1)

module _ (core : Core) (h : IsSoundView (view_of core)) (die : ℕ) (on : is_live core.page_map die ≡ true) (block : Block)
    (is : next_step core.page_map die ≡ EraseBlock block) where
  abbrev w : View
  w = view_of core

  empty_block : IsEmptied core.page_map die block.0
  empty_block = emptied core.page_map die block (victim core.page_map die) refl is

  in_block : (slot : ℕ) (u : Used) → w.used die slot ≡ Some u → (slot / w.slots == block.0) ≡ true → Among slot (slots_in core.page_map block.0)
  in_block slot u e inside = in_the_block w.slots block.0 slot (some_slots w.slots refl) inside
    where
      some_slots : (n : ℕ) → w.slots ≡ n → 0 < w.slots
      some_slots n e' =
          let low : slot < w.total = (h.slots die slot u e).inside in
          elim (cases_eq w.slots 0) [
            | inl zero_of ↦ absurd (let z : core.page_map.geometry.blocks * w.slots ≡ core.page_map.geometry.blocks * 0 = ap (λ k. core.page_map.geometry.blocks * k) zero_of in omega (arith, z, low))
            | inr apart ↦ omega arith
          ]

  pub erase_begins : IsErasing w.slots (w.used die) w.own die block.0
  erase_begins = record {
    none_held = λ slot inside. not_held (w.used die slot) (λ p u e.
        false≢true (sym (none_passes (λ slot. is_held_slot (used_at core.page_map die slot)) (slots_in core.page_map block.0) empty_block.1 slot (in_block slot (Held p u) e inside))
        ∙ ap is_held_slot e));
    none_done = λ slot inside a.
        let kept = (h.targets die slot a).kept on in
        absurd (false≢true (sym (counted_none (λ slot. is_reserved_slot (used_at core.page_map die slot)) (slots_in core.page_map block.0) empty_block.0 slot (in_block slot Reserved kept inside))
        ∙ ap is_reserved_slot kept));
  }

module _ (core : Core) (h : IsSoundView (view_of core)) (die seat : ℕ) where
  live_of : (d : ℕ) → is_idle core d ≡ true → is_live core.page_map d ≡ true
  live_of d e = (and_parts (is_live core.page_map d) _ e).0

  begun_sound : (flight : Flight) → is_idle core die ≡ true → IsUrgent core die flight → IsSoundView (view_of (begun die seat flight core))
  begun_sound (Header epoch live) idle u = job_begins core h die (live_of die idle) (Header epoch live) (record { on_live = live_of die idle; fits = tt })
  begun_sound (Read batch page version slot) idle u =
      job_begins core h die (live_of die idle) (Read batch page version slot) (record { on_live = live_of die idle; fits = tt })
  begun_sound (Erase block) idle u =
      job_begins core h die (live_of die idle) (Erase block) (record { on_live = live_of die idle; fits = erase_begins core h die (live_of die idle) block u })
  begun_sound (Program page version slot) idle u = absurd u
  begun_sound (Sync flushes) idle u = absurd u
  begun_sound (Move page version from to) idle u =
      let on = live_of die idle in
      let found = found_passes (is_erased_outside core.page_map die (from.0 / core.page_map.geometry.slots)) (slots_of core.page_map) to.0 u.1 in
      let erased = is_none_of (used_at core.page_map die to.0) (and_parts (is_none (used_at core.page_map die to.0)) _ found.0).0 in
      let low = among_low 0 (core.page_map.geometry.blocks * core.page_map.geometry.slots) to.0 found.1 in
      let inside : to.0 < core.page_map.geometry.blocks * core.page_map.geometry.slots = omega (arith, low) in
      let from_then = from_same core h die on to.0 erased inside from.0 page version u.0 in
      let middle : Core = record core { page_map = record (core.page_map) { used = insert core.page_map.used (die, to.0) Reserved } } in
      job_begins middle (slot_sound core h die on to.0 erased inside) die on (Move page version from to) (record {
        on_live = on;
        fits = record {
          settled = ap is_settled from_then;
          page_is = λ p w e. held_page page p version w _ from_then e;
          version_is = λ p w e. held_version page p version w _ from_then e;
          kept = to_kept core h die on to.0 erased inside;
          alone = λ a. reserved≢none (used_at core.page_map die to.0) ((h.targets die to.0 a).kept on) erased;
        };
      })

  abbrev dropped : Core
  dropped = without_stale_booking die core

  other_sound : (job : Option Handed) → is_idle core die ≡ true → IsOther dropped die job → IsSoundView (view_of (begins die seat dropped job).1)
  other_sound None idle u = h
  other_sound (Some job) idle (inl p) =
      subst (λ j. IsSoundView (view_of (begins die seat dropped (Some j)).1)) (sym p.2)
      (job_begins core h die (live_of die idle) _ (record { on_live = live_of die idle; fits = tt }))
  other_sound (Some job) idle (inr f) =
      subst (λ j. IsSoundView (view_of (begins die seat dropped (Some j)).1)) (sym f.1)
      (job_begins core h die (live_of die idle) _ (record { on_live = live_of die idle; fits = tt }))

  pub take_sound : (answer : Option Handed) (new : Core) → Takes core die seat answer new → IsSoundView (view_of new)
  take_sound answer new e =
      subst (λ (pair : Option Handed × Core). IsSoundView (view_of pair.1)) (sym e)
      (take_cases core die seat (λ (pair : Option Handed × Core). IsSoundView (view_of pair.1)) h
      (λ flight idle u. begun_sound flight idle u) (λ job idle u. other_sound job idle u))
