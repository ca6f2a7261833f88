-- Commit, Abandon and CommitCopy keep what holds.
use Rattle.fa_laws.proofs.Claiming.{claimed_inside, inside_insert, own_insert}
use Rattle.fa_laws.proofs.Invariant.{Holds, later, owned_claim, owned_of, scene_of}
use Rattle.fa_laws.proofs.Keeping.{Keeps, kept_is_sound, renumbered_is_sound}
use Rattle.fa_machine.proofs.Lists.{among-filter, among-filter-intro, among-map, any_none, any_some, no_refusal, tally-filter-le}
use Rattle.fa_machine.proofs.Maps.{get-change, get-insert_cases, get-insert_other, get-insert_same, place_cmp_total, place_same}
use Rattle.fa_machine.proofs.Values.{get-insert_all}
use Rattle.fa_laws.proofs.Parts.{held≢stale, kept≢held}
use Rattle.fa_laws.proofs.Scene.{IsNumbered, IsTargetAt, JobFits, Owned, Scene, Sound, is_settled, program_is_at}
use Rattle.fa_machine.specs.Among.{Among}
use Rattle.fa_laws.proofs.Settling.{Settles, settled_is_sound}
use Rattle.fa_machine.specs.Conditions.{reserved_under}
use Rattle.fa_machine.specs.Maps.{change, insert_all, place_cmp}
use Rattle.fa_machine.specs.State.{OpenClaim, Reservation, WaitingProgram, is_live}
use Rattle.fa_machine.specs.World.{Work, World}
use Rattle.fa_machine.specs.Writing.{abandon_refusal, claimed_page, commit_refusal, committed, is_programming, live_targets}
use Rattle.fa_machine.specs.Writing.{with_reserved, with_targets, without_page}
use Rattle.fa_machine.specs.declared.jobs.Flight.TheVariants.{Program}
use Rattle.fa_machine.specs.declared.places.Target.{Target}
use Rattle.fa_machine.specs.declared.places.Used.{Used}
use Rattle.fa_machine.specs.declared.places.Used.TheVariants.{Held, Reserved, Stale}
use Rattle.fa_machine.specs.declared.places.Version.{Version}
use Rattle.fa_machine.specs.declared.refusals.AbandonRefused.TheVariants.{Pending as AbandonPending, Programmed}
use Rattle.fa_machine.specs.declared.refusals.CommitRefused.TheVariants.{Failed, Pending as CommitPending}
use Rattle.fa_types.specs.Plain.{put}
use Rattle.fa_types.specs.declared.numbers.Page.{Page}
use Rattle.fa_types.specs.declared.numbers.Seq.{Seq}
use Rattle.fa_types.specs.declared.numbers.Slot.{Slot}
use Rattle.std.proofs.Common.{Bool, List, None, Option, Some, [], ap, arith, eq-eqb, false, inl, inr, map, not, refl, subst, suc, sym}
use Rattle.std.proofs.Common.{true, ℕ, ◌<◌, ◌∙◌, ◌≡◌, ◌⊎◌}
use Rattle.std.proofs.Math.ListN.{length-set}
use Rattle.std.proofs.lemmas.Bool.{and_from, cases_eq, false≢true, not-false, not-true}
use Rattle.std.proofs.lemmas.List.{get_or-set_other, get_or-set_same}
use Rattle.std.proofs.lemmas.Option.{none-some}
use Rattle.std.specs.FinMap.{FinMap, get, insert}
use Rattle.std.specs.List.{list_any}
use Rattle.std.specs.Prelude.{filter, if◌then◌else◌, is_some, option_and_then, option_map, slice_index_or, unwrap_or, ◌&&◌, ◌==◌}

-- whether a program waits for one of these slots
abbrev is_at : List Target → WaitingProgram → Bool
is_at places program = list_any (λ t. t.die.0 == program.die && t.slot.0 == program.slot) places

pub reserved_owned : (o : Option OpenClaim) (r : Reservation) → option_and_then {T = OpenClaim} (λ c. c.reserved) o ≡ Some r
    → option_and_then owned_claim o ≡ Some (record { page = unwrap_or (option_map {T = OpenClaim} (λ c. c.page) o) 0; version = r.version; targets = r.targets })
reserved_owned None r e = absurd (none-some r e)
reserved_owned (Some c) r e =
    ap (option_map {T = Reservation} (λ r. record { page = c.page; version = r.version; targets = r.targets })) e

reserved_open : (o : Option OpenClaim) (r : Reservation) → option_and_then {T = OpenClaim} (λ c. c.reserved) o ≡ Some r → is_some o ≡ true
reserved_open None r e = absurd (none-some r e)
reserved_open (Some c) r e = refl

-- a program that is written to a slot of something reserved was not marked yet
pub program_target : (s : Scene) → Sound s → (die : ℕ) (work : Work) → s.works die ≡ Some work → (page : Page) (version : Version) (slot : Slot)
    → work.job.flight ≡ Program page version slot → (q : Option ℕ) (x : Owned) (t : Target) → IsTargetAt s.places.own die slot.0 q x t
    → t.programmed ≡ false
program_target s h die work e page version slot is q x t at =
    let fits = subst (λ f. JobFits s.bytes s.places s.in_block (s.due die) die f work.job.payload) is (h.works die work e).job in
    (fits.place.target q x t at).0

staled_kept : (page : ℕ) (o : Option Used) → o ≡ Some Reserved → option_map (without_page page) o ≡ Some Reserved
staled_kept page o e = ap (option_map (without_page page)) e

staled_held_if : (b : Bool) (p p' : Page) (v v' : Version) → Some (if b then Stale else Held p v) ≡ Some (Held p' v') → Some (Held p v) ≡ Some (Held p' v')
staled_held_if true p p' v v' e = absurd (held≢stale p' v' (sym e))
staled_held_if false p p' v v' e = e

staled_held : (page : ℕ) (o : Option Used) (p : Page) (v : Version) → option_map (without_page page) o ≡ Some (Held p v) → o ≡ Some (Held p v)
staled_held page None p v e = absurd (none-some (Held p v) e)
staled_held page (Some Reserved) p v e = absurd (kept≢held (Some Reserved) p v refl e)
staled_held page (Some Stale) p v e = absurd (held≢stale p v (sym e))
staled_held page (Some (Held p' v')) p v e = staled_held_if (p'.0 == page) p' p v' v e

staled_settled_if : (b : Bool) (p : Page) (v : Version) → is_settled (Some (if b then Stale else Held p v)) ≡ true
staled_settled_if true p v = refl
staled_settled_if false p v = refl

staled_settled : (page : ℕ) (o : Option Used) → is_settled o ≡ true → is_settled (option_map (without_page page) o) ≡ true
staled_settled page None e = e
staled_settled page (Some Reserved) e = e
staled_settled page (Some Stale) e = e
staled_settled page (Some (Held p v)) e = staled_settled_if (p.0 == page) p v

module _ (w : World) (h : Holds w) (claim : ℕ) (r : Reservation) (is : reserved_under w.core claim ≡ Some r) where
  abbrev page : ℕ
  page = claimed_page w.core claim

  abbrev x : Owned
  x = record { page = page; version = r.version; targets = r.targets }

  abbrev closed : OpenClaim
  closed = record { page = page; reserved = None }

  abbrev own : Option ℕ → Option Owned
  own = owned_of w.core.copying (insert w.core.claims claim closed)

  owns : owned_of w.core.copying w.core.claims (Some claim) ≡ Some x
  owns = reserved_owned (get w.core.claims claim) r is

  inside : page < w.core.page_map.geometry.pages
  inside = claimed_inside w h claim (reserved_open (get w.core.claims claim) r is)

  owner : (q : Option ℕ) (y : Owned) → own q ≡ Some y → (owned_of w.core.copying w.core.claims q ≡ Some y) × (q ≡ Some claim → ⊥)
  owner q y e =
      elim (own_insert w.core.copying w.core.claims claim closed q y e) [
        | inl made ↦ absurd (none-some y made.1)
        | inr was ↦ was
      ]

  abbrev live_ones : List Target
  live_ones = live_targets w.core r.targets

  -- what the slots of the live targets come to
  placed : (final : Used) (before : FinMap place_cmp Used) (die slot : ℕ)
      → (get (insert_all (map (λ (t : Target). (t.die.0, t.slot.0)) live_ones) final before) (die, slot) ≡ get before (die, slot))
      ⊎ ((t : Target) × IsTargetAt (owned_of w.core.copying w.core.claims) die slot (Some claim) x t × (is_live w.core.page_map die ≡ true)
      × (get (insert_all (map (λ (t : Target). (t.die.0, t.slot.0)) live_ones) final before) (die, slot) ≡ Some final))
  placed final before die slot =
      elim (get-insert_all place_cmp_total place_same (map (λ (t : Target). (t.die.0, t.slot.0)) live_ones) final before (die, slot)) [
        | inl same ↦ inl same
        | inr found ↦
            let t = among-map (λ (t : Target). (t.die.0, t.slot.0)) (die, slot) live_ones found.0 in
            let kept = among-filter (λ (t : Target). is_live w.core.page_map t.die.0) t.0 r.targets t.1 in
            let on_die = ap (λ (q : ℕ × ℕ). q.0) t.2 in
            inr (
              t.0,
              record { owns = owns; among = kept.0; on_die = on_die; at_slot = ap (λ (q : ℕ × ℕ). q.1) t.2 },
              sym (ap (is_live w.core.page_map) on_die) ∙ kept.1,
              found.1,
            )
      ]

  module _ (seq : Seq) (seat : ℕ) (allowed_then : commit_refusal w.core r.targets ≡ None) (seq_is : seq ≡ r.version.seq) where
    programmed : (t : Target) → Among t r.targets → is_live w.core.page_map t.die.0 ≡ true → t.programmed ≡ true
    programmed t among is_live_one =
        let none = (no_refusal (list_any (λ (t : Target). not t.programmed) live_ones) (not (list_any (λ (t : Target). t.programmed) live_ones)) CommitPending Failed allowed_then).0 in
        not-false t.programmed (any_none (λ (t : Target). not t.programmed) live_ones none t
        (among-filter-intro (λ (t : Target). is_live w.core.page_map t.die.0) t r.targets among is_live_one))

    abbrev stale_map : FinMap place_cmp Used
    stale_map = change (λ place used. without_page page used) w.core.page_map.used

    stale_at : (die slot : ℕ) → get stale_map (die, slot) ≡ option_map (without_page page) (get w.core.page_map.used (die, slot))
    stale_at die slot = get-change place_cmp_total place_same (λ place used. without_page page used) w.core.page_map.used (die, slot)

    keeps : Keeps (scene_of w) (λ die slot. get stale_map (die, slot))
    keeps = record {
      kept = λ die slot e. stale_at die slot ∙ staled_kept page _ e;
      held = λ die slot p v e. staled_held page _ p v (sym (stale_at die slot) ∙ e);
      settled = λ die work e slot s. ap is_settled (stale_at die slot) ∙ staled_settled page _ s;
    }

    abbrev stale_scene : Scene
    stale_scene = record (scene_of w) { places = record ((scene_of w).places) { used = λ die slot. get stale_map (die, slot) } }

    abbrev plain_then : List (List ℕ)
    plain_then = put page (w.payloads page seq.0) w.plain

    numbered : (p : ℕ) (v : Version) → get (insert w.core.page_map.versions page r.version) p ≡ Some v
        → IsNumbered (scene_of w).bytes (λ p. slice_index_or plain_then p []) p v
    numbered p v e =
        elim (get-insert_cases w.core.page_map.versions page r.version p v e) [
          | inr was ↦ let before = h.sound.numbered p v was.0 in record {
            right = before.right ∙ sym (get_or-set_other w.plain page p (w.payloads page seq.0) [] was.1);
            hole = before.hole;
            below = before.below;
          }
          | inl made ↦
              let right = (h.sound.owned (Some claim) x owns).right in
              subst (λ (u : ℕ × Version). IsNumbered (scene_of w).bytes (λ p. slice_index_or plain_then p []) u.0 u.1)
              {x = (page, r.version)} {y = (p, v)} (λ i. (sym made.0 i, made.1 i))
              (record {
                right = ap (λ (n : Seq). w.payloads page n.0) (sym seq_is)
                    ∙ sym (get_or-set_same w.plain page (w.payloads page seq.0) [] (let n = h.plain in let i = inside in omega (arith, n, i)));
                hole = right.hole;
                below = right.below;
              })
        ]

    abbrev numbered_scene : Scene
    numbered_scene = record stale_scene {
      number = λ p. get (insert w.core.page_map.versions page r.version) p;
      plain = λ p. slice_index_or plain_then p [];
    }

    numbered_sound : Sound numbered_scene
    numbered_sound = renumbered_is_sound stale_scene (kept_is_sound (scene_of w) h.sound (λ die slot. get stale_map (die, slot)) keeps)
        (λ p. get (insert w.core.page_map.versions page r.version) p) (λ p. slice_index_or plain_then p []) numbered

    abbrev final : Used
    final = Held (record { 0 = page }) r.version

    settles : Settles numbered_scene (Some claim) x final
        (λ die slot. get (insert_all (map (λ (t : Target). (t.die.0, t.slot.0)) live_ones) final stale_map) (die, slot)) own w.core.waiting
    settles = record {
      is = owns;
      placed = placed final stale_map;
      finish = λ t among is_live_one. inr (refl, programmed t among is_live_one);
      owner = owner;
      fewer = λ p among. among;
      count = λ die slot. omega arith;
      free = λ p among t at is_live_one. false≢true (sym ((numbered_sound.waits p among).place.target (Some claim) x t at).0
          ∙ programmed t at.among (ap (is_live w.core.page_map) at.on_die ∙ is_live_one));
      idle = λ die work e p v slot flight t at is_live_one. false≢true (sym (program_target numbered_scene numbered_sound die work e p v slot flight (Some claim) x t at)
          ∙ programmed t at.among (ap (is_live w.core.page_map) at.on_die ∙ is_live_one));
    }

    pub commit_holds : Holds (record w { core = committed claim seat r w.core; plain = plain_then; moment = suc w.moment })
    commit_holds = record {
      sound = settled_is_sound numbered_scene numbered_sound (Some claim) x final
          (λ die slot. get (insert_all (map (λ (t : Target). (t.die.0, t.slot.0)) live_ones) final stale_map) (die, slot)) own w.core.waiting settles;
      jobs = h.jobs;
      claims = inside_insert w.core.page_map.geometry.pages w.core.claims claim closed h.claims inside;
      told = h.told;
      ordered = h.ordered;
      plain = length-set w.plain page (w.payloads page seq.0) ∙ h.plain;
      unwritten = λ p low e. elim (cases_eq p page) [
        | inl same ↦ absurd (none-some r.version (sym (sym (get-insert_same w.core.page_map.versions page r.version)
            ∙ ap (get (insert w.core.page_map.versions page r.version)) (sym same) ∙ e)))
        | inr apart ↦ get_or-set_other w.plain page p (w.payloads page seq.0) [] apart
            ∙ h.unwritten p low (sym (get-insert_other w.core.page_map.versions page r.version p apart) ∙ e)
      ];
      answered = later w.core.batches w.admitted w.values w.works w.due w.moment h.answered;
    }

  module _ (allowed_then : abandon_refusal w.core r.targets ≡ None) where
    abbrev left : List WaitingProgram
    left = filter (λ (p : WaitingProgram). not (is_at r.targets p)) w.core.waiting

    idle_then : (die : ℕ) (work : Work) → w.works die ≡ Some work → (p : Page) (v : Version) (slot : Slot) → work.job.flight ≡ Program p v slot
        → (t : Target) → IsTargetAt (owned_of w.core.copying w.core.claims) die slot.0 (Some claim) x t → ⊥
    idle_then die work e p v slot flight t at =
        let none = (no_refusal (list_any (λ (t : Target). is_programming (get w.core.jobs t.die.0) t.slot.0) r.targets) (list_any (λ (t : Target). t.programmed) live_ones) AbandonPending Programmed allowed_then).0 in
        let job : get w.core.jobs t.die.0 ≡ Some (Program p v slot) =
        ap (get w.core.jobs) at.on_die ∙ h.jobs die ∙ ap (option_map {T = Work} (λ k. k.job.flight)) e ∙ ap Some flight in
        false≢true (sym (any_none (λ (t : Target). is_programming (get w.core.jobs t.die.0) t.slot.0) r.targets none t at.among)
        ∙ ap (λ o. is_programming o t.slot.0) job ∙ eq-eqb slot.0 t.slot.0 (sym at.at_slot))

    abandons : Settles (scene_of w) (Some claim) x Stale
        (λ die slot. get (insert_all (map (λ (t : Target). (t.die.0, t.slot.0)) live_ones) Stale w.core.page_map.used) (die, slot)) own left
    abandons = record {
      is = owns;
      placed = placed Stale w.core.page_map.used;
      finish = λ t among is_live_one. inl refl;
      owner = owner;
      fewer = λ p among. (among-filter (λ (p : WaitingProgram). not (is_at r.targets p)) p w.core.waiting among).0;
      count = λ die slot. tally-filter-le (program_is_at die slot) (λ (p : WaitingProgram). not (is_at r.targets p)) w.core.waiting;
      free = λ p among t at is_live_one.
          let away = not-true (is_at r.targets p) (among-filter (λ (p : WaitingProgram). not (is_at r.targets p)) p w.core.waiting among).1 in
          false≢true (sym away ∙ any_some (λ (t : Target). t.die.0 == p.die && t.slot.0 == p.slot) r.targets t at.among
          (and_from (t.die.0 == p.die) (t.slot.0 == p.slot) (eq-eqb t.die.0 p.die at.on_die) (eq-eqb t.slot.0 p.slot at.at_slot)));
      idle = λ die work e p v slot flight t at is_live_one. idle_then die work e p v slot flight t at;
    }

    pub abandon_holds : Holds (record w {
      core = with_reserved claim None (record (w.core) {
        page_map = with_targets Stale live_ones w.core.page_map;
        waiting = left;
      });
      moment = suc w.moment;
    })
    abandon_holds = record {
      sound = settled_is_sound (scene_of w) h.sound (Some claim) x Stale
          (λ die slot. get (insert_all (map (λ (t : Target). (t.die.0, t.slot.0)) live_ones) Stale w.core.page_map.used) (die, slot)) own left abandons;
      jobs = h.jobs;
      claims = inside_insert w.core.page_map.geometry.pages w.core.claims claim closed h.claims inside;
      told = h.told;
      ordered = h.ordered;
      plain = h.plain;
      unwritten = h.unwritten;
      answered = later w.core.batches w.admitted w.values w.works w.due w.moment h.answered;
    }
