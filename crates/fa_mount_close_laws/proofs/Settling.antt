-- What is known of cells stays so as what is reserved is committed or given up.
use Rattle.fa_mount_close_laws.proofs.Owning.{left_owned}
use Rattle.fa_mount_close_laws.proofs.Sights.{HasTarget, IsComing, IsKnown, Known, coming_stays, flight_at, raised, same_at, sight_of}
use Rattle.fa_mount_close_laws.specs.LastCells.{IsOfLast}
use Rattle.fa_laws.proofs.Committing.{program_target, reserved_owned}
use Rattle.fa_laws.proofs.ImageCalls.{moves}
use Rattle.fa_laws.proofs.Invariant.{Holds, owned_of, scene_of}
use Rattle.fa_laws.proofs.Parts.{moved_stands}
use Rattle.fa_laws.proofs.Scene.{Bytes, IsTargetAt, Owned, Stands}
use Rattle.fa_machine.proofs.Lists.{among-filter, among-filter-intro, any_none, any_some, no_refusal}
use Rattle.fa_machine.proofs.Maps.{get-insert_other, get-insert_same}
use Rattle.fa_machine.specs.Among.{Among}
use Rattle.fa_machine.specs.Cells.{Sealed, moved_payload}
use Rattle.fa_machine.specs.Conditions.{reserved_under}
use Rattle.fa_machine.specs.State.{OpenClaim, Reservation, WaitingProgram, is_live}
use Rattle.fa_machine.specs.World.{Work, World}
use Rattle.fa_machine.specs.Writing.{abandon_refusal, claimed_page, commit_refusal, committed, is_programming, live_targets, with_reserved, with_targets}
use Rattle.fa_machine.specs.declared.places.Copying.{Copying}
use Rattle.fa_machine.specs.declared.places.Target.{Target}
use Rattle.fa_machine.specs.declared.places.Used.TheVariants.{Reserved, Stale}
use Rattle.fa_machine.specs.declared.places.Version.{Version}
use Rattle.fa_machine.specs.declared.refusals.AbandonRefused.TheVariants.{Pending as AbandonPending, Programmed}
use Rattle.fa_machine.specs.declared.refusals.CommitRefused.TheVariants.{Failed, Pending as CommitPending}
use Rattle.fa_sound.specs.Owners.{owned_claim as sound_claim}
use Rattle.fa_sound.specs.Sound.{IsSound}
use Rattle.std.proofs.Common.{Bool, List, None, Option, Some, [], ap, arith, eq-eqb, false, inl, inr, not, refl, subst, suc, sym, true, ℕ}
use Rattle.std.proofs.Common.{◌<◌, ◌∙◌, ◌∷◌, ◌≡◌, ◌||◌, ◌⊎◌}
use Rattle.std.proofs.lemmas.Bool.{and_from, cases_eq, false≢true, not-false, not-true, or_cases}
use Rattle.std.proofs.lemmas.Option.{none-some, same_Some}
use Rattle.std.specs.FinMap.{FinMap, contains_key, get, insert}
use Rattle.std.specs.List.{list_any}
use Rattle.std.specs.Ordering.{nat_cmp}
use Rattle.std.specs.Prelude.{filter, option_and_then, option_map, unwrap_or, ◌&&◌, ◌==◌}

sound_owned : (o : Option OpenClaim) (r : Reservation) → option_and_then {T = OpenClaim} (λ c. c.reserved) o ≡ Some r
    → option_and_then sound_claim o ≡ Some (record { page = unwrap_or (option_map {T = OpenClaim} (λ c. c.page) o) 0; version = r.version; targets = r.targets })
sound_owned None r e = absurd (none-some r e)
sound_owned (Some c) r e = ap (option_map {T = Reservation} (λ r. record { page = c.page; version = r.version; targets = r.targets })) e

-- the payload of a cell in which something stands is what was reserved
pub stands_bytes : (b : Bytes) (page : ℕ) (version : Version) (die slot : ℕ) (payload : List ℕ) → Stands b page version die slot
    → b.seen die slot ≡ Sealed page version die slot payload → payload ≡ b.payloads page version.seq.0
stands_bytes b page version die slot payload stands is =
    same_Some payload (b.payloads page version.seq.0)
    (sym (moves page version die slot payload) ∙ sym (ap (moved_payload page version die slot) is) ∙ stands)

module _ (w : World) (h : Holds w) (s : IsSound w.core) (k : Known (sight_of w)) where
  abbrev own : Option ℕ → Option Owned
  own = owned_of w.core.copying w.core.claims

  -- a die for which a program waits is live
  waits_live : (p : WaitingProgram) → Among p w.core.waiting → is_live w.core.page_map p.die ≡ true
  waits_live p among = (s.slots p.die p.slot Reserved (h.sound.waits p among).place.kept).on_live

  pub job_at : (die : ℕ) (work : Work) → w.works die ≡ Some work → get w.core.jobs die ≡ Some work.job.flight
  job_at die work e = h.jobs die ∙ ap flight_at e

  pub works_live : (die : ℕ) (work : Work) → w.works die ≡ Some work → is_live w.core.page_map die ≡ true
  works_live die work e = (s.jobs die work.job.flight (job_at die work e)).on_live

  -- a die of a target that is there is live
  target_live : (q : Option ℕ) (x : Owned) → own q ≡ Some x → (t : Target) → Among t x.targets → (die : ℕ) → t.die.0 ≡ die
      → (contains_key w.core.page_map.live die || contains_key w.core.spares die) ≡ true → is_live w.core.page_map t.die.0 ≡ true
  target_live q x owns t among die on there =
      elim (or_cases (contains_key w.core.page_map.live die) (contains_key w.core.spares die) there) [
        | inl live ↦ ap (is_live w.core.page_map) on ∙ live
        | inr spare ↦ absurd (false≢true (sym ((h.sound.owned q x owns).targets t among).fresh ∙ ap (contains_key w.core.spares) on ∙ spare))
      ]

  module _ (claim : ℕ) (r : Reservation) (is : reserved_under w.core claim ≡ Some r) where
    abbrev page : ℕ
    page = claimed_page w.core claim

    abbrev x : Owned
    x = record { page = page; version = r.version; targets = r.targets }

    abbrev closed : OpenClaim
    closed = record { page = page; reserved = None }

    abbrev left : Option ℕ → Option Owned
    left = owned_of w.core.copying (insert w.core.claims claim closed)

    abbrev live_ones : List Target
    live_ones = live_targets w.core r.targets

    owns : own (Some claim) ≡ Some x
    owns = reserved_owned (get w.core.claims claim) r is

    still : (q : Option ℕ) (y : Owned) → own q ≡ Some y → (q ≡ Some claim → ⊥) → left q ≡ Some y
    still q y e apart = left_owned w.core.copying w.core.claims claim closed q y e apart

    -- a target of this claim
    its : (die slot : ℕ) (q : Option ℕ) (y : Owned) (t : Target) → IsTargetAt own die slot q y t → q ≡ Some claim → (x ≡ y) × Among t r.targets
    its die slot q y t at same =
        let e : x ≡ y = same_Some x y (sym owns ∙ sym (ap own same) ∙ at.owns) in
        (e, subst (λ (z : Owned). Among t z.targets) (sym e) at.among)

    -- what is kept for others is so still
    others : (die slot : ℕ) → ((q : Option ℕ) (y : Owned) (t : Target) → IsTargetAt own die slot q y t → q ≡ Some claim → ⊥)
        → HasTarget own die slot → HasTarget left die slot
    others die slot away t = record {
      owner = t.owner;
      owned = t.owned;
      target = t.target;
      at = same_at own left die slot t.owner t.owned t.target (still t.owner t.owned t.at.owns (away t.owner t.owned t.target t.at)) t.at;
    }

    module _ (seat : ℕ) (may : commit_refusal w.core r.targets ≡ None) where
      programmed : (t : Target) → Among t r.targets → is_live w.core.page_map t.die.0 ≡ true → t.programmed ≡ true
      programmed t among alive =
          let none = (no_refusal (list_any (λ (t : Target). not t.programmed) live_ones) (not (list_any (λ (t : Target). t.programmed) live_ones)) CommitPending Failed may).0 in
          not-false t.programmed (any_none (λ (t : Target). not t.programmed) live_ones none t
          (among-filter-intro (λ (t : Target). is_live w.core.page_map t.die.0) t r.targets among alive))

      newer : (was : Version) → get w.core.page_map.versions page ≡ Some was → was.seq.0 < r.version.seq.0
      newer was e = (s.new claim _ (sound_owned (get w.core.claims claim) r is)).newer was e

      abbrev numbers : FinMap nat_cmp Version
      numbers = insert w.core.page_map.versions page r.version

      -- a cell of this write is of the last one then
      committed_cell : (p die slot : ℕ) (version : Version) (payload : List ℕ) (c : IsComing own (w.works die) die slot p version) → c.claim ≡ claim
          → (contains_key w.core.page_map.live die || contains_key w.core.spares die) ≡ true
          → (w.images die).seen slot ≡ Sealed p version die slot payload → IsOfLast (get numbers p) (w.payloads p) version payload
      committed_cell p die slot version payload c same there cell =
          let mine = its die slot (Some c.claim) c.owned c.target c.at (ap Some same) in
          let page_is : page ≡ p = ap (λ (y : Owned). y.page) mine.0 ∙ c.page_is in
          let version_is : r.version ≡ version = ap (λ (y : Owned). y.version) mine.0 ∙ c.version_is in
          let alive = target_live (Some claim) x owns c.target mine.1 die c.at.on_die there in
          let stands = ((h.sound.owned (Some claim) x owns).targets c.target mine.1).done alive (programmed c.target mine.1 alive) in
          let here = moved_stands (scene_of w).bytes page p r.version version c.target.die.0 die c.target.slot.0 slot page_is version_is c.at.on_die c.at.at_slot stands in
          record {
            write = r.version;
            is_last = ap (get numbers) (sym page_is) ∙ get-insert_same w.core.page_map.versions page r.version;
            older = let n = ap (λ (v : Version). v.seq.0) version_is in omega (arith, n);
            same = λ e. (sym version_is, stands_bytes (scene_of w).bytes p version die slot payload here cell);
          }

      commit_cells : (p die slot : ℕ) (version : Version) (payload : List ℕ)
          → (contains_key w.core.page_map.live die || contains_key w.core.spares die) ≡ true
          → (w.images die).seen slot ≡ Sealed p version die slot payload → IsKnown (sight_of w) p die slot version payload
          → IsOfLast (get numbers p) (w.payloads p) version payload ⊎ IsComing left (w.works die) die slot p version
      commit_cells p die slot version payload there cell (inl last) =
          elim (cases_eq p page) [
            | inl same ↦ inl (subst (λ o. IsOfLast o (w.payloads p) version payload)
                (sym (ap (get numbers) same ∙ get-insert_same w.core.page_map.versions page r.version))
                (raised (get w.core.page_map.versions p) (w.payloads p) version r.version payload last
                (λ was e. newer was (sym (ap (get w.core.page_map.versions) same) ∙ e))))
            | inr apart ↦ inl (subst (λ o. IsOfLast o (w.payloads p) version payload) (sym (get-insert_other w.core.page_map.versions page r.version p apart)) last)
          ]
      commit_cells p die slot version payload there cell (inr c) =
          elim (cases_eq c.claim claim) [
            | inl same ↦ inl (committed_cell p die slot version payload c same there cell)
            | inr apart ↦ inr (coming_stays own left (w.works die) (w.works die) die slot p version c
                (still (Some c.claim) c.owned c.at.owns (λ e. apart (same_Some c.claim claim e))) (λ at. at))
          ]

      pub commit_known : Known (sight_of (record w { core = committed claim seat r w.core }))
      commit_known = record {
        cells = λ p die slot version payload low there inside fine cell.
            commit_cells p die slot version payload there cell (k.cells p die slot version payload low there inside fine cell);
        waits = λ p among. others p.die p.slot (λ q y t at same.
            let mine = its p.die p.slot q y t at same in
            false≢true (sym ((h.sound.waits p among).place.target q y t at).0
            ∙ programmed t mine.1 (ap (is_live w.core.page_map) at.on_die ∙ waits_live p among))) (k.waits p among);
        programs = λ die work p v slot e flight. others die slot.0 (λ q y t at same.
            let mine = its die slot.0 q y t at same in
            false≢true (sym (program_target (scene_of w) h.sound die work e p v slot flight q y t at)
            ∙ programmed t mine.1 (ap (is_live w.core.page_map) at.on_die ∙ works_live die work e))) (k.programs die work p v slot e flight);
      }

    module _ (may : abandon_refusal w.core r.targets ≡ None) where
      abbrev is_at : WaitingProgram → Bool
      is_at p = list_any (λ (t : Target). t.die.0 == p.die && t.slot.0 == p.slot) r.targets

      abbrev rest : List WaitingProgram
      rest = filter (λ (p : WaitingProgram). not (is_at p)) w.core.waiting

      none_of : (list_any (λ (t : Target). is_programming (get w.core.jobs t.die.0) t.slot.0) r.targets ≡ false)
          × (list_any (λ (t : Target). t.programmed) live_ones ≡ false)
      none_of = no_refusal (list_any (λ (t : Target). is_programming (get w.core.jobs t.die.0) t.slot.0) r.targets)
          (list_any (λ (t : Target). t.programmed) live_ones) AbandonPending Programmed may

      -- no job is at a target of the claim
      idle : (t : Target) → Among t r.targets → (die slot : ℕ) → t.die.0 ≡ die → t.slot.0 ≡ slot → is_programming (flight_at (w.works die)) slot ≡ true → ⊥
      idle t among die slot on at programming =
          false≢true (sym (any_none (λ (t : Target). is_programming (get w.core.jobs t.die.0) t.slot.0) r.targets none_of.0 t among)
          ∙ (λ i. is_programming (get w.core.jobs (on i)) (at i)) ∙ ap (λ o. is_programming o slot) (h.jobs die) ∙ programming)

      no_cell : (p die slot : ℕ) (version : Version) (c : IsComing own (w.works die) die slot p version) → c.claim ≡ claim
          → (contains_key w.core.page_map.live die || contains_key w.core.spares die) ≡ true → ⊥
      no_cell p die slot version c same there =
          let mine = its die slot (Some c.claim) c.owned c.target c.at (ap Some same) in
          let alive = target_live (Some claim) x owns c.target mine.1 die c.at.on_die there in
          elim c.done [
            | inl done ↦ false≢true (sym (any_none (λ (t : Target). t.programmed) live_ones none_of.1 c.target
                (among-filter-intro (λ (t : Target). is_live w.core.page_map t.die.0) c.target r.targets mine.1 alive)) ∙ done)
            | inr programming ↦ idle c.target mine.1 die slot c.at.on_die c.at.at_slot programming
          ]

      pub abandon_known : Known (sight_of (record w {
        core = with_reserved claim None (record (w.core) { page_map = with_targets Stale live_ones w.core.page_map; waiting = rest });
        moment = suc w.moment;
      }))
      abandon_known = record {
        cells = λ p die slot version payload low there inside fine cell. elim (k.cells p die slot version payload low there inside fine cell) [
          | inl last ↦ inl last
          | inr c ↦ inr (coming_stays own left (w.works die) (w.works die) die slot p version c
              (still (Some c.claim) c.owned c.at.owns (λ e. no_cell p die slot version c (same_Some c.claim claim e) there)) (λ at. at))
        ];
        waits = λ p among.
            let kept = among-filter (λ (p : WaitingProgram). not (is_at p)) p w.core.waiting among in
            others p.die p.slot (λ q y t at same.
            false≢true (sym (not-true (is_at p) kept.1) ∙ any_some (λ (t : Target). t.die.0 == p.die && t.slot.0 == p.slot) r.targets t (its p.die p.slot q y t at same).1
            (and_from (t.die.0 == p.die) (t.slot.0 == p.slot) (eq-eqb t.die.0 p.die at.on_die) (eq-eqb t.slot.0 p.slot at.at_slot)))) (k.waits p kept.0);
        programs = λ die work p v slot e flight. others die slot.0 (λ q y t at same.
            idle t (its die slot.0 q y t at same).1 die slot.0 at.on_die at.at_slot
            (ap (λ o. is_programming o slot.0) (ap flight_at e ∙ ap Some flight) ∙ eq-eqb slot.0 slot.0 refl)) (k.programs die work p v slot e flight);
      }

  module _ (c : Copying) (is : w.core.copying ≡ Some c) where
    abbrev y : Owned
    y = record { page = c.page.0; version = c.version; targets = c.target ∷ [] }

    abbrev without : Option ℕ → Option Owned
    without = owned_of None w.core.claims

    copy_owns : own None ≡ Some y
    copy_owns = ap (λ o. owned_of o w.core.claims None) is

    its_target : (die slot : ℕ) (z : Owned) (t : Target) → IsTargetAt own die slot None z t → c.target ≡ t
    its_target die slot z t at = only (subst (λ (u : Owned). Among t u.targets) (sym (same_Some y z (sym copy_owns ∙ at.owns))) at.among)
      where
        only : Among t (c.target ∷ []) → c.target ≡ t
        only (inl same) = same
        only (inr rest) = absurd rest

    others_left : (die slot : ℕ) → ((z : Owned) (t : Target) → IsTargetAt own die slot None z t → ⊥) → HasTarget own die slot → HasTarget without die slot
    others_left die slot away t = by_owner t.owner t.at
      where
        by_owner : (q : Option ℕ) → IsTargetAt own die slot q t.owned t.target → HasTarget without die slot
        by_owner None at = absurd (away t.owned t.target at)
        by_owner (Some id) at = record {
          owner = Some id;
          owned = t.owned;
          target = t.target;
          at = record { owns = at.owns; among = at.among; on_die = at.on_die; at_slot = at.at_slot };
        }

    -- the copy is over, as it was programmed, or its die is out
    pub copy_known : (c.target.programmed ≡ true) ⊎ (is_live w.core.page_map c.target.die.0 ≡ false)
        → Known (sight_of (record w { core = record (w.core) { copying = None } }))
    copy_known over = record {
      cells = λ p die slot version payload low there inside fine cell. elim (k.cells p die slot version payload low there inside fine cell) [
        | inl last ↦ inl last
        | inr d ↦ inr (coming_stays own without (w.works die) (w.works die) die slot p version d d.at.owns (λ at. at))
      ];
      waits = λ p among. others_left p.die p.slot (λ z t at.
          let same = its_target p.die p.slot z t at in
          elim over [
            | inl done ↦ false≢true (sym ((h.sound.waits p among).place.target None z t at).0 ∙ ap (λ (u : Target). u.programmed) (sym same) ∙ done)
            | inr out ↦ false≢true (sym out ∙ ap (λ (u : Target). is_live w.core.page_map u.die.0) same ∙ ap (is_live w.core.page_map) at.on_die ∙ waits_live p among)
          ]) (k.waits p among);
      programs = λ die work p v slot e flight. others_left die slot.0 (λ z t at.
          let same = its_target die slot.0 z t at in
          elim over [
            | inl done ↦ false≢true (sym (program_target (scene_of w) h.sound die work e p v slot flight None z t at) ∙ ap (λ (u : Target). u.programmed) (sym same) ∙ done)
            | inr out ↦ false≢true (sym out ∙ ap (λ (u : Target). is_live w.core.page_map u.die.0) same ∙ ap (is_live w.core.page_map) at.on_die ∙ works_live die work e)
          ]) (k.programs die work p v slot e flight);
    }
