-- A die that holds a page that was flushed has a durable copy of it that is no older.
use Rattle.fa_crash.proofs.Flushing.{IsHeldSince, IsSyncedSince, SinceFlush, WhileWaiting, happens_since, happens_waiting}
use Rattle.fa_crash.proofs.Kept.{Backed, IsKept}
use Rattle.fa_crash.proofs.Laws.{Laws}
use Rattle.fa_crash.proofs.Runs.{beginning_kept, run_kept, run_whole_keeps, split_run}
use Rattle.fa_crash.proofs.Syncing.{SyncLaws, reached_counted}
use Rattle.fa_crash.proofs.Trusted.{HeldOn, Trusted}
use Rattle.fa_crash.specs.Flushed.{IsFlushed, IsMounted}
use Rattle.fa_crash.specs.Unsynced.{Unsynced, nothing_unsynced, number_of}
use Rattle.fa_crash.specs.Whole.{RunWhole}
use Rattle.fa_laws.proofs.Answering.{reached_holds}
use Rattle.fa_machine.proofs.Lists.{among-range}
use Rattle.fa_machine.specs.Among.{Among}
use Rattle.fa_machine.specs.Beginning.{IsBeginning}
use Rattle.fa_machine.specs.Flushing.{flush_state, has_synced}
use Rattle.fa_machine.specs.Run.{Event, Happening, HappensEvent}
use Rattle.fa_machine.specs.State.{Core, dies_of, is_live}
use Rattle.fa_machine.specs.Step.{FlushBegin, FlushState}
use Rattle.fa_machine.specs.World.{Work, World}
use Rattle.fa_machine.specs.declared.answers.Flush.{Flush}
use Rattle.fa_machine.specs.declared.answers.FlushState.TheVariants.{Synced}
use Rattle.fa_machine.specs.declared.places.Used.TheVariants.{Held}
use Rattle.fa_sound.specs.Sound.{IsSound}
use Rattle.std.proofs.Common.{Bool, List, None, Option, Some, [], ap, arith, false, inl, inr, nat_le, not, refl, sym, true, ℕ, ◌+◌, ◌<◌, ◌∙◌, ◌∷◌, ◌≡◌, ◌≤◌, ◌||◌}
use Rattle.std.proofs.lemmas.Bool.{and_parts, cases_Bool, false≢true, leb-true}
use Rattle.std.proofs.lemmas.List.FromFn.{get_or-map-range_with_len}
use Rattle.std.proofs.lemmas.Option.{none-some}
use Rattle.std.specs.FinMap.{get}
use Rattle.std.specs.List.{list_all}
use Rattle.std.specs.Prelude.{Ok, option_map, slice_index_or, unwrap_or, ◌++◌}

abbrev pub FlushLaw : Type 0
FlushLaw = (core : Core) (flush : Flush) → flush_state core flush ≡ Synced → list_all (has_synced core flush) (dies_of core.page_map) ≡ true

all_of : {X : Type 0} (p : X → Bool) (xs : List X) → list_all p xs ≡ true → (x : X) → Among x xs → p x ≡ true
all_of p [] e x i = absurd i
all_of p (y ∷ ys) e x (inl same) = ap p (sym same) ∙ (and_parts (p y) (list_all p ys) e).0
all_of p (y ∷ ys) e x (inr rest) = all_of p ys (and_parts (p y) (list_all p ys) e).1 x rest

third_of : (a b c : Bool) → a ≡ true → b ≡ true → (not a || not b || c) ≡ true → c ≡ true
third_of true true c x y e = e
third_of true false c x y e = absurd (false≢true y)
third_of false b c x y e = absurd (false≢true x)

-- what was synced, where it is for some flush
found_synced : (o : Option ℕ) (number : ℕ) → 0 < number → number ≤ unwrap_or o 0 → (m : ℕ) × (o ≡ Some m) × (number ≤ m)
found_synced None number some e = absurd (omega arith)
found_synced (Some m) number some e = (m, refl, e)

-- a die that is trusted with a page is live, and so is one with a job
pub trusted_live : (core : Core) → IsSound core → (die page : ℕ) → Trusted core die page → is_live core.page_map die ≡ true
trusted_live core s die page (inl h) = (s.slots die h.slot (Held h.tag h.version) h.held).on_live
trusted_live core s die page (inr d) = d.alive

work_live : (w : World) (u : Unsynced) → IsKept w u → (die : ℕ) (work : Work) → w.works die ≡ Some work → is_live w.core.page_map die ≡ true
work_live w u k die work e =
    (k.sound.jobs die work.job.flight ((reached_holds w k.reached).jobs die ∙ ap (option_map {T = Work} (λ k. k.job.flight)) e)).on_live

module _ (laws : Laws) (sync_laws : SyncLaws) (flush_law : FlushLaw) (page n : ℕ) (some : 1 ≤ n) where
  -- as a flush begins
  module _ (at : World) (u : Unsynced) (k : IsKept at u) (numbered : number_of at.core page ≡ n) (flush : Flush) (begun : World)
      (begins : HappensEvent at (FlushBegin (Ok flush)) begun) where
    abbrev WasOut : ℕ → Type 0
    WasOut die = is_live at.core.page_map die ≡ false

    number_is : flush.number ≡ at.core.flushes + 1
    number_is = begins.step.does.1

    held_at : IsHeldSince WasOut page n at u
    held_at = record {
      number = omega (arith, numbered);
      trusted = λ die out trusted. absurd (false≢true (sym out ∙ trusted_live at.core k.sound die page trusted));
      lasting = λ die out work e p. absurd (false≢true (sym out ∙ work_live at u k die work e));
    }

    synced_at : IsSyncedSince flush.number page n at u
    synced_at =
        let c = reached_counted sync_laws at k.reached in
        let number = number_is in
        record {
          synced = λ die m e late. let most = c.synced die m e in absurd (omega (arith, most, late, number));
          job = λ die work m e flight late gave.
              let most = c.job die m ((reached_holds at k.reached).jobs die ∙ ap (option_map {T = Work} (λ k. k.job.flight)) e ∙ ap Some flight) in
              absurd (omega (arith, most, late, number));
        }

    pub waits_at : WhileWaiting laws page n some WasOut flush.number begun u
    waits_at = happens_waiting laws page n some sync_laws WasOut flush.number at u (Event (FlushBegin (Ok flush))) begun
        (record { since = record { kept = k; held = held_at }; synced = synced_at }) begins tt

    -- as it is synced
    module _ (x : World) (v : Unsynced) (s : WhileWaiting laws page n some WasOut flush.number x v) (answered : flush_state x.core flush ≡ Synced) where
      kept_on : (die : ℕ) → is_live x.core.page_map die ≡ true → is_live at.core.page_map die ≡ true → n ≤ v.kept die page
      kept_on die alive was =
          let inside = s.since.kept.sound.dies.live_inside die alive in
          let most = x.core.page_map.geometry.within.dies_fit.most in
          let here = all_of (has_synced x.core flush) (dies_of x.core.page_map) (flush_law x.core flush answered) die
          (among-range 0 x.core.page_map.geometry.dies die (omega arith) (omega (arith, inside))) in
          let named : slice_index_or flush.live die false ≡ true =
          ap (λ (l : List Bool). slice_index_or l die false) begins.step.does.2
          ∙ get_or-map-range_with_len (is_live at.core.page_map) 0 64 die die false (omega (arith, inside, most)) (omega arith) ∙ was in
          let many = leb-true flush.number (unwrap_or (get x.core.synced die) 0)
          (third_of (slice_index_or flush.live die false) (is_live x.core.page_map die) (nat_le flush.number (unwrap_or (get x.core.synced die) 0)) named alive here) in
          let number = number_is in
          let found = found_synced (get x.core.synced die) flush.number (omega (arith, number)) many in
          s.synced.synced die found.0 found.1 found.2

      kept_by : (die : ℕ) → is_live x.core.page_map die ≡ true → (is_live at.core.page_map die ≡ false → n ≤ v.kept die page)
          → n ≤ v.kept die page
      kept_by die alive out =
          elim (cases_Bool (is_live at.core.page_map die)) [
            | inl was ↦ kept_on die alive was
            | inr away ↦ out away
          ]

      pub held_by_all : IsHeldSince (λ die. Unit {0}) page n x v
      held_by_all = record {
        number = s.since.held.number;
        trusted = λ die all trusted. kept_by die (trusted_live x.core s.since.kept.sound die page trusted) (λ out. s.since.held.trusted die out trusted);
        lasting = λ die all work e p. kept_by die (work_live x v s.since.kept die work e) (λ out. s.since.held.lasting die out work e p);
      }

    -- from a flush that was begun to any world behind its answer
    pub held_behind : (during behind : List Happening) (last : World) (v : Unsynced)
        → RunWhole begun u (during ++ Event (FlushState flush Synced) ∷ behind) last v
        → SinceFlush laws page n some (λ die. Unit {0}) last v
    held_behind during behind last v run =
        let parts = split_run begun u during (Event (FlushState flush Synced) ∷ behind) last v run in
        let x = parts.0 in
        let m = parts.1 in
        let waiting = run_whole_keeps (WhileWaiting laws page n some WasOut flush.number) (happens_waiting laws page n some sync_laws WasOut flush.number) begun u during x m waits_at parts.2 in
        let answer = parts.3 in
        let all = held_by_all x m waiting (sym answer.1.step.does.0) in
        run_whole_keeps (SinceFlush laws page n some (λ die. Unit {0})) (happens_since laws page n some (λ die. Unit {0})) x m (Event (FlushState flush Synced) ∷ behind) last v
        (record { kept = waiting.since.kept; held = all }) answer

  pub flushed_since : (begins_sound : (w : World) → IsBeginning w → IsSound w.core) (first last : World) (v : Unsynced) → IsBeginning first
      → IsFlushed first page n last v → SinceFlush laws page n some (λ die. Unit {0}) last v
  flushed_since begins_sound first last v b f =
      let k = run_kept laws first (nothing_unsynced first) f.before f.at f.at_unsynced (beginning_kept begins_sound first b) f.led in
      held_behind f.at f.at_unsynced k f.numbered f.flush f.leads.0 f.leads.1 f.during f.behind last v f.leads.3

  -- what was mounted is kept from the beginning on
  pub mounted_since : (begins_sound : (w : World) → IsBeginning w → IsSound w.core) (first last : World) (v : Unsynced) → IsBeginning first
      → IsMounted first page n last v → SinceFlush laws page n some (λ die. Unit {0}) last v
  mounted_since begins_sound first last v b f =
      let e = f.numbered in
      run_whole_keeps (SinceFlush laws page n some (λ die. Unit {0})) (happens_since laws page n some (λ die. Unit {0})) first (nothing_unsynced first)
      f.happenings last v (record {
        kept = beginning_kept begins_sound first b;
        held = record {
          number = omega (arith, e);
          trusted = λ die all trusted. omega (arith, e);
          lasting = λ die all work is p. absurd (none-some work (sym (b.idle die) ∙ is));
        };
      }) f.run

  -- so a die that holds the page has a durable copy that is no older
  pub held_backed : (w : World) (v : Unsynced) → SinceFlush laws page n some (λ die. Unit {0}) w v → (die : ℕ) → HeldOn w.core die page
      → (b : Backed w v die page) × (n ≤ b.version.seq.0)
  held_backed w v s die held =
      let enough = s.held.trusted die tt (inl held) in
      let b = s.kept.backed die page (inl held) (omega (arith, some, enough)) in
      let kept = b.kept in
      (b, omega (arith, enough, kept))
