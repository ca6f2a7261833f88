-- What a whole call of the store of one thread comes to for a die and the counts of its image.
use Rattle.fa_solo_laws.proofs.Going.{Laws}
use Rattle.fa_solo_laws.proofs.Served.{ended_at}
use Rattle.fa_solo_laws.proofs.Counts.{Counts, more, more_sum}
use Rattle.fa_solo_laws.proofs.DrivenDeeds.{requests_plain}
use Rattle.fa_solo_laws.proofs.Fates.{DieLaws, Fate, IsIn, IsSpare, fate_on, same_fate, syncs_on}
use Rattle.fa_solo_laws.proofs.Flushes.{HasSynced, Keeps, NoneOlderLaw, keeps_first, synced_counted}
use Rattle.fa_solo_laws.proofs.Quiet.{orders_fair}
use Rattle.fa_solo_laws.proofs.Served.{request_fair}
use Rattle.fa_solo_laws.proofs.Syncing.{asks_keeps}
use Rattle.fa_solo_laws.proofs.Walks.{asks_fate, orders_fate}
use Rattle.fa_solo_laws.proofs.Worlds.{HasWorld, LeavesLaw, asks_world, goes_fate, goes_world}
use Rattle.fa_solo_laws.specs.Driving.{image_on}
use Rattle.fa_solo_laws.specs.Standing.{IsWorldOf}
use Rattle.fa_mount_headers.specs.declared.judging.Standing.{Standing}
use Rattle.fa_image.specs.Image.{ImageAnswer, ImageCall, ImageMeets, ImageState, IsImage, one_more}
use Rattle.fa_laws.proofs.Answering.{reached_holds}
use Rattle.fa_laws.proofs.Returning.{IsOut}
use Rattle.fa_machine.specs.State.{Core, is_live}
use Rattle.fa_machine.specs.World.{World}
use Rattle.fa_mount.specs.Standings.{AreApart}
use Rattle.fa_shared_request.specs.Ops.{OpView, stage_of, task_in}
use Rattle.fa_shared_steps.specs.Stages.{beginning}
use Rattle.fa_shared_steps.specs.declared.request.Task.{Task}
use Rattle.fa_shared_steps.specs.declared.stage.Stage.{Stage}
use Rattle.fa_shared_steps.specs.declared.stage.Stage.TheVariants.{Ended}
use Rattle.fa_mount_close_laws.specs.Drives.{AreHonest}
use Rattle.fa_shared_lock.specs.Seats.{number_of}
use Rattle.fa_solo.specs.Calls.{EndsBy, Made, MakesRequest, MakesWhole, NoMemory}
use Rattle.fa_solo_job.specs.Deeds.{IsForRequests}
use Rattle.fa_solo_job.specs.Inner.{Does, house_of}
use Rattle.fa_solo.specs.Turns.{RunsOn, asking_of}
use Rattle.fa_solo_job.specs.declared.inner.Inner.{Inner}
use Rattle.fa_types.specs.Store.{Answer, Done, Refused}
use Rattle.fa_types.specs.declared.blocks.BlockFault.TheVariants.{NoMemory as OutOfMemory}
use Rattle.std.proofs.Common.{Bool, List, None, Some, ap, arith, false, inl, inr, refl, subst, suc, sym, true, zero, ℕ}
use Rattle.std.proofs.Common.{◌+◌, ◌%◌, ◌<◌, ◌^◌, ◌∙◌, ◌≡◌, ◌≤◌}
use Rattle.std.proofs.lemmas.Bool.{false_from_ne_true, false≢true}
use Rattle.std.proofs.lemmas.Option.{same_Some}
use Rattle.std.specs.FinMap.{contains_key, get}

-- a number that is not 0, as a sum
more_than_none : (count n : ℕ) → 0 < count → more count n ≡ (n + count) % 2 ^ 64
more_than_none zero n some = absurd (omega (arith, some))
more_than_none (suc k) n some = more_sum k n

module _ {L M I A : Type 0} (view : I → ImageState) (honest : I → Bool) (made : I → ImageCall → ImageAnswer → I → Type 0)
    (whole : (image : I) → IsImage (view image))
    (meets : (before after : I) (call : ImageCall) (answer : ImageAnswer) → made before call answer after
    → ImageMeets (view before) (honest before) call answer (view after) (honest after)) (asks : Laws) (laws : DieLaws) (leaves : LeavesLaw)
    (die : ℕ) where
  abbrev Fair : Inner L M I A → Type 0
  Fair inner = AreHonest honest (image_on inner.dies.items inner.images.items)

  abbrev Homed : Inner L M I A → Type 0
  Homed inner = HasWorld view inner.dies.items (house_of inner)

  -- over the images of the dies of one store
  abbrev Fated : List Standing → Inner L M I A → Inner L M I A → Type 0
  Fated dies old new = Fate view dies die (house_of old) (house_of new)

  -- the images of another store of the same dies
  fair_of : (dies : List Standing) (inner : Inner L M I A) → inner.dies.items ≡ dies → Fair inner
      → AreHonest honest (image_on dies inner.images.items)
  fair_of dies inner same fair = subst (λ (d : List Standing). AreHonest honest (image_on d inner.images.items)) same fair

  homed_of : (dies : List Standing) (inner : Inner L M I A) → inner.dies.items ≡ dies → HasWorld view dies (house_of inner) → Homed inner
  homed_of dies inner same h = subst (λ (d : List Standing). HasWorld view d (house_of inner)) (sym same) h

  does_fate : (old new : Inner L M I A) → AreApart old.dies.items → Does made IsForRequests old new → Fair new → Homed old
      → Fated old.dies.items old new × Homed new
  does_fate old new apart does fair h =
      let here = fair_of old.dies.items new does.dies fair in (
        goes_fate view honest made whole meets old.locked.number old.dies.items
            (number_of old.seat) asks.geometry apart laws leaves die IsForRequests
            requests_plain (house_of old) (house_of new) does.goes here h,
        homed_of old.dies.items new does.dies
            (goes_world view honest made whole meets old.locked.number old.dies.items
            (number_of old.seat) asks.geometry apart IsForRequests requests_plain
            (house_of old) (house_of new) does.goes here h),
      )

  dies_of_request : (old new : Inner L M I A) (task : Task) (bytes : List ℕ) (answer : Answer) → MakesRequest made task bytes answer old new
      → new.dies.items ≡ old.dies.items
  dies_of_request old new task bytes answer (NoMemory is some same) = ap (λ (r : Inner L M I A). r.dies.items) same
  dies_of_request old new task bytes answer (Made op next its stage none runs end) = runs.dies

  -- a request
  module _ (task : Task) (bytes : List ℕ) (old new : Inner L M I A) (apart : AreApart old.dies.items) (fair : Fair new) (h : Homed old) where
    module _ (op next : OpView A) (its : task_in op ≡ task) (runs : RunsOn made bytes old op new next) where
      there : AreHonest honest (image_on old.dies.items new.images.items)
      there = fair_of old.dies.items new runs.dies fair

      ran_fate : Fated old.dies.items old new
      ran_fate = asks_fate view honest made whole meets old.locked.number old.dies.items (number_of old.seat) asks apart laws leaves die
          (task_in op) bytes (asking_of old op) refl h runs.turns (asking_of new next) runs.asks there

      ran_world : HasWorld view old.dies.items (house_of new)
      ran_world = asks_world view honest made whole meets old.locked.number old.dies.items (number_of old.seat) asks.geometry apart
          (task_in op) bytes
          (asking_of old op) runs.turns (asking_of new next) runs.asks refl there h

      ran_synced : NoneOlderLaw → task.flush ≡ true → IsIn old.locked.core die → stage_of op ≡ beginning task → stage_of next ≡ Ended None
          → HasSynced old.locked.core.flushes die new.locked.core
      ran_synced none_older flushes here begins ends =
          let its_flush : (task_in op).flush ≡ true = subst (λ (t : Task). t.flush ≡ true) (sym its) flushes in
          subst (λ (s : Stage A). Keeps old.locked.core.flushes die new.locked.core s) ends
          (asks_keeps view honest made whole meets old.locked.number old.dies.items
          (number_of old.seat) asks apart laws leaves die none_older
          (task_in op) bytes its_flush (asking_of old op) refl h here
          (subst (λ (s : Stage A). Keeps old.locked.core.flushes die old.locked.core s) (sym begins)
          (keeps_first old.locked.core.flushes die A task flushes old.locked.core))
          runs.turns (asking_of new next) runs.asks there)

    request_fate : (answer : Answer) → MakesRequest made task bytes answer old new
        → Fated old.dies.items old new × HasWorld view old.dies.items (house_of new)
    request_fate answer (NoMemory is some same) =
        subst (λ (r : Inner L M I A). Fated old.dies.items old r × HasWorld view old.dies.items (house_of r)) (sym same)
        (same_fate view old.dies.items die (house_of old) (house_of old) refl refl, h)
    request_fate answer (Made op next its stage none runs end) = (ran_fate op next its runs, ran_world op next its runs)

    -- an accepted request with a flush
    request_synced : NoneOlderLaw → task.flush ≡ true → IsIn old.locked.core die → (answer : Answer) → answer ≡ Done
        → MakesRequest made task bytes answer old new → HasSynced old.locked.core.flushes die new.locked.core
    request_synced none_older flushes here answer done (NoMemory is some same) =
        absurd (let other : Refused OutOfMemory ≡ Done = sym is ∙ done in cc)
    request_synced none_older flushes here answer done (Made op next its stage none runs end) =
        ran_synced op next its runs none_older flushes here stage
        (ended_at (stage_of next) None (subst (λ (a : Answer). EndsBy a runs.turns next) done end))

  -- a whole call
  module _ (task : Task) (bytes : List ℕ) (answer : Answer) (old new : Inner L M I A) (w : World) (of_old : IsWorldOf view old w)
      (apart : AreApart old.dies.items) (call : MakesWhole made task bytes answer old new) (fair : Fair new) where
    apart_begun : AreApart call.begun.dies.items
    apart_begun = subst (λ (d : List Standing). AreApart d) (sym call.before.dies) apart

    request_dies : call.done.dies.items ≡ call.begun.dies.items
    request_dies = dies_of_request call.begun call.done task bytes answer call.request

    apart_done : AreApart call.done.dies.items
    apart_done = subst (λ (d : List Standing). AreApart d) (sym request_dies) apart_begun

    new_dies : new.dies.items ≡ old.dies.items
    new_dies = call.behind.dies ∙ request_dies ∙ call.before.dies

    fair_behind : AreHonest honest (image_on call.done.dies.items new.images.items)
    fair_behind = fair_of call.done.dies.items new call.behind.dies fair

    fair_done : Fair call.done
    fair_done =
        orders_fair view honest made whole meets call.done.locked.number call.done.dies.items (number_of call.done.seat) asks apart_done
        (house_of call.done) (house_of new) call.behind.orders fair_behind

    fair_begun : Fair call.begun
    fair_begun =
        request_fair view honest made whole meets asks.geometry call.begun call.done task bytes answer apart_begun fair_done call.request

    before : Fated old.dies.items old call.begun × Homed call.begun
    before = does_fate old call.begun apart call.before fair_begun (record {
      world = w;
      reached = of_old.reached;
      stands = record { core = of_old.core; images = of_old.images; idle = of_old.idle };
    })

    asked : Fated call.begun.dies.items call.begun call.done × HasWorld view call.begun.dies.items (house_of call.done)
    asked = request_fate task bytes call.begun call.done apart_begun fair_done before.1 answer call.request

    request : Fated old.dies.items call.begun call.done
    request = subst (λ (d : List Standing). Fated d call.begun call.done) call.before.dies asked.0

    behind : Fated old.dies.items call.done new
    behind = subst (λ (d : List Standing). Fated d call.done new) (request_dies ∙ call.before.dies)
        ((orders_fate view honest made whole meets call.done.locked.number call.done.dies.items
        (number_of call.done.seat) asks apart_done laws leaves
        die (house_of call.done) (house_of new)
        (homed_of call.begun.dies.items call.done request_dies asked.1) call.behind.orders fair_behind).0)

    total : Fated old.dies.items old new
    total = fate_on view old.dies.items die (house_of old) (house_of call.done) (house_of new)
        (fate_on view old.dies.items die (house_of old) (house_of call.begun) (house_of call.done) before.0 request) behind

    total_syncs : total.syncs ≡ before.0.syncs + request.syncs + behind.syncs
    unfolding total
    total_syncs =
        syncs_on view old.dies.items die (house_of old) (house_of call.done) (house_of new) _ behind
        ∙ ap (λ n. n + behind.syncs)
        (syncs_on view old.dies.items die (house_of old) (house_of call.begun) (house_of call.done) before.0 request)

    -- a live die is no spare
    in_use : is_live old.locked.core.page_map die ≡ true → IsIn old.locked.core die
    in_use live =
        let was : is_live w.core.page_map die ≡ true = ap (λ (c : Core). is_live c.page_map die) of_old.core ∙ live in
        let none : contains_key w.core.spares die ≡ false = false_from_ne_true (contains_key w.core.spares die)
        (λ spare. false≢true (sym ((reached_holds w of_old.reached).sound.spares die spare) ∙ was)) in
        record { live = live; no_spare = sym (ap (λ (c : Core). contains_key c.spares die) of_old.core) ∙ none }

    its_counts : (first last : I) → image_on old.dies.items old.images.items die ≡ Some first
        → image_on new.dies.items new.images.items die ≡ Some last
        → Counts view total.faults total.syncs first last
    its_counts first last was is =
        let got = total.image first was in
        let here = subst (λ (d : List Standing). image_on d new.images.items die ≡ Some last) new_dies is in
        subst (Counts view total.faults total.syncs first) (same_Some got.0 last (sym got.1 ∙ here)) got.2

    -- A die that goes out has an image with one fault more.
    pub out_counted : is_live old.locked.core.page_map die ≡ true → is_live new.locked.core.page_map die ≡ false → (first last : I)
        → image_on old.dies.items old.images.items die ≡ Some first → image_on new.dies.items new.images.items die ≡ Some last
        → (view last).faults ≡ one_more (view first).faults
    out_counted live gone first last was is = elim (total.lives (in_use live)) [
      | inl still ↦ absurd (false≢true (sym gone ∙ still.0.live))
      | inr left ↦ (its_counts first last was is).faults_are ∙ ap (λ k. more k (view first).faults) left.1
    ]

    -- So has a spare that comes in and goes out.
    pub spare_counted : contains_key old.locked.core.spares die ≡ true → is_live new.locked.core.page_map die ≡ false
        → contains_key new.locked.core.spares die ≡ false → (first last : I) → image_on old.dies.items old.images.items die ≡ Some first
        → image_on new.dies.items new.images.items die ≡ Some last → (view last).faults ≡ one_more (view first).faults
    spare_counted spare gone none first last was is = elim (total.enters its_spare) [
      | inl still ↦ elim (still.0) [
        | inl there ↦ absurd (false≢true (sym none ∙ there.spare))
        | inr here ↦ absurd (false≢true (sym gone ∙ here.live))
      ]
      | inr left ↦ (its_counts first last was is).faults_are ∙ ap (λ k. more k (view first).faults) left.1
    ]
      where
        its_spare : IsSpare old.locked.core die
        its_spare = record {
          not_live = sym (ap (λ (c : Core). is_live c.page_map die) of_old.core)
              ∙ (reached_holds w of_old.reached).sound.spares die (ap (λ (c : Core). contains_key c.spares die) of_old.core ∙ spare);
          spare = spare;
        }

    -- The image of a die that stays in use has synced behind a request with a flush that was accepted.
    pub flush_counted : NoneOlderLaw → task.flush ≡ true → answer ≡ Done → is_live old.locked.core.page_map die ≡ true
        → is_live new.locked.core.page_map die ≡ true → (first last : I) → image_on old.dies.items old.images.items die ≡ Some first
        → image_on new.dies.items new.images.items die ≡ Some last
        → (count : ℕ) × (1 ≤ count) × ((view last).syncs ≡ ((view first).syncs + count) % 2 ^ 64)
    flush_counted none_older flushes done live alive first last was is =
        let some = more_syncs in (
          total.syncs,
          omega (arith, some),
          (its_counts first last was is).syncs_are ∙ more_than_none total.syncs (view first).syncs some,
        )
      where
        no_way_out : IsOut call.done.locked.core die → ⊥
        no_way_out gone = false≢true (sym (behind.out gone).0.not_live ∙ alive)

        begun_in : IsIn call.begun.locked.core die
        begun_in = elim (before.0.lives (in_use live)) [
          | inl still ↦ still.0
          | inr left ↦ absurd (no_way_out (request.out left.0).0)
        ]

        its_syncs : 0 < request.syncs
        its_syncs =
            elim (request_synced task bytes call.begun call.done apart_begun fair_done before.1 none_older flushes begun_in answer done
            call.request) [
              | inl gone ↦ absurd (no_way_out gone)
              | inr (flush, here, since) ↦ elim (request.synced flush here) [
                | inr some ↦ some
                | inl earlier ↦
                    let h = before.1 in
                    let most = synced_counted laws die h.world h.reached flush
                    (ap (λ (c : Core). get c.synced die) h.stands.core ∙ earlier) in
                    let same = ap (λ (c : Core). c.flushes) h.stands.core in
                    absurd (omega (arith, most, same, since))
              ]
            ]

        more_syncs : 0 < total.syncs
        more_syncs = let some = its_syncs in let sum = total_syncs in omega (arith, some, sum)
