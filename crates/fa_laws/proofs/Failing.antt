-- A die goes out at a fault alone.
use Rattle.fa_laws.proofs.Endings.{HasOutcome, may_end}
use Rattle.fa_laws.proofs.Invariant.{Holds, scene_of}
use Rattle.fa_machine.proofs.Maps.{get-insert_other, get-insert_same, get-remove_other}
use Rattle.fa_laws.proofs.Outcomes.{gave_read, tag}
use Rattle.fa_laws.proofs.Scene.{Bytes, GaveFits, JobFits}
use Rattle.fa_machine.specs.Cells.{DidErase, DidMove, DidProgram, DidRead, DidSync, DidWriteHeader, Fault, Outcome, Wrong, is_of_kind}
use Rattle.fa_machine.specs.Cells.{moved_payload, payload_of}
use Rattle.fa_laws.specs.Kept.{KeepsLive}
use Rattle.fa_machine.specs.Run.{HappensEvent}
use Rattle.fa_machine.specs.State.{Core, OpenBatch, is_live}
use Rattle.fa_machine.specs.Step.{Act, Done, SpareIn, Step, is_sized_read}
use Rattle.fa_machine.specs.Taking.{EndsJob, finished, read_ends, with_answer}
use Rattle.fa_machine.specs.World.{Accepted, Gave, GaveCell, IsTold, Refused, Work, World, outcome_of}
use Rattle.fa_machine.specs.declared.jobs.Flight.{Flight}
use Rattle.fa_machine.specs.declared.jobs.Flight.TheVariants.{Erase, Header, Move, Program, Read, Sync}
use Rattle.fa_machine.specs.declared.refusals.SpareRefused.TheVariants.{NotSpare}
use Rattle.std.proofs.Common.{Bool, List, None, Option, Some, [], ap, arith, cond, false, inl, inr, refl, subst, sym, true, ℕ, ◌∙◌}
use Rattle.std.proofs.Common.{◌∷◌, ◌≡◌, ◌⊎◌}
use Rattle.std.proofs.lemmas.Bool.{and_parts, cases_eq, false≢true}
use Rattle.std.proofs.lemmas.Option.{none-some, same_Some}
use Rattle.std.specs.FinMap.{FinMap, contains_key, get, insert, remove}
use Rattle.std.specs.Ordering.{nat_cmp}
use Rattle.std.specs.Prelude.{Err, Ok, if◌then◌else◌, is_some, option_map, ◌==◌}

wrong_if : (b : Bool) → b ≡ true → tag (cond b None (Some Wrong)) ≡ 8 → ⊥
wrong_if true e f = absurd (omega (arith, f))
wrong_if false e f = absurd (false≢true e)

-- no move finds the wrong slot
never_wrong : (b : Bytes) (die : ℕ) (flight : Flight) (payload : List ℕ) (lasting : Bool) (gave : List Gave)
    → outcome_of die (record { flight = flight; payload = payload; lasting = lasting }) gave ≡ Some Wrong → is_of_kind flight Wrong ≡ true → GaveFits b die flight gave → ⊥
never_wrong b die (Move page version from to) payload lasting (GaveCell cell ∷ []) e k g =
    wrong_if (is_some (moved_payload page.0 version die from.0 cell)) (ap is_some g) (ap tag e)
never_wrong b die (Move page version from to) payload lasting (GaveCell cell ∷ Accepted ∷ []) e k g = absurd (omega (arith, ap tag e))
never_wrong b die (Move page version from to) payload lasting (GaveCell cell ∷ Refused ∷ []) e k g = absurd (omega (arith, ap tag e))
never_wrong b die (Move page version from to) payload lasting (Accepted ∷ []) e k g = absurd (omega (arith, ap tag e))
never_wrong b die (Move page version from to) payload lasting (Accepted ∷ Accepted ∷ []) e k g = absurd (omega (arith, ap tag e))
never_wrong b die (Move page version from to) payload lasting (Accepted ∷ Refused ∷ []) e k g = absurd (omega (arith, ap tag e))
never_wrong b die (Move page version from to) payload lasting (Refused ∷ []) e k g = absurd (omega (arith, ap tag e))
never_wrong b die (Move page version from to) payload lasting gave e k g = absurd (omega (arith, ap tag e))
never_wrong b die (Read batch page version slot) payload lasting gave e k g = absurd (false≢true k)
never_wrong b die (Program page version slot) payload lasting gave e k g = absurd (false≢true k)
never_wrong b die (Header epoch live) payload lasting gave e k g = absurd (false≢true k)
never_wrong b die (Erase block) payload lasting gave e k g = absurd (false≢true k)
never_wrong b die (Sync flushes) payload lasting gave e k g = absurd (false≢true k)

with_answer_live : (batch page : ℕ) (bytes : List ℕ) (b : Option OpenBatch) (core : Core) → (with_answer batch page bytes b core).page_map.live ≡ core.page_map.live
with_answer_live batch page bytes None core = refl
with_answer_live batch page bytes (Some b) core = refl

read_live : (die batch page : ℕ) (o : Option (List ℕ)) (bytes : List ℕ) (core : Core) → o ≡ Some bytes
    → (read_ends die batch page o core).page_map.live ≡ core.page_map.live
read_live die batch page None bytes core e = absurd (none-some bytes e)
read_live die batch page (Some bs) bytes core e = with_answer_live batch page bs (get core.batches batch) core

header_live : (b : Bool) (x core : Core) → x.page_map.live ≡ core.page_map.live → (if b then x else core).page_map.live ≡ core.page_map.live
header_live true x core e = e
header_live false x core e = refl

-- the job of a die ends with the dies live that were, or with a fault
ends_live : (w : World) (h : Holds w) (die : ℕ) (flight : Flight) (payload : List ℕ) (lasting : Bool) (gave : List Gave) (outcome : Outcome) (core : Core)
    → JobFits (scene_of w).bytes (scene_of w).places (scene_of w).in_block (w.due die).bytes die flight payload
    → GaveFits (scene_of w).bytes die flight gave
    → outcome_of die (record { flight = flight; payload = payload; lasting = lasting }) gave ≡ Some outcome
    → is_of_kind flight outcome ≡ true
    → ((finished die flight outcome core).page_map.live ≡ core.page_map.live)
    ⊎ ((call : ℕ) × (outcome ≡ Fault call) × ((finished die flight outcome core).page_map.live ≡ remove core.page_map.live die))
ends_live w h die (Read batch page version slot) payload lasting gave (DidRead cell) core fits g out kind =
    inl (read_live die batch.0 page.0 (payload_of page.0 version die slot.0 cell) (w.due die).bytes core
    (ap (payload_of page.0 version die slot.0) (gave_read (scene_of w).bytes die batch page version slot payload lasting gave cell out g) ∙ fits.cell))
ends_live w h die (Program page version slot) payload lasting gave DidProgram core fits g out kind = inl refl
ends_live w h die (Move page version from to) payload lasting gave DidMove core fits g out kind = inl refl
ends_live w h die (Erase block) payload lasting gave DidErase core fits g out kind = inl refl
ends_live w h die (Header epoch live) payload lasting gave DidWriteHeader core fits g out kind = inl (header_live (epoch == core.epoch) _ core refl)
ends_live w h die (Sync flushes) payload lasting gave DidSync core fits g out kind = inl refl
ends_live w h die flight payload lasting gave (Fault call) core fits g out kind = inr (call, refl, refl)
ends_live w h die flight payload lasting gave Wrong core fits g out kind = absurd (never_wrong (scene_of w).bytes die flight payload lasting gave out kind g)
ends_live w h die flight payload lasting gave outcome core fits g out kind = absurd (false≢true kind)

live_kept : (old new : FinMap nat_cmp (Unit {0})) (die : ℕ) → new ≡ old → contains_key old die ≡ true → contains_key new die ≡ false → ⊥
live_kept old new die e was is = false≢true (sym is ∙ ap (λ (m : FinMap nat_cmp (Unit {0})). contains_key m die) e ∙ was)

gone : (live : FinMap nat_cmp (Unit {0})) (die out : ℕ) → contains_key live die ≡ true → contains_key (remove live out) die ≡ false → die ≡ out
gone live die out was is =
    elim (cases_eq die out) [
      | inl same ↦ same
      | inr apart ↦ absurd (false≢true (sym is ∙ ap is_some (get-remove_other live out die apart) ∙ was))
    ]

done_leaves : (w : World) (h : Holds w) (out : ℕ) (flight : Option Flight) (work : Option Work) (outcome : Outcome) (core : Core) (die : ℕ)
    → get w.core.jobs out ≡ flight → w.works out ≡ work → may_end w.core flight outcome ≡ true → HasOutcome out work outcome
    → EndsJob w.core out flight outcome core → contains_key w.core.page_map.live die ≡ true → contains_key core.page_map.live die ≡ false
    → (call : ℕ) × (Done out outcome ≡ Done die (Fault call))
done_leaves w h out None work outcome core die job works may worked ends was is = absurd ends
done_leaves w h out (Some flight) None outcome core die job works may worked ends was is = absurd (none-some outcome worked)
done_leaves w h out (Some flight) (Some work) outcome core die job works may worked ends was is =
    let same : work.job.flight ≡ flight = same_Some work.job.flight flight (sym (ap (option_map {T = Work} (λ k. k.job.flight)) works) ∙ sym (h.jobs out) ∙ job) in
    let fits = h.sound.works out work works in
    elim (ends_live w h out flight work.job.payload work.job.lasting work.gave outcome (record (w.core) { jobs = remove w.core.jobs out })
    (subst (λ f. JobFits (scene_of w).bytes (scene_of w).places (scene_of w).in_block (w.due out).bytes out f work.job.payload) same fits.job)
    (subst (λ f. GaveFits (scene_of w).bytes out f work.gave) same fits.gave)
    (subst (λ f. outcome_of out (record (work.job) { flight = f }) work.gave ≡ Some outcome) same worked)
    (and_parts (is_of_kind flight outcome) (is_sized_read w.core outcome) may).0) [
      | inl kept ↦ absurd (live_kept w.core.page_map.live core.page_map.live die (ap (λ (c : Core). c.page_map.live) ends ∙ kept) was is)
      | inr fault ↦
          let e = ap (λ (c : Core). c.page_map.live) ends ∙ fault.2 in
          let left : die ≡ out = gone w.core.page_map.live die out was (sym (ap (λ (m : FinMap nat_cmp (Unit {0})). contains_key m die) e) ∙ is) in
          (fault.0, λ i. Done (sym left i) (fault.1 i))
    ]

abbrev pub LiveLaw : Type 0
LiveLaw = (old new : Core) (act : Act) → Step old act new → KeepsLive old act new

pub leaves_at_a_fault : LiveLaw → (w after : World) (act : Act) (die : ℕ) → Holds w → HappensEvent w act after
    → is_live w.core.page_map die ≡ true → is_live after.core.page_map die ≡ false → (call : ℕ) × (act ≡ Done die (Fault call))
leaves_at_a_fault law w after act die h happens was is = by_act act after.core happens.step happens.told is
  where
    by_act : (act : Act) (core : Core) → Step w.core act core → IsTold w act → is_live core.page_map die ≡ false → (call : ℕ) × (act ≡ Done die (Fault call))
    by_act (Done out outcome) core step told is =
        done_leaves w h out (get w.core.jobs out) (w.works out) outcome core die refl refl step.allows told step.does was is
    by_act (SpareIn new (Ok made)) core step told is =
        absurd (elim (cases_eq die new) [
          | inl same ↦ false≢true (sym is ∙ ap (λ (c : Core). is_live c.page_map die) step.does.1 ∙ ap is_some (ap (get (insert w.core.page_map.live new tt)) same ∙ get-insert_same w.core.page_map.live new tt))
          | inr apart ↦ false≢true (sym is ∙ ap (λ (c : Core). is_live c.page_map die) step.does.1 ∙ ap is_some (get-insert_other w.core.page_map.live new tt die apart) ∙ was)
        ])
    by_act (SpareIn new (Err NotSpare)) core step told is = absurd (live_kept w.core.page_map.live core.page_map.live die (ap (λ (c : Core). c.page_map.live) step.does.1) was is)
    by_act act core step told is = absurd (live_kept w.core.page_map.live core.page_map.live die (law w.core core act step) was is)
