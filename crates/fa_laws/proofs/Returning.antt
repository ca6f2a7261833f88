-- A die that is neither live nor a spare stays so: one that went out does not come back.
use Rattle.fa_laws.proofs.Failing.{LiveLaw}
use Rattle.fa_machine.proofs.Maps.{get-insert_other, get-remove_other, get-remove_same}
use Rattle.fa_laws.proofs.Ranged.{calls_core}
use Rattle.fa_laws.proofs.Runs.{run_keeps}
use Rattle.fa_laws.specs.Kept.{KeepsSpares}
use Rattle.fa_machine.specs.Cells.{DidErase, DidMove, DidProgram, DidRead, DidSync, DidWriteHeader, Fault, Outcome, Wrong, payload_of}
use Rattle.fa_machine.specs.Maps.{Numbers}
use Rattle.fa_machine.specs.Run.{Event, Happening, Happens, ImageCall, Run}
use Rattle.fa_machine.specs.State.{Core, OpenBatch, is_live}
use Rattle.fa_machine.specs.Step.{Act, Done, SpareIn, Step}
use Rattle.fa_machine.specs.Taking.{EndsJob, finished, read_ends, with_answer}
use Rattle.fa_machine.specs.World.{World}
use Rattle.fa_machine.specs.declared.jobs.Flight.{Flight}
use Rattle.fa_machine.specs.declared.jobs.Flight.TheVariants.{Erase, Header, Move, Program, Read, Sync}
use Rattle.fa_machine.specs.declared.refusals.SpareRefused.TheVariants.{NotSpare}
use Rattle.std.proofs.Common.{Bool, List, None, Option, Some, ap, false, inl, inr, refl, subst, sym, true, ℕ, ◌∙◌, ◌≡◌, ◌⊎◌}
use Rattle.std.proofs.lemmas.Bool.{cases_eq, false≢true}
use Rattle.std.specs.FinMap.{contains_key, get, remove}
use Rattle.std.specs.Prelude.{Err, Ok, is_some, if◌then◌else◌, ◌==◌}

pub record IsOut (core : Core) (die : ℕ) : Type 0 where
  pub not_live : is_live core.page_map die ≡ false
  pub no_spare : contains_key core.spares die ≡ false

abbrev pub SparesLaw : Type 0
SparesLaw = (old new : Core) (act : Act) → Step old act new → KeepsSpares old act new

-- as many dies are live, or one less
abbrev LivesOn : ℕ → Core → Core → Type 0
LivesOn die core after = (after.page_map.live ≡ core.page_map.live) ⊎ (after.page_map.live ≡ remove core.page_map.live die)

answer_live : (die batch page : ℕ) (payload : List ℕ) (b : Option OpenBatch) (core : Core) → LivesOn die core (with_answer batch page payload b core)
answer_live die batch page payload None core = inl refl
answer_live die batch page payload (Some b) core = inl refl

read_live : (die batch page : ℕ) (payload : Option (List ℕ)) (core : Core) → LivesOn die core (read_ends die batch page payload core)
read_live die batch page None core = inr refl
read_live die batch page (Some payload) core = answer_live die batch page payload (get core.batches batch) core

header_live : (is : Bool) (die : ℕ) (other core : Core) → other.page_map.live ≡ core.page_map.live → LivesOn die core (if is then other else core)
header_live true die other core same = inl same
header_live false die other core same = inl refl

pub finished_live : (die : ℕ) (flight : Flight) (outcome : Outcome) (core : Core) → LivesOn die core (finished die flight outcome core)
finished_live die (Read batch page version slot) (DidRead cell) core =
    read_live die batch.0 page.0 (payload_of page.0 version die slot.0 cell) core
finished_live die (Program page version slot) DidProgram core = inl refl
finished_live die (Move page version from to) DidMove core = inl refl
finished_live die (Erase block) DidErase core = inl refl
finished_live die (Header epoch live) DidWriteHeader core = header_live (epoch == core.epoch) die _ core refl
finished_live die (Sync flushes) DidSync core = inl refl
finished_live die flight (Fault call) core = inr refl
finished_live die flight Wrong core = inr refl
finished_live die flight outcome core = inl refl

not_back : (live : Numbers) (out die : ℕ) → contains_key live die ≡ false → contains_key (remove live out) die ≡ false
not_back live out die was =
    elim (cases_eq die out) [
      | inl same ↦ ap is_some (ap (get (remove live out)) same ∙ get-remove_same live out)
      | inr apart ↦ ap is_some (get-remove_other live out die apart) ∙ was
    ]

done_out : (old new : Core) (out : ℕ) (flight : Option Flight) (outcome : Outcome) (die : ℕ) → is_live old.page_map die ≡ false
    → EndsJob old out flight outcome new → is_live new.page_map die ≡ false
done_out old new out None outcome die was ends = absurd ends
done_out old new out (Some flight) outcome die was ends =
    ap (λ (c : Core). is_live c.page_map die) ends
    ∙ elim (finished_live out flight outcome (record old { jobs = remove old.jobs out })) [
      | inl kept ↦ ap (λ (m : Numbers). contains_key m die) kept ∙ was
      | inr left ↦ ap (λ (m : Numbers). contains_key m die) left ∙ not_back old.page_map.live out die was
    ]

pub stays_out : LiveLaw → SparesLaw → (old new : Core) (act : Act) (die : ℕ) → Step old act new → IsOut old die → IsOut new die
stays_out lives spares old new act die step out = by_act act step
  where
    by_act : (act : Act) → Step old act new → IsOut new die
    by_act (Done d outcome) step = record {
      not_live = done_out old new d (get old.jobs d) outcome die out.not_live step.does;
      no_spare = ap (λ (m : Numbers). contains_key m die) (spares old new (Done d outcome) step) ∙ out.no_spare;
    }
    by_act (SpareIn d (Ok made)) step =
        let apart : die ≡ d → ⊥ = λ same. false≢true (sym out.no_spare ∙ ap (contains_key old.spares) same ∙ step.does.0) in
        record {
          not_live = ap (λ (c : Core). is_live c.page_map die) step.does.1
              ∙ ap is_some (get-insert_other old.page_map.live d tt die apart) ∙ out.not_live;
          no_spare = ap (λ (c : Core). contains_key c.spares die) step.does.1 ∙ not_back old.spares d die out.no_spare;
        }
    by_act (SpareIn d (Err NotSpare)) step = subst (λ (c : Core). IsOut c die) (sym step.does.1) out
    by_act act step = record {
      not_live = ap (λ (m : Numbers). contains_key m die) (lives old new act step) ∙ out.not_live;
      no_spare = ap (λ (m : Numbers). contains_key m die) (spares old new act step) ∙ out.no_spare;
    }

abbrev pub OutLaw : Type 0
OutLaw = (w last : World) (happenings : List Happening) (die : ℕ) → Run w happenings last → is_live w.core.page_map die ≡ false
    → contains_key w.core.spares die ≡ false → is_live last.core.page_map die ≡ false

happens_out : LiveLaw → SparesLaw → (die : ℕ) (before : World) (happening : Happening) (after : World) → IsOut before.core die
    → Happens before happening after → IsOut after.core die
happens_out lives spares die before (Event act) after out happens = stays_out lives spares before.core after.core act die happens.step out
happens_out lives spares die before (ImageCall d gave) after out happens =
    subst (λ (c : Core). IsOut c die) (sym (calls_core before after d (before.works d) gave happens)) out

pub run_out : LiveLaw → SparesLaw → OutLaw
run_out lives spares w last happenings die run not_live no_spare =
    (run_keeps (λ (v : World). IsOut v.core die) (happens_out lives spares die) w happenings last
    (record { not_live = not_live; no_spare = no_spare }) run).not_live

-- no happening makes a die a spare
pub spareless : SparesLaw → (die : ℕ) (before : World) (happening : Happening) (after : World) → Happens before happening after
    → contains_key before.core.spares die ≡ false → contains_key after.core.spares die ≡ false
spareless spares die before (ImageCall d gave) after happens none =
    subst (λ (c : Core). contains_key c.spares die ≡ false) (sym (calls_core before after d (before.works d) gave happens)) none
spareless spares die before (Event act) after happens none = by_act act happens.step
  where
    by_act : (act : Act) → Step before.core act after.core → contains_key after.core.spares die ≡ false
    by_act (SpareIn d (Ok made)) step = ap (λ (c : Core). contains_key c.spares die) step.does.1 ∙ not_back before.core.spares d die none
    by_act (SpareIn d (Err NotSpare)) step = ap (λ (c : Core). contains_key c.spares die) step.does.1 ∙ none
    by_act act step = ap (λ (m : Numbers). contains_key m die) (spares before.core after.core act step) ∙ none
