-- Turns of the rebuilder, from what their events tell.
use Rattle.std.proofs.Common.{◌≡◌, ◌∙◌, ℕ, Bool, true, false, List, Ok, sym, subst}
use Rattle.fa_machine.specs.State.{Core}
use Rattle.fa_machine.specs.Step.{SpareIn}
use Rattle.fa_machine.specs.declared.answers.ReadState.{ReadState}
use Rattle.fa_shared_lock.specs.Locked.{LockedState}
use Rattle.fa_workers.specs.Rebuilding.{AfterBatch, Moved, Rebuilds}
use Rattle.fa_shared.specs.Spares.{BringsIn, HasNone, Lowest, WantsNone}
use Rattle.fa_workers.specs.declared.rebuild_stage.RebuildStage.{RebuildStage}
use Rattle.fa_workers.specs.declared.rebuild_stage.RebuildStage.TheVariants.{Looking}
use Rattle.fa_workers.specs.declared.rebuild_stage.ThinPage.{ThinPage}

-- a turn at a stage that is the same
pub at_stage : {A : Type 0} {old : LockedState} {new : Core} {stage same next : RebuildStage A} → stage ≡ same → Rebuilds old same new next
    → Rebuilds old stage new next
at_stage {A = A} {old = old} {new = new} {next = next} e turned =
    let P : RebuildStage A → Type 0 = λ s. Rebuilds old s new next in subst P (sym e) turned

-- a turn from a state that is the same
pub from_same : {A : Type 0} {old same : LockedState} {new : Core} {stage next : RebuildStage A} → same ≡ old → Rebuilds same stage new next
    → Rebuilds old stage new next
from_same {A = A} {new = new} {stage = stage} {next = next} e turned =
    let P : LockedState → Type 0 = λ l. Rebuilds {A = A} l stage new next in subst P e turned

-- a batch was ended, as the looks before it told
pub batch_ended : {A : Type 0} {stops stopping : Bool} {state is : ReadState} {stage next : RebuildStage A} (thin : ThinPage)
    (answers : List (ℕ × List ℕ)) → stops ≡ stopping → state ≡ is → next ≡ stage → AfterBatch stops state thin answers stage
    → AfterBatch stopping is thin answers next
batch_ended {A = A} {stopping = stopping} {state = state} {is = is} {stage = stage} thin answers e f h after =
    let P : Bool → Type 0 = λ b. AfterBatch {A = A} b state thin answers stage in
    let Q : ReadState → Type 0 = λ s. AfterBatch {A = A} stopping s thin answers stage in
    let R : RebuildStage A → Type 0 = λ s. AfterBatch {A = A} stopping is thin answers s in subst R (sym h) (subst Q f (subst P e after))

-- a spare was brought in
pub brought : {A : Type 0} (old : LockedState) (new : Core) (did : Bool) (next : RebuildStage A) → did ≡ true → BringsIn old.core did new
    → old.stopping ≡ false → next ≡ Looking → Rebuilds old Looking new next
brought old new did next is (Lowest die yes_it_did wants none step) goes e = Moved (SpareIn die (Ok tt)) step (goes, e)
brought old new did next is (WantsNone not_so wants same) goes e = let other : true ≡ false = sym is ∙ not_so in cc
brought old new did next is (HasNone not_so none same) goes e = let other : true ≡ false = sym is ∙ not_so in cc

-- none was, and nothing has changed
pub brought_none : (old new : Core) (did : Bool) → did ≡ false → BringsIn old did new → new ≡ old
brought_none old new did is (Lowest die so wants none step) = let other : true ≡ false = sym so ∙ is in cc
brought_none old new did is (WantsNone not_so wants same) = same
brought_none old new did is (HasNone not_so none same) = same
