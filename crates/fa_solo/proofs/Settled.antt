-- A batch that is waited for, and a copy that is under way, looked at until it has ended.
use Rattle.std.proofs.Common.{◌≡◌, ◌∙◌, ◌+◌, ◌-◌, ◌^◌, ◌≤◌, ℕ, false, Option, Some, None, Result, Err, ap, refl, is_some, subst, sym}
use Rattle.std.proofs.lemmas.Bool.{false≢true}
use Rattle.fa_image.specs.Image.{ImageAnswer, ImageCall}
use Rattle.fa_machine.specs.Conditions.{copy_open}
use Rattle.fa_machine.specs.Reading.{results}
use Rattle.fa_machine.specs.Step.{CommitCopy}
use Rattle.fa_machine.specs.declared.answers.ReadState.TheVariants.{Waiting}
use Rattle.fa_machine.specs.declared.answers.Copied.{Copied}
use Rattle.fa_machine.specs.declared.places.Copying.{Copying}
use Rattle.fa_machine.specs.declared.refusals.CommitCopyRefused.{CommitCopyRefused}
use Rattle.fa_machine.specs.declared.refusals.CommitCopyRefused.TheVariants.{Pending}
use Rattle.fa_shared_lock.specs.Locked.{LockedState}
use Rattle.fa_shared_lock.specs.Seats.{number_of}
use Rattle.fa_solo_job.proofs.Chains.{goes_by}
use Rattle.fa_shared_lock.proofs.Holds.{join_rest, rest_same}
use Rattle.fa_solo_job.specs.Deeds.{IsForDies}
use Rattle.fa_solo_job.specs.House.{House}
use Rattle.fa_solo_job.specs.Orders.{Commits, Endless, IsOver, Looks, NoLook, NoWait, OneMore, Settles, WaitsOn, looks_of}
use Rattle.fa_solo_job.specs.Inner.{AwaitsBatch, Does, DoesOne, SettlesCopy, house_of}
use Rattle.fa_solo_job.specs.declared.inner.Inner.{Inner}
use Rattle.fa_shared_lock.specs.Rest.{LeavesRest}

none_open : (copying : Option Copying) → is_some copying ≡ false → copying ≡ None
none_open None is_none = refl
none_open (Some c) is_none = absurd (false≢true (sym is_none))

module _ {L M I A : Type 0} (made : I → ImageCall → ImageAnswer → I → Type 0) where
  -- looks at the copy, with what is done between them
  pub record LooksOn (looks : ℕ) (old new : Inner L M I A) : Type 0 where
    pub looked : Looks made old.locked.number old.dies.items (number_of old.seat) (house_of old) looks (house_of new)
    pub left : LeavesRest old.locked old.seat new.locked new.seat
    pub dies : new.dies.items ≡ old.dies.items

  pub looks_none : (a : Inner L M I A) → LooksOn 0 a a
  looks_none a = record { looked = NoLook; left = rest_same _ _; dies = refl }

  looks_more : (looks : ℕ) (a b c d : Inner L M I A) → LooksOn looks a b → DoesOne (CommitCopy (Err Pending)) b c → Does made IsForDies c d
      → LooksOn (looks + 1) a d
  looks_more looks a b c d looked one does =
      let left : LeavesRest a.locked a.seat c.locked c.seat = join_rest looked.left one.left in
      let dies : c.dies.items ≡ a.dies.items = one.dies ∙ looked.dies in record {
        looked = OneMore looks (house_of b) (house_of c) (house_of d) looked.looked one.step one.images
            (goes_by made a.locked.number c.locked.number a.dies.items c.dies.items (number_of a.seat) (number_of c.seat) IsForDies (house_of c)
            (house_of d) (ap (λ (l : LockedState). l.number) left.rest) dies left.number does.goes);
        left = join_rest left does.left;
        dies = does.dies ∙ dies;
      }

  pub looks_pending : (looks : ℕ) (a b c d : Inner L M I A) (answer : Result Copied CommitCopyRefused) → LooksOn looks a b → answer ≡ Err Pending
      → DoesOne (CommitCopy answer) b c → Does made IsForDies c d → LooksOn (looks + 1) a d
  looks_pending looks a b c d answer looked is one does =
      looks_more looks a b c d looked (subst (λ (r : Result Copied CommitCopyRefused). DoesOne (CommitCopy r) b c) is one) does

  pub settles_commit : (looks : ℕ) (a b c : Inner L M I A) (answer : Result Copied CommitCopyRefused) → LooksOn looks a b
      → DoesOne (CommitCopy answer) b c → (answer ≡ Err Pending → ⊥) → SettlesCopy made a c
  settles_commit looks a b c answer looked one ends = record {
    settles = Commits looks (house_of b) (house_of c) answer looked.looked ends one.step one.images;
    left = join_rest looked.left one.left;
    dies = one.dies ∙ looked.dies;
  }

  pub settles_over : (looks : ℕ) (a b c : Inner L M I A) → LooksOn looks a b → copy_open b.locked.core ≡ false → c.locked.core ≡ b.locked.core
      → LeavesRest b.locked b.seat c.locked c.seat → c.images.items ≡ b.images.items → c.dies.items ≡ b.dies.items → SettlesCopy made a c
  settles_over looks a b c looked is_none same left images dies = record {
    settles = let house : House I → Type 0 = λ h. Settles made a.locked.number a.dies.items (number_of a.seat) (house_of a) h in
        subst house (λ i. record { core = sym same i; images = sym images i })
        (IsOver looks (house_of b) looked.looked (none_open b.locked.core.copying is_none));
    left = join_rest looked.left left;
    dies = dies ∙ looked.dies;
  }

  -- whether it ended
  pub settles_endless : (looks : ℕ) (a b : Inner L M I A) → LooksOn looks a b → 2 ^ 64 - 1 ≤ looks → (settled : SettlesCopy made a b)
      × (2 ^ 64 - 1 ≤ looks_of made a.locked.number a.dies.items (number_of a.seat) (house_of a) (house_of b) settled.settles)
  settles_endless looks a b looked many = (
    record {
      settles = Endless looks (house_of b) looked.looked many;
      left = looked.left;
      dies = looked.dies;
    },
    many,
  )

  -- a batch that waits is looked at
  pub awaits_none : (batch : ℕ) (a : Inner L M I A) → AwaitsBatch made batch 0 a a
  awaits_none batch a = record { waits = NoWait; left = rest_same _ _; dies = refl }

  pub awaits_more : (batch looks : ℕ) (a b c : Inner L M I A) → AwaitsBatch made batch looks a b → results b.locked.core batch ≡ Waiting
      → Does made IsForDies b c → AwaitsBatch made batch (looks + 1) a c
  awaits_more batch looks a b c one waiting does = record {
    waits = WaitsOn looks (house_of b) (house_of c) one.waits waiting
        (goes_by made a.locked.number b.locked.number a.dies.items b.dies.items (number_of a.seat) (number_of b.seat) IsForDies (house_of b)
        (house_of c) (ap (λ (l : LockedState). l.number) one.left.rest) one.dies one.left.number does.goes);
    left = join_rest one.left does.left;
    dies = does.dies ∙ one.dies;
  }
