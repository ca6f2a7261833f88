-- A call of the store of one thread.
use Rattle.std.specs.Prelude.{◌≡◌, ℕ}
use Rattle.fa_shared_request.specs.Counts.{IsMade, is_accepted, pages_of}
use Rattle.fa_image.specs.Image.{ImageAnswer, ImageCall}
use Rattle.fa_image.specs.declared.image.Image.{Ghosts as ImageGhosts}
use Rattle.fa_core_calls.specs.declared.looks.Looks.{Ghosts as LooksGhosts}
use Rattle.fa_solo.specs.Calls.{MakesCall}
use Rattle.fa_solo.specs.declared.solo.Solo.{Solo}
use Rattle.fa_solo_job.specs.declared.inner.Inner.{Inner}
use Rattle.fa_types.specs.Store.{Answer, Call, IsAnswer}

-- what is seen of it: how many bytes it has, and a page of it, and what it owns
pub record StoreState (L E I A : Type 0) : Type 0 where
  pub bytes : ℕ
  pub page_bytes : ℕ
  pub inner : Inner L E I A

-- the same of a store
abbrev pub seen_of : {L E I A : Type 0} {looks : LooksGhosts E} {image : ImageGhosts I} → Solo L E I A looks image → StoreState L E I A
seen_of store = record { bytes = store.bytes; page_bytes = store.page_bytes; inner = store.inner }

module _ {L E I A : Type 0} where
  -- It stays as large as it is, the answer is one of the call's, and its seat has as many Commits more as the call wrote pages.
  abbrev pub StoreMakes : (I → ImageCall → ImageAnswer → I → Type 0) → StoreState L E I A → Call → Answer → StoreState L E I A → Type 0
  StoreMakes made before call answer after =
      (after.bytes ≡ before.bytes) × (after.page_bytes ≡ before.page_bytes) × IsAnswer call answer
      × IsMade (pages_of before.page_bytes call) before.inner.seat (is_accepted answer) after.inner.seat
      × MakesCall made before.page_bytes before.inner call answer after.inner
