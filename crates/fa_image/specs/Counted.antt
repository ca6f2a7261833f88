-- What a call of an image does to its counts: each refusal is a fault, each sync that was accepted a sync. No
-- call changes the geometry.
use Rattle.std.proofs.Common.{◌≡◌, Bool, refl}
use Rattle.fa_image.specs.Image.{ImageState, ImageCall, ReadingSlot, Programming, Erasing, ReadingHeader, WritingHeader, Syncing}
use Rattle.fa_image.specs.Image.{ImageAnswer, Gave, Done, Refused, ImageMeets, syncs_after, faults_after}

pub record IsCounted (before : ImageState) (call : ImageCall) (answer : ImageAnswer) (after : ImageState) : Type 0 where
  pub geometry : after.geometry ≡ before.geometry
  pub syncs : after.syncs ≡ syncs_after call answer before.syncs
  pub faults : after.faults ≡ faults_after answer before.faults

-- the same, along an equation
along : {before after seen : ImageState} {call : ImageCall} {answer : ImageAnswer} → after ≡ seen → IsCounted before call answer seen
    → IsCounted before call answer after
along same is = rw same is

module _ (before after : ImageState) (was is : Bool) where
  pub call_counted : (call : ImageCall) (answer : ImageAnswer) → ImageMeets before was call answer after is
      → IsCounted before call answer after
  call_counted (ReadingSlot slot) (Gave given) met = along met.leads (record { geometry = refl; syncs = refl; faults = refl })
  call_counted (ReadingSlot slot) Done met = absurd met.answers
  call_counted (ReadingSlot slot) (Refused fault) met = along met.leads (record { geometry = refl; syncs = refl; faults = refl })
  call_counted (Programming slot bytes) (Gave given) met = absurd met.answers
  call_counted (Programming slot bytes) Done met = along met.leads (record { geometry = refl; syncs = refl; faults = refl })
  call_counted (Programming slot bytes) (Refused fault) met = along met.leads.2 (record { geometry = refl; syncs = refl; faults = refl })
  call_counted (Erasing block) (Gave given) met = absurd met.answers
  call_counted (Erasing block) Done met = along met.leads (record { geometry = refl; syncs = refl; faults = refl })
  call_counted (Erasing block) (Refused fault) met = along met.leads.2 (record { geometry = refl; syncs = refl; faults = refl })
  call_counted ReadingHeader (Gave given) met = along met.leads (record { geometry = refl; syncs = refl; faults = refl })
  call_counted ReadingHeader Done met = absurd met.answers
  call_counted ReadingHeader (Refused fault) met = along met.leads (record { geometry = refl; syncs = refl; faults = refl })
  call_counted (WritingHeader bytes) (Gave given) met = absurd met.answers
  call_counted (WritingHeader bytes) Done met = along met.leads (record { geometry = refl; syncs = refl; faults = refl })
  call_counted (WritingHeader bytes) (Refused fault) met = along met.leads.2 (record { geometry = refl; syncs = refl; faults = refl })
  call_counted Syncing (Gave given) met = absurd met.answers
  call_counted Syncing Done met = along met.leads (record { geometry = refl; syncs = refl; faults = refl })
  call_counted Syncing (Refused fault) met = along met.leads (record { geometry = refl; syncs = refl; faults = refl })
