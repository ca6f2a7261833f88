-- An image in memory is an image: each call that it makes is one, and it is always honest.
use Rattle.std.specs.Prelude.{true, refl}
use Rattle.fa_image.specs.Image.{ImageCall, ReadingSlot, Programming, Erasing, ReadingHeader, WritingHeader, Syncing}
use Rattle.fa_image.specs.Image.{ImageAnswer, Gave, Done, Refused, LeadsTo, StaysHonest, ImageMeets}
use Rattle.fa_image.specs.Memory.{mem_image_view, MemImageMade}
use Rattle.fa_image.specs.declared.mem_image.MemImage.{MemImage}

honest : (call : ImageCall) → StaysHonest call true true
honest (ReadingSlot slot) = λ h. h
honest (Programming slot bytes) = refl
honest (Erasing block) = refl
honest ReadingHeader = λ h. h
honest (WritingHeader bytes) = refl
honest Syncing = refl

module _ {A : Type 0} where
  leads : (before after : MemImage A) (call : ImageCall) (answer : ImageAnswer) → MemImageMade before call answer after
      → LeadsTo call answer (mem_image_view before) (mem_image_view after)
  leads before after call (Gave bytes) made = made.leads
  leads before after call Done made = made.leads
  leads before after call (Refused fault) made = absurd made.accepts

  pub mem_image_meets : (before after : MemImage A) (call : ImageCall) (answer : ImageAnswer) → MemImageMade before call answer after
      → ImageMeets (mem_image_view before) true call answer (mem_image_view after) true
  mem_image_meets before after call answer made = record {
    allowed = made.allowed;
    answers = made.answers;
    leads = leads before after call answer made;
    told = λ h. made.told;
    honest = honest call;
  }
