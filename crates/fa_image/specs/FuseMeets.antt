-- An image with a fuse is an image: each call that it makes is one, and it has the slots of its geometry.
use Rattle.std.proofs.Common.{◌≡◌, ℕ, ◌*◌, Bool, refl, ap, ◌∙◌, ⊎_elim, arith}
use Rattle.std.proofs.lemmas.Bool.{cases_eq}
use Rattle.fa_image.specs.Image.{ImageState, IsImage, ImageCall, ReadingSlot, Programming, Erasing, ReadingHeader, WritingHeader, Syncing}
use Rattle.fa_image.specs.Image.{ImageAnswer, Gave, Done, Refused, IsCallOf, IsAnswerTo, accepted, faulted, fault_of}
use Rattle.fa_image.specs.Image.{IsLeft, LeadsTo, IsTrueAnswer, StaysHonest, ImageMeets, faults_after, one_more, with_written}
use Rattle.fa_image.specs.Fuse.{fused_view, inner_of, calls_left, FuseMade}
use Rattle.fa_image.specs.Untouched.{left_alone, block_fits}
use Rattle.fa_image.specs.declared.fuse_image.FuseImage.{FuseImage}
use Rattle.fa_types.specs.declared.geometry.Geometry.{Geometry}

-- a refused call that left all as it was
alone : (call : ImageCall) (image : ImageState) → IsImage image → IsCallOf image.geometry call → IsLeft call image (faulted image)
alone (ReadingSlot slot) image is of = refl
alone (Programming slot bytes) image is of = left_alone slot 1 image is (omega (arith, of.0))
alone (Erasing block) image is of =
    left_alone (block * image.geometry.slots) image.geometry.slots image is (block_fits block image.geometry.slots image.geometry.blocks of)
alone ReadingHeader image is of = refl
alone (WritingHeader bytes) image is of = (image.header, is.headed, refl)
alone Syncing image is of = refl

own_fault : (g : Geometry) (call : ImageCall) → IsAnswerTo g call (Refused (fault_of call))
own_fault g (ReadingSlot slot) = refl
own_fault g (Programming slot bytes) = refl
own_fault g (Erasing block) = refl
own_fault g ReadingHeader = refl
own_fault g (WritingHeader bytes) = refl
own_fault g Syncing = refl

gave_nothing : (call : ImageCall) (image : ImageState) → IsTrueAnswer call (Refused (fault_of call)) image
gave_nothing (ReadingSlot slot) image = tt
gave_nothing (Programming slot bytes) image = tt
gave_nothing (Erasing block) image = tt
gave_nothing ReadingHeader image = tt
gave_nothing (WritingHeader bytes) image = tt
gave_nothing Syncing image = tt

as_honest : (call : ImageCall) (honest : Bool) → StaysHonest call honest honest
as_honest (ReadingSlot slot) honest = λ h. h
as_honest (Programming slot bytes) honest = refl
as_honest (Erasing block) honest = refl
as_honest ReadingHeader honest = λ h. h
as_honest (WritingHeader bytes) honest = refl
as_honest Syncing honest = refl

-- the armed call
burnt : (before after : ImageState) (was is : Bool) (call : ImageCall) (answer : ImageAnswer)
    → IsImage before → IsCallOf before.geometry call
    → answer ≡ Refused (fault_of call) → after ≡ faulted before → is ≡ was → ImageMeets before was call answer after is
burnt before after was is call answer whole of refused same honest = rw (refused, same, honest) (record {
  allowed = of;
  answers = own_fault before.geometry call;
  leads = alone call before whole of;
  told = λ h. gave_nothing call before;
  honest = as_honest call was;
})

-- the image with another number of faults
with_faults : ℕ → ImageState → ImageState
with_faults n image = record image { faults = n }

after_accepted : (call : ImageCall) (image : ImageState) (n : ℕ) → with_faults n (accepted call image) ≡ accepted call (with_faults n image)
unfolding with_faults
after_accepted (ReadingSlot slot) image n = refl
after_accepted (Programming slot bytes) image n = refl
after_accepted (Erasing block) image n = refl
after_accepted ReadingHeader image n = refl
after_accepted (WritingHeader bytes) image n = refl
after_accepted Syncing image n = refl

accepted_too : (call : ImageCall) (before after : ImageState) (n m : ℕ) → after ≡ accepted call before → m ≡ n
    → with_faults m after ≡ accepted call (with_faults n before)
accepted_too call before after n m same counts =
    ap (with_faults m) same ∙ after_accepted call before m ∙ ap (λ (k : ℕ). accepted call (with_faults k before)) counts

-- one more fault than before, counted from another number
counted : (image after : ImageState) (n m : ℕ) → after ≡ faulted image → m ≡ one_more n
    → with_faults m after ≡ faulted (with_faults n image)
unfolding with_faults
counted image after n m same counts = ap (with_faults m) same ∙ ap (λ (k : ℕ). with_faults k image) counts

left_too : (call : ImageCall) (before after : ImageState) (n m : ℕ) → IsLeft call before after → m ≡ one_more n
    → IsLeft call (with_faults n before) (with_faults m after)
unfolding with_faults
left_too (ReadingSlot slot) before after n m left counts = counted before after n m left counts
left_too (Programming slot bytes) before after n m left counts =
    (left.0, left.1, counted (with_written slot left.0 before) after n m left.2 counts)
left_too (Erasing block) before after n m left counts =
    (left.0, left.1, counted (with_written (block * before.geometry.slots) left.0 before) after n m left.2 counts)
left_too ReadingHeader before after n m left counts = counted before after n m left counts
left_too (WritingHeader bytes) before after n m left counts =
    (left.0, left.1, counted (record before { header = left.0 }) after n m left.2 counts)
left_too Syncing before after n m left counts = counted before after n m left counts

leads_too : (call : ImageCall) (answer : ImageAnswer) (before after : ImageState) (n m : ℕ) → LeadsTo call answer before after
    → m ≡ faults_after answer n → LeadsTo call answer (with_faults n before) (with_faults m after)
leads_too call (Gave bytes) before after n m leads counts = accepted_too call before after n m leads counts
leads_too call Done before after n m leads counts = accepted_too call before after n m leads counts
leads_too call (Refused fault) before after n m leads counts = left_too call before after n m leads counts

true_too : (call : ImageCall) (answer : ImageAnswer) (image : ImageState) (n : ℕ) → IsTrueAnswer call answer image
    → IsTrueAnswer call answer (with_faults n image)
unfolding with_faults
true_too (ReadingSlot slot) (Gave bytes) image n told = told
true_too ReadingHeader (Gave bytes) image n told = told
true_too (ReadingSlot slot) Done image n told = tt
true_too ReadingHeader Done image n told = tt
true_too (ReadingSlot slot) (Refused fault) image n told = tt
true_too ReadingHeader (Refused fault) image n told = tt
true_too (Programming slot bytes) answer image n told = tt
true_too (Erasing block) answer image n told = tt
true_too (WritingHeader bytes) answer image n told = tt
true_too Syncing answer image n told = tt

-- any other call
passed_on : (before after : ImageState) (was is : Bool) (call : ImageCall) (answer : ImageAnswer) (n m : ℕ)
    → ImageMeets before was call answer after is
    → m ≡ faults_after answer n → ImageMeets (with_faults n before) was call answer (with_faults m after) is
unfolding with_faults
passed_on before after was is call answer n m met counts = record {
  allowed = met.allowed;
  answers = met.answers;
  leads = leads_too call answer before after n m met.leads counts;
  told = λ h. true_too call answer before n (met.told h);
  honest = met.honest;
}

module _ {I : Type 0} (view : I → ImageState) (honest : I → Bool) (made : I → ImageCall → ImageAnswer → I → Type 0)
    (inner_whole : (image : I) → IsImage (view image))
    (inner_meets : (before after : I) (call : ImageCall) (answer : ImageAnswer) → made before call answer after
    → ImageMeets (view before) (honest before) call answer (view after) (honest after)) where
  whole_of : (image : FuseImage I) → IsImage (fused_view view image)
  whole_of image = record { whole = (inner_whole image.inner).whole; headed = (inner_whole image.inner).headed }

  pub fused_meets : (before after : FuseImage I) (call : ImageCall) (answer : ImageAnswer) → FuseMade view made before call answer after
      → ImageMeets (fused_view view before) (honest (inner_of before)) call answer (fused_view view after) (honest (inner_of after))
  unfolding with_faults
  fused_meets before after call answer done = ⊎_elim
      (λ (armed : calls_left before ≡ 1).
      let e = (done.blown armed).0 in
      let same = (done.blown armed).1 in
      let counts : after.faults ≡ one_more before.faults = done.faults ∙ ap (λ (a : ImageAnswer). faults_after a before.faults) e in
      burnt (fused_view view before) (fused_view view after) (honest (inner_of before)) (honest (inner_of after)) call answer
      (whole_of before) done.allowed e
      (ap (λ (i : I). record (view i) { faults = after.faults }) same ∙ ap (λ (n : ℕ). record (view before.inner) { faults = n }) counts)
      (ap honest same))
      (λ not_armed. passed_on (view before.inner) (view after.inner) (honest (inner_of before)) (honest (inner_of after)) call answer
      before.faults after.faults (inner_meets before.inner after.inner call answer (done.passed not_armed)) done.faults)
      (cases_eq (calls_left before) 1)

pub fused_whole : {I : Type 0} (view : I → ImageState) → ((image : I) → IsImage (view image)) → (image : FuseImage I)
    → IsImage (fused_view view image)
fused_whole view inner_whole image =
    record { whole = (inner_whole image.inner).whole; headed = (inner_whole image.inner).headed }
