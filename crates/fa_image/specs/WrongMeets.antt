-- An image that lies is an image: each call that it makes is one, and it has the slots of its geometry.
use Rattle.std.proofs.Common.{◌≡◌, ◌==◌, ℕ, Bool, true, false, refl, ap, subst, sym}
use Rattle.std.proofs.lemmas.Bool.{false≢true}
use Rattle.std.proofs.lemmas.List.{length-map}
use Rattle.std.specs.Prelude.{◌&&◌, ◌||◌, not, IsTrue, List, if◌then◌else◌}
use Rattle.fa_image.specs.Image.{ImageState, IsImage, ImageCall, ReadingSlot, Programming, Erasing, ReadingHeader, WritingHeader, Syncing}
use Rattle.fa_image.specs.Image.{ImageAnswer, Gave, StaysHonest, ImageMeets}
use Rattle.fa_image.specs.Wrong.{inverted, wrong_answer, lied_after, wrong_view, wrong_honest, WrongMade}
use Rattle.fa_image.specs.declared.wrong_image.WrongImage.{WrongImage}

first_of : (a b : Bool) → IsTrue (a && b) → IsTrue a
first_of true b h = refl
first_of false b h = absurd (false≢true h)

-- who has not lied after has not lied before, and did not lie
not_lied : (was lies h : Bool) → IsTrue (h && not (was || lies)) → IsTrue (h && not was)
not_lied false lies true h = refl
not_lied true lies true h = h
not_lied false lies false h = h
not_lied true lies false h = h

no_lie : (was h : Bool) → IsTrue (h && not (was || true)) → ⊥
no_lie false true h = false≢true h
no_lie true true h = false≢true h
no_lie false false h = false≢true h
no_lie true false h = false≢true h

both : (a b lied : Bool) → (IsTrue b → IsTrue a) → IsTrue (b && not lied) → IsTrue (a && not lied)
both true true lied f h = h
both false true lied f h = absurd (false≢true (f refl))
both false false lied f h = h
both true false lied f h = absurd (false≢true h)

-- a read that gave bytes, at whichever number of reads that are left
gave : (before after : ImageState) (was is was_lied is_lied lies : Bool) (slot : ℕ) (bytes : List ℕ)
    → ImageMeets before was (ReadingSlot slot) (Gave bytes) after is → is_lied ≡ (was_lied || lies)
    → ImageMeets before (was && not was_lied) (ReadingSlot slot) (if lies then Gave (inverted bytes) else Gave bytes) after
    (is && not is_lied)
gave before after was is was_lied is_lied true slot bytes met lied = rw lied (record {
  allowed = met.allowed;
  answers = rw length-map met.answers;
  leads = met.leads;
  told = λ h. absurd (no_lie was_lied is h);
  honest = λ h. absurd (no_lie was_lied is h);
})
gave before after was is was_lied is_lied false slot bytes met lied = rw lied (record {
  allowed = met.allowed;
  answers = met.answers;
  leads = met.leads;
  told = λ h. met.told (first_of is (not (was_lied || false)) h);
  honest = λ h. both was is was_lied met.honest (not_lied was_lied false is h);
})

-- any other call, of which the image behind gave the answer
same_lies : (call : ImageCall) (was is lied : Bool) → StaysHonest call was is → StaysHonest call (was && not lied) (is && not lied)
same_lies (ReadingSlot slot) was is lied stays = both was is lied stays
same_lies (Programming slot bytes) was is lied stays = ap (λ (b : Bool). b && not lied) stays
same_lies (Erasing block) was is lied stays = ap (λ (b : Bool). b && not lied) stays
same_lies ReadingHeader was is lied stays = both was is lied stays
same_lies (WritingHeader bytes) was is lied stays = ap (λ (b : Bool). b && not lied) stays
same_lies Syncing was is lied stays = ap (λ (b : Bool). b && not lied) stays

passed_on : (before after : ImageState) (was is was_lied is_lied : Bool) (call : ImageCall) (told : ImageAnswer)
    → ImageMeets before was call told after is → is_lied ≡ was_lied
    → ImageMeets before (was && not was_lied) call told after (is && not is_lied)
passed_on before after was is was_lied is_lied call told met lied = rw lied (record {
  allowed = met.allowed;
  answers = met.answers;
  leads = met.leads;
  told = λ h. met.told (first_of is (not was_lied) h);
  honest = same_lies call was is was_lied met.honest;
})

-- One call with the numbers about it in place of the images.
seen : (before after : ImageState) (was is was_lied is_lied : Bool) (call : ImageCall) (left : ℕ) (told : ImageAnswer)
    → ImageMeets before was call told after is → is_lied ≡ lied_after call left told was_lied
    → ImageMeets before (was && not was_lied) call (wrong_answer call left told) after (is && not is_lied)
seen before after was is was_lied is_lied (ReadingSlot slot) left (Gave bytes) met lied =
    gave before after was is was_lied is_lied (left == 1) slot bytes met lied
seen before after was is was_lied is_lied call left told met lied = passed_on before after was is was_lied is_lied call told met lied

module _ {I : Type 0} (view : I → ImageState) (honest : I → Bool) (made : I → ImageCall → ImageAnswer → I → Type 0)
    (inner_meets : (before after : I) (call : ImageCall) (answer : ImageAnswer) → made before call answer after
    → ImageMeets (view before) (honest before) call answer (view after) (honest after)) where
  pub wrong_meets : (before after : WrongImage I) (call : ImageCall) (answer : ImageAnswer) → WrongMade made before call answer after
      → ImageMeets (wrong_view view before) (wrong_honest honest before) call answer (wrong_view view after) (wrong_honest honest after)
  wrong_meets before after call answer done =
      let Meets : ImageAnswer → Type 0 = λ a. ImageMeets (wrong_view view before) (wrong_honest honest before) call a
      (wrong_view view after) (wrong_honest honest after) in
      subst Meets (sym done.answers)
      (seen (view before.inner) (view after.inner) (honest before.inner) (honest after.inner) before.has_lied after.has_lied call
      before.reads_left done.told (inner_meets before.inner after.inner call done.told done.passed) done.lied)

pub wrong_whole : {I : Type 0} (view : I → ImageState) → ((image : I) → IsImage (view image)) → (image : WrongImage I)
    → IsImage (wrong_view view image)
wrong_whole view inner_whole image = inner_whole image.inner
