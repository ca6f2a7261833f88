-- What has become of the image of a die since closing began, turn by turn.
use Rattle.std.proofs.Common.{◌≡◌, ◌∙◌, ◌&&◌, not, Bool, true, false, [], ◌∷◌, refl, sym, subst, inl, inr}
use Rattle.std.proofs.lemmas.Bool.{false≢true, true≢false}
use Rattle.std.specs.Bool.{MatchBool}
use Rattle.fa_image.specs.Image.{ImageCall, Syncing, ImageAnswer}
use Rattle.fa_mount.proofs.Taken.{accepted_both, called_both, called_same, called_took, called_weaker, out_weaker, took_then_out, took_weaker}
use Rattle.fa_mount.specs.Closing.{AreAccepted, IsClosed, IsOut, IsUnmarked}
use Rattle.fa_mount.specs.Turns.{IsCalled}

module _ {I : Type 0} (made : I → ImageCall → ImageAnswer → I → Type 0) where
  -- by whether the die was live and is left
  abbrev pub Become : (ImageCall → Type 0) → Bool → Bool → (I → I → Type 0) → I → I → Type 0
  Become kind l b is_left x y = MatchBool l (MatchBool b (is_left x y) (IsOut made kind x y)) (y ≡ x)

  -- a kind of calls that syncs are of
  module _ (kind : ImageCall → Type 0) (syncs : (call : ImageCall) → call ≡ Syncing → kind call) where
    out_still : (x y z : I) → z ≡ y → IsOut made kind x y → IsOut made kind x z
    out_still x y z same was = subst (λ w. IsOut made kind x w) (sym same) was

    pub begun_by : (l b k : Bool) (x : I) → b ≡ l → Become kind l b (IsCalled made kind k) x x
    begun_by true true k x same = called_same made kind syncs k x
    begun_by true false k x same = absurd (false≢true same)
    begun_by false b k x same = refl

    pub done_by : (mark : ImageCall) (l b k : Bool) (x y z : I) → (b ≡ true → l ≡ true) → Become kind l b (IsCalled made kind k) x y
        → MatchBool b (AreAccepted made (Syncing ∷ mark ∷ Syncing ∷ []) y z) (z ≡ y) → Become kind l b (IsClosed made kind mark) x z
    done_by mark true true k x y z lives before done =
        let took = called_took made kind syncs k x y before in record {
          earlier = took.0;
          are_earlier = took.1;
          accepted = accepted_both made took.0 (Syncing ∷ mark ∷ Syncing ∷ []) x y z took.2 done;
        }
    done_by mark true false k x y z lives before done = out_still x y z done before
    done_by mark false true k x y z lives before done = absurd (false≢true (lives refl))
    done_by mark false false k x y z lives before done = done ∙ before

    pub lost_by : (unmark : ImageCall) (l b k : Bool) (x y z : I) → (b ≡ true → l ≡ true) → Become kind l b (IsCalled made kind k) x y
        → MatchBool (b && k) ((answer : ImageAnswer) × made y unmark answer z) (z ≡ y) → Become kind l b (IsUnmarked made kind unmark) x z
    lost_by unmark true true true x y z lives before (answer, link) = inr (y, answer, before, link)
    lost_by unmark true true false x y z lives before same = inl (subst (λ w. IsCalled made kind false x w) (sym same) before)
    lost_by unmark true false k x y z lives before same = out_still x y z same before
    lost_by unmark false true k x y z lives before same = absurd (false≢true (lives refl))
    lost_by unmark false false k x y z lives before same = same ∙ before

    pub none_by : (l b c k : Bool) (x y : I) → b ≡ false → c ≡ false → Become kind l b (IsCalled made kind k) x y
        → Become kind l c (λ a w. ⊥) x y
    none_by true true c k x y none_in none before = absurd (true≢false none_in)
    none_by true false true k x y none_in none before = absurd (true≢false none)
    none_by true false false k x y none_in none before = before
    none_by false b c k x y none_in none before = before

  -- the calls before a turn, those of the turn, and those before the next
  module _ (was_kind turn_kind kind : ImageCall → Type 0) (syncs : (call : ImageCall) → call ≡ Syncing → kind call)
      (were : (call : ImageCall) → was_kind call → kind call) (are : (call : ImageCall) → turn_kind call → kind call)
      (were_syncs : (call : ImageCall) → call ≡ Syncing → was_kind call) where
    out_then : (x y z : I) → z ≡ y → IsOut made was_kind x y → IsOut made kind x z
    out_then x y z same was = subst (λ w. IsOut made kind x w) (sym same) (out_weaker made was_kind kind were x y was)

    pub cut_by : (l b e was is : Bool) (x y z : I) → (b ≡ true → l ≡ true) → (was ≡ true → is ≡ true)
        → Become was_kind l b (IsCalled made was_kind was) x y
        → MatchBool b (MatchBool e (IsOut made turn_kind y z) (IsCalled made turn_kind is y z)) (z ≡ y)
        → Become kind l (not e && b) (IsCalled made kind is) x z
    cut_by true true true was is x y z lives marks before cut =
        took_then_out made kind x y z (took_weaker made was_kind kind were x y (called_took made was_kind were_syncs was x y before))
        (out_weaker made turn_kind kind are y z cut)
    cut_by true true false was is x y z lives marks before cut =
        called_both made kind syncs was is x y z marks (called_weaker made was_kind kind were was x y before)
        (called_weaker made turn_kind kind are is y z cut)
    cut_by true false true was is x y z lives marks before cut = out_then x y z cut before
    cut_by true false false was is x y z lives marks before cut = out_then x y z cut before
    cut_by false true e was is x y z lives marks before cut = absurd (false≢true (lives refl))
    cut_by false false e was is x y z lives marks before cut = cut ∙ before
