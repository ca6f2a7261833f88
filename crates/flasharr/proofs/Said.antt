-- From the parts of a conversation to what it comes to.
use Rattle.std.proofs.Common.{◌≡◌, ℕ, List, Result, subst}
use Rattle.fa_image.specs.Image.{ImageAnswer, ImageCall}
use Rattle.fa_machine.specs.State.{Core}
use Rattle.fa_mount.specs.declared.closing.CloseFault.{CloseFault}
use Rattle.fa_mount_headers.specs.declared.judging.Standing.{Standing}
use Rattle.fa_prog_array.specs.Ending.{ClosesOver}
use Rattle.fa_prog_text.specs.Talk.{known}
use Rattle.fa_session.specs.Session.{Session}
use Rattle.fa_session.specs.declared.session_end.SessionEnd.{SessionEnd}
use Rattle.fa_types.specs.Store.{Answer, Call}

-- a connection, by other names that are equal
pub session_by : {S : Type 0} (made : S → Call → Answer → S → Type 0) (e f : List ℕ) (size : ℕ) (bytes left h k written : List ℕ) (old new : S)
    (end : SessionEnd) → e ≡ f → h ≡ k → Session made e size (known bytes left h written) old new end
    → Session made f size (known bytes left k written) old new end
session_by made e f size bytes left h k written old new end export held session =
    subst (λ (x : List ℕ). Session made f size (known bytes left x written) old new end) held
    (subst (λ (x : List ℕ). Session made x size (known bytes left h written) old new end) export session)

-- a closing, by other names that are equal
pub closes_by : {I : Type 0} (made : I → ImageCall → ImageAnswer → I → Type 0) (c d : Core) (n m : List ℕ) (s t : List Standing) (x y after : List I)
    (closed : Result ℕ CloseFault) → c ≡ d → n ≡ m → s ≡ t → x ≡ y → ClosesOver made c n s x after closed → ClosesOver made d m t y after closed
closes_by made c d n m s t x y after closed core number dies images closes =
    subst (λ (i : List _). ClosesOver made d m t i after closed) images
    (subst (λ (l : List Standing). ClosesOver made d m l x after closed) dies
    (subst (λ (l : List ℕ). ClosesOver made d l s x after closed) number
    (subst (λ (k : Core). ClosesOver made k n s x after closed) core closes)))
