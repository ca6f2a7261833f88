-- What was read of dies, and what is mounted of it.
use Rattle.std.proofs.Common.{◌≡◌, ◌∙◌, ℕ, List, Option, Result, Ok, Err, length, subst, sym, ap}
use Rattle.std.specs.Result.{IfOk, MatchResult}
use Rattle.fa_types.specs.declared.geometry.Geometry.{Geometry}
use Rattle.fa_image.specs.Image.{ImageCall, ImageAnswer}
use Rattle.fa_mount_scan.specs.Content.{AreContents, Contents}
use Rattle.fa_mount_scan.specs.ContentReading.{AreOutcomes}
use Rattle.fa_mount_headers.specs.declared.fault.MountRefused.{MountRefused}
use Rattle.fa_mount_scan.specs.Recovering.{slots_refusal}
use Rattle.fa_mount_scan.specs.Scanned.{AreSettled, Outcome}
use Rattle.fa_mount_headers.specs.declared.judging.Standing.{Standing}
use Rattle.fa_mount_scan.proofs.ContentsRead.{are_contents}

-- what holds of either variant
pub either : {T E : Type 0} (P P' : T → Type 0) (Q Q' : E → Type 0) (r : Result T E) → MatchResult r P Q → ((x : T) → P x → P' x)
    → ((e : E) → Q e → Q' e) → MatchResult r P' Q'
either P P' Q Q' (Ok x) is ok err = ok x is
either P P' Q Q' (Err e) is ok err = err e is

-- what holds of a value for two reasons
pub on_ok : {T E : Type 0} (P P' : T → Type 0) (Q : E → Type 0) (r : Result T E) → MatchResult r P Q → ((x : T) → P x → P' x) → IfOk r P'
on_ok P P' Q (Ok x) is ok = ok x is
on_ok P P' Q (Err e) is ok = tt

pub joined : {T E : Type 0} {P R P' : T → Type 0} {Q Q' : E → Type 0} (r : Result T E) → MatchResult r P Q → IfOk r R
    → ((x : T) → P x → R x → P' x) → ((y : E) → Q y → Q' y) → MatchResult r P' Q'
joined (Ok x) p i f g = f x p i
joined (Err y) q i f g = g y q

module _ {I : Type 0} (made : I → ImageCall → ImageAnswer → I → Type 0) (geometry : Geometry) (images after : List I)
    (read_of standings : List Standing) (outcomes : List Outcome) (same : read_of ≡ standings)
    (read : AreOutcomes made geometry images after read_of outcomes) (long : length outcomes ≡ length read_of) where
  -- what came of the judged dies, which were lent to be read
  pub outcomes_of : AreOutcomes made geometry images after standings outcomes
  outcomes_of = subst (λ (l : List Standing). AreOutcomes made geometry images after l outcomes) same read

  pub as_many_of : length outcomes ≡ length standings
  as_many_of = long ∙ ap (λ (l : List Standing). length l) same

  -- what is settled of them are contents of the array's dies
  pub contents_of : length standings ≡ geometry.dies → (dies : List Standing) (contents : Contents)
      → AreSettled standings outcomes dies contents → AreContents geometry contents
  contents_of all dies contents settles =
      are_contents made geometry images after standings outcomes outcomes_of dies contents settles as_many_of all

-- why what was read of dies, which were lent, is not recovered
pub refused_of : (copies mask : ℕ) (lent standings : List Standing) (lent_outcomes outcomes : List Outcome) (told refusal : Option MountRefused)
    → lent ≡ standings → lent_outcomes ≡ outcomes → told ≡ slots_refusal copies mask lent lent_outcomes → told ≡ refusal
    → slots_refusal copies mask standings outcomes ≡ refusal
refused_of copies mask lent standings lent_outcomes outcomes told refusal same alike is was =
    ap (λ (l : List Standing). slots_refusal copies mask l outcomes) (sym same)
    ∙ ap (λ (l : List Outcome). slots_refusal copies mask lent l) (sym alike)
    ∙ sym is
    ∙ was
