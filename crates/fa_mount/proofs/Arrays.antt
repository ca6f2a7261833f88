-- The array over what was scanned.
use Rattle.std.proofs.Common.{◌≡◌, ◌⊎◌, ℕ, ◌-◌, ◌<◌, ◌≤◌, ◌^◌, Bool, List, Result, Ok, Err, inl, inr, refl, sym, subst, ap, length, ◌∙◌}
use Rattle.std.specs.Result.{IfErr, IfOk, MatchResult}
use Rattle.fa_mount_headers.specs.Rules.{refused}
use Rattle.fa_mount_headers.specs.declared.fault.MountFault.TheVariants.{HeaderBad, NoMemory}
use Rattle.fa_mount_headers.specs.declared.fault.MountRefused.{MountRefused}
use Rattle.fa_mount_headers.specs.declared.found.Found.{Found}
use Rattle.fa_mount_headers.specs.declared.judging.Standing.{Standing}
use Rattle.fa_image.specs.Image.{ImageCall, ImageAnswer, ImageState}
use Rattle.fa_machine.specs.State.{Core, MapState}
use Rattle.fa_mount.specs.Begins.{IsBegun}
use Rattle.fa_mount.specs.MountsArray.{MountsArray, MountsArrayBy, RefusesArray}
use Rattle.fa_mount.specs.RecoversArray.{RecoversArray, RecoversArrayBy, RefusesRecovered}
use Rattle.fa_mount_scan.specs.Mounting.{Mounts, MountsBy}
use Rattle.fa_mount_scan.specs.Recovering.{Recovers, RecoversBy}

module _ {I A T : Type 0} (view : I → ImageState) (made : I → ImageCall → ImageAnswer → I → Type 0) (copies : ℕ) (unclean : Bool)
    (before after : List I) (array : List ℕ) (epoch : ℕ) (clean : Bool) (dies : List Standing) (m : MapState)
    (number : T → List ℕ) (standings : T → List Standing) (core : T → Core) (r : Result T MountRefused)
    (low : IfOk r (λ x. epoch ≤ 2 ^ 62 - 256)) (begun : IfOk r (λ x. IsBegun copies m dies epoch (core x)))
    (same_dies : IfOk r (λ x. standings x ≡ dies)) (same_number : IfOk r (λ x. number x ≡ array))
    (not : IfErr r (λ refusal. (refusal ≡ refused NoMemory) ⊎ ((2 ^ 62 - 256 < epoch) × (refusal ≡ refused HeaderBad)))) where
  at_ok : (founds : List Found) (mounts : Mounts A view made copies unclean before after array epoch clean dies m)
      → mounts.headers.founds ≡ founds → (core : Core) (number : List ℕ) (standings : List Standing) → epoch ≤ 2 ^ 62 - 256
      → IsBegun copies m dies epoch core → standings ≡ dies → number ≡ array
      → MountsArrayBy A view made copies unclean before after founds number standings core
  at_ok founds mounts found core number standings low begun all named =
      let here : MountsArrayBy A view made copies unclean before after founds array dies core =
      (record { epoch = epoch; clean = clean; m = m; mounts = mounts; low = low; begins = begun }, found) in
      subst (λ n. MountsArrayBy A view made copies unclean before after founds n standings core) (sym named)
      (subst (λ l. MountsArrayBy A view made copies unclean before after founds array l core) (sym all) here)

  pub array_by : (founds : List Found) → MountsBy A view made copies unclean before after founds array epoch clean dies m
      → MatchResult r (λ x. MountsArrayBy A view made copies unclean before after founds (number x) (standings x) (core x))
      (RefusesArray A view made copies unclean before after)
  array_by founds by = go r low begun same_dies same_number not
    where
      go : (r : Result T MountRefused) → IfOk r (λ x. epoch ≤ 2 ^ 62 - 256) → IfOk r (λ x. IsBegun copies m dies epoch (core x))
          → IfOk r (λ x. standings x ≡ dies) → IfOk r (λ x. number x ≡ array)
          → IfErr r (λ refusal. (refusal ≡ refused NoMemory) ⊎ ((2 ^ 62 - 256 < epoch) × (refusal ≡ refused HeaderBad)))
          → MatchResult r (λ x. MountsArrayBy A view made copies unclean before after founds (number x) (standings x) (core x))
          (RefusesArray A view made copies unclean before after)
      go (Ok x) l b d n e = at_ok founds by.0 by.1 (core x) (number x) (standings x) l b d n
      go (Err refusal) l b d n (inl memory) = inl (inl memory)
      go (Err refusal) l b d n (inr late) =
          inr (record { array = array; epoch = epoch; clean = clean; dies = dies; m = m; mounts = by.0; high = late.0; is = late.1 })

  pub array_of : Mounts A view made copies unclean before after array epoch clean dies m
      → MatchResult r (λ x. MountsArray A view made copies unclean before after (number x) (standings x) (core x))
      (RefusesArray A view made copies unclean before after)
  array_of mounts = weaker r (array_by mounts.headers.founds (mounts, refl))
    where
      weaker : (r : Result T MountRefused)
          → MatchResult r (λ x. MountsArrayBy A view made copies unclean before after mounts.headers.founds (number x) (standings x) (core x))
          (RefusesArray A view made copies unclean before after)
          → MatchResult r (λ x. MountsArray A view made copies unclean before after (number x) (standings x) (core x))
          (RefusesArray A view made copies unclean before after)
      weaker (Ok x) is = is.0
      weaker (Err refusal) is = is

module _ {I A T : Type 0} (view : I → ImageState) (made : I → ImageCall → ImageAnswer → I → Type 0) (copies : ℕ)
    (before after : List I) (array : List ℕ) (epoch : ℕ) (clean : Bool) (dies : List Standing) (m : MapState)
    (number : T → List ℕ) (standings : T → List Standing) (core : T → Core) (r : Result T MountRefused)
    (low : IfOk r (λ x. epoch ≤ 2 ^ 62 - 256)) (begun : IfOk r (λ x. IsBegun copies m dies epoch (core x)))
    (same_dies : IfOk r (λ x. standings x ≡ dies)) (same_number : IfOk r (λ x. number x ≡ array))
    (not : IfErr r (λ refusal. (refusal ≡ refused NoMemory) ⊎ ((2 ^ 62 - 256 < epoch) × (refusal ≡ refused HeaderBad)))) where
  recovered_at : (founds : List Found) (recovers : Recovers A view made copies before after array epoch clean dies m)
      → recovers.mounts.headers.founds ≡ founds → (core : Core) (number : List ℕ) (standings : List Standing) → epoch ≤ 2 ^ 62 - 256
      → IsBegun copies m dies epoch core → standings ≡ dies → number ≡ array
      → RecoversArrayBy A view made copies before after founds number standings core
  recovered_at founds recovers found core number standings low begun all named =
      let here : RecoversArrayBy A view made copies before after founds array dies core = (
        record {
          mounts = record { epoch = epoch; clean = clean; m = m; mounts = recovers.mounts; low = low; begins = begun };
          headers = recovers.headers;
          slots = recovers.slots;
        },
        found,
      ) in
      subst (λ n. RecoversArrayBy A view made copies before after founds n standings core) (sym named)
      (subst (λ l. RecoversArrayBy A view made copies before after founds array l core) (sym all) here)

  pub recovered_by : (founds : List Found) → RecoversBy A view made copies before after founds array epoch clean dies m
      → MatchResult r (λ x. RecoversArrayBy A view made copies before after founds (number x) (standings x) (core x))
      (RefusesRecovered A view made copies before after)
  recovered_by founds by = go r low begun same_dies same_number not
    where
      go : (r : Result T MountRefused) → IfOk r (λ x. epoch ≤ 2 ^ 62 - 256) → IfOk r (λ x. IsBegun copies m dies epoch (core x))
          → IfOk r (λ x. standings x ≡ dies) → IfOk r (λ x. number x ≡ array)
          → IfErr r (λ refusal. (refusal ≡ refused NoMemory) ⊎ ((2 ^ 62 - 256 < epoch) × (refusal ≡ refused HeaderBad)))
          → MatchResult r (λ x. RecoversArrayBy A view made copies before after founds (number x) (standings x) (core x))
          (RefusesRecovered A view made copies before after)
      go (Ok x) l b d n e = recovered_at founds by.0 by.1 (core x) (number x) (standings x) l b d n
      go (Err refusal) l b d n (inl memory) = inl (inl memory)
      go (Err refusal) l b d n (inr late) = inr (record {
        array = array;
        epoch = epoch;
        clean = clean;
        dies = dies;
        m = m;
        mounts = by.0.mounts;
        high = late.0;
        is = late.1;
      })

-- what was recovered by the headers that were found
pub by_any : {I T : Type 0} (A : Type 0) (view : I → ImageState) (made : I → ImageCall → ImageAnswer → I → Type 0) (copies : ℕ) (before after : List I)
    (founds : List Found) (number : T → List ℕ) (standings : T → List Standing) (core : T → Core) (r : Result T MountRefused)
    → MatchResult r (λ x. RecoversArrayBy A view made copies before after founds (number x) (standings x) (core x))
    (RefusesRecovered A view made copies before after)
    → MatchResult r (λ x. RecoversArray A view made copies before after (number x) (standings x) (core x))
    (RefusesRecovered A view made copies before after)
by_any A view made copies before after founds number standings core (Ok x) is = is.0
by_any A view made copies before after founds number standings core (Err refusal) is = is

-- each die of the array has a standing
pub all_stand : (copies : ℕ) (m : MapState) (epoch : ℕ) (core : Core) (dies standings : List Standing) → IsBegun copies m dies epoch core
    → standings ≡ dies → length dies ≡ m.geometry.dies → length standings ≡ core.page_map.geometry.dies
all_stand copies m epoch core dies standings begun same all =
    ap (λ (l : List Standing). length l) same ∙ all ∙ sym (ap (λ (c : Core). c.page_map.geometry.dies) begun.is)

pub all_stand_in : {T : Type 0} (copies : ℕ) (m : MapState) (epoch : ℕ) (dies : List Standing) (standings : T → List Standing) (core : T → Core)
    (r : Result T MountRefused) → IfOk r (λ x. IsBegun copies m dies epoch (core x)) → IfOk r (λ x. standings x ≡ dies)
    → length dies ≡ m.geometry.dies → IfOk r (λ x. length (standings x) ≡ (core x).page_map.geometry.dies)
all_stand_in copies m epoch dies standings core (Ok x) begun same all = all_stand copies m epoch (core x) dies (standings x) begun same all
all_stand_in copies m epoch dies standings core (Err refusal) begun same all = tt
