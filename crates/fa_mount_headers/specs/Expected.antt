-- What the headers of an array are expected to be.
use Rattle.std.specs.Prelude.{◌≡◌, ◌⊎◌, ℕ, Bool, Option, List, [], ◌∷◌, Result, Err}
use Rattle.std.specs.Result.{result_err}
use Rattle.fa_types.specs.declared.geometry.Geometry.{Geometry}
use Rattle.fa_mount_headers.specs.declared.fault.MountFault.TheVariants.{NoMemory}
use Rattle.fa_mount_headers.specs.declared.fault.MountRefused.{MountRefused}
use Rattle.fa_mount_headers.specs.declared.found.Found.{Found}
use Rattle.fa_mount_headers.specs.Rules.{first_of, refused, reading_refusal, seen_from, of_another_array, of_another_geometry}

-- why images with these headers are not those of this array with this geometry, if they are not
abbrev pub expected_refusal : Geometry → List ℕ → Bool → List Found → Option MountRefused
expected_refusal geometry array is_unclean founds =
    first_of (
    reading_refusal is_unclean founds
    ∷ of_another_array array (seen_from 0 founds)
    ∷ of_another_geometry geometry (seen_from 0 founds)
    ∷ []
    )

-- The answer is that of what was found of the headers; or memory was refused.
abbrev pub IsExpected : Geometry → List ℕ → Bool → List Found → Result (Unit {0}) MountRefused → Type 0
IsExpected geometry array is_unclean founds result =
    (result ≡ Err (refused NoMemory)) ⊎ (result_err result ≡ expected_refusal geometry array is_unclean founds)
