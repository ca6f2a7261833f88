-- On what terms the images of an array are taken.
use Rattle.std.specs.Prelude.{Bool, true, false, if◌then◌else◌, Option, Some, None}
use Rattle.fa_settings.specs.declared.terms.Terms.{Terms}
use Rattle.fa_settings.specs.declared.terms.Terms.TheVariants.{Closed, Whole, Unclean}

-- an image that cannot be had is left aside
abbrev pub leaves_aside : Terms → Bool
leaves_aside Closed = false
leaves_aside terms = true

-- the images of all dies that were in use have to be there
abbrev pub is_whole : Terms → Bool
is_whole Whole = true
is_whole terms = false

-- the terms by the flags --unclean and --recover, which nobody gives together
abbrev pub terms_by : Bool → Bool → Option Terms
terms_by unclean recover = if recover then (if unclean then None else Some Whole) else Some (if unclean then Unclean else Closed)
