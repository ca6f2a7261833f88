-- What was done with images that tell how far a command is, was done with the images within.
use Rattle.std.proofs.Common.{◌≡◌, ℕ, suc, Bool, true, List, [], ◌∷◌, map, length, Option, Some, None, option_map, Result, Ok, Err, sym, ap, ◌∙◌, inl, inr}
use Rattle.std.proofs.lemmas.Option.{slice_get-map}
use Rattle.std.proofs.lemmas.List.{length-map}
use Rattle.fa_types.specs.declared.geometry.Geometry.{Geometry}
use Rattle.fa_image.specs.Image.{ImageState, ImageCall, ImageAnswer}
use Rattle.fa_image.specs.declared.fault.ImageFault.{ImageFault}
use Rattle.fa_machine.specs.State.{MapState}
use Rattle.fa_mount_scan.specs.ContentReading.{ReadsSlots, ReadsDie, HasOutcome, AreOutcomes, image_read}
use Rattle.fa_mount_headers.specs.Found.{ReadsHeader, ReadsHeaders}
use Rattle.fa_mount_scan.specs.Mounting.{SayArray, Mounts, RefusesMount}
use Rattle.fa_mount_scan.specs.declared.slots.content.SlotContent.{SlotContent}
use Rattle.fa_mount_headers.specs.declared.fault.MountRefused.{MountRefused}
use Rattle.fa_mount_headers.specs.declared.found.Found.{Found}
use Rattle.fa_mount_headers.specs.declared.judging.Judged.{Judged}
use Rattle.fa_mount_headers.specs.declared.judging.Standing.{Standing}
use Rattle.fa_settings.specs.declared.settings.Settings.{Settings}
use Rattle.fa_mount_scan.specs.Recovering.{RefusesRecovery}
use Rattle.fa_settings.specs.Terms.{leaves_aside}
use Rattle.fa_settings.specs.declared.terms.Terms.{Terms}
use Rattle.fa_prog_images.specs.Mount.{Array, MountsArray, RefusesArray, RefusesByTerms}

module _ {J I : Type 0} (f : J → I) (view : I → ImageState) (made : I → ImageCall → ImageAnswer → I → Type 0) where
  abbrev pub outer_view : J → ImageState
  outer_view image = view (f image)

  abbrev pub outer_made : J → ImageCall → ImageAnswer → J → Type 0
  outer_made before call answer after = made (f before) call answer (f after)

  one_header : (before after : J) (found : Found) → ReadsHeader outer_view outer_made before after found → ReadsHeader view made (f before) (f after) found
  one_header before after found h = record { geometry = h.geometry; answer = h.answer; read = h.read; header = h.header }

  pub headers : (befores afters : List J) (founds : List Found) → ReadsHeaders outer_view outer_made befores afters founds
      → ReadsHeaders view made (map f befores) (map f afters) founds
  headers befores afters [] h = ap (λ images. map f images) h
  headers (before ∷ befores) (after ∷ afters) (found ∷ founds) h = (one_header before after found h.0, headers befores afters founds h.1)
  headers [] afters (found ∷ founds) h = absurd h
  headers (before ∷ befores) [] (found ∷ founds) h = absurd h

  pub as_many : (founds : List Found) (before : List J) → length founds ≡ length before → length founds ≡ length (map f before)
  as_many founds before same = same ∙ sym (length-map before f)

  slots : (pages die slot : ℕ) (contents : List SlotContent) (before after : J) → ReadsSlots outer_made pages die slot contents before after
      → ReadsSlots made pages die slot contents (f before) (f after)
  slots pages die slot [] before after h = ap f h
  slots pages die slot (content ∷ contents) before after h =
      (f h.0, record { bytes = h.1.bytes; gave = h.1.gave; holds = h.1.holds }, slots pages die (suc slot) contents h.0 after h.2)

  die_read : (g : Geometry) (die : ℕ) (outcome : Result (List SlotContent) ImageFault) (before after : J)
      → ReadsDie outer_made g die outcome before after → ReadsDie made g die outcome (f before) (f after)
  die_read g die (Ok contents) before after h = (h.0, slots g.pages die 0 contents before after h.1)
  die_read g die (Err fault) before after h = record {
    contents = h.contents;
    middle = f h.middle;
    read = slots g.pages die 0 h.contents before h.middle h.read;
    refused = h.refused;
  }

  has_outcome : (g : Geometry) (images after : List J) (die : ℕ) (index : Option ℕ) (outcome : Option (Result (List SlotContent) ImageFault))
      → HasOutcome outer_made g images after die index outcome → HasOutcome made g (map f images) (map f after) die index outcome
  has_outcome g images after die None None h = h
  has_outcome g images after die (Some index) (Some outcome) h = record {
    old = f h.old;
    new = f h.new;
    was = slice_get-map f images index ∙ ap (λ image. option_map f image) h.was;
    is = slice_get-map f after index ∙ ap (λ image. option_map f image) h.is;
    reads = die_read g die outcome h.old h.new h.reads;
  }
  has_outcome g images after die None (Some outcome) h = absurd h
  has_outcome g images after die (Some index) None h = absurd h

  outcomes : (g : Geometry) (images after : List J) (standings : List Standing) (found : List (Option (Result (List SlotContent) ImageFault)))
      → AreOutcomes outer_made g images after standings found → AreOutcomes made g (map f images) (map f after) standings found
  outcomes g images after standings found h die standing outcome stands comes =
      has_outcome g images after die (image_read standing) outcome (h die standing outcome stands comes)

  module _ (B : Type 0) (copies : ℕ) (unclean : Bool) where
    says : (before after : List J) (judged : Judged B) → SayArray B outer_view outer_made copies unclean before after judged
        → SayArray B view made copies unclean (map f before) (map f after) judged
    says before after judged h = record {
      founds = h.founds;
      read = headers before after h.founds h.read;
      each = as_many h.founds before h.each;
      fine = h.fine;
      judges = h.judges;
    }

    mounts : (before after : List J) (array : List ℕ) (epoch : ℕ) (clean : Bool) (dies : List Standing) (m : MapState)
        → Mounts B outer_view outer_made copies unclean before after array epoch clean dies m
        → Mounts B view made copies unclean (map f before) (map f after) array epoch clean dies m
    mounts before after array epoch clean dies m h = record {
      between = map f h.between;
      judged = h.judged;
      headers = says before h.between h.judged h.headers;
      outcomes = h.outcomes;
      read = outcomes h.judged.geometry h.between after h.judged.dies.items h.outcomes h.read;
      scan = h.scan;
      identity = h.identity;
    }

    refuses : (before after : List J) (refusal : MountRefused) → RefusesMount B outer_view outer_made copies unclean before after refusal
        → RefusesMount B view made copies unclean (map f before) (map f after) refusal
    refuses before after refusal (inl none) = inl none
    refuses before after refusal (inr (inl h)) = inr (inl (h.0, headers before after h.0 h.1, as_many h.0 before h.2, h.3))
    refuses before after refusal (inr (inr h)) =
        inr (inr (map f h.0, h.1, says before h.0 h.1 h.2, h.3, outcomes h.1.geometry h.0 after h.1.dies.items h.3 h.4, h.5))

  recovery_refused : (B : Type 0) (copies : ℕ) (before after : List J) (refusal : MountRefused)
      → RefusesRecovery B outer_view outer_made copies before after refusal → RefusesRecovery B view made copies (map f before) (map f after) refusal
  recovery_refused B copies before after refusal (inl none) = inl none
  recovery_refused B copies before after refusal (inr (inl h)) = inr (inl (h.0, headers before after h.0 h.1, as_many h.0 before h.2, h.3))
  recovery_refused B copies before after refusal (inr (inr h)) = inr (inr (
    map f h.0,
    h.1,
    says B copies true before h.0 h.1 h.2,
    h.3,
    outcomes h.1.geometry h.0 after h.1.dies.items h.3 h.4,
    h.5,
  ))

  module _ {A : Type 0} (settings : Settings A) (terms : Terms) (before after : List J) where
    pub mounts_within : (founds : List Found) (mounted : Array) → MountsArray outer_view outer_made settings terms before after founds mounted
        → MountsArray view made settings terms (map f before) (map f after) founds mounted
    unfolding mounts says
    mounts_within founds mounted h = record {
      expected = h.expected;
      mounts = mounts _ settings.copies.number (leaves_aside terms) before after mounted.array mounted.epoch mounted.clean mounted.dies.items _ h.mounts;
      by_these = h.by_these;
      whole = h.whole;
    }

    by_terms : (refusal : MountRefused) → RefusesByTerms outer_view outer_made settings terms before after refusal
        → RefusesByTerms view made settings terms (map f before) (map f after) refusal
    by_terms refusal (inl why) = inl (refuses _ settings.copies.number (leaves_aside terms) before after refusal why)
    by_terms refusal (inr h) = inr (h.0, recovery_refused _ settings.copies.number before after refusal h.1)

    pub refuses_within : (refusal : MountRefused) → RefusesArray outer_view outer_made settings terms before after refusal
        → RefusesArray view made settings terms (map f before) (map f after) refusal
    refuses_within refusal (inl none) = inl none
    refuses_within refusal (inr (inl h)) = inr (inl (h.0, (headers before after h.0 h.1.0, as_many h.0 before h.1.1), h.2))
    refuses_within refusal (inr (inr h)) = inr (inr (
      h.0,
      map f h.1,
      (headers before h.1 h.0 h.2.0, as_many h.0 before h.2.1),
      h.3,
      by_terms refusal h.4,
    ))
