-- What is found of images that were formatted.
use Rattle.std.proofs.Common.{◌≡◌, ℕ, suc, ◌+◌, ◌<◌, ◌≤◌, Bool, false, ◌⊎◌, inl, inr, List, [], ◌∷◌, length, map, refl, ap, sym, subst, ◌∙◌, add-one, arith}
use Rattle.std.proofs.lemmas.Bool.{true≢false}
use Rattle.std.specs.List.{AllByRecursion, range_with_len}
use Rattle.fa_types.specs.declared.geometry.Geometry.{Geometry}
use Rattle.fa_image.specs.Image.{ImageState, Gave}
use Rattle.fa_tag.proofs.Headers.{one_header}
use Rattle.fa_tag.specs.HeaderGrammar.{SpellsHeader, header_bytes}
use Rattle.fa_tag.specs.declared.header.Header.{Header}
use Rattle.fa_mount_headers.proofs.FirstHeaders.{first_fits}
use Rattle.fa_mount_headers.specs.FirstHeader.{first_header}
use Rattle.fa_mount_headers.specs.Formatted.{AreNew, AreUntouched}
use Rattle.fa_mount_headers.specs.Found.{IsFound, IsOf, AreOf}
use Rattle.fa_mount_headers.specs.NewArray.{new_found}
use Rattle.fa_mount_headers.specs.Rules.{is_unread_header}
use Rattle.fa_mount_headers.specs.declared.found.Found.{Found}
use Rattle.fa_mount_headers.specs.declared.found.HeaderFound.{HeaderFound}
use Rattle.fa_mount_headers.specs.declared.found.HeaderFound.TheVariants.{Unread, Bad, Good}

module _ (format : ℕ) (g : Geometry) (array : List ℕ) (known : (format ≡ 2) ⊎ (format ≡ 1)) (whole : length array ≡ 16) where
  abbrev header : ℕ → List ℕ
  header die = header_bytes format (first_header g array die)

  by_format : (h : Header) → (format ≡ 2) ⊎ (format ≡ 1) → (header_bytes format h ≡ header_bytes 2 h) ⊎ (header_bytes format h ≡ header_bytes 1 h)
  by_format h (inl newer) = inl (ap (λ (n : ℕ). header_bytes n h) newer)
  by_format h (inr older) = inr (ap (λ (n : ℕ). header_bytes n h) older)

  spelled : (die : ℕ) → die < g.dies → SpellsHeader (first_header g array die) (header die)
  spelled die below = (first_fits g array die whole below, by_format (first_header g array die) known)

  by_header : (die : ℕ) → die < g.dies → (geometry : Geometry) (found : HeaderFound) → geometry ≡ g
      → (found ≡ Unread) ⊎ IsFound (Gave (header die)) found → is_unread_header found ≡ false
      → record { geometry = geometry; header = found } ≡ new_found g array die
  by_header die below geometry Unread same is read = absurd (true≢false read)
  by_header die below geometry Bad same (inl is) read = absurd (true≢false (sym (ap is_unread_header is)))
  by_header die below geometry Bad same (inr is) read = absurd (is (first_header g array die) (spelled die below))
  by_header die below geometry (Good h) same (inl is) read = absurd (true≢false (sym (ap is_unread_header is)))
  by_header die below geometry (Good h) same (inr is) read =
      let first = first_header g array die in
      let one : h ≡ first = one_header h first (header die) is (spelled die below) in
      let of : Geometry → Header → Found = λ shape x. record { geometry = shape; header = Good x } in
      ap (λ (x : Header). of geometry x) one ∙ ap (λ (shape : Geometry). of shape first) same

  module _ {I : Type 0} (view : I → ImageState) (honest : I → Bool) where
    one_found : (die : ℕ) → die < g.dies → (image : ImageState) (found : Found) → image.geometry ≡ g → image.header ≡ header die → IsOf image found
        → is_unread_header found.header ≡ false → found ≡ new_found g array die
    one_found die below image found shape bytes is read =
        let at = subst (λ (l : List ℕ). (found.header ≡ Unread) ⊎ IsFound (Gave l) found.header) bytes is.1 in
        by_header die below found.geometry found.header (is.0 ∙ shape) at read

    pub all_found : (die : ℕ) (olds news : List I) (founds : List Found) → die + length olds ≤ g.dies
        → AllByRecursion (λ image. (view image).geometry ≡ g) olds → AreNew view honest header (AreUntouched view honest) die olds news (length olds)
        → AreOf (map view news) founds → length founds ≡ length news → AllByRecursion (λ found. is_unread_header found.header ≡ false) founds
        → founds ≡ map (new_found g array) (range_with_len die (length olds))
    all_found die [] news [] fits shapes all of many read = refl
    all_found die [] news (found ∷ founds) fits shapes all of many read = absurd (omega (arith, many, ap length all))
    all_found die (old ∷ olds) (new ∷ news) (found ∷ founds) fits shapes all of many read =
        let is = all.0.0 in
        let first = one_found die (omega (arith, fits)) (view new) found (ap (λ (s : ImageState). s.geometry) is ∙ shapes.0)
        (ap (λ (s : ImageState). s.header) is) of.0 read.0 in
        let rest = all_found (suc die) olds news founds (omega (arith, fits)) shapes.1 all.1 of.1 (omega (arith, many)) read.1 in
        ap (λ (x : Found). x ∷ founds) first
        ∙ ap (λ (l : List Found). new_found g array die ∷ l) rest
        ∙ ap (λ (k : ℕ). new_found g array die ∷ map (new_found g array) (range_with_len k (length olds))) (sym (add-one die))
    all_found die (old ∷ olds) (new ∷ news) [] fits shapes all of many read = absurd (omega (arith, many))
    all_found die (old ∷ olds) [] founds fits shapes all of many read = absurd all
