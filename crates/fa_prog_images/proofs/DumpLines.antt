-- The lines of the pages that are given are the text of the map.
use Rattle.std.proofs.Common.{◌≡◌, ℕ, zero, suc, ◌+◌, List, [], ◌∷◌, ◌++◌, Option, Some, None, option_map, refl, sym, ap, ◌∙◌, append_assoc, append-nil, arith}
use Rattle.std.specs.FinMap.{get}
use Rattle.std.specs.List.{cons_option, filter_map, flat_map, range_with_len}
use Rattle.fa_types.specs.declared.numbers.Die.{Die}
use Rattle.fa_types.specs.declared.numbers.Slot.{Slot}
use Rattle.fa_machine.specs.declared.places.Version.{Version}
use Rattle.fa_machine.specs.Copies.{copy_on}
use Rattle.fa_machine.specs.State.{MapState}
use Rattle.fa_mount_scan.specs.Pages.{place_at, place_on, places_of, written_at, written_pages}
use Rattle.fa_prog_images.specs.Lines.{copies_text, dump_text, head_text, line_text, page_text, place_text, places_text, texts_below}

-- the text of what may be there
abbrev pub text_if : {A : Type 0} → (A → List ℕ) → Option A → List ℕ
text_if line None = []
text_if line (Some x) = line x

module _ {A : Type 0} (f : ℕ → Option A) (line : A → List ℕ) where
  one_more : (o : Option A) (xs : List A) → flat_map line (cons_option o xs) ≡ text_if line o ++ flat_map line xs
  one_more None xs = refl
  one_more (Some x) xs = refl

  module _ (text : ℕ → List ℕ) (same : (k : ℕ) → text k ≡ text_if line (f k)) where
    -- the texts of the numbers below one, and of those that are given from it on
    texts_joined : (a n : ℕ) → texts_below text a ++ flat_map line (filter_map f (range_with_len a n)) ≡ texts_below text (a + n)
    texts_joined a zero = append-nil (texts_below text a) ∙ (let all : a ≡ a + 0 = omega arith in ap (texts_below text) all)
    texts_joined a (suc n) =
        let rest = flat_map line (filter_map f (range_with_len (a + 1) n)) in
        let next : suc a ≡ a + 1 = omega arith in
        let all : a + 1 + n ≡ a + suc n = omega arith in
        ap (λ l. texts_below text a ++ l) (one_more (f a) (filter_map f (range_with_len (a + 1) n)) ∙ ap (λ l. l ++ rest) (sym (same a)))
        ∙ sym (append_assoc (texts_below text a) (text a) rest)
        ∙ ap (λ k. texts_below text k ++ rest) next
        ∙ texts_joined (a + 1) n
        ∙ ap (texts_below text) all

    pub texts_of_given : (n : ℕ) → flat_map line (filter_map f (range_with_len 0 n)) ≡ texts_below text n
    texts_of_given n = texts_joined 0 n ∙ (let all : 0 + n ≡ n = omega arith in ap (texts_below text) all)

module _ (m : MapState) (page : ℕ) where
  abbrev copy_text : Die × Slot → List ℕ
  copy_text place = place_text place.0.0 (Some place.1.0)

  one_place : (die : ℕ) (o : Option ℕ) → place_text die o ≡ text_if copy_text (option_map (place_at die) o)
  one_place die None = refl
  one_place die (Some slot) = refl

  pub places_same : copies_text (places_of m page) ≡ places_text m page
  places_same =
      texts_of_given (place_on m page) copy_text (λ die. place_text die (copy_on m page die)) (λ die. one_place die (copy_on m page die)) m.geometry.dies

  one_page : (o : Option Version) → get m.versions page ≡ o → page_text m page ≡ text_if line_text (written_at m page)
  one_page None is = rw is refl
  one_page (Some version) is = rw is (ap (λ l. head_text page version ++ l ++ 10 ∷ []) (sym places_same))

  pub page_same : page_text m page ≡ text_if line_text (written_at m page)
  page_same = one_page (get m.versions page) refl

pub lines_of_written : (m : MapState) → flat_map line_text (written_pages m) ≡ dump_text m
lines_of_written m = texts_of_given (written_at m) line_text (page_text m) (λ page. page_same m page) m.geometry.pages
