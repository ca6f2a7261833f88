-- The answers of a batch as they are handed out, page by page.
use Rattle.fa_core_batches.proofs.Kept.{one_of_end}
use Rattle.fa_core_batches.proofs.Placed.{eqb_swap}
use Rattle.fa_core_batches.specs.Pages.{Pages, answer_at, answer_in, answers_in, page_at}
use Rattle.fa_core_batches.specs.declared.page.BatchPage.{BatchPage}
use Rattle.fa_machine.specs.Maps.{is_one_of}
use Rattle.fa_machine.specs.Step.{is_distinct}
use Rattle.fa_types.specs.declared.numbers.Page.{Page}
use Rattle.std.proofs.Common.{Bool, List, None, Option, [], ap, arith, eq-eqb, false, get_or, length, map, not, refl, suc, sym, take}
use Rattle.std.proofs.Common.{true, zero, ℕ, ◌++◌, ◌+◌, ◌<◌, ◌≤◌, ◌∙◌, ◌∷◌, ◌≡◌}
use Rattle.std.proofs.lemmas.Bool.{and_parts, false≢true, ne_eqb}
use Rattle.std.proofs.lemmas.List.Elements.{filter_map-append}
use Rattle.std.proofs.lemmas.List.{map-append, take_more}
use Rattle.std.specs.List.{cons_option}
use Rattle.std.specs.Prelude.{if◌then◌else◌, option_and_then, option_map, vec_capacity, ◌&&◌, ◌==◌, ◌||◌}
use Rattle.std.specs.declared.vec.Vec.{Vec}

abbrev pub numbers : List Page → List ℕ
numbers list = map (λ page. page.0) list

-- the bytes that were handed out, by page
abbrev pub bytes_in : {A : Type 0} → Vec (Page × Vec ℕ A) A → List (ℕ × List ℕ)
bytes_in answers = map (λ e. (e.0.0, e.1.items)) answers.items

-- the next of distinct numbers is none of those before it
not_before : (list : List Page) (i : ℕ) (z : Page) → i < length list → is_distinct (numbers list) ≡ true
    → is_one_of (numbers (take i list)) (get_or list i z).0 ≡ false
not_before [] i z within d = absurd (omega (arith, within))
not_before (x ∷ xs) zero z within d = refl
not_before (x ∷ xs) (suc i) z within d =
    let parts = and_parts (not (is_one_of (numbers xs) x.0)) (is_distinct (numbers xs)) d in
    let rest = not_before xs i z (omega (arith, within)) parts.1 in
    ap (λ b. b || is_one_of (numbers (take i xs)) (get_or xs i z).0)
    (ne_eqb x.0 (get_or xs i z).0 (λ same. false≢true (sym (not_true _ parts.0) ∙ ap (is_one_of (numbers xs)) same
    ∙ one_at xs i z (omega (arith, within)))))
    ∙ rest
  where
    not_true : (b : Bool) → not b ≡ true → b ≡ false
    not_true true e = absurd (false≢true e)
    not_true false e = refl

    one_at : (xs : List Page) (i : ℕ) (z : Page) → i < length xs → is_one_of (numbers xs) (get_or xs i z).0 ≡ true
    one_at [] i z within = absurd (omega (arith, within))
    one_at (x ∷ xs) zero z within = ap (λ b. b || is_one_of (numbers xs) x.0) (eq-eqb x.0 x.0 refl)
    one_at (x ∷ xs) (suc i) z within =
        ap (λ b. (x.0 == (get_or xs i z).0) || b) (one_at xs i z (omega (arith, within))) ∙ or_true (x.0 == (get_or xs i z).0)
      where
        or_true : (b : Bool) → (b || true) ≡ true
        or_true true = refl
        or_true false = refl

module _ {A : Type 0} where
  -- the answers of the first pages were handed out
  pub record Handed (batch : ℕ) (list : List Page) (i : ℕ) (old new : Pages A) (before after : Vec (Page × Vec ℕ A) A) : Type 0 where
    pub answers : bytes_in after ≡ answers_in old batch (numbers (take i list))
    pub room : vec_capacity after ≡ vec_capacity before
    pub few : length after.items ≤ i
    pub left : (b p : ℕ) → page_at new b p ≡ (if b == batch && is_one_of (numbers (take i list)) p then None else page_at old b p)

  module _ (batch : ℕ) (list : List Page) (i : ℕ) (z : Page) (within : i < length list) (old : Pages A) where
    numbers_more : numbers (take (i + 1) list) ≡ numbers (take i list) ++ (get_or list i z).0 ∷ []
    numbers_more = ap numbers (take_more list i z within) ∙ map-append (λ (page : Page). page.0) (take i list) (get_or list i z ∷ [])

    answers_more : answers_in old batch (numbers (take (i + 1) list))
        ≡ answers_in old batch (numbers (take i list)) ++ answers_in old batch ((get_or list i z).0 ∷ [])
    answers_more =
        ap (answers_in old batch) numbers_more
        ∙ filter_map-append {Y = ℕ
        × List ℕ} (λ page. option_map (λ bytes. (page, bytes)) (answer_at old batch page)) (numbers (take i list))
        ((get_or list i z).0 ∷ [])

  gone : (t s u : Bool) (o : Option (BatchPage A)) → (if t && u then None else (if t && s then None else o))
      ≡ (if t && (s || u) then None else o)
  gone true true true o = refl
  gone true true false o = refl
  gone true false true o = refl
  gone true false false o = refl
  gone false s u o = refl

  pub handed_more : (batch : ℕ) (list : List Page) (i : ℕ) (z : Page) → i < length list → is_distinct (numbers list) ≡ true
      → (old mid new : Pages A) (before at after : Vec (Page × Vec ℕ A) A)
      → Handed batch list i old mid before at
      → bytes_in after ≡ bytes_in at ++ answers_in mid batch ((get_or list i z).0 ∷ [])
      → vec_capacity after ≡ vec_capacity at → length after.items ≤ length at.items + 1
      → ((b p : ℕ) → page_at new b p ≡ (if b == batch && p == (get_or list i z).0 then None else page_at mid b p))
      → Handed batch list (i + 1) old new before after
  handed_more batch list i z within distinct old mid new before at after h bytes room few left = record {
    answers =
        bytes ∙ (λ j. h.answers j ++ next j) ∙ sym (answers_more batch list i z within old);
    room = room ∙ h.room;
    few = let so_far = h.few in omega (arith, few, so_far);
    left = λ b p. left b p
        ∙ (λ j. if b == batch && eqb_swap p (get_or list i z).0 j then None else h.left b p j)
        ∙ gone (b == batch) (is_one_of (numbers (take i list)) p) ((get_or list i z).0 == p) (page_at old b p)
        ∙ sym (ap (λ t. if b == batch && t then None else page_at old b p)
        (ap (λ ns. is_one_of ns p) (numbers_more batch list i z within old) ∙ one_of_end (numbers (take i list)) (get_or list i z).0 p));
  }
    where
      still : page_at mid batch (get_or list i z).0 ≡ page_at old batch (get_or list i z).0
      still =
          h.left batch (get_or list i z).0
          ∙ ap (λ t. if t && is_one_of (numbers (take i list)) (get_or list i z).0 then None else page_at old batch (get_or list i z).0)
          (eq-eqb batch batch refl)
          ∙ ap (λ t. if t then None else page_at old batch (get_or list i z).0) (not_before list i z within distinct)

      next : answers_in mid batch ((get_or list i z).0 ∷ []) ≡ answers_in old batch ((get_or list i z).0 ∷ [])
      next = λ j. cons_option (option_map (λ bytes. ((get_or list i z).0, bytes))
          (option_and_then (λ (p : BatchPage A). answer_in p.state p.buffer.items) (still j))) []
