-- The tables of batches as pages stand otherwise, and the lists count them.
use Rattle.fa_core_batches.proofs.Counting.{count_at, counted_one}
use Rattle.fa_core_batches.proofs.Opened.{batches_in, get_batches, some_mapped}
use Rattle.fa_core_batches.specs.Counted.{changed, changed_at, count_in, moved, one, stands}
use Rattle.fa_core_batches.specs.Counted.{state_at}
use Rattle.fa_core_batches.specs.Pages.{Lists, Pages, batch_in, list_at, numbers_of, page_at}
use Rattle.fa_core_batches.specs.Whole.{IsList, IsWhole}
use Rattle.fa_core_batches.specs.declared.page.BatchList.{BatchList}
use Rattle.fa_core_batches.specs.declared.page.BatchPage.{BatchPage}
use Rattle.fa_core_batches.specs.declared.page.PageState.{PageState}
use Rattle.fa_machine.proofs.NumberTables.{found_is, same_map_of}
use Rattle.fa_machine.proofs.Maps.{found_changed, nat_same}
use Rattle.fa_machine.specs.Maps.{is_one_of}
use Rattle.fa_machine.specs.Step.{is_distinct}
use Rattle.fa_types.specs.declared.numbers.Page.{Page}
use Rattle.std.proofs.Common.{Bool, List, None, Option, Some, [], ap, arith, cond, eqb-true, false, length, map, refl, subst}
use Rattle.std.proofs.Common.{sym, true, ℕ, ◌∙◌, ◌∷◌, ◌≡◌, ◌≤◌}
use Rattle.std.proofs.lemmas.Bool.{and_parts, false≢true}
use Rattle.std.proofs.lemmas.List.Sums.{count_by-le-length}
use Rattle.std.proofs.lemmas.List.{length-map}
use Rattle.std.proofs.lemmas.Option.{none-some, same_Some}
use Rattle.std.specs.Cmp.{nat_cmp_total, unsigned_tied}
use Rattle.std.specs.FinMap.{find}
use Rattle.std.specs.Map.Calls.{RetainsPairs}
use Rattle.std.specs.Map.{lookup}
use Rattle.std.specs.Ordering.{nat_cmp}
use Rattle.std.specs.Option.{option_map_or}
use Rattle.std.specs.Prelude.{if◌then◌else◌, is_some, option_map, vec_capacity, ◌==◌, ◌&&◌}

-- a count, as one of the pages stands otherwise
module _ (test : PageState → Bool) (old new : ℕ → Option PageState) (n : ℕ) (s : PageState) (ns : List ℕ) (distinct : is_distinct ns ≡ true)
    (there : is_one_of ns n ≡ true) (is : new n ≡ Some s) (same : (q : ℕ) → (q ≡ n → ⊥) → new q ≡ old q) where
  pub counted_low : one (stands test (old n)) ≤ count_in test old ns
  counted_low = counted_one (λ q. stands test (old q)) n ns there

  pub counted_step : count_in test new ns ≡ moved (count_in test old ns) (stands test (old n)) (test s)
  counted_step =
      let all = count_at (λ q. stands test (old q)) (λ q. stands test (new q)) n (λ q apart. ap (stands test) (same q apart)) ns distinct there in
      let last : one (stands test (new n)) ≡ one (test s) = ap (λ o. one (stands test o)) is in
      let low = counted_low in
      omega (arith, all, last, low)

module _ {A : Type 0} where
  abbrev how : Option (BatchPage A) → Option PageState
  how o = option_map (λ (x : BatchPage A). x.state) o

  pub few_counted : (test : PageState → Bool) (state : ℕ → Option PageState) (list : BatchList A)
      → count_in test state (numbers_of list) ≤ length list.pages.items
  few_counted test state list =
      let few = count_by-le-length (λ page. stands test (state page)) (numbers_of list) in
      let long = length-map list.pages.items (λ (page : Page). page.0) in
      omega (arith, few, long)

  -- a list of which one page stands otherwise has its pages, its answers and its room still
  pub same_pages_at : (k : ℕ) (was : Option PageState) (s : PageState) (b : ℕ) (l : BatchList A) → (changed_at k was s b l).pages ≡ l.pages
  same_pages_at k was s b l = go (b == k)
    where
      go : (t : Bool) → (if t then changed was s l else l).pages ≡ l.pages
      go true = refl
      go false = refl

  pub same_answers_at : (k : ℕ) (was : Option PageState) (s : PageState) (b : ℕ) (l : BatchList A) → (changed_at k was s b l).answers ≡ l.answers
  same_answers_at k was s b l = go (b == k)
    where
      go : (t : Bool) → (if t then changed was s l else l).answers ≡ l.answers
      go true = refl
      go false = refl

  pub same_room_at : (k : ℕ) (was : Option PageState) (s : PageState) (b : ℕ) (l : BatchList A) → (changed_at k was s b l).room ≡ l.room
  same_room_at k was s b l = go (b == k)
    where
      go : (t : Bool) → (if t then changed was s l else l).room ≡ l.room
      go true = refl
      go false = refl

  -- how the pages stand as one of them changes
  pub states_from : (pages pages' : Pages A) (k n : ℕ) (s : PageState) (f : BatchPage A → BatchPage A) → ((x : BatchPage A) → (f x).state ≡ s)
      → ((b p : ℕ) → page_at pages' b p ≡ (if b == k && p == n then option_map f (page_at pages b p) else page_at pages b p))
      → is_some (state_at pages k n) ≡ true
      → (b p : ℕ) → state_at pages' b p ≡ (if b == k && p == n then Some s else state_at pages b p)
  states_from pages pages' k n s f same put there b p = ap how (put b p) ∙ go (b == k && p == n) refl
    where
      of_some : (o : Option (BatchPage A)) → is_some (how o) ≡ true → how (option_map f o) ≡ Some s
      of_some None is = absurd (false≢true is)
      of_some (Some x) is = ap Some (same x)

      go : (t : Bool) → (b == k && p == n) ≡ t → how (if t then option_map f (page_at pages b p) else page_at pages b p)
          ≡ (if t then Some s else state_at pages b p)
      go true both =
          let parts = and_parts (b == k) (p == n) both in
          of_some (page_at pages b p)
          (ap is_some (λ i. state_at pages (eqb-true b k parts.0 i) (eqb-true p n parts.1 i)) ∙ there)
      go false both = refl

  module _ (page_bytes next : ℕ) (lists : Lists A) (pages : Pages A) (w : IsWhole page_bytes next lists pages) where
    -- one page stands otherwise
    pub whole_at : (pages' : Pages A) (k n : ℕ) (f : BatchPage A → BatchPage A)
        → ((x : BatchPage A) → length x.buffer.items ≡ page_bytes → length (f x).buffer.items ≡ page_bytes)
        → ((b p : ℕ) → page_at pages' b p ≡ (if b == k && p == n then option_map f (page_at pages b p) else page_at pages b p))
        → IsWhole page_bytes next lists pages'
    whole_at pages' k n f long put = record {
      below = w.below;
      listed = w.listed;
      agree = λ b p. ap is_some (put b p) ∙ still (b == k && p == n) (page_at pages b p) ∙ w.agree b p;
      sized = λ b p x at. sized_in (b == k && p == n) (page_at pages b p) (w.sized b p) x (sym (put b p) ∙ at);
    }
      where
        still : (t : Bool) (o : Option (BatchPage A)) → is_some (if t then option_map f o else o) ≡ is_some o
        still true o = some_mapped f o
        still false o = refl

        sized_in : (t : Bool) (o : Option (BatchPage A)) → ((x : BatchPage A) → o ≡ Some x → length x.buffer.items ≡ page_bytes)
            → (x : BatchPage A) → (if t then option_map f o else o) ≡ Some x → length x.buffer.items ≡ page_bytes
        sized_in true None each x at = absurd (none-some x at)
        sized_in true (Some y) each x at =
            ap {B = ℕ} (λ (x : BatchPage A). length x.buffer.items) (sym (same_Some (f y) x at)) ∙ long y (each y refl)
        sized_in false o each x at = each x at

    -- lists that count otherwise
    module _ (lists' : Lists A) (f : ℕ → BatchList A → BatchList A) (same_pages : (b : ℕ) (l : BatchList A) → (f b l).pages ≡ l.pages)
        (same_answers : (b : ℕ) (l : BatchList A) → (f b l).answers ≡ l.answers)
        (same_room : (b : ℕ) (l : BatchList A) → (f b l).room ≡ l.room)
        (put : (b : ℕ) → list_at lists' b ≡ option_map (f b) (list_at lists b)) where
      same_numbers : (b : ℕ) (l : BatchList A) → numbers_of (f b l) ≡ numbers_of l
      same_numbers b l = λ i. map (λ (page : Page). page.0) (same_pages b l i).items

      listed_still : (b : ℕ) (l : BatchList A) → IsList l → IsList (f b l)
      listed_still b l old = record {
        distinct = ap is_distinct (same_numbers b l) ∙ old.distinct;
        fits =
            let fits = old.fits in
            let long : length (f b l).pages.items ≡ length l.pages.items = ap {B = ℕ} (λ v. length v.items) (same_pages b l) in
            let same = same_room b l in
            omega (arith, fits, long, same);
        wide =
            let wide = old.wide in
            let pages : vec_capacity (f b l).pages ≡ vec_capacity l.pages = ap {B = ℕ} (λ v. vec_capacity v) (same_pages b l) in
            let same = same_room b l in
            omega (arith, wide, pages, same);
        room =
            let room = old.room in
            let answers : vec_capacity (f b l).answers ≡ vec_capacity l.answers = ap {B = ℕ} (λ v. vec_capacity v) (same_answers b l) in
            let same = same_room b l in
            omega (arith, room, answers, same);
        none = ap (λ v. v.items) (same_answers b l) ∙ old.none;
      }

      pub whole_recounted : IsWhole page_bytes next lists' pages
      whole_recounted = record {
        below = λ b is. w.below b (sym (ap is_some (put b) ∙ some_mapped (f b) (list_at lists b)) ∙ is);
        listed = λ b l at. listed_in b (list_at lists b) (w.listed b) l (sym (put b) ∙ at);
        agree = λ b p. w.agree b p ∙ sym (ap (in_list p) (put b) ∙ still b p (list_at lists b));
        sized = w.sized;
      }
        where
          in_list : ℕ → Option (BatchList A) → Bool
          in_list p o = option_map_or (λ (list : BatchList A). is_one_of (numbers_of list) p) o false

          still : (b p : ℕ) (o : Option (BatchList A)) → in_list p (option_map (f b) o) ≡ in_list p o
          still b p None = refl
          still b p (Some l) = ap (λ ns. is_one_of ns p) (same_numbers b l)

          listed_in : (b : ℕ) (o : Option (BatchList A)) → ((l : BatchList A) → o ≡ Some l → IsList l)
              → (l : BatchList A) → option_map (f b) o ≡ Some l → IsList l
          listed_in b None each l at = absurd (none-some l at)
          listed_in b (Some x) each l at = subst IsList (same_Some (f b x) l at) (listed_still b x (each x refl))

      pub batches_recounted : batches_in lists' pages ≡ batches_in lists pages
      batches_recounted = same_map_of (batch_in pages) _ _ (λ q. get_batches lists' pages q ∙ ap (option_map (batch_in pages q)) (put q)
          ∙ same q (list_at lists q) ∙ sym (get_batches lists pages q))
        where
          same : (q : ℕ) (o : Option (BatchList A)) → option_map (batch_in pages q) (option_map (f q) o) ≡ option_map (batch_in pages q) o
          same q None = refl
          same q (Some l) = λ i. Some (record {
            pages = same_numbers q l i;
            answers = (batch_in pages q (record l { pages = same_pages q l i })).answers;
          })

-- a table by numbers, of which each value is written anew by its number
module _ {F X : Type 0} (T : F → ℕ → X → Bool → X → F → Type 0) (g : ℕ → X → X) (f : F)
    (writes : (k : ℕ) (v : X) (b : Bool) (w : X) (f' : F) → T f k v b w f' → (b ≡ true) × (w ≡ g k v) × (f' ≡ f)) where
  all_written : (es kept : List (ℕ × X)) → RetainsPairs T f es kept → kept ≡ map (λ e. (e.0, g e.0 e.1)) es
  all_written [] kept r = r
  all_written (e ∷ es) kept r =
      let a = writes e.0 e.1 r.0 r.1 r.2 r.4 in
      let rest = all_written es r.3 (subst (λ u. RetainsPairs T u es r.3) a.2 r.5) in
      r.6 ∙ ap (λ b. cond b ((e.0, r.1) ∷ r.3) r.3) a.0 ∙ (λ i. (e.0, a.1 i) ∷ rest i)

  pub each_written : (es kept : List (ℕ × X)) → RetainsPairs T f es kept → (q : ℕ)
      → lookup (λ k. q == k) kept ≡ option_map (g q) (lookup (λ k. q == k) es)
  each_written es kept r q =
      ap (lookup (λ k. q == k)) (all_written es kept r) ∙ sym (found_is q (map (λ e. (e.0, g e.0 e.1)) es))
      ∙ found_changed nat_cmp_total nat_same g q es ∙ ap (option_map (g q)) (found_is q es)
