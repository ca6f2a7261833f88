-- The pages of a batch, and those that a walk reached, one by one.
use Rattle.std.proofs.Common.{◌≡◌, ℕ, ◌+◌, ◌<◌, ◌≤◌, true, false, cond, List, [], ◌∷◌, ◌++◌, length, get_or, take, ◌==◌, sym, ap, ◌∙◌, arith, length-append}
use Rattle.std.specs.List.{count_by}
use Rattle.std.proofs.lemmas.List.{get_or_default, map_push, take_all, take_more}
use Rattle.std.proofs.lemmas.List.Elements.{All-push}
use Rattle.std.proofs.lemmas.List.Sums.{sum_by_push, sum_by_more, sum_by-take-le, count_by_more_yes, count_by_more_no}
use Rattle.fa_types.specs.declared.numbers.Die.{Die}
use Rattle.fa_types.specs.declared.numbers.Page.{Page}
use Rattle.fa_batch_terms.specs.Batch.{Entry, times_named}
use Rattle.fa_plan_search.specs.declared.walk.Walk.{Walk}
use Rattle.fa_plan_search.specs.Reading.{no_die, no_entry}
use Rattle.fa_plan_search.specs.Search.{has_reached}
use Rattle.fa_plan_search.specs.Pages.{AreReached, AreReachedAmong, IsReachedPage, pages_of}

-- one page more of a batch
pub pages_more : (batch : List Entry) (i : ℕ) (pages : List Page) (page : Page) → i < length batch → pages ≡ pages_of (take i batch) → (get_or batch i no_entry).page ≡ page
    → pages ++ page ∷ [] ≡ pages_of (take (i + 1) batch)
pages_more batch i pages page below so_far is =
    ap (λ v. v ++ page ∷ []) so_far ∙ ap (λ v. pages_of (take i batch) ++ v ∷ []) (sym is) ∙ sym (map_push (λ (e : Entry). e.page) (take i batch) (get_or batch i no_entry))
    ∙ ap pages_of (sym (take_more batch i no_entry below))

-- The pages so far, with one more or without.
module _ (batch : List Entry) (given : List Die) (w : Walk) (i : ℕ) (pages : List Page) (page : Page) (is : (get_or batch i no_entry).page ≡ page) (under : i < length batch) where
  once_with : ((p : ℕ) → count_by (λ v. v.0 == p) pages ≤ times_named (take i batch) p) → (p : ℕ) → count_by (λ v. v.0 == p) (pages ++ page ∷ []) ≤ times_named (take (i + 1) batch) p
  once_with once p =
      let pushed = sum_by_push (λ (v : Page). cond (v.0 == p) 1 0) pages page in
      let more = sum_by_more (λ (e : Entry). cond (e.page.0 == p) 1 0) batch i no_entry under in
      let same = ap (λ (v : Page). cond {A = ℕ} (v.0 == p) 1 0) is in
      let was = once p in
      omega (arith, pushed, more, same, was)

  once_without : ((p : ℕ) → count_by (λ v. v.0 == p) pages ≤ times_named (take i batch) p) → (p : ℕ) → count_by (λ v. v.0 == p) pages ≤ times_named (take (i + 1) batch) p
  once_without once p =
      let more = sum_by_more (λ (e : Entry). cond (e.page.0 == p) 1 0) batch i no_entry under in
      let was = once p in
      omega (arith, more, was)

  pub reached_with : (d : Die) → i < length given → has_reached w (get_or given i d).0 ≡ true → AreReachedAmong batch given w i pages → AreReachedAmong batch given w (i + 1) (pages ++ page ∷ [])
  reached_with d below met so_far = record {
    many = let more = count_by_more_yes (λ (v : Die). has_reached w v.0) given i d below met in let was = so_far.many in let long = length-append pages (page ∷ []) in omega (arith, more, was, long);
    once = once_with so_far.once;
    each = All-push (IsReachedPage batch given w) pages page so_far.each (record {
      index = i;
      within = under;
      reached = record { within = omega arith; taken = λ b. ap (λ (v : Die). has_reached w v.0) (get_or_default given i no_die d below) ∙ met };
      is = is;
    });
  }

  pub reached_without : (d : Die) → i < length given → has_reached w (get_or given i d).0 ≡ false → AreReachedAmong batch given w i pages → AreReachedAmong batch given w (i + 1) pages
  reached_without d below unmet so_far = record {
    many = let more = count_by_more_no (λ (v : Die). has_reached w v.0) given i d below unmet in let was = so_far.many in omega (arith, more, was);
    once = once_without so_far.once;
    each = so_far.each;
  }

  pub reached_all : i ≡ length given → AreReachedAmong batch given w i pages → AreReached batch given w (pages ++ page ∷ [])
  reached_all end so_far = record {
    many = let was = so_far.many in let long = length-append pages (page ∷ []) in let whole = ap (λ v. count_by (λ (d : Die). has_reached w d.0) v) (take_all i given (omega (arith, end))) in omega (arith, was, long, whole);
    once = λ p. let some = once_with so_far.once p in let all = sum_by-take-le (λ (e : Entry). cond (e.page.0 == p) 1 0) batch (i + 1) in omega (arith, some, all);
    each = All-push (IsReachedPage batch given w) pages page so_far.each (record {
      index = i;
      within = under;
      reached = record { within = omega (arith, end); taken = λ b. absurd (omega (arith, b, end)) };
      is = is;
    });
  }
