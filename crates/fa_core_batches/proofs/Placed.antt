-- Tables of pages that differ at one page, and tables of lists that differ at one batch.
use Rattle.fa_core_batches.specs.Counted.{changed, changed_at}
use Rattle.fa_core_batches.specs.Pages.{Lists, Pages, list_at, page_at}
use Rattle.fa_core_batches.specs.declared.page.BatchList.{BatchList}
use Rattle.fa_core_batches.specs.declared.page.BatchPage.{BatchPage}
use Rattle.fa_core_batches.specs.declared.page.PageState.{PageState}
use Rattle.std.proofs.Common.{Bool, None, Option, Some, ap, cond, eq-eqb, eqb-true, false, inl, inr, refl, sym, true, ℕ, ◌∙◌, ◌≡◌}
use Rattle.std.proofs.lemmas.Bool.{and_parts, cases_eq, ne_eqb}
use Rattle.std.specs.Prelude.{if◌then◌else◌, option_map, ◌&&◌, ◌==◌}

pub eqb_swap : (a b : ℕ) → (a == b) ≡ (b == a)
eqb_swap a b =
    elim (cases_eq a b) [
      | inl same ↦ eq-eqb a b same ∙ sym (eq-eqb b a (sym same))
      | inr apart ↦ ne_eqb a b apart ∙ sym (ne_eqb b a (λ e. apart (sym e)))
    ]

-- a page is the one that is asked for
pub same_place : (k n b p : ℕ) → (k == b && n == p) ≡ (b == k && p == n)
same_place k n b p = λ i. eqb_swap k b i && eqb_swap n p i

-- a page was written, by a change of what was there
pub written : {A : Type 0} (old new : Pages A) (k n : ℕ) (f : BatchPage A → BatchPage A) (x : BatchPage A) → Some x ≡ page_at old k n
    → ((q : ℕ × ℕ) → page_at new q.0 q.1 ≡ cond (k == q.0 && n == q.1) (Some (f x)) (page_at old q.0 q.1))
    → (b p : ℕ) → page_at new b p ≡ (if b == k && p == n then option_map f (page_at old b p) else page_at old b p)
written old new k n f x is updated b p =
    updated (b, p) ∙ ap (λ t. cond t (Some (f x)) (page_at old b p)) (same_place k n b p) ∙ go (b == k && p == n) refl
  where
    go : (t : Bool) → (b == k && p == n) ≡ t → cond t (Some (f x)) (page_at old b p) ≡ (if t then option_map f (page_at old b p)
        else page_at old b p)
    go true both =
        let parts = and_parts (b == k) (p == n) both in
        ap (option_map f) (is ∙ (λ i. page_at old (sym (eqb-true b k parts.0) i) (sym (eqb-true p n parts.1) i)))
    go false both = refl

-- a list counts otherwise, as one page of its batch does
pub list_changed : {A : Type 0} (old new : Lists A) (k : ℕ) (was : Option PageState) (is : PageState) (x w : BatchList A)
    → Some x ≡ list_at old k → w ≡ changed was is x
    → ((q : ℕ) → list_at new q ≡ cond (k == q) (Some w) (list_at old q))
    → (b : ℕ) → list_at new b ≡ option_map (changed_at k was is b) (list_at old b)
list_changed old new k was is x w at written updated b =
    updated b ∙ (λ i. cond (eqb_swap k b i) (Some (written i)) (list_at old b)) ∙ go (b == k) refl
  where
    same : {X : Type 0} (o : Option X) → o ≡ option_map (λ x. x) o
    same None = refl
    same (Some x) = refl

    go : (t : Bool) → (b == k) ≡ t → cond t (Some (changed was is x)) (list_at old b)
        ≡ option_map (λ l. if t then changed was is l else l) (list_at old b)
    go true here = ap (option_map (changed was is)) (at ∙ ap (list_at old) (sym (eqb-true b k here)))
    go false here = same (list_at old b)
