-- What is kept of each page's second place, as links are written.
use Rattle.std.proofs.Common.{◌≡◌, ℕ, ◌+◌, ◌*◌, ◌<◌, List, Option, Some, None, ap, inl, inr, length, refl, replicate, set, subst, sym, ◌∙◌}
use Rattle.std.specs.Prelude.{is_some}
use Rattle.std.proofs.lemmas.Bool.{cases_eq}
use Rattle.std.proofs.lemmas.List.{get_or-set_same, get_or-set_other, length-replicate}
use Rattle.std.proofs.lemmas.Option.{none-some}
use Rattle.fa_map.specs.Chains.{AreInside, AreSeconds, IsChained, IsInside, IsRenewed, IsSecond}
use Rattle.fa_map.specs.Chains.{follower, link_at, link_from, no_link, no_second, second_at, target}
use Rattle.fa_map.specs.Entries.{with_link}
use Rattle.fa_map.specs.declared.entries.Entry.{Entry}
use Rattle.fa_map.specs.declared.entries.Entry.TheVariants.{Current}
use Rattle.fa_map.specs.declared.entries.Link.{Link}
use Rattle.fa_map.specs.declared.entries.Second.{Second}
use Rattle.fa_map_calls.proofs.Indices.{index_fits}
use Rattle.fa_map_calls.proofs.Written.{repeated}

-- no page leads anywhere
pub new_seconds : (links heads : List Link) (seconds : List Second) (n pages : ℕ) → heads ≡ replicate pages no_link
    → seconds ≡ replicate pages no_second → AreSeconds links heads seconds n pages
new_seconds links heads seconds n pages a b = record {
  long = ap length b ∙ length-replicate pages no_second;
  behind = λ p fits.
      subst (IsSecond links n (link_at heads p)) (sym (ap (λ (l : List Second). second_at l p) b ∙ repeated pages p no_second))
      (record { place = sym (ap (follower links n) (none p)); more = refl });
}
  where
    none : (p : ℕ) → link_at heads p ≡ None
    none p = ap (λ (k : List Link). link_at k p) a ∙ ap target (repeated pages p no_link)

-- no slot leads anywhere
pub new_inside : (links : List Link) (dies n count : ℕ) → links ≡ replicate count no_link → AreInside dies n links
new_inside links dies n count e index d s at =
    absurd (none-some (d, s) (sym (ap (λ (l : List Link). link_at l index) e ∙ ap target (repeated count index no_link)) ∙ at))

-- one page's chain has other links, and what is kept of its second place was renewed
module _ (st : ℕ → ℕ → Entry) (links links' heads heads' : List Link) (seconds seconds' : List Second) (n dies pages page : ℕ)
    (chained : IsChained st (link_at heads) (link_from links n) n dies pages) where
  pub seconds_kept : ((p : ℕ) → (p ≡ page → ⊥) → link_at heads' p ≡ link_at heads p)
      → ((p d s : ℕ) → (p ≡ page → ⊥) → s < n → st d s ≡ Current p → link_from links' n d s ≡ link_from links n d s)
      → AreSeconds links heads seconds n pages → IsRenewed links' heads' seconds seconds' n page → AreSeconds links' heads' seconds' n pages
  seconds_kept same_heads same_links old renewed = record {
    long = renewed.long ∙ old.long;
    behind = λ p fits. elim (cases_eq p page) [
      | inl same ↦ subst (λ q. IsSecond links' n (link_at heads' q) (second_at seconds' q)) (sym same) renewed.here
      | inr apart ↦
          subst (λ first. IsSecond links' n first (second_at seconds' p)) (sym (same_heads p apart))
          (subst (IsSecond links' n (link_at heads p)) (sym (renewed.others p apart)) (kept p fits apart (old.behind p fits)))
    ];
  }
    where
      Holds : ℕ → Option (ℕ × ℕ) → Type 0
      Holds p place = (d s : ℕ) → place ≡ Some (d, s) → (s < n) × (st d s ≡ Current p)

      alike : (p : ℕ) (place : Option (ℕ × ℕ)) → (p ≡ page → ⊥) → Holds p place → follower links n place ≡ follower links' n place
      alike p None apart holds = refl
      alike p (Some (d, s)) apart holds = let is = holds d s refl in sym (same_links p d s apart is.0 is.1)

      first : (p : ℕ) → p < pages → Holds p (link_at heads p)
      first p fits d s e = let old = (chained.heads p fits).found d s e in (old.2, old.3)

      next : (p : ℕ) (place : Option (ℕ × ℕ)) → Holds p place → Holds p (follower links n place)
      next p None holds d s e = absurd (none-some (d, s) e)
      next p (Some (d0, s0)) holds d s e =
          let is = holds d0 s0 refl in
          let old = (chained.links d0 s0 p is.0 is.1).found d s e in
          (old.2, old.3)

      kept : (p : ℕ) → p < pages → (p ≡ page → ⊥) → IsSecond links n (link_at heads p) (second_at seconds p)
          → IsSecond links' n (link_at heads p) (second_at seconds p)
      kept p fits apart was = record {
        place = was.place ∙ alike p (link_at heads p) apart (first p fits);
        more = was.more ∙ ap is_some (alike p (target (second_at seconds p).place) apart
            (subst (Holds p) (sym was.place) (next p (link_at heads p) (first p fits))));
      }

-- where the links lead after one was written
pub inside_set : (dies n : ℕ) (links : List Link) (k : ℕ) (link : Link) → k < length links
    → AreInside dies n links → IsInside dies n (target link) → AreInside dies n (set links k link)
inside_set dies n links k link fits old new index d s e =
    elim (cases_eq index k) [
      | inl same ↦
          new d s (sym (ap target (get_or-set_same links k link no_link fits)) ∙ sym (ap (link_at (set links k link)) same) ∙ e)
      | inr apart ↦ old index d s (sym (ap target (get_or-set_other links k index link no_link apart)) ∙ e)
    ]

pub inside_with : (dies n : ℕ) (last : Option (ℕ × ℕ)) (link : Link) (links links' : List Link) → links' ≡ with_link last n link links
    → length links ≡ dies * n → IsInside dies n last → AreInside dies n links → IsInside dies n (target link) → AreInside dies n links'
inside_with dies n None link links links' e long fits old new = subst (AreInside dies n) (sym e) old
inside_with dies n (Some (d, s)) link links links' e long fits old new =
    let at = fits d s refl in
    subst (AreInside dies n) (sym e)
    (inside_set dies n links (d * n + s) link (subst (λ k. d * n + s < k) (sym long) (index_fits d s dies n at.0 at.1)) old new)
