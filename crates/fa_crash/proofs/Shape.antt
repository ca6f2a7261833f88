-- The parts of an image call, and what it makes of the numbers that were kept.
use Rattle.fa_crash.specs.Unsynced.{Unsynced, behind_call, call_of, number_of, unsynced_behind}
use Rattle.fa_crash.specs.Whole.{IsWhole, IsWholeCall}
use Rattle.fa_laws.proofs.Admitting.{one_value_other, one_value_same}
use Rattle.fa_machine.specs.Collecting.{is_in_block}
use Rattle.fa_machine.specs.Run.{CallsNext, Happens, ImageCall}
use Rattle.fa_machine.specs.World.{Accepted, Calls, DieImage, ErasesBlock, Gave, GaveCell, JobCall, ProgramsSlot, ReadsSlot, Refused, Syncs, Work, World, WritesHeader}
use Rattle.fa_machine.specs.World.{next_call, with_value}
use Rattle.std.proofs.Common.{List, None, Option, Some, [], ap, inl, inr, refl, subst, sym, ℕ, ◌∙◌, ◌∷◌, ◌≡◌, ◌≤◌, ◌⊎◌}
use Rattle.std.proofs.lemmas.Bool.{cases_eq}
use Rattle.std.specs.Option.{option_map_or}
use Rattle.std.specs.Prelude.{option_and_then, ◌++◌}

module _ (w : World) (u : Unsynced) (die : ℕ) (gave : Gave) where
  abbrev behind : Unsynced
  behind = unsynced_behind w (ImageCall die gave) u

  -- a call of the job that a die is at
  pub record Shape (after : World) : Type 0 where
    pub work : Work
    pub is : w.works die ≡ Some work
    pub call : JobCall
    pub next : next_call die work.job work.gave ≡ Some call
    pub image : DieImage
    pub calls : Calls (is_in_block w.core.page_map) call gave (w.images die) image
    pub images_then : after.images ≡ with_value die image w.images
    pub core_same : after.core ≡ w.core
    pub last_same : after.payloads ≡ w.payloads
    pub works_then : after.works ≡ with_value die (Some (record work { gave = work.gave ++ gave ∷ [] })) w.works
    pub behind_is : unsynced_behind w (ImageCall die gave) u ≡ behind_call w die call gave u

  pub shape_of : (after : World) → Happens w (ImageCall die gave) after → Shape after
  shape_of after happens = at (w.works die) refl happens
    where
      call_at : (work : Work) → w.works die ≡ Some work → (o : Option JobCall) → next_call die work.job work.gave ≡ o
          → CallsNext w die (Some work) o gave after
          → Shape after
      call_at work is None next c = absurd c
      call_at work is (Some call) next c = record {
        work = work;
        is = is;
        call = call;
        next = next;
        image = c.0;
        calls = c.1;
        images_then = ap (λ (v : World). v.images) c.2;
        core_same = ap (λ (v : World). v.core) c.2;
        last_same = ap (λ (v : World). v.payloads) c.2;
        works_then = ap (λ (v : World). v.works) c.2;
        behind_is = ap (λ (o : Option Work). option_map_or (λ call. behind_call w die call gave u) (option_and_then (λ k. next_call die k.job k.gave) o) u) is
            ∙ ap (λ (o : Option JobCall). option_map_or (λ call. behind_call w die call gave u) o u) next;
      }

      at : (o : Option Work) → w.works die ≡ o → CallsNext w die o (option_and_then (λ k. next_call die k.job k.gave) o) gave after
          → Shape after
      at None is c = absurd c
      at (Some work) is c = call_at work is (next_call die work.job work.gave) refl c

  behind_cases : (call : JobCall) (g : Gave)
      → ((behind_call w die call g u).kept ≡ u.kept) ⊎ ((behind_call w die call g u).kept ≡ with_value die (number_of w.core) u.kept)
  behind_cases (ReadsSlot slot) g = inl refl
  behind_cases (ProgramsSlot slot cell) g = inl refl
  behind_cases (ErasesBlock block) g = inl refl
  behind_cases (WritesHeader epoch live) Accepted = inr refl
  behind_cases (WritesHeader epoch live) Refused = inl refl
  behind_cases (WritesHeader epoch live) (GaveCell cell) = inl refl
  behind_cases Syncs Accepted = inr refl
  behind_cases Syncs Refused = inl refl
  behind_cases Syncs (GaveCell cell) = inl refl

  -- a number that was kept is kept, and no page's number that is newer is lost
  pub kept_grows : (after : World) → Shape after → (page n d : ℕ) → n ≤ number_of w.core page → n ≤ u.kept d page → n ≤ behind.kept d page
  kept_grows after s page n d low kept =
      subst (λ (v : Unsynced). n ≤ v.kept d page) (sym s.behind_is)
      (elim (behind_cases s.call gave) [
        | inl same ↦ subst (λ (f : ℕ → ℕ → ℕ). n ≤ f d page) (sym same) kept
        | inr synced ↦ subst (λ (f : ℕ → ℕ → ℕ). n ≤ f d page) (sym synced) (at_die (cases_eq d die))
      ])
    where
      at_die : (d ≡ die) ⊎ (d ≡ die → ⊥) → n ≤ with_value die (number_of w.core) u.kept d page
      at_die (inl same) = subst (λ (f : ℕ → ℕ). n ≤ f page) (sym (one_value_same die (number_of w.core) u.kept d same)) low
      at_die (inr apart) = subst (λ (f : ℕ → ℕ). n ≤ f page) (sym (one_value_other die (number_of w.core) u.kept d apart)) kept

-- a refused write of it is whole
pub shape_whole : (w : World) (u : Unsynced) (die : ℕ) (gave : Gave) (after : World) (s : Shape w u die gave after)
    → IsWhole w (ImageCall die gave) after
    → IsWholeCall (is_in_block w.core.page_map) (Some s.call) gave (w.images die) s.image
shape_whole w u die gave after s whole =
    let call : call_of w die ≡ Some s.call = ap (option_and_then (λ k. next_call die k.job k.gave)) s.is ∙ s.next in
    let image : after.images die ≡ s.image = ap (λ (f : ℕ → DieImage). f die) s.images_then
    ∙ one_value_same die s.image w.images die refl in
    subst (λ (t : Option JobCall × DieImage). IsWholeCall (is_in_block w.core.page_map) t.0 gave (w.images die) t.1)
    {x = (call_of w die, after.images die)} {y = (Some s.call, s.image)} (λ i. (call i, image i)) whole

-- behind an accepted sync the numbers are those of the pages
pub synced_numbers : (w : World) (u : Unsynced) (die : ℕ) (gave : Gave) (after : World) (s : Shape w u die gave after) → s.call ≡ Syncs
    → gave ≡ Accepted → (page : ℕ)
    → (unsynced_behind w (ImageCall die gave) u).kept die page ≡ number_of w.core page
synced_numbers w u die gave after s call accepted page =
    ap (λ (v : Unsynced). v.kept die page) s.behind_is
    ∙ (λ i. (behind_call w die (call i) (accepted i) u).kept die page)
    ∙ ap (λ (f : ℕ → ℕ). f page) (one_value_same die (number_of w.core) u.kept die refl)

-- the answers of a job with one more
pub one_gave : (xs : List Gave) (g : Gave) → xs ++ g ∷ [] ≡ Accepted ∷ [] → (xs ≡ []) × (g ≡ Accepted)
one_gave [] g e = (refl, cc)
one_gave (x ∷ []) g e = absurd (cc)
one_gave (x ∷ y ∷ xs) g e = absurd (cc)

pub two_gave : (xs : List Gave) (g : Gave) → xs ++ g ∷ [] ≡ Accepted ∷ Accepted ∷ [] → (xs ≡ Accepted ∷ []) × (g ≡ Accepted)
two_gave [] g e = absurd (cc)
two_gave (x ∷ []) g e = (cc, cc)
two_gave (x ∷ y ∷ []) g e = absurd (cc)
two_gave (x ∷ y ∷ z ∷ xs) g e = absurd (cc)
