-- The mask of the greatest epoch has the holders, and a clean mount has dies alone to which no job wrote.
use Rattle.fa_crash.specs.Headers.{names, tells}
use Rattle.fa_crash.specs.HeadersLeft.{AreHeadersLeft}
use Rattle.fa_machine.proofs.Lists.{among-range, found_passes, none_passes}
use Rattle.fa_machine.specs.Among.{Among}
use Rattle.fa_machine.specs.State.{is_live}
use Rattle.fa_machine.specs.World.{HeaderTells, World}
use Rattle.fa_mount_headers.specs.Judged.{standing_in, standing_of}
use Rattle.fa_mount_headers.specs.Rules.{greatest_epoch, is_clean, is_in, is_unclean_die, mask_in, unclean_die}
use Rattle.fa_mount_headers.specs.declared.judging.Standing.TheVariants.{Live, Out, Spare}
use Rattle.fa_mount_headers.specs.declared.seen.Seen.{Seen}
use Rattle.std.proofs.Common.{Bool, List, None, Option, Some, [], ap, arith, eq-eqb, eqb-true, false, inl, inr, not, refl, subst, sym, true, ℕ, ◌<◌, ◌∙◌, ◌∷◌, ◌≡◌, ◌≤◌, ◌⊎◌}
use Rattle.std.proofs.lemmas.Bool.{and_parts, cases_lt, false≢true, not-false, or_cases, true≢false}
use Rattle.std.specs.List.{fold, list_any, range_with_len}
use Rattle.std.specs.Prelude.{find, if◌then◌else◌, max, option_map, unwrap_or, ◌&&◌, ◌==◌}

-- what a fold by `max` comes to: it is not below its start or any element, and is one of them
abbrev most : ℕ → List Seen → ℕ
most n seen = fold (λ most x. max most x.header.epoch) n seen

most_start : (n : ℕ) (seen : List Seen) → n ≤ most n seen
most_start n [] = omega arith
most_start n (x ∷ seen) = let rest = most_start (max n x.header.epoch) seen in omega (arith, rest)

most_each : (n : ℕ) (seen : List Seen) (x : Seen) → Among x seen → x.header.epoch ≤ most n seen
most_each n [] x i = absurd i
most_each n (y ∷ seen) x (inl same) =
    let rest = most_start (max n y.header.epoch) seen in
    let e : y.header.epoch ≡ x.header.epoch = ap (λ (z : Seen). z.header.epoch) same in omega (arith, rest, e)
most_each n (y ∷ seen) x (inr more) = most_each (max n y.header.epoch) seen x more

most_one : (n : ℕ) (seen : List Seen) → (most n seen ≡ n) ⊎ ((x : Seen) × Among x seen × (x.header.epoch ≡ most n seen))
most_one n [] = inl refl
most_one n (y ∷ seen) =
    elim (most_one (max n y.header.epoch) seen) [
      | inr later ↦ inr (later.0, inr later.1, later.2)
      | inl same ↦ elim (cases_lt n y.header.epoch) [
        | inl high ↦ inr (y, inl refl, omega (arith, same, high))
        | inr low ↦ inl (omega (arith, same, low))
      ]
    ]

-- an element with the greatest epoch
pub greatest_seen : (seen : List Seen) (x : Seen) → Among x seen → (y : Seen) × Among y seen × (y.header.epoch ≡ greatest_epoch seen)
greatest_seen seen x among =
    elim (most_one 0 seen) [
      | inr found ↦ found
      | inl none ↦ let low = most_each 0 seen x among in (x, among, omega (arith, none, low))
    ]

-- the mask of the greatest epoch is that of a header which has it
pub mask_seen : (seen : List Seen) (x : Seen) → Among x seen
    → (y : Seen) × Among y seen × (y.header.epoch ≡ greatest_epoch seen) × (mask_in (greatest_epoch seen) seen ≡ y.header.mask)
mask_seen seen x among = at (find (λ x. x.header.epoch == greatest_epoch seen) seen) refl
  where
    at : (o : Option Seen) → find (λ x. x.header.epoch == greatest_epoch seen) seen ≡ o
        → (y : Seen) × Among y seen × (y.header.epoch ≡ greatest_epoch seen) × (mask_in (greatest_epoch seen) seen ≡ y.header.mask)
    at (Some y) e =
        let found = found_passes (λ (x : Seen). x.header.epoch == greatest_epoch seen) seen y e in
        (y, found.1, eqb-true y.header.epoch (greatest_epoch seen) found.0, ap (λ (o : Option Seen). unwrap_or (option_map (λ (x : Seen). x.header.mask) o) 0) e)
    at None e =
        let g = greatest_seen seen x among in
        absurd (true≢false (sym (eq-eqb g.0.header.epoch (greatest_epoch seen) g.2)
        ∙ none_passes (λ (x : Seen). x.header.epoch == greatest_epoch seen) seen e g.0 g.1))

pub some_passes : {X : Type 0} (p : X → Bool) (xs : List X) → list_any p xs ≡ true → (x : X) × Among x xs × (p x ≡ true)
some_passes p [] e = absurd (false≢true e)
some_passes p (x ∷ xs) e =
    elim (or_cases (p x) (list_any p xs) e) [
      | inl here ↦ (x, inl refl, here)
      | inr later ↦ let found = some_passes p xs later in (found.0, inr found.1, found.2)
    ]

module _ (first : World) (told : ℕ → HeaderTells) (heads : ℕ → Option HeaderTells) (seen : List Seen) (left : AreHeadersLeft first told heads seen) where
  abbrev mask : ℕ
  mask = mask_in (greatest_epoch seen) seen

  -- a die that each header names which is no older than its own is in the mask
  pub holder_in : (x : Seen) → Among x seen
      → ((other : ℕ) → (tells told heads x.header.die.0).epoch ≤ (tells told heads other).epoch → names (tells told heads other).live x.header.die.0 ≡ true)
      → is_in mask x.header.die.0 ≡ true
  holder_in x among named =
      let m = mask_seen seen x among in
      let mine = (left x among).epoch in
      let its = (left m.0 m.1).epoch in
      let most = most_each 0 seen x among in
      let is = m.2 in
      ap (λ n. names n x.header.die.0) (m.3 ∙ (left m.0 m.1).mask) ∙ named m.0.header.die.0 (omega (arith, mine, its, most, is))

  -- and stands as live, where it was live as the array was mounted or has written its header
  pub holder_live : (x : Seen) → Among x seen → is_in mask x.header.die.0 ≡ true
      → (heads x.header.die.0 ≡ None → is_live first.core.page_map x.header.die.0 ≡ true)
      → (index : ℕ) × (standing_of mask seen x.header.die.0 ≡ Live index)
  holder_live x among inside ours = at (find (λ (y : Seen). y.header.die.0 == x.header.die.0) seen) refl
    where
      stands : (y : Seen) → y.header.spare ≡ false → y.header.die.0 ≡ x.header.die.0 → standing_in mask (Some y) ≡ Live y.index
      stands y plain same =
          ap (λ b. if b then Spare y.index else if is_in mask y.header.die.0 then Live y.index else Out y.index) plain
          ∙ ap (λ b. if b then Live y.index else Out y.index) (ap (is_in mask) same ∙ inside)

      plain_of : (y : Seen) → Among y seen → y.header.die.0 ≡ x.header.die.0 → (o : Option HeaderTells) → heads y.header.die.0 ≡ o
          → y.header.spare ≡ false
      plain_of y i same (Some h) e = ((left y i).written h e).0
      plain_of y i same None e = (left y i).used (ap (is_live first.core.page_map) same ∙ ours (ap heads (sym same) ∙ e))

      at : (o : Option Seen) → find (λ (y : Seen). y.header.die.0 == x.header.die.0) seen ≡ o
          → (index : ℕ) × (standing_of mask seen x.header.die.0 ≡ Live index)
      at None e = absurd (true≢false (sym (eq-eqb x.header.die.0 x.header.die.0 refl) ∙ none_passes (λ (y : Seen). y.header.die.0 == x.header.die.0) seen e x among))
      at (Some y) e =
          let found = found_passes (λ (y : Seen). y.header.die.0 == x.header.die.0) seen y e in
          let same = eqb-true y.header.die.0 x.header.die.0 found.0 in
          (y.index, ap (standing_in mask) e ∙ stands y (plain_of y found.1 same (heads y.header.die.0) refl) same)

  -- where each die of the mask was closed clean, no job has written the header of any
  pub clean_unwritten : (dies : ℕ) → unclean_die dies (greatest_epoch seen) mask seen ≡ None → (die : ℕ) → die < dies
      → is_in mask die ≡ true → heads die ≡ None
  clean_unwritten dies clean die low inside =
      let passes = none_passes (is_unclean_die (greatest_epoch seen) mask seen) (range_with_len 0 dies) clean die (among-range 0 dies die (omega arith) (omega (arith, low))) in
      let is : is_clean (greatest_epoch seen) seen die ≡ true =
      not-false (is_clean (greatest_epoch seen) seen die) (sym (ap (λ b. b && not (is_clean (greatest_epoch seen) seen die)) inside) ∙ passes) in
      let found = some_passes (λ (x : Seen). x.header.die.0 == die && not x.header.spare && x.header.epoch == greatest_epoch seen && x.header.clean) seen is in
      let parts = and_parts (found.0.header.die.0 == die && not found.0.header.spare && found.0.header.epoch == greatest_epoch seen) found.0.header.clean found.2 in
      let more = and_parts (found.0.header.die.0 == die && not found.0.header.spare) (found.0.header.epoch == greatest_epoch seen) parts.0 in
      let die_is = eqb-true found.0.header.die.0 die (and_parts (found.0.header.die.0 == die) (not found.0.header.spare) more.0).0 in
      subst (λ (n : ℕ). heads n ≡ None) die_is (at found.0 found.1 parts.1 (heads found.0.header.die.0) refl)
    where
      at : (x : Seen) → Among x seen → x.header.clean ≡ true → (o : Option HeaderTells) → heads x.header.die.0 ≡ o
          → heads x.header.die.0 ≡ None
      at x i marked None e = e
      at x i marked (Some h) e = absurd (true≢false (sym marked ∙ ((left x i).written h e).1))
