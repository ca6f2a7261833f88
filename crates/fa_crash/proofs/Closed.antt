-- The headers of an array that was closed with all its live dies.
use Rattle.fa_crash.specs.Flushed.{is_of_array}
use Rattle.fa_crash.specs.Headers.{AreFirstHeaders, IsNewest, NameOurs, names}
use Rattle.fa_crash.proofs.Masked.{mask_seen}
use Rattle.fa_crash.proofs.Stands.{plain_stands}
use Rattle.fa_crash.specs.Behind.{AreImagesClosed, HoldersStand, IsLiveSeen, is_named}
use Rattle.fa_machine.specs.Copies.{holds_page}
use Rattle.fa_machine.specs.State.{is_live}
use Rattle.fa_machine.specs.World.{HeaderTells, World}
use Rattle.fa_mount_headers.specs.Rules.{greatest_epoch, is_in, mask_in}
use Rattle.fa_mount_headers.specs.declared.seen.Seen.{Seen}
use Rattle.fa_mount_scan.specs.MountedWorld.{SlotBytes}
use Rattle.std.proofs.Common.{List, None, ap, arith, inl, inr, sym, true, ℕ, ◌<◌, ◌∙◌, ◌≡◌, ◌≤◌}
use Rattle.std.proofs.lemmas.Bool.{cases_Bool}

module _ (first w : World) (told : ℕ → HeaderTells) (seen : List Seen) (bytes : SlotBytes) (c : AreImagesClosed first w told seen bytes) where
  -- a die whose header is not older than the last one was live
  was_live : (die : ℕ) → c.written.epoch ≤ (told die).epoch → is_live w.core.page_map die ≡ true
  was_live die less = elim (cases_Bool (is_live w.core.page_map die)) [
    | inl alive ↦ alive
    | inr out ↦ let low = c.older die out in absurd (omega (arith, less, low))
  ]

  written_at : (die : ℕ) → is_live w.core.page_map die ≡ true → (told die).epoch ≡ c.written.epoch
  written_at die alive = ap (λ (h : HeaderTells). h.epoch) (c.closed die alive)

  not_older : c.written.epoch ≤ greatest_epoch seen
  not_older =
      let x = c.some in
      let low = c.there.newest x.0.header.die.0 in
      let at = written_at x.0.header.die.0 x.2 in
      omega (arith, low, at)

  -- the mask of the greatest epoch is that of the close
  mask_is : mask_in (greatest_epoch seen) seen ≡ c.written.live
  mask_is =
      let z = mask_seen seen c.some.0 c.some.1 in
      let tells = c.there.epochs z.0 z.1 in
      let greatest = z.2 in
      let least = not_older in
      let alive = was_live z.0.header.die.0 (omega (arith, tells, greatest, least)) in
      z.3 ∙ c.there.masks z.0 z.1 ∙ ap (λ (h : HeaderTells). h.live) (c.closed z.0.header.die.0 alive)

  pub named_is : (die : ℕ) → is_named seen die ≡ is_live w.core.page_map die
  named_is die = ap (λ mask. is_in mask die) mask_is ∙ c.names_live die

  newest_written : (top : ℕ) → IsNewest told top → told top ≡ c.written
  newest_written top newest =
      let x = c.some in
      let low = newest x.0.header.die.0 in
      let at = written_at x.0.header.die.0 x.2 in
      c.closed top (was_live top (omega (arith, low, at)))

  -- the die is named where the newest header names it
  named_by : (top die : ℕ) → IsNewest told top → names (told top).live die ≡ true → is_live w.core.page_map die ≡ true
  named_by top die newest named =
      sym (c.names_live die) ∙ ap (λ (h : HeaderTells). names h.live die) (sym (newest_written top newest)) ∙ named

  pub ours_before : ((die : ℕ) → is_live w.core.page_map die ≡ true → is_of_array first die ≡ true) → NameOurs first told
  ours_before live top die newest named = live die (named_by top die newest named)

  pub ours_then : (next : World) → ((die : ℕ) → is_named seen die ≡ true → is_of_array next die ≡ true) → NameOurs next told
  ours_then next there top die newest named = there die (named_is die ∙ named_by top die newest named)

  pub holders_stand : ((page die : ℕ) → holds_page w.core.page_map page die ≡ true → is_live w.core.page_map die ≡ true) → HoldersStand w seen
  holders_stand live page x among holds =
      let alive = live page x.header.die.0 holds in
      let named = named_is x.header.die.0 ∙ alive in
      let stands = plain_stands (mask_in (greatest_epoch seen) seen) seen x among named
      (λ y i same. c.plain y i (ap (is_live w.core.page_map) same ∙ alive)) in
      (named, stands.0, stands.1)

  -- the headers are such as a life begins with
  pub first_again : (next : World) → ((die : ℕ) → (next.images die).header ≡ None) → ((die : ℕ) → (told die).epoch < next.core.epoch)
      → ((die : ℕ) → is_live next.core.page_map die ≡ true → IsLiveSeen seen die) → AreFirstHeaders next told
  first_again next none older live = record { unwritten = none; older = older; named = named }
    where
      named : (die other : ℕ) → is_live next.core.page_map die ≡ true → (told die).epoch ≤ (told other).epoch → names (told other).live die ≡ true
      named die other alive less =
          let was = sym (named_is die) ∙ (live die alive).named in
          let at = written_at die was in
          ap (λ (h : HeaderTells). names h.live die) (c.closed other (was_live other (omega (arith, less, at)))) ∙ c.names_live die ∙ was
