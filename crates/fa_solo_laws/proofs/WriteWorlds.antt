-- Worlds in which a part of a write was done, and what its refusals rest on.
use Rattle.fa_solo_laws.proofs.Due.{happens_plain}
use Rattle.fa_solo_laws.proofs.Given.{Gives}
use Rattle.fa_solo_laws.proofs.Listed.{IsOpen}
use Rattle.fa_solo_laws.proofs.ReadBack.{reached_on}
use Rattle.fa_solo_laws.proofs.Reserved.{IsReservedFor}
use Rattle.fa_solo_laws.specs.Unwritten.{WritesNothing}
use Rattle.fa_solo_laws.proofs.Going.{Laws, SameCause, geometry_kept, leaves_all}
use Rattle.fa_solo_laws.proofs.Gone.{IsGone, happens_gone}
use Rattle.fa_solo_laws.proofs.Owned.{IsOwned}
use Rattle.fa_solo_laws.proofs.RangePages.{IsOf, upto}
use Rattle.fa_solo_laws.specs.Asked.{IsNoSpare}
use Rattle.fa_laws.proofs.Answering.{reached_holds}
use Rattle.fa_laws.specs.Reached.{IsReached}
use Rattle.fa_machine.specs.Flushing.{flush_state}
use Rattle.fa_machine.specs.Copies.{is_lost}
use Rattle.fa_machine.specs.Placement.{copies_asked}
use Rattle.fa_machine.specs.Reading.{is_late, zeros}
use Rattle.fa_machine.specs.Run.{Happening, Happens, HappensEvent}
use Rattle.fa_machine.specs.Step.{FlushBegin}
use Rattle.fa_machine.specs.World.{World}
use Rattle.fa_machine.specs.Writing.{reserve_refusal}
use Rattle.fa_machine.specs.declared.answers.Flush.{Flush}
use Rattle.fa_machine.specs.declared.answers.FlushState.TheVariants.{NoDie as FlushNoDie}
use Rattle.fa_machine.specs.declared.refusals.ReserveRefused.{ReserveRefused}
use Rattle.fa_machine.specs.declared.refusals.ReserveRefused.TheVariants.{NoDie as ReserveNoDie, NoMemory as ReserveNoMemory, NoRoom as ReserveNoRoom}
use Rattle.fa_machine.specs.declared.refusals.ReserveRefused.TheVariants.{Spent as NumbersSpent}
use Rattle.fa_shared_lock.specs.Founded.{may_collect}
use Rattle.fa_shared_steps.specs.Ranges.{begins_at, bytes_in, covers, first_page, past_page}
use Rattle.fa_shared_steps.specs.declared.range.Range.{Range}
use Rattle.fa_shared_steps.specs.declared.stage.PageClaim.{PageClaim}
use Rattle.fa_shared_steps.specs.declared.stage.Wish.{Wish}
use Rattle.fa_shared_steps.specs.declared.stage.Wish.TheVariants.{Data, Fewer, Hole}
use Rattle.fa_types.specs.Plain.{HasPages, export}
use Rattle.fa_types.specs.Store.{bytes_at, with_bytes}
use Rattle.fa_types.specs.declared.blocks.BlockFault.{BlockFault}
use Rattle.fa_types.specs.declared.blocks.BlockFault.TheVariants.{Lost, NoMemory, NoRoom, Spent}
use Rattle.fa_types.specs.declared.numbers.Seq.{Seq}
use Rattle.std.proofs.Common.{Bool, List, None, Option, Some, [], ap, arith, cond, false, inl, inr, refl, subst, sym}
use Rattle.std.proofs.Common.{take, true, ℕ, ◌-◌, ◌^◌, ◌<◌, ◌∙◌, ◌∷◌, ◌≡◌, ◌≤◌, ◌⊎◌}
use Rattle.std.proofs.lemmas.Option.{none-some, same_Some}
use Rattle.std.specs.Prelude.{Ok, min, slice_index_or, unwrap_or}
use Rattle.std.specs.Prelude.{◌==◌}

module _ (r : Range) (first : World) (all : List ℕ) where
  -- a world in which the pages of the range before this one are written, and nothing else
  pub record Wrote (page : ℕ) (w : World) : Type 0 where
    pub reached : IsReached w
    pub geometry : w.core.page_map.geometry ≡ first.core.page_map.geometry
    pub sized : HasPages r.page_bytes w.plain
    pub plain : export w.plain ≡ with_bytes r.from (take (upto r page) all) (export first.plain)
    pub gone : (p : ℕ) → is_lost first.core.page_map p ≡ true → (IsOf r p × (p < page) × (covers r p ≡ true)) ⊎ IsGone p w.core
    pub whole : (p : ℕ) → is_lost first.core.page_map p ≡ true → IsOf r p → p < page → covers r p ≡ true

  pub wrote_on : Laws → (page : ℕ) (w after : World) → Wrote page w → (happening : Happening) → Happens w happening after → WritesNothing happening
      → Wrote page after
  wrote_on laws page w after k happening happens none =
      let same = happens_plain w after happening none happens in
      record {
        reached = reached_on w k.reached (happening ∷ []) after (after, happens, refl);
        geometry = geometry_kept laws.geometry w after happening happens ∙ k.geometry;
        sized = subst (HasPages r.page_bytes) (sym same) k.sized;
        plain = ap export same ∙ k.plain;
        gone = λ p lost. elim (k.gone p lost) [
          | inl written ↦ inl written
          | inr gone ↦ inr (happens_gone laws.lives laws.spares laws.numbers p w (reached_holds w k.reached) gone happening after happens
              (leaves_all w happening none p))
        ];
        whole = k.whole;
      }

  -- a page of the range
  pub record IsAt (page : ℕ) : Type 0 where
    pub from : first_page r ≤ page
    pub past : page < past_page r

  -- the request has a claim of its page, with nothing reserved under it
  pub record Has (held : PageClaim) (w : World) : Type 0 where
    pub at : IsAt held.page.0
    pub wrote : Wrote held.page.0 w
    pub owned : IsOwned held.claim.0 held.page.0 w.core.claims

  pub record IsMerging (page batch : ℕ) (w : World) : Type 0 where
    pub gives : Gives batch w.plain w
    pub opened : IsOpen batch (page ∷ []) w.core.batches
    pub there : is_lost first.core.page_map page ≡ false

  -- these bytes are what the page is to hold, and it is covered or was not lost at the beginning
  pub record IsFor (page : ℕ) (plain : List (List ℕ)) (payload : List ℕ) : Type 0 where
    pub is : payload ≡ with_bytes (begins_at r page) (bytes_at (upto r page) (bytes_in r page) all) (slice_index_or plain page [])
    pub fit : (covers r page ≡ true) ⊎ (is_lost first.core.page_map page ≡ false)

  module _ {A : Type 0} where
    abbrev pub payload_in : World → Wish A → List ℕ
    payload_in w (Data payload) = payload
    payload_in w (Fewer payload) = payload
    payload_in w Hole = zeros w.core.page_map

    abbrev pub CoversHole : ℕ → Wish A → Type 0
    CoversHole page Hole = covers r page ≡ true
    CoversHole page wish = Unit {0}

    pub record IsWishFor (page : ℕ) (w : World) (wish : Wish A) : Type 0 where
      pub for_page : IsFor page w.plain (payload_in w wish)
      pub hole : CoversHole page wish

    pub record IsReserving (held : PageClaim) (w : World) (wish : Wish A) : Type 0 where
      pub at : IsAt held.page.0
      pub wrote : Wrote held.page.0 w
      pub seq : Seq
      pub reserved : IsReservedFor held.claim.0 held.page.0 seq (payload_in w wish) w
      pub wished : IsWishFor held.page.0 w wish

-- What a refusal rests on, of whatever is to be told of it.
pub record Founds (r : Range) (first : World) (Cause : World → BlockFault → Type 0) (Knows : Flush → World → Type 0) : Type 0 where
  pub no_memory : (w : World) → Cause w NoMemory
  pub kept : (w after : World) → SameCause w after → (fault : BlockFault) → Cause w fault → Cause after fault
  pub lost_page : (w : World) → w.core.page_map.geometry ≡ first.core.page_map.geometry → (page : ℕ) → IsOf r page → is_lost w.core.page_map page ≡ true
      → Cause w Lost
  pub late : (w : World) → is_late w.core.calendar ≡ true → Cause w Spent
  pub no_number : (w : World) → (w.core.last == 2 ^ 62 - 1) ≡ true → Cause w Spent
  pub no_flush : (w : World) → (w.core.flushes == 2 ^ 62) ≡ true → Cause w Spent
  pub no_room : (w : World) → IsReached w → (page : ℕ) → reserve_refusal w.core page (min 1 (copies_asked w.core.copies w.core.page_map)) ≡ Some ReserveNoRoom
      → may_collect w.core.page_map ≡ false → Cause w NoRoom
  pub no_die : (w : World) → IsReached w → (copies_asked w.core.copies w.core.page_map == 0) ≡ true → Cause w Lost
  pub begun : (w after : World) (flush : Flush) → IsReached w → HappensEvent w (FlushBegin (Ok flush)) after → Knows flush after
  pub knows : (w after : World) (flush : Flush) (happening : Happening) → IsReached w → Happens w happening after
      → IsNoSpare happening → Knows flush w → Knows flush after
  pub no_synced : (w : World) (flush : Flush) → IsReached w → Knows flush w → flush_state w.core flush ≡ FlushNoDie → Cause w Lost

-- a refusal of a Reserve is the first that applies, where it is none for want of memory
pub refused_first : (why : Option ReserveRefused) (refused : ReserveRefused) → refused ≡ unwrap_or why ReserveNoMemory → (refused ≡ ReserveNoMemory → ⊥)
    → why ≡ Some refused
refused_first None refused e other = absurd (other e)
refused_first (Some why) refused e other = ap Some (sym e)

abbrev pub room_number : ReserveRefused → ℕ
room_number ReserveNoRoom = 0
room_number ReserveNoDie = 1
room_number NumbersSpent = 2
room_number ReserveNoMemory = 3

pub other_refusal : (refused : ReserveRefused) → room_number refused < 3 → refused ≡ ReserveNoMemory → ⊥
other_refusal refused low same = let n = ap room_number same in absurd (omega (arith, low, n))

pub three_cases : (a b c : Bool) (refused : ReserveRefused)
    → cond a (Some ReserveNoRoom) (cond b (Some ReserveNoDie) (cond c (Some NumbersSpent) None)) ≡ Some refused
    → (room_number refused ≡ 1 → b ≡ true) × (room_number refused ≡ 2 → c ≡ true)
three_cases true b c refused e =
    let n : 0 ≡ room_number refused = ap room_number (same_Some _ refused e) in (λ one. absurd (omega (arith, n, one)), λ two. absurd (omega (arith, n, two)))
three_cases false true c refused e =
    let n : 1 ≡ room_number refused = ap room_number (same_Some _ refused e) in (λ one. refl, λ two. absurd (omega (arith, n, two)))
three_cases false false true refused e =
    let n : 2 ≡ room_number refused = ap room_number (same_Some _ refused e) in (λ one. absurd (omega (arith, n, one)), λ two. refl)
three_cases false false false refused e = absurd (none-some refused e)
