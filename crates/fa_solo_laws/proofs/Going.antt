-- What stays as it is while nothing is written.
use Rattle.fa_solo_laws.proofs.Due.{happens_plain}
use Rattle.fa_solo_laws.proofs.ReadBack.{reached_on}
use Rattle.fa_solo_laws.specs.Unwritten.{WritesNothing}
use Rattle.fa_solo_laws.proofs.Gone.{IsGone, NumbersLaw, happens_gone, lost_gone}
use Rattle.fa_solo_laws.specs.Begun.{IsCalm}
use Rattle.fa_solo_laws.specs.Shown.{roomy, store_of}
use Rattle.fa_laws.proofs.Answering.{reached_holds}
use Rattle.fa_laws.proofs.Failing.{LiveLaw}
use Rattle.fa_laws.proofs.Ranged.{calls_core}
use Rattle.fa_laws.proofs.Returning.{SparesLaw}
use Rattle.fa_laws.proofs.Within.{GeometryLaw}
use Rattle.fa_laws.specs.Leaving.{LeavesPage}
use Rattle.fa_laws.specs.Reached.{IsReached}
use Rattle.fa_machine.specs.Copies.{is_lost}
use Rattle.fa_machine.specs.Placement.{copies_asked}
use Rattle.fa_machine.specs.Run.{Event, Happening, Happens, ImageCall}
use Rattle.fa_machine.specs.State.{Core, MapState}
use Rattle.fa_machine.specs.Step.{Act, Commit, Step}
use Rattle.fa_machine.specs.World.{World}
use Rattle.fa_shared_lock.specs.Founded.{may_collect}
use Rattle.fa_types.specs.Store.{HasCause, IsMet}
use Rattle.fa_types.specs.declared.blocks.BlockFault.{BlockFault}
use Rattle.fa_types.specs.declared.blocks.BlockFault.TheVariants.{Lost, NoMemory, NoRoom, Spent}
use Rattle.std.proofs.Common.{[], ap, inl, inr, not, refl, subst, sym, true, ℕ, ◌-◌, ◌^◌, ◌∙◌, ◌∷◌, ◌≡◌, ◌≤◌}
use Rattle.std.specs.FinMap.{len}
use Rattle.std.specs.Prelude.{Err, Ok, nat_lt, ◌&&◌, ◌==◌, ◌||◌}

-- the laws of single events on which the others rest
pub record Laws : Type 0 where
  pub lives : LiveLaw
  pub spares : SparesLaw
  pub numbers : NumbersLaw
  pub geometry : GeometryLaw
  pub falls : (old new : Core) (act : Act) → Step old act new → old.last ≤ new.last

-- a world behind another in which the plain array is the same, and each page that was lost is lost
pub record Goes (first w : World) : Type 0 where
  pub reached : IsReached w
  pub plain : w.plain ≡ first.plain
  pub geometry : w.core.page_map.geometry ≡ first.core.page_map.geometry
  pub gone : (page : ℕ) → is_lost first.core.page_map page ≡ true → IsGone page w.core

pub goes_first : Laws → (first : World) → IsReached first → IsCalm first → Goes first first
goes_first laws first reached calm = record {
  reached = reached;
  plain = refl;
  geometry = refl;
  gone = λ page lost. lost_gone laws.lives laws.spares laws.geometry first reached page lost
      (λ c is same. calm c is (subst (λ p. is_lost first.core.page_map p ≡ true) (sym same) lost));
}

pub leaves_all : (w : World) (happening : Happening) → WritesNothing happening → (page : ℕ) → LeavesPage page w happening
leaves_all w (Event (Commit claim seat (Ok seq))) none page = absurd none
leaves_all w (Event (Commit claim seat (Err refused))) none page = tt
leaves_all w happening none page = tt

pub geometry_kept : GeometryLaw → (w after : World) (happening : Happening) → Happens w happening after
    → after.core.page_map.geometry ≡ w.core.page_map.geometry
geometry_kept same w after (Event act) happens = same w.core after.core act happens.step
geometry_kept same w after (ImageCall die gave) happens = ap (λ (c : Core). c.page_map.geometry) (calls_core w after die (w.works die) gave happens)

pub goes_on : Laws → (first w after : World) → Goes first w → (happening : Happening) → Happens w happening after → WritesNothing happening
    → Goes first after
goes_on laws first w after g happening happens none = record {
  reached = reached_on w g.reached (happening ∷ []) after (after, happens, refl);
  plain = happens_plain w after happening none happens ∙ g.plain;
  geometry = geometry_kept laws.geometry w after happening happens ∙ g.geometry;
  gone = λ page lost. happens_gone laws.lives laws.spares laws.numbers page w (reached_holds w g.reached) (g.gone page lost) happening after happens
      (leaves_all w happening none page);
}

-- what a refusal rests on is as it was
pub record SameCause (w after : World) : Type 0 where
  pub page_map : after.core.page_map ≡ w.core.page_map
  pub copies : after.core.copies ≡ w.core.copies
  pub last : after.core.last ≡ w.core.last
  pub round : after.core.calendar.round ≡ w.core.calendar.round
  pub flushes : after.core.flushes ≡ w.core.flushes

pub cause_kept : (w after : World) → SameCause w after → (offset len : ℕ) (fault : BlockFault) → HasCause (store_of w) offset len fault
    → HasCause (store_of after) offset len fault
cause_kept w after same offset count Lost (inl none) = inl (ap (λ (m : MapState). len m.live == 0) same.page_map ∙ none)
cause_kept w after same offset count Lost (inr lost) = inr (
  lost.0,
  ap (λ (m : MapState). is_lost m lost.0) same.page_map ∙ lost.1,
  subst (λ (m : MapState). IsMet m.geometry.page_bytes offset count lost.0) (sym same.page_map) lost.2,
)
cause_kept w after same offset count NoRoom none =
    (λ i. nat_lt (roomy (same.page_map i)) (copies_asked (same.copies i) (same.page_map i)) && not (may_collect (same.page_map i))) ∙ none
cause_kept w after same offset count NoMemory none = tt
cause_kept w after same offset count Spent spent =
    (λ i. same.last i == 2 ^ 62 - 1 || nat_lt (2 ^ 56 - 2 ^ 24) (same.round i) || same.flushes i == 2 ^ 62) ∙ spent
