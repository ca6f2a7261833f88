use Rattle.std.proofs.Common.{◌∙◌, ◌+◌, None, ap, refl, sym}
use Rattle.fa_core_outcome.specs.Handed.{handed_of}
use Rattle.fa_solo_job.proofs.Chains.{does_event}
use Rattle.fa_machine.specs.Step.{Take}
use Rattle.fa_shared_lock.specs.Locked.{LockedState}
use Rattle.fa_shared_lock.specs.Seats.{number_of}
use Rattle.fa_solo_job.proofs.Taken.{does_job, fits_by, took_job}
use Rattle.fa_solo_job.specs.Deeds.{IsForDies}
use Rattle.fa_types.specs.declared.geometry.Geometry.{Geometry}
use Rattle.fa_solo_job.proofs.running.run_here.Goals as goal

pub run_noted-requires-clause-flight : goal.run_noted-requires-clause-flight
run_noted-requires-clause-flight g c = took_job _ _ _ _ _ c.in-Some.ensures.event

pub run_noted-requires-clause-fits : goal.run_noted-requires-clause-fits
run_noted-requires-clause-fits g c = fits_by _ _ _ _ _ (handed_of c.in-Some.job) (sym (c.the_geometry_is_kept.ensures _ _ _ c.in-Some.ensures.event))
    (sym (ap (λ (l : LockedState). l.number) c.take.ensures.rest.rest)) c.in-Some.ensures.fits

pub run_noted-requires-clause-placed : goal.run_noted-requires-clause-placed
run_noted-requires-clause-placed g c = let placed = c.requires.placed in record {
  place_is = placed.place_is;
  inside = placed.inside;
  image = placed.image;
  image_is = placed.image_is;
  shape = placed.shape ∙ sym (c.the_geometry_is_kept.ensures _ _ _ c.in-Some.ensures.event);
}

pub run_noted-requires-clause-memory : goal.run_noted-requires-clause-memory
run_noted-requires-clause-memory g c = let shape = sym (c.the_geometry_is_kept.ensures _ _ _ c.in-Some.ensures.event) in record {
  scratch = c.requires.memory.scratch ∙ ap (λ (s : Geometry). s.page_bytes + 64) shape;
  buffer = c.requires.memory.buffer ∙ ap (λ (s : Geometry). s.page_bytes) shape;
}

pub returns-in-Some : goal.returns-in-Some
returns-in-Some g c = does_job _ _ _ _ _ _ _ c.in-Some.ensures.event c.take.ensures.rest c.requires.placed.place_is c.in-Some.ensures.fits
    (c.the_geometry_is_kept.ensures _ _ _ c.in-Some.ensures.event) refl refl c.run_noted.ensures

pub returns-in-None : goal.returns-in-None
returns-in-None g c = does_event _ IsForDies _ _ (Take c.args.die.0 (number_of c.args.inner.now.seat) None) tt tt c.in-None.ensures.event
    c.take.ensures.rest refl refl
