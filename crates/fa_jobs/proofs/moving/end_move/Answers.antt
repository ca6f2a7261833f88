use Rattle.std.proofs.Common.{ap, refl, sym, Some, None, cond, option_map}
use Rattle.fa_core_outcome.specs.Outcomes.{cell_of}
use Rattle.fa_image.specs.Image.{ReadingSlot, Gave}
use Rattle.fa_machine.specs.World.{ReadsSlot, ProgramsSlot, GaveCell}
use Rattle.fa_machine.specs.Cells.{Sealed, Wrong}
use Rattle.fa_machine.specs.declared.jobs.Flight.TheVariants.{Move}
use Rattle.fa_tag.specs.SlotGrammar.{payload_of}
use Rattle.fa_jobs.proofs.Deeds.{moved_kind, moved_some, ran_once, ran_twice}
use Rattle.fa_jobs.proofs.moving.end_move.Goals as goal

pub program_moved-requires-clause-kind : goal.program_moved-requires-clause-kind
program_moved-requires-clause-kind g c =
    moved_kind c.args.page.0 c.args.version c.args.die.0 c.args.from.0 c.args.opened c.args.scratch.now c.requires.opened
    (sym (c.if-is_copy.ensures (payload_of c.args.scratch.now)))

pub returns-then-is_copy-clause-ran : goal.returns-then-is_copy-clause-ran
returns-then-is_copy-clause-ran g c before array payload bytes lasting link =
    let read = payload_of c.args.scratch.now in
    let cell = cell_of c.args.opened read in
    let is = sym (c.if-is_copy.ensures read) in
    let moved = c.program_moved.ensures.programmed array in
    ran_twice _ _ (ReadsSlot c.args.from.0) (ProgramsSlot c.args.to.0 (Sealed c.args.page.0 c.args.version c.args.die.0 c.args.to.0 read))
    (GaveCell cell) moved.gave _ _ _ refl
    (record {
      image_call = ReadingSlot c.args.from.0;
      answer = Gave c.args.scratch.now;
      is_it = refl;
      given = (c.args.opened, c.requires.opened, refl);
      link = link;
    })
    (ap (option_map (λ payload. ProgramsSlot c.args.to.0 (Sealed c.args.page.0 c.args.version c.args.die.0 c.args.to.0 payload)))
    (moved_some c.args.page.0 c.args.version c.args.die.0 c.args.from.0 c.args.opened read is))
    moved.call (moved.ends cell (record { flight = Move c.args.page c.args.version c.args.from c.args.to; payload = payload; lasting = lasting }) bytes)

pub returns-else-is_copy-clause-ran : goal.returns-else-is_copy-clause-ran
returns-else-is_copy-clause-ran g c before array payload bytes lasting link =
    let read = payload_of c.args.scratch.now in
    ran_once _ _ (ReadsSlot c.args.from.0) (GaveCell (cell_of c.args.opened read)) _ _ refl
    (record {
      image_call = ReadingSlot c.args.from.0;
      answer = Gave c.args.scratch.now;
      is_it = refl;
      given = (c.args.opened, c.requires.opened, refl);
      link = link;
    })
    (ap (λ is. cond is None (Some Wrong)) (sym (c.if-is_copy.ensures read)))
