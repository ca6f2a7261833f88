-- How the plain array changes: by the bytes that were reserved, where a number is given to their page, and by nothing else.
use Rattle.std.specs.Prelude.{◌≡◌, Ok}
use Rattle.fa_types.specs.Plain.{put}
use Rattle.fa_machine.specs.Run.{Happening, Event}
use Rattle.fa_machine.specs.Step.{Commit}
use Rattle.fa_machine.specs.World.{World}
use Rattle.fa_machine.specs.Writing.{claimed_page}

abbrev pub ChangesPlain : World → Happening → World → Type 0
ChangesPlain before (Event (Commit claim seat (Ok seq))) after =
    let page = claimed_page before.core claim in after.plain ≡ put page (before.payloads page seq.0) before.plain
ChangesPlain before happening after = after.plain ≡ before.plain
