use Rattle.std.proofs.Common.{inl, inr}
use Rattle.std.proofs.KnownBytes.{Consumes-nil}
use Rattle.flasharr.proofs.Limits.{may_be_served}
use Rattle.flasharr.proofs.talk.run_talk_array.Goals as goal

pub hear-requires-clause-served : goal.hear-requires-clause-served
hear-requires-clause-served g c lifetimes outlive = let read = c.in-Ok.ensures.settings in may_be_served read.0 c.in-Ok.settings read.1

pub returns-in-Ok : goal.returns-in-Ok
returns-in-Ok g c = let read = c.in-Ok.ensures.settings in inr (read.0, c.in-Ok.settings, read.1, c.hear.ensures)

pub returns-in-Err : goal.returns-in-Err
returns-in-Err g c = inl (Consumes-nil _, c.refuse_settings.ensures)
