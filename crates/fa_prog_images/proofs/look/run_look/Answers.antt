use Rattle.std.proofs.Common.{inl, inr}
use Rattle.fa_prog_images.proofs.look.run_look.Goals as goal

pub returns-in-Ok : goal.returns-in-Ok
returns-in-Ok g c =
    inr (inl (c.in-Ok.ensures.settings.0, c.in-Ok.settings, c.in-Ok.ensures.settings.1, c.tell_array.ensures))
