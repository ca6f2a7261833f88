use Rattle.std.proofs.Common.{inl, inr}
use Rattle.fa_prog_images.proofs.format.run_format.Goals as goal

pub returns-in-Ok : goal.returns-in-Ok
returns-in-Ok g c = elim c.tell_format.ensures [
  | inl told ↦ inr (inl (c.in-Ok.ensures.settings.0, c.in-Ok.settings, c.in-Ok.ensures.settings.1, c.made.result, c.made.ensures, told))
  | inr none ↦ inr (inr none)
]
