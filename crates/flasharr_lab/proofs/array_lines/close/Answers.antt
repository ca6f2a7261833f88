use Rattle.flasharr_lab.proofs.array_lines.close.Goals as goal

pub close_clean-requires-clause-apart : goal.close_clean-requires-clause-apart
close_clean-requires-clause-apart g c = (c.has_images.ensures.0 c.if-has_images.true).0
