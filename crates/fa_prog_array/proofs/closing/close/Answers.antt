use Rattle.fa_prog_array.proofs.closing.close.Goals as goal

pub close_clean-requires-clause-apart : goal.close_clean-requires-clause-apart
close_clean-requires-clause-apart g c = (c.has_images.ensures.0 c.if-has_images.true).0
