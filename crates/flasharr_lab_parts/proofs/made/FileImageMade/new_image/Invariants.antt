use Rattle.std.proofs.Common.{[]}
use Rattle.flasharr_lab_parts.proofs.made.FileImageMade.new_image.Given as goal

abbrev pub ghost-create : goal.ghost-create
ghost-create a = []
