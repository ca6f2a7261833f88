use Rattle.fa_image.specs.File.{held_at}
use Rattle.fa_image.proofs.file_image.FileImage.over.Given as goal

abbrev pub ghost-holding : goal.ghost-holding
ghost-holding g a = held_at a.geometry g.start
