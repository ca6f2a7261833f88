use Rattle.fa_image.proofs.file_image.FileImage.locked.Given as goal

abbrev pub ghost-over : goal.ghost-over
ghost-over g a = g.start
