use Rattle.fa_image.proofs.file_image.FileImage.open_or_create.Given as goal

abbrev pub ghost-locked : goal.ghost-locked
ghost-locked g a = g.start
