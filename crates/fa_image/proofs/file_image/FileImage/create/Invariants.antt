use Rattle.std.proofs.Common.{[]}
use Rattle.fa_image.proofs.file_image.FileImage.create.Given as goal

abbrev pub ghost-open_or_create : goal.ghost-open_or_create
ghost-open_or_create g a = record { bytes = []; lefts = [] }

abbrev pub ghost-empty : goal.ghost-empty
ghost-empty g a = g.lefts
