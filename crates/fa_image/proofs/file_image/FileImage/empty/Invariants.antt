-- zeros
use Rattle.std.proofs.Common.{true, replicate}
use Rattle.fa_image.specs.File.{file_bytes}
use Rattle.fa_image.proofs.file_image.FileImage.empty.Given as goal

abbrev pub ghost-begin : goal.ghost-begin
ghost-begin g a = λ geometry. record { bytes = replicate (file_bytes geometry) 0; lefts = g.lefts; honest = true; unsynced = true }
