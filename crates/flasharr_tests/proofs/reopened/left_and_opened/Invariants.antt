-- The file is opened with what was left in it.
use Rattle.std.proofs.Common.{[]}
use Rattle.fa_image.specs.FileMade.{file_view}
use Rattle.fa_image.specs.ReadBack.{left_by}
use Rattle.flasharr_tests.proofs.reopened.left_and_opened.Given as goal

abbrev pub ghost-create : goal.ghost-create
ghost-create g a = []

abbrev pub ghost-open_again : goal.ghost-open_again
ghost-open_again g a = left_by (file_view a.image)
