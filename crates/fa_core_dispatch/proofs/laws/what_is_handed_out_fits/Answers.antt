use Rattle.fa_core_dispatch.proofs.Fitting.{handed_fits}
use Rattle.fa_core_dispatch.proofs.laws.what_is_handed_out_fits.Goals as goal

pub returns : goal.returns
returns c core new die seat job array sound ready limits sixteen takes = handed_fits core sound ready limits array sixteen die seat job new takes
