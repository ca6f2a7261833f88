use Rattle.fa_types.proofs.WholePages.{reads_zeros}
use Rattle.fa_types.proofs.laws.written_is_read_back.Goals as goal

pub returns-clause-trim : goal.returns-clause-trim
returns-clause-trim g c = λ before middle after offset len page given fua alone fits covered trims reads.
    let trim_meets = g.met.B.Blocks.meets _ _ _ _ trims in
    let read_meets = g.met.B.Blocks.meets _ _ _ _ reads in
    reads_zeros _ _ _ offset len page fua given (g.met.B.Blocks.whole before) (g.met.B.Blocks.whole middle) alone fits covered trim_meets read_meets
