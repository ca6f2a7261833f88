use Rattle.fa_solo_laws.proofs.Chained.{chain_idle}
use Rattle.fa_solo_laws.proofs.Between.{beginning_idle, call_idle}
use Rattle.fa_solo_laws.proofs.idle.nothing_is_open_between_calls.Goals as goal

pub returns : goal.returns
returns g c = record {
  mounted = λ w begins. beginning_idle w.core begins.fresh;
  call = λ old new task bytes answer idle call. call_idle g.I.Image.made task bytes answer old new call idle;
  calls = λ old new exchanges idle chain. chain_idle g.I.Image.made old idle exchanges new chain;
}
