use Rattle.std.proofs.Common.{refl, sym, ◌∙◌, arith}
use Rattle.fa_session.proofs.Served.{IsSoFar-more, Transmitted-behind}
use Rattle.fa_session.proofs.transmission.transmit.Goals as goal

pub requests-smaller : goal.requests-smaller
requests-smaller g c = let more = c.in-Ok.ensures.counted in omega (arith, more)

pub requests-preserved : goal.requests-preserved
requests-preserved g c = record {
  size = c.requests.invariant.size ∙ sym c.in-Ok.ensures.size;
  little_kept = c.let_go.ensures;
  so_far = IsSoFar-more _ _ _ _ _ _ _ (refl, refl) c.requests.invariant.so_far c.in-Ok.ensures.served;
}

pub returns-in-Err : goal.returns-in-Err
returns-in-Err g c = Transmitted-behind _ _ _ _ _ _ _ c.in-Err.end (refl, refl) c.requests.invariant.so_far c.in-Err.ensures.served
