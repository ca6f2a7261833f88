use Rattle.std.proofs.Common.{inl, refl}
use Rattle.fa_session.proofs.Greeted.{Session-transmits}
use Rattle.fa_session.proofs.session.serve_stream.Goals as goal

pub returns-in-Ok : goal.returns-in-Ok
returns-in-Ok g c = rw (← c.size-size.ensures) (Session-transmits _ _ _ _ _ _ _ c.transmit.result (refl, refl) c.in-Ok.ensures c.transmit.ensures)

pub returns-in-Err : goal.returns-in-Err
returns-in-Err g c = rw (← c.size-size.ensures) (inl (c.in-Err.ensures, refl))
