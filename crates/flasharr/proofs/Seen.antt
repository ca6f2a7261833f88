-- A connection over a store as what is seen of the store.
use Rattle.std.proofs.Common.{ℕ, List, [], ◌∷◌, ap, inl, inr}
use Rattle.fa_io.specs.Streams.{Streams}
use Rattle.fa_session.specs.Exchanges.{Asked, Chain, Exchange, Makes, NoneForData, NotAsked, Outcome}
use Rattle.fa_session.specs.Session.{Session}
use Rattle.fa_session.specs.declared.session_end.SessionEnd.{SessionEnd}
use Rattle.fa_types.specs.Store.{Answer, Call}

module _ {S T : Type 0} (makes : S → Call → Answer → S → Type 0) (made : T → Call → Answer → T → Type 0) (seen : S → T)
    (is : (before after : S) (call : Call) (answer : Answer) → makes before call answer after → made (seen before) call answer (seen after)) where
  step_seen : (old : S) (outcome : Outcome) (new : S) → Makes makes old outcome new → Makes made (seen old) outcome (seen new)
  step_seen old (Asked call answer) new it = is old new call answer it
  step_seen old (NotAsked code) new same = ap seen same
  step_seen old NoneForData new same = ap seen same

  chain_seen : (old : S) (es : List Exchange) (new : S) → Chain makes old es new → Chain made (seen old) es (seen new)
  chain_seen old [] new same = ap seen same
  chain_seen old (e ∷ es) new (middle, it, chain) = (seen middle, step_seen old e.outcome middle it, chain_seen middle es new chain)

  pub session_seen : (export : List ℕ) (size : ℕ) (streams : Streams) (old new : S) (end : SessionEnd) → Session makes export size streams old new end
      → Session made export size streams (seen old) (seen new) end
  session_seen export size streams old new end (inl (early, same)) = inl (early, ap seen same)
  session_seen export size streams old new end (inr t) = inr (record {
    heard = t.heard;
    said = t.said;
    exchanges = t.exchanges;
    last = t.last;
    written = t.written;
    missing = t.missing;
    negotiates = t.negotiates;
    was_read = t.was_read;
    was_written = t.was_written;
    output = t.output;
    right = t.right;
    asked = chain_seen old t.exchanges new t.asked;
    ends = t.ends;
  })
