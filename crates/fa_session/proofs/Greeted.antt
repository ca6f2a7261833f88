-- From the pieces of a handshake to the handshake.
use Rattle.std.proofs.Common.{◌≡◌, ℕ, ◌<◌, List, [], ◌++◌, Option, Err, refl, sym, ap, ◌∙◌, subst, arith, append-nil, append_assoc, inl, inr}
use Rattle.std.specs.Io.KnownBytes.{Appends}
use Rattle.std.proofs.KnownBytes.{Consumes-nil}
use Rattle.std.specs.List.{flat_map}
use Rattle.fa_io.specs.Streams.{Streams, Reads, Writes, WritesPart, IsCut, between}
use Rattle.fa_io.specs.declared.reading.ReadEnd.TheVariants.{EndOfInput, Failed, TooManyReads}
use Rattle.fa_io.proofs.StreamLemmas.{IsNext, joined, Reads-joined, Writes-joined, missing-le}
use Rattle.fa_nego.specs.Negotiation.{greeting_bytes, Negotiates}
use Rattle.fa_nego.specs.NegoState.{NegoState, new_state, IsAt, wanted, step_of}
use Rattle.fa_nego.specs.declared.step.Step.TheVariants.{More, Go, Aborted as AbortedByClient, Closed as ClosedByServer}
use Rattle.fa_nego.specs.declared.step.CloseCause.{CloseCause}
use Rattle.fa_nego.proofs.StageLaws.{starts, stage_negotiates, wants_until_over}
use Rattle.fa_types.specs.Store.{Call, Answer}
use Rattle.fa_session.specs.Ends.{end_of_hearing}
use Rattle.fa_session.specs.Exchanges.{heard_of, Transmitted}
use Rattle.fa_session.specs.Session.{Moment, EndsEarly, Greets, Session}
use Rattle.fa_session.specs.Handshake.{HearsPiece, HearsOnce}
use Rattle.fa_session.specs.declared.stream_end.HearEnd.{HearEnd}
use Rattle.fa_session.specs.declared.stream_end.HearEnd.TheVariants.{Unread, Unsent, NoMemory}
use Rattle.fa_session.specs.declared.session_end.SessionEnd.{SessionEnd}
use Rattle.fa_session.specs.declared.session_end.SessionEnd.TheVariants.{Aborted, Closed, WriteFailed}

-- The handshake so far: what was heard was read, and what was said was written whole.
pub record IsHeard (export : List ℕ) (size : ℕ) (streams : Streams) (state : NegoState) : Type 0 where
  pub heard : List ℕ
  pub said : List ℕ
  pub same_export : state.export ≡ export
  pub same_size : state.size ≡ size
  pub at : IsAt state heard said
  pub was_read : Reads streams heard
  pub was_written : Writes streams (greeting_bytes ++ said)

-- a negotiation that goes on wants more
pub wants-more : (state : NegoState) (heard said : List ℕ) → IsAt state heard said → step_of state.stage ≡ More → 0 < wanted state.stage
wants-more state heard said at goes_on = Positive (wanted state.stage) (λ none. (wants_until_over state heard said at).0 none goes_on)
  where
    Positive : (n : ℕ) → (n ≡ 0 → ⊥) → 0 < n
    Positive n some = omega (arith, some)

module _ (export : List ℕ) (size : ℕ) where
  -- how the negotiation stands, for this export
  negotiates-at : (state : NegoState) (heard said : List ℕ) → state.export ≡ export → state.size ≡ size → IsAt state heard said → Negotiates export size heard said (step_of state.stage)
  negotiates-at state heard said same_export same_size at =
      subst (λ e. Negotiates e size heard said (step_of state.stage)) same_export (subst (λ n. Negotiates state.export n heard said (step_of state.stage)) same_size (stage_negotiates state heard said at))

  -- the greeting was written, and nothing was heard
  pub IsHeard-greeted : (a h k : Option (List ℕ)) (first : List ℕ) (state : NegoState) → first ≡ greeting_bytes → Appends h k first → state ≡ new_state export size → IsHeard export size (between a a h k) state
  IsHeard-greeted a h k first state greets written new = subst (IsHeard export size (between a a h k)) (sym new) (record {
    heard = [];
    said = [];
    same_export = refl;
    same_size = refl;
    at = starts export size;
    was_read = Consumes-nil a;
    was_written = subst (Appends h k) (greets ∙ sym (append-nil greeting_bytes)) written;
  })

  -- one more piece was heard and answered
  pub IsHeard-more : (s t : Streams) (old new : NegoState) → IsNext s t → IsHeard export size s old → new.export ≡ old.export → new.size ≡ old.size → HearsPiece t old new (Writes t) → IsHeard export size (joined s t) new
  IsHeard-more s t old new next far same_export same_size piece = record {
    heard = far.heard ++ piece.piece;
    said = far.said ++ piece.latest;
    same_export = same_export ∙ far.same_export;
    same_size = same_size ∙ far.same_size;
    at = piece.answered far.heard far.said far.at;
    was_read = Reads-joined s t far.heard piece.piece next far.was_read piece.was_read;
    was_written = subst (Writes (joined s t)) (append_assoc greeting_bytes far.said piece.latest) (Writes-joined s t (greeting_bytes ++ far.said) piece.latest next far.was_written piece.replied);
  }

  -- transmission begins
  pub Greets-at : (s : Streams) (state : NegoState) → IsHeard export size s state → step_of state.stage ≡ Go → Greets export size s
  Greets-at s state far begins = record {
    heard = far.heard;
    said = far.said;
    negotiates = subst (Negotiates export size far.heard far.said) begins (negotiates-at state far.heard far.said far.same_export far.same_size far.at);
    was_read = far.was_read;
    was_written = far.was_written;
  }

  -- a moment at which all that was said is written
  whole : (s : Streams) (state : NegoState) → IsHeard export size s state → Moment export size s
  whole s state far = record {
    heard = far.heard;
    said = far.said;
    next = step_of state.stage;
    unheard = [];
    written = greeting_bytes ++ far.said;
    missing = [];
    negotiates = negotiates-at state far.heard far.said far.same_export far.same_size far.at;
    was_read = subst (Reads s) (sym (append-nil far.heard)) far.was_read;
    was_written = far.was_written;
    output = append-nil (greeting_bytes ++ far.said);
  }

  -- a moment after which some bytes were read, and not heard
  stopped : (s t : Streams) (state : NegoState) (unheard : List ℕ) → IsNext s t → IsHeard export size s state → Reads t unheard → Writes t [] → Moment export size (joined s t)
  stopped s t state unheard next far read written = record {
    heard = far.heard;
    said = far.said;
    next = step_of state.stage;
    unheard = unheard;
    written = greeting_bytes ++ far.said;
    missing = [];
    negotiates = negotiates-at state far.heard far.said far.same_export far.same_size far.at;
    was_read = Reads-joined s t far.heard unheard next far.was_read read;
    was_written = subst (Writes (joined s t)) (append-nil (greeting_bytes ++ far.said)) (Writes-joined s t (greeting_bytes ++ far.said) [] next far.was_written written);
    output = append-nil (greeting_bytes ++ far.said);
  }

  -- a moment at which the end of the last answer is not written
  cut : (s t : Streams) (old new : NegoState) → IsNext s t → IsHeard export size s old → new.export ≡ old.export → new.size ≡ old.size → HearsPiece t old new (WritesPart t) → Moment export size (joined s t)
  cut s t old new next far same_export same_size piece = record {
    heard = far.heard ++ piece.piece;
    said = far.said ++ piece.latest;
    next = step_of new.stage;
    unheard = [];
    written = greeting_bytes ++ far.said ++ piece.replied.sent;
    missing = piece.replied.missing;
    negotiates = negotiates-at new (far.heard ++ piece.piece) (far.said ++ piece.latest) (same_export ∙ far.same_export) (same_size ∙ far.same_size) (piece.answered far.heard far.said far.at);
    was_read = subst (Reads (joined s t)) (sym (append-nil (far.heard ++ piece.piece))) (Reads-joined s t far.heard piece.piece next far.was_read piece.was_read);
    was_written = Writes-joined s t (greeting_bytes ++ far.said) piece.replied.sent next far.was_written piece.replied.appended;
    output =
        append_assoc (greeting_bytes ++ far.said) piece.replied.sent piece.replied.missing
        ∙ ap (λ end. greeting_bytes ++ far.said ++ end) (sym piece.replied.all)
        ∙ append_assoc greeting_bytes far.said piece.latest;
  }

  -- hearing ends the connection
  pub EndsEarly-hears : (s t : Streams) (old new : NegoState) (end : HearEnd) → IsNext s t → IsHeard export size s old → step_of old.stage ≡ More → new.export ≡ old.export → new.size ≡ old.size
      → HearsOnce t old new (Err end) → EndsEarly export size (joined s t) (end_of_hearing end)
  unfolding stopped cut
  EndsEarly-hears s t old new (Unsent failed) next far goes_on same_export same_size heard = (
    cut s t old new next far same_export same_size heard,
    (
      refl,
      heard.replied.some_missing,
      inr (far.heard, heard.piece, far.said, heard.latest, (old, far.same_export, far.same_size, far.at, heard.not_long), refl, refl, missing-le t.held_before t.held_after heard.latest heard.replied),
    ),
  )
  EndsEarly-hears s t old new (Unread EndOfInput) next far goes_on same_export same_size heard =
      (stopped s t old [] next far heard.0 heard.2, (refl, refl, goes_on, heard.1))
  EndsEarly-hears s t old new (Unread (Failed fault)) next far goes_on same_export same_size heard =
      (stopped s t old [] next far heard.0 heard.2, (refl, refl, goes_on))
  EndsEarly-hears s t old new (Unread TooManyReads) next far goes_on same_export same_size heard =
      (stopped s t old [] next far heard.0 heard.2, (refl, refl, goes_on))
  EndsEarly-hears s t old new NoMemory next far goes_on same_export same_size heard = (
    stopped s t old heard.0.0 next far heard.0.2 heard.1,
    (refl, goes_on, (old, far.same_export, far.same_size, far.at, heard.0.1)),
  )

  -- an option or the flags end the connection
  pub EndsEarly-aborted : (s : Streams) (state : NegoState) → IsHeard export size s state → step_of state.stage ≡ AbortedByClient → EndsEarly export size s Aborted
  unfolding whole
  EndsEarly-aborted s state far aborts = (whole s state far, (refl, refl, aborts))

  pub EndsEarly-closed : (s : Streams) (state : NegoState) (cause : CloseCause) → IsHeard export size s state → step_of state.stage ≡ ClosedByServer cause → EndsEarly export size s Closed
  unfolding whole
  EndsEarly-closed s state cause far closes = (whole s state far, (refl, refl, (cause, closes)))

  -- the greeting is not written whole
  greeting-cut : (a h k : Option (List ℕ)) → (part : IsCut h k greeting_bytes) → Moment export size (between a a h k)
  greeting-cut a h k part = record {
    heard = [];
    said = [];
    next = More;
    unheard = [];
    written = part.sent;
    missing = part.missing;
    negotiates = stage_negotiates (new_state export size) [] [] (starts export size);
    was_read = Consumes-nil a;
    was_written = part.appended;
    output = sym part.all ∙ sym (append-nil greeting_bytes);
  }

  pub EndsEarly-greeting : (a h k : Option (List ℕ)) (first : List ℕ) → first ≡ greeting_bytes → IsCut h k first → EndsEarly export size (between a a h k) WriteFailed
  unfolding greeting-cut
  EndsEarly-greeting a h k first greets part =
      let known : IsCut h k greeting_bytes = subst (IsCut h k) greets part in
      (greeting-cut a h k known, (refl, known.some_missing, inl (refl, refl)))

  -- after the handshake, transmission
  pub Session-transmits : {S : Type 0} (made : S → Call → Answer → S → Type 0) (s t : Streams) (before after : S) (end : SessionEnd) → IsNext s t → Greets export size s → Transmitted made size t before after end → Session made export size (joined s t) before after end
  Session-transmits made s t before after end next greets rest = inr (record {
    heard = greets.heard;
    said = greets.said;
    exchanges = rest.exchanges;
    last = rest.last;
    written = greeting_bytes ++ greets.said ++ rest.written;
    missing = rest.missing;
    negotiates = greets.negotiates;
    was_read = Reads-joined s t greets.heard (flat_map heard_of rest.exchanges ++ rest.last) next greets.was_read rest.was_read;
    was_written = Writes-joined s t (greeting_bytes ++ greets.said) rest.written next greets.was_written rest.was_written;
    output = append_assoc (greeting_bytes ++ greets.said) rest.written rest.missing ∙ ap (λ end. greeting_bytes ++ greets.said ++ end) rest.output;
    right = rest.right;
    asked = rest.asked;
    ends = rest.ends;
  })
