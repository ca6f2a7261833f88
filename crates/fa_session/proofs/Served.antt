-- From the parts of an exchange to the exchange, and from exchanges to transmission.
use Rattle.std.proofs.Common.{◌≡◌, ℕ, ◌<◌, List, [], ◌∷◌, ◌++◌, length, take, Option, Some, Result, Ok, Err, if◌then◌else◌, refl, sym, ap, ◌∙◌, subst, arith, append-nil, append_assoc, inl, inr}
use Rattle.std.specs.List.{flat_map, AllByRecursion}
use Rattle.std.specs.Io.KnownBytes.{Consumes}
use Rattle.std.proofs.KnownBytes.{Appends-nil, Consumes-trans, Consumes-nil}
use Rattle.std.proofs.lemmas.List.{length-take-le}
use Rattle.std.proofs.lemmas.List.Concat.{flat_map-append}
use Rattle.fa_io.specs.Streams.{Streams, Reads, Writes, EndsReading, Fills, Skips, between}
use Rattle.fa_io.specs.declared.reading.ReadEnd.{ReadEnd}
use Rattle.fa_io.specs.declared.reading.ReadEnd.TheVariants.{EndOfInput, Failed, TooManyReads}
use Rattle.fa_io.specs.declared.sending.SendFailed.{SendFailed}
use Rattle.fa_io.proofs.StreamLemmas.{IsNext, joined, Reads-joined, Writes-joined, missing-le}
use Rattle.fa_types.specs.Store.{Call, Reading, Answer}
use Rattle.fa_cmds.specs.declared.request.Request.{Request}
use Rattle.fa_cmds.specs.declared.reply.ReplyCode.{ReplyCode}
use Rattle.fa_cmds.specs.Requests.{IsRequest, request_bytes, body_length, reply_bytes, row_of}
use Rattle.fa_cmds.specs.declared.request.Command.TheVariants.{Read, Write}
use Rattle.fa_session_asking.specs.Asking.{call_of}
use Rattle.fa_session_memory.specs.Memory.{Receives}
use Rattle.fa_session.specs.Ends.{end_of_read, end_of_stream}
use Rattle.fa_session.specs.Exchanges.{Outcome, Exchange, MayCome, IsExchange, heard_of, reply_of, reply_to, Makes, Chain, IsPartOfRequest, EndsTransmission, Transmitted}
use Rattle.fa_session.specs.Serving.{ReadsBody, StopsInBody, Declines, AnswersRequest, AsksStore, IsServed}
use Rattle.fa_session.specs.declared.stream_end.StreamEnd.{StreamEnd}
use Rattle.fa_session.specs.declared.stream_end.StreamEnd.TheVariants.{Unread, Unsent}
use Rattle.fa_session.specs.declared.session_end.SessionEnd.{SessionEnd}
use Rattle.fa_session.specs.declared.session_end.SessionEnd.TheVariants.{Disconnected, Aborted, Closed, InputEnded, ReadFailed, WriteFailed, NoMemory}

-- transmission ends in part of a request where no byte comes
unread : (size : ℕ) (last : List ℕ) (left : Option (List ℕ)) (end : ReadEnd) → IsPartOfRequest last → EndsReading end left → EndsTransmission size [] last [] left (end_of_read end)
unread size last left EndOfInput part at_end = (refl, part, at_end)
unread size last left (Failed fault) part any = (refl, part)
unread size last left TooManyReads part any = (refl, part)

-- data whose bytes stop coming while they are dropped
pub StopsInBody-skips : (r : Request) (a b h : Option (List ℕ)) (end : ReadEnd) → Skips a b (body_length r) (Err end) → StopsInBody r (between a b h h) end
StopsInBody-skips r a b h end skips = (skips.0, skips.1, Appends-nil h)

-- data whose bytes stop coming while they are received
pub StopsInBody-receives : (r : Request) (a b h : Option (List ℕ)) (count before : ℕ) (memory : List ℕ) (end : ReadEnd) → body_length r ≡ count → Receives a b count before memory (Err end) → StopsInBody r (between a b h h) end
StopsInBody-receives r a b h count before memory end whole received = ((received.0.0, omega (arith, whole, received.0.1), received.0.2), received.1, Appends-nil h)

-- what a READ asks for
pub call_of-read : (r : Request) (body : List ℕ) → r.command ≡ Read → call_of r.command r body ≡ Some (Reading r.offset r.length)
call_of-read r body read = ap (λ command. call_of command r body) read

-- a READ has no data, and a WRITE as much as it says
pub body_length-read : (r : Request) → r.command ≡ Read → body_length r ≡ 0
body_length-read r read = ap (λ command. if (row_of command).has_data then r.length else 0) read

pub body_length-write : (r : Request) → r.command ≡ Write → body_length r ≡ r.length
body_length-write r write = ap (λ command. if (row_of command).has_data then r.length else 0) write

module _ {S : Type 0} (made : S → Call → Answer → S → Type 0) (size : ℕ) (r : Request) where
  -- a request that is declined, and why that is right
  pub AnswersRequest-declined : (s : Streams) (store : S) (code : ReplyCode) (outcome : Outcome) (res : Result (Unit {0}) StreamEnd)
      → ((body : List ℕ) → MayCome size r body outcome) → reply_of r.cookie outcome ≡ reply_bytes code r.cookie → Makes made store outcome store
      → Declines r code s res → AnswersRequest made size r s store store res
  AnswersRequest-declined s store code outcome (Ok done) right same asked declines = record {
    body = declines.0.0;
    outcome = outcome;
    whole = declines.0.1;
    right = right declines.0.0;
    asked = asked;
    replied = rw same declines.1;
  }
  AnswersRequest-declined s store code outcome (Err (Unsent failed)) right same asked declines = record {
    body = declines.0.0;
    outcome = outcome;
    whole = declines.0.1;
    right = right declines.0.0;
    asked = asked;
    replied = rw same declines.1;
  }
  AnswersRequest-declined s store code outcome (Err (Unread end)) right same asked declines = (declines, refl)

  -- the data was read, and the store was asked
  pub AnswersRequest-asked : (a b h k : Option (List ℕ)) (before after : S) (body : List ℕ) → ReadsBody r (between a b h k) body → AsksStore made size r body h k before after (Ok tt) → AnswersRequest made size r (between a b h k) before after (Ok tt)
  AnswersRequest-asked a b h k before after body whole asks = record {
    body = body;
    outcome = asks.outcome;
    whole = whole;
    right = asks.right;
    asked = asks.asked;
    replied = asks.replied;
  }

  pub AnswersRequest-unsent : (a b h k : Option (List ℕ)) (before after : S) (body : List ℕ) (failed : SendFailed) → ReadsBody r (between a b h k) body → AsksStore made size r body h k before after (Err failed) → AnswersRequest made size r (between a b h k) before after (Err (Unsent failed))
  AnswersRequest-unsent a b h k before after body failed whole asks = record {
    body = body;
    outcome = asks.outcome;
    whole = whole;
    right = asks.right;
    asked = asks.asked;
    replied = asks.replied;
  }

  -- after a request's 28 bytes, what follows them makes an exchange
  pub IsServed-answered : (a b c h k : Option (List ℕ)) (head : List ℕ) (before after : S) → IsRequest r → head ≡ request_bytes r → Consumes a b head → AnswersRequest made size r (between b c h k) before after (Ok tt) → IsServed made size (between a c h k) before after
  IsServed-answered a b c h k head before after fits spelled consumed follows = record {
    exchange = record { request = r; body = follows.body; outcome = follows.outcome };
    right = record { request_fits = fits; whole_body = follows.whole.0; right = follows.right };
    was_read = subst (λ front. Consumes a c (front ++ follows.body)) spelled (Consumes-trans a b c head follows.body consumed follows.whole.1);
    was_written = follows.replied;
    asked = follows.asked;
  }

  -- or transmission ends with it
  pub Transmitted-answered : (a b c h k : Option (List ℕ)) (head : List ℕ) (before after : S) (end : StreamEnd) → IsRequest r → head ≡ request_bytes r → Consumes a b head → AnswersRequest made size r (between b c h k) before after (Err end) → Transmitted made size (between a c h k) before after (end_of_stream end)
  Transmitted-answered a b c h k head before after (Unsent failed) fits spelled consumed follows =
      let e : Exchange = record { request = r; body = follows.body; outcome = follows.outcome } in
      record {
        exchanges = e ∷ [];
        last = [];
        written = follows.replied.sent;
        missing = follows.replied.missing;
        was_read = subst (Consumes a c) (ap (λ front. front ++ follows.body) spelled ∙ sym (append-nil (heard_of e)) ∙ sym (append-nil (heard_of e ++ [])))
            (Consumes-trans a b c head follows.body consumed follows.whole.1);
        was_written = follows.replied.appended;
        output = sym follows.replied.all ∙ sym (append-nil (reply_to e));
        right = (record { request_fits = fits; whole_body = follows.whole.0; right = follows.right }, tt);
        asked = (after, follows.asked, refl);
        ends = (refl, follows.replied.some_missing, ([], e, refl, missing-le h k (reply_to e) follows.replied));
      }
  Transmitted-answered a b c h k head before after (Unread end) fits spelled consumed follows =
      let more : List ℕ = follows.0.0.0 in
      record {
        exchanges = [];
        last = head ++ more;
        written = [];
        missing = [];
        was_read = Consumes-trans a b c head more consumed follows.0.0.2;
        was_written = follows.0.2;
        output = refl;
        right = tt;
        asked = follows.1;
        ends = unread size (head ++ more) c end (inr (r, more, fits, follows.0.0.1, ap (λ front. front ++ more) spelled)) follows.0.1;
      }

-- So many exchanges so far.
pub record IsSoFar {S : Type 0} (made : S → Call → Answer → S → Type 0) (size : ℕ) (streams : Streams) (before after : S) : Type 0 where
  pub exchanges : List Exchange
  pub was_read : Reads streams (flat_map heard_of exchanges)
  pub was_written : Writes streams (flat_map reply_to exchanges)
  pub right : AllByRecursion (IsExchange size) exchanges
  pub asked : Chain made before exchanges after

module _ {S : Type 0} (made : S → Call → Answer → S → Type 0) (size : ℕ) where
  -- none yet
  pub IsSoFar-none : (a h : Option (List ℕ)) (store : S) → IsSoFar made size (between a a h h) store store
  IsSoFar-none a h store = record { exchanges = []; was_read = Consumes-nil a; was_written = Appends-nil h; right = tt; asked = refl }

  -- chains one after the other
  Chain-append : (s t u : S) (es fs : List Exchange) → Chain made s es t → Chain made t fs u → Chain made s (es ++ fs) u
  Chain-append s t u [] fs first second = subst (λ m. Chain made m fs u) first second
  Chain-append s t u (e ∷ es) fs first second = (first.0, first.1, Chain-append first.0 t u es fs first.2 second)

  right-append : (es fs : List Exchange) → AllByRecursion (IsExchange size) es → AllByRecursion (IsExchange size) fs → AllByRecursion (IsExchange size) (es ++ fs)
  right-append [] fs first second = second
  right-append (e ∷ es) fs first second = (first.0, right-append es fs first.1 second)

  -- one more
  pub IsSoFar-more : (s t : Streams) (before middle after : S) → IsNext s t → IsSoFar made size s before middle → IsServed made size t middle after → IsSoFar made size (joined s t) before after
  IsSoFar-more s t before middle after next far served = record {
    exchanges = far.exchanges ++ served.exchange ∷ [];
    was_read = subst (Reads (joined s t)) (sym (flat_map-append heard_of far.exchanges (served.exchange ∷ []) ∙ ap (λ end. flat_map heard_of far.exchanges ++ end) (append-nil (heard_of served.exchange))))
        (Reads-joined s t (flat_map heard_of far.exchanges) (heard_of served.exchange) next far.was_read served.was_read);
    was_written = subst (Writes (joined s t)) (sym (flat_map-append reply_to far.exchanges (served.exchange ∷ []) ∙ ap (λ end. flat_map reply_to far.exchanges ++ end) (append-nil (reply_to served.exchange))))
        (Writes-joined s t (flat_map reply_to far.exchanges) (reply_to served.exchange) next far.was_written served.was_written);
    right = right-append far.exchanges (served.exchange ∷ []) far.right (served.right, tt);
    asked = Chain-append before middle after far.exchanges (served.exchange ∷ []) far.asked (after, served.asked, refl);
  }

  -- an end after more exchanges is an end
  EndsTransmission-behind : (es fs : List Exchange) (last missing : List ℕ) (left : Option (List ℕ)) (end : SessionEnd) → EndsTransmission size fs last missing left end → EndsTransmission size (es ++ fs) last missing left end
  EndsTransmission-behind es fs last missing left Disconnected ends = ends
  EndsTransmission-behind es fs last missing left Aborted ends = ends
  EndsTransmission-behind es fs last missing left Closed ends = ends
  EndsTransmission-behind es fs last missing left InputEnded ends = ends
  EndsTransmission-behind es fs last missing left ReadFailed ends = ends
  EndsTransmission-behind es fs last missing left WriteFailed ends =
      (ends.0, ends.1, (es ++ ends.2.0, ends.2.1, ap (λ tail. es ++ tail) ends.2.2 ∙ sym (append_assoc es ends.2.0 (ends.2.1 ∷ [])), ends.2.3))
  EndsTransmission-behind es fs last missing left NoMemory ends = ends

  -- the end of transmission, after the exchanges so far
  pub Transmitted-behind : (s t : Streams) (before middle after : S) (end : SessionEnd) → IsNext s t → IsSoFar made size s before middle → Transmitted made size t middle after end → Transmitted made size (joined s t) before after end
  Transmitted-behind s t before middle after end next far rest = record {
    exchanges = far.exchanges ++ rest.exchanges;
    last = rest.last;
    written = flat_map reply_to far.exchanges ++ rest.written;
    missing = rest.missing;
    was_read = subst (Reads (joined s t))
        (sym (append_assoc (flat_map heard_of far.exchanges) (flat_map heard_of rest.exchanges) rest.last) ∙ ap (λ front. front ++ rest.last) (sym (flat_map-append heard_of far.exchanges rest.exchanges)))
        (Reads-joined s t (flat_map heard_of far.exchanges) (flat_map heard_of rest.exchanges ++ rest.last) next far.was_read rest.was_read);
    was_written = Writes-joined s t (flat_map reply_to far.exchanges) rest.written next far.was_written rest.was_written;
    output = append_assoc (flat_map reply_to far.exchanges) rest.written rest.missing ∙ ap (λ end. flat_map reply_to far.exchanges ++ end) rest.output ∙ sym (flat_map-append reply_to far.exchanges rest.exchanges);
    right = right-append far.exchanges rest.exchanges far.right rest.right;
    asked = Chain-append before middle after far.exchanges rest.exchanges far.asked rest.asked;
    ends = EndsTransmission-behind far.exchanges rest.exchanges rest.last rest.missing t.left_after end rest.ends;
  }

  -- transmission ends with a last item, before any exchange
  pub Transmitted-last : (a b h : Option (List ℕ)) (store : S) (last : List ℕ) (end : SessionEnd) → Consumes a b last → EndsTransmission size [] last [] b end → Transmitted made size (between a b h h) store store end
  Transmitted-last a b h store last end consumed ends = record {
    exchanges = [];
    last = last;
    written = [];
    missing = [];
    was_read = consumed;
    was_written = Appends-nil h;
    output = refl;
    right = tt;
    asked = refl;
    ends = ends;
  }

  -- the bytes of a request stop coming
  pub Transmitted-stopped : (a b h : Option (List ℕ)) (store : S) (head : List ℕ) (end : ReadEnd) → length head ≡ 28 → Fills a b head (Err end) → Transmitted made size (between a b h h) store store (end_of_read end)
  Transmitted-stopped a b h store head end whole fills =
      let n = fills.0.0 in
      let e = length-take-le n head (omega (arith, fills.0.1)) in
      let short : length (take n head) < 28 = omega (arith, e, whole, fills.0.1) in
      Transmitted-last a b h store (take n head) (end_of_read end) fills.0.2 (unread size (take n head) b end (inl short) fills.1)
