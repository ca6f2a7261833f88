-- What is done for the array's order, one after the other, pages that get one more copy, and what stops it.
use Rattle.std.proofs.Common.{◌≡◌, ◌∙◌, ◌⊎◌, ◌+◌, ◌-◌, ◌^◌, ◌≤◌, ℕ, true, List, [], ◌∷◌, ◌++◌, Option, Some, None, Result, Ok, Err, IfNone, IfSome}
use Rattle.std.proofs.Common.{Bool, ap, arith, false, inl, inr, is_some, map, option_map, refl, subst, sym}
use Rattle.std.proofs.lemmas.List.{map-append}
use Rattle.std.specs.FinMap.{contains_key, get}
use Rattle.fa_mount_headers.specs.declared.judging.Standing.{Standing}
use Rattle.fa_image.specs.Image.{ImageAnswer, ImageCall}
use Rattle.fa_machine.proofs.Maps.{get-insert_same}
use Rattle.fa_machine.specs.Conditions.{batch_open}
use Rattle.fa_machine.specs.Looks.{next_thin, wants_window}
use Rattle.fa_machine.specs.Placement.{is_thin}
use Rattle.fa_machine.specs.Reading.{Admitted, Planned, results}
use Rattle.fa_machine.specs.Step.{Act, Admit, EndBatch, ReserveCopy, Step, Window}
use Rattle.fa_machine.specs.declared.answers.ReadState.TheVariants.{Ready, Waiting}
use Rattle.fa_machine.specs.declared.ids.BatchId.{BatchId}
use Rattle.fa_machine.specs.declared.places.Version.{Version}
use Rattle.fa_machine.specs.declared.refusals.AdmitRefused.{AdmitRefused}
use Rattle.fa_machine.specs.declared.refusals.ReserveCopyRefused.{ReserveCopyRefused}
use Rattle.fa_machine.specs.declared.refusals.ReserveCopyRefused.TheVariants.{Gone, NoRoom, Busy as CopyBusy, NoMemory as CopyNoMemory}
use Rattle.fa_machine.specs.declared.refusals.WindowRefused.{WindowRefused}
use Rattle.fa_shared_lock.specs.Locked.{LockedState}
use Rattle.fa_shared_lock.specs.Seats.{number_of}
use Rattle.fa_solo.specs.Rebuilding.{Copies as CopiesSo, IsStuck, Rebuilds, TriesCopy, of_copy, of_refusal, vain_looks}
use Rattle.fa_solo.specs.declared.rebuilding.Rebuilt.{Rebuilt}
use Rattle.fa_solo.specs.declared.rebuilding.Rebuilt.TheVariants.{Nothing, Tried, Stopped}
use Rattle.fa_solo_job.proofs.Chains.{awaits_goes, does_event, does_same, does_wider, for_order, goes_more, requests_for_order}
use Rattle.fa_solo_job.proofs.Changes.{Batches, batches_are}
use Rattle.fa_solo_job.proofs.Open.{goes_batches, order_batches}
use Rattle.fa_shared_lock.proofs.Holds.{join_rest, rest_same}
use Rattle.fa_solo_job.specs.Deeds.{Goes, IsDue, IsForDies, IsForOrder, IsForRequests, Makes, Stays}
use Rattle.fa_solo_job.specs.House.{House}
use Rattle.fa_solo_job.specs.Orders.{Awaits, Copies, CopiesPage, Deals, IsHalted, IsRefusal, Orders, Reads, ReadsPage, Refused, Rests, Settles}
use Rattle.fa_solo_job.specs.Orders.{Halted, InOrder, Unread, Untiring, WantsNoWindow, looks_of, tries_in}
use Rattle.fa_solo_job.specs.Inner.{AsksCopy, AwaitsBatch, Does, DoesOne, Halts, PutsInOrder, SettlesCopy, Tidies, TidiesBy, house_of}
use Rattle.fa_solo_job.specs.declared.inner.Inner.{Inner}
use Rattle.fa_types.specs.declared.numbers.Round.{Round}
use Rattle.fa_types.specs.declared.numbers.Seq.{Seq}
use Rattle.fa_shared_lock.specs.Rest.{LeavesRest}

module _ {I : Type 0} (made : I → ImageCall → ImageAnswer → I → Type 0) (array : List ℕ) (dies : List Standing) (seat : ℕ) where
  orders_more : (a b c : House I) → Orders made array dies seat a b → Orders made array dies seat b c → Orders made array dies seat a c
  orders_more a b c one Rests = one
  orders_more a b c one (Deals middle new before goes) = Deals middle new (orders_more a b middle one before) goes
  orders_more a b c one (Reads middle new before reads) = Reads middle new (orders_more a b middle one before) reads
  orders_more a b c one (Copies middle copied new before copies settles) =
      Copies middle copied new (orders_more a b middle one before) copies settles

  more_tries : (a b c : House I) (one : Orders made array dies seat a b) (two : Orders made array dies seat b c)
      → tries_in made array dies seat a c (orders_more a b c one two)
      ≡ tries_in made array dies seat a b one + tries_in made array dies seat b c two
  unfolding orders_more
  more_tries a b c one Rests = omega arith
  more_tries a b c one (Deals middle new before goes) = let e = more_tries a b middle one before in omega (arith, e)
  more_tries a b c one (Reads middle new before reads) = let e = more_tries a b middle one before in omega (arith, e)
  more_tries a b c one (Copies middle copied new before copies settles) = let e = more_tries a b middle one before in omega (arith, e)

  halted_more : (a b c : House I) → Orders made array dies seat a b → IsHalted made array dies seat b c → IsHalted made array dies seat a c
  halted_more a b c one (Refused middle tried act before refusal due step images goes) =
      Refused middle tried act (orders_more a b middle one before) refusal due step images goes
  halted_more a b c one (Unread middle read refused before reads waiting stuck goes) =
      Unread middle read refused (orders_more a b middle one before) reads waiting stuck goes

  halted_then : (a b c : House I) → IsHalted made array dies seat a b → Goes made array dies seat IsForDies b c → IsHalted made array dies seat a c
  halted_then a b c (Refused middle tried act before refusal due step images goes) more =
      Refused middle tried act before refusal due step images (goes_more made array dies seat IsForDies tried b c goes more)
  halted_then a b c (Unread middle read refused before reads waiting stuck goes) more =
      Unread middle read refused before reads waiting stuck (goes_more made array dies seat IsForDies read b c goes more)

-- the last element of a list in which each was put otherwise
last_put : {X Y : Type 0} (f : X → Y) (old new : List X) (x : X) → old ≡ new ++ x ∷ [] → map f old ≡ map f new ++ f x ∷ []
last_put f old new x is = ap (map f) is ∙ map-append f new (x ∷ [])

-- a refusal does not rest on the bytes
refusal_of : (page seq : ℕ) (bytes : List ℕ) (refused : ReserveCopyRefused) → IsRefusal (ReserveCopy page seq [] (Err refused))
    → IsRefusal (ReserveCopy page seq bytes (Err refused))
refusal_of page seq bytes NoRoom is = tt
refusal_of page seq bytes CopyBusy is = tt
refusal_of page seq bytes CopyNoMemory is = tt
refusal_of page seq bytes Gone is = absurd is

module _ {L M I A : Type 0} where
  -- the batch that was admitted
  pub asked_for : (a b : Inner L M I A) (page : ℕ) (result : Option BatchId) (answer : Result Admitted AdmitRefused)
      → IfSome result (λ batch. (planned : Planned) × (answer ≡ Ok (record { batch = batch; planned = planned })))
      → DoesOne (Admit (page ∷ []) answer) a b
      → IfSome result (λ batch. (planned : Planned) × DoesOne (Admit (page ∷ []) (Ok (record { batch = batch; planned = planned }))) a b)
  asked_for a b page (Some batch) answer is one =
      (is.0, subst (λ (r : Result Admitted AdmitRefused). DoesOne (Admit (page ∷ []) r) a b) is.1 one)
  asked_for a b page None answer is one = tt

  -- the one that was not
  pub unasked : (a b : Inner L M I A) (page : ℕ) (result : Option BatchId) (answer : Result Admitted AdmitRefused)
      → IfNone result ((refused : AdmitRefused) × (answer ≡ Err refused)) → DoesOne (Admit (page ∷ []) answer) a b
      → IfNone result ((refused : AdmitRefused) × DoesOne (Admit (page ∷ []) (Err refused)) a b)
  unasked a b page (Some batch) answer is one = tt
  unasked a b page None answer is one = (is.0, subst (λ (r : Result Admitted AdmitRefused). DoesOne (Admit (page ∷ []) r) a b) is.1 one)

  -- a slot for a copy of what was answered last
  pub asked_last : {X : Type 0} (f : X → ℕ × List ℕ) (a b : Inner L M I A) (page seq : ℕ) (old new : List X) (x : X) (payload : List ℕ)
      (result : Option (Result (Unit {0}) ReserveCopyRefused)) → old ≡ new ++ x ∷ [] → payload ≡ (f x).1
      → IfSome result (λ answer. DoesOne (ReserveCopy page seq payload answer) a b)
      → IfSome result (λ answer. AsksCopy page seq (map f old) answer a b)
  asked_last f a b page seq old new x payload None is bytes one = tt
  asked_last f a b page seq old new x payload (Some answer) is bytes one = record {
    others = map f new;
    given = (f x).0;
    bytes = (f x).1;
    last = last_put f old new x is;
    asks = subst (λ (l : List ℕ). DoesOne (ReserveCopy page seq l answer) a b) bytes one;
  }

  -- an event, if its condition held
  pub one_if_some : {X : Type 0} (a b : Inner L M I A) (result : Option X) (act : X → Act)
      → IfSome result (λ x. Step a.locked.core (act x) b.locked.core) → LeavesRest a.locked a.seat b.locked b.seat
      → b.images.items ≡ a.images.items → b.dies.items ≡ a.dies.items → IfSome result (λ x. DoesOne (act x) a b)
  one_if_some a b (Some x) act step left images dies = record { step = step; left = left; images = images; dies = dies }
  one_if_some a b None act step left images dies = tt

  -- what is told by the numbers of the array and its seat, which stay
  its : (a b : Inner L M I A) → LeavesRest a.locked a.seat b.locked b.seat → b.dies.items ≡ a.dies.items
      → (T : List ℕ → List Standing → ℕ → Type 0) → T b.locked.number b.dies.items (number_of b.seat)
      → T a.locked.number a.dies.items (number_of a.seat)
  its a b left dies T is =
      subst (λ (n : ℕ). T a.locked.number a.dies.items n) left.number
      (subst (λ (d : List Standing). T a.locked.number d (number_of b.seat)) dies
      (subst (λ (x : List ℕ). T x b.dies.items (number_of b.seat)) (ap (λ (l : LockedState). l.number) left.rest) is))

module _ {L M I A : Type 0} (made : I → ImageCall → ImageAnswer → I → Type 0) where
  pub one_does : (P : Act → Type 0) (act : Act) (a b : Inner L M I A) → P act → IsDue a.locked.core act → DoesOne act a b → Does made P a b
  one_does P act a b may due one = does_event made P a b act may due one.step one.left one.images one.dies

  -- no event, if its condition did not hold
  pub same_if_none : {X : Type 0} (C : Type 0) (a b : Inner L M I A) (result : Option X) → IfNone result (C × (b.locked.core ≡ a.locked.core))
      → LeavesRest a.locked a.seat b.locked b.seat → b.images.items ≡ a.images.items → b.dies.items ≡ a.dies.items
      → IfNone result (Does made IsForOrder a b)
  same_if_none C a b (Some x) same left images dies = tt
  same_if_none C a b None same left images dies = does_same made IsForOrder a b same.1 left images dies

  pub tidies_none : (a : Inner L M I A) → Tidies made a a
  tidies_none a = record { orders = Rests; left = rest_same _ _; dies = refl }

  pub tidies_more : (a b c : Inner L M I A) → Tidies made a b → Tidies made b c → Tidies made a c
  tidies_more a b c one two = record {
    orders = orders_more made a.locked.number a.dies.items (number_of a.seat) (house_of a) (house_of b) (house_of c) one.orders
        (its a b one.left one.dies (λ x d n. Orders made x d n (house_of b) (house_of c)) two.orders);
    left = join_rest one.left two.left;
    dies = two.dies ∙ one.dies;
  }

  pub tidies_deeds : (a b : Inner L M I A) → Does made IsForOrder a b → Tidies made a b
  tidies_deeds a b does = record { orders = Deals (house_of a) (house_of b) Rests does.goes; left = does.left; dies = does.dies }

  pub tidies_for_dies : (a b : Inner L M I A) → Does made IsForDies a b → Tidies made a b
  tidies_for_dies a b does = tidies_deeds a b (does_wider made IsForDies IsForOrder for_order a b does)

  pub tidies_for_requests : (a b : Inner L M I A) → Does made IsForRequests a b → Tidies made a b
  tidies_for_requests a b does = tidies_deeds a b (does_wider made IsForRequests IsForOrder requests_for_order a b does)

  -- so many tries, one after the other
  pub by_more : (m n : ℕ) (a b c : Inner L M I A) → TidiesBy made m a b → TidiesBy made n b c → TidiesBy made (m + n) a c
  by_more m n a b c one two =
      let there = its a b one.tidies.left one.tidies.dies
      (λ x d s. (o : Orders made x d s (house_of b) (house_of c)) × (n ≤ tries_in made x d s (house_of b) (house_of c) o))
      (two.tidies.orders, two.many) in
      record {
        tidies = record {
          orders = orders_more made a.locked.number a.dies.items (number_of a.seat) (house_of a) (house_of b) (house_of c) one.tidies.orders there.0;
          left = join_rest one.tidies.left two.tidies.left;
          dies = two.tidies.dies ∙ one.tidies.dies;
        };
        many = let e = more_tries made a.locked.number a.dies.items (number_of a.seat) (house_of a) (house_of b) (house_of c) one.tidies.orders there.0 in
            let few = one.many in let more = there.1 in omega (arith, e, few, more);
      }

  pub by_fewer : (m n : ℕ) (a b : Inner L M I A) → m ≤ n → TidiesBy made n a b → TidiesBy made m a b
  by_fewer m n a b fewer by = record { tidies = by.tidies; many = let many = by.many in omega (arith, fewer, many) }

  pub by_any : (a b : Inner L M I A) → Tidies made a b → TidiesBy made 0 a b
  by_any a b tidies = record { tidies = tidies; many = omega arith }

  pub by_then : (n : ℕ) (a b c : Inner L M I A) → TidiesBy made n a b → Tidies made b c → TidiesBy made n a c
  by_then n a b c one two = by_fewer n (n + 0) a c (omega arith) (by_more n 0 a b c one (by_any b c two))

  pub by_behind : (n : ℕ) (a b c : Inner L M I A) → Tidies made a b → TidiesBy made n b c → TidiesBy made n a c
  by_behind n a b c one two = by_fewer n (0 + n) a c (omega arith) (by_more 0 n a b c (by_any a b one) two)

  -- something stopped it behind what was done, and jobs were made behind that
  pub halts_behind : (a b c : Inner L M I A) → Tidies made a b → Halts made b c → Halts made a c
  halts_behind a b c one two = record {
    tidies = tidies_more a b c one two.tidies;
    halted = halted_more made a.locked.number a.dies.items (number_of a.seat) (house_of a) (house_of b) (house_of c) one.orders
        (its a b one.left one.dies (λ x d n. IsHalted made x d n (house_of b) (house_of c)) two.halted);
  }

  pub halts_then : (a b c : Inner L M I A) → Halts made a b → Does made IsForDies b c → Halts made a c
  halts_then a b c one does = record {
    tidies = tidies_more a b c one.tidies (tidies_for_dies b c does);
    halted = halted_then made a.locked.number a.dies.items (number_of a.seat) (house_of a) (house_of b) (house_of c) one.halted
        (its a b one.tidies.left one.tidies.dies (λ x d n. Goes made x d n IsForDies (house_of b) (house_of c)) does.goes);
  }

  -- an event that was refused
  pub halts_at : (a b : Inner L M I A) (act : Act) → IsForOrder act → IsRefusal act → IsDue a.locked.core act → DoesOne act a b → Halts made a b
  halts_at a b act may refusal due one = record {
    tidies = tidies_deeds a b (one_does IsForOrder act a b may due one);
    halted = Refused (house_of a) (house_of b) act Rests refusal due one.step one.images Stays;
  }

  -- a window that was asked for
  pub window_tried : (a b : Inner L M I A) (die rounds : ℕ) (answer : Result Round WindowRefused) → wants_window a.locked.core.page_map die ≡ true
      → DoesOne (Window die rounds answer) a b → TidiesBy made 1 a b
  window_tried a b die rounds answer due one = record {
    tidies = record {
      orders = Deals (house_of a) (house_of b) Rests (Makes (house_of a) (house_of b) (Window die rounds answer) Stays tt due one.step one.images);
      left = one.left;
      dies = one.dies;
    };
    many = omega arith;
  }

  -- a batch of a page that was refused
  pub refused_batch : (a b : Inner L M I A) (page : ℕ) (refused : AdmitRefused) → is_thin a.locked.core.copies a.locked.core.page_map page ≡ true
      → DoesOne (Admit (page ∷ []) (Err refused)) a b → Rebuilds made Stopped a b
  refused_batch a b page refused due one = inl (halts_at a b (Admit (page ∷ []) (Err refused)) tt tt due one)

  -- one from its Admit to its end
  module _ (a b c d : Inner L M I A) (page looks : ℕ) (admitted : Admitted) (answers : List (ℕ × List ℕ))
      (due : is_thin a.locked.core.copies a.locked.core.page_map page ≡ true) (asks : DoesOne (Admit (page ∷ []) (Ok admitted)) a b)
      (waits : AwaitsBatch made admitted.batch.0 looks b c) (ends : DoesOne (EndBatch admitted.batch.0 answers) c d) where
    abbrev reads : ReadsPage made a.locked.number a.dies.items (number_of a.seat) (house_of a) (house_of d)
    reads = record {
      page = page;
      admitted = admitted;
      looks = looks;
      answers = answers;
      asked = house_of b;
      waited = house_of c;
      due = due;
      asks = asks.step;
      waits = its a b asks.left asks.dies (λ x s n. Awaits made x s n admitted.batch.0 (house_of b) looks (house_of c)) waits.waits;
      ends = ends.step;
      images = (asks.images, ends.images);
    }

    left_behind : LeavesRest a.locked a.seat d.locked d.seat
    left_behind = join_rest (join_rest asks.left waits.left) ends.left

    dies_behind : d.dies.items ≡ a.dies.items
    dies_behind = ends.dies ∙ waits.dies ∙ asks.dies

    read_tried : TidiesBy made (1 + looks) a d
    read_tried = record {
      tidies = record { orders = Reads (house_of a) (house_of d) Rests reads; left = left_behind; dies = dies_behind };
      many = omega arith;
    }

    copied : (e : Inner L M I A) (seq : Seq) (o : Option Version) → get a.locked.core.page_map.versions page ≡ o
        → option_map (λ version. version.seq) o ≡ Some seq → results c.locked.core admitted.batch.0 ≡ Ready
        → AsksCopy page seq.0 answers (Ok tt) d e
        → CopiesPage made a.locked.number a.dies.items (number_of a.seat) (house_of a) (house_of e)
    copied e seq None is found ready copy = absurd (let none : None ≡ Some seq = found in cc)
    copied e seq (Some version) is found ready copy =
        let same : version.seq ≡ seq = let some : Some version.seq ≡ Some seq = found in cc in
        record {
          page = page;
          version = version;
          admitted = admitted;
          others = copy.others;
          given = copy.given;
          bytes = copy.bytes;
          asked = house_of b;
          waited = house_of c;
          ended = house_of d;
          last = is;
          due = due;
          asks = asks.step;
          waits = its a b asks.left asks.dies (λ x s n. Goes made x s n IsForDies (house_of b) (house_of c))
              (awaits_goes made b.locked.number b.dies.items (number_of b.seat) admitted.batch.0 (house_of b) looks (house_of c) waits.waits);
          ready = ready;
          ends = subst (λ (l : List (ℕ × List ℕ)). Step c.locked.core (EndBatch admitted.batch.0 l) d.locked.core) copy.last ends.step;
          reserves = subst (λ (s : Seq). Step d.locked.core (ReserveCopy page s.0 copy.bytes (Ok tt)) e.locked.core) (sym same) copy.asks.step;
          images = (asks.images, ends.images, copy.asks.images);
        }

    -- a copy that was reserved, and looked at in vain so often
    copy_tried : (z : Inner L M I A) (seq : Seq) → option_map (λ version. version.seq) (get a.locked.core.page_map.versions page) ≡ Some seq
        → results c.locked.core admitted.batch.0 ≡ Ready → (tries : TriesCopy made page seq.0 answers d z) → (n : ℕ)
        → n ≤ vain_looks made page seq.0 answers d z tries → TidiesBy made (1 + n) a z
    copy_tried z seq found ready tries n many =
        let e : Inner L M I A = tries.middle in
        let left : LeavesRest a.locked a.seat e.locked e.seat = join_rest left_behind tries.asked.asks.left in
        let same : e.dies.items ≡ a.dies.items = tries.asked.asks.dies ∙ dies_behind in
        let there = its a e left same
        (λ x s k. (o : Settles made x s k (house_of e) (house_of z)) × (n ≤ looks_of made x s k (house_of e) (house_of z) o))
        (tries.settled.settles, many) in
        record {
          tidies = record {
            orders = Copies (house_of a) (house_of e) (house_of z) Rests
                (copied e seq (get a.locked.core.page_map.versions page) refl found ready tries.asked) there.0;
            left = join_rest left tries.settled.left;
            dies = tries.settled.dies ∙ same;
          };
          many = let most = there.1 in omega (arith, most);
        }

    -- what came of a page that was read
    pub rebuilt : (z : Inner L M I A) (seq : Seq) (result : Rebuilt)
        → option_map (λ version. version.seq) (get a.locked.core.page_map.versions page) ≡ Some seq
        → results c.locked.core admitted.batch.0 ≡ Ready → CopiesSo made page seq.0 answers result d z → Rebuilds made result a z
    rebuilt z seq Nothing found ready copies = absurd copies
    rebuilt z seq Tried found ready (inl does) =
        by_then 1 a d z (by_fewer 1 (1 + looks) a d (omega arith) read_tried) (tidies_deeds d z does)
    rebuilt z seq Tried found ready (inr tries) = by_fewer 1 (1 + 0) a z (omega arith) (copy_tried z seq found ready tries 0 (omega arith))
    rebuilt z seq Stopped found ready (inl (refused, refusal, asked)) =
        inl (halts_behind a d z read_tried.tidies
        (halts_at d z (ReserveCopy page seq.0 asked.bytes (Err refused)) tt (refusal_of page seq.0 asked.bytes refused refusal) tt asked.asks))
    rebuilt z seq Stopped found ready (inr (tries, many)) =
        inr (by_fewer (2 ^ 64 - 1) (1 + (2 ^ 64 - 1)) a z (omega arith) (copy_tried z seq found ready tries (2 ^ 64 - 1) many))

    -- what came of one that has not all of its answers
    pub not_read : ((results c.locked.core admitted.batch.0 ≡ Waiting) × IsStuck c.locked.core) ⊎ (2 ^ 64 - 1 ≤ looks) → Rebuilds made Stopped a d
    not_read (inl (waiting, (refused, stuck))) =
        inl (record { tidies = read_tried.tidies; halted = Unread (house_of a) (house_of d) refused Rests reads waiting stuck Stays })
    not_read (inr many) = inr (by_fewer (2 ^ 64 - 1) (1 + looks) a d (omega (arith, many)) read_tried)

    -- what came of one that is torn
    pub torn : Rebuilds made Tried a d
    torn = by_fewer 1 (1 + looks) a d (omega arith) read_tried

  -- behind what was done something stopped it, or was tried too often
  pub stops_behind : (n : ℕ) (a b c : Inner L M I A) → Tidies made a b → Halts made b c ⊎ TidiesBy made n b c → Halts made a c ⊎ TidiesBy made n a c
  stops_behind n a b c tidies (inl halts) = inl (halts_behind a b c tidies halts)
  stops_behind n a b c tidies (inr by) = inr (by_behind n a b c tidies by)

  -- nothing is left to be done
  pub in_order : (a b c : Inner L M I A) → Tidies made a b → WantsNoWindow b.locked.core
      → (c ≡ b) × (next_thin b.locked.core.copies b.locked.core.page_map ≡ None) → PutsInOrder made a c
  in_order a b c tidies windows (same, thin) =
      subst (λ (r : Inner L M I A). PutsInOrder made a r) (sym same)
      (record { tidies = tidies; done = InOrder (record { windows = windows; copies = thin }) })

  -- something stopped it, and jobs were made behind that
  pub out_of_order : (a b c : Inner L M I A) → Halts made a b ⊎ TidiesBy made (2 ^ 64 - 1) a b → Does made IsForDies b c → PutsInOrder made a c
  out_of_order a b c (inl halts) does =
      let all = halts_then a b c halts does in record { tidies = all.tidies; done = Halted all.halted }
  out_of_order a b c (inr by) does =
      let all = by_then (2 ^ 64 - 1) a b c by (tidies_for_dies b c does) in record { tidies = all.tidies; done = Untiring all.many }

  -- what came of a copy
  module _ (d : Inner L M I A) (page seq : ℕ) (answers : List (ℕ × List ℕ)) where
    pub copies_ok : (e z : Inner L M I A) (ended : Bool) (result : Rebuilt) → AsksCopy page seq answers (Ok tt) d e
        → (settled : SettlesCopy made e z) × (ended ≡ false → 2 ^ 64 - 1
        ≤ looks_of made e.locked.number e.dies.items (number_of e.seat) (house_of e) (house_of z) settled.settles)
        → result ≡ of_copy ended → CopiesSo made page seq answers result d z
    copies_ok e z ended result asked (settled, many) is =
        subst (λ (r : Rebuilt). CopiesSo made page seq answers r d z) (sym is) (by ended many)
      where
        by : (ended : Bool) → (ended ≡ false → 2 ^ 64 - 1
            ≤ looks_of made e.locked.number e.dies.items (number_of e.seat) (house_of e) (house_of z) settled.settles)
            → CopiesSo made page seq answers (of_copy ended) d z
        by true many = inr (record { middle = e; asked = asked; settled = settled })
        by false many = inr (record { middle = e; asked = asked; settled = settled }, many refl)

    pub copies_err : (z : Inner L M I A) (refused : ReserveCopyRefused) (result : Rebuilt) → AsksCopy page seq answers (Err refused) d z
        → result ≡ of_refusal refused → CopiesSo made page seq answers result d z
    copies_err z refused result asked is = subst (λ (r : Rebuilt). CopiesSo made page seq answers r d z) (sym is) (by refused asked)
      where
        by : (refused : ReserveCopyRefused) → AsksCopy page seq answers (Err refused) d z → CopiesSo made page seq answers (of_refusal refused) d z
        by Gone asked = inl (one_does IsForOrder (ReserveCopy page seq asked.bytes (Err Gone)) d z tt tt asked.asks)
        by NoRoom asked = inl (NoRoom, tt, asked)
        by CopyBusy asked = inl (CopyBusy, tt, asked)
        by CopyNoMemory asked = inl (CopyNoMemory, tt, asked)

  -- a batch that was admitted is open while it is waited for
  pub stays_open : (a b c : Inner L M I A) (page looks : ℕ) (admitted : Admitted) → DoesOne (Admit (page ∷ []) (Ok admitted)) a b
      → AwaitsBatch made admitted.batch.0 looks b c → batch_open c.locked.core admitted.batch.0 ≡ true
  stays_open a b c page looks admitted asks waits =
      goes_batches made b.locked.number b.dies.items (number_of b.seat) IsForDies (λ core act may. order_batches core act (for_order act may))
      (house_of b) (house_of c)
      (awaits_goes made b.locked.number b.dies.items (number_of b.seat) admitted.batch.0 (house_of b) looks (house_of c) waits.waits) admitted.batch.0
      ∙ ap (λ (m : Batches). contains_key m admitted.batch.0)
      (batches_are a.locked.core (Admit (page ∷ []) (Ok admitted)) b.locked.core asks.step.does)
      ∙ ap is_some (get-insert_same a.locked.core.batches admitted.batch.0 _)
