-- What becomes of a read, stage by stage.
use Rattle.fa_solo_laws.proofs.Given.{Gives, fresh_gives, run_gives}
use Rattle.fa_solo_laws.proofs.Listed.{IsOpen, admitted_open, open_gives, run_open}
use Rattle.fa_solo_laws.specs.Unwritten.{EndsNoBatch, WritesNothing}
use Rattle.fa_solo_laws.proofs.Going.{Goes, Laws, SameCause, cause_kept, goes_on}
use Rattle.fa_solo_laws.proofs.Gone.{gone_lost}
use Rattle.fa_solo_laws.proofs.Pages.{among_from, pages_numbered, parts_there, range_allowed}
use Rattle.fa_solo_laws.proofs.PlainBytes.{export_long, page_long}
use Rattle.fa_solo_laws.proofs.RangePages.{IsInside, IsOf, of_back, of_front, page_low, page_met, page_of, part_fits, parts_are, upto, upto_past}
use Rattle.fa_solo_laws.specs.Asked.{Asked, GivesUp, IsAnothers, Makes, Meanwhile, Moment, Readies, Strayed, Turn, TurnsTo}
use Rattle.fa_solo_laws.specs.Shown.{store_of}
use Rattle.fa_laws.proofs.Answering.{reached_holds}
use Rattle.fa_machine.proofs.Lists.{among-filter, among-range, among_low, found_passes, none_passes}
use Rattle.fa_machine.specs.Among.{Among}
use Rattle.fa_machine.specs.Copies.{is_lost}
use Rattle.fa_machine.specs.Reading.{Admitted, batch_at as entry_at, is_late, left_of, results}
use Rattle.fa_machine.specs.Run.{Event, Happening, Happens, HappensEvent}
use Rattle.fa_machine.specs.State.{Core, OpenBatch}
use Rattle.fa_machine.specs.Step.{Act, Admit, EndBatch, Fold, Replan, is_distinct, is_page}
use Rattle.fa_machine.specs.World.{World, plain_page}
use Rattle.fa_machine.specs.declared.answers.ReadState.TheVariants.{Ready}
use Rattle.fa_machine.specs.declared.refusals.AdmitRefused.TheVariants.{Lost as PageLost, CalendarFull, Spent as RoundsSpent, NoMemory as AdmitNoMemory}
use Rattle.fa_shared_lock.specs.Founded.{IsBarred, IsFounded}
use Rattle.fa_shared_lock.specs.Moves.{Moves, Strays}
use Rattle.fa_shared_request.specs.Ops.{Prepares}
use Rattle.fa_shared_steps.specs.Prepared.{after_batch, has_part, until}
use Rattle.fa_shared_steps.specs.Ranges.{first_page, part_of, past_page}
use Rattle.fa_shared_steps.specs.declared.range.Range.{Range}
use Rattle.fa_shared_steps.specs.declared.request.Task.{Task}
use Rattle.fa_shared_steps.specs.declared.stage.Purpose.TheVariants.{Answer}
use Rattle.fa_shared_request.specs.Waiting.{without_room}
use Rattle.fa_shared_steps.specs.declared.stage.Stage.{Stage}
use Rattle.fa_shared_steps.specs.declared.stage.Stage.TheVariants.{Asking, Ended, Leaving, Listing, Reading, Reserving, Sorting}
use Rattle.fa_types.proofs.Lengths.{length-bytes_at}
use Rattle.fa_types.specs.Plain.{HasPages, export}
use Rattle.fa_types.specs.Store.{HasCause, IsMet, bytes_at}
use Rattle.fa_types.specs.declared.blocks.BlockFault.{BlockFault}
use Rattle.fa_types.specs.declared.blocks.BlockFault.TheVariants.{Lost, NoRoom, Spent}
use Rattle.fa_types.specs.declared.geometry.Geometry.{Geometry}
use Rattle.fa_types.specs.declared.numbers.Page.{Page}
use Rattle.std.proofs.Common.{Bool, List, None, Option, Some, [], ap, arith, false, inl, inr, length, map, refl, subst, sym, true, ℕ}
use Rattle.std.proofs.Common.{◌*◌, ◌+◌, ◌++◌, ◌-◌, ◌<◌, ◌∙◌, ◌∷◌, ◌≡◌, ◌≤◌}
use Rattle.std.proofs.lemmas.Bool.{cases_lt, eqb-false, false_from_ne_true, false≢true, ltb-false, ltb-true, or_left, or_right, true≢false}
use Rattle.std.specs.FinMap.{empty}
use Rattle.std.specs.List.{flat_map, list_all, range_with_len}
use Rattle.std.specs.Prelude.{Err, Ok, if◌then◌else◌, is_some, min, nat_le, nat_lt, unwrap_or, ◌&&◌, ◌==◌}

-- The range is one of the array's bytes.
pub record Fits (first : World) (r : Range) : Type 0 where
  pub same : r.page_bytes ≡ first.core.page_map.geometry.page_bytes
  pub inside : IsInside first.core.page_map.geometry.pages r
  pub sized : HasPages r.page_bytes first.plain
  pub many : length first.plain ≡ first.core.page_map.geometry.pages

-- a read wants no room
abbrev pub MayRead : BlockFault → Type 0
MayRead NoRoom = ⊥
MayRead fault = Unit {0}

module _ (r : Range) (first : World) where
  -- none of these pages was lost at the beginning
  abbrev pub AreThere : ℕ → ℕ → Type 0
  AreThere from past = (page : ℕ) → from ≤ page → page < past → is_lost first.core.page_map page ≡ false

  -- the answer has what the range has before this page
  pub record AtPage (page : ℕ) (answer : List ℕ) : Type 0 where
    pub from : first_page r ≤ page
    pub past : page < past_page r
    pub has : answer ≡ bytes_at r.from (upto r page) (export first.plain)
    pub there : AreThere (first_page r) page

  -- the pages of the next batch
  pub record IsNext (page next : ℕ) (answer : List ℕ) : Type 0 where
    pub at : AtPage page answer
    pub next_is : next ≡ until r page

  -- a batch of these pages is open, and what it has of them is what the plain array had at the beginning
  pub record IsRead (batch page next : ℕ) (w : World) : Type 0 where
    pub gives : Gives batch first.plain w
    pub opened : IsOpen batch (range_with_len page (next - page)) w.core.batches
    pub there : AreThere page next

  abbrev pub Cause : World → BlockFault → Type 0
  Cause w fault = HasCause (store_of w) r.from (r.to - r.from) fault × MayRead fault

  module _ {A : Type 0} where
    abbrev pub ReadsAt : World → Stage A → List ℕ → Type 0
    ReadsAt w (Listing (Answer page)) answer = AtPage page answer
    ReadsAt w (Asking (Answer next) pages) answer =
        (page : ℕ) × IsNext page next answer × (map (λ (p : Page). p.0) pages ≡ range_with_len page (next - page))
    ReadsAt w (Reading (Answer next) batch) answer = (page : ℕ) × IsNext page next answer × IsRead batch.0 page next w
    ReadsAt w (Leaving (Answer next) batch fault) answer = (pages : List ℕ) × IsOpen batch.0 pages w.core.batches × Cause w fault
    ReadsAt w (Sorting (Answer next) answers) answer =
        (page : ℕ) × IsNext page next answer × AreThere page next
        × (map {B = ℕ × List ℕ} (λ e. (e.0.0, e.1.items)) answers.items ≡ map {B = ℕ × List ℕ} (λ p. (p, plain_page first p)) (range_with_len page (next - page)))
    ReadsAt w (Ended None) answer =
        (answer ≡ bytes_at r.from (r.to - r.from) (export first.plain)) × ((page : ℕ) → IsOf r page → is_lost first.core.page_map page ≡ false)
    ReadsAt w (Ended (Some fault)) answer = Cause w fault
    ReadsAt w stage answer = ⊥

-- a batch ends before the page behind the range
next_bounds : (past page next : ℕ) → page < past → next ≡ min past (page + 1024)
    → (page + (next - page) ≡ next) × (next ≤ past) × (next - page ≤ 1024) × (page < next)
next_bounds past page next low is = (omega (arith, low, is), omega (arith, is), omega (arith, is), omega (arith, low, is))

module _ (A : Type 0) (laws : Laws) (t : Task) (seat : ℕ) (bytes : List ℕ) (first : World) (f : Fits first t.range) where
  abbrev At : World → Stage A → List ℕ → Type 0
  At = ReadsAt t.range first

  bounds : (page next : ℕ) (answer : List ℕ) → IsNext t.range first page next answer
      → (page + (next - page) ≡ next) × (next ≤ past_page t.range) × (next - page ≤ 1024) × (page < next)
  bounds page next answer n = next_bounds (past_page t.range) page next n.at.past n.next_is

  -- a page of the next batch is one of the range
  of_next : (page next : ℕ) (answer : List ℕ) → IsNext t.range first page next answer → (p : ℕ) → page ≤ p → p < next → IsOf t.range p
  of_next page next answer n p from to =
      let b = bounds page next answer n in let front = n.at.from in let last = b.1 in
      page_of first.core.page_map.geometry.pages t.range f.inside p (omega (arith, front, from)) (omega (arith, to, last))

  among_next : (page next : ℕ) (answer : List ℕ) → IsNext t.range first page next answer → (p : ℕ) → Among p (range_with_len page (next - page))
      → IsOf t.range p
  among_next page next answer n p i =
      let b = bounds page next answer n in let low = among_low page (next - page) p i in let same = b.0 in
      of_next page next answer n p (among_from page (next - page) p i) (omega (arith, low, same))

  size_is : (w : World) → Goes first w → t.range.page_bytes ≡ w.core.page_map.geometry.page_bytes
  size_is w g = f.same ∙ ap (λ (geometry : Geometry). geometry.page_bytes) (sym g.geometry)

  -- a page of the range that is lost now
  lost_cause : (w : World) → Goes first w → (p : ℕ) → IsOf t.range p → is_lost w.core.page_map p ≡ true → Cause t.range first w Lost
  lost_cause w g p of_range lost = (
    inr (
      p,
      lost,
      subst (λ size. IsMet size t.range.from (t.range.to - t.range.from) p) (size_is w g) (page_met first.core.page_map.geometry.pages t.range f.inside p of_range),
    ),
    tt,
  )

  late_cause : (w after : World) → after.core ≡ w.core → is_late w.core.calendar ≡ true → Cause t.range first after Spent
  late_cause w after same late = (or_left _ _ (or_right _ _ (ap (λ (c : Core). is_late c.calendar) same ∙ late)), tt)

  -- a page that is not lost now was not at the beginning
  was_there : (w : World) → Goes first w → (p : ℕ) → is_lost w.core.page_map p ≡ false → is_lost first.core.page_map p ≡ false
  was_there w g p there = false_from_ne_true _ (λ lost. true≢false (sym (gone_lost p w.core (g.gone p lost)) ∙ there))

  read_on : (batch page next : ℕ) (w after : World) → Goes first w → IsRead t.range first batch page next w → (happening : Happening)
      → Happens w happening after → WritesNothing happening → EndsNoBatch batch happening → IsRead t.range first batch page next after
  read_on batch page next w after g read happening happens none unended = record {
    gives = (run_gives batch first.plain w (reached_holds w g.reached) (happening ∷ []) after read.gives (after, happens, refl) (none, tt)).1;
    opened = run_open batch (range_with_len page (next - page)) w (happening ∷ []) after read.opened (after, happens, refl) (unended, tt);
    there = read.there;
  }

  admitted : (w after : World) (answer : List ℕ) (page next : ℕ) (asked : List ℕ) (made : Admitted) → Goes first w
      → IsNext t.range first page next answer → asked ≡ range_with_len page (next - page) → HappensEvent w (Admit asked (Ok made)) after
      → IsRead t.range first made.batch.0 page next after
  admitted w after answer page next asked made g n same e =
      let h = reached_holds w g.reached in
      let b = bounds page next answer n in let sum = b.0 in
      let fresh = fresh_gives w h made.batch.0 e.step.does.1 in
      let gives = (run_gives made.batch.0 w.plain w h (Event (Admit asked (Ok made)) ∷ []) after fresh (after, e, refl) (tt, tt)).1 in
      record {
        gives = subst (λ plain. Gives made.batch.0 plain after) g.plain gives;
        opened = subst (λ pages. IsOpen made.batch.0 pages after.core.batches) same (admitted_open w after asked made e);
        there = λ p from to. was_there w g p
            (none_passes (is_lost w.core.page_map) asked e.step.does.0.0 p
            (subst (Among p) (sym same) (among-range page (next - page) p from (omega (arith, to, sum)))));
      }

  -- the pages of a batch that is open
  open_pages : (batch : ℕ) (pages : List ℕ) (core : Core) → IsOpen batch pages core.batches → (entry_at core batch).pages ≡ pages
  open_pages batch pages core k =
      ap (λ (o : Option OpenBatch). (unwrap_or o (record { pages = []; answers = empty })).pages) k.found ∙ k.lists

  -- a page that is left of a batch is one of the range
  left_of_range : (w : World) (batch page next : ℕ) (answer : List ℕ) → IsNext t.range first page next answer → IsRead t.range first batch page next w
      → (p : ℕ) → Among p (left_of w.core batch) → IsOf t.range p
  left_of_range w batch page next answer n read p i =
      among_next page next answer n p
      (subst (Among p) (open_pages batch (range_with_len page (next - page)) w.core read.opened) (among-filter _ p (entry_at w.core batch).pages i).0)

  -- what is sorted goes behind the answer so far
  sorted : (page next : ℕ) (answer after : List ℕ) (given : List (ℕ × List ℕ)) → IsNext t.range first page next answer
      → given ≡ map {B = ℕ × List ℕ} (λ p. (p, plain_page first p)) (range_with_len page (next - page))
      → after ≡ answer ++ flat_map (λ (e : ℕ × List ℕ). part_of t.range e.0 e.1) given
      → after ≡ bytes_at t.range.from (upto t.range next) (export first.plain)
  sorted page next answer after given n same is =
      let b = bounds page next answer n in let sum = b.0 in
      is ∙ (λ i. n.at.has i ++ flat_map (λ (e : ℕ × List ℕ). part_of t.range e.0 e.1) (same i))
      ∙ parts_are first.core.page_map.geometry.pages t.range f.inside first.plain f.sized f.many page (next - page)
      (λ p from to. of_next page next answer n p from (omega (arith, to, sum)))
      ∙ ap (λ p. bytes_at t.range.from (upto t.range p) (export first.plain)) sum

  there_on : (page next : ℕ) → AreThere t.range first (first_page t.range) page → AreThere t.range first page next
      → AreThere t.range first (first_page t.range) next
  there_on page next before here p from to =
      elim (cases_lt p page) [ inl low ↦ before p from low | inr high ↦ here p high to ]

  all_long : length (export first.plain) ≡ first.core.page_map.geometry.pages * t.range.page_bytes
  all_long = export_long t.range.page_bytes first.plain f.sized ∙ ap (λ n. n * t.range.page_bytes) f.many

  -- the end of a read whose last batch was sorted
  gathered : (w : World) (page next : ℕ) (answer after : List ℕ) → IsNext t.range first page next answer → AreThere t.range first page next
      → after ≡ bytes_at t.range.from (upto t.range next) (export first.plain) → At w (after_batch t.range next after) after
  gathered w page next answer after n here is = by_past (nat_lt next (past_page t.range)) refl
    where
      until_next : AreThere t.range first (first_page t.range) next
      until_next = there_on page next n.at.there here

      ended : past_page t.range ≤ next → (b : Bool) → (length after == t.range.to - t.range.from) ≡ b
          → At w (if b then Ended None else Ended (Some Lost)) after
      ended high true long = (
        is ∙ ap (λ count. bytes_at t.range.from count (export first.plain)) (upto_past first.core.page_map.geometry.pages t.range f.inside next high),
        λ p of_range. until_next p (page_front p of_range) (page_back p of_range high),
      )
        where
          page_front : (p : ℕ) → IsOf t.range p → first_page t.range ≤ p
          page_front p of_range = of_front first.core.page_map.geometry.pages t.range f.inside p of_range

          page_back : (p : ℕ) → IsOf t.range p → past_page t.range ≤ next → p < next
          page_back p of_range high = let low = of_back first.core.page_map.geometry.pages t.range f.inside p of_range in omega (arith, low, high)
      ended high false short =
          let whole = upto_past first.core.page_map.geometry.pages t.range f.inside next high in
          let order = f.inside.ordered in let inside = f.inside.inside in let all = all_long in
          absurd (eqb-false (length after) (t.range.to - t.range.from) short
          (ap length is ∙ length-bytes_at t.range.from (upto t.range next) (export first.plain) (omega (arith, whole, order, inside, all)) ∙ whole))

      by_past : (b : Bool) → nat_lt next (past_page t.range) ≡ b
          → At w (if b then Listing (Answer next) else (if length after == t.range.to - t.range.from then Ended None else Ended (Some Lost))) after
      by_past true low = record {
        from = let b = bounds page next answer n in let up = b.3 in let from = n.at.from in omega (arith, up, from);
        past = ltb-true next (past_page t.range) low;
        has = is;
        there = until_next;
      }
      by_past false high = ended (ltb-false next (past_page t.range) high) (length after == t.range.to - t.range.from) refl

  -- the end of a batch and a Fold leave what a refusal rests on
  ended_cause : (w after : World) (batch : ℕ) (answers : List (ℕ × List ℕ)) → HappensEvent w (EndBatch batch answers) after → SameCause w after
  ended_cause w after batch answers e = record {
    page_map = ap (λ (c : Core). c.page_map) e.step.does.1;
    copies = ap (λ (c : Core). c.copies) e.step.does.1;
    last = ap (λ (c : Core). c.last) e.step.does.1;
    round = ap (λ (c : Core). c.calendar.round) e.step.does.1;
    flushes = ap (λ (c : Core). c.flushes) e.step.does.1;
  }

  folded_cause : (w after : World) → HappensEvent w Fold after → SameCause w after
  folded_cause w after e = record {
    page_map = ap (λ (c : Core). c.page_map) e.step.does;
    copies = ap (λ (c : Core). c.copies) e.step.does;
    last = ap (λ (c : Core). c.last) e.step.does;
    round = ap (λ (c : Core). c.calendar.round) e.step.does;
    flushes = ap (λ (c : Core). c.flushes) e.step.does;
  }

  -- each page of a batch has its part of the range
  all_there : (page next : ℕ) (answer : List ℕ) → IsNext t.range first page next answer
      → list_all (λ (e : ℕ × List ℕ). has_part t.range e.0 (length e.1)) (map (λ p. (p, plain_page first p)) (range_with_len page (next - page))) ≡ true
  all_there page next answer n =
      let b = bounds page next answer n in let sum = b.0 in
      parts_there t.range (plain_page first) page (next - page) (λ p from to.
      let of_range = of_next page next answer n p from (omega (arith, to, sum)) in
      let low = page_low first.core.page_map.geometry.pages t.range f.inside p of_range in
      let long = page_long t.range.page_bytes first.plain f.sized p (let many = f.many in omega (arith, low, many)) in
      let fits = part_fits first.core.page_map.geometry.pages t.range f.inside p of_range in omega (arith, long, fits))

  as_before : (w : World) (answer after : List ℕ) (stage next : Stage A) → At w stage answer → (next ≡ stage) × (after ≡ answer) → At w next after
  as_before w answer after stage next k same = subst (λ s. At w s after) (sym same.0) (subst (At w stage) (sym same.1) k)

  -- the request makes its event
  own : (w after : World) (answer : List ℕ) (stage : Stage A) (act : Act) (next : Stage A) → Goes first w → Goes first after → At w stage answer
      → HappensEvent w act after → Moves t seat stage act next → IsFounded w.core stage act next → At after next answer
  own w after answer (Asking (Answer n) pages) (Admit asked (Ok made)) next g ga k e m founded =
      subst (λ s. At after s answer) (sym m.1) (k.0, k.1, admitted w after answer k.0 n asked made g k.1 (m.0 ∙ k.2) e)
  own w after answer (Asking (Answer n) pages) (Admit asked (Err (PageLost page))) next g ga k e m founded =
      elim (m.1) [
        | inr stays ↦ subst (λ s. At after s answer) (sym stays) k
        | inl stops ↦
            let found = found_passes (is_lost w.core.page_map) asked page.0 e.step.does.0 in
            subst (λ s. At after s answer) (sym stops)
            (lost_cause after ga page.0 (among_next k.0 n answer k.1 page.0 (subst (Among page.0) (m.0 ∙ k.2) found.1))
            (ap (λ (c : Core). is_lost c.page_map page.0) e.step.does.1 ∙ found.0))
      ]
  own w after answer (Asking (Answer n) pages) (Admit asked (Err CalendarFull)) next g ga k e m founded =
      subst (λ s. At after s answer) (sym m.1) k
  own w after answer (Asking (Answer n) pages) (Admit asked (Err RoundsSpent)) next g ga k e m founded =
      subst (λ s. At after s answer) (sym m.1) (late_cause w after e.step.does.1 e.step.does.0.1)
  own w after answer (Asking (Answer n) pages) (Admit asked (Err AdmitNoMemory)) next g ga k e m founded =
      subst (λ s. At after s answer) (sym m.1) (tt, tt)
  own w after answer (Asking (Answer n) pages) act next g ga k e m founded = absurd m
  own w after answer (Reading (Answer n) batch) (Replan b (Ok planned)) next g ga k e m founded =
      subst (λ s. At after s answer) (sym m.1) (k.0, k.1, read_on batch.0 k.0 n w after g k.2 (Event (Replan b (Ok planned))) e tt tt)
  own w after answer (Reading (Answer n) batch) (Replan b (Err (PageLost page))) next g ga k e m founded =
      let still = read_on batch.0 k.0 n w after g k.2 (Event (Replan b (Err (PageLost page)))) e tt tt in
      elim (m.1) [
        | inr stays ↦ subst (λ s. At after s answer) (sym stays) (k.0, k.1, still)
        | inl stops ↦
            let found = found_passes (is_lost w.core.page_map) (left_of w.core b) page.0 e.step.does.0 in
            subst (λ s. At after s answer) (sym stops) (
              range_with_len k.0 (n - k.0),
              still.opened,
              lost_cause after ga page.0 (left_of_range w batch.0 k.0 n answer k.1 k.2 page.0 (subst (λ x. Among page.0 (left_of w.core x)) m.0 found.1))
                  (ap (λ (c : Core). is_lost c.page_map page.0) e.step.does.1 ∙ found.0),
            )
      ]
  own w after answer (Reading (Answer n) batch) (Replan b (Err CalendarFull)) next g ga k e m founded =
      subst (λ s. At after s answer) (sym m.1) (k.0, k.1, read_on batch.0 k.0 n w after g k.2 (Event (Replan b (Err CalendarFull))) e tt tt)
  own w after answer (Reading (Answer n) batch) (Replan b (Err RoundsSpent)) next g ga k e m founded =
      subst (λ s. At after s answer) (sym m.1) (
        range_with_len k.0 (n - k.0),
        (read_on batch.0 k.0 n w after g k.2 (Event (Replan b (Err RoundsSpent))) e tt tt).opened,
        late_cause w after e.step.does.1 e.step.does.0.1,
      )
  own w after answer (Reading (Answer n) batch) (Replan b (Err AdmitNoMemory)) next g ga k e m founded =
      subst (λ s. At after s answer) (sym m.1) (
        range_with_len k.0 (n - k.0),
        (read_on batch.0 k.0 n w after g k.2 (Event (Replan b (Err AdmitNoMemory))) e tt tt).opened,
        (tt, tt),
      )
  own w after answer (Reading (Answer n) batch) (EndBatch b answers) (Sorting p given) g ga k e m founded =
      subst (λ q. At after (Sorting q given) answer) (sym m.1.0) (
        k.0,
        k.1,
        k.2.there,
        sym m.1.1 ∙ open_gives batch.0 (range_with_len k.0 (n - k.0)) first.plain w after answers (reached_holds w g.reached) k.2.gives k.2.opened
            (subst (λ x. results w.core x ≡ Ready) m.0 founded) (subst (λ x. HappensEvent w (EndBatch x answers) after) m.0 e),
      )
  own w after answer (Reading (Answer n) batch) (EndBatch b answers) next g ga k e m founded = absurd m.1
  own w after answer (Reading (Answer n) batch) act next g ga k e m founded = absurd m
  own w after answer (Leaving (Answer n) batch fault) (EndBatch b answers) next g ga k e m founded =
      subst (λ s. At after s answer) (sym m.1) (cause_kept w after (ended_cause w after b answers e) t.range.from (t.range.to - t.range.from) fault k.2.0, k.2.1)
  own w after answer (Leaving (Answer n) batch fault) act next g ga k e m founded = absurd m
  own w after answer (Listing (Answer n)) act next g ga k e m founded = absurd m
  own w after answer (Sorting (Answer n) answers) act next g ga k e m founded = absurd m
  own w after answer (Ended fault) act next g ga k e m founded = absurd m
  own w after answer stage act next g ga k e m founded = absurd k

  -- something else happens
  other : (w after : World) (answer : List ℕ) (stage : Stage A) (happening : Happening) → Goes first w → At w stage answer
      → Happens w happening after → IsAnothers stage happening → At after stage answer
  other w after answer (Listing (Answer page)) happening g k e is = k
  other w after answer (Asking (Answer n) pages) happening g k e is = k
  other w after answer (Reading (Answer n) batch) happening g k e is =
      (k.0, k.1, read_on batch.0 k.0 n w after g k.2 happening e is.writes_nothing is.batch)
  other w after answer (Leaving (Answer n) batch fault) (Event Fold) g k e is = (
    k.0,
    run_open batch.0 k.0 w (Event Fold ∷ []) after k.1 (after, e, refl) (tt, tt),
    (cause_kept w after (folded_cause w after e) t.range.from (t.range.to - t.range.from) fault k.2.0, k.2.1),
  )
  other w after answer (Leaving (Answer n) batch fault) happening g k e is = absurd (false≢true is.in_time)
  other w after answer (Sorting (Answer n) answers) happening g k e is = k
  other w after answer (Ended None) happening g k e is = k
  other w after answer (Ended (Some fault)) (Event Fold) g k e is =
      (cause_kept w after (folded_cause w after e) t.range.from (t.range.to - t.range.from) fault k.0, k.1)
  other w after answer (Ended (Some fault)) happening g k e is = absurd (false≢true is.in_time)
  other w after answer stage happening g k e is = absurd k

  -- something is prepared
  ready : (w : World) (answer after : List ℕ) (stage next : Stage A) → Goes first w → At w stage answer → Prepares t bytes stage answer next after
      → At w next after
  ready w answer after (Listing (Answer page)) (Asking p pages) g k made =
      subst (λ a. At w (Asking p pages) a) (sym made.1) (subst (λ q. At w (Asking q pages) answer) (sym made.0.0) (
        page,
        record { at = k; next_is = refl },
        ap (map (λ (p : Page). p.0)) made.0.1 ∙ pages_numbered page (until t.range page),
      ))
  ready w answer after (Listing (Answer page)) next g k made =
      subst (λ s. At w s after) (sym made.0) (tt, tt)
  ready w answer after (Sorting (Answer n) answers) next g k made =
      elim made [
        | inl ok ↦ subst (λ s. At w s after) (sym ok.1)
            (gathered w k.0 n answer after k.1 k.2 (sorted k.0 n answer after (map {B = ℕ × List ℕ} (λ e. (e.0.0, e.1.items)) answers.items) k.1 k.3 ok.0))
        | inr failed ↦ elim failed [
          | inl none ↦ subst (λ s. At w s after) (sym none) (tt, tt)
          | inr short ↦ absurd (true≢false (sym (all_there k.0 n answer k.1)
              ∙ ap (list_all (λ (e : ℕ × List ℕ). has_part t.range e.0 (length e.1))) (sym k.3) ∙ short.0))
        ]
      ]
  ready w answer after (Asking (Answer n) pages) next g k made = as_before w answer after (Asking (Answer n) pages) next k made
  ready w answer after (Reading (Answer n) batch) next g k made = as_before w answer after (Reading (Answer n) batch) next k made
  ready w answer after (Leaving (Answer n) batch fault) next g k made = as_before w answer after (Leaving (Answer n) batch fault) next k made
  ready w answer after (Ended fault) next g k made = as_before w answer after (Ended fault) next k made
  ready w answer after stage next g k made = absurd k

  -- a request strays nowhere
  pub no_stray : (w : World) (answer : List ℕ) (stage next : Stage A) → Goes first w → At w stage answer → IsBarred w.core stage
      → Strays w.core stage next → ⊥
  no_stray w answer (Asking (Answer n) pages) next g k barred strays =
      let b = bounds k.0 n answer k.1 in let sum = b.0 in
      true≢false (sym (range_allowed w.core k.0 (n - k.0) b.2 (λ p from to.
      subst (λ (geometry : Geometry). p < geometry.pages) (sym g.geometry)
      (page_low first.core.page_map.geometry.pages t.range f.inside p (of_next k.0 n answer k.1 p from (omega (arith, to, sum))))))
      ∙ ap (λ (numbers : List ℕ). is_distinct numbers && list_all (is_page w.core) numbers && nat_le (length numbers) 1024) (sym k.2) ∙ barred)
  no_stray w answer (Reading (Answer n) batch) next g k barred strays =
      true≢false (sym (ap is_some k.2.opened.found) ∙ strays.0)
  no_stray w answer (Leaving (Answer n) batch fault) next g k barred strays =
      true≢false (sym (ap is_some k.1.found) ∙ strays.0)
  no_stray w answer (Listing (Answer n)) next g k barred strays = strays
  no_stray w answer (Sorting (Answer n) answers) next g k barred strays = strays
  no_stray w answer (Ended fault) next g k barred strays = strays
  no_stray w answer stage next g k barred strays = k

  -- an event of a read writes nothing
  own_writes_nothing : (w : World) (answer : List ℕ) (stage : Stage A) (act : Act) (next : Stage A) → At w stage answer → Moves t seat stage act next
      → WritesNothing (Event act)
  own_writes_nothing w answer (Asking (Answer n) pages) (Admit asked made) next k m = tt
  own_writes_nothing w answer (Asking (Answer n) pages) act next k m = absurd m
  own_writes_nothing w answer (Reading (Answer n) batch) (Replan b made) next k m = tt
  own_writes_nothing w answer (Reading (Answer n) batch) (EndBatch b answers) next k m = tt
  own_writes_nothing w answer (Reading (Answer n) batch) act next k m = absurd m
  own_writes_nothing w answer (Leaving (Answer n) batch fault) (EndBatch b answers) next k m = tt
  own_writes_nothing w answer (Leaving (Answer n) batch fault) act next k m = absurd m
  own_writes_nothing w answer (Listing (Answer n)) act next k m = absurd m
  own_writes_nothing w answer (Sorting (Answer n) answers) act next k m = absurd m
  own_writes_nothing w answer (Ended fault) act next k m = absurd m
  own_writes_nothing w answer stage act next k m = absurd k

  -- a read wants no room
  given_up : (w : World) (answer : List ℕ) (stage : Stage A) (fault : BlockFault) → At w stage answer → At w (without_room fault stage) answer
  given_up w answer (Reserving held wish) fault k = absurd k
  given_up w answer stage fault k = k

  -- where a read is, with what it has
  pub record IsReading (m : Moment A) : Type 0 where
    pub goes : Goes first m.world
    pub at : At m.world m.stage m.answer

  turn_reads : (before after : Moment A) (turn : Turn) → IsReading before → TurnsTo t seat bytes before turn after → IsReading after
  turn_reads before after (Makes act) k made =
      let none = own_writes_nothing before.world before.answer before.stage act after.stage k.at made.1 in
      let goes = goes_on laws first before.world after.world k.goes (Event act) made.0 none in
      record {
        goes = goes;
        at = subst (At after.world after.stage) (sym made.3)
            (own before.world after.world before.answer before.stage act after.stage k.goes goes k.at made.0 made.1 made.2);
      }
  turn_reads before after Readies k made = record {
    goes = subst (Goes first) (sym made.0) k.goes;
    at = subst (λ (v : World). At v after.stage after.answer) (sym made.0)
        (ready before.world before.answer after.answer before.stage after.stage k.goes k.at made.1);
  }
  turn_reads before after Strayed k made = absurd (no_stray before.world before.answer before.stage after.stage k.goes k.at made.1 made.2)
  turn_reads before after (GivesUp fault) k made = record {
    goes = subst (Goes first) (sym made.0) k.goes;
    at = subst (λ (v : World). At v after.stage after.answer) (sym made.0) (subst (At before.world after.stage) (sym made.3)
        (subst (λ s. At before.world s before.answer) (sym made.2) (given_up before.world before.answer before.stage fault k.at)));
  }
  turn_reads before after (Meanwhile happening) k made = record {
    goes = goes_on laws first before.world after.world k.goes happening made.0 made.1.writes_nothing;
    at = subst (At after.world after.stage) (sym made.3) (subst (λ s. At after.world s before.answer) (sym made.2)
        (other before.world after.world before.answer before.stage happening k.goes k.at made.0 made.1));
  }

  pub reads_on : (before : Moment A) (turns : List Turn) (after : Moment A) → IsReading before → Asked t seat bytes before turns after → IsReading after
  reads_on before [] after k asked = subst IsReading (sym asked) k
  reads_on before (turn ∷ turns) after k asked = reads_on asked.0 turns after (turn_reads before asked.0 turn k asked.1) asked.2
