-- What becomes of a write, stage by stage.
use Rattle.fa_solo_laws.proofs.Due.{happens_plain}
use Rattle.fa_solo_laws.proofs.Listed.{run_open}
use Rattle.fa_solo_laws.proofs.Going.{Laws, geometry_kept}
use Rattle.fa_solo_laws.proofs.Owned.{keeps_claim, owned_on}
use Rattle.fa_solo_laws.proofs.Pages.{range_allowed}
use Rattle.fa_solo_laws.proofs.PlainBytes.{page_long}
use Rattle.fa_solo_laws.proofs.PutPage.{bytes_for, content_is, covered_whole, new_covered, new_long}
use Rattle.fa_solo_laws.proofs.RangePages.{IsOf, page_low, part_begins, part_ends, part_fits, upto}
use Rattle.fa_solo_laws.proofs.ReadStages.{Fits}
use Rattle.fa_solo_laws.specs.Asked.{Asked, GivesUp, IsAnothers, Makes, Meanwhile, Moment, Readies, Strayed, Turn}
use Rattle.fa_solo_laws.specs.Asked.{TurnsTo}
use Rattle.fa_machine.specs.Conditions.{claim_open, is_reserved}
use Rattle.fa_machine.specs.Copies.{is_lost}
use Rattle.fa_machine.specs.Run.{Event, Happening, Happens}
use Rattle.fa_machine.specs.State.{OpenClaim}
use Rattle.fa_machine.specs.Step.{Fold}
use Rattle.fa_machine.specs.Step.{is_distinct, is_page, is_sized}
use Rattle.fa_machine.specs.World.{World, plain_page}
use Rattle.fa_machine.specs.declared.answers.Flush.{Flush}
use Rattle.fa_shared_lock.specs.Founded.{IsBarred, fits}
use Rattle.fa_shared_lock.specs.Moves.{Strays}
use Rattle.fa_shared_request.specs.Ops.{Prepares}
use Rattle.fa_shared_steps.specs.Prepared.{IsMerged, IsWish, SortsPage, content, has_content, has_part}
use Rattle.fa_shared_steps.specs.Ranges.{begins_at, bytes_in, covers, past_page}
use Rattle.fa_shared_steps.specs.declared.request.Fill.{Fill}
use Rattle.fa_shared_steps.specs.declared.request.Fill.TheVariants.{Bytes, Holes, Zeros}
use Rattle.fa_shared_steps.specs.declared.request.Task.{Task}
use Rattle.fa_shared_steps.specs.declared.stage.PageClaim.{PageClaim}
use Rattle.fa_shared_steps.specs.declared.stage.Purpose.TheVariants.{Merge}
use Rattle.fa_shared_request.specs.Waiting.{HasNoWindow, without_room}
use Rattle.fa_shared_steps.specs.declared.stage.Stage.{Stage}
use Rattle.fa_shared_steps.specs.declared.stage.Stage.TheVariants.{Abandoning, Asking, BeginningFlush, Claiming, Committing, Ended, Filling, Flushing, Leaving}
use Rattle.fa_shared_steps.specs.declared.stage.Stage.TheVariants.{Listing, Reading, Releasing, Reserving, Sorting}
use Rattle.fa_shared_steps.specs.declared.stage.Wish.{Wish}
use Rattle.fa_shared_steps.specs.declared.stage.Wish.TheVariants.{Data, Fewer, Hole}
use Rattle.fa_types.specs.Store.{bytes_at, with_bytes}
use Rattle.fa_types.specs.declared.blocks.BlockFault.{BlockFault}
use Rattle.fa_types.specs.declared.blocks.BlockFault.TheVariants.{Lost, NoMemory}
use Rattle.fa_types.specs.declared.geometry.Geometry.{Geometry}
use Rattle.fa_types.specs.declared.numbers.Page.{Page}
use Rattle.std.proofs.Common.{Bool, List, None, Option, Some, [], ap, arith, eq-eqb, false, inl, inr, length, map, not, refl, replicate, subst, sym}
use Rattle.std.proofs.Common.{true, ℕ, ◌+◌, ◌-◌, ◌<◌, ◌∙◌, ◌∷◌, ◌≡◌, ◌⊎◌}
use Rattle.std.proofs.lemmas.Bool.{and_from, false≢true, le-leb, lt-ltb, true≢false}
use Rattle.std.specs.List.{list_all}
use Rattle.std.specs.Prelude.{is_some, nat_le, option_and_then, slice_index_or}
use Rattle.std.specs.Prelude.{◌&&◌}
use Rattle.fa_solo_laws.proofs.WriteWorlds.{Founds, Has, IsAt, IsFor, IsReserving, IsWishFor, Wrote}
use Rattle.fa_solo_laws.proofs.WriteEvents.{WritesAt, done_on, folded, many, merging_on, not_reserved, of_range, own, own_on, reserving_on, wish_on}

module _ (A : Type 0) (laws : Laws) (t : Task) (seat : ℕ) (bytes : List ℕ) (first : World) (f : Fits first t.range)
    (long : length (bytes_for t.fill t.range bytes) ≡ t.range.to - t.range.from) (Cause : World → BlockFault → Type 0) (Knows : Flush → World → Type 0)
    (founds : Founds t.range first Cause Knows) where
  abbrev all : List ℕ
  all = bytes_for t.fill t.range bytes

  abbrev Done : ℕ → World → Type 0
  Done = Wrote t.range first all

  abbrev Own : PageClaim → World → Type 0
  Own = Has t.range first all

  abbrev At : World → Stage A → Type 0
  At = WritesAt A laws t seat bytes first f long Cause Knows founds

  -- something else happens
  other : (w after : World) (stage : Stage A) (happening : Happening) → At w stage → Happens w happening after → IsAnothers stage happening
      → At after stage
  other w after (Claiming page) happening k e is = (k.0, done_on A laws t seat bytes first f long Cause Knows founds page.0 w after k.1 happening e is.writes_nothing)
  other w after (Filling held less) happening k e is = (own_on A laws t seat bytes first f long Cause Knows founds held w after k.0 happening e is.writes_nothing is.claim, k.1)
  other w after (Listing (Merge held)) happening k e is = own_on A laws t seat bytes first f long Cause Knows founds held w after k happening e is.writes_nothing is.claim
  other w after (Asking (Merge held) pages) happening k e is = (own_on A laws t seat bytes first f long Cause Knows founds held w after k.0 happening e is.writes_nothing is.claim, k.1)
  other w after (Reading (Merge held) batch) happening k e is =
      (own_on A laws t seat bytes first f long Cause Knows founds held w after k.0 happening e is.writes_nothing is.claim, merging_on A laws t seat bytes first f long Cause Knows founds held batch.0 w after k.0 k.1 happening e is.writes_nothing is.batch)
  other w after (Leaving (Merge held) batch fault) (Event Fold) k e is = (
    own_on A laws t seat bytes first f long Cause Knows founds held w after k.0 (Event Fold) e tt tt,
    (k.1.0, run_open batch.0 k.1.0 w (Event Fold ∷ []) after k.1.1 (after, e, refl) (tt, tt)),
    founds.kept w after (folded A laws t seat bytes first f long Cause Knows founds w after e) fault k.2,
  )
  other w after (Leaving (Merge held) batch fault) happening k e is = absurd (false≢true is.in_time)
  other w after (Sorting (Merge held) answers) happening k e is = (
    own_on A laws t seat bytes first f long Cause Knows founds held w after k.0 happening e is.writes_nothing is.claim,
    k.1,
    k.2 ∙ ap (λ (plain : List (List ℕ)). (held.page.0, slice_index_or plain held.page.0 []) ∷ []) (sym (happens_plain w after happening is.writes_nothing e)),
  )
  other w after (Reserving held wish) happening k e is = (
    own_on A laws t seat bytes first f long Cause Knows founds held w after k.0 happening e is.writes_nothing is.claim,
    wish_on A laws t seat bytes first f long Cause Knows founds held.page.0 w after wish k.0.wrote (happens_plain w after happening is.writes_nothing e) (geometry_kept laws.geometry w after happening e) k.1,
  )
  other w after (Committing held wish) happening k e is =
      reserving_on A laws t seat bytes first f long Cause Knows founds held w after wish k happening e is.writes_nothing (keeps_claim held.claim.0 happening is.claim)
  other w after (Abandoning held wish) happening k e is =
      reserving_on A laws t seat bytes first f long Cause Knows founds held w after wish k happening e is.writes_nothing (keeps_claim held.claim.0 happening is.claim)
  other w after (Releasing held None) happening k e is = (
    k.0,
    done_on A laws t seat bytes first f long Cause Knows founds (held.page.0 + 1) w after k.1 happening e is.writes_nothing,
    owned_on held.claim.0 held.page.0 w after happening k.2 e is.claim,
  )
  other w after (Releasing held (Some fault)) (Event Fold) k e is =
      (own_on A laws t seat bytes first f long Cause Knows founds held w after k.0 (Event Fold) e tt tt, founds.kept w after (folded A laws t seat bytes first f long Cause Knows founds w after e) fault k.1)
  other w after (Releasing held (Some fault)) happening k e is = absurd (false≢true is.in_time)
  other w after BeginningFlush happening k e is = (done_on A laws t seat bytes first f long Cause Knows founds (past_page t.range) w after k.0 happening e is.writes_nothing, k.1)
  other w after (Flushing flush) happening k e is = (
    done_on A laws t seat bytes first f long Cause Knows founds (past_page t.range) w after k.0 happening e is.writes_nothing,
    k.1,
    founds.knows w after flush happening k.0.reached e is.no_spare k.2,
  )
  other w after (Ended None) happening k e is = done_on A laws t seat bytes first f long Cause Knows founds (past_page t.range) w after k happening e is.writes_nothing
  other w after (Ended (Some fault)) (Event Fold) k e is =
      (founds.kept w after (folded A laws t seat bytes first f long Cause Knows founds w after e) fault k.0, (k.1.0, done_on A laws t seat bytes first f long Cause Knows founds k.1.0 w after k.1.1 (Event Fold) e tt, k.1.2))
  other w after (Ended (Some fault)) happening k e is = absurd (false≢true is.in_time)
  other w after stage happening k e is = absurd k

  has_all : (fill : Option Fill) → length (bytes_for fill t.range bytes) ≡ t.range.to - t.range.from → (page : ℕ) → IsOf t.range page
      → has_content fill t.range page bytes ≡ true
  has_all (Some Bytes) many page here =
      let next = part_ends first.core.page_map.geometry.pages t.range f.inside page here in
      let begins = part_begins first.core.page_map.geometry.pages t.range f.inside page here in
      le-leb _ (length bytes) (omega (arith, next, begins, many))
  has_all (Some Zeros) many page here = refl
  has_all (Some Holes) many page here = refl
  has_all None many page here = refl

  -- the page's bytes are all there
  page_whole : (w : World) (page : ℕ) → Done page w → IsOf t.range page → length (plain_page w page) ≡ t.range.page_bytes
  page_whole w page k here =
      let low = page_low first.core.page_map.geometry.pages t.range f.inside page here in
      page_long t.range.page_bytes w.plain k.sized page (let count = many A laws t seat bytes first f long Cause Knows founds w page k in omega (arith, low, count))

  contents : (page : ℕ) → IsOf t.range page
      → content t.fill t.range page bytes ≡ bytes_at (upto t.range page) (bytes_in t.range page) all
  contents page here = content_is first.core.page_map.geometry.pages t.range f.inside t.fill bytes page here

  -- what goes into a page that is written whole
  wish_made : (held : PageClaim) (less : Bool) (w : World) (wish : Wish A) → Own held w → covers t.range held.page.0 ≡ true
      → IsWish t bytes held.page.0 less wish → IsWishFor t.range first all held.page.0 w wish
  wish_made held less w wish k covered made =
      let page : ℕ = held.page.0 in
      let here = of_range A laws t seat bytes first f long Cause Knows founds page k.at in
      let count = many A laws t seat bytes first f long Cause Knows founds w page k.wrote in
      let whole = new_covered first.core.page_map.geometry.pages t.range f.inside all long w.plain k.wrote.sized count page here covered in
      by_wish wish made (contents page here ∙ sym whole)
    where
      by_wish : (wish : Wish A) → IsWish t bytes held.page.0 less wish
          → content t.fill t.range held.page.0 bytes ≡ with_bytes (begins_at t.range held.page.0) (bytes_at (upto t.range held.page.0) (bytes_in t.range held.page.0) all) (slice_index_or w.plain held.page.0 [])
          → IsWishFor t.range first all held.page.0 w wish
      by_wish (Data payload) made is = record { for_page = record { is = made.1 ∙ is; fit = inl covered }; hole = tt }
      by_wish (Fewer payload) made is = record { for_page = record { is = made.1 ∙ is; fit = inl covered }; hole = tt }
      by_wish Hole made is = record {
        for_page = record {
          is = ap (λ n. replicate n 0) (ap (λ (g : Geometry). g.page_bytes) k.wrote.geometry
              ∙ sym f.same ∙ sym (covered_whole first.core.page_map.geometry.pages t.range f.inside all long held.page.0 covered).1)
              ∙ ap (λ fill. content fill t.range held.page.0 bytes) (sym made.0) ∙ is;
          fit = inl covered;
        };
        hole = covered;
      }

  -- what goes into a page that is written in part
  merged_at : (held : PageClaim) (w : World) (next : Stage A) → Own held w → is_lost first.core.page_map held.page.0 ≡ false
      → IsMerged t bytes held (plain_page w held.page.0) next → At w next
  merged_at held w next k there made = by_next next made
    where
      page_all : has_part t.range held.page.0 (length (plain_page w held.page.0)) ≡ true
      page_all =
          let here = of_range A laws t seat bytes first f long Cause Knows founds held.page.0 k.at in
          let whole = page_whole w held.page.0 k.wrote here in
          let within = part_fits first.core.page_map.geometry.pages t.range f.inside held.page.0 here in
          le-leb (begins_at t.range held.page.0 + bytes_in t.range held.page.0) (length (plain_page w held.page.0)) (omega (arith, whole, within))

      failed : (next : Stage A) → (next ≡ Releasing held (Some NoMemory))
          ⊎ (((has_content t.fill t.range held.page.0 bytes && has_part t.range held.page.0 (length (plain_page w held.page.0))) ≡ false)
          × (next ≡ Releasing held (Some Lost))) → At w next
      failed next (inl none) = subst (At w) (sym none) (k, founds.no_memory w)
      failed next (inr short) =
          absurd (true≢false (sym (and_from (has_content t.fill t.range held.page.0 bytes) _ (has_all t.fill long held.page.0 (of_range A laws t seat bytes first f long Cause Knows founds held.page.0 k.at)) page_all) ∙ short.0))

      by_next : (next : Stage A) → IsMerged t bytes held (plain_page w held.page.0) next → At w next
      by_next (Reserving h (Data payload)) made =
          subst (λ x. At w (Reserving x (Data payload))) (sym made.0) (
            k,
            record {
              for_page = record {
                is = made.1 ∙ ap (λ part. with_bytes (begins_at t.range held.page.0) part (plain_page w held.page.0)) (contents held.page.0 (of_range A laws t seat bytes first f long Cause Knows founds held.page.0 k.at));
                fit = inr there;
              };
              hole = tt;
            },
          )
      by_next next made = failed next made

  -- something is prepared
  ready : (w : World) (answer after : List ℕ) (stage next : Stage A) → At w stage → Prepares t bytes stage answer next after → At w next
  ready w answer after (Listing (Merge held)) (Asking p pages) k made =
      subst (λ q. At w (Asking q pages)) (sym made.0.0) (k, ap (map (λ (p : Page). p.0)) made.0.1)
  ready w answer after (Listing (Merge held)) next k made = subst (At w) (sym made.0) (k, founds.no_memory w)
  ready w answer after (Filling held less) (Reserving h wish) k made =
      subst (λ x. At w (Reserving x wish)) (sym made.0.0) (k.0, wish_made held less w wish k.0 k.1 made.0.1)
  ready w answer after (Filling held less) next k made =
      elim (made.0) [
        | inl none ↦ subst (At w) (sym none) (k.0, founds.no_memory w)
        | inr short ↦ absurd (true≢false (sym (has_all t.fill long held.page.0 (of_range A laws t seat bytes first f long Cause Knows founds held.page.0 k.0.at)) ∙ short.0))
      ]
  ready w answer after (Sorting (Merge held) answers) next k made =
      merged_at held w next k.0 k.1 (subst (λ given. SortsPage t bytes held given next) k.2 made.0)
  ready w answer after (Claiming page) next k made = subst (At w) (sym made.0) k
  ready w answer after (Asking (Merge held) pages) next k made = subst (At w) (sym made.0) k
  ready w answer after (Reading (Merge held) batch) next k made = subst (At w) (sym made.0) k
  ready w answer after (Leaving (Merge held) batch fault) next k made = subst (At w) (sym made.0) k
  ready w answer after (Reserving held wish) next k made = subst (At w) (sym made.0) k
  ready w answer after (Committing held wish) next k made = subst (At w) (sym made.0) k
  ready w answer after (Abandoning held wish) next k made = subst (At w) (sym made.0) k
  ready w answer after (Releasing held fault) next k made = subst (At w) (sym made.0) k
  ready w answer after BeginningFlush next k made = subst (At w) (sym made.0) k
  ready w answer after (Flushing flush) next k made = subst (At w) (sym made.0) k
  ready w answer after (Ended fault) next k made = subst (At w) (sym made.0) k
  ready w answer after stage next k made = absurd k

  page_inside : (w : World) (page : ℕ) → Done page w → IsAt t.range first all page → page < w.core.page_map.geometry.pages
  page_inside w page k at =
      subst (λ (g : Geometry). page < g.pages) (sym k.geometry) (page_low first.core.page_map.geometry.pages t.range f.inside page (of_range A laws t seat bytes first f long Cause Knows founds page at))

  payload_sized : (held : PageClaim) (w : World) (payload : List ℕ) → Own held w → IsFor t.range first all held.page.0 w.plain payload
      → is_sized w.core payload ≡ true
  payload_sized held w payload k is =
      eq-eqb (length payload) w.core.page_map.geometry.page_bytes
      (ap length is.is
      ∙ new_long first.core.page_map.geometry.pages t.range f.inside all long w.plain k.wrote.sized (many A laws t seat bytes first f long Cause Knows founds w held.page.0 k.wrote) held.page.0 (of_range A laws t seat bytes first f long Cause Knows founds held.page.0 k.at)
      ∙ f.same ∙ ap (λ (g : Geometry). g.page_bytes) (sym k.wrote.geometry))

  under_reserved : (held : PageClaim) (w : World) (wish : Wish A) → IsReserving t.range first all held w wish → is_reserved w.core held.claim.0 ≡ true
  under_reserved held w wish k =
      ap is_some (ap (option_and_then {T = OpenClaim} (λ c. c.reserved)) k.reserved.under.found ∙ k.reserved.under.is_for.reserved)

  sized_wish : (held : PageClaim) (w : World) (wish : Wish A) → Own held w → IsWishFor t.range first all held.page.0 w wish → fits w.core wish ≡ true
  sized_wish held w (Data payload) k is = payload_sized held w payload k is.for_page
  sized_wish held w (Fewer payload) k is = payload_sized held w payload k is.for_page
  sized_wish held w Hole k is = refl

  -- a request strays nowhere
  pub no_stray : (w : World) (stage next : Stage A) → At w stage → IsBarred w.core stage → Strays w.core stage next → ⊥
  no_stray w (Asking (Merge held) pages) next k barred strays =
      true≢false (sym (range_allowed w.core held.page.0 1 (omega arith) (λ p from to.
      subst (λ n. n < w.core.page_map.geometry.pages) (let same : held.page.0 ≡ p = omega (arith, from, to) in same) (page_inside w held.page.0 k.0.wrote k.0.at)))
      ∙ ap (λ (numbers : List ℕ). is_distinct numbers && list_all (is_page w.core) numbers && nat_le (length numbers) 1024) (sym k.1) ∙ barred)
  no_stray w (Reading (Merge held) batch) next k barred strays = true≢false (sym (ap is_some k.1.opened.found) ∙ strays.0)
  no_stray w (Leaving (Merge held) batch fault) next k barred strays = true≢false (sym (ap is_some k.1.1.found) ∙ strays.0)
  no_stray w (Claiming page) next k barred strays =
      true≢false (sym (lt-ltb page.0 w.core.page_map.geometry.pages (page_inside w page.0 k.1 k.0)) ∙ strays.0)
  no_stray w (Reserving held wish) next k barred strays =
      true≢false (sym (and_from (claim_open w.core held.claim.0 && not (is_reserved w.core held.claim.0)) (fits w.core wish)
      (and_from (claim_open w.core held.claim.0) (not (is_reserved w.core held.claim.0)) (ap is_some k.0.owned.found) (ap not (not_reserved A laws t seat bytes first f long Cause Knows founds held w k.0.owned)))
      (sized_wish held w wish k.0 k.1)) ∙ barred)
  no_stray w (Committing held wish) next k barred strays = true≢false (sym (under_reserved held w wish k) ∙ strays.0)
  no_stray w (Abandoning held wish) next k barred strays = true≢false (sym (under_reserved held w wish k) ∙ strays.0)
  no_stray w (Releasing held None) next k barred strays = true≢false (sym (ap is_some k.2.found) ∙ strays.0)
  no_stray w (Releasing held (Some fault)) next k barred strays = true≢false (sym (ap is_some k.0.owned.found) ∙ strays.0)
  no_stray w (Filling held less) next k barred strays = strays
  no_stray w (Listing (Merge held)) next k barred strays = strays
  no_stray w (Sorting (Merge held) answers) next k barred strays = strays
  no_stray w BeginningFlush next k barred strays = strays
  no_stray w (Flushing flush) next k barred strays = strays
  no_stray w (Ended fault) next k barred strays = strays
  no_stray w stage next k barred strays = k

  -- one that wants room is refused
  given_up : (w : World) (stage : Stage A) (fault : BlockFault) → At w stage → HasNoWindow w.core fault → At w (without_room fault stage)
  given_up w (Reserving held wish) fault k (inl is) = (k.0, subst (Cause w) (sym is) (founds.no_memory w))
  given_up w (Reserving held wish) fault k (inr (is, late)) = (k.0, subst (Cause w) (sym is) (founds.late w late))
  given_up w stage fault k why = k

  pub turn_writes : (before after : Moment A) (turn : Turn) → At before.world before.stage → TurnsTo t seat bytes before turn after
      → At after.world after.stage
  turn_writes before after (Makes act) k made = own A laws t seat bytes first f long Cause Knows founds before.world after.world before.stage act after.stage k made.0 made.1 made.2
  turn_writes before after Readies k made =
      subst (λ (v : World). At v after.stage) (sym made.0) (ready before.world before.answer after.answer before.stage after.stage k made.1)
  turn_writes before after Strayed k made = absurd (no_stray before.world before.stage after.stage k made.1 made.2)
  turn_writes before after (GivesUp fault) k made =
      subst (λ (v : World). At v after.stage) (sym made.0)
      (subst (At before.world) (sym made.2) (given_up before.world before.stage fault k made.1))
  turn_writes before after (Meanwhile happening) k made =
      subst (At after.world) (sym made.2) (other before.world after.world before.stage happening k made.0 made.1)

  pub writes_on : (before : Moment A) (turns : List Turn) (after : Moment A) → At before.world before.stage → Asked t seat bytes before turns after
      → At after.world after.stage
  writes_on before [] after k asked = subst (λ (m : Moment A). At m.world m.stage) (sym asked) k
  writes_on before (turn ∷ turns) after k asked = writes_on asked.0 turns after (turn_writes before asked.0 turn k asked.1) asked.2
