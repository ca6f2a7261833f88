-- A flushed page outlasts each cut on each die that holds it, with the bytes that were reserved.
use Rattle.fa_crash.proofs.EventKept.{numbers}
use Rattle.fa_crash.proofs.Flushed.{FlushLaw, flushed_since, held_backed, mounted_since}
use Rattle.fa_crash.proofs.Flushing.{SinceFlush}
use Rattle.fa_crash.proofs.Honest.{IsHad, LastLaw}
use Rattle.fa_crash.proofs.HonestRuns.{run_honest}
use Rattle.fa_crash.proofs.Kept.{IsKept}
use Rattle.fa_crash.proofs.Laws.{Laws}
use Rattle.fa_crash.proofs.Runs.{beginning_kept, happens_kept, join_runs, run_whole_keeps}
use Rattle.fa_crash.proofs.Shape.{shape_of}
use Rattle.fa_crash.proofs.Standing.{number_none}
use Rattle.fa_crash.proofs.Syncing.{SyncLaws}
use Rattle.fa_crash.specs.Cut.{IsCellLeft, IsCut}
use Rattle.fa_crash.specs.Flushed.{AreOfLast, IsMounted, IsPromised, IsFlushed}
use Rattle.fa_crash.specs.Outlasts.{AreReserved, IsLeftOn}
use Rattle.fa_crash.specs.Unsynced.{Unsynced, nothing_unsynced, number_of, unsynced_behind}
use Rattle.fa_crash.specs.Whole.{IsWhole, RunWhole}
use Rattle.fa_laws.proofs.Staying.{copy_from_holds}
use Rattle.fa_machine.specs.Among.{Among}
use Rattle.fa_machine.specs.Beginning.{IsBeginning}
use Rattle.fa_machine.specs.Cells.{Broken, Cell, Sealed}
use Rattle.fa_machine.specs.Copies.{holds_page}
use Rattle.fa_machine.specs.Run.{Event, Happening, Happens, ImageCall}
use Rattle.fa_machine.specs.State.{Core}
use Rattle.fa_machine.specs.Step.{FlushBegin, FlushState}
use Rattle.fa_machine.specs.World.{HeaderTells, World}
use Rattle.fa_machine.specs.declared.answers.FlushState.TheVariants.{Synced}
use Rattle.fa_machine.specs.declared.places.Version.{Version}
use Rattle.fa_sound.specs.Sound.{IsSound}
use Rattle.fa_types.specs.declared.geometry.Geometry.{Geometry}
use Rattle.std.proofs.Common.{List, None, Option, Some, [], ap, arith, inl, inr, refl, subst, sym, true, ℕ, ◌*◌, ◌<◌, ◌∙◌, ◌∷◌, ◌≡◌, ◌≤◌, ◌⊎◌}
use Rattle.std.specs.FinMap.{get}
use Rattle.std.specs.Prelude.{Ok, ◌++◌}

-- behind a run the geometry is that of its beginning, and no number has fallen
pub record Grown (first : World) (page : ℕ) (w : World) (u : Unsynced) : Type 0 where
  pub kept : IsKept w u
  pub geometry : w.core.page_map.geometry ≡ first.core.page_map.geometry
  pub rises : number_of first.core page ≤ number_of w.core page

happens_grown : Laws → (first : World) (page : ℕ) (w : World) (u : Unsynced) (happening : Happening) (after : World)
    → Grown first page w u → Happens w happening after
    → IsWhole w happening after → Grown first page after (unsynced_behind w happening u)
happens_grown laws first page w u (Event act) after g happens whole = record {
  kept = happens_kept laws w u (Event act) after g.kept happens whole;
  geometry = laws.geometry w.core after.core act happens.step ∙ g.geometry;
  rises = let a = g.rises in let b = numbers laws w u g.kept act after happens page in omega (arith, a, b);
}
happens_grown laws first page w u (ImageCall die gave) after g happens whole =
    let s = shape_of w u die gave after happens in
    record {
      kept = happens_kept laws w u (ImageCall die gave) after g.kept happens whole;
      geometry = ap (λ (c : Core). c.page_map.geometry) s.core_same ∙ g.geometry;
      rises = subst (λ (c : Core). number_of first.core page ≤ number_of c page) (sym s.core_same) g.rises;
    }

-- the whole run in which a page was promised
pub promised_run : (first : World) (page number : ℕ) (w : World) (u : Unsynced) → IsPromised first page number w u
    → (happenings : List Happening) × RunWhole first (nothing_unsynced first) happenings w u
promised_run first page number w u p = at p.kept
  where
    at : IsFlushed first page number w u ⊎ IsMounted first page number w u
        → (happenings : List Happening) × RunWhole first (nothing_unsynced first) happenings w u
    at (inl f) =
        let rest : List Happening = Event (FlushBegin (Ok f.flush)) ∷ f.during ++ Event (FlushState f.flush Synced) ∷ f.behind in
        (f.before ++ rest, join_runs first (nothing_unsynced first) f.before rest f.at f.at_unsynced w u f.led f.leads)
    at (inr f) = (f.happenings, f.run)

module _ (laws : Laws) (sync_laws : SyncLaws) (flush_law : FlushLaw) (begins_sound : (w : World) → IsBeginning w → IsSound w.core) where
  first_grown : (first : World) (page : ℕ) → IsBeginning first → Grown first page first (nothing_unsynced first)
  first_grown first page b = record { kept = beginning_kept begins_sound first b; geometry = refl; rises = omega arith }

  run_grown : (first : World) (page : ℕ) → IsBeginning first → (happenings : List Happening) (w : World) (u : Unsynced)
      → RunWhole first (nothing_unsynced first) happenings w u
      → Grown first page w u
  run_grown first page b happenings w u run =
      run_whole_keeps (Grown first page) (happens_grown laws first page) first (nothing_unsynced first) happenings w u (first_grown first page b) run

  -- what is known of a page that is promised
  pub record FromFirst (first : World) (page number : ℕ) (some : 1 ≤ number) (w : World) (u : Unsynced) : Type 0 where
    pub happenings : List Happening
    pub run : RunWhole first (nothing_unsynced first) happenings w u
    pub since : SinceFlush laws page number some (λ die. Unit {0}) w u
    pub rises : number_of first.core page ≤ number
    pub geometry : w.core.page_map.geometry ≡ first.core.page_map.geometry

  from_kept : (first : World) (page number : ℕ) (some : 1 ≤ number) (w : World) (u : Unsynced) → IsBeginning first
      → IsFlushed first page number w u ⊎ IsMounted first page number w u → FromFirst first page number some w u
  from_kept first page number some w u b (inl f) =
      let run = join_runs first (nothing_unsynced first) f.before (Event (FlushBegin (Ok f.flush)) ∷ f.during ++ Event (FlushState f.flush Synced) ∷ f.behind)
      f.at f.at_unsynced w u f.led f.leads in
      let low = (run_grown first page b f.before f.at f.at_unsynced f.led).rises in
      let e = f.numbered in
      record {
        happenings = f.before ++ (Event (FlushBegin (Ok f.flush)) ∷ f.during ++ Event (FlushState f.flush Synced) ∷ f.behind);
        run = run;
        since = flushed_since laws sync_laws flush_law page number some begins_sound first w u b f;
        rises = omega (arith, low, e);
        geometry = (run_grown first page b _ w u run).geometry;
      }
  from_kept first page number some w u b (inr f) =
      let e = f.numbered in
      record {
        happenings = f.happenings;
        run = f.run;
        since = mounted_since laws sync_laws flush_law page number some begins_sound first w u b f;
        rises = omega (arith, e);
        geometry = (run_grown first page b f.happenings w u f.run).geometry;
      }

  pub from_first : (first : World) (page number : ℕ) (w : World) (u : Unsynced) → (p : IsPromised first page number w u)
      → FromFirst first page number p.written w u
  from_first first page number w u p = from_kept first page number p.written w u p.beginning p.kept

pub no_cell : (present : Cell) (since : List Cell) (left : Cell) → since ≡ [] → IsCellLeft present since left → left ≡ present
no_cell present since left e (inl same) = same
no_cell present since left e (inr (inl among)) = absurd (subst (Among left) e among)
no_cell present since left e (inr (inr broken)) = absurd (broken.1 e)

module _ (laws : Laws) (sync_laws : SyncLaws) (flush_law : FlushLaw) (last_law : LastLaw) (begins_sound : (w : World) → IsBeginning w → IsSound w.core)
    (first w : World) (happenings : List Happening) (u : Unsynced) (page : ℕ) (b : IsBeginning first) (last : AreOfLast first)
    (run : RunWhole first (nothing_unsynced first) happenings w u) (page_inside : page < w.core.page_map.geometry.pages)
    (cells : ℕ → ℕ → Cell) (heads : ℕ → Option HeaderTells) (cut : IsCut w u cells heads) where
  was_had : (die slot : ℕ) (version : Version) (payload : List ℕ) → cells die slot ≡ Sealed page version die slot payload
      → IsHad w u die slot (Sealed page version die slot payload)
  was_had die slot version payload e = at (cut.slots die slot)
    where
      broken_not : (cell : Cell) → cell ≡ Broken → cell ≡ Sealed page version die slot payload → ⊥
      broken_not cell e f = cc

      at : IsCellLeft ((w.images die).seen slot) (u.since die slot) (cells die slot)
          → IsHad w u die slot (Sealed page version die slot payload)
      at (inl same) = inl (sym e ∙ same)
      at (inr (inl among)) = inr (subst (λ (c : Cell). Among c (u.since die slot)) e among)
      at (inr (inr broken)) = absurd (broken_not (cells die slot) broken.0 e)

  -- a good cell that is of no older write than the page's last as the array was mounted has the bytes that were reserved
  pub good_reserved : AreReserved first w cells page (number_of first.core page)
  good_reserved die slot version payload ours inside e newer =
      let geometry = (run_grown laws sync_laws flush_law begins_sound first page b happenings w u run).geometry in
      let honest = run_honest laws last_law begins_sound first happenings w u b last run in
      let low = subst (λ (g : Geometry). slot < g.blocks * g.slots) geometry inside in
      let low_page = subst (λ (g : Geometry). page < g.pages) geometry page_inside in
      let h = honest page die slot version payload low_page low ours (was_had die slot version payload e) in
      elim h.bytes [
        | inr is ↦ is
        | inl old ↦ absurd (omega (arith, old, newer))
      ]

module _ (laws : Laws) (sync_laws : SyncLaws) (flush_law : FlushLaw) (last_law : LastLaw) (begins_sound : (w : World) → IsBeginning w → IsSound w.core)
    (first w : World) (u : Unsynced) (page number : ℕ) (p : IsPromised first page number w u)
    (cells : ℕ → ℕ → Cell) (heads : ℕ → Option HeaderTells) (cut : IsCut w u cells heads) where
  f : FromFirst laws sync_laws flush_law begins_sound first page number p.written w u
  f = from_first laws sync_laws flush_law begins_sound first page number w u p

  page_inside : page < w.core.page_map.geometry.pages
  page_inside = at (get w.core.page_map.versions page) refl
    where
      at : (o : Option Version) → get w.core.page_map.versions page ≡ o → page < w.core.page_map.geometry.pages
      at (Some v) e = (f.since.kept.sound.numbers page v e).inside
      at None e =
          let n = number_none w.core page e in
          let m = f.since.held.number in
          let some = p.written in absurd (omega (arith, n, m, some))

  pub left_on : (die : ℕ) → holds_page w.core.page_map page die ≡ true → IsLeftOn w cells page number die
  left_on die holds =
      let c = copy_from_holds w.core page die holds in
      let found = held_backed laws sync_laws flush_law page number p.written w u f.since die
      (record { slot = c.slot; tag = c.tag_page; version = c.tag_version; held = c.held; page_is = c.page_is }) in
      let b = found.0 in
      record {
        inside_page = page_inside;
        slot = b.slot;
        inside = b.inside;
        version = b.version;
        payload = b.payload;
        stands = no_cell ((w.images die).seen b.slot) (u.since die b.slot) (cells die b.slot) b.settled (cut.slots die b.slot) ∙ b.stands;
        newer = found.1;
      }

  pub are_reserved : AreReserved first w cells page number
  are_reserved die slot version payload ours inside e newer =
      let rises = f.rises in
      good_reserved laws sync_laws flush_law last_law begins_sound first w f.happenings u page p.beginning p.cells f.run page_inside cells heads cut
      die slot version payload ours inside e (omega (arith, rises, newer))
