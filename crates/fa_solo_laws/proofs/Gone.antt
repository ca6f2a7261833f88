-- A page that is lost stays lost while nobody writes it and no copy of it is under way.
use Rattle.fa_solo_laws.proofs.ReadBack.{reached_on}
use Rattle.fa_solo_laws.proofs.Changed.{Change, Changes, Why, Writes, event_changes}
use Rattle.fa_laws.proofs.Answering.{reached_holds}
use Rattle.fa_laws.proofs.Failing.{LiveLaw}
use Rattle.fa_laws.proofs.Invariant.{Holds}
use Rattle.fa_laws.proofs.Ranged.{HoldsRanged, calls_core, happens_ranged, reached_ranged}
use Rattle.fa_laws.proofs.Returning.{SparesLaw, finished_live}
use Rattle.fa_laws.proofs.Runs.{run_keeps}
use Rattle.fa_laws.proofs.Within.{GeometryLaw, reached_inside}
use Rattle.fa_laws.specs.Kept.{KeepsNumbers}
use Rattle.fa_laws.specs.Leaving.{LeavesPage, RunLeaving}
use Rattle.fa_laws.specs.Reached.{IsReached}
use Rattle.fa_machine.proofs.Lists.{among-range, none_passes}
use Rattle.fa_machine.proofs.Maps.{get-insert_other, get-remove_some, has_some}
use Rattle.fa_machine.specs.Among.{Among}
use Rattle.fa_machine.specs.Cells.{Outcome}
use Rattle.fa_machine.specs.Conditions.{reserved_under}
use Rattle.fa_machine.specs.Copies.{holders, holds_last, holds_page, is_current, is_lost}
use Rattle.fa_machine.specs.Maps.{Numbers}
use Rattle.fa_machine.specs.Run.{Event, Happening, Happens, HappensEvent, ImageCall}
use Rattle.fa_machine.specs.State.{Core, Reservation, dies_of, is_live, slots_of, used_at}
use Rattle.fa_machine.specs.Step.{Act, Commit, Done, SpareIn, Step}
use Rattle.fa_machine.specs.Taking.{EndsJob}
use Rattle.fa_machine.specs.World.{World}
use Rattle.fa_machine.specs.Writing.{Commits, claimed_page}
use Rattle.fa_machine.specs.declared.jobs.Flight.{Flight}
use Rattle.fa_machine.specs.declared.places.Copying.{Copying}
use Rattle.fa_machine.specs.declared.places.Used.{Used}
use Rattle.fa_machine.specs.declared.places.Used.TheVariants.{Held, Reserved, Stale}
use Rattle.fa_machine.specs.declared.places.Version.{Version}
use Rattle.fa_machine.specs.declared.refusals.CommitRefused.{CommitRefused}
use Rattle.fa_machine.specs.declared.refusals.SpareRefused.TheVariants.{NotSpare}
use Rattle.fa_types.specs.declared.numbers.Page.{Page}
use Rattle.fa_types.specs.declared.numbers.Seq.{Seq}
use Rattle.std.proofs.Common.{Bool, List, None, Option, Some, [], ap, arith, cond, eqb-true, false, inl, inr, length, refl, subst, sym, true, ℕ}
use Rattle.std.proofs.Common.{◌*◌, ◌<◌, ◌∙◌, ◌∷◌, ◌≡◌, ◌⊎◌}
use Rattle.std.proofs.lemmas.Bool.{and_from, and_parts, cases_eq, false_from_ne_true, false≢true, ltb-true, or_cases, or_left, or_right}
use Rattle.std.proofs.lemmas.Bool.{true≢false}
use Rattle.std.specs.FinMap.{FinMap, contains_key, get, remove}
use Rattle.std.specs.Ordering.{nat_cmp}
use Rattle.std.specs.Prelude.{Err, Ok, filter, find, is_some, nat_lt, ◌==◌, ◌||◌}

-- a die that is live or may be brought in
abbrev pub may_live : Core → ℕ → Bool
may_live core die = is_live core.page_map die || contains_key core.spares die

-- no slot of a die that is live, or may be brought in, holds the page with its number, and no copy of it is under way
pub record IsGone (page : ℕ) (core : Core) : Type 0 where
  pub written : is_some (get core.page_map.versions page) ≡ true
  pub nowhere : (die slot : ℕ) → may_live core die ≡ true → holds_last page (get core.page_map.versions page) (used_at core.page_map die slot) ≡ false
  pub no_copy : (c : Copying) → core.copying ≡ Some c → c.page.0 ≡ page → ⊥

none_kept : {X : Type 0} (p : X → Bool) (xs : List X) → ((x : X) → p x ≡ false) → filter p xs ≡ []
none_kept p [] none = refl
none_kept p (x ∷ xs) none = ap (λ b. cond b (x ∷ filter p xs) (filter p xs)) (none x) ∙ none_kept p xs none

none_there : {X : Type 0} (p : X → Bool) (xs : List X) → ((x : X) → p x ≡ false) → find p xs ≡ None
none_there p [] none = refl
none_there p (x ∷ xs) none = ap (λ b. cond b (Some x) (find p xs)) (none x) ∙ none_there p xs none

pub gone_lost : (page : ℕ) (core : Core) → IsGone page core → is_lost core.page_map page ≡ true
gone_lost page core gone =
    and_from (is_some (get core.page_map.versions page)) _ gone.written
    (ap (λ (dies : List ℕ). length dies == 0) (none_kept (holds_page core.page_map page) (dies_of core.page_map)
    (λ die. ap is_some (none_there (is_current core.page_map page die) (slots_of core.page_map) (not_current die)))))
  where
    not_current : (die slot : ℕ) → is_current core.page_map page die slot ≡ false
    not_current die slot =
        false_from_ne_true _ (λ current.
        let parts = and_parts (is_live core.page_map die) _ current in
        false≢true (sym (gone.nowhere die slot (or_left (is_live core.page_map die) (contains_key core.spares die) parts.0)) ∙ parts.1))

-- what a list of holders leaves out
no_holder : {X : Type 0} (p : X → Bool) (xs : List X) (x : X) → Among x xs → (length (filter p xs) == 0) ≡ true → p x ≡ false
no_holder p [] x i e = absurd i
no_holder p (y ∷ ys) x i e = at_head (p y) refl e i (no_holder p ys x)
  where
    at_head : (b : Bool) → p y ≡ b → (length (cond b (y ∷ filter p ys) (filter p ys)) == 0) ≡ true → (y ≡ x) ⊎ Among x ys
        → (Among x ys → (length (filter p ys) == 0) ≡ true → p x ≡ false) → p x ≡ false
    at_head true is e i rest = absurd (let none = eqb-true _ 0 e in omega (arith, none))
    at_head false is e (inl same) rest = subst (λ z. p z ≡ false) same is
    at_head false is e (inr later) rest = rest later e

-- what is not used of a spare is erased
abbrev pub SparesErased : Core → Type 0
SparesErased core = (die slot : ℕ) → contains_key core.spares die ≡ true → get core.page_map.used (die, slot) ≡ None

module _ (lives : LiveLaw) (spares : SparesLaw) where
  -- a spare was one before
  was_spare : (old new : Core) (act : Act) → Step old act new → (die : ℕ) → contains_key new.spares die ≡ true → contains_key old.spares die ≡ true
  was_spare old new (SpareIn d (Ok made)) step die is =
      let now : contains_key (remove old.spares d) die ≡ true = sym (ap (λ (c : Core). contains_key c.spares die) step.does.1) ∙ is in
      let some = has_some (get (remove old.spares d) die) now in ap is_some (get-remove_some old.spares d die some.0 some.1).0
  was_spare old new (SpareIn d (Err NotSpare)) step die is = sym (ap (λ (c : Core). contains_key c.spares die) step.does.1) ∙ is
  was_spare old new act step die is = sym (ap (λ (m : Numbers). contains_key m die) (spares old new act step)) ∙ is

  was_there : (live : Numbers) (out d : ℕ) → contains_key (remove live out) d ≡ true → contains_key live d ≡ true
  was_there live out d is = let some = has_some (get (remove live out) d) is in ap is_some (get-remove_some live out d some.0 some.1).0

  pub done_live : (old new : Core) (out : ℕ) (flight : Option Flight) (outcome : Outcome) → EndsJob old out flight outcome new
      → (d : ℕ) → is_live new.page_map d ≡ true → is_live old.page_map d ≡ true
  done_live old new out None outcome ends d is = absurd ends
  done_live old new out (Some flight) outcome ends d is =
      let now = sym (ap (λ (c : Core). is_live c.page_map d) ends) ∙ is in
      elim (finished_live out flight outcome (record old { jobs = remove old.jobs out })) [
        | inl kept ↦ sym (ap (λ (m : Numbers). contains_key m d) kept) ∙ now
        | inr left ↦ was_there old.page_map.live out d (sym (ap (λ (m : Numbers). contains_key m d) left) ∙ now)
      ]

  -- a die that may live might before
  might_live : (old new : Core) (act : Act) → Step old act new → (die : ℕ) → may_live new die ≡ true → may_live old die ≡ true
  might_live old new act step die is =
      elim (or_cases (is_live new.page_map die) (contains_key new.spares die) is) [
        | inl live ↦ by_act act step live
        | inr spare ↦ or_right (is_live old.page_map die) (contains_key old.spares die) (was_spare old new act step die spare)
      ]
    where
      by_act : (act : Act) → Step old act new → is_live new.page_map die ≡ true → may_live old die ≡ true
      by_act (Done out outcome) step live =
          or_left (is_live old.page_map die) (contains_key old.spares die) (done_live old new out (get old.jobs out) outcome step.does die live)
      by_act (SpareIn d (Ok made)) step live =
          elim (cases_eq die d) [
            | inl same ↦ or_right (is_live old.page_map die) (contains_key old.spares die) (ap (contains_key old.spares) same ∙ step.does.0)
            | inr apart ↦ or_left (is_live old.page_map die) (contains_key old.spares die)
                (sym (ap is_some (get-insert_other old.page_map.live d tt die apart)) ∙ sym (ap (λ (c : Core). is_live c.page_map die) step.does.1) ∙ live)
          ]
      by_act (SpareIn d (Err NotSpare)) step live =
          or_left (is_live old.page_map die) (contains_key old.spares die) (sym (ap (λ (c : Core). is_live c.page_map die) step.does.1) ∙ live)
      by_act act step live =
          or_left (is_live old.page_map die) (contains_key old.spares die) (sym (ap (λ (m : Numbers). contains_key m die) (lives old new act step)) ∙ live)

  event_spares : (w : World) → Holds w → SparesErased w.core → (act : Act) (after : World) → HappensEvent w act after → SparesErased after.core
  event_spares w h erased act after happens die slot spare =
      let was = was_spare w.core after.core act happens.step die spare in
      let empty = erased die slot was in
      elim ((event_changes w h act after.core happens.step.does happens.told).used die slot) [
        | inl kept ↦ kept ∙ empty
        | inr changed ↦ elim changed [
          | inl none ↦ none
          | inr new ↦ elim (new.there) [
            | inl live ↦ absurd (false≢true (sym (h.sound.spares die was) ∙ live))
            | inr some ↦ absurd (false≢true (sym (ap is_some empty) ∙ some))
          ]
        ]
      ]

  record HoldsErased (w : World) : Type 0 where
    ranged : HoldsRanged w
    erased : SparesErased w.core

  happens_erased : (before : World) (happening : Happening) (after : World) → HoldsErased before → Happens before happening after → HoldsErased after
  happens_erased before (Event act) after h happens = record {
    ranged = happens_ranged before (Event act) after h.ranged happens;
    erased = event_spares before h.ranged.holds h.erased act after happens;
  }
  happens_erased before (ImageCall die gave) after h happens = record {
    ranged = happens_ranged before (ImageCall die gave) after h.ranged happens;
    erased = subst SparesErased (sym (calls_core before after die (before.works die) gave happens)) h.erased;
  }

  pub reached_erased : (w : World) → IsReached w → SparesErased w.core
  reached_erased w r =
      (run_keeps HoldsErased happens_erased r.first r.happenings w (record {
        ranged = reached_ranged r.first (record { first = r.first; happenings = []; beginning = r.beginning; run = refl });
        erased = λ die slot spare. not_used (get r.first.core.page_map.used (die, slot))
            (λ is. false≢true (sym (r.beginning.spares die spare).1 ∙ (r.beginning.used die slot is).0));
      }) r.run).erased
    where
      not_used : (o : Option Used) → (is_some o ≡ true → ⊥) → o ≡ None
      not_used None none = refl
      not_used (Some u) none = absurd (none refl)

nothing_holds : (page : ℕ) (v : Option Version) → holds_last page v None ≡ false
nothing_holds page None = refl
nothing_holds page (Some v) = refl

not_some : {X : Type 0} (o : Option X) → is_some o ≡ false → o ≡ None
not_some None e = refl
not_some (Some x) e = absurd (true≢false e)

-- a page that is lost in a world that runs lead to, where no copy of it is under way
pub lost_gone : LiveLaw → SparesLaw → GeometryLaw → (w : World) → IsReached w → (page : ℕ) → is_lost w.core.page_map page ≡ true
    → ((c : Copying) → w.core.copying ≡ Some c → c.page.0 ≡ page → ⊥) → IsGone page w.core
lost_gone lives spares same w reached page lost none =
    let parts = and_parts (is_some (get w.core.page_map.versions page)) (length (holders w.core.page_map page) == 0) lost in
    record {
      written = parts.0;
      nowhere = λ die slot may. elim (or_cases (is_live w.core.page_map die) (contains_key w.core.spares die) may) [
        | inr spare ↦ ap (holds_last page (get w.core.page_map.versions page)) (reached_erased lives spares w reached die slot spare)
            ∙ nothing_holds page (get w.core.page_map.versions page)
        | inl live ↦ not_on die slot live (holder die live parts.1)
      ];
      no_copy = none;
    }
  where
    holder : (die : ℕ) → is_live w.core.page_map die ≡ true → (length (holders w.core.page_map page) == 0) ≡ true → holds_page w.core.page_map page die ≡ false
    holder die live empty =
        let low = reached_inside lives same w reached die live in
        no_holder (holds_page w.core.page_map page) (dies_of w.core.page_map) die
        (among-range 0 w.core.page_map.geometry.dies die (omega arith) (omega (arith, low))) empty

    holds_some : (slot die : ℕ) (v : Option Version) (o : Option Used) → used_at w.core.page_map die slot ≡ o → holds_last page v o ≡ true
        → slot < w.core.page_map.geometry.blocks * w.core.page_map.geometry.slots
    holds_some slot die v (Some u) is holds = (reached_ranged w reached).ranged die slot u is
    holds_some slot die v None is holds = absurd (false≢true (sym (nothing_holds page v) ∙ holds))

    not_on : (die slot : ℕ) → is_live w.core.page_map die ≡ true → holds_page w.core.page_map page die ≡ false
        → holds_last page (get w.core.page_map.versions page) (used_at w.core.page_map die slot) ≡ false
    not_on die slot live empty = false_from_ne_true _ (λ holds.
        let low = holds_some slot die (get w.core.page_map.versions page) (used_at w.core.page_map die slot) refl holds in
        let current = and_from (is_live w.core.page_map die) _ live holds in
        false≢true (sym (none_passes (is_current w.core.page_map page die) (slots_of w.core.page_map)
        (not_some (find (is_current w.core.page_map page die) (slots_of w.core.page_map)) empty) slot
        (among-range 0 (w.core.page_map.geometry.blocks * w.core.page_map.geometry.slots) slot (omega arith) (omega (arith, low)))) ∙ current))

abbrev pub NumbersLaw : Type 0
NumbersLaw = (old new : Core) (act : Act) → Step old act new → KeepsNumbers old act new

commit_number : (old new : Core) (claim seat page : ℕ) (seq : Seq) (o : Option Reservation) → Commits old claim seat o (Ok seq) new
    → (claimed_page old claim ≡ page → ⊥) → get new.page_map.versions page ≡ get old.page_map.versions page
commit_number old new claim seat page seq None d apart = absurd d
commit_number old new claim seat page seq (Some r) d apart =
    ap (λ (c : Core). get c.page_map.versions page) d.2
    ∙ get-insert_other old.page_map.versions (claimed_page old claim) r.version page (λ e. apart (sym e))

refused_number : (old new : Core) (claim seat page : ℕ) (refused : CommitRefused) (o : Option Reservation) → Commits old claim seat o (Err refused) new
    → get new.page_map.versions page ≡ get old.page_map.versions page
refused_number old new claim seat page refused None d = absurd d
refused_number old new claim seat page refused (Some r) d = ap (λ (c : Core). get c.page_map.versions page) d.1

-- the number of a page that the event does not write
pub number_kept : NumbersLaw → (w after : World) (act : Act) (page : ℕ) → HappensEvent w act after → LeavesPage page w (Event act)
    → get after.core.page_map.versions page ≡ get w.core.page_map.versions page
number_kept numbers w after (Commit claim seat (Ok seq)) page happens leaves =
    commit_number w.core after.core claim seat page seq (reserved_under w.core claim) happens.step.does leaves
number_kept numbers w after (Commit claim seat (Err refused)) page happens leaves =
    refused_number w.core after.core claim seat page refused (reserved_under w.core claim) happens.step.does
number_kept numbers w after act page happens leaves =
    ap (λ (m : FinMap nat_cmp Version). get m page) (numbers w.core after.core act happens.step)

not_written : (w : World) (act : Act) (page p : ℕ) → LeavesPage page w (Event act) → p ≡ page → Writes w.core act p → ⊥
not_written w (Commit claim seat (Ok seq)) page p leaves same writes = leaves (writes ∙ same)
not_written w (Commit claim seat (Err refused)) page p leaves same writes = writes
not_written w act page p leaves same writes = writes

module _ (lives : LiveLaw) (spares : SparesLaw) (numbers : NumbersLaw) (page : ℕ) where
  event_gone : (w : World) → Holds w → IsGone page w.core → (act : Act) (after : World) → HappensEvent w act after → LeavesPage page w (Event act)
      → IsGone page after.core
  event_gone w h gone act after happens leaves = record {
    written = ap is_some number ∙ gone.written;
    nowhere = λ die slot may.
        ap (λ (v : Option Version). holds_last page v (used_at after.core.page_map die slot)) number
        ∙ by_change die slot (might_live lives spares w.core after.core act happens.step die may) (changes.used die slot);
    no_copy = λ c e same. elim (changes.copying c e) [
      | inl was ↦ gone.no_copy was.0 was.1 (was.2 ∙ same)
      | inr thin ↦
          let some = ltb-true 0 _ (and_parts (nat_lt 0 (length (holders w.core.page_map c.page.0))) _ thin).0 in
          let none = eqb-true _ 0 (and_parts (is_some (get w.core.page_map.versions c.page.0)) (length (holders w.core.page_map c.page.0) == 0)
          (subst (λ p. is_lost w.core.page_map p ≡ true) (sym same) (gone_lost page w.core gone))).1 in
          omega (arith, some, none)
    ];
  }
    where
      changes : Changes w.core act after.core
      changes = event_changes w h act after.core happens.step.does happens.told

      number : get after.core.page_map.versions page ≡ get w.core.page_map.versions page
      number = number_kept numbers w after act page happens leaves

      not_why : (die p : ℕ) → may_live w.core die ≡ true → p ≡ page → Why w.core act die p → ⊥
      not_why die p may same (inl writes) = not_written w act page p leaves same writes
      not_why die p may same (inr (inl copies)) = gone.no_copy copies.0 copies.1 (copies.2 ∙ same)
      not_why die p may same (inr (inr moved)) =
          let current = subst (λ n. is_current w.core.page_map n die moved.0 ≡ true) same moved.1 in
          false≢true (sym (gone.nowhere die moved.0 may) ∙ (and_parts (is_live w.core.page_map die) _ current).1)

      not_held : (die : ℕ) → may_live w.core die ≡ true → (v : Option Version) (now : Option Used)
          → ((p : Page) (version : Version) → now ≡ Some (Held p version) → Why w.core act die p.0) → holds_last page v now ≡ false
      not_held die may None now why = refl
      not_held die may (Some v) None why = refl
      not_held die may (Some v) (Some Reserved) why = refl
      not_held die may (Some v) (Some Stale) why = refl
      not_held die may (Some v) (Some (Held p version)) why = false_from_ne_true _ (λ holds.
          not_why die p.0 may (eqb-true p.0 page (and_parts (p.0 == page) _ holds).0) (why p version refl))

      by_change : (die slot : ℕ) → may_live w.core die ≡ true → Change w.core act die slot (get after.core.page_map.used (die, slot))
          → holds_last page (get w.core.page_map.versions page) (used_at after.core.page_map die slot) ≡ false
      by_change die slot may (inl kept) = ap (holds_last page (get w.core.page_map.versions page)) kept ∙ gone.nowhere die slot may
      by_change die slot may (inr (inl none)) =
          ap (holds_last page (get w.core.page_map.versions page)) none ∙ nothing_holds page (get w.core.page_map.versions page)
      by_change die slot may (inr (inr new)) = not_held die may (get w.core.page_map.versions page) _ new.why

  -- a page that is lost stays lost where nobody writes it
  pub happens_gone : (before : World) → Holds before → IsGone page before.core → (happening : Happening) (after : World)
      → Happens before happening after → LeavesPage page before happening → IsGone page after.core
  happens_gone before h gone (Event act) after happens leaves = event_gone before h gone act after happens leaves
  happens_gone before h gone (ImageCall die gave) after happens leaves =
      subst (IsGone page) (sym (calls_core before after die (before.works die) gave happens)) gone

  pub run_gone : (before : World) → IsReached before → IsGone page before.core → (happenings : List Happening) (after : World)
      → RunLeaving page before happenings after → IsGone page after.core
  run_gone before reached gone [] after run = subst (λ (v : World). IsGone page v.core) (sym run) gone
  run_gone before reached gone (happening ∷ happenings) after run =
      run_gone run.0 (reached_on before reached (happening ∷ []) run.0 (run.0, run.1, refl))
      (happens_gone before (reached_holds before reached) gone happening run.0 run.1 run.2) happenings after run.3
