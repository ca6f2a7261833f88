-- The end of a job changes the slots of its own die alone.
use Rattle.fa_batch_terms.specs.Batch.{holds}
use Rattle.fa_laws.proofs.Finishing.{passed_all}
use Rattle.fa_machine.proofs.Lists.{among-range}
use Rattle.fa_machine.proofs.Maps.{get-keep, get-place_other, get-remove_other, place_cmp_total, place_same}
use Rattle.fa_machine.specs.Among.{Among}
use Rattle.fa_machine.specs.Cells.{DidErase, DidMove, DidProgram, DidRead, DidSync, DidWriteHeader, Fault, Outcome, Wrong}
use Rattle.fa_machine.specs.Collecting.{is_in_block}
use Rattle.fa_machine.specs.Conditions.{drop_die}
use Rattle.fa_machine.specs.Copies.{holders, holds_last, holds_page, is_current, is_lost, is_reserved_slot}
use Rattle.fa_machine.specs.Maps.{below, keep}
use Rattle.fa_machine.specs.State.{Core, MapState, OpenBatch, dies_of, slots_of}
use Rattle.fa_machine.specs.Taking.{EndsJob, finished, read_ends, stays, with_answer}
use Rattle.fa_machine.specs.declared.jobs.Flight.{Flight}
use Rattle.fa_machine.specs.declared.jobs.Flight.TheVariants.{Erase, Header, Move, Program, Read, Sync}
use Rattle.fa_machine.specs.declared.places.Used.{Used}
use Rattle.fa_machine.specs.declared.places.Used.TheVariants.{Stale}
use Rattle.fa_types.specs.declared.geometry.Geometry.{Geometry}
use Rattle.std.proofs.Common.{Bool, List, None, Option, Some, [], ap, arith, cond, false, inl, inr, length, not, refl, subst, sym}
use Rattle.std.proofs.Common.{true, ℕ, ◌*◌, ◌<◌, ◌∙◌, ◌∷◌, ◌≡◌}
use Rattle.std.proofs.lemmas.Bool.{and_left, and_right, cases_eq, false≢true, ne_eqb, not_from_false, or_left}
use Rattle.std.specs.FinMap.{contains_key, get, insert, remove}
use Rattle.std.specs.Prelude.{filter, find, if◌then◌else◌, is_some, ◌&&◌, ◌==◌}

-- what a die holds is as it was
pub record SameDie (old new : Core) (die : ℕ) : Type 0 where
  pub versions : new.page_map.versions ≡ old.page_map.versions
  pub geometry : new.page_map.geometry ≡ old.page_map.geometry
  pub live : contains_key new.page_map.live die ≡ contains_key old.page_map.live die
  pub used : (slot : ℕ) → get new.page_map.used (die, slot) ≡ get old.page_map.used (die, slot)

same_die : (core : Core) (die : ℕ) → SameDie core core die
same_die core die = record { versions = refl; geometry = refl; live = refl; used = λ slot. refl }

same_map : (old new : Core) (die : ℕ) → new.page_map ≡ old.page_map → SameDie old new die
same_map old new die e = record {
  versions = ap (λ (m : MapState). m.versions) e;
  geometry = ap (λ (m : MapState). m.geometry) e;
  live = ap (λ (m : MapState). contains_key m.live die) e;
  used = λ slot. ap (λ (m : MapState). get m.used (die, slot)) e;
}

pub dropped_other : (core : Core) (out die : ℕ) → (die ≡ out → ⊥) → SameDie core (drop_die out core) die
dropped_other core out die apart = record {
  versions = refl;
  geometry = refl;
  live = ap is_some (get-remove_other core.page_map.live out die apart);
  used = λ slot. get-keep place_cmp_total place_same (λ place used. not (place.0 == out)) core.page_map.used (die, slot)
      ∙ passed_all (λ used. not (die == out)) (get core.page_map.used (die, slot)) (λ u e. not_from_false (die == out) (ne_eqb die out apart));
}

pub moved_other : (core : Core) (out from to : ℕ) (final : Used) (die : ℕ) → (die ≡ out → ⊥) → (slot : ℕ)
    → get (insert (insert core.page_map.used (out, from) Stale) (out, to) final) (die, slot) ≡ get core.page_map.used (die, slot)
moved_other core out from to final die apart slot =
    get-place_other (insert core.page_map.used (out, from) Stale) out to final die slot (λ e f. apart e)
    ∙ get-place_other core.page_map.used out from Stale die slot (λ e f. apart e)

erased_other : (core : Core) (out block die : ℕ) → (die ≡ out → ⊥) → (slot : ℕ)
    → get (keep (stays core.page_map out block) core.page_map.used) (die, slot) ≡ get core.page_map.used (die, slot)
erased_other core out block die apart slot =
    get-keep place_cmp_total place_same (stays core.page_map out block) core.page_map.used (die, slot)
    ∙ passed_all (stays core.page_map out block (die, slot)) (get core.page_map.used (die, slot))
    (λ u e. or_left (not (die == out && is_in_block core.page_map block slot)) (is_reserved_slot (Some u))
    (not_from_false _ (and_left (die == out) (is_in_block core.page_map block slot) (ne_eqb die out apart))))

answer_other : (batch page : ℕ) (bytes : List ℕ) (b : Option OpenBatch) (core : Core) (die : ℕ) → SameDie core (with_answer batch page bytes b core) die
answer_other batch page bytes None core die = same_die core die
answer_other batch page bytes (Some b) core die = same_map core _ die refl

read_other : (core : Core) (out batch page : ℕ) (o : Option (List ℕ)) (die : ℕ) → (die ≡ out → ⊥) → SameDie core (read_ends out batch page o core) die
read_other core out batch page None die apart = dropped_other core out die apart
read_other core out batch page (Some bytes) die apart = answer_other batch page bytes (get core.batches batch) core die

header_other : (b : Bool) (x core : Core) (die : ℕ) → SameDie core x die → SameDie core (if b then x else core) die
header_other true x core die e = e
header_other false x core die e = same_die core die

finished_other : (core : Core) (out : ℕ) (flight : Flight) (outcome : Outcome) (die : ℕ) → (die ≡ out → ⊥) → SameDie core (finished out flight outcome core) die
finished_other core out (Read batch page version slot) (DidRead cell) die apart = read_other core out batch.0 page.0 _ die apart
finished_other core out (Program page version slot) DidProgram die apart = same_map core _ die refl
finished_other core out (Move page version from to) DidMove die apart =
    record { versions = refl; geometry = refl; live = refl; used = moved_other core out from.0 to.0 _ die apart }
finished_other core out (Erase block) DidErase die apart =
    record { versions = refl; geometry = refl; live = refl; used = erased_other core out block.0 die apart }
finished_other core out (Header epoch live) DidWriteHeader die apart = header_other (epoch == core.epoch) _ core die (same_map core _ die refl)
finished_other core out (Sync flushes) DidSync die apart = same_map core _ die refl
finished_other core out flight (Fault call) die apart = dropped_other core out die apart
finished_other core out flight Wrong die apart = dropped_other core out die apart
finished_other core out flight outcome die apart = same_die core die

find_alike : {X : Type 0} (p q : X → Bool) (xs : List X) → ((x : X) → p x ≡ q x) → find p xs ≡ find q xs
find_alike p q [] alike = refl
find_alike p q (x ∷ xs) alike = λ i. cond (alike x i) (Some x) (find_alike p q xs alike i)

holds_still : (old new : Core) (page die : ℕ) → SameDie old new die → holds_page old.page_map page die ≡ true → holds_page new.page_map page die ≡ true
holds_still old new page die same holds =
    ap is_some (find_alike (is_current new.page_map page die) (is_current old.page_map page die) (slots_of new.page_map)
    (λ slot. λ i. same.live i && holds_last page (get (same.versions i) page) (same.used slot i))
    ∙ ap (λ (g : Geometry). find (is_current old.page_map page die) (below (g.blocks * g.slots))) same.geometry)
    ∙ holds

some_left : {X : Type 0} (p : X → Bool) (x : X) (xs : List X) → Among x xs → p x ≡ true → (length (filter p xs) == 0) ≡ false
some_left p x [] i t = absurd i
some_left p x (y ∷ ys) (inl same) t = front (p y) (ap p same ∙ t)
  where
    front : (b : Bool) → b ≡ true → (length (cond b (y ∷ filter p ys) (filter p ys)) == 0) ≡ false
    front true e = ne_eqb _ 0 (λ z. absurd (omega (arith, z)))
    front false e = absurd (false≢true e)
some_left p x (y ∷ ys) (inr rest) t = behind (p y) (some_left p x ys rest t)
  where
    behind : (b : Bool) → (length (filter p ys) == 0) ≡ false → (length (cond b (y ∷ filter p ys) (filter p ys)) == 0) ≡ false
    behind true h = ne_eqb _ 0 (λ z. absurd (omega (arith, z)))
    behind false h = h

pub not_lost : (m : MapState) (page die : ℕ) → die < m.geometry.dies → holds_page m page die ≡ true → is_lost m page ≡ false
not_lost m page die low holds =
    and_right (is_some (get m.versions page)) (length (holders m page) == 0)
    (some_left (holds_page m page) die (dies_of m) (among-range 0 m.geometry.dies die (omega arith) (omega (arith, low))) holds)

ends_other : (old new : Core) (out : ℕ) (flight : Option Flight) (outcome : Outcome) (die : ℕ) → (die ≡ out → ⊥) → EndsJob old out flight outcome new → SameDie old new die
ends_other old new out None outcome die apart e = absurd e
ends_other old new out (Some flight) outcome die apart e =
    let same = finished_other (record old { jobs = remove old.jobs out }) out flight outcome die apart in
    subst (λ (c : Core). SameDie old c die) (sym e) (record { versions = same.versions; geometry = same.geometry; live = same.live; used = same.used })

one_outlasts : (old new : Core) (out : ℕ) (outcome : Outcome) (page die : ℕ) → (die ≡ out → ⊥) → EndsJob old out (get old.jobs out) outcome new → die < old.page_map.geometry.dies
    → holds_page old.page_map page die ≡ true → is_lost new.page_map page ≡ false
one_outlasts old new out outcome page die apart e low holds =
    let same = ends_other old new out (get old.jobs out) outcome die apart e in
    not_lost new.page_map page die (subst (λ (g : Geometry). die < g.dies) (sym same.geometry) low) (holds_still old new page die same holds)

pub outlasts : (old new : Core) (out : ℕ) (outcome : Outcome) (page one two : ℕ) → EndsJob old out (get old.jobs out) outcome new
    → holds_page old.page_map page one ≡ true → holds_page old.page_map page two ≡ true → (one ≡ two → ⊥)
    → one < old.page_map.geometry.dies → two < old.page_map.geometry.dies → is_lost new.page_map page ≡ false
outlasts old new out outcome page one two e first second apart low_one low_two =
    elim (cases_eq one out) [
      | inr away ↦ one_outlasts old new out outcome page one away e low_one first
      | inl same ↦ one_outlasts old new out outcome page two (λ other. apart (same ∙ sym other)) e low_two second
    ]
