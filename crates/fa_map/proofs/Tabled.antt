-- The tables of a page map follow an entry that is written.
use Rattle.std.proofs.Common.{◌≡◌, ℕ, ◌+◌, ◌*◌, ◌<◌, false, List, Option, Some, None, length, set, ap, inl, inr, refl, sym, subst, ◌∙◌, arith}
use Rattle.std.proofs.lemmas.Bool.{false≢true}
use Rattle.std.proofs.lemmas.List.{get_or-replicate, get_or-set_same, get_or-set_other, length-replicate, length-set}
use Rattle.std.proofs.lemmas.Option.{none-some}
use Rattle.fa_types.specs.declared.geometry.Geometry.{Geometry}
use Rattle.fa_map.specs.Chains.{AreSeconds, IsRenewed, IsSeam, entry_at, entry_of, link_at, link_from, no_link, target}
use Rattle.fa_map.specs.Entries.{AreTables, AreTallied, count_of, is_current_entry, is_same_state, no_counts, state_of_entry, with_head, with_link}
use Rattle.fa_map_calls.specs.Plain.{die_slots}
use Rattle.fa_map.specs.declared.entries.Entry.{Entry}
use Rattle.fa_map.specs.declared.entries.Entry.TheVariants.{Erased, Current}
use Rattle.fa_map.specs.declared.entries.Link.{Link}
use Rattle.fa_map.specs.declared.entries.Second.{Second}
use Rattle.fa_map_calls.specs.declared.slots.BlockCounts.{BlockCounts}
use Rattle.fa_map.proofs.Chained.{chained_alike, chained_with, chained_without, same_page, same_place, some_place}
use Rattle.fa_map_calls.proofs.Changed.{place_cases}
use Rattle.fa_map_calls.proofs.Indices.{index_apart, index_fits}
use Rattle.fa_map.proofs.Seconds.{seconds_kept}
use Rattle.fa_map_calls.specs.declared.slots.SlotState.{SlotState}
use Rattle.fa_map_calls.specs.declared.slots.SlotState.TheVariants as states
use Rattle.std.specs.List.{count_by, range_with_len}
use Rattle.std.specs.Prelude.{if◌then◌else◌, replicate}
use Rattle.fa_map_calls.proofs.Written.{repeated}
use Rattle.fa_map_calls.proofs.Ranges.{count_same}
use Rattle.fa_map.proofs.Tallied.{entry_same, entry_other}

-- the same tables, told otherwise
pub tables_told : (g : Geometry) (entries entries' : List Entry) (links links' heads heads' : List Link) (counts counts' : List BlockCounts) (erased erased' : List ℕ)
    → entries' ≡ entries → links' ≡ links → heads' ≡ heads → counts' ≡ counts → erased' ≡ erased
    → AreTables g entries links heads counts erased → AreTables g entries' links' heads' counts' erased'
tables_told g entries entries' links links' heads heads' counts counts' erased erased' a b c d e tables =
    subst (λ k. AreTables g k links' heads' counts' erased') (sym a)
    (subst (λ k. AreTables g entries k heads' counts' erased') (sym b)
    (subst (λ k. AreTables g entries links k counts' erased') (sym c)
    (subst (λ k. AreTables g entries links heads k erased') (sym d)
    (subst (λ k. AreTables g entries links heads counts k) (sym e) tables))))

pub bare_entry : (e : Entry) (page : ℕ) → is_current_entry e ≡ false → e ≡ Current page → ⊥
bare_entry e page bare is = false≢true (sym bare ∙ ap is_current_entry is)

abbrev all_erased : ℕ → List Entry
all_erased count = replicate count Erased

erased_at : (count k : ℕ) → entry_at (all_erased count) k ≡ Erased
erased_at count k = repeated count k Erased

abbrev pub fresh : Geometry → BlockCounts
fresh g = record { erased = g.slots; reserved = 0; current = 0; stale = 0 }

pub new_tables : (g : Geometry) → AreTables g (all_erased (g.dies * die_slots g)) (replicate (g.dies * die_slots g) no_link) (replicate g.pages no_link)
    (replicate (g.dies * g.blocks) (fresh g)) (replicate g.dies (die_slots g))
new_tables g = record {
  tallied = record {
    slots = length-replicate (g.dies * die_slots g) Erased;
    blocks = length-replicate (g.dies * g.blocks) (fresh g);
    dies = length-replicate g.dies (die_slots g);
    counted = λ die block state low fits.
        ap (count_of state) (get_or-replicate (g.dies * g.blocks) (die * g.blocks + block) (fresh g) no_counts (index_fits die block g.dies g.blocks low fits))
        ∙ all_of state ∙ sym (tally (λ k. die * die_slots g + k) (block * g.slots) g.slots state);
    free = λ die low. get_or-replicate g.dies die (die_slots g) 0 low ∙ sym (tally (λ k. die * die_slots g + k) 0 (die_slots g) states.Erased);
  };
  linked = length-replicate (g.dies * die_slots g) no_link;
  pages = length-replicate g.pages no_link;
  chained = record {
    fits = λ d s page within is. absurd (bare d s page is);
    once = λ d s other page a b is also. absurd (bare d s page is);
    heads = λ page known. record {
      found = λ d s e. absurd (none-some (d, s) (sym (ap target (repeated g.pages page no_link)) ∙ e));
      between = λ d s a b c is. bare d s page is;
    };
    links = λ d s page within is. absurd (bare d s page is);
  };
}
  where
    bare : (d s page : ℕ) → entry_of (all_erased (g.dies * die_slots g)) (die_slots g) d s ≡ Current page → ⊥
    bare d s page is = bare_entry Erased page refl (sym (erased_at (g.dies * die_slots g) (d * die_slots g + s)) ∙ is)

    tally : (at : ℕ → ℕ) (first count : ℕ) (state : SlotState)
        → count_by (λ k. is_same_state (state_of_entry (entry_at (all_erased (g.dies * die_slots g)) (at k))) state) (range_with_len first count)
        ≡ (if is_same_state states.Erased state then count else 0)
    tally at first count state = count_same (λ k. is_same_state (state_of_entry (entry_at (all_erased (g.dies * die_slots g)) (at k))) state) (is_same_state states.Erased state) first count
        (λ k. ap (λ (e : Entry). is_same_state (state_of_entry e) state) (erased_at (g.dies * die_slots g) (at k)))

    all_of : (state : SlotState) → count_of state (fresh g) ≡ (if is_same_state states.Erased state then g.slots else 0)
    all_of states.Erased = refl
    all_of states.Reserved = refl
    all_of states.Current = refl
    all_of states.Stale = refl

module _ (g : Geometry) (entries : List Entry) (links heads : List Link) (counts : List BlockCounts) (erased : List ℕ)
    (tables : AreTables g entries links heads counts erased) (die slot : ℕ) (low : die < g.dies) (within : slot < die_slots g)
    (counts' : List BlockCounts) (erased' : List ℕ) where
  abbrev n : ℕ
  n = die_slots g

  abbrev index : ℕ
  index = die * n + slot

  fits : index < length entries
  fits = subst (λ k. index < k) (sym tables.tallied.slots) (index_fits die slot g.dies n low within)

  link_fits : (d s : ℕ) → d < g.dies → s < n → d * n + s < length links
  link_fits d s a b = subst (λ k. d * n + s < k) (sym tables.linked) (index_fits d s g.dies n a b)

  other : (e : Entry) (d s : ℕ) → s < n → (d ≡ die → s ≡ slot → ⊥) → entry_of (set entries index e) n d s ≡ entry_of entries n d s
  other e d s inside apart = entry_other entries n die slot d s e within inside apart

  here : (e : Entry) → entry_of (set entries index e) n die slot ≡ e
  here e = entry_same entries n die slot die slot e fits refl refl

  -- a slot that holds no copy, and comes to hold none
  pub plain_set : (e : Entry) → is_current_entry (entry_of entries n die slot) ≡ false → is_current_entry e ≡ false
      → AreTallied g (set entries index e) counts' erased' → AreTables g (set entries index e) links heads counts' erased'
  plain_set e bare plain tallied = record {
    tallied = tallied;
    linked = tables.linked;
    pages = tables.pages;
    chained = chained_alike (entry_of entries n) (entry_of (set entries index e) n) (link_at heads) (link_from links n) n g.dies g.pages
        (λ d s page inside is. other e d s inside (λ a b. bare_entry (entry_of entries n die slot) page bare ((λ i. entry_of entries n (sym a i) (sym b i)) ∙ is)) ∙ is)
        (λ d s page inside is. elim (place_cases d s die slot) [
          | inl at ↦ absurd (bare_entry e page plain (sym (entry_same entries n die slot d s e fits at.0 at.1) ∙ is))
          | inr apart ↦ sym (other e d s inside apart) ∙ is
        ])
        tables.chained;
  }

  -- links that were written behind a place
  head_first : (last : Option (ℕ × ℕ)) (page : ℕ) (link : Link) → page < g.pages → last ≡ None → link_at (with_head last page link heads) page ≡ target link
  head_first None page link known e = ap target (get_or-set_same heads page link no_link (subst (λ k. page < k) (sym tables.pages) known))
  head_first (Some p) page link known e = absurd (none-some p (sym e))

  head_else : (last : Option (ℕ × ℕ)) (page : ℕ) (link : Link) (p : ℕ) → (last ≡ None → p ≡ page → ⊥) → link_at (with_head last page link heads) p ≡ link_at heads p
  head_else None page link p off = ap target (get_or-set_other heads page p link no_link (off refl))
  head_else (Some q) page link p off = refl

  link_here : (table : List Link) (last : Option (ℕ × ℕ)) (link : Link) (d s : ℕ) → d * n + s < length table → last ≡ Some (d, s) → link_from (with_link last n link table) n d s ≡ target link
  link_here table None link d s inside e = absurd (none-some (d, s) e)
  link_here table (Some (d0, s0)) link d s inside e =
      let at = same_place d0 s0 d s e in
      (λ i. link_from (set table (at.0 i * n + at.1 i) link) n d s) ∙ ap target (get_or-set_same table (d * n + s) link no_link inside)

  link_else : (table : List Link) (last : Option (ℕ × ℕ)) (link : Link) → ((d s : ℕ) → last ≡ Some (d, s) → s < n)
      → (d s : ℕ) → s < n → (last ≡ Some (d, s) → ⊥) → link_from (with_link last n link table) n d s ≡ link_from table n d s
  link_else table None link fit d s inside off = refl
  link_else table (Some (d0, s0)) link fit d s inside off =
      ap target (get_or-set_other table (d0 * n + s0) (d * n + s) link no_link
      (λ e. let at = index_apart d s d0 s0 n inside (fit d0 s0 refl) e in off (λ i. some_place (sym at.0 i) (sym at.1 i))))

  pub copy_removed : (e : Entry) (page : ℕ) (last next : Option (ℕ × ℕ)) (link : Link) → entry_of entries n die slot ≡ Current page → is_current_entry e ≡ false
      → IsSeam (entry_of entries n) n g.dies page die last next → target link ≡ link_from links n die slot
      → AreTallied g (set entries index e) counts' erased'
      → AreTables g (set entries index e) (with_link last n link links) (with_head last page link heads) counts' erased'
  copy_removed e page last next link held plain seam is tallied = record {
    tallied = tallied;
    linked = long last ∙ tables.linked;
    pages = size last ∙ tables.pages;
    chained = chained_without (entry_of entries n) (entry_of (set entries index e) n) (link_at heads) (link_at (with_head last page link heads)) (link_from links n) (link_from (with_link last n link links) n) n g.dies g.pages page die slot
        last next tables.chained within (other e) seam held (λ p k. bare_entry e p plain (sym (here e) ∙ k)) record {
          first = λ none. head_first last page link known none ∙ is;
          heads = head_else last page link;
          previous = λ d s at. let old = seam.found d s at in link_here links last link d s (link_fits d s old.1 old.2) at ∙ is;
          links = link_else links last link (λ d s at. (seam.found d s at).2);
        };
  }
    where
      known : page < g.pages
      known = (tables.chained.fits die slot page within held).1

      long : (last : Option (ℕ × ℕ)) → length (with_link last n link links) ≡ length links
      long None = refl
      long (Some p) = length-set links (p.0 * n + p.1) link

      size : (last : Option (ℕ × ℕ)) → length (with_head last page link heads) ≡ length heads
      size None = length-set heads page link
      size (Some p) = refl

  pub copy_added : (page : ℕ) (last next : Option (ℕ × ℕ)) (follow link : Link) → page < g.pages → is_current_entry (entry_of entries n die slot) ≡ false
      → ((s : ℕ) → s < n → entry_of entries n die s ≡ Current page → ⊥)
      → IsSeam (entry_of entries n) n g.dies page die last next → target follow ≡ next → target link ≡ some_place die slot
      → AreTallied g (set entries index (Current page)) counts' erased'
      → AreTables g (set entries index (Current page)) (with_link last n link (set links index follow)) (with_head last page link heads) counts' erased'
  copy_added page last next follow link known bare once seam is to tallied = record {
    tallied = tallied;
    linked = long last ∙ length-set links index follow ∙ tables.linked;
    pages = size last ∙ tables.pages;
    chained = chained_with (entry_of entries n) (entry_of (set entries index (Current page)) n) (link_at heads) (link_at (with_head last page link heads)) (link_from links n)
        (link_from (with_link last n link (set links index follow)) n) n g.dies g.pages page die slot last next tables.chained within (other (Current page)) seam
        low known (λ p k. bare_entry (entry_of entries n die slot) p bare k) once (here (Current page)) record {
          first = λ none. head_first last page link known none ∙ to;
          heads = head_else last page link;
          new =
              link_else (set links index follow) last link fit die slot within (λ at. not_last at)
              ∙ ap target (get_or-set_same links index follow no_link (link_fits die slot low within)) ∙ is;
          previous = λ d s at.
              let old = seam.found d s at in
              link_here (set links index follow) last link d s (subst (λ k. d * n + s < k) (sym (length-set links index follow)) (link_fits d s old.1 old.2)) at ∙ to;
          links = λ d s inside off apart.
              link_else (set links index follow) last link fit d s inside off
              ∙ ap target (get_or-set_other links index (d * n + s) follow no_link (λ k. let at = index_apart d s die slot n inside within k in apart at.0 at.1));
        };
  }
    where
      fit : (d s : ℕ) → last ≡ Some (d, s) → s < n
      fit d s at = (seam.found d s at).2

      not_last : last ≡ Some (die, slot) → ⊥
      not_last at = let old = seam.found die slot at in let less = old.0 in omega (arith, less)

      long : (last : Option (ℕ × ℕ)) → length (with_link last n link (set links index follow)) ≡ length (set links index follow)
      long None = refl
      long (Some p) = length-set (set links index follow) (p.0 * n + p.1) link

      size : (last : Option (ℕ × ℕ)) → length (with_head last page link heads) ≡ length heads
      size None = length-set heads page link
      size (Some p) = refl

  -- what is kept of each page's second place, after a copy went
  pub seconds_removed : (page : ℕ) (last next : Option (ℕ × ℕ)) (link : Link) (links' heads' : List Link) (seconds seconds' : List Second)
      → IsSeam (entry_of entries n) n g.dies page die last next → links' ≡ with_link last n link links → heads' ≡ with_head last page link heads
      → AreSeconds links heads seconds n g.pages → IsRenewed links' heads' seconds seconds' n page → AreSeconds links' heads' seconds' n g.pages
  seconds_removed page last next link links' heads' seconds seconds' seam a b =
      seconds_kept (entry_of entries n) links links' heads heads' seconds seconds' n g.dies g.pages page tables.chained
      (λ p apart. ap (λ (l : List Link). link_at l p) b ∙ head_else last page link p (λ _. apart))
      (λ p d s apart fits is.
      ap (λ (l : List Link). link_from l n d s) a
      ∙ link_else links last link (λ d s at. (seam.found d s at).2) d s fits (λ e. apart (same_page p page (sym is ∙ (seam.found d s e).3))))

  -- and after one came
  pub seconds_added : (page : ℕ) (last next : Option (ℕ × ℕ)) (follow link : Link) (links' heads' : List Link) (seconds seconds' : List Second)
      → IsSeam (entry_of entries n) n g.dies page die last next → is_current_entry (entry_of entries n die slot) ≡ false
      → links' ≡ with_link last n link (set links index follow) → heads' ≡ with_head last page link heads
      → AreSeconds links heads seconds n g.pages → IsRenewed links' heads' seconds seconds' n page → AreSeconds links' heads' seconds' n g.pages
  seconds_added page last next follow link links' heads' seconds seconds' seam bare a b =
      seconds_kept (entry_of entries n) links links' heads heads' seconds seconds' n g.dies g.pages page tables.chained
      (λ p apart. ap (λ (l : List Link). link_at l p) b ∙ head_else last page link p (λ _. apart))
      (λ p d s apart fits is.
      ap (λ (l : List Link). link_from l n d s) a
      ∙ link_else (set links index follow) last link (λ d s at. (seam.found d s at).2) d s fits (λ e. apart (same_page p page (sym is ∙ (seam.found d s e).3)))
      ∙ ap target (get_or-set_other links index (d * n + s) follow no_link
      (λ k. let at = index_apart d s die slot n fits within k in
      bare_entry (entry_of entries n die slot) p bare ((λ i. entry_of entries n (sym at.0 i) (sym at.1 i)) ∙ is))))
