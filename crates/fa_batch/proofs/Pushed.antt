-- A batch with one page more.
use Rattle.std.proofs.Common.{◌≡◌, ℕ, ◌+◌, Some, None, is_some, true, List, [], ◌∷◌, ◌++◌, length, take, cond, sym, ap, ◌∙◌, subst, arith}
use Rattle.std.specs.BTreeMap.{BTreeMap, IsUnchanged, get, is_at}
use Rattle.std.specs.Map.{lookup}
use Rattle.std.specs.Ordering.{nat_cmp}
use Rattle.std.proofs.lemmas.List.{take_all, take_at, take-append-le, length-map, length_push}
use Rattle.fa_types.specs.declared.numbers.Die.{Die}
use Rattle.fa_types.specs.declared.numbers.Page.{Page}
use Rattle.fa_batch.specs.declared.batch.HeldPage.{HeldPage}
use Rattle.fa_batch_terms.specs.Batch.{Entry}
use Rattle.fa_batch.specs.Index.{entries_of, index_among, pages_of, AreEndsFrom, AreRising, IsIndexOf, IsIndexed}
use Rattle.fa_batch.proofs.Held.{pushed}
use Rattle.fa_batch.proofs.Indexed.{index-again, index-push, index-rise}

module _ (held held' : List HeldPage) (holders holders' more : List Die) (page : Page) (rising : ℕ) (first : BTreeMap ℕ ℕ)
    (indexed : IsIndexed held holders rising first) (entries_are : held' ≡ held ++ record { page = page; end = length holders' } ∷ [])
    (holders_are : holders' ≡ holders ++ more) where
  parts : AreEndsFrom 0 held' (length holders') × (entries_of held' holders' ≡ entries_of held holders ++ record { page = page; holders = more } ∷ [])
      × (pages_of held' ≡ pages_of held ++ page.0 ∷ [])
  parts = pushed held held' holders holders' more page indexed.ends entries_are holders_are

  longer : length held' ≡ length held + 1
  longer = ap (λ v. length v) entries_are ∙ length_push held (record { page = page; end = length holders' })

  count : length (pages_of held) ≡ length held
  count = length-map held (λ (h : HeldPage). h.page.0)

  pub entries_pushed : (batch : List Entry) → entries_of held holders ≡ batch → entries_of held' holders' ≡ batch ++ record { page = page; holders = more } ∷ []
  entries_pushed batch is = parts.1 ∙ ap (λ b. b ++ record { page = page; holders = more } ∷ []) is

  -- it is above all others, which rise
  pub rising_pushed : rising ≡ length held → AreRising (pages_of held ++ page.0 ∷ []) → IsIndexed held' holders' (rising + 1) first
  rising_pushed all rise =
      let size = length_push (pages_of held) page.0 in
      let among : AreRising (take (rising + 1) (pages_of held ++ page.0 ∷ [])) =
      subst (λ v. AreRising v) (sym (take_all (rising + 1) (pages_of held ++ page.0 ∷ []) (omega (arith, size, count)))) rise in
      record {
        ends = parts.0;
        within = omega (arith, longer);
        rise = subst (λ v. AreRising (take (rising + 1) v)) (sym parts.2) among;
        index = subst (λ v. IsIndexOf v (rising + 1) first) (sym parts.2)
            (index-rise (pages_of held) page.0 rising first (omega (arith, count)) indexed.index (omega (arith, count)));
      }

  -- the first ones stay as they are
  rise_stays : AreRising (take rising (pages_of held'))
  rise_stays =
      subst (λ v. AreRising (take rising v)) (sym parts.2)
      (subst (λ v. AreRising v) (sym (take-append-le rising (pages_of held) (page.0 ∷ []) (omega (arith, count, indexed.within)))) indexed.rise)

  -- it was not named before, and the map has it
  pub new_pushed : (index : ℕ) (first' : BTreeMap ℕ ℕ) → index ≡ length held → index_among (pages_of held) page.0 ≡ None
      → ((q : ℕ) → get nat_cmp first' q ≡ cond (is_at (nat_cmp page.0) q) (Some index) (get nat_cmp first q)) → IsIndexed held' holders' rising first'
  new_pushed index first' last none put =
      record {
        ends = parts.0;
        within = omega (arith, longer, indexed.within);
        rise = rise_stays;
        index = subst (λ v. IsIndexOf v rising first') (sym parts.2)
            (index-push (pages_of held) page.0 rising first (omega (arith, count, indexed.within)) indexed.index first' none
            (λ q. subst (λ n. get nat_cmp first' q ≡ cond (is_at (nat_cmp page.0) q) (Some n) (get nat_cmp first q)) (last ∙ sym count) (put q)));
      }

  -- it was named before
  pub old_pushed : is_some (index_among (pages_of held) page.0) ≡ true → IsIndexed held' holders' rising first
  old_pushed some =
      record {
        ends = parts.0;
        within = omega (arith, longer, indexed.within);
        rise = rise_stays;
        index = subst (λ v. IsIndexOf v rising first) (sym parts.2)
            (index-again (pages_of held) page.0 rising first (omega (arith, count, indexed.within)) indexed.index some);
      }

  -- it is taken back
  pub taken_back : (held'' : List HeldPage) (holders'' : List Die) (index old : ℕ) (first' : BTreeMap ℕ ℕ) → index ≡ length held → old ≡ length holders
      → held'' ≡ take index held' → holders'' ≡ take old holders' → IsUnchanged first first' → IsIndexed held'' holders'' rising first'
  taken_back held'' holders'' index old first' last end cut cut_holders same =
      let entries : held'' ≡ held = cut ∙ ap (λ v. take index v) entries_are ∙ take_at held (record { page = page; end = length holders' } ∷ []) index (sym last) in
      let dies : holders'' ≡ holders = cut_holders ∙ ap (λ v. take old v) holders_are ∙ take_at holders more old (sym end) in
      subst (λ v. IsIndexed v holders'' rising first') (sym entries)
      (subst (λ v. IsIndexed held v rising first') (sym dies)
      (record { ends = indexed.ends; within = indexed.within; rise = indexed.rise; index = λ q. ap (λ es. lookup (is_at (nat_cmp q)) es) same ∙ indexed.index q }))
