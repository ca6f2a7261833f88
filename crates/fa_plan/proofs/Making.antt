-- A plan in the making, step by step.
use Rattle.std.proofs.Common.{◌≡◌, ℕ, ◌+◌, ◌*◌, ◌<◌, ◌≤◌, inl, inr, Bool, List, [], ◌∷◌, length, get_or, replicate, refl, sym, ap, ◌∙◌, subst, arith, Vec, Result, Ok, Err, IfOk}
use Rattle.std.proofs.lemmas.Bool.{cases_lt}
use Rattle.std.proofs.lemmas.List.{get_or-map, length-map}
use Rattle.std.proofs.lemmas.List.Sums.{count_by-le-length}
use Rattle.fa_types.specs.declared.numbers.Die.{Die}
use Rattle.fa_types.specs.declared.numbers.Page.{Page}
use Rattle.fa_batch_terms.specs.Batch.{Entry, IsSound, times_named}
use Rattle.fa_batch_terms.specs.Certificate.{AreNamed, ShowsNoFewer}
use Rattle.fa_batch_terms.proofs.Counting.{get_or-replicate_default}
use Rattle.fa_plan.specs.declared.planner.Progress.{Progress}
use Rattle.fa_plan_search.specs.declared.walk.Tables.{Tables}
use Rattle.fa_plan_search.specs.declared.walk.Walk.{Walk}
use Rattle.fa_cert_places.specs.OpenCounts.{AreOpenCounts}
use Rattle.fa_plan.specs.Bound.{IsSimpleBound}
use Rattle.fa_plan.specs.Progress.{IsProgress}
use Rattle.fa_plan.specs.Giving.{AreGiven}
use Rattle.fa_plan_search.specs.Reading.{no_entry}
use Rattle.fa_plan_search.specs.Search.{IsWalk, has_reached}
use Rattle.fa_plan_search.specs.Pages.{AreReached, pages_of}
use Rattle.fa_plan.specs.Shortage.{AreTooFew, IsRaised}
use Rattle.fa_plan.proofs.Bounds.{open_grows}
use Rattle.fa_plan.proofs.Reached.{is_named_at, none_open, times_of_pages}

none_left : {X : Type 0} (xs : List X) → length xs ≡ 0 → xs ≡ []
none_left [] none = refl
none_left (x ∷ xs) none = absurd (omega (arith, none))

-- the pages of a batch are named, each as often as the batch names it
pub pages_are_named : (batch : List Entry) (pages : List Page) → ((page : ℕ) → times_named batch page ≤ 1) → pages ≡ pages_of batch → AreNamed batch pages
pages_are_named batch pages once is = subst (λ v. AreNamed batch v) (sym is) (record {
  known = λ k d below.
      let under : k < length batch = (let long = length-map batch (λ (e : Entry). e.page) in omega (arith, below, long)) in
      subst (λ (v : Page). 1 ≤ times_named batch v.0) (sym (get_or-map (λ (e : Entry). e.page) batch k no_entry d under)) (is_named_at batch k under);
  once = λ page. let times = times_of_pages batch page in let few = once page in omega (arith, times, few);
})

-- no round is enough for a page
pub none_enough : (batch : List Entry) (current : ℕ) (closed : ℕ → ℕ → Bool) (pages : List Page) → 0 < length pages → AreTooFew batch current closed 0 pages
none_enough batch current closed pages some dies whose = let none = none_open current closed dies in omega (arith, none, some)

module _ {A : Type 0} (batch : List Entry) (current : ℕ) (closed : ℕ → ℕ → Bool) where
  -- no page has a die yet, in as many rounds as the batch as a whole needs
  module _ (given : Vec Die A) (open_counts : List ℕ) (walk : Walk) (number : ℕ) (short : List Page) (none_given : given.items ≡ []) (are_open_counts : AreOpenCounts current closed number open_counts) (whole : short ≡ pages_of batch)
      (some : 0 < length batch → IsRaised batch current closed (pages_of batch) 0 number) (none : length batch ≡ 0 → number ≡ 0) where
    long : length (pages_of batch) ≡ length batch
    long = length-map batch (λ e. e.page)

    simple : (first : ℕ) → IsSimpleBound batch current closed first → first ≤ number
    simple first bound =
        elim (cases_lt number first) [
          | inr low ↦ low
          | inl high ↦
              (let fewer = bound.fewer number high in
              let raised = some (omega (arith, fewer)) in
              let enough = raised.enough bound.dies bound.whose in
              let many = long in
              absurd (omega (arith, fewer, enough, many)))
        ]

    shows : ShowsNoFewer batch current closed number short
    shows =
        elim (cases_lt 0 (length batch)) [
          | inl there ↦ subst (λ v. ShowsNoFewer batch current closed number v) (sym whole) (some there).shows
          | inr nothing ↦
              (let empty : length batch ≡ 0 = omega (arith, nothing) in
              subst (λ n. ShowsNoFewer batch current closed n short) (sym (none empty)) (whole ∙ none_left (pages_of batch) (long ∙ empty)))
        ]

    limit : number ≤ length batch + 1048576
    limit =
        elim (cases_lt 0 (length batch)) [
          | inl there ↦ (let most = (some there).limit in let many = long in omega (arith, most, many))
          | inr nothing ↦ (let is = none (omega (arith, nothing)) in omega (arith, is))
        ]

    pub begun : IsProgress batch current closed (record { given = given; tables = record { loads = replicate 256 0; open_counts = open_counts }; walk = walk; rounds = number; short = short; searches = 0; looks = 0 })
    begun = record {
      given = subst (λ v. AreGiven batch v (record { loads = replicate 256 0; open_counts = open_counts })) (sym none_given) (record {
        short = omega arith;
        long = refl;
        readers = λ page below. absurd (omega (arith, below));
        loads = λ die below. get_or-replicate_default 256 die 0;
        within = λ die below. omega arith;
      });
      open_counts = are_open_counts;
      limit = limit;
      shows = shows;
      few = λ first bound. let low = simple first bound in omega (arith, low);
      most = omega arith;
      counted = let e = ap (λ v. length v) none_given in omega (arith, e);
      whole = λ _. whole;
      looks = omega arith;
    }

  -- One search more.
  module _ (sound : IsSound batch) (p : Progress A) (is : IsProgress batch current closed p) (next : length p.given.items < length batch) (walk : Walk) (walked : IsWalk batch p.given.items walk) where
    looks_more : p.looks + walk.looks ≤ (p.searches + 1) * length batch
    looks_more =
        let was = is.looks in
        let more = walked.looks in
        let few = count_by-le-length (λ (d : Die). has_reached walk d.0) p.given.items in
        omega (arith, was, more, few, next)

    -- a page more has a die
    pub given_one : (given : Vec Die A) (tables : Tables) → AreGiven batch given.items tables → length given.items ≡ length p.given.items + 1 → tables.open_counts ≡ p.tables.open_counts
        → IsProgress batch current closed (record { given = given; tables = tables; walk = walk; rounds = p.rounds; short = p.short; searches = p.searches + 1; looks = p.looks + walk.looks })
    given_one given tables are longer open_counts = record {
      given = are;
      open_counts = subst (λ v. AreOpenCounts current closed p.rounds v) (sym open_counts) is.open_counts;
      limit = is.limit;
      shows = is.shows;
      few = λ first bound. let was = is.few first bound in omega (arith, was, longer);
      most = let was = is.most in omega (arith, was, longer);
      counted = let was = is.counted in omega (arith, was, longer);
      whole = λ same. is.whole (omega (arith, same, longer));
      looks = looks_more;
    }

    -- there are more rounds
    pub raised : (given : Vec Die A) (loads open_counts : List ℕ) (number : ℕ) (pages : List Page) → given.items ≡ p.given.items → loads ≡ p.tables.loads → AreOpenCounts current closed number open_counts
        → length pages ≤ length batch → IsRaised batch current closed pages p.rounds number
        → IsProgress batch current closed (record { given = given; tables = record { loads = loads; open_counts = open_counts }; walk = walk; rounds = number; short = pages; searches = p.searches + 1; looks = p.looks + walk.looks })
    raised given loads open_counts number pages same same_loads are_open_counts few_pages up =
        let long = ap (λ v. length v) same in
        let later = up.later in
        record {
          given = subst (λ v. AreGiven batch v (record { loads = loads; open_counts = open_counts })) (sym same) (record {
            short = is.given.short;
            long = ap (λ v. length v) same_loads ∙ is.given.long;
            readers = is.given.readers;
            loads = λ die below. ap (λ v. get_or v die 0) same_loads ∙ is.given.loads die below;
            within = λ die below.
                let was = is.given.within die below in
                let before = is.open_counts die below in
                let after = are_open_counts die below in
                let grows = open_grows current closed die p.rounds number (omega (arith, later)) in
                omega (arith, was, before, after, grows);
          });
          open_counts = are_open_counts;
          limit = let most = up.limit in omega (arith, most, few_pages);
          shows = up.shows;
          few = λ first bound. let was = is.few first bound in omega (arith, was, long, later);
          most = let was = is.most in omega (arith, was, long, later);
          counted = let was = is.counted in omega (arith, was, long);
          whole = λ equal. let was = is.counted in absurd (omega (arith, was, long, equal));
          looks = looks_more;
        }

-- the pages that a walk reached are no more than the batch has
pub reached_are_few : (batch : List Entry) (given : List Die) (w : Walk) (pages : List Page) → length given < length batch → AreReached batch given w pages → length pages ≤ length batch
reached_are_few batch given w pages next are = let many = are.many in let few = count_by-le-length (λ (d : Die). has_reached w d.0) given in omega (arith, many, few, next)

-- what two facts of an answer give
pub if_ok_both : {T E : Type 0} (P Q S : T → Type 0) (r : Result T E) → ((x : T) → P x → Q x → S x) → IfOk r P → IfOk r Q → IfOk r S
if_ok_both P Q S (Ok x) gives one other = gives x one other
if_ok_both P Q S (Err e) gives one other = tt
