-- How many pages the parts of a range have together.
use Rattle.std.proofs.Common.{◌≡◌, ◌∙◌, ◌+◌, ◌-◌, ◌*◌, ◌/◌, ◌<◌, ◌≤◌, ◌⊎◌, ℕ, Bool, true, false, Some}
use Rattle.std.proofs.Common.{refl, sym, ap, subst, inl, inr, arith}
use Rattle.std.proofs.Math.Nat.{add-mul-div_right, div-mul-le_self, mul-div_left, mul-le-mul_right}
use Rattle.std.proofs.lemmas.Bool.{cases_eq}
use Rattle.std.proofs.lemmas.Bool.Decides.{nat_tests}
use Rattle.std.proofs.lemmas.Nat.{div-mul-add, div_below, le-div}
use Rattle.std.specs.Prelude.{max, min, nat_le, nat_lt, if◌then◌else◌}
use Rattle.fa_shared_request.specs.PartCounts.{pages_between}
use Rattle.fa_shared_request.specs.Tallies.{pages_by, pages_in}
use Rattle.fa_shared_steps.specs.Tasks.{begin_of, bytes_from, end_of, task_of, whole_range, zeros_as}
use Rattle.fa_shared_steps.specs.declared.request.Fill.{Fill}
use Rattle.fa_shared_steps.specs.declared.request.Fill.TheVariants.{Bytes, Holes}
use Rattle.fa_shared_steps.specs.declared.request.Request.{Request}
use Rattle.fa_shared_steps.specs.declared.request.Request.TheVariants.{Read, Write, Zero, Trim, Flush}

-- the page that begins at the offset or behind it
abbrev up : ℕ → ℕ → ℕ
up page_bytes offset = (offset + (page_bytes - 1)) / page_bytes

up_by_last : (page_bytes to : ℕ) → 1 ≤ page_bytes → 1 ≤ to → (to - 1) / page_bytes + 1 ≡ up page_bytes to
up_by_last page_bytes to some ends =
    sym (add-mul-div_right (to - 1) 1 some) ∙ ap (λ n. n / page_bytes) (omega arith)

span_up : (page_bytes from to : ℕ) (fill : Fill) → 1 ≤ page_bytes → from < to
    → pages_by (Some fill) (record { page_bytes = page_bytes; from = from; to = to }) ≡ up page_bytes to - from / page_bytes
span_up page_bytes from to fill some order =
    let last : (to - 1) / page_bytes + 1 ≡ up page_bytes to = up_by_last page_bytes to some (omega arith) in
    grind (arith, nat_tests)

span_none : (page_bytes from : ℕ) (fill : Fill) → pages_by (Some fill) (record { page_bytes = page_bytes; from = from; to = from }) ≡ 0
span_none page_bytes from fill = grind (arith, nat_tests)

up_edge : (page_bytes k : ℕ) → 1 ≤ page_bytes → up page_bytes (k * page_bytes) ≡ k
up_edge page_bytes k some = div-mul-add k page_bytes (page_bytes - 1) (omega arith)

-- so many pages of a range of bytes
abbrev span : Fill → ℕ → ℕ → ℕ → ℕ
span fill page_bytes from to = pages_by (Some fill) (record { page_bytes = page_bytes; from = from; to = to })

sum_first : (a b c : ℕ) → a ≡ c → b ≡ 0 → a ≡ b + c
sum_first a b c same none = omega arith

sum_last : (a b c : ℕ) → a ≡ b → c ≡ 0 → a ≡ b + c
sum_last a b c same none = omega arith

sum_middle : (a b c first middle last : ℕ) → a ≡ last - first → b ≡ middle - first → c ≡ last - middle → first ≤ middle → middle ≤ last
    → a ≡ b + c
sum_middle a b c first middle last one two three low high = omega arith

sum_as : (a b c x y z : ℕ) → a ≡ x → b ≡ y → c ≡ z → x ≡ y + z → a ≡ b + c
sum_as a b c x y z one two three sums = omega arith

up_below : (page_bytes x k : ℕ) → 1 ≤ page_bytes → x ≤ k * page_bytes → up page_bytes x ≤ k
up_below page_bytes x k some low = omega (arith, div_below (x + (page_bytes - 1)) page_bytes (k + 1) some (omega arith))

down_below : (page_bytes x k : ℕ) → 1 ≤ page_bytes → x < k * page_bytes → x / page_bytes ≤ k
down_below page_bytes x k some low = omega (arith, div_below x page_bytes k some low)

up_above : (page_bytes x k : ℕ) → 1 ≤ page_bytes → k * page_bytes ≤ x → k ≤ up page_bytes x
up_above page_bytes x k some high = le-div k (x + (page_bytes - 1)) page_bytes some (omega arith)

-- a range of bytes that is cut at the edge of a page
split_span : (fill : Fill) (page_bytes from k to : ℕ) → 1 ≤ page_bytes → from ≤ k * page_bytes → k * page_bytes ≤ to
    → span fill page_bytes from to ≡ span fill page_bytes from (k * page_bytes) + span fill page_bytes (k * page_bytes) to
split_span fill page_bytes from k to some low high =
    let edge = k * page_bytes in
    elim (cases_eq from edge) [
      | inl same ↦
          sum_first _ _ _ (ap (λ x. span fill page_bytes x to) same)
          (ap (λ x. span fill page_bytes x edge) same ∙ span_none page_bytes edge fill)
      | inr before ↦
          elim (cases_eq edge to) [
            | inl same ↦
                sum_last _ _ _ (ap (span fill page_bytes from) (sym same))
                (ap (span fill page_bytes edge) (sym same) ∙ span_none page_bytes edge fill)
            | inr behind ↦
                let low_lt : from < edge = omega arith in
                let high_lt : edge < to = omega arith in
                sum_middle _ _ _ (from / page_bytes) k (up page_bytes to) (span_up page_bytes from to fill some (omega arith))
                (span_up page_bytes from edge fill some low_lt ∙ ap (λ n. n - from / page_bytes) (up_edge page_bytes k some))
                (span_up page_bytes edge to fill some high_lt ∙ ap (λ n. up page_bytes to - n) (mul-div_left k some))
                (down_below page_bytes from k some low_lt) (up_above page_bytes to k some high)
          ]
    ]

is_less : (a b : ℕ) → nat_lt b a ≡ true → b < a
is_less a b test = grind (arith, nat_tests)

is_at_most : (a b : ℕ) → nat_lt b a ≡ false → a ≤ b
is_at_most a b test = grind (arith, nat_tests)

compared : (a b : ℕ) (test : Bool) → nat_lt b a ≡ test → (a ≤ b) ⊎ (b < a)
compared a b true test = inr (is_less a b test)
compared a b false test = inl (is_at_most a b test)

le_or_lt : (a b : ℕ) → (a ≤ b) ⊎ (b < a)
le_or_lt a b = compared a b (nat_lt b a) refl

-- the pages from one edge to another
edges : (fill : Fill) (page_bytes u d : ℕ) → 1 ≤ page_bytes → u ≤ d → span fill page_bytes (u * page_bytes) (d * page_bytes) ≡ d - u
edges fill page_bytes u d some order =
    elim (cases_eq u d) [
      | inl same ↦
          ap (λ x. span fill page_bytes (x * page_bytes) (d * page_bytes)) same ∙ (span_none page_bytes (d * page_bytes) fill ∙ omega arith)
      | inr apart ↦
          let more_by_one : u + 1 ≤ d = omega arith in
          let more : u * page_bytes + page_bytes ≤ d * page_bytes = omega (arith, mul-le-mul_right page_bytes more_by_one) in
          span_up page_bytes (u * page_bytes) (d * page_bytes) fill some (omega arith)
          ∙ (ap (λ n. n - u * page_bytes / page_bytes) (up_edge page_bytes d some) ∙ ap (λ n. d - n) (mul-div_left u some))
    ]

trim_begin : (a b : ℕ) → a ≤ b → (if nat_le a b then a else b) ≡ a
trim_begin a b order = grind (arith, nat_tests)

trim_empty : (a b : ℕ) → b < a → (if nat_le a b then a else b) ≡ b
trim_empty a b order = grind (arith, nat_tests)

-- the pages that lie wholly in a range
trim_span : (page_bytes offset len : ℕ) → 1 ≤ page_bytes
    → pages_by (Some Holes) (whole_range page_bytes offset len) ≡ (offset + len) / page_bytes - up page_bytes offset
trim_span page_bytes offset len some =
    let d = (offset + len) / page_bytes in
    let u = up page_bytes offset in
    elim (le_or_lt u d) [
      | inl order ↦
          ap (λ x. span Holes page_bytes x (d * page_bytes))
          (trim_begin (u * page_bytes) (d * page_bytes) (mul-le-mul_right page_bytes order))
          ∙ edges Holes page_bytes u d some order
      | inr order ↦
          let more_by_one : d + 1 ≤ u = omega arith in
          let more : d * page_bytes + page_bytes ≤ u * page_bytes = omega (arith, mul-le-mul_right page_bytes more_by_one) in
          ap (λ x. span Holes page_bytes x (d * page_bytes)) (trim_empty (u * page_bytes) (d * page_bytes) (omega arith))
          ∙ (span_none page_bytes (d * page_bytes) Holes ∙ omega arith)
    ]

between : (fill : Fill) (page_bytes from to : ℕ) → from ≤ to
    → pages_by (Some fill) (bytes_from page_bytes from (to - from)) ≡ span fill page_bytes from to
between fill page_bytes from to order = ap (span fill page_bytes from) (omega arith)

trim_between : (page_bytes from to : ℕ) → 1 ≤ page_bytes → from ≤ to
    → pages_by (Some Holes) (whole_range page_bytes from (to - from)) ≡ to / page_bytes - up page_bytes from
trim_between page_bytes from to some order =
    trim_span page_bytes from (to - from) some ∙ ap (λ n. n / page_bytes - up page_bytes from) (omega arith)

split_between : (fill : Fill) (page_bytes from k to : ℕ) → 1 ≤ page_bytes → from ≤ k * page_bytes → k * page_bytes ≤ to
    → pages_by (Some fill) (bytes_from page_bytes from (to - from))
    ≡ pages_by (Some fill) (bytes_from page_bytes from (k * page_bytes - from))
    + pages_by (Some fill) (bytes_from page_bytes (k * page_bytes) (to - k * page_bytes))
split_between fill page_bytes from k to some low high =
    sum_as _ _ _ _ _ _ (between fill page_bytes from to (omega arith)) (between fill page_bytes from (k * page_bytes) low)
    (between fill page_bytes (k * page_bytes) to high) (split_span fill page_bytes from k to some low high)

-- a request that is cut at the edge of a page
split : (page_bytes : ℕ) (request : Request) (from k to : ℕ) → 1 ≤ page_bytes → from ≤ k * page_bytes → k * page_bytes ≤ to
    → pages_between page_bytes request from to
    ≡ pages_between page_bytes request from (k * page_bytes) + pages_between page_bytes request (k * page_bytes) to
split page_bytes (Read offset len) from k to some low high = refl
split page_bytes (Write offset len fua) from k to some low high = split_between Bytes page_bytes from k to some low high
split page_bytes (Zero offset len fua hole) from k to some low high = split_between (zeros_as hole) page_bytes from k to some low high
split page_bytes (Trim offset len fua) from k to some low high =
    sum_middle _ _ _ (up page_bytes from) k (to / page_bytes) (trim_between page_bytes from to some (omega arith))
    (trim_between page_bytes from (k * page_bytes) some low ∙ ap (λ n. n - up page_bytes from) (mul-div_left k some))
    (trim_between page_bytes (k * page_bytes) to some high ∙ ap (λ n. to / page_bytes - n) (up_edge page_bytes k some))
    (up_below page_bytes from k some low) (le-div k to page_bytes some high)
split page_bytes Flush from k to some low high = refl

-- there is no page between an offset and itself
pub no_page : (page_bytes : ℕ) (request : Request) (at : ℕ) → 1 ≤ page_bytes → pages_between page_bytes request at at ≡ 0
no_page page_bytes (Read offset len) at some = refl
no_page page_bytes (Write offset len fua) at some = between Bytes page_bytes at at (omega arith) ∙ span_none page_bytes at Bytes
no_page page_bytes (Zero offset len fua hole) at some =
    between (zeros_as hole) page_bytes at at (omega arith) ∙ span_none page_bytes at (zeros_as hole)
no_page page_bytes (Trim offset len fua) at some =
    trim_between page_bytes at at some (omega arith)
    ∙ omega (arith, up_above page_bytes at (at / page_bytes) some (div-mul-le_self at page_bytes))
no_page page_bytes Flush at some = refl

-- a request is on all of its bytes
pub whole_between : (page_bytes : ℕ) (request : Request)
    → pages_between page_bytes request (begin_of request) (end_of request) ≡ pages_in (task_of page_bytes request)
whole_between page_bytes (Read offset len) = refl
whole_between page_bytes (Write offset len fua) = ap (λ n. pages_by (Some Bytes) (bytes_from page_bytes offset n)) (omega arith)
whole_between page_bytes (Zero offset len fua hole) =
    ap (λ n. pages_by (Some (zeros_as hole)) (bytes_from page_bytes offset n)) (omega arith)
whole_between page_bytes (Trim offset len fua) = ap (λ n. pages_by (Some Holes) (whole_range page_bytes offset n)) (omega arith)
whole_between page_bytes Flush = refl

stays_part : (page_bytes : ℕ) (request : Request) (from to end : ℕ) → 1 ≤ page_bytes → to ≡ from
    → pages_between page_bytes request from end ≡ pages_between page_bytes request from to + pages_between page_bytes request to end
stays_part page_bytes request from to end some same =
    sum_first _ _ _ (ap (λ x. pages_between page_bytes request x end) (sym same))
    (ap (pages_between page_bytes request from) same ∙ no_page page_bytes request from some)

last_part : (page_bytes : ℕ) (request : Request) (from to end : ℕ) → 1 ≤ page_bytes → to ≡ end
    → pages_between page_bytes request from end ≡ pages_between page_bytes request from to + pages_between page_bytes request to end
last_part page_bytes request from to end some same =
    sum_last _ _ _ (ap (pages_between page_bytes request from) (sym same))
    (ap (λ x. pages_between page_bytes request x end) same ∙ no_page page_bytes request end some)

-- an offset where a page begins, or none before the end
abbrev pub IsEdge : ℕ → ℕ → ℕ → Type 0
IsEdge page_bytes end edge = ((k : ℕ) × (edge ≡ k * page_bytes)) ⊎ (end ≤ edge)

-- the next part ends at an edge, or at the end, or it has no byte
pub next_part : (page_bytes : ℕ) (request : Request) (from to end edge : ℕ) → 1 ≤ page_bytes → from ≤ end → to ≡ min end (max from edge)
    → IsEdge page_bytes end edge
    → pages_between page_bytes request from end ≡ pages_between page_bytes request from to + pages_between page_bytes request to end
next_part page_bytes request from to end edge some order e (inl (k, at)) =
    elim (le_or_lt (k * page_bytes) from) [
      | inl behind ↦ stays_part page_bytes request from to end some (omega arith)
      | inr before ↦
          elim (le_or_lt (k * page_bytes) end) [
            | inl inside ↦
                let here : to ≡ k * page_bytes = omega arith in
                split page_bytes request from k end some (omega arith) inside
                ∙ ap (λ x. pages_between page_bytes request from x + pages_between page_bytes request x end) (sym here)
            | inr outside ↦ last_part page_bytes request from to end some (omega arith)
          ]
    ]
next_part page_bytes request from to end edge some order e (inr behind) = last_part page_bytes request from to end some (omega arith)

-- the edge behind the next ones, which is never past the greatest number
pub next_edge : (page_bytes end edge step most : ℕ) → end ≤ most → IsEdge page_bytes end edge → IsEdge page_bytes most step
    → IsEdge page_bytes end (min (edge + step) most)
next_edge page_bytes end edge step most fits (inr behind) steps = inr (omega arith)
next_edge page_bytes end edge step most fits (inl at) (inr far) = inr (omega arith)
next_edge page_bytes end edge step most fits (inl at) (inl by) =
    elim (le_or_lt (edge + step) most) [
      | inl inside ↦ inl (at.0 + by.0, omega (arith, at.1, by.1))
      | inr outside ↦ inr (omega arith)
    ]

step_edge : (page_bytes most step k : ℕ) → step ≡ min (k * page_bytes) most → IsEdge page_bytes most step
step_edge page_bytes most step k e =
    elim (le_or_lt (k * page_bytes) most) [
      | inl inside ↦ inl (k, omega arith)
      | inr outside ↦ inr (omega arith)
    ]

pub moved_edge : (page_bytes end edge step most k next : ℕ) → end ≤ most → IsEdge page_bytes end edge → step ≡ min (k * page_bytes) most
    → next ≡ min (edge + step) most → IsEdge page_bytes end next
moved_edge page_bytes end edge step most k next fits at steps moves =
    let P : ℕ → Type 0 = λ n. IsEdge page_bytes end n in
    subst P (sym moves) (next_edge page_bytes end edge step most fits at (step_edge page_bytes most step k steps))

-- the parts so far and the next one
pub tiles_on : (sum before here whole part rest : ℕ) → sum ≡ before + part → here ≡ part + rest → before + here ≡ whole → sum + rest ≡ whole
tiles_on sum before here whole part rest grown cut all = omega arith

-- the parts of all of a request's bytes
pub whole_from : (page_bytes : ℕ) (request : Request) (offset end : ℕ) → offset ≡ begin_of request → end ≡ end_of request
    → pages_between page_bytes request offset end ≡ pages_in (task_of page_bytes request)
whole_from page_bytes request offset end begins ends =
    ap (λ x. pages_between page_bytes request x end) begins
    ∙ (ap (pages_between page_bytes request (begin_of request)) ends ∙ whole_between page_bytes request)
