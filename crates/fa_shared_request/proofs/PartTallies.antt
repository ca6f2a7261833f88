-- Tallies of the parts of a request, from what is done to one of them.
use Rattle.std.proofs.Common.{◌≡◌, ◌∙◌, ◌+◌, ◌<◌, ◌≤◌, ◌++◌, ◌∷◌, [], ℕ, Bool, true, false, List, Option, Some, None, Result, Ok, Err, IsTrue}
use Rattle.std.proofs.Common.{length, get_or, refl, sym, ap, subst, arith}
use Rattle.std.proofs.Math.ListN.{set}
use Rattle.std.proofs.lemmas.Bool.{false≢true}
use Rattle.std.proofs.lemmas.List.Sums.{AllPass-from_list_all, get_or-le-sum_by, sum_by-le, sum_by-set, sum_by_push}
use Rattle.std.proofs.lemmas.Option.{same_Some}
use Rattle.std.specs.List.{list_all, sum_by}
use Rattle.std.specs.Prelude.{is_ok, is_some, OnOk}
use Rattle.fa_shared_request.proofs.Counts.{counts_on, made_whole, prepared_counts, retasked}
use Rattle.fa_shared_request.specs.Counts.{Counts, GoesOn, IsMade, is_served}
use Rattle.fa_shared_request.specs.PartCounts.{PartsGoOn, has_ended, left_in, refusals_in, tally_of_parts}
use Rattle.fa_shared_request.specs.declared.parts.Part.{Part}
use Rattle.fa_shared_request.specs.Ops.{OpView, Prepares, answer_of, ended, stage_of, task_in}
use Rattle.fa_shared_request.specs.Tallies.{left, tally_of}
use Rattle.fa_shared_steps.specs.declared.request.Task.{Task}
use Rattle.fa_shared_steps.specs.declared.stage.Stage.{Stage}
use Rattle.fa_shared_steps.specs.declared.stage.Stage.TheVariants.{Ended}
use Rattle.fa_shared_lock.specs.Seats.{commits_with, number_of}
use Rattle.fa_shared_lock.specs.declared.seat.Seat.{Seat}
use Rattle.fa_types.specs.declared.blocks.BlockFault.{BlockFault}

-- sums of which one term changes
one_counts : (before after lefts lefts' l l' refused refused' r r' : ℕ) → lefts' + l ≡ lefts + l' → refused' + r ≡ refused + r'
    → r ≤ refused → l ≤ lefts → Counts (record { commits = before; left = l; refused = r }) (record { commits = after; left = l'; refused = r' })
    → Counts (record { commits = before; left = lefts; refused = refused }) (record { commits = after; left = lefts'; refused = refused' })
one_counts before after lefts lefts' l l' refused refused' r r' sum_left sum_refused low few counts = record {
  rises = counts.rises;
  stays = omega (arith, counts.stays);
  most = omega (arith, counts.most);
  all = λ same. omega (arith, counts.all (omega arith));
}

-- one part went on
pub part_counts : {A : Type 0} (before after : ℕ) (parts : List (Part A)) (i : ℕ) (part d : Part A) → i < length parts
    → Counts (tally_of before (get_or parts i d).op) (tally_of after part.op)
    → Counts (tally_of_parts before parts) (tally_of_parts after (set parts i part))
part_counts before after parts i part d within counts =
    one_counts before after (sum_by left_in parts) (sum_by left_in (set parts i part)) (left_in (get_or parts i d)) (left_in part)
    (sum_by refusals_in parts) (sum_by refusals_in (set parts i part)) (refusals_in (get_or parts i d)) (refusals_in part)
    (sum_by-set left_in parts i part d within) (sum_by-set refusals_in parts i part d within)
    (get_or-le-sum_by refusals_in parts i d within) (get_or-le-sum_by left_in parts i d within) counts

-- one part stayed what it was
pub part_stays : {A : Type 0} (commits : ℕ) (parts : List (Part A)) (i : ℕ) (d : Part A) → i < length parts
    → Counts (tally_of_parts commits parts) (tally_of_parts commits (set parts i (get_or parts i d)))
part_stays commits parts i d within =
    part_counts commits commits parts i (get_or parts i d) d within
    (record { rises = omega arith; stays = omega arith; most = omega arith; all = λ same. refl })

pub parts_nowhere : {L A : Type 0} (seat same : Seat L) (parts : List (Part A)) → commits_with same ≡ commits_with seat
    → number_of same ≡ number_of seat → PartsGoOn seat parts same parts
parts_nowhere seat same parts kept number = record {
  counts = record { rises = omega (arith, kept); stays = omega arith; most = omega (arith, kept); all = λ e. omega (arith, kept) };
  number = number;
}

pub parts_further : {L A : Type 0} (a b c : Seat L) (x y z : List (Part A)) → PartsGoOn a x b y → PartsGoOn b y c z → PartsGoOn a x c z
parts_further a b c x y z one two =
    record { counts = counts_on _ _ _ one.counts two.counts; number = two.number ∙ one.number }

pub parts_prepared : {L A : Type 0} (seat : Seat L) (x y : List (Part A))
    → ((commits : ℕ) → Counts (tally_of_parts commits x) (tally_of_parts commits y)) → PartsGoOn seat x seat y
parts_prepared seat x y counts = record { counts = counts (commits_with seat); number = refl }

pub part_went : {L A : Type 0} (before after : Seat L) (parts : List (Part A)) (i : ℕ) (part d : Part A) → i < length parts
    → GoesOn before (get_or parts i d).op after part.op → PartsGoOn before parts after (set parts i part)
part_went before after parts i part d within goes =
    record { counts = part_counts (commits_with before) (commits_with after) parts i part d within goes.counts; number = goes.number }

left_ended : {A : Type 0} (t : Task) (stage : Stage A) → is_some (ended stage) ≡ true → left t stage ≡ 0
left_ended t (Ended fault) is_end = refl
left_ended t stage is_end = absurd (false≢true is_end)

-- each part has ended where all have
pub each_ended : {A : Type 0} (parts : List (Part A)) (i : ℕ) (d : Part A) → i < length parts → list_all has_ended parts ≡ true
    → has_ended (get_or parts i d) ≡ true
each_ended parts i d within all_ended = AllPass-from_list_all has_ended parts all_ended i d within

is_none_left : {A : Type 0} (part : Part A) → has_ended part ≡ true → left_in part ≤ 0
is_none_left part is_end = omega (arith, left_ended (task_in part.op) (stage_of part.op) is_end)

-- and none of their pages is left
pub none_left : {A : Type 0} (parts : List (Part A)) → list_all has_ended parts ≡ true → sum_by left_in parts ≡ 0
none_left parts all_ended =
    omega (arith, sum_by-le left_in 0 parts (λ k d within. is_none_left (get_or parts k d) (each_ended parts k d within all_ended)))

-- a part is added
pub pushed : {A : Type 0} (f : Part A → ℕ) (before after : List (Part A)) (part : Part A) (n : ℕ) → after ≡ before ++ part ∷ [] → f part ≡ n
    → sum_by f after ≡ sum_by f before + n
pushed f before after part n grown is = ap (sum_by f) grown ∙ (sum_by_push f before part ∙ ap (λ x. sum_by f before + x) is)

-- How a request was made whose parts have ended.
pub made_parts : {L A : Type 0} (before after : Seat L) (parts next : List (Part A)) (pages : ℕ) (accepted : Bool)
    → sum_by left_in parts ≡ pages → sum_by refusals_in parts ≡ 0 → PartsGoOn before parts after next → list_all has_ended next ≡ true
    → (IsTrue accepted → sum_by refusals_in next ≡ 0) → IsMade pages before accepted after
made_parts before after parts next pages accepted lefts none goes all_ended well =
    made_whole before after (tally_of_parts (commits_with before) parts) (tally_of_parts (commits_with after) next) pages accepted refl refl
    lefts none (none_left next all_ended) well goes.counts goes.number

pub op_prepared : {A : Type 0} (commits : ℕ) (op next : OpView A) (bytes : List ℕ)
    → Prepares (task_in op) bytes (stage_of op) (answer_of op) (stage_of next) (answer_of next) → task_in next ≡ task_in op
    → Counts (tally_of commits op) (tally_of commits next)
op_prepared commits op next bytes prepared task =
    retasked _ commits (task_in op) (task_in next) (stage_of next) task
    (prepared_counts commits (task_in op) bytes (stage_of op) (answer_of op) (stage_of next) (answer_of next) prepared)

-- the parts went on, and what follows keeps the seat
pub parts_ended : {L A : Type 0} (a b c d : Seat L) (x y z : List (Part A)) → PartsGoOn a x b y → c ≡ b → z ≡ y
    → commits_with d ≡ commits_with c → number_of d ≡ number_of c → PartsGoOn a x d z
parts_ended a b c d x y z goes seat parts kept number =
    let P : Seat _ → Type 0 = λ s. PartsGoOn a x s y in
    let Q : List (Part _) → Type 0 = λ l. PartsGoOn a x c l in
    parts_further _ _ _ _ _ _ (subst Q (sym parts) (subst P (sym seat) goes)) (parts_nowhere c d z kept number)

pub if_ok : {T E : Type 0} (r : Result T E) (P : Type 0) → OnOk r P → IsTrue (is_ok r) → P
if_ok (Ok x) P holds is = holds
if_ok (Err e) P holds is = absurd (false≢true is)

pub served_well : {A : Type 0} (stage : Stage A) (end : Option BlockFault) → ended stage ≡ Some end → IsTrue (is_served stage) → end ≡ None
served_well (Ended None) end e is = sym (same_Some None end e)
served_well stage end e is = absurd (false≢true is)
