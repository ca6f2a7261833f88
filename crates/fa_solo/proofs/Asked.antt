-- Requests that go on, step by step.
use Rattle.std.proofs.Common.{◌≡◌, ◌∙◌, ◌+◌, ◌≤◌, ℕ, Bool, List, true, false, ap, arith, refl, subst, sym}
use Rattle.std.proofs.lemmas.Bool.{false≢true}
use Rattle.fa_shared_request.proofs.Counts.{goes_further, prepared_on, turned_on}
use Rattle.fa_shared_request.specs.Counts.{Counts, GoesOn, IsMade}
use Rattle.fa_mount_headers.specs.declared.judging.Standing.{Standing}
use Rattle.fa_image.specs.Image.{ImageAnswer, ImageCall}
use Rattle.fa_shared_lock.specs.Accounts.{IsAccounted}
use Rattle.fa_shared_lock.specs.Moves.{Turned}
use Rattle.fa_shared_request.specs.Ops.{OpView, Prepares, answer_of, stage_of, task_in}
use Rattle.fa_shared_request.specs.Tallies.{Tally, pages_in, tally_at, tally_of}
use Rattle.fa_shared_steps.specs.Tasks.{task_of}
use Rattle.fa_shared_steps.specs.declared.request.Request.{Request}
use Rattle.fa_shared_request.specs.Waiting.{HasNoWindow, awaits_flush, waits, without_room}
use Rattle.fa_shared_steps.specs.declared.request.Task.{Task}
use Rattle.fa_shared_steps.specs.declared.stage.Stage.{Stage}
use Rattle.fa_shared_steps.specs.declared.stage.Stage.TheVariants.{Reserving}
use Rattle.fa_shared_lock.specs.Locked.{LockedState}
use Rattle.fa_shared_lock.specs.Seats.{commits_with, number_of}
use Rattle.fa_shared_lock.specs.declared.seat.Seat.{Seat}
use Rattle.fa_solo_job.specs.Deeds.{Goes, IsMeanwhile}
use Rattle.fa_solo_job.specs.Inner.{Does, house_of}
use Rattle.fa_solo.specs.Turns.{Asking, Asks, Begins, Readies, Refuses, RunsOn, Turns, Waits, asking_of}
use Rattle.fa_solo_job.specs.declared.inner.Inner.{Inner}
use Rattle.fa_types.specs.declared.blocks.BlockFault.{BlockFault}

module _ {L I A : Type 0} (made : I → ImageCall → ImageAnswer → I → Type 0) (array : List ℕ) (dies : List Standing) (seat : ℕ) (task : Task)
    (bytes : List ℕ) where
  pub asks_more : (m : ℕ) (a b : Asking L I A) → Asks made array dies seat task bytes a m b → (n : ℕ) (c : Asking L I A)
      → Asks made array dies seat task bytes b n c → Asks made array dies seat task bytes a (m + n) c
  asks_more m a b one n c Begins =
      subst (λ (k : ℕ). Asks made array dies seat task bytes a k c) (let e : m ≡ m + 0 = omega arith in e) one
  asks_more m a b one n c (Turns turns middle new before turn) =
      subst (λ (k : ℕ). Asks made array dies seat task bytes a k c) (let e : (m + turns) + 1 ≡ m + (turns + 1) = omega arith in e)
      (Turns (m + turns) middle new (asks_more m a b one turns middle before) turn)
  asks_more m a b one n c (Readies turns middle new before ready) = Readies (m + turns) middle new (asks_more m a b one turns middle before) ready
  asks_more m a b one n c (Waits turns middle new before time) = Waits (m + turns) middle new (asks_more m a b one turns middle before) time
  asks_more m a b one n c (Refuses turns middle new before up) = Refuses (m + turns) middle new (asks_more m a b one turns middle before) up

-- the same by other numbers that are equal
pub asks_by : {L I A : Type 0} (made : I → ImageCall → ImageAnswer → I → Type 0) (array other : List ℕ) (dies those : List Standing)
    (seat same : ℕ) (task again : Task) (bytes : List ℕ) (turns : ℕ) (a b : Asking L I A) → other ≡ array → those ≡ dies → same ≡ seat
    → again ≡ task → Asks made other those same again bytes a turns b → Asks made array dies seat task bytes a turns b
asks_by made array other dies those seat same task again bytes turns a b number standing by kept asks =
    subst (λ (t : Task). Asks made array dies seat t bytes a turns b) kept
    (subst (λ (n : ℕ). Asks made array dies n again bytes a turns b) by
    (subst (λ (d : List Standing). Asks made array d same again bytes a turns b) standing
    (subst (λ (x : List ℕ). Asks made x those same again bytes a turns b) number asks)))

-- what leaves the rest leaves the book
with_book : (a b : LockedState) → b ≡ record a { core = b.core } → b ≡ record a { core = b.core; book = b.book }
with_book a b e =
    e ∙ ap (λ (n : ℕ). record a { core = b.core; book = n }) (sym (ap (λ (l : LockedState). l.book) e))

-- a seat with as many Commits
same_counts : {L A : Type 0} (a b : Seat L) (op : OpView A) → commits_with b ≡ commits_with a → number_of b ≡ number_of a → GoesOn a op b op
same_counts a b op commits number = record {
  counts = record {
    rises = omega (arith, commits);
    stays = omega arith;
    most = omega (arith, commits);
    all = λ same. omega (arith, commits);
  };
  task = refl;
  number = number;
}

-- a request that is refused for want of room, which commits no page then
refused_counts : {A : Type 0} (commits : ℕ) (t : Task) (fault : BlockFault) (stage : Stage A)
    → Counts (tally_at commits t stage) (tally_at commits t (without_room fault stage))
refused_counts commits t fault (Reserving held wish) = record {
  rises = omega arith;
  stays = omega arith;
  most = omega arith;
  all = λ same. omega (arith, same);
}
refused_counts commits t fault stage = record { rises = omega arith; stays = omega arith; most = omega arith; all = λ same. omega arith }

refused_on : {L A : Type 0} (seat : Seat L) (op next : OpView A) (fault : BlockFault) → stage_of next ≡ without_room fault (stage_of op)
    → task_in next ≡ task_in op → GoesOn seat op seat next
refused_on seat op next fault stage task = record {
  counts =
      let P : Task → Type 0 = λ t. Counts (tally_of (commits_with seat) op) (tally_at (commits_with seat) t (stage_of next)) in
      subst P (sym task)
      (subst (λ s. Counts (tally_of (commits_with seat) op) (tally_at (commits_with seat) (task_in op) s)) (sym stage)
      (refused_counts (commits_with seat) (task_in op) fault (stage_of op)));
  task = task;
  number = refl;
}

-- a request that is refused, however far it is
pub refused_by : {L A : Type 0} (before after : Seat L) (op next : OpView A) (request : Request) (page_bytes same : ℕ) → same ≡ page_bytes
    → ((commits : ℕ) → tally_of commits op ≡ record { commits = commits; left = pages_in (task_of same request); refused = 0 })
    → GoesOn before op after next → IsMade (pages_in (task_of page_bytes request)) before false after
refused_by before after op next request page_bytes same e begins goes =
    let left : (tally_of (commits_with before) op).left ≡ pages_in (task_of same request) = ap (λ (t : Tally). t.left) (begins (commits_with before)) in
    let P : ℕ → Type 0 = λ n. IsMade (pages_in (task_of n request)) before false after in
    subst P e (record {
      least = goes.counts.rises;
      most = omega (arith, goes.counts.most, left);
      all = λ is. absurd (false≢true is);
      number = goes.number;
    })

-- a request that writes no page
pub none_made : {L A : Type 0} (before after : Seat L) (op next : OpView A) (accepted : Bool)
    → ((commits : ℕ) → tally_of commits op ≡ record { commits = commits; left = 0; refused = 0 })
    → GoesOn before op after next → IsMade 0 before accepted after
none_made before after op next accepted begins goes =
    let left : (tally_of (commits_with before) op).left ≡ 0 = ap (λ (t : Tally). t.left) (begins (commits_with before)) in record {
      least = goes.counts.rises;
      most = omega (arith, goes.counts.most, left);
      all = λ is. omega (arith, goes.counts.rises, goes.counts.most, left);
      number = goes.number;
    }

module _ {L M I A : Type 0} (made : I → ImageCall → ImageAnswer → I → Type 0) (bytes : List ℕ) where
  pub runs_none : (inner : Inner L M I A) (op : OpView A) → RunsOn made bytes inner op inner op
  runs_none inner op = record { turns = 0; asks = Begins; counts = same_counts inner.seat inner.seat op refl refl; rest = refl; dies = refl }

  runs_both : (a b c : Inner L M I A) (x y z : OpView A) (one : RunsOn made bytes a x b y) (two : RunsOn made bytes b y c z)
      → (all : RunsOn made bytes a x c z) × (all.turns ≡ one.turns + two.turns)
  runs_both a b c x y z one two = (
    record {
      turns = one.turns + two.turns;
      asks = asks_more made a.locked.number a.dies.items (number_of a.seat) (task_in x) bytes one.turns (asking_of a x) (asking_of b y) one.asks
          two.turns (asking_of c z)
          (asks_by made a.locked.number b.locked.number a.dies.items b.dies.items (number_of a.seat) (number_of b.seat) (task_in x) (task_in y)
          bytes two.turns (asking_of b y) (asking_of c z) (ap (λ (l : LockedState). l.number) one.rest) one.dies one.counts.number one.counts.task
          two.asks);
      counts = goes_further a.seat b.seat c.seat x y z one.counts two.counts;
      rest = two.rest ∙ ap (λ (l : LockedState). record l { core = c.locked.core; book = c.locked.book }) one.rest;
      dies = two.dies ∙ one.dies;
    },
    refl,
  )

  pub runs_more : (a b c : Inner L M I A) (x y z : OpView A) → RunsOn made bytes a x b y → RunsOn made bytes b y c z → RunsOn made bytes a x c z
  runs_more a b c x y z one two = (runs_both a b c x y z one two).0

  pub runs_turn : (a b : Inner L M I A) (x y : OpView A)
      → Turned (task_in x) a.seat b.seat a.locked.core (stage_of x) b.locked.core (stage_of y) → task_in y ≡ task_in x
      → answer_of y ≡ answer_of x → IsAccounted a.locked a.seat b.locked b.seat → b.images.items ≡ a.images.items
      → b.dies.items ≡ a.dies.items → (runs : RunsOn made bytes a x b y) × (1 ≤ runs.turns)
  runs_turn a b x y turned task answer account images dies = (
    record {
      turns = 1;
      asks = Turns 0 (asking_of a x) (asking_of b y) Begins
          (record { turned = turned; number = account.number; images = images; answer = answer });
      counts = turned_on a.seat b.seat x y a.locked.core b.locked.core turned task account.number;
      rest = account.rest;
      dies = dies;
    },
    omega arith,
  )

  -- the same of a request and an array of which clauses see that they are these
  pub runs_turn_seen : (a b : Inner L M I A) (x y op : OpView A) (locked : LockedState) → op ≡ x → locked ≡ a.locked
      → Turned (task_in op) a.seat b.seat locked.core (stage_of op) b.locked.core (stage_of y) → task_in y ≡ task_in op
      → answer_of y ≡ answer_of op → IsAccounted locked a.seat b.locked b.seat → b.images.items ≡ a.images.items
      → b.dies.items ≡ a.dies.items → (runs : RunsOn made bytes a x b y) × (1 ≤ runs.turns)
  runs_turn_seen a b x y op locked op_is locked_is turned task answer account images dies =
      let there = subst (λ (l : LockedState). Turned (task_in op) a.seat b.seat l.core (stage_of op) b.locked.core (stage_of y)) locked_is turned in
      runs_turn a b x y
      (subst (λ (o : OpView A). Turned (task_in o) a.seat b.seat a.locked.core (stage_of o) b.locked.core (stage_of y)) op_is there)
      (task ∙ ap task_in op_is) (answer ∙ ap answer_of op_is)
      (subst (λ (l : LockedState). IsAccounted l a.seat b.locked b.seat) locked_is account) images dies

  pub runs_ready : (a : Inner L M I A) (x y : OpView A)
      → Prepares (task_in x) bytes (stage_of x) (answer_of x) (stage_of y) (answer_of y) → task_in y ≡ task_in x → RunsOn made bytes a x a y
  runs_ready a x y prepares task = record {
    turns = 0;
    asks = Readies 0 (asking_of a x) (asking_of a y) Begins (record { prepares = prepares; same_house = refl; same_seat = refl });
    counts = prepared_on a.seat x y bytes prepares task;
    rest = refl;
    dies = refl;
  }

  pub runs_time : (a b : Inner L M I A) (x : OpView A) (flush : Bool) → waits (stage_of x) ≡ true → awaits_flush (stage_of x) ≡ flush
      → Does made (IsMeanwhile flush) a b → RunsOn made bytes a x b x
  runs_time a b x flush in_time is does = record {
    turns = 0;
    asks = Waits 0 (asking_of a x) (asking_of b x) Begins
        (record {
          in_time = in_time;
          goes = subst (λ (f : Bool). Goes made a.locked.number a.dies.items (number_of a.seat) (IsMeanwhile f) (house_of a) (house_of b)) (sym is)
              does.goes;
          commits = does.left.commits;
          number = does.left.number;
          stage = refl;
          answer = refl;
        });
    counts = same_counts a.seat b.seat x does.left.commits does.left.number;
    rest = with_book a.locked b.locked does.left.rest;
    dies = does.dies;
  }

  pub runs_refused : (a : Inner L M I A) (x y : OpView A) (fault : BlockFault)
      → HasNoWindow a.locked.core fault → stage_of y ≡ without_room fault (stage_of x)
      → task_in y ≡ task_in x → answer_of y ≡ answer_of x → RunsOn made bytes a x a y
  runs_refused a x y fault cause stage task answer = record {
    turns = 0;
    asks = Refuses 0 (asking_of a x) (asking_of a y) Begins
        (record { fault = fault; cause = cause; stage = stage; same_house = refl; same_seat = refl; answer = answer });
    counts = refused_on a.seat x y fault stage task;
    rest = refl;
    dies = refl;
  }

  -- one step more of a request, of which some are turns
  pub runs_step : (a b c d : Inner L M I A) (x y z : OpView A) (n : ℕ) → (one : RunsOn made bytes a x b y) × (n ≤ one.turns)
      → RunsOn made bytes b y c z → (w : OpView A) → (two : RunsOn made bytes c z d w) × (1 ≤ two.turns)
      → (all : RunsOn made bytes a x d w) × (n + 1 ≤ all.turns)
  runs_step a b c d x y z n (one, some) ready w (two, turn) =
      let first = runs_both a b c x y z one ready in
      let all = runs_both a c d x z w first.0 two in (all.0, omega (arith, some, turn, first.1, all.1))

  pub runs_behind : (a b c : Inner L M I A) (x y z : OpView A) → (one : RunsOn made bytes a x b y) × (1 ≤ one.turns) → RunsOn made bytes b y c z
      → (all : RunsOn made bytes a x c z) × (1 ≤ all.turns)
  runs_behind a b c x y z (one, some) two = let all = runs_both a b c x y z one two in (all.0, omega (arith, some, all.1))

  pub runs_ahead : (a b c : Inner L M I A) (x y z : OpView A) → RunsOn made bytes a x b y → (two : RunsOn made bytes b y c z) × (1 ≤ two.turns)
      → (all : RunsOn made bytes a x c z) × (1 ≤ all.turns)
  runs_ahead a b c x y z one (two, some) = let all = runs_both a b c x y z one two in (all.0, omega (arith, some, all.1))
