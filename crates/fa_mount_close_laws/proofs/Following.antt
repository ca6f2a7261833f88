-- What an event changes of a world, beside what it changes of what drives it.
use Rattle.fa_machine.specs.Cells.{DidRead, Outcome}
use Rattle.fa_machine.specs.Step.{Act, Admit, Commit, Done, Reserve, ReserveCopy, ReserveFewer, ReserveHole, Take}
use Rattle.fa_machine.specs.World.{IsTold, Told, Work, World, followed, outcome_of, with_due, with_end, with_told, with_value}
use Rattle.fa_machine.specs.declared.jobs.Flight.{Flight}
use Rattle.fa_machine.specs.declared.jobs.Flight.TheVariants.{Erase, Header, Move, Program, Read, Sync}
use Rattle.fa_mount_close_laws.proofs.OneCall.{IsSomeCell}
use Rattle.fa_mount_close_laws.specs.Drives.{Driven, IsOwed, told_at_end, told_by, told_of, works_after}
use Rattle.std.proofs.Common.{Bool, List, None, Ok, Err, Option, Some, [], false, refl, subst, sym, true, ℕ, ◌++◌, ◌==◌, ◌∙◌, ◌≡◌, ap}
use Rattle.std.proofs.lemmas.Bool.{eqb-true}
use Rattle.std.proofs.lemmas.List.{append-nil}
use Rattle.std.specs.FinMap.{get}
use Rattle.std.specs.List.{AllByRecursion}
use Rattle.std.specs.Prelude.{Contains, if◌then◌else◌, option_and_then}

-- the same jobs in flight
abbrev pub AreWorks : (ℕ → Option Work) → World → Type 0
AreWorks works w = (die : ℕ) → w.works die ≡ works die

-- two functions that were changed alike
changed_alike : {X Y : Type 0} (P : ℕ → X → Y → Type 0) (n : ℕ) (x : X) (y : Y) (f : ℕ → X) (g : ℕ → Y) → P n x y
    → ((m : ℕ) → P m (f m) (g m)) → (m : ℕ) → P m (with_value n x f m) (with_value n y g m)
changed_alike P n x y f g here all m = at (m == n) (λ e. subst (λ k. P k x y) (sym (eqb-true m n e)) here)
  where
    at : (b : Bool) → (b ≡ true → P m x y) → P m (if b then x else f m) (if b then y else g m)
    at true there = there refl
    at false there = all m

told_images : (die batch page seq : ℕ) (o : Option (List ℕ)) (w : World) → (with_told die batch page seq o w).images ≡ w.images
told_images die batch page seq None w = refl
told_images die batch page seq (Some bytes) w = refl

end_images : (die : ℕ) (flight : Option Flight) (outcome : Outcome) (w : World) → (with_end die flight outcome w).images ≡ w.images
end_images die None outcome w = refl
end_images die (Some (Read batch page version slot)) (DidRead cell) w = told_images die batch.0 page.0 version.seq.0 _ w
end_images die (Some flight) outcome w = refl

due_images : (die : ℕ) (flight : Flight) (w : World) → (with_due die flight w).images ≡ w.images
due_images die (Header epoch live) w = refl
due_images die (Move page version from to) w = refl
due_images die (Erase block) w = refl
due_images die (Read batch page version slot) w = refl
due_images die (Program page version slot) w = refl
due_images die (Sync flushes) w = refl

pub images_follow : (act : Act) (w : World) → (followed act w).images ≡ w.images
images_follow (Reserve claim payload (Ok seq)) w = refl
images_follow (Reserve claim payload (Err refused)) w = refl
images_follow (ReserveHole claim (Ok seq)) w = refl
images_follow (ReserveHole claim (Err refused)) w = refl
images_follow (ReserveFewer claim payload (Ok seq)) w = refl
images_follow (ReserveFewer claim payload (Err refused)) w = refl
images_follow (Commit claim seat (Ok seq)) w = refl
images_follow (Commit claim seat (Err refused)) w = refl
images_follow (Admit pages (Ok admitted)) w = refl
images_follow (Admit pages (Err refused)) w = refl
images_follow (Take die seat None) w = refl
images_follow (Take die seat (Some job)) w = due_images die job.flight w
images_follow (Done die outcome) w = end_images die (get w.core.jobs die) outcome w
images_follow act w = refl

told_told : (die batch page seq : ℕ) (o : Option (List ℕ)) (w : World)
    → (with_told die batch page seq o w).told ≡ w.told ++ told_of page seq o
told_told die batch page seq None w = sym (append-nil w.told)
told_told die batch page seq (Some bytes) w = refl

end_told : (die : ℕ) (flight : Option Flight) (outcome : Outcome) (w : World)
    → (with_end die flight outcome w).told ≡ w.told ++ told_at_end die flight outcome
end_told die None outcome w = sym (append-nil w.told)
end_told die (Some (Read batch page version slot)) (DidRead cell) w = told_told die batch.0 page.0 version.seq.0 _ w
end_told die (Some flight) outcome w = sym (append-nil w.told)

due_told : (die : ℕ) (flight : Flight) (w : World) → (with_due die flight w).told ≡ w.told
due_told die (Header epoch live) w = refl
due_told die (Move page version from to) w = refl
due_told die (Erase block) w = refl
due_told die (Read batch page version slot) w = refl
due_told die (Program page version slot) w = refl
due_told die (Sync flushes) w = refl

pub told_follows : (act : Act) (w : World) → (followed act w).told ≡ w.told ++ told_by w.core act
told_follows (Reserve claim payload (Ok seq)) w = sym (append-nil w.told)
told_follows (Reserve claim payload (Err refused)) w = sym (append-nil w.told)
told_follows (ReserveHole claim (Ok seq)) w = sym (append-nil w.told)
told_follows (ReserveHole claim (Err refused)) w = sym (append-nil w.told)
told_follows (ReserveFewer claim payload (Ok seq)) w = sym (append-nil w.told)
told_follows (ReserveFewer claim payload (Err refused)) w = sym (append-nil w.told)
told_follows (Commit claim seat (Ok seq)) w = sym (append-nil w.told)
told_follows (Commit claim seat (Err refused)) w = sym (append-nil w.told)
told_follows (Admit pages (Ok admitted)) w = refl
told_follows (Admit pages (Err refused)) w = sym (append-nil w.told)
told_follows (Take die seat None) w = sym (append-nil w.told)
told_follows (Take die seat (Some job)) w = due_told die job.flight w ∙ sym (append-nil w.told)
told_follows (Done die outcome) w = end_told die (get w.core.jobs die) outcome w
told_follows act w = sym (append-nil w.told)

pub works_follow : (act : Act) (w : World) (works : ℕ → Option Work) → AreWorks works w → AreWorks (works_after act works) (followed act w)
works_follow (Reserve claim payload (Ok seq)) w works are = are
works_follow (Reserve claim payload (Err refused)) w works are = are
works_follow (ReserveHole claim (Ok seq)) w works are = are
works_follow (ReserveHole claim (Err refused)) w works are = are
works_follow (ReserveFewer claim payload (Ok seq)) w works are = are
works_follow (ReserveFewer claim payload (Err refused)) w works are = are
works_follow (Commit claim seat (Ok seq)) w works are = are
works_follow (Commit claim seat (Err refused)) w works are = are
works_follow (Admit pages (Ok admitted)) w works are = are
works_follow (Admit pages (Err refused)) w works are = are
works_follow (Take die seat None) w works are = are
works_follow (Take die seat (Some job)) w works are =
    let work : Option Work = Some (record { job = job; gave = [] }) in
    changed_alike (λ d (x : Option Work) (y : Option Work). x ≡ y) die work work w.works works refl are
works_follow (Done die outcome) w works are = changed_alike (λ d (x : Option Work) (y : Option Work). x ≡ y) die None None w.works works refl are
works_follow act w works are = are

-- what was given so far are cells of bytes
abbrev pub IsGiven : Option Work → Type 0
IsGiven None = Unit {0}
IsGiven (Some work) = AllByRecursion IsSomeCell work.gave

pub changed_given : (n : ℕ) (x : Option Work) (f : ℕ → Option Work) → IsGiven x → ((m : ℕ) → IsGiven (f m)) → (m : ℕ) → IsGiven (with_value n x f m)
changed_given n x f here all = changed_alike (λ k (a : Option Work) (b : Option Work). IsGiven b) n x x f f here all

pub given_follow : (act : Act) (works : ℕ → Option Work) → ((die : ℕ) → IsGiven (works die)) → (die : ℕ) → IsGiven (works_after act works die)
given_follow (Take die seat None) works are = are
given_follow (Take die seat (Some job)) works are = changed_given die (Some (record { job = job; gave = [] })) works tt are
given_follow (Done die outcome) works are = changed_given die None works tt are
given_follow act works are = are

pub is_told : {I : Type 0} (act : Act) (w : World) (s : Driven I) → AreWorks s.works w → w.told ≡ s.told → IsOwed s act → IsTold w act
is_told (Done die outcome) w s are told owed =
    ap (option_and_then (λ (k : Work). outcome_of die k.job k.gave)) (are die) ∙ owed
is_told (ReserveCopy page seq payload (Ok done)) w s are told owed =
    subst (λ (l : List Told). Contains l (record { page = page; seq = seq; bytes = payload })) (sym told) owed
is_told (ReserveCopy page seq payload (Err refused)) w s are told owed = tt
is_told act w s are told owed = tt
