-- The calls of a turn, one after the other, and what they come to where one is refused.
use Rattle.std.proofs.Common.{◌≡◌, ◌∙◌, ◌==◌, ◌&&◌, ◌||◌, ℕ, Bool, true, false, nat_lt, cond, List, [], ◌∷◌, Result, Ok, Err, inl, inr, refl, ap, sym, subst}
use Rattle.std.proofs.lemmas.Bool.{eqb-true, false≢true, or_right}
use Rattle.std.specs.Bool.{MatchBool}
use Rattle.std.specs.Result.{IfErr}
use Rattle.fa_mount_headers.specs.Rules.{is_in}
use Rattle.fa_mount_headers.specs.declared.judging.Standing.{Standing}
use Rattle.fa_image.specs.Image.{ImageCall, Syncing, ImageAnswer, Done}
use Rattle.fa_mount.specs.Closing.{AreAccepted, IsOut, Took}
use Rattle.fa_mount.specs.Phases.{AreMade, ByDie, Makes, Went, NotMade, WasAccepted, WasRefused, called, called_to, each_called, is_accepted}
use Rattle.fa_mount.specs.Told.{writing}
use Rattle.fa_mount.specs.Turns.{AreCut, IsCalled, IsCut, IsOfTurn, IsToldAll}
use Rattle.fa_mount.specs.declared.telling.Told.{Told}
use Rattle.fa_types.specs.declared.numbers.Die.{Die}
use Rattle.fa_mount.proofs.Images.{after_that, weaker}
use Rattle.fa_mount.proofs.Taken.{called_same, called_synced, took_both, took_none, took_one}

-- how a call went, by whether the die is of the mask, the one that refused, or below that
abbrev each_by : Bool → Went
each_by b = cond b WasAccepted NotMade

abbrev to_by : Bool → Bool → Bool → Went
to_by b e l = cond e WasRefused (cond (b && l) WasAccepted NotMade)

module _ {I : Type 0} (made : I → ImageCall → ImageAnswer → I → Type 0) where
  module _ (told : Told) (die : ℕ) where
    abbrev Kind : ImageCall → Type 0
    Kind = IsOfTurn told die

    abbrev mark : ImageCall
    mark = writing told true die

    syncs : (call : ImageCall) → call ≡ Syncing → Kind call
    syncs call is = inl is

    abbrev Cut : Bool → Bool → Bool → I → I → Type 0
    Cut b e k x y = MatchBool b (MatchBool e (IsOut made Kind x y) (IsCalled made Kind k x y)) (y ≡ x)

    stood : (k : Bool) (x y : I) → y ≡ x → IsCalled made Kind k x y
    stood k x y same = subst (λ z. IsCalled made Kind k x z) (sym same) (called_same made Kind syncs k x)

    synced : (x y : I) → made x Syncing Done y → Took made Kind x y
    synced x y sync = took_one made Kind Syncing x y (inl refl) sync

    both : (x y z : I) → made x Syncing Done y → made y mark Done z → Took made Kind x z
    both x y z sync write = took_both made Kind x y z (synced x y sync) (took_one made Kind mark y z (inr refl) write)

    out_by : (x y z : I) (call : ImageCall) → Kind call → Took made Kind x y → Makes made call WasRefused y z → IsOut made Kind x z
    out_by x y z call is took (fault, link) =
        record { start = y; earlier = took; call = call; is_kind = is; fault = fault; refused = link }

    first_by : (b e l k : Bool) (x y : I) → (e ≡ true → b ≡ true) → Makes made Syncing (to_by b e l) x y → Cut b e k x y
    first_by true true l k x y of_mask refused = out_by x x y Syncing (inl refl) (took_none made Kind x) refused
    first_by true false true k x y of_mask link = called_synced made Kind syncs k x y link
    first_by true false false k x y of_mask same = stood k x y same
    first_by false true l k x y of_mask link = absurd (false≢true (of_mask refl))
    first_by false false l k x y of_mask same = same

    second_by : (b e l was k : Bool) (x y z : I) → (e ≡ true → b ≡ true) → k ≡ (is_accepted (to_by b e l) || was)
        → Makes made Syncing (each_by b) x y → Makes made mark (to_by b e l) y z → Cut b e k x z
    second_by true true l was k x y z of_mask marks sync refused = out_by x y z mark (inr refl) (synced x y sync) refused
    second_by true false true was k x y z of_mask marks sync write =
        subst (λ m. IsCalled made Kind m x z) (sym marks) (both x y z sync write)
    second_by true false false was k x y z of_mask marks sync same =
        subst (λ w. IsCalled made Kind k x w) (sym same) (called_synced made Kind syncs k x y sync)
    second_by false true l was k x y z of_mask marks sync link = absurd (false≢true (of_mask refl))
    second_by false false l was k x y z of_mask marks same again = again ∙ same

    third_by : (b e l was k : Bool) (x y z w : I) → (e ≡ true → b ≡ true) → k ≡ (is_accepted (each_by b) || was)
        → Makes made Syncing (each_by b) x y → Makes made mark (each_by b) y z → Makes made Syncing (to_by b e l) z w → Cut b e k x w
    third_by true true l was k x y z w of_mask marks sync write refused =
        out_by x z w Syncing (inl refl) (both x y z sync write) refused
    third_by true false true was k x y z w of_mask marks sync write last =
        subst (λ m. IsCalled made Kind m x w) (sym marks) (took_both made Kind x z w (both x y z sync write) (synced z w last))
    third_by true false false was k x y z w of_mask marks sync write same =
        subst (λ m. IsCalled made Kind m x w) (sym marks) (subst (λ v. Took made Kind x v) (sym same) (both x y z sync write))
    third_by false true l was k x y z w of_mask marks sync write link = absurd (false≢true (of_mask refl))
    third_by false false l was k x y z w of_mask marks same again last = last ∙ again ∙ same

    done_by : (b : Bool) (x y z w : I) → Makes made Syncing (each_by b) x y → Makes made mark (each_by b) y z
        → Makes made Syncing (each_by b) z w → MatchBool b (AreAccepted made (Syncing ∷ mark ∷ Syncing ∷ []) x w) (w ≡ x)
    done_by true x y z w sync write last = (y, sync, (z, write, (w, last, refl)))
    done_by false x y z w same again last = last ∙ again ∙ same

  module _ (dies : List Standing) (told : Told) (marked marked_then : ℕ) where
    of_mask : (out die : ℕ) → is_in told.mask out ≡ true → (die == out) ≡ true → is_in told.mask die ≡ true
    of_mask out die is same = ap (is_in told.mask) (eqb-true die out same) ∙ is

    abbrev Synced : (ℕ → Went) → List I → List I → Type 0
    Synced = AreMade made dies (λ die. Syncing)

    abbrev Wrote : (ℕ → Went) → List I → List I → Type 0
    Wrote = AreMade made dies (writing told true)

    abbrev Marks : (ℕ → Went) → Type 0
    Marks went = (die : ℕ) → is_in marked_then die ≡ (is_accepted (went die) || is_in marked die)

    still : (went : ℕ → Went) → Marks went → (die : ℕ) → is_in marked die ≡ true → is_in marked_then die ≡ true
    still went marks die was = marks die ∙ or_right (is_accepted (went die)) (is_in marked die) was

    pub first_cut : (xs ys : List I) (out : ℕ) → is_in told.mask out ≡ true → marked_then ≡ marked → Synced (called_to told.mask out) xs ys
        → AreCut made dies told marked marked_then xs ys out
    first_cut xs ys out is same sync = record {
      was_left = is;
      marks = λ die was. ap (λ n. is_in n die) same ∙ was;
      images =
          weaker dies (λ die. Makes made Syncing (called_to told.mask out die)) (IsCut made told marked_then out) xs ys sync
          (λ die x y. first_by told die (is_in told.mask die) (die == out) (nat_lt die out) (is_in marked_then die) x y (of_mask out die is));
    }

    pub second_cut : (xs ys zs : List I) (out : ℕ) → is_in told.mask out ≡ true → Marks (called_to told.mask out)
        → Synced (each_called told.mask) xs ys → Wrote (called_to told.mask out) ys zs
        → AreCut made dies told marked marked_then xs zs out
    second_cut xs ys zs out is marks sync write = record {
      was_left = is;
      marks = still (called_to told.mask out) marks;
      images =
          after_that dies (λ die. Makes made Syncing (each_called told.mask die))
          (λ die. Makes made (writing told true die) (called_to told.mask out die)) (IsCut made told marked_then out) xs ys zs
          sync write
          (λ die x y z. second_by told die (is_in told.mask die) (die == out) (nat_lt die out) (is_in marked die)
          (is_in marked_then die) x y z (of_mask out die is) (marks die));
    }

    -- all were synced, then told
    abbrev Twice : ℕ → I → I → Type 0
    Twice die x z = (y : I) × Makes made Syncing (each_called told.mask die) x y
        × Makes made (writing told true die) (each_called told.mask die) y z

    twice : (xs ys zs : List I) → Synced (each_called told.mask) xs ys → Wrote (each_called told.mask) ys zs → ByDie dies Twice xs zs
    twice xs ys zs sync write =
        after_that dies (λ die. Makes made Syncing (each_called told.mask die))
        (λ die. Makes made (writing told true die) (each_called told.mask die)) Twice xs ys zs sync write (λ die x y z s w. (y, s, w))

    pub third : (xs ys zs ws : List I) (r : Result (Unit {0}) Die) → IfErr r (λ die. is_in told.mask die.0 ≡ true)
        → Marks (each_called told.mask) → Synced (each_called told.mask) xs ys → Wrote (each_called told.mask) ys zs
        → Synced (called told.mask r) zs ws → IsToldAll made dies told marked marked_then xs ws r
    third xs ys zs ws (Ok done) is marks sync write last =
        after_that dies Twice (λ die. Makes made Syncing (each_called told.mask die))
        (λ die x y. MatchBool (is_in told.mask die) (AreAccepted made (Syncing ∷ writing told true die ∷ Syncing ∷ []) x y) (y ≡ x)) xs zs ws
        (twice xs ys zs sync write) last
        (λ die x z w (y, s, t) l. done_by told die (is_in told.mask die) x y z w s t l)
    third xs ys zs ws (Err die) is marks sync write last = record {
      was_left = is;
      marks = still (each_called told.mask) marks;
      images =
          after_that dies Twice (λ d. Makes made Syncing (called_to told.mask die.0 d)) (IsCut made told marked_then die.0)
          xs zs ws (twice xs ys zs sync write) last
          (λ d x z w (y, s, t) l. third_by told d (is_in told.mask d) (d == die.0) (nat_lt d die.0) (is_in marked d)
          (is_in marked_then d) x y z w (of_mask die.0 d is) (marks d) s t l);
    }
