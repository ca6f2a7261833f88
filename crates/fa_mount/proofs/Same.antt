-- What no call of closing changes of an image is the same of all images.
use Rattle.std.proofs.Common.{◌≡◌, ◌∙◌, ◌++◌, ◌⊎◌, ℕ, zero, suc, Bool, true, false, List, [], ◌∷◌, Option, Some, None, Result, Ok, Err, length, map, refl, ap, sym, inl, inr, subst, slice_get, arith}
use Rattle.std.specs.Bool.{MatchBool}
use Rattle.std.specs.List.{AllByRecursion}
use Rattle.std.proofs.lemmas.Bool.{cases_eq}
use Rattle.std.proofs.lemmas.Option.{none-some, same_Some}
use Rattle.fa_mount_headers.specs.Rules.{is_in}
use Rattle.fa_mount_headers.specs.declared.judging.Standing.{Standing}
use Rattle.fa_image.specs.Image.{ImageState, ImageMeets, ImageCall, WritingHeader, Syncing, ImageAnswer, Gave, Done, Refused}
use Rattle.fa_machine.specs.State.{Core, is_live}
use Rattle.fa_mount.specs.Closing.{AreAccepted, Ends, HasBecome, HaveBecome, IsClosed, IsEarlier, IsOut, IsUnmarked, Took, writing_in}
use Rattle.fa_mount.specs.Phases.{ByDie}
use Rattle.fa_mount.specs.Standings.{place_on}
use Rattle.fa_mount_headers.specs.Places.{place_of}
use Rattle.fa_mount.specs.declared.closing.CloseFault.{CloseFault}
use Rattle.fa_mount.specs.declared.closing.CloseFault.TheVariants.{Busy, Lost, NoDieLive}

-- a place is that of a die, or of none
abbrev Placed : List Standing → ℕ → Type 0
Placed dies index = ((die : ℕ) × (place_on dies die ≡ Some index)) ⊎ ((die : ℕ) → place_on dies die ≡ Some index → ⊥)

same_place : (o : Option ℕ) (index : ℕ) → (o ≡ Some index) ⊎ (o ≡ Some index → ⊥)
same_place None index = inr (λ is. none-some index is)
same_place (Some k) index = elim (cases_eq k index) [ inl same ↦ inl (ap Some same) | inr apart ↦ inr (λ is. apart (same_Some k index is)) ]

placed : (dies : List Standing) (index : ℕ) → Placed dies index
placed [] index = inr (λ die is. none-some index is)
placed (standing ∷ dies) index =
    elim (same_place (place_of standing) index) [
      | inl here ↦ inl (0, here)
      | inr not_here ↦ elim (placed dies index) [
        | inl later ↦ inl (suc later.0, later.1)
        | inr none ↦ inr (nowhere standing dies index not_here none)
      ]
    ]
  where
    nowhere : (standing : Standing) (dies : List Standing) (index : ℕ) → (place_of standing ≡ Some index → ⊥)
        → ((die : ℕ) → place_on dies die ≡ Some index → ⊥) → (die : ℕ) → place_on (standing ∷ dies) die ≡ Some index → ⊥
    nowhere standing dies index not_here none zero is = not_here is
    nowhere standing dies index not_here none (suc die) is = none die is

module _ {I X : Type 0} (f : I → X) where
  map_same : (xs ys : List I) → length ys ≡ length xs
      → ((index : ℕ) (x y : I) → slice_get xs index ≡ Some x → slice_get ys index ≡ Some y → f y ≡ f x) → map f ys ≡ map f xs
  map_same [] [] long each = refl
  map_same [] (y ∷ ys) long each = absurd (omega (arith, long))
  map_same (x ∷ xs) [] long each = absurd (omega (arith, long))
  map_same (x ∷ xs) (y ∷ ys) long each =
      let first = each 0 x y refl refl in
      let rest = map_same xs ys (omega (arith, long)) (λ index a b at at_then. each (suc index) a b at at_then) in
      (λ i. first i ∷ rest i)

  pub all_same : (dies : List Standing) (R : ℕ → I → I → Type 0) (xs ys : List I) → ByDie dies R xs ys
      → ((die : ℕ) (x y : I) → R die x y → f y ≡ f x) → map f ys ≡ map f xs
  all_same dies R xs ys by keeps = map_same xs ys by.as_many (λ index x y at at_then. elim (placed dies index) [
    | inl at_die ↦ keeps at_die.0 x y (by.each at_die.0 index x y at_die.1 at at_then)
    | inr none ↦ ap f (same_Some y x (sym at_then ∙ by.others index none ∙ at))
  ])

  module _ (made : I → ImageCall → ImageAnswer → I → Type 0)
      (by_sync : (x y : I) (answer : ImageAnswer) → made x Syncing answer y → f y ≡ f x)
      (by_write : (x y : I) (bytes : List ℕ) (answer : ImageAnswer) → made x (WritingHeader bytes) answer y → f y ≡ f x) where
    -- a call leaves it as it was
    abbrev Leaves : ImageCall → Type 0
    Leaves call = (x y : I) (answer : ImageAnswer) → made x call answer y → f y ≡ f x

    syncs_leave : (call : ImageCall) → call ≡ Syncing → Leaves call
    syncs_leave call is = subst Leaves (sym is) by_sync

    module _ (core : Core) (array : List ℕ) where
      earlier_leaves : (epoch die : ℕ) (call : ImageCall) → IsEarlier core.page_map.geometry array epoch die call → Leaves call
      earlier_leaves epoch die call (inl is) = syncs_leave call is
      earlier_leaves epoch die call (inr x) = subst Leaves (sym x.3) (λ a b answer link. by_write a b _ answer link)

      accepted_leave : (calls : List ImageCall) (x y : I) → AllByRecursion Leaves calls → AreAccepted made calls x y → f y ≡ f x
      accepted_leave [] x y all same = ap f same
      accepted_leave (call ∷ calls) x y all (between, link, rest) =
          accepted_leave calls between y all.1 rest ∙ all.0 x between Done link

      each_leaves : (kind : ImageCall → Type 0) → ((call : ImageCall) → kind call → Leaves call) → (calls : List ImageCall)
          → AllByRecursion kind calls → AllByRecursion Leaves calls
      each_leaves kind leaves [] all = tt
      each_leaves kind leaves (call ∷ calls) all = (leaves call all.0, each_leaves kind leaves calls all.1)

      then_leaves : (calls others : List ImageCall) → AllByRecursion Leaves calls → AllByRecursion Leaves others
          → AllByRecursion Leaves (calls ++ others)
      then_leaves [] others first second = second
      then_leaves (call ∷ calls) others first second = (first.0, then_leaves calls others first.1 second)

      took_leaves : (kind : ImageCall → Type 0) → ((call : ImageCall) → kind call → Leaves call) → (x y : I) → Took made kind x y
          → f y ≡ f x
      took_leaves kind leaves x y took = accepted_leave took.0 x y (each_leaves kind leaves took.0 took.1) took.2

      out_leaves : (kind : ImageCall → Type 0) → ((call : ImageCall) → kind call → Leaves call) → (x y : I) → IsOut made kind x y
          → f y ≡ f x
      out_leaves kind leaves x y out =
          leaves out.call out.is_kind out.start y (Refused out.fault) out.refused ∙ took_leaves kind leaves x out.start out.earlier

      closed_leaves : (kind : ImageCall → Type 0) → ((call : ImageCall) → kind call → Leaves call) → (bytes : List ℕ) (x y : I)
          → IsClosed made kind (WritingHeader bytes) x y → f y ≡ f x
      closed_leaves kind leaves bytes x y closed =
          accepted_leave (closed.earlier ++ Syncing ∷ WritingHeader bytes ∷ Syncing ∷ []) x y
          (then_leaves closed.earlier (Syncing ∷ WritingHeader bytes ∷ Syncing ∷ []) (each_leaves kind leaves closed.earlier closed.are_earlier)
          (by_sync, ((λ a b answer link. by_write a b bytes answer link), (by_sync, tt)))) closed.accepted

      unmarked_leaves : (kind : ImageCall → Type 0) → ((call : ImageCall) → kind call → Leaves call) → (bytes : List ℕ) (x y : I)
          → IsUnmarked made kind (WritingHeader bytes) x y → f y ≡ f x
      unmarked_leaves kind leaves bytes x y (inl synced) = took_leaves (λ call. call ≡ Syncing) syncs_leave x y synced
      unmarked_leaves kind leaves bytes x y (inr (start, answer, took, link)) =
          by_write start y bytes answer link ∙ took_leaves kind leaves x start took

      module _ (dies : List Standing) (xs ys : List I) where
        became_leaves : (epoch mask : ℕ) (is_left : (ImageCall → Type 0) → ℕ → I → I → Type 0)
            → ((die : ℕ) (x y : I) → is_left (IsEarlier core.page_map.geometry array epoch die) die x y → f y ≡ f x)
            → HaveBecome made core array dies xs ys epoch mask is_left → map f ys ≡ map f xs
        became_leaves epoch mask is_left left by =
            all_same dies (HasBecome made core array dies xs ys epoch mask is_left) xs ys by
            (λ die x y became. by_cases epoch is_left die (is_live core.page_map die) (is_in mask die) x y (left die x y) became)
          where
            by_cases : (epoch : ℕ) (is_left : (ImageCall → Type 0) → ℕ → I → I → Type 0) (die : ℕ) (l b : Bool) (x y : I)
                → (is_left (IsEarlier core.page_map.geometry array epoch die) die x y → f y ≡ f x)
                → MatchBool l (MatchBool b (is_left (IsEarlier core.page_map.geometry array epoch die) die x y)
                (IsOut made (IsEarlier core.page_map.geometry array epoch die) x y)) (y ≡ x)
                → f y ≡ f x
            by_cases epoch is_left die true true x y left became = left became
            by_cases epoch is_left die true false x y left out =
                out_leaves (IsEarlier core.page_map.geometry array epoch die) (earlier_leaves epoch die) x y out
            by_cases epoch is_left die false b x y left same = ap f same

        pub ended_leaves : (r : Result ℕ CloseFault) → Ends made core array dies xs ys r → map f ys ≡ map f xs
        ended_leaves (Ok mask) clean =
            became_leaves clean.epoch mask
            (λ kind die. IsClosed made kind (writing_in core.page_map.geometry array clean.epoch mask true die))
            (λ die x y. closed_leaves _ (earlier_leaves clean.epoch die) _ x y) clean.images
        ended_leaves (Err Busy) not = absurd not
        ended_leaves (Err (Lost page)) lost =
            became_leaves lost.epoch lost.mask
            (λ kind die. IsUnmarked made kind (writing_in core.page_map.geometry array lost.epoch lost.mask false die))
            (λ die x y. unmarked_leaves _ (earlier_leaves lost.epoch die) _ x y) lost.images
        ended_leaves (Err NoDieLive) none = became_leaves none.epoch 0 (λ kind die x y. ⊥) (λ die x y not. absurd not) none.images

-- ## Slots and honesty

module _ {I : Type 0} (view : I → ImageState) (honest : I → Bool) (made : I → ImageCall → ImageAnswer → I → Type 0)
    (meets : (x y : I) (call : ImageCall) (answer : ImageAnswer) → made x call answer y
    → ImageMeets (view x) (honest x) call answer (view y) (honest y)) where
  pub sync_slots : (x y : I) (answer : ImageAnswer) → made x Syncing answer y → (view y).slots ≡ (view x).slots
  sync_slots x y (Gave bytes) link = absurd (meets x y Syncing (Gave bytes) link).answers
  sync_slots x y Done link = ap (λ (s : ImageState). s.slots) (meets x y Syncing Done link).leads
  sync_slots x y (Refused fault) link = ap (λ (s : ImageState). s.slots) (meets x y Syncing (Refused fault) link).leads

  pub write_slots : (x y : I) (bytes : List ℕ) (answer : ImageAnswer) → made x (WritingHeader bytes) answer y
      → (view y).slots ≡ (view x).slots
  write_slots x y bytes (Gave given) link = absurd (meets x y (WritingHeader bytes) (Gave given) link).answers
  write_slots x y bytes Done link = ap (λ (s : ImageState). s.slots) (meets x y (WritingHeader bytes) Done link).leads
  write_slots x y bytes (Refused fault) link =
      ap (λ (s : ImageState). s.slots) (meets x y (WritingHeader bytes) (Refused fault) link).leads.2

  pub sync_honest : (x y : I) (answer : ImageAnswer) → made x Syncing answer y → honest y ≡ honest x
  sync_honest x y answer link = (meets x y Syncing answer link).honest

  pub write_honest : (x y : I) (bytes : List ℕ) (answer : ImageAnswer) → made x (WritingHeader bytes) answer y → honest y ≡ honest x
  write_honest x y bytes answer link = (meets x y (WritingHeader bytes) answer link).honest
