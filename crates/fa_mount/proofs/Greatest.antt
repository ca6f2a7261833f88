-- The greatest number of the pages below one.
use Rattle.std.proofs.Common.{◌≡◌, ℕ, ◌+◌, ◌<◌, ◌≤◌, ◌⊎◌, ◌^◌, List, Option, Some, None, refl, sym, ap, ◌∙◌, inl, inr, arith}
use Rattle.std.proofs.lemmas.Bool.{cases_eq, cases_lt}
use Rattle.std.specs.FinMap.{get}
use Rattle.std.specs.Prelude.{is_some, max}
use Rattle.fa_machine.specs.State.{MapState}
use Rattle.fa_machine.specs.declared.places.Version.{Version}
use Rattle.fa_map_calls.specs.Slots.{IsPageMap}
use Rattle.fa_mount.specs.Begins.{IsGreatestNumber, MayBegin, number_in}
use Rattle.fa_mount_headers.specs.declared.judging.Standing.{Standing}

pub record IsGreatestBelow (m : MapState) (end last : ℕ) : Type 0 where
  pub above : (page : ℕ) (version : Version) → page < end → get m.versions page ≡ Some version → version.seq.0 ≤ last
  pub given : (last ≡ 0) ⊎ ((page : ℕ) × (version : Version) × (get m.versions page ≡ Some version) × (version.seq.0 ≡ last))

pub none_below : (m : MapState) → IsGreatestBelow m 0 0
none_below m = record { above = λ page version low is. absurd (omega (arith, low)); given = inl refl }

abbrev Given : MapState → ℕ → Type 0
Given m last = (last ≡ 0) ⊎ ((page : ℕ) × (version : Version) × (get m.versions page ≡ Some version) × (version.seq.0 ≡ last))

given_of : (m : MapState) (page n : ℕ) (o : Option Version) → get m.versions page ≡ o → n ≡ number_in o → Given m n
given_of m page n None is number = inl number
given_of m page n (Some version) is number = inr (page, version, is, sym number)

one_of : (m : MapState) (last n new : ℕ) → new ≡ max last n → Given m last → Given m n → Given m new
one_of m last n new is old here = elim (cases_lt last n) [
  | inl less ↦ let same : new ≡ n = omega arith in moved n new same here
  | inr most ↦ let same : new ≡ last = omega arith in moved last new same old
]
  where
    moved : (a b : ℕ) → b ≡ a → Given m a → Given m b
    moved a b same (inl none) = inl (same ∙ none)
    moved a b same (inr x) = inr (x.0, x.1, x.2, x.3 ∙ sym same)

pub one_more_number : (m : MapState) (end last n new : ℕ) → n ≡ number_in (get m.versions end) → new ≡ max last n
    → IsGreatestBelow m end last → IsGreatestBelow m (end + 1) new
one_more_number m end last n new number is before = record {
  above = λ page version low at. elim (cases_eq page end) [
    | inl same ↦
        let here : number_in (get m.versions end) ≡ version.seq.0 = ap number_in (sym (ap (get m.versions) same) ∙ at) in
        omega (arith, here, number, is)
    | inr apart ↦ let most = before.above page version (omega (arith, low, apart)) at in omega (arith, most, is)
  ];
  given = one_of m last n new is before.given (given_of m end n (get m.versions end) refl number);
}

pub greatest : (m : MapState) (last : ℕ) → IsPageMap m → IsGreatestBelow m m.geometry.pages last → IsGreatestNumber m last
greatest m last whole is = record {
  above = λ page version at. is.above page version (whole.written page (ap is_some at)) at;
  given = is.given;
}

pub last_fits : (copies : ℕ) (dies : List Standing) (m : MapState) (last : ℕ) → MayBegin copies dies m → IsGreatestNumber m last → last < 2 ^ 62
last_fits copies dies m last may greatest = elim greatest.given [
  | inl none ↦ omega (arith, none)
  | inr x ↦ let fits = (may.numbers x.0 x.1 x.2).1 in let same = x.3 in omega (arith, fits, same)
]
