-- What was found is one map.
use Rattle.std.proofs.Common.{◌≡◌, ℕ, inl, inr, List, Option, Some, None, refl, sym, ap, subst, ◌∙◌, arith, slice_get}
use Rattle.std.proofs.lemmas.Bool.{cases_lt, false≢true}
use Rattle.std.specs.Cmp.{nat_cmp_total}
use Rattle.std.specs.FinMap.{get, nat_cmp-IsAntisymmetric, same_map}
use Rattle.std.specs.Prelude.{is_some}
use Rattle.fa_types.specs.declared.geometry.Geometry.{Geometry}
use Rattle.fa_types.specs.declared.numbers.Page.{Page}
use Rattle.fa_machine.specs.declared.places.Used.{Used}
use Rattle.fa_machine.specs.declared.places.Version.{Version}
use Rattle.fa_machine.specs.State.{MapState, used_at}
use Rattle.fa_machine.proofs.Maps.{place_cmp_total, place_same}
use Rattle.fa_mount_scan.specs.declared.slots.content.SlotContent.{SlotContent}
use Rattle.fa_mount_scan.specs.declared.slots.content.SlotContent.TheVariants.{Erased, Copy, Stale}
use Rattle.fa_mount_scan.specs.Content.{Contents, HasCopy, IsLastOf, IsLastWrite, IsMountedContent, IsStateOf, found_at, slots_on}
use Rattle.fa_mount_scan.proofs.LastWrites.{found_on, nothing_on}

module _ (contents : Contents) (page : Page) where
  -- no two writes of a page are its last
  one_write : (v w : Version) → IsLastWrite (HasCopy contents page) v → IsLastWrite (HasCopy contents page) w → v ≡ w
  one_write v w a b =
      let up = b.greatest v a.die a.slot a.copied in
      let down = a.greatest w b.die b.slot b.copied in
      let tied : v.seq.0 ≡ w.seq.0 = omega (arith, up, down) in
      elim (cases_lt a.die b.die) [
        | inl lower ↦ absurd (b.lowest v a.die a.slot a.copied tied (inl lower))
        | inr high ↦ elim (cases_lt b.die a.die) [
          | inl lower ↦ absurd (a.lowest w b.die b.slot b.copied (sym tied) (inl lower))
          | inr low ↦
              let die : a.die ≡ b.die = omega (arith, high, low) in
              elim (cases_lt a.slot b.slot) [
                | inl lower ↦ absurd (b.lowest v a.die a.slot a.copied tied (inr (die, lower)))
                | inr above ↦ elim (cases_lt b.slot a.slot) [
                  | inl lower ↦ absurd (a.lowest w b.die b.slot b.copied (sym tied) (inr (sym die, lower)))
                  | inr below ↦
                      let slot : a.slot ≡ b.slot = omega (arith, above, below) in
                      let same : Some (Copy page v) ≡ Some (Copy page w) =
                      sym a.copied ∙ ap (λ d. found_at contents d a.slot) die ∙ ap (λ s. found_at contents b.die s) slot ∙ b.copied in
                      cc
                ]
              ]
        ]
      ]

  pub one_last : (a b : Option Version) → IsLastOf (HasCopy contents page) a → IsLastOf (HasCopy contents page) b → a ≡ b
  one_last None None is_a is_b = refl
  one_last None (Some w) is_a is_b = absurd (is_a w is_b.die is_b.slot is_b.copied)
  one_last (Some v) None is_a is_b = absurd (is_b v is_a.die is_a.slot is_a.copied)
  one_last (Some v) (Some w) is_a is_b = ap Some (one_write v w is_a is_b)

-- a slot has one state
one_state : (slots : List SlotContent) (last : ℕ → Option Version) (slot : ℕ) (content : SlotContent) (a b : Option Used)
    → IsStateOf slots last slot content a → IsStateOf slots last slot content b → a ≡ b
one_state slots last slot Erased a b is_a is_b = is_a ∙ sym is_b
one_state slots last slot Stale a b is_a is_b = is_a ∙ sym is_b
one_state slots last slot (Copy page version) a b (inl x) (inl y) = x.0 ∙ sym y.0
one_state slots last slot (Copy page version) a b (inl x) (inr y) = absurd (y.1 x.1)
one_state slots last slot (Copy page version) a b (inr x) (inl y) = absurd (x.1 y.1)
one_state slots last slot (Copy page version) a b (inr x) (inr y) = x.0 ∙ sym y.0

one_unit : (a b : Option (Unit {0})) → is_some a ≡ is_some b → a ≡ b
one_unit None None e = refl
one_unit None (Some y) e = absurd (false≢true e)
one_unit (Some x) None e = absurd (false≢true (sym e))
one_unit (Some x) (Some y) e = refl

module _ (geometry : Geometry) (contents : Contents) (m n : MapState)
    (is_m : IsMountedContent geometry contents m) (is_n : IsMountedContent geometry contents n) where
  same_numbers : (page : ℕ) → get m.versions page ≡ get n.versions page
  same_numbers page =
      let p : Page = record { 0 = page } in one_last contents p (get m.versions page) (get n.versions page) (is_m.numbers p) (is_n.numbers p)

  same_used : (die slot : ℕ) (o : Option (List SlotContent)) → slots_on contents die ≡ o → (f : Option SlotContent) → found_at contents die slot ≡ f
      → used_at m die slot ≡ used_at n die slot
  same_used die slot o on None none = is_m.others die slot none ∙ sym (is_n.others die slot none)
  same_used die slot None on (Some content) found = absurd (let none = nothing_on contents die on slot content found in omega (arith, none))
  same_used die slot (Some slots) on (Some content) found =
      let at : slice_get slots slot ≡ Some content = sym (found_on contents die slot slots on) ∙ found in
      one_state slots (get m.versions) slot content (used_at m die slot) (used_at n die slot) (is_m.used die slot slots content on at)
      (subst (λ (numbers : ℕ → Option Version). IsStateOf slots numbers slot content (used_at n die slot)) (λ i page. sym (same_numbers page) i)
      (is_n.used die slot slots content on at))

  same_live : (die : ℕ) → get m.live die ≡ get n.live die
  same_live die = one_unit (get m.live die) (get n.live die) (is_m.live die ∙ sym (is_n.live die))

  pub one_map : m ≡ n
  one_map =
      let geometry = is_m.shape ∙ sym is_n.shape in
      let live = same_map nat_cmp_total nat_cmp-IsAntisymmetric m.live n.live same_live in
      let numbers = same_map nat_cmp_total nat_cmp-IsAntisymmetric m.versions n.versions same_numbers in
      let used = same_map place_cmp_total place_same m.used n.used
      (λ q. same_used q.0 q.1 (slots_on contents q.0) refl (found_at contents q.0 q.1) refl) in
      λ i. record { geometry = geometry i; live = live i; versions = numbers i; used = used i }
