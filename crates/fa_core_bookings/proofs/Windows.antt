-- The windows of dies as a finite map.
use Rattle.fa_core_bookings.specs.Found.{get_windows}
use Rattle.fa_core_bookings.specs.Booked.{windows_in}
use Rattle.fa_calendar.specs.Windows.{left_window}
use Rattle.fa_machine.proofs.Maps.{get-insert_other, get-insert_same, get-keep, get-remove_other, get-remove_same, nat_same, passed}
use Rattle.fa_machine.specs.Maps.{keep}
use Rattle.fa_types.specs.declared.window.Window.{Window}
use Rattle.std.proofs.Common.{None, Option, Some, ap, eq-eqb, inl, inr, refl, sym, ℕ, ◌≤◌, ◌∙◌, ◌≡◌}
use Rattle.std.proofs.lemmas.Bool.{cases_eq, ne_eqb}
use Rattle.std.specs.Cmp.{nat_cmp_total}
use Rattle.std.specs.FinMap.{FinMap, empty, get, get-empty, insert, nat_cmp-IsAntisymmetric, remove, same_map}
use Rattle.std.specs.Ordering.{nat_cmp}
use Rattle.std.specs.Prelude.{if◌then◌else◌, nat_lt, ◌==◌}

pub same_windows : (m n : FinMap nat_cmp Window) → ((die : ℕ) → get m die ≡ get n die) → m ≡ n
same_windows = same_map nat_cmp_total nat_cmp-IsAntisymmetric

-- two calendars' windows
module _ (f g : ℕ → Option Window) (few : (die : ℕ) → 256 ≤ die → f die ≡ None) (few_after : (die : ℕ) → 256 ≤ die → g die ≡ None) where
  pub windows_stay : ((die : ℕ) → g die ≡ f die) → windows_in g ≡ windows_in f
  windows_stay same = same_windows _ _ (λ die. get_windows g few_after die ∙ same die ∙ sym (get_windows f few die))

  pub window_comes : (die : ℕ) (w : Window) → ((d : ℕ) → g d ≡ (if die == d then Some w else f d))
      → windows_in g ≡ insert (windows_in f) die w
  window_comes die w is =
      same_windows _ _ (λ d. get_windows g few_after d ∙ is d ∙ elim (cases_eq d die) [
        | inl same ↦ ap (λ b. if b then Some w else f d) (eq-eqb die d (sym same)) ∙ sym (ap (get (insert (windows_in f) die w)) same
            ∙ get-insert_same (windows_in f) die w)
        | inr apart ↦ ap (λ b. if b then Some w else f d) (ne_eqb die d (λ e. apart (sym e)))
            ∙ sym (get-insert_other (windows_in f) die w d apart ∙ get_windows f few d)
      ])

  pub window_goes : (die : ℕ) → ((d : ℕ) → g d ≡ (if die == d then None else f d)) → windows_in g ≡ remove (windows_in f) die
  window_goes die is =
      same_windows _ _ (λ d. get_windows g few_after d ∙ is d ∙ elim (cases_eq d die) [
        | inl same ↦ ap (λ b. if b then None else f d) (eq-eqb die d (sym same)) ∙ sym (ap (get (remove (windows_in f) die)) same
            ∙ get-remove_same (windows_in f) die)
        | inr apart ↦ ap (λ b. if b then None else f d) (ne_eqb die d (λ e. apart (sym e)))
            ∙ sym (get-remove_other (windows_in f) die d apart ∙ get_windows f few d)
      ])

  pub windows_pass : (round : ℕ) → ((d : ℕ) → g d ≡ left_window round (f d))
      → windows_in g ≡ keep (λ die window. nat_lt round window.last.0) (windows_in f)
  windows_pass round is =
      same_windows _ _ (λ d. get_windows g few_after d ∙ is d ∙ go (f d)
      ∙ ap (passed (λ window. nat_lt round window.last.0)) (sym (get_windows f few d))
      ∙ sym (get-keep nat_cmp_total nat_same (λ die window. nat_lt round window.last.0) (windows_in f) d))
    where
      go : (o : Option Window) → left_window round o ≡ passed (λ window. nat_lt round window.last.0) o
      go None = refl
      go (Some w) = refl

pub no_windows : (f : ℕ → Option Window) → ((die : ℕ) → f die ≡ None) → windows_in f ≡ empty
no_windows f none = same_windows _ _ (λ die. get_windows f (λ d high. none d) die ∙ none die ∙ sym (get-empty nat_cmp die))
