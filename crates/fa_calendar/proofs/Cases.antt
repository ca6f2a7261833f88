-- What the tests of a calendar come to, case by case. In all of them c stands for closed, w for in the window, o for one
-- of the places that are released, and n for one of those that are booked.
use Rattle.std.proofs.Common.{◌≡◌, Bool, true, false, not, ◌&&◌, ◌||◌, refl}

-- what is booked or in the window is closed
pub taken_is : (c w : Bool) → (w ≡ true → c ≡ true) → ((c && not w) || w) ≡ c
taken_is true true h0 = refl
taken_is true false h0 = refl
taken_is false true h0 = let no : ⊥ = cc (h0 refl) in absurd no
taken_is false false h0 = refl

-- what is booked once some places are released and others booked
pub exchanged_is : (c w o n : Bool) → (n ≡ true → w ≡ false) → (((c && not o) || n) && not w) ≡ (((c && not w) && not o) || n)
exchanged_is true true true true h0 = let no : ⊥ = cc (h0 refl) in absurd no
exchanged_is true true true false h0 = refl
exchanged_is true true false true h0 = let no : ⊥ = cc (h0 refl) in absurd no
exchanged_is true true false false h0 = refl
exchanged_is true false true true h0 = refl
exchanged_is true false true false h0 = refl
exchanged_is true false false true h0 = refl
exchanged_is true false false false h0 = refl
exchanged_is false true true true h0 = let no : ⊥ = cc (h0 refl) in absurd no
exchanged_is false true true false h0 = refl
exchanged_is false true false true h0 = let no : ⊥ = cc (h0 refl) in absurd no
exchanged_is false true false false h0 = refl
exchanged_is false false true true h0 = refl
exchanged_is false false true false h0 = refl
exchanged_is false false false true h0 = refl
exchanged_is false false false false h0 = refl

-- what is closed then
pub with_is : (c w o n : Bool) → (w ≡ true → c ≡ true) → (w ≡ true → o ≡ false) → ((((c && not w) && not o) || w) || n) ≡ ((c && not o) || n)
with_is true true true true h0 h1 = let no : ⊥ = cc (h1 refl) in absurd no
with_is true true true false h0 h1 = let no : ⊥ = cc (h1 refl) in absurd no
with_is true true false true h0 h1 = refl
with_is true true false false h0 h1 = refl
with_is true false true true h0 h1 = refl
with_is true false true false h0 h1 = refl
with_is true false false true h0 h1 = refl
with_is true false false false h0 h1 = refl
with_is false true true true h0 h1 = let no : ⊥ = cc (h0 refl) in absurd no
with_is false true true false h0 h1 = let no : ⊥ = cc (h0 refl) in absurd no
with_is false true false true h0 h1 = let no : ⊥ = cc (h0 refl) in absurd no
with_is false true false false h0 h1 = let no : ⊥ = cc (h0 refl) in absurd no
with_is false false true true h0 h1 = refl
with_is false false true false h0 h1 = refl
with_is false false false true h0 h1 = refl
with_is false false false false h0 h1 = refl

-- a place that is open once others are released was not closed by anything else
pub free_is : (c w o : Bool) → (((c && not w) && not o) || w) ≡ false → (c && not o) ≡ false
free_is true true o h = let no : ⊥ = cc h in absurd no
free_is false true o h = let no : ⊥ = cc h in absurd no
free_is true false true h = refl
free_is true false false h = let no : ⊥ = cc h in absurd no
free_is false false o h = refl

pub outside_is : (b w : Bool) → (b || w) ≡ false → w ≡ false
outside_is true w h = let no : ⊥ = cc h in absurd no
outside_is false w h = h

-- what was booked was closed, and in no window
pub closed_is : (c w : Bool) → (c && not w) ≡ true → c ≡ true
closed_is true w h = refl
closed_is false w h = h

pub apart_is : (c w : Bool) → (c && not w) ≡ true → w ≡ false
apart_is true true h = let no : ⊥ = cc h in absurd no
apart_is true false h = refl
apart_is false w h = let no : ⊥ = cc h in absurd no

-- places that are released and booked again
pub restored_is : (c o : Bool) → (o ≡ true → c ≡ true) → ((c && not o) || o) ≡ c
restored_is true true h0 = refl
restored_is true false h0 = refl
restored_is false true h0 = let no : ⊥ = cc (h0 refl) in absurd no
restored_is false false h0 = refl

-- what is booked once a place is released
pub released_is : (c w o : Bool) → ((c && not o) && not w) ≡ ((c && not w) && not o)
released_is true true true = refl
released_is true true false = refl
released_is true false true = refl
released_is true false false = refl
released_is false true true = refl
released_is false true false = refl
released_is false false true = refl
released_is false false false = refl

-- a window that is new takes no booking
pub window_is : (c f : Bool) → (f ≡ true → c ≡ false) → ((c || f) && not f) ≡ (c && not false)
window_is true true h0 = let no : ⊥ = cc (h0 refl) in absurd no
window_is true false h0 = refl
window_is false true h0 = refl
window_is false false h0 = refl

-- one place that is released, as a list
pub one_is : (a b : Bool) → (a && not b) ≡ ((a && not (b || false)) || false)
one_is true true = refl
one_is true false = refl
one_is false true = refl
one_is false false = refl

-- what is closed without some places
pub without_is : (c w o : Bool) → (w ≡ true → c ≡ true) → (w ≡ true → o ≡ false) → (c && not o) ≡ (((c && not w) && not o) || w)
without_is true true true h0 h1 = let no : ⊥ = cc (h1 refl) in absurd no
without_is true true false h0 h1 = refl
without_is true false true h0 h1 = refl
without_is true false false h0 h1 = refl
without_is false true true h0 h1 = let no : ⊥ = cc (h0 refl) in absurd no
without_is false true false h0 h1 = let no : ⊥ = cc (h0 refl) in absurd no
without_is false false true h0 h1 = refl
without_is false false false h0 h1 = refl

-- what is booked when a round has passed: l says that the round is later, e that it is the one

pub or_none : (b : Bool) → b ≡ (b || false)
or_none true = refl
or_none false = refl
