use Rattle.std.proofs.Common.{◌≡◌, Some, true, false, sym, ◌∙◌, refl, ap}
use Rattle.fa_settings.proofs.Texts.{are_strings, no_texts, has_texts, the_texts, within, not_within}
use Rattle.fa_settings.proofs.values.images_at.Goals as goal

pub returns-then-not-are_texts-clause-fault : goal.returns-then-not-are_texts-clause-fault
returns-then-not-are_texts-clause-fault g c =
    let none : are_strings c.in-Some-as_array.values.now.items ≡ false = sym (rw c.deref.ensures.value at c.if-not-are_texts.ensures) in
    (refl, (_, sym c.in-Some.ensures, no_texts _ _ c.in-Some-as_array.ensures none))

pub returns-then-not-are_so_many-clause-fault : goal.returns-then-not-are_so_many-clause-fault
returns-then-not-are_so_many-clause-fault g c =
    let all : are_strings c.in-Some-as_array.values.now.items ≡ true = sym (rw c.deref.ensures.value at c.if-not-are_texts.ensures) in
    let many = rw c.deref-2.ensures.value at c.if-not-are_so_many.ensures in (
      refl,
      (
        _,
        sym c.in-Some.ensures,
        has_texts _ _ c.in-Some-as_array.ensures all,
        not_within _ _ c.in-Some-as_array.ensures all (λ few. absurd (let is : false ≡ true = many.1 few in cc)),
      ),
    )

pub returns-clause-fine : goal.returns-clause-fine
returns-clause-fine g c =
    let all : are_strings c.in-Some-as_array.values.now.items ≡ true = sym (rw c.deref.ensures.value at c.if-not-are_texts.ensures) in
    let few = rw c.deref-2.ensures.value at c.if-not-are_so_many.ensures in
    rw (← c.in-Some.ensures) (within _ _ c.in-Some-as_array.ensures all (few.0 refl))

pub returns-clause-images : goal.returns-clause-images
returns-clause-images g c =
    let all : are_strings c.in-Some-as_array.values.now.items ≡ true = sym (rw c.deref.ensures.value at c.if-not-are_texts.ensures) in
    rw (← c.in-Some.ensures) (the_texts _ _ c.in-Some-as_array.ensures all ∙ sym (ap Some (rw c.deref-3.ensures.value at c.in_ok-copied_texts.ensures)))
