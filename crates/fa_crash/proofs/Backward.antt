-- Who is trusted with a page behind an event was so before, or the event ends the program that makes it so.
use Rattle.fa_crash.proofs.EndFollows.{event_follows}
use Rattle.fa_crash.proofs.Steps.{LiveLaw, NumbersLaw, RaisesLaw, current_back, live_was}
use Rattle.fa_crash.proofs.Trusted.{DoneOn, Follows, HeldOn, IsCurrentOwner, IsErasedAt, IsMarked, Trusted, WasOwned, WasTarget}
use Rattle.fa_machine.specs.Among.{Among}
use Rattle.fa_machine.specs.State.{Core, is_live}
use Rattle.fa_machine.specs.Cells.{DidProgram}
use Rattle.fa_machine.specs.Step.{Act, Done, Step}
use Rattle.fa_machine.specs.declared.places.Target.{Target}
use Rattle.fa_sound.specs.Owners.{Owned, TargetAt, owned_of}
use Rattle.fa_sound.specs.Sound.{IsSound}
use Rattle.std.proofs.Common.{Option, Some, inl, inr, refl, subst, sym, true, ℕ, ◌∙◌, ◌≡◌, ◌⊎◌}
use Rattle.std.proofs.lemmas.Bool.{false≢true}

-- a target whose program ends by the event, of a write that is current
pub record EndsProgram (old : Core) (act : Act) (die page : ℕ) : Type 0 where
  pub owner : Option ℕ
  pub owned : Owned
  pub target : Target
  pub owns : owned_of old.copying old.claims owner ≡ Some owned
  pub among : Among target owned.targets
  pub on_die : target.die.0 ≡ die
  pub alive : is_live old.page_map die ≡ true
  pub of_page : owned.page ≡ page
  pub current : IsCurrentOwner old.page_map.versions owner owned
  pub marked : IsMarked old act target

module _ (live : LiveLaw) (numbers : NumbersLaw) (raises : RaisesLaw) (old new : Core) (act : Act) (step : Step old act new) (s : IsSound old) where
  f : Follows old act new
  f = event_follows old new act step.does

  -- a live die on which a target lies was live
  target_live : (q : Option ℕ) (x : Owned) (t : Target) (die : ℕ) → owned_of old.copying old.claims q ≡ Some x → Among t x.targets
      → t.die.0 ≡ die
      → is_live new.page_map die ≡ true → is_live old.page_map die ≡ true
  target_live q x t die owns among on alive =
      elim (live_was live old new act step die alive) [
        | inl before ↦ before
        | inr spare ↦
            let a : TargetAt (owned_of old.copying old.claims) die t.slot.0 =
            record { owner = q; owned = x; target = t; owns = owns; among = among; on_die = on; at_slot = refl } in
            absurd (false≢true (sym (s.targets die t.slot.0 a).fresh ∙ spare))
      ]

  held_back : (die page : ℕ) → HeldOn new die page → Trusted old die page
  held_back die page h = subst (Trusted old die) h.page_is (f.held die h.slot h.tag h.version h.held)

  was_done : (die page : ℕ) (o : DoneOn new die page) (w : WasOwned old act o.owner o.owned) (t : WasTarget old act w.before o.target)
      → (t.was.programmed ≡ true) ⊎ IsMarked old act o.target → Trusted old die page ⊎ EndsProgram old act die page
  was_done die page o w t (inl done) = inl (inr (record {
    owner = o.owner;
    owned = w.before;
    target = t.was;
    owns = w.owns;
    among = t.among;
    on_die = t.on_die ∙ o.on_die;
    done = done;
    alive = target_live o.owner w.before t.was die w.owns t.among (t.on_die ∙ o.on_die) o.alive;
    of_page = w.page_is ∙ o.of_page;
    current = current_back numbers raises old new s act step o.owner o.owned w.before w.owns w.page_is w.version_is o.current;
  }))
  was_done die page o w t (inr marked) = inr (record {
    owner = o.owner;
    owned = w.before;
    target = t.was;
    owns = w.owns;
    among = t.among;
    on_die = t.on_die ∙ o.on_die;
    alive = target_live o.owner w.before t.was die w.owns t.among (t.on_die ∙ o.on_die) o.alive;
    of_page = w.page_is ∙ o.of_page;
    current = current_back numbers raises old new s act step o.owner o.owned w.before w.owns w.page_is w.version_is o.current;
    marked = marked_was act t.was o.target t.on_die t.at_slot marked;
  })
    where
      marked_was : (a : Act) (u v : Target) → u.die.0 ≡ v.die.0 → u.slot.0 ≡ v.slot.0 → IsMarked old a v → IsMarked old a u
      marked_was a u v e g m = at a m
        where
          at : (a : Act) → IsMarked old a v → IsMarked old a u
          at (Done die DidProgram) m = (m.0, m.1, m.2, m.3, e ∙ m.4, g ∙ m.5)
          at a m = absurd m

  done_back : (die page : ℕ) → DoneOn new die page → Trusted old die page ⊎ EndsProgram old act die page
  done_back die page o =
      elim (f.owned o.owner o.owned o.owns) [
        | inr fresh ↦ absurd (false≢true (sym (fresh o.target o.among).0 ∙ o.done))
        | inl w ↦ let t = w.targets o.target o.among in was_done die page o w t (t.done o.done)
      ]

  pub trusted_back : (die page : ℕ) → Trusted new die page → Trusted old die page ⊎ EndsProgram old act die page
  trusted_back die page (inl h) = inl (held_back die page h)
  trusted_back die page (inr o) = done_back die page o

  -- a target that was one before, of the same write
  pub record TargetWas (die slot : ℕ) (b : TargetAt (owned_of new.copying new.claims) die slot) : Type 0 where
    pub a : TargetAt (owned_of old.copying old.claims) die slot
    pub owner_is : a.owner ≡ b.owner
    pub page_is : a.owned.page ≡ b.owned.page
    pub version_is : a.owned.version ≡ b.owned.version

  pub target_was : (die slot : ℕ) (b : TargetAt (owned_of new.copying new.claims) die slot) → TargetWas die slot b ⊎ IsErasedAt old die slot
  target_was die slot b =
      elim (f.owned b.owner b.owned b.owns) [
        | inr fresh ↦ inr (subst (λ (k : ℕ × ℕ). IsErasedAt old k.0 k.1) {x = (b.target.die.0, b.target.slot.0)} {y = (die, slot)}
            (λ i. (b.on_die i, b.at_slot i)) (fresh b.target b.among).1)
        | inl w ↦ let t = w.targets b.target b.among in inl (record {
          a = record {
            owner = b.owner;
            owned = w.before;
            target = t.was;
            owns = w.owns;
            among = t.among;
            on_die = t.on_die ∙ b.on_die;
            at_slot = t.at_slot ∙ b.at_slot;
          };
          owner_is = refl;
          page_is = w.page_is;
          version_is = w.version_is;
        })
      ]
