-- What holds of headers holds over every run, and says what they tell behind a cut.
use Rattle.fa_crash.proofs.Flushed.{trusted_live}
use Rattle.fa_crash.proofs.HeaderCalls.{call_headers}
use Rattle.fa_crash.proofs.HeaderEvents.{event_headers}
use Rattle.fa_crash.proofs.HeadersFit.{HeadersFit, IsAround, IsHead, IsNamed}
use Rattle.fa_crash.proofs.Kept.{IsKept}
use Rattle.fa_crash.proofs.Laws.{Laws}
use Rattle.fa_crash.proofs.Outlasting.{no_cell}
use Rattle.fa_crash.proofs.Runs.{beginning_kept, happens_kept, run_whole_keeps}
use Rattle.fa_crash.proofs.Trusted.{Trusted}
use Rattle.fa_crash.specs.Cut.{IsCut}
use Rattle.fa_crash.specs.Flushed.{is_of_array}
use Rattle.fa_crash.specs.Headers.{AreFirstHeaders, AreMountedAgain, AreToldAlike, IsNewest, NameOurs, names, tells}
use Rattle.fa_crash.specs.Unsynced.{Unsynced, nothing_unsynced, unsynced_behind}
use Rattle.fa_crash.specs.Whole.{IsWhole, RunWhole}
use Rattle.fa_laws.proofs.Staying.{copy_from_holds}
use Rattle.fa_machine.specs.Beginning.{IsBeginning}
use Rattle.fa_machine.specs.Cells.{Cell}
use Rattle.fa_machine.specs.Copies.{holds_page}
use Rattle.fa_machine.specs.Run.{Event, Happening, Happens, ImageCall}
use Rattle.fa_machine.specs.State.{Core, is_live}
use Rattle.fa_machine.specs.World.{HeaderTells, World}
use Rattle.fa_sound.specs.Sound.{IsSound}
use Rattle.std.proofs.Common.{List, None, Option, Some, ap, arith, false, inl, inr, refl, subst, sym, true, ℕ, ◌∙◌, ◌≡◌, ◌≤◌, ◌⊎◌}
use Rattle.std.proofs.lemmas.Bool.{cases_Bool, false≢true}
use Rattle.std.proofs.lemmas.Option.{none-some, same_Some}
use Rattle.std.specs.FinMap.{contains_key}
use Rattle.std.specs.Prelude.{unwrap_or, ◌||◌}

pub record HeadersKept (first w : World) (u : Unsynced) : Type 0 where
  pub kept : IsKept w u
  pub headers : HeadersFit first w u

happens_headers : Laws → (first w : World) (u : Unsynced) (happening : Happening) (after : World) → HeadersKept first w u
    → Happens w happening after → IsWhole w happening after
    → HeadersKept first after (unsynced_behind w happening u)
happens_headers laws first w u (Event act) after h happens whole = record {
  kept = happens_kept laws w u (Event act) after h.kept happens whole;
  headers = event_headers laws first w u h.kept h.headers act after happens;
}
happens_headers laws first w u (ImageCall die gave) after h happens whole = record {
  kept = happens_kept laws w u (ImageCall die gave) after h.kept happens whole;
  headers = call_headers first w u h.kept h.headers die gave after happens whole;
}

module _ (laws : Laws) (begins_sound : (w : World) → IsBeginning w → IsSound w.core) (first : World) (told : ℕ → HeaderTells) (b : IsBeginning first) (t : AreFirstHeaders first told) where
  k : IsKept first (nothing_unsynced first)
  k = beginning_kept begins_sound first b

  none_around : (h : HeaderTells) → IsAround first (nothing_unsynced first) h → ⊥
  none_around h (inl head) = at head.1
    where
      at : IsHead first (nothing_unsynced first) head.0 (Some h) → ⊥
      at (inl is) = none-some h (sym (is ∙ t.unwritten head.0))
      at (inr among) = among
  none_around h (inr writing) = none-some writing.work (sym (b.idle writing.die) ∙ writing.is)

  first_headers : HeadersFit first first (nothing_unsynced first)
  first_headers = record {
    grown = omega arith;
    from = λ h around. absurd (none_around h around);
    below = λ h around. absurd (none_around h around);
    now = λ h around is. absurd (none_around h around);
    alike = λ h l at_h at_l same. absurd (none_around h at_h);
    kept = λ h around die alive ours. absurd (none_around h around);
    unused = λ h around die spare. absurd (none_around h around);
    spares = λ die spare. k.sound.dies.apart die spare;
    there = λ die alive. ap (λ b. b || contains_key first.core.spares die) alive;
    unused_yet = λ die spare. spare;
    ours = λ h around die named. absurd (none_around h around);
    rising = λ h l at_h at_l less die alive named. absurd (none_around h at_h);
    between = λ h l t at_h at_l at_t less more die a z. absurd (none_around h at_h);
    until = λ l t at_l at_t less die ours named. absurd (none_around l at_l);
    own = λ die h head. absurd (none_around h (inl (die, head)));
    writing = λ die epoch live work e flight. absurd (none-some work (sym (b.idle die) ∙ e));
    written = λ die epoch live work e flight gave. absurd (none-some work (sym (b.idle die) ∙ e));
    fresh = λ die alive fresh. absurd (false≢true (sym fresh ∙ ap (λ (c : Core). contains_key c.behind die) b.fresh ∙ alive));
    busy = λ die o. absurd (none-some o.work (sym (b.idle die) ∙ o.is));
    trusted = λ die page out trusted. absurd (false≢true (sym out ∙ trusted_live first.core k.sound die page trusted));
    unchanged = λ die none slot. (refl, refl);
  }

  module _ (happenings : List Happening) (w : World) (u : Unsynced) (run : RunWhole first (nothing_unsynced first) happenings w u)
      (cells : ℕ → ℕ → Cell) (heads : ℕ → Option HeaderTells) (cut : IsCut w u cells heads) where
    all : HeadersKept first w u
    all = run_whole_keeps (HeadersKept first) (happens_headers laws first) first (nothing_unsynced first) happenings w u (record { kept = k; headers = first_headers }) run

    head_left : (die : ℕ) (x : Option HeaderTells) → heads die ≡ x → IsHead w u die x
    head_left die x e = subst (IsHead w u die) e (cut.headers die)

    tells_some : (die : ℕ) (h : HeaderTells) → heads die ≡ Some h → tells told heads die ≡ h
    tells_some die h e = ap (λ (o : Option HeaderTells). unwrap_or o (told die)) e

    tells_none : (die : ℕ) → heads die ≡ None → tells told heads die ≡ told die
    tells_none die e = ap (λ (o : Option HeaderTells). unwrap_or o (told die)) e

    pub names_holder : (page die other : ℕ) → holds_page w.core.page_map page die ≡ true
        → (tells told heads die).epoch ≤ (tells told heads other).epoch
        → names (tells told heads other).live die ≡ true
    names_holder page die other holds less = at (heads die) refl (heads other) refl (cases_Bool (is_live first.core.page_map die))
      where
        f : HeadersFit first w u
        f = all.headers

        held : Trusted w.core die page
        held = let c = copy_from_holds w.core page die holds in inl (record { slot = c.slot; tag = c.tag_page; version = c.tag_version; held = c.held; page_is = c.page_is })

        alive : is_live w.core.page_map die ≡ true
        alive = trusted_live w.core all.kept.sound die page held

        named : is_live first.core.page_map die ≡ false → IsNamed w u die
        named out = f.trusted die page out held

        at : (x : Option HeaderTells) → heads die ≡ x → (y : Option HeaderTells) → heads other ≡ y
            → (is_live first.core.page_map die ≡ true) ⊎ (is_live first.core.page_map die ≡ false)
            → names (tells told heads other).live die ≡ true
        at x e (Some l) g (inl ours) =
            ap (λ (h : HeaderTells). names h.live die) (tells_some other l g)
            ∙ f.kept l (inl (other, head_left other (Some l) g)) die alive ours
        at None e (Some l) g (inr out) = let n = named out None (head_left die None e) in absurd (none-some n.0 n.1)
        at (Some h) e (Some l) g (inr out) =
            let n = named out (Some h) (head_left die (Some h) e) in
            let is : h ≡ n.0 = same_Some h n.0 n.1 in
            let order : h.epoch ≤ l.epoch = subst (λ (p : HeaderTells × HeaderTells). p.0.epoch ≤ p.1.epoch)
            {x = (tells told heads die, tells told heads other)} {y = (h, l)} (λ i. (tells_some die h e i, tells_some other l g i)) less in
            ap (λ (h : HeaderTells). names h.live die) (tells_some other l g)
            ∙ f.rising h l (inl (die, head_left die (Some h) e)) (inl (other, head_left other (Some l) g)) order die alive (ap (λ (h : HeaderTells). names h.live die) is ∙ n.2)
        at None e None g (inl ours) =
            let order : (told die).epoch ≤ (told other).epoch = subst (λ (p : HeaderTells × HeaderTells). p.0.epoch ≤ p.1.epoch)
            {x = (tells told heads die, tells told heads other)} {y = (told die, told other)} (λ i. (tells_none die e i, tells_none other g i)) less in
            ap (λ (h : HeaderTells). names h.live die) (tells_none other g) ∙ t.named die other ours order
        at None e None g (inr out) = let n = named out None (head_left die None e) in absurd (none-some n.0 n.1)
        at (Some h) e None g live =
            let order : h.epoch ≤ (told other).epoch = subst (λ (p : HeaderTells × HeaderTells). p.0.epoch ≤ p.1.epoch)
            {x = (tells told heads die, tells told heads other)} {y = (h, told other)} (λ i. (tells_some die h e i, tells_none other g i)) less in
            let low = f.from h (inl (die, head_left die (Some h) e)) in
            let old = t.older other in
            absurd (omega (arith, order, low, old))

    -- a die that holds a page and whose header no job wrote was live as the array was mounted
    pub mounted_live : (page die : ℕ) → holds_page w.core.page_map page die ≡ true → heads die ≡ None
        → is_live first.core.page_map die ≡ true
    mounted_live page die holds none =
        elim (cases_Bool (is_live first.core.page_map die)) [
          | inl ours ↦ ours
          | inr out ↦
              let c = copy_from_holds w.core page die holds in
              let n = all.headers.trusted die page out (inl (record { slot = c.slot; tag = c.tag_page; version = c.tag_version; held = c.held; page_is = c.page_is }))
              None (head_left die None none) in
              absurd (none-some n.0 n.1)
        ]

    -- headers that jobs wrote in one epoch name the same dies, and each epoch is not below that of the array as it was mounted
    pub written_alike : (die other : ℕ) (h l : HeaderTells) → heads die ≡ Some h → heads other ≡ Some l → h.epoch ≡ l.epoch
        → h.live ≡ l.live
    written_alike die other h l e g same = all.headers.alike h l (inl (die, head_left die (Some h) e)) (inl (other, head_left other (Some l) g)) same

    pub written_later : (die : ℕ) (h : HeaderTells) → heads die ≡ Some h → first.core.epoch ≤ h.epoch
    written_later die h e = all.headers.from h (inl (die, head_left die (Some h) e))

    -- a die whose header no job wrote has what it had as it was mounted
    pub as_mounted : (die slot : ℕ) → heads die ≡ None → cells die slot ≡ (first.images die).seen slot
    as_mounted die slot none =
        let same = all.headers.unchanged die (head_left die None none) slot in
        no_cell ((w.images die).seen slot) (u.since die slot) (cells die slot) same.1 (cut.slots die slot) ∙ same.0

    -- a header that no job wrote is older than each that one wrote
    told_older : (die other : ℕ) (h : HeaderTells) → heads die ≡ None → heads other ≡ Some h
        → (tells told heads other).epoch ≤ (tells told heads die).epoch → ⊥
    told_older die other h e g less =
        let order : h.epoch ≤ (told die).epoch = subst (λ (p : HeaderTells × HeaderTells). p.0.epoch ≤ p.1.epoch)
        {x = (tells told heads other, tells told heads die)} {y = (h, told die)} (λ i. (tells_some other h g i, tells_none die e i)) less in
        let low = written_later other h g in
        let old = t.older die in
        absurd (omega (arith, order, low, old))

    -- headers that a cut leaves are such as the next life begins with
    pub left_again : (next : World) → AreMountedAgain first next told heads → AreFirstHeaders next (tells told heads)
    left_again next m = record { unwritten = m.unwritten; older = m.older; named = named }
      where
        f : HeadersFit first w u
        f = all.headers

        order_of : (die other : ℕ) (h l : HeaderTells) → heads die ≡ Some h → heads other ≡ Some l
            → (tells told heads die).epoch ≤ (tells told heads other).epoch
            → h.epoch ≤ l.epoch
        order_of die other h l e g less = subst (λ (p : HeaderTells × HeaderTells). p.0.epoch ≤ p.1.epoch)
            {x = (tells told heads die, tells told heads other)} {y = (h, l)} (λ i. (tells_some die h e i, tells_some other l g i)) less

        named : (die other : ℕ) → is_live next.core.page_map die ≡ true → (tells told heads die).epoch ≤ (tells told heads other).epoch
            → names (tells told heads other).live die ≡ true
        named die other alive less = at (heads die) refl (heads other) refl (heads m.top) refl
          where
            at : (x : Option HeaderTells) → heads die ≡ x → (y : Option HeaderTells) → heads other ≡ y → (z : Option HeaderTells)
                → heads m.top ≡ z
                → names (tells told heads other).live die ≡ true
            at x e (Some l) g None q = absurd (told_older m.top other l q g (m.greatest other))
            at (Some h) e (Some l) g (Some z) q =
                ap (λ (h : HeaderTells). names h.live die) (tells_some other l g)
                ∙ f.between h l z (inl (die, head_left die (Some h) e)) (inl (other, head_left other (Some l) g)) (inl (m.top, head_left m.top (Some z) q))
                (order_of die other h l e g less) (order_of other m.top l z g q (m.greatest other)) die
                (f.own die h (head_left die (Some h) e))
                (ap (λ (h : HeaderTells). names h.live die) (sym (tells_some m.top z q)) ∙ m.ours die alive)
            at None e (Some l) g (Some z) q =
                ap (λ (h : HeaderTells). names h.live die) (tells_some other l g)
                ∙ f.until l z (inl (other, head_left other (Some l) g)) (inl (m.top, head_left m.top (Some z) q))
                (order_of other m.top l z g q (m.greatest other)) die (m.unheard die alive e)
                (ap (λ (h : HeaderTells). names h.live die) (sym (tells_some m.top z q)) ∙ m.ours die alive)
            at (Some h) e None g z q = absurd (told_older other die h g e less)
            at None e None g z q =
                let order : (told die).epoch ≤ (told other).epoch = subst (λ (p : HeaderTells × HeaderTells). p.0.epoch ≤ p.1.epoch)
                {x = (tells told heads die, tells told heads other)} {y = (told die, told other)} (λ i. (tells_none die e i, tells_none other g i)) less in
                ap (λ (h : HeaderTells). names h.live die) (tells_none other g) ∙ t.named die other (m.unheard die alive e) order

    -- headers that a cut leaves tell alike of one epoch
    pub told_alike : AreToldAlike told → AreToldAlike (tells told heads)
    told_alike before die other same = at (heads die) refl (heads other) refl
      where
        at : (x : Option HeaderTells) → heads die ≡ x → (y : Option HeaderTells) → heads other ≡ y
            → (tells told heads die).live ≡ (tells told heads other).live
        at (Some h) e (Some l) g =
            ap (λ (t : HeaderTells). t.live) (tells_some die h e)
            ∙ written_alike die other h l e g (ap (λ (t : HeaderTells). t.epoch) (sym (tells_some die h e)) ∙ same ∙ ap (λ (t : HeaderTells). t.epoch) (tells_some other l g))
            ∙ ap (λ (t : HeaderTells). t.live) (sym (tells_some other l g))
        at (Some h) e None g = absurd (told_older other die h g e (omega (arith, same)))
        at None e (Some l) g = absurd (told_older die other l e g (omega (arith, same)))
        at None e None g =
            ap (λ (t : HeaderTells). t.live) (tells_none die e)
            ∙ before die other (ap (λ (t : HeaderTells). t.epoch) (sym (tells_none die e)) ∙ same ∙ ap (λ (t : HeaderTells). t.epoch) (tells_none other g))
            ∙ ap (λ (t : HeaderTells). t.live) (sym (tells_none other g))

    -- the newest headers that a cut leaves name dies of the array
    pub newest_ours : NameOurs first told → (top die : ℕ) → IsNewest (tells told heads) top → names (tells told heads top).live die ≡ true
        → is_of_array first die ≡ true
    newest_ours before top die newest named = at (heads top) refl
      where
        old_newest : heads top ≡ None → (other : ℕ) → (o : Option HeaderTells) → heads other ≡ o → (told other).epoch ≤ (told top).epoch
        old_newest e other (Some l) g = absurd (told_older top other l e g (newest other))
        old_newest e other None g = subst (λ (p : HeaderTells × HeaderTells). p.0.epoch ≤ p.1.epoch)
            {x = (tells told heads other, tells told heads top)} {y = (told other, told top)} (λ i. (tells_none other g i, tells_none top e i)) (newest other)

        at : (x : Option HeaderTells) → heads top ≡ x → is_of_array first die ≡ true
        at (Some h) e = all.headers.ours h (inl (top, head_left top (Some h) e)) die
            (ap (λ (h : HeaderTells). names h.live die) (sym (tells_some top h e)) ∙ named)
        at None e = before top die (λ other. old_newest e other (heads other) refl)
            (ap (λ (h : HeaderTells). names h.live die) (sym (tells_none top e)) ∙ named)

    -- and so it is of the next life, where the dies that they name are of its array
    pub newest_again : AreToldAlike told → (next : World) (m : AreMountedAgain first next told heads)
        → ((die : ℕ) → names (tells told heads m.top).live die ≡ true → is_of_array next die ≡ true) → NameOurs next (tells told heads)
    newest_again before next m there top die newest named =
        let low = newest m.top in
        let high = m.greatest top in
        there die (ap (λ live. names live die) (told_alike before m.top top (omega (arith, low, high))) ∙ named)

    -- a die that is live is one of the array
    pub live_ours : (die : ℕ) → is_live w.core.page_map die ≡ true → is_of_array first die ≡ true
    live_ours die alive = all.headers.there die alive

    -- a die that holds a page is live
    pub holder_live : (page die : ℕ) → holds_page w.core.page_map page die ≡ true → is_live w.core.page_map die ≡ true
    holder_live page die holds =
        let c = copy_from_holds w.core page die holds in
        trusted_live w.core all.kept.sound die page
        (inl (record { slot = c.slot; tag = c.tag_page; version = c.tag_version; held = c.held; page_is = c.page_is }))
