use Rattle.std.proofs.Common.{◌≡◌, is_some, true, false, [], ◌∷◌, ◌++◌, length, subst, sym, ap, ◌∙◌, rules, arith}
use Rattle.fa_batch.specs.Index.{pages_of, AreRising}
use Rattle.fa_batch.proofs.Held.{index-batch}
use Rattle.fa_batch_terms.proofs.Parts.{nothing}
use Rattle.fa_batch.proofs.Pushed.{entries_pushed, new_pushed, old_pushed, rising_pushed, taken_back}
use Rattle.fa_batch.proofs.batch.Batch.push.Goals as goal

pub invariant_of-self-then-rises : goal.invariant_of-self-then-rises
invariant_of-self-then-rises g c =
    let all : c.self.inside.rising ≡ length c.self.inside.entries.items = (c.rises.ensures.0 c.if-rises.true).0 ∙ ap (λ v. length v) c.deref.ensures.value in
    let rise : AreRising (pages_of c.self.inside.entries.items ++ c.args.page.0 ∷ []) =
    subst (λ v. AreRising (pages_of v ++ c.args.page.0 ∷ [])) c.deref.ensures.value (c.rises.ensures.0 c.if-rises.true).1 in
    rising_pushed c.self.inside.entries.items c.append.new.entries.items c.self.inside.holders.items c.append.new.all.items c.args.holders.now c.args.page
    c.self.inside.rising c.self.inside.first c.self.invariant c.in_ok-append.ensures.entries c.in_ok-append.ensures.holders all rise

pub returns-then-rises-clause-ok : goal.returns-then-rises-clause-ok
returns-then-rises-clause-ok g c =
    entries_pushed c.self.inside.entries.items c.append.new.entries.items c.self.inside.holders.items c.append.new.all.items c.args.holders.now c.args.page
    c.self.inside.rising c.self.inside.first c.self.invariant c.in_ok-append.ensures.entries c.in_ok-append.ensures.holders c.args.self.now c.self.view_is

pub invariant_of-self-in_default : goal.invariant_of-self-in_default
invariant_of-self-in_default g c =
    let absent : is_some c.first_index.result ≡ false = search rules in
    let none = index-batch c.args.self.now c.self.inside.entries.items c.self.inside.holders.items c.args.page.0 c.self.view_is ∙ sym c.first_index.ensures ∙ nothing c.first_index.result absent in
    new_pushed c.self.inside.entries.items c.append-2.new.entries.items c.self.inside.holders.items c.append-2.new.all.items c.args.holders.now c.args.page
    c.self.inside.rising c.self.inside.first c.self.invariant c.in_ok-append-2.ensures.entries c.in_ok-append-2.ensures.holders
    c.len-index.result c.insert.new.self (omega arith) none c.in_default.ensures.updates.0

pub invariant_of-self-else-is_new : goal.invariant_of-self-else-is_new
invariant_of-self-else-is_new g c =
    let present : is_some c.first_index.result ≡ true = search rules in
    let there = index-batch c.args.self.now c.self.inside.entries.items c.self.inside.holders.items c.args.page.0 c.self.view_is ∙ sym c.first_index.ensures in
    old_pushed c.self.inside.entries.items c.append-2.new.entries.items c.self.inside.holders.items c.append-2.new.all.items c.args.holders.now c.args.page
    c.self.inside.rising c.self.inside.first c.self.invariant c.in_ok-append-2.ensures.entries c.in_ok-append-2.ensures.holders
    (ap (λ o. is_some o) there ∙ present)

pub invariant_of-self-in-Err : goal.invariant_of-self-in-Err
invariant_of-self-in-Err g c =
    taken_back c.self.inside.entries.items c.append-2.new.entries.items c.self.inside.holders.items c.append-2.new.all.items c.args.holders.now c.args.page
    c.self.inside.rising c.self.inside.first c.self.invariant c.in_ok-append-2.ensures.entries c.in_ok-append-2.ensures.holders
    c.truncate.new.self.items c.truncate-in-Err.new.self.items c.len-index.result c.len-count.result c.insert.new.self (omega arith) (omega arith)
    c.truncate.ensures.items c.truncate-in-Err.ensures.items c.in-Err.ensures.err

pub returns-in_default-clause-ok : goal.returns-in_default-clause-ok
returns-in_default-clause-ok g c =
    entries_pushed c.self.inside.entries.items c.append-2.new.entries.items c.self.inside.holders.items c.append-2.new.all.items c.args.holders.now c.args.page
    c.self.inside.rising c.self.inside.first c.self.invariant c.in_ok-append-2.ensures.entries c.in_ok-append-2.ensures.holders c.args.self.now c.self.view_is

pub returns-else-is_new-clause-ok : goal.returns-else-is_new-clause-ok
returns-else-is_new-clause-ok g c =
    entries_pushed c.self.inside.entries.items c.append-2.new.entries.items c.self.inside.holders.items c.append-2.new.all.items c.args.holders.now c.args.page
    c.self.inside.rising c.self.inside.first c.self.invariant c.in_ok-append-2.ensures.entries c.in_ok-append-2.ensures.holders c.args.self.now c.self.view_is
