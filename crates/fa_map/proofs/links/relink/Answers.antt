use Rattle.std.proofs.Common.{◌≡◌, List, ap, length, set, sym, subst, ◌∙◌}
use Rattle.std.proofs.lemmas.List.{get_or-set_same, get_or-set_other, length-set}
use Rattle.fa_map.specs.Chains.{IsSecond, link_at, no_second, second_at, target}
use Rattle.fa_map.specs.Entries.{with_head, with_link}
use Rattle.fa_map_calls.specs.Plain.{die_slots}
use Rattle.fa_map.specs.declared.entries.Link.{Link}
use Rattle.fa_map.specs.declared.entries.Second.{Second}
use Rattle.fa_map.proofs.Renewed.{second_chosen}
use Rattle.fa_map.proofs.Seconds.{inside_with}
use Rattle.fa_map.proofs.links.relink.Goals as goal

pub returns-clause-inside : goal.returns-clause-inside
returns-clause-inside g c =
    inside_with c.args.geometry.dies (die_slots c.args.geometry) (target c.args.last) c.args.link c.args.slots.now.links _
    (c.link_behind.ensures.links ∙ ap (with_link (target c.args.last) (die_slots c.args.geometry) c.args.link) c.write_links.ensures.links)
    c.requires.linked c.requires.last c.requires.inside c.requires.link

pub returns-clause-seconds : goal.returns-clause-seconds
returns-clause-seconds g c =
    let n = die_slots c.args.geometry in
    let page = c.args.page in
    let old = c.args.pages.now.seconds in
    let heads = c.args.pages.now.heads in
    let links = c.args.slots.now.links in
    let last = target c.args.last in
    let second = c.second_after-second.result in
    let put : c.set_second.new.self.seconds ≡ set old page second =
    c.set_second.ensures.seconds ∙ ap (λ (l : List Second). set l page second) c.link_behind.ensures.seconds in
    record {
      long = ap (λ (l : List Second). length l) put ∙ length-set old page second;
      here =
          subst (λ (l : List Link). IsSecond c.link_behind.new.slots.links n (link_at l page) (second_at c.set_second.new.self.seconds page))
          (sym (c.set_second.ensures.heads ∙ c.link_behind.ensures.heads))
          (subst (λ (l : List Link). IsSecond l n (link_at (with_head last page c.args.link heads) page) (second_at c.set_second.new.self.seconds page))
          (sym (c.link_behind.ensures.links ∙ ap (with_link last n c.args.link) c.write_links.ensures.links))
          (subst (IsSecond (with_link last n c.args.link links) n (link_at (with_head last page c.args.link heads) page))
          (sym (ap (λ (l : List Second). second_at l page) put ∙ get_or-set_same old page second no_second c.requires.second))
          (second_chosen c.args.geometry.dies n page links heads c.args.link c.args.following c.args.is_followed (second_at old page) second
          c.requires.head c.requires.linked c.requires.first c.requires.inside c.requires.kept last c.requires.last c.requires.following c.requires.followed
          (record {
            first = c.second_after-second.ensures.first;
            second = c.second_after-second.ensures.second;
            third = c.second_after-second.ensures.third;
            further = c.second_after-second.ensures.further;
          }))));
      others = λ p apart. ap (λ (l : List Second). second_at l p) put ∙ get_or-set_other old page p second no_second apart;
    }
