-- Calls of an image that were accepted, one after the other.
use Rattle.std.proofs.Common.{◌≡◌, ◌++◌, Bool, true, false, List, [], ◌∷◌, refl, sym, subst}
use Rattle.std.specs.List.{AllByRecursion}
use Rattle.fa_image.specs.Image.{ImageCall, Syncing, ImageAnswer, Done}
use Rattle.fa_mount.specs.Closing.{AreAccepted, IsOut, Took}
use Rattle.fa_mount.specs.Turns.{IsCalled}

all_of_both : (kind : ImageCall → Type 0) (calls others : List ImageCall) → AllByRecursion kind calls → AllByRecursion kind others
    → AllByRecursion kind (calls ++ others)
all_of_both kind [] others first second = second
all_of_both kind (call ∷ calls) others first second = (first.0, all_of_both kind calls others first.1 second)

all_weaker : (kind other : ImageCall → Type 0) → ((call : ImageCall) → kind call → other call) → (calls : List ImageCall)
    → AllByRecursion kind calls → AllByRecursion other calls
all_weaker kind other less [] all = tt
all_weaker kind other less (call ∷ calls) all = (less call all.0, all_weaker kind other less calls all.1)

module _ {I : Type 0} (made : I → ImageCall → ImageAnswer → I → Type 0) where
  pub accepted_both : (calls others : List ImageCall) (x y z : I) → AreAccepted made calls x y → AreAccepted made others y z
      → AreAccepted made (calls ++ others) x z
  accepted_both [] others x y z first second = subst (λ w. AreAccepted made others w z) first second
  accepted_both (call ∷ calls) others x y z first second =
      (first.0, first.1, accepted_both calls others first.0 y z first.2 second)

  pub took_none : (kind : ImageCall → Type 0) (x : I) → Took made kind x x
  took_none kind x = ([], tt, refl)

  pub took_one : (kind : ImageCall → Type 0) (call : ImageCall) (x y : I) → kind call → made x call Done y → Took made kind x y
  took_one kind call x y is link = (call ∷ [], (is, tt), (y, link, refl))

  pub took_both : (kind : ImageCall → Type 0) (x y z : I) → Took made kind x y → Took made kind y z → Took made kind x z
  took_both kind x y z first second =
      (first.0 ++ second.0, all_of_both kind first.0 second.0 first.1 second.1, accepted_both first.0 second.0 x y z first.2 second.2)

  pub took_weaker : (kind other : ImageCall → Type 0) → ((call : ImageCall) → kind call → other call) → (x y : I)
      → Took made kind x y → Took made other x y
  took_weaker kind other less x y took = (took.0, all_weaker kind other less took.0 took.1, took.2)

  pub out_weaker : (kind other : ImageCall → Type 0) → ((call : ImageCall) → kind call → other call) → (x y : I)
      → IsOut made kind x y → IsOut made other x y
  out_weaker kind other less x y out = record {
    start = out.start;
    earlier = took_weaker kind other less x out.start out.earlier;
    call = out.call;
    is_kind = less out.call out.is_kind;
    fault = out.fault;
    refused = out.refused;
  }

  pub took_then_out : (kind : ImageCall → Type 0) (x y z : I) → Took made kind x y → IsOut made kind y z → IsOut made kind x z
  took_then_out kind x y z took out = record {
    start = out.start;
    earlier = took_both kind x y out.start took out.earlier;
    call = out.call;
    is_kind = out.is_kind;
    fault = out.fault;
    refused = out.refused;
  }

  pub called_weaker : (kind other : ImageCall → Type 0) → ((call : ImageCall) → kind call → other call) → (k : Bool) (x y : I)
      → IsCalled made kind k x y → IsCalled made other k x y
  called_weaker kind other less true x y called = took_weaker kind other less x y called
  called_weaker kind other less false x y called = called

  -- a kind of calls that syncs are of
  module _ (kind : ImageCall → Type 0) (syncs : (call : ImageCall) → call ≡ Syncing → kind call) where
    only_syncs : (x y : I) → Took made (λ call. call ≡ Syncing) x y → Took made kind x y
    only_syncs x y took = took_weaker (λ call. call ≡ Syncing) kind syncs x y took

    pub called_same : (k : Bool) (x : I) → IsCalled made kind k x x
    called_same true x = took_none kind x
    called_same false x = took_none (λ call. call ≡ Syncing) x

    pub called_synced : (k : Bool) (x y : I) → made x Syncing Done y → IsCalled made kind k x y
    called_synced true x y link = took_one kind Syncing x y (syncs Syncing refl) link
    called_synced false x y link = took_one (λ call. call ≡ Syncing) Syncing x y refl link

    pub called_took : (k : Bool) (x y : I) → IsCalled made kind k x y → Took made kind x y
    called_took true x y called = called
    called_took false x y called = only_syncs x y called

    -- a die that is not marked was not marked before
    pub called_both : (was is : Bool) (x y z : I) → (was ≡ true → is ≡ true) → IsCalled made kind was x y → IsCalled made kind is y z
        → IsCalled made kind is x z
    called_both was true x y z marks first second = took_both kind x y z (called_took was x y first) second
    called_both false false x y z marks first second = took_both (λ call. call ≡ Syncing) x y z first second
    called_both true false x y z marks first second =
        let both : false ≡ true = marks refl in
        subst (λ k. IsCalled made kind k x z) (sym both) (took_both kind x y z first (only_syncs y z second))
