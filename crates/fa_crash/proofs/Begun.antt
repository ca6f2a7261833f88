-- Where among some happenings a flush was begun, and where it was answered as synced.
use Rattle.fa_machine.specs.Run.{Event, Happening}
use Rattle.fa_machine.specs.Step.{Act, FlushBegin, FlushState}
use Rattle.fa_machine.specs.declared.answers.Flush.{Flush}
use Rattle.fa_machine.specs.declared.answers.FlushState.TheVariants.{Synced}
use Rattle.std.proofs.Common.{List, [], ap, ◌++◌, ◌∙◌, ◌∷◌, ◌≡◌, sym}
use Rattle.std.proofs.lemmas.List.{append_assoc}
use Rattle.std.specs.List.{AllByRecursion}
use Rattle.std.specs.Prelude.{Ok}

module _ (Q : Happening → Type 0) where
  -- The flush was begun, and each happening behind that is one of these.
  pub record IsBegun (flush : Flush) (happenings : List Happening) : Type 0 where
    pub front : List Happening
    pub back : List Happening
    pub all : happenings ≡ front ++ Event (FlushBegin (Ok flush)) ∷ back
    pub back_are : AllByRecursion Q back

  -- It was answered as synced too.
  pub record IsSynced (happenings : List Happening) : Type 0 where
    pub flush : Flush
    pub front : List Happening
    pub during : List Happening
    pub behind : List Happening
    pub all : happenings ≡ front ++ (Event (FlushBegin (Ok flush)) ∷ during ++ Event (FlushState flush Synced) ∷ behind)
    pub during_are : AllByRecursion Q during
    pub behind_are : AllByRecursion Q behind

  pub both_are : (one two : List Happening) → AllByRecursion Q one → AllByRecursion Q two → AllByRecursion Q (one ++ two)
  both_are [] two none more = more
  both_are (happening ∷ one) two first more = (first.0, both_are one two first.1 more)

  -- from its beginning on
  pub since_are : (happenings : List Happening) → (s : IsSynced happenings) → Q (Event (FlushBegin (Ok s.flush)))
      → Q (Event (FlushState s.flush Synced))
      → AllByRecursion Q (Event (FlushBegin (Ok s.flush)) ∷ s.during ++ Event (FlushState s.flush Synced) ∷ s.behind)
  since_are happenings s begins answers =
      (begins, both_are s.during (Event (FlushState s.flush Synced) ∷ s.behind) s.during_are (answers, s.behind_are))

  pub begun_now : (flush : Flush) (happenings : List Happening) (act : Act) → act ≡ FlushBegin (Ok flush)
      → IsBegun flush (happenings ++ Event act ∷ [])
  begun_now flush happenings act is = record {
    front = happenings;
    back = [];
    all = ap (λ (a : Act). happenings ++ Event a ∷ []) is;
    back_are = tt;
  }

  pub begun_on : (flush : Flush) (happenings : List Happening) (next : Happening) → IsBegun flush happenings → Q next
      → IsBegun flush (happenings ++ next ∷ [])
  begun_on flush happenings next b is = record {
    front = b.front;
    back = b.back ++ next ∷ [];
    all = ap (λ (l : List Happening). l ++ next ∷ []) b.all
        ∙ append_assoc b.front (Event (FlushBegin (Ok flush)) ∷ b.back) (next ∷ []);
    back_are = both_are b.back (next ∷ []) b.back_are (is, tt);
  }

  pub synced_now : (flush : Flush) (happenings : List Happening) (act : Act) → act ≡ FlushState flush Synced → IsBegun flush happenings
      → IsSynced (happenings ++ Event act ∷ [])
  synced_now flush happenings act is b = record {
    flush = flush;
    front = b.front;
    during = b.back;
    behind = [];
    all = ap (λ (l : List Happening). l ++ Event act ∷ []) b.all
        ∙ append_assoc b.front (Event (FlushBegin (Ok flush)) ∷ b.back) (Event act ∷ [])
        ∙ ap (λ (a : Act). b.front ++ (Event (FlushBegin (Ok flush)) ∷ b.back ++ Event a ∷ [])) is;
    during_are = b.back_are;
    behind_are = tt;
  }

  -- More may happen before it and behind it.
  pub synced_between : (one happenings two : List Happening) → IsSynced happenings → AllByRecursion Q two
      → IsSynced (one ++ (happenings ++ two))
  synced_between one happenings two s are =
      let answered : List Happening = Event (FlushState s.flush Synced) ∷ s.behind in
      let begun : List Happening = Event (FlushBegin (Ok s.flush)) ∷ s.during ++ answered in
      record {
        flush = s.flush;
        front = one ++ s.front;
        during = s.during;
        behind = s.behind ++ two;
        all = ap (λ (l : List Happening). one ++ (l ++ two)) s.all
            ∙ ap (λ (l : List Happening). one ++ l) (append_assoc s.front begun two)
            ∙ ap (λ (l : List Happening). one ++ (s.front ++ Event (FlushBegin (Ok s.flush)) ∷ l)) (append_assoc s.during answered two)
            ∙ sym (append_assoc one s.front (Event (FlushBegin (Ok s.flush)) ∷ s.during ++ (answered ++ two)));
        during_are = s.during_are;
        behind_are = both_are s.behind two s.behind_are are;
      }
