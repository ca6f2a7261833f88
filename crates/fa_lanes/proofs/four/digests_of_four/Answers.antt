use Rattle.std.proofs.Common.{◌≡◌, ℕ, List, [], ◌∷◌, ◌*◌, ◌/◌, ◌<◌, ◌++◌, length, map, take, drop, slice_index_or, ap, arith, sym, ◌∙◌}
use Rattle.std.proofs.lemmas.List.{ext_get_or, get_or-map, length-map, length-take-le, take_rest, take-append-drop}
use Rattle.std.proofs.lemmas.List.Elements.{All-get_or, All-from_get_or}
use Rattle.std.specs.Borrow.{Bor}
use Rattle.std.specs.List.{All}
use Rattle.sha2.specs.Sha256.{sha256}
use Rattle.fa_lanes.specs.Beginning.{IsBegun}
use Rattle.fa_lanes.specs.Lanes.{message}
use Rattle.fa_lanes.specs.declared.begun.Begun.{Begun}
use Rattle.fa_lanes.proofs.WideLanes.{each_wide_lane}
use Rattle.fa_lanes.proofs.four.digests_of_four.Goals as goal

abbrev none : Bor (List ℕ)
none = record { ref_ptr = (0, 0); now = [] }

-- all messages are as long as the first
lengths : (messages : List (Bor (List ℕ))) (l : ℕ) → (n : ℕ) × All (λ m. length m.now ≡ n) messages → l < length messages → 0 < length messages
    → length (message messages l) ≡ length (message messages 0)
lengths messages l one lt some = All-get_or (λ m. length m.now ≡ one.0) messages l none lt one.1 ∙ sym (All-get_or (λ m. length m.now ≡ one.0) messages 0 none some one.1)

-- the digest of the whole, where its front was begun and its rest is the tail
whole_digest : (m front tail digest : List ℕ) (begun : Begun) (bytes : ℕ) → IsBegun begun front → front ≡ take bytes m → tail ≡ drop bytes m
    → ((payload : List ℕ) → IsBegun begun payload → digest ≡ sha256 (payload ++ tail)) → digest ≡ sha256 m
whole_digest m front tail digest begun bytes is ahead behind made =
    made front is ∙ ap sha256 (ap (λ (f : List ℕ). f ++ tail) ahead ∙ ap (λ (t : List ℕ). take bytes m ++ t) behind ∙ take-append-drop bytes m)

pub begin_four-begun-requires-clause-whole : goal.begin_four-begun-requires-clause-whole
begin_four-begun-requires-clause-whole c =
    let messages = c.args.messages.now in
    let bytes : ℕ = 64 * (c.length_of.result / 64) in
    let first : c.length_of.result ≡ length (message messages 0) = c.length_of.ensures.length in (
      bytes,
      omega arith,
      All-from_get_or (λ front. length front.now ≡ bytes) c.fronts_of_four.result none (λ l lt.
          let in_lanes : l < 4 = omega (arith, lt, c.fronts_of_four.ensures.size) in
          let size = lengths messages l c.requires.one_length (omega (arith, in_lanes, c.requires.four)) (omega (arith, c.requires.four)) in
          ap length (c.fronts_of_four.ensures.fronts l in_lanes) ∙ length-take-le bytes (message messages l) (omega (arith, size, first))),
    )

pub returns : goal.returns
returns c =
    let messages = c.args.messages.now in
    let bytes : ℕ = 64 * (c.length_of.result / 64) in
    let begun = λ (l : ℕ) (lt : l < 4). c.begin_four-begun.ensures.begun l lt in
    let fronts = λ (l : ℕ) (lt : l < 4). c.fronts_of_four.ensures.fronts l lt in
    let same = λ (l : ℕ) (lt : l < 4). sym (get_or-map (λ (m : Bor (List ℕ)). sha256 m.now) messages l none [] (omega (arith, lt, c.requires.four))) in
    let all : (l : ℕ) → l < 4 → slice_index_or (c.finish.result ∷ c.finish-2.result ∷ c.finish-3.result ∷ c.finish-4.result ∷ []) l [] ≡ slice_index_or (map (λ (m : Bor (List ℕ)). sha256 m.now) messages) l [] =
    each_wide_lane _
    (whole_digest (message messages 0) _ _ _ _ bytes (begun 0 (omega arith)) (fronts 0 (omega arith)) (take_rest (message messages 0) bytes) c.finish.ensures ∙ same 0 (omega arith))
    (whole_digest (message messages 1) _ _ _ _ bytes (begun 1 (omega arith)) (fronts 1 (omega arith)) (take_rest (message messages 1) bytes) c.finish-2.ensures ∙ same 1 (omega arith))
    (whole_digest (message messages 2) _ _ _ _ bytes (begun 2 (omega arith)) (fronts 2 (omega arith)) (take_rest (message messages 2) bytes) c.finish-3.ensures ∙ same 2 (omega arith))
    (whole_digest (message messages 3) _ _ _ _ bytes (begun 3 (omega arith)) (fronts 3 (omega arith)) (take_rest (message messages 3) bytes) c.finish-4.ensures ∙ same 3 (omega arith)) in
    ext_get_or [] (c.finish.result ∷ c.finish-2.result ∷ c.finish-3.result ∷ c.finish-4.result ∷ []) (map (λ (m : Bor (List ℕ)). sha256 m.now) messages)
    (sym (length-map messages _ ∙ c.requires.four)) (λ l lt. all l lt)
