use Rattle.std.proofs.Common.{◌≡◌, ℕ, zero, suc, ◌+◌, ◌*◌, ◌<◌, List, [], ◌∷◌, ◌++◌, length, drop, sym, ap, ◌∙◌, arith, append_assoc, add_assoc}
use Rattle.std.specs.List.{concat}
use Rattle.std.proofs.Math.Nat.{suc-mul}
use Rattle.std.proofs.Math.Seq.{take-append-add, drop-append-add, drop-append_seam}
use Rattle.fa_types.specs.Plain.{put, export, HasPages}
use Rattle.fa_types.specs.Store.{with_bytes}
use Rattle.fa_types.proofs.laws.put_writes_one_page.Goals as goal

-- bytes behind a first part are written behind it
with_bytes-behind : (front : List ℕ) (offset : ℕ) (bytes rest : List ℕ) → with_bytes (length front + offset) bytes (front ++ rest) ≡ front ++ with_bytes offset bytes rest
with_bytes-behind front offset bytes rest =
    rw (take-append-add front rest offset, add_assoc (length front) offset (length bytes), drop-append-add front rest (offset + length bytes))
    (simp append_assoc)

-- bytes as long as the first part take its place
with_bytes-front : (front bytes rest : List ℕ) → length bytes ≡ length front → with_bytes 0 bytes (front ++ rest) ≡ bytes ++ rest
with_bytes-front front bytes rest same =
    ap (λ n. bytes ++ drop n (front ++ rest)) (let e : 0 + length bytes ≡ length front = omega arith in e) ∙ ap (λ end. bytes ++ end) (drop-append_seam front rest)

-- by the page's place in the list
put_export : (page_bytes p : ℕ) (x : List ℕ) (pages : List (List ℕ)) → HasPages page_bytes pages → p < length pages → length x ≡ page_bytes → export (put p x pages) ≡ with_bytes (p * page_bytes) x (export pages)
put_export page_bytes p x [] has below size = absurd (omega arith)
put_export page_bytes zero x (page ∷ pages) has below size =
    sym (ap (λ n. with_bytes n x (page ++ concat pages)) (let e : 0 * page_bytes ≡ 0 = omega arith in e) ∙ with_bytes-front page x (concat pages) (size ∙ sym has.0))
put_export page_bytes (suc p) x (page ∷ pages) has below size =
    let rest = put_export page_bytes p x pages has.1 (omega arith) size in
    let offset : suc p * page_bytes ≡ length page + p * page_bytes = suc-mul p page_bytes ∙ omega (arith, has.0) in
    ap (λ bytes. page ++ bytes) rest
    ∙ sym (with_bytes-behind page (p * page_bytes) x (concat pages))
    ∙ sym (ap (λ n. with_bytes n x (page ++ concat pages)) offset)

pub returns : goal.returns
returns c = put_export
