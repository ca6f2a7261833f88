use Rattle.std.proofs.Common.{◌≡◌, ◌++◌, take, drop, ℕ, length, List, arith, sym, ap, ◌∙◌}
use Rattle.std.proofs.lemmas.List.{take_all}
use Rattle.std.proofs.Math.Seq.{take-add}
use Rattle.byteorder.specs.Endian.{big_bytes, big_number}
use Rattle.fa_types.proofs.BigEndian.{AreBytes, big_bytes-read}
use Rattle.fa_cmds.specs.Requests.{request_bytes, command_number}
use Rattle.fa_cmds.specs.declared.request.Request.{Request}
use Rattle.fa_cmds.proofs.request.read_request.Goals as goal

-- 28 bytes are their six parts
parts : (xs : List ℕ) → length xs ≡ 28 → xs ≡ take 4 xs ++ take 2 (drop 4 xs) ++ take 2 (drop 6 xs) ++ take 8 (drop 8 xs) ++ take 8 (drop 16 xs) ++ take 4 (drop 24 xs)
parts xs long =
    sym (take_all 28 xs (omega arith))
    ∙ take-add 24 4 xs
    ∙ ap (λ front. front ++ take 4 (drop 24 xs)) (take-add 16 8 xs
    ∙ ap (λ front. front ++ take 8 (drop 16 xs)) (take-add 8 8 xs
    ∙ ap (λ front. front ++ take 8 (drop 8 xs)) (take-add 6 2 xs
    ∙ ap (λ front. front ++ take 2 (drop 6 xs)) (take-add 4 2 xs))))

-- parts that are equal one by one
joined : (a b c d e f a' b' c' d' e' f' : List ℕ) → a' ≡ a → b' ≡ b → c' ≡ c → d' ≡ d → e' ≡ e → f' ≡ f → a ++ b ++ c ++ d ++ e ++ f ≡ a' ++ b' ++ c' ++ d' ++ e' ++ f'
joined a b c d e f a' b' c' d' e' f' p q r s t u = cc

-- the fields read at their places spell the bytes
spelled : (xs : List ℕ) (r : Request) → length xs ≡ 28 → AreBytes xs
    → 0x25609513 ≡ big_number 4 (take 4 (drop 0 xs))
    → r.flags ≡ big_number 2 (take 2 (drop 4 xs)) → command_number r.command ≡ big_number 2 (take 2 (drop 6 xs))
    → r.cookie ≡ big_number 8 (take 8 (drop 8 xs)) → r.offset ≡ big_number 8 (take 8 (drop 16 xs)) → r.length ≡ big_number 4 (take 4 (drop 24 xs))
    → xs ≡ request_bytes r
unfolding request_bytes
spelled xs r long bytes magic flags command cookie offset len =
    parts xs long
    ∙ joined (take 4 xs) (take 2 (drop 4 xs)) (take 2 (drop 6 xs)) (take 8 (drop 8 xs)) (take 8 (drop 16 xs)) (take 4 (drop 24 xs))
    (big_bytes 4 0x25609513) (big_bytes 2 r.flags) (big_bytes 2 (command_number r.command)) (big_bytes 8 r.cookie) (big_bytes 8 r.offset) (big_bytes 4 r.length)
    (big_bytes-read 0 4 0x25609513 xs bytes (omega arith) magic)
    (big_bytes-read 4 2 r.flags xs bytes (omega arith) flags)
    (big_bytes-read 6 2 (command_number r.command) xs bytes (omega arith) command)
    (big_bytes-read 8 8 r.cookie xs bytes (omega arith) cookie)
    (big_bytes-read 16 8 r.offset xs bytes (omega arith) offset)
    (big_bytes-read 24 4 r.length xs bytes (omega arith) len)

pub returns-clause-spelled : goal.returns-clause-spelled
returns-clause-spelled c =
    spelled c.args.bytes.now _ c.told-bytes c.fits-bytes
    (sym c.if-read_u32-ne-REQUEST_MAGIC.false ∙ c.read_u32.ensures)
    c.read_u16.ensures (c.command_of.ensures.number ∙ c.read_u16-2.ensures)
    c.read_u64.ensures c.read_u64-2.ensures c.read_u32-2.ensures
