use Rattle.std.proofs.Common.{◌≡◌, ℕ, ◌-◌, List, length, take, drop, refl, sym, ap, ◌∙◌, arith}
use Rattle.std.proofs.lemmas.List.{take_all, length-drop}
use Rattle.byteorder.specs.Endian.{big_number}
use Rattle.byteorder.specs.Numbers.{big_from-lt}
use Rattle.fa_types.proofs.BigEndian.{AreBytes, AreBytes-drop}
use Rattle.fa_nego_head.proofs.HeadBytes.{head_from_bytes}
use Rattle.fa_nego_head.proofs.option.head_of.Goals as goal
use Rattle.fa_nego_head.proofs.option.head_of.Goals.{After-read_u32-len}

-- the number that is read from a place on
read_from : (bytes : List ℕ) (n place : ℕ) → n ≡ big_number 4 (take (length bytes - place) (drop place bytes)) → n ≡ big_number 4 (drop place bytes)
read_from bytes n place is =
    is ∙ ap (big_number 4) (take_all (length bytes - place) (drop place bytes) (omega (arith, length-drop place bytes)))

pub returns-then-len-gt-MAX_DATA_BYTES : goal.returns-then-len-gt-MAX_DATA_BYTES
returns-then-len-gt-MAX_DATA_BYTES c =
    let head = c.args.head.now in
    let fits : AreBytes head = λ i. omega (arith, c.type_inv.head i) in
    let option = big_number 4 (drop 8 head) in (
      option,
      c.read_u32-len.result,
      big_from-lt 0 4 (drop 8 head) (AreBytes-drop 8 head fits),
      c.if-len-gt-MAX_DATA_BYTES.true,
      c.read_u32-len.type_inv,
      head_from_bytes head option c.read_u32-len.result c.requires fits (sym c.read_u64.ensures ∙ c.if-read_u64-ne-OPTION_MAGIC.false) refl
          (read_from head c.read_u32-len.result 12 c.read_u32-len.ensures),
    )

pub returns : goal.returns
returns c = (
  omega arith,
  omega arith,
  head_from_bytes c.args.head.now c.read_u32-option.result c.read_u32-len.result c.requires (λ i. omega (arith, c.type_inv.head i)) (sym c.read_u64.ensures ∙ c.if-read_u64-ne-OPTION_MAGIC.false)
      (read_from c.args.head.now c.read_u32-option.result 8 c.read_u32-option.ensures)
      (read_from c.args.head.now c.read_u32-len.result 12 c.read_u32-len.ensures),
)
