-- What the server says to an option, part by part.
use Rattle.std.proofs.Common.{◌≡◌, ℕ, List, [], ◌++◌, length, refl, sym, ap, ◌∙◌, append_assoc}
use Rattle.byteorder.specs.Endian.{big_bytes}
use Rattle.fa_nego.specs.Numbers.{rep_ack, rep_info, info_export, info_name, info_block_size}
use Rattle.fa_nego.specs.Negotiation.{reply_head_bytes, option_reply, transmission_flags, export_info, name_info, block_size_info, told_if_asked, told}

-- the head of a reply, and its data
reply_is : (option type : ℕ) (given : List ℕ) → option_reply option type given ≡ reply_head_bytes option type (length given) ++ given
unfolding option_reply
reply_is option type given = refl

four_parts : (a b c d : List ℕ) → ((a ++ b) ++ c) ++ d ≡ a ++ (b ++ (c ++ d))
four_parts a b c d = simp append_assoc

-- a head and two parts of data, said in turn, are a reply
pub is_reply : (said head front back : List ℕ) (option type len : ℕ) → head ≡ reply_head_bytes option type len → len ≡ length (front ++ back)
    → ((said ++ head) ++ front) ++ back ≡ said ++ option_reply option type (front ++ back)
is_reply said head front back option type len is_head is_len =
    let whole : head ≡ reply_head_bytes option type (length (front ++ back)) = is_head ∙ ap (reply_head_bytes option type) is_len in
    four_parts said head front back ∙ ap (λ bytes. said ++ (bytes ++ (front ++ back))) whole ∙ ap (λ bytes. said ++ bytes) (sym (reply_is option type (front ++ back)))

-- what is told of an export, kind by kind
pub told_is : (export : List ℕ) (size option : ℕ) (kinds : List ℕ) → told export size option kinds
    ≡ option_reply option rep_info (big_bytes 2 info_export ++ (big_bytes 8 size ++ big_bytes 2 transmission_flags))
    ++ told_if_asked option info_name (big_bytes 2 info_name ++ export) kinds
    ++ told_if_asked option info_block_size (big_bytes 2 info_block_size ++ (big_bytes 4 1 ++ big_bytes 4 4096 ++ big_bytes 4 33554432)) kinds
    ++ option_reply option rep_ack []
unfolding told export_info name_info block_size_info
told_is export size option kinds = refl
