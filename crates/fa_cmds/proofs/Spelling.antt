-- The bytes of a request and of a reply: how many they are, and that they spell one request and one reply
-- alone.
use Rattle.std.proofs.Common.{◌≡◌, ℕ, ◌^◌, ◌<◌, List, [], ◌++◌, length, take, refl, sym, ap, ◌∙◌, arith}
use Rattle.byteorder.specs.Endian.{big_bytes, big_number}
use Rattle.byteorder.specs.Numbers.{big_number-reads_back}
use Rattle.fa_types.proofs.BigEndian.{append-parts}
use Rattle.fa_cmds.specs.Requests.{request_bytes, reply_bytes, command_number, code_number, IsNamed, IsRequest}
use Rattle.fa_cmds.specs.declared.request.Request.{Request}
use Rattle.fa_cmds.specs.declared.request.Command.{Command}
use Rattle.fa_cmds.specs.declared.request.Command.TheVariants.{Read, Write, Disconnect, Flush, Trim, WriteZeroes, Other}
use Rattle.fa_cmds.specs.declared.reply.ReplyCode.{ReplyCode}
use Rattle.fa_cmds.specs.declared.reply.ReplyCode.TheVariants.{Success, Io, NoMemory, Invalid, NoSpace}

-- a number that fits its bytes is known from them
big_bytes-one : (n x y : ℕ) → x < 256 ^ n → y < 256 ^ n → big_bytes n x ≡ big_bytes n y → x ≡ y
big_bytes-one n x y x_fits y_fits same =
    sym (big_number-reads_back n x [] x_fits)
    ∙ ap (λ bytes. big_number n (bytes ++ [])) same
    ∙ big_number-reads_back n y [] y_fits

-- parts that end in a number each
numbers-behind : (n x y : ℕ) (front back : List ℕ) → x < 256 ^ n → y < 256 ^ n → length front ≡ length back → front ++ big_bytes n x ≡ back ++ big_bytes n y → (front ≡ back) × (x ≡ y)
numbers-behind n x y front back x_fits y_fits long same =
    let parts = append-parts front (big_bytes n x) back (big_bytes n y) long same in
    (parts.0, big_bytes-one n x y x_fits y_fits parts.1)

-- commands under their own names have different numbers
one_command : (a b : Command) → IsNamed a → IsNamed b → command_number a ≡ command_number b → a ≡ b
one_command Read Read a_named b_named same = refl
one_command Write Write a_named b_named same = refl
one_command Disconnect Disconnect a_named b_named same = refl
one_command Flush Flush a_named b_named same = refl
one_command Trim Trim a_named b_named same = refl
one_command WriteZeroes WriteZeroes a_named b_named same = refl
one_command (Other a) (Other b) a_named b_named same = ap Other same
one_command a b a_named b_named same = absurd (omega arith)

-- the codes have different numbers
one_code : (a b : ReplyCode) → code_number a ≡ code_number b → a ≡ b
one_code Success Success same = refl
one_code Io Io same = refl
one_code NoMemory NoMemory same = refl
one_code Invalid Invalid same = refl
one_code NoSpace NoSpace same = refl
one_code a b same = absurd (omega arith)

-- a code's number fits four bytes
code_number-fits : (code : ReplyCode) → code_number code < 256 ^ 4
code_number-fits Success = omega arith
code_number-fits Io = omega arith
code_number-fits NoMemory = omega arith
code_number-fits Invalid = omega arith
code_number-fits NoSpace = omega arith

-- the request of these fields
abbrev request_of : ℕ → Command → ℕ → ℕ → ℕ → Request
request_of flags command cookie offset len = record {
  flags = flags;
  command = command;
  cookie = cookie;
  offset = offset;
  length = len;
}

-- requests are equal field by field
same_request : (r s : Request) → r.flags ≡ s.flags → r.command ≡ s.command → r.cookie ≡ s.cookie → r.offset ≡ s.offset → r.length ≡ s.length → r ≡ s
same_request r s flags command cookie offset len =
    let same : request_of r.flags r.command r.cookie r.offset r.length ≡ request_of s.flags s.command s.cookie s.offset s.length = cc in
    same

-- a request has 28 bytes
pub length-request_bytes : (r : Request) → length (request_bytes r) ≡ 28
unfolding request_bytes
length-request_bytes r = refl

-- a request begins with its magic
pub take-request_bytes : (r : Request) → take 4 (request_bytes r) ≡ big_bytes 4 0x25609513
unfolding request_bytes
take-request_bytes r = refl

-- a reply has 16 bytes
pub length-reply_bytes : (code : ReplyCode) (cookie : ℕ) → length (reply_bytes code cookie) ≡ 16
unfolding reply_bytes
length-reply_bytes code cookie = refl

-- the bytes of a request before its command, its cookie, its offset and its length
abbrev before_command : Request → List ℕ
before_command r = big_bytes 4 0x25609513 ++ big_bytes 2 r.flags

abbrev before_cookie : Request → List ℕ
before_cookie r = before_command r ++ big_bytes 2 (command_number r.command)

abbrev before_offset : Request → List ℕ
before_offset r = before_cookie r ++ big_bytes 8 r.cookie

abbrev before_length : Request → List ℕ
before_length r = before_offset r ++ big_bytes 8 r.offset

-- 28 bytes are those of one request alone
pub one_request : (r s : Request) → IsRequest r → IsRequest s → request_bytes r ≡ request_bytes s → r ≡ s
unfolding request_bytes
one_request r s r_is s_is same =
    let len = numbers-behind 4 r.length s.length (before_length r) (before_length s) r_is.len s_is.len refl same in
    let offset = numbers-behind 8 r.offset s.offset (before_offset r) (before_offset s) r_is.offset s_is.offset refl len.0 in
    let cookie = numbers-behind 8 r.cookie s.cookie (before_cookie r) (before_cookie s) r_is.cookie s_is.cookie refl offset.0 in
    let command = numbers-behind 2 (command_number r.command) (command_number s.command) (before_command r) (before_command s) r_is.number s_is.number refl cookie.0 in
    let flags = numbers-behind 2 r.flags s.flags (big_bytes 4 0x25609513) (big_bytes 4 0x25609513) r_is.flags s_is.flags refl command.0 in
    same_request r s flags.1 (one_command r.command s.command r_is.named s_is.named command.1) cookie.1 offset.1 len.1

-- the bytes of a reply before its cookie
abbrev head_of : ReplyCode → List ℕ
head_of code = big_bytes 4 0x67446698 ++ big_bytes 4 (code_number code)

-- 16 bytes are those of one reply alone
pub one_reply : (a b : ReplyCode) (x y : ℕ) → x < 2 ^ 64 → y < 2 ^ 64 → reply_bytes a x ≡ reply_bytes b y → (a ≡ b) × (x ≡ y)
unfolding reply_bytes
one_reply a b x y x_fits y_fits same =
    let cookie = numbers-behind 8 x y (head_of a) (head_of b) x_fits y_fits refl same in
    let code = numbers-behind 4 (code_number a) (code_number b) (big_bytes 4 0x67446698) (big_bytes 4 0x67446698) (code_number-fits a) (code_number-fits b) refl cookie.0 in
    (one_code a b code.1, cookie.1)

-- a request at the front of bytes, and what follows it, are known from them
pub one_request-ahead : (r s : Request) (xs ys : List ℕ) → IsRequest r → IsRequest s → request_bytes r ++ xs ≡ request_bytes s ++ ys → (r ≡ s) × (xs ≡ ys)
one_request-ahead r s xs ys r_is s_is same =
    let parts = append-parts (request_bytes r) xs (request_bytes s) ys (length-request_bytes r ∙ sym (length-request_bytes s)) same in
    (one_request r s r_is s_is parts.0, parts.1)

-- a reply at the front of bytes, and what follows it, are known from them
pub one_reply-ahead : (a b : ReplyCode) (x y : ℕ) (xs ys : List ℕ) → x < 2 ^ 64 → y < 2 ^ 64 → reply_bytes a x ++ xs ≡ reply_bytes b y ++ ys → (a ≡ b) × (x ≡ y) × (xs ≡ ys)
one_reply-ahead a b x y xs ys x_fits y_fits same =
    let parts = append-parts (reply_bytes a x) xs (reply_bytes b y) ys (length-reply_bytes a x ∙ sym (length-reply_bytes b y)) same in
    let reply = one_reply a b x y x_fits y_fits parts.0 in
    (reply.0, reply.1, parts.1)
