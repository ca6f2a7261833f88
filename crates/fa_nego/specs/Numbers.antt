-- The numbers of the handshake. NBD protocol text, "Values": "Option types", "Option reply types" and
-- "Information types"; "Flag fields".
use Rattle.std.specs.Prelude.{ℕ}

-- the client's flag by which it declines the zeros behind the answer to EXPORT_NAME
abbrev pub flag_no_zeroes : ℕ
flag_no_zeroes = 2

-- options

abbrev pub opt_export_name : ℕ
opt_export_name = 1

abbrev pub opt_abort : ℕ
opt_abort = 2

abbrev pub opt_list : ℕ
opt_list = 3

abbrev pub opt_info : ℕ
opt_info = 6

abbrev pub opt_go : ℕ
opt_go = 7

-- types of replies to options

abbrev pub rep_ack : ℕ
rep_ack = 1

abbrev pub rep_server : ℕ
rep_server = 2

abbrev pub rep_info : ℕ
rep_info = 3

abbrev pub rep_err_unsup : ℕ
rep_err_unsup = 0x80000001

abbrev pub rep_err_invalid : ℕ
rep_err_invalid = 0x80000003

abbrev pub rep_err_unknown : ℕ
rep_err_unknown = 0x80000006

-- kinds of information

abbrev pub info_export : ℕ
info_export = 0

abbrev pub info_name : ℕ
info_name = 1

abbrev pub info_block_size : ℕ
info_block_size = 3
