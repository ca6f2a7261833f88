-- What a request comes to.
use Rattle.std.specs.Prelude.{ℕ, ◌+◌, ◌-◌, ◌*◌, ◌/◌, Bool, true, false, nat_le, if◌then◌else◌, Option, Some, None}
use Rattle.fa_shared_steps.specs.declared.range.Range.{Range}
use Rattle.fa_shared_steps.specs.declared.request.Fill.{Fill}
use Rattle.fa_shared_steps.specs.declared.request.Fill.TheVariants.{Bytes, Zeros, Holes}
use Rattle.fa_shared_steps.specs.declared.request.Request.{Request}
use Rattle.fa_shared_steps.specs.declared.request.Request.TheVariants.{Read, Write, Zero, Trim, Flush}
use Rattle.fa_shared_steps.specs.declared.request.Task.{Task}
use Rattle.fa_types.specs.Store.{whole_offset}

-- the offset of the first byte of a request's range
abbrev pub begin_of : Request → ℕ
begin_of (Read offset len) = offset
begin_of (Write offset len fua) = offset
begin_of (Zero offset len fua hole) = offset
begin_of (Trim offset len fua) = offset
begin_of Flush = 0

-- the offset behind the last byte of a request's range
abbrev pub end_of : Request → ℕ
end_of (Read offset len) = offset + len
end_of (Write offset len fua) = offset + len
end_of (Zero offset len fua hole) = offset + len
end_of (Trim offset len fua) = offset + len
end_of Flush = 0

abbrev pub bytes_from : ℕ → ℕ → ℕ → Range
bytes_from page_bytes offset len = record { page_bytes = page_bytes; from = offset; to = offset + len }

-- the bytes of the pages that lie wholly in the range, or none
abbrev pub whole_range : ℕ → ℕ → ℕ → Range
whole_range page_bytes offset len =
    let past = (offset + len) / page_bytes * page_bytes in
    record { page_bytes = page_bytes; from = (if nat_le (whole_offset page_bytes offset) past then whole_offset page_bytes offset else past); to = past }

abbrev pub zeros_as : Bool → Fill
zeros_as hole = if hole then Holes else Zeros

abbrev pub task_of : ℕ → Request → Task
task_of page_bytes (Read offset len) = record { range = bytes_from page_bytes offset len; fill = None; flush = false }
task_of page_bytes (Write offset len fua) = record { range = bytes_from page_bytes offset len; fill = Some Bytes; flush = fua }
task_of page_bytes (Zero offset len fua hole) = record { range = bytes_from page_bytes offset len; fill = Some (zeros_as hole); flush = fua }
task_of page_bytes (Trim offset len fua) = record { range = whole_range page_bytes offset len; fill = Some Holes; flush = fua }
task_of page_bytes Flush = record { range = bytes_from page_bytes 0 0; fill = None; flush = true }

-- the same on the bytes from one offset to before another, without a flush
abbrev pub within : Request → ℕ → ℕ → Request
within (Read offset len) from to = Read from (to - from)
within (Write offset len fua) from to = Write from (to - from) false
within (Zero offset len fua hole) from to = Zero from (to - from) false hole
within (Trim offset len fua) from to = Trim from (to - from) false
within Flush from to = Flush

-- how many bytes a task answers: a read those of its range, anything else none
abbrev pub answered_by : Option Fill → Range → ℕ
answered_by None r = r.to - r.from
answered_by (Some fill) r = 0

abbrev pub answered : Task → ℕ
answered t = answered_by t.fill t.range
