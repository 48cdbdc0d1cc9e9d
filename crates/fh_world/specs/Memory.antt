-- What the forms in memory show of their private fields.
use Rattle.std.specs.Prelude.{ℕ, ◌+◌, List, take, drop, reverse}
use Rattle.fh_world.specs.declared.disk.Disk as disk
use Rattle.fh_world.specs.declared.disk.FileNo.{FileNo}
use Rattle.fh_world.specs.declared.fuse.FuseDisk.{FuseDisk}
use Rattle.fh_world.specs.declared.mem_disk.MemDisk.{MemDisk}
use Rattle.fh_world.specs.declared.mem_sink.MemSink.{MemSink}
use Rattle.fh_world.specs.declared.mem_source.MemSource.{MemSource}
use Rattle.fh_world.specs.Disk.{Files}
use Rattle.fh_world.specs.Replay.{content, MayLeave}

-- the bytes that a source has given, those that it has left, how many it gives in one call at most, and the numbers
-- of the calls that are to fail
abbrev pub source_given : MemSource → List ℕ
source_given s = take s.at s.bytes.items

abbrev pub source_left : MemSource → List ℕ
source_left s = drop s.at s.bytes.items

abbrev pub source_piece : MemSource → ℕ
source_piece s = s.piece

abbrev pub source_failing : MemSource → List ℕ
source_failing s = s.calls.failing.items

-- the bytes that a sink holds, and the numbers of the calls that are to fail
abbrev pub sink_bytes : MemSink → List ℕ
sink_bytes k = k.bytes.items

abbrev pub sink_failing : MemSink → List ℕ
sink_failing k = k.calls.failing.items

-- what a read of a disk gives, what a crash may leave of it, and the numbers of the calls that are to fail
abbrev pub memory_seen : MemDisk → Files
memory_seen m = content m.files

abbrev pub memory_may_leave : MemDisk → FileNo → List ℕ → Type 0
memory_may_leave m = MayLeave (reverse m.steps.items)

abbrev pub memory_failing : MemDisk → List ℕ
memory_failing m = m.calls.failing.items

-- the disk that a fuse passes calls on to, how many it still passes on, and how often it has failed
abbrev pub inner_of : {D : Type 0} → FuseDisk D → D
inner_of f = f.inner

abbrev pub calls_left_of : {D : Type 0} → FuseDisk D → ℕ
calls_left_of f = f.calls_left

abbrev pub fuse_faults : {D : Type 0} → disk.Ghosts D → FuseDisk D → ℕ
fuse_faults d f = d.faults f.inner + f.refused
