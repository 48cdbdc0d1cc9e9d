-- What the adapters have counted, and the last second of a clock.
use Rattle.std.specs.Prelude.{ℕ}
use Rattle.fh_world.specs.declared.clock.RealClock.{RealClock}
use Rattle.fh_world.specs.declared.file_disk.FileDisk.{FileDisk}
use Rattle.fh_world.specs.declared.std_ends.StdSink.{StdSink}
use Rattle.fh_world.specs.declared.std_ends.StdSource.{StdSource}

abbrev pub disk_faults : FileDisk → ℕ
disk_faults d = d.faults

abbrev pub source_faults : {R : Type 0} → StdSource R → ℕ
source_faults s = s.faults

abbrev pub sink_faults : {W : Type 0} → StdSink W → ℕ
sink_faults k = k.faults

abbrev pub last_of : {R : Type 0} → RealClock R → ℕ
last_of c = c.last
