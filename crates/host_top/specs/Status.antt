-- The statuses of the program: their lines, and the ends of a connection and the refusals of a store that they tell.
use Rattle.std.specs.Prelude.{ℕ, codes, List, [], ◌++◌}
use Rattle.std.specs.Fmt.{decimal}
use Rattle.session_http.specs.declared.conn.ConnEnd.{ConnEnd}
use Rattle.session_http.specs.declared.conn.ConnEnd.TheVariants as end
use Rattle.store_core.specs.declared.faults.StoreFault.{StoreFault}
use Rattle.store_core.specs.declared.faults.StoreFault.TheVariants as fault
use Rattle.host_top.specs.declared.status.Status.{Status}
use Rattle.host_top.specs.declared.status.Status.TheVariants.{Done, Usage, NotAStore, Damaged, DiskFault, NoMemory, ReadFault, WriteFault, Cut, Bad, Spent}

abbrev pub line_of : Status → List ℕ
line_of Done = []
line_of Usage = codes "filehost: usage"
line_of (NotAStore place) = codes "filehost: not a store at byte " ++ decimal place
line_of (Damaged place) = codes "filehost: damaged at byte " ++ decimal place
line_of DiskFault = codes "filehost: disk fault"
line_of NoMemory = codes "filehost: out of memory"
line_of ReadFault = codes "filehost: read fault"
line_of WriteFault = codes "filehost: write fault"
line_of Cut = codes "filehost: input cut"
line_of Bad = codes "filehost: bad request"
line_of Spent = codes "filehost: too many requests"

-- the program's exit codes
abbrev pub code_of : Status → ℕ
code_of Done = 0
code_of Usage = 2
code_of (NotAStore place) = 3
code_of (Damaged place) = 3
code_of DiskFault = 4
code_of NoMemory = 5
code_of ReadFault = 6
code_of WriteFault = 7
code_of Cut = 8
code_of Bad = 9
code_of Spent = 10

abbrev pub status_of : ConnEnd → Status
status_of end.Ended = Done
status_of end.Cut = Cut
status_of end.Bad = Bad
status_of end.ReadFault = ReadFault
status_of end.WriteFault = WriteFault
status_of end.DiskFault = DiskFault
status_of end.NoMemory = NoMemory
status_of end.Spent = Spent

abbrev pub refusal_of : StoreFault → Status
refusal_of fault.Disk = DiskFault
refusal_of (fault.NotAStore place) = NotAStore place
refusal_of (fault.Damaged place) = Damaged place
refusal_of fault.NoMemory = NoMemory
