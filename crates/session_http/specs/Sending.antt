-- What sending the content of a file leaves.
use Rattle.std.specs.Prelude.{ℕ, ◌≡◌, ◌≢◌, ◌<◌, Bool, List, [], ◌++◌, length, take, IsTrue, Option}
use Rattle.fh_world.specs.Bytes.{Holds}
use Rattle.fh_world.specs.Causes.{Rose}
use Rattle.fh_model.specs.declared.commands.Cmd.{Cmd}
use Rattle.fh_model.specs.declared.files.FileMeta.{FileMeta}
use Rattle.fh_model.specs.declared.pieces.Piece.{Piece}
use Rattle.fh_model.specs.Content.{content_of, size_of}
use Rattle.fh_model.specs.History.{Kept, state_of, with_more}
use Rattle.fh_model.specs.KeptFiles.{IsKept}
use Rattle.fh_model.specs.State.{State}
use Rattle.host_seat.specs.Port.{KeepsPieces, OfBoth}
use Rattle.session_http.specs.Ends.{IsPart}
use Rattle.session_http.specs.declared.conn.ConnEnd.{ConnEnd}
use Rattle.session_http.specs.declared.conn.ConnEnd.TheVariants.{Ended, Cut, Bad, ReadFault, WriteFault, DiskFault, NoMemory, Spent}

-- the version with this rev is kept, and it has so many blocks
pub record IsVersion (s : State) (meta : FileMeta) (rev count : ℕ) : Type 0 where
  pub kept : IsKept s meta
  pub rev_is : rev ≡ meta.rev
  pub count_is : count ≡ length meta.pieces

-- a version with this rev is kept, and it has a block with this number
pub record HasBlock (s : State) (rev block : ℕ) : Type 0 where
  pub meta : FileMeta
  pub kept : IsKept s meta
  pub rev_is : rev ≡ meta.rev
  pub within : block < length meta.pieces

-- Others may have entered, and these pieces were fetched. Where the port is alone and tells its block file they have the
-- bytes that stood there.
pub record Fetches (alone : Bool) (old new : Kept) (before after : Option (List ℕ)) (pieces : List Piece) (sent : List ℕ) : Type 0 where
  pub others : List Cmd
  pub long : length sent ≡ size_of pieces
  pub grown : new ≡ with_more old others
  pub mine : IsTrue alone → others ≡ []
  pub shown : IsTrue alone → OfBoth (λ blocks _. sent ≡ content_of blocks pieces) before after
  pub below : IsTrue alone → KeepsPieces (state_of old) before after

-- a text and then the content of these pieces were written
pub record SendsOn {K : Type 0} (alone : Bool) (old new : Kept) (before after : Option (List ℕ)) (held : K → Option (List ℕ)) (sink sink_now : K)
    (text : List ℕ) (pieces : List Piece) : Type 0 where
  pub sent : List ℕ
  pub fetches : Fetches alone old new before after pieces sent
  pub wrote : Holds held sink sink_now (text ++ sent)

-- why a content may be broken off
abbrev pub IsCause : ConnEnd → ℕ → ℕ → ℕ → ℕ → Type 0
IsCause WriteFault port_old port_new sink_old sink_new = Rose sink_old sink_new
IsCause DiskFault port_old port_new sink_old sink_new = Rose port_old port_new
IsCause NoMemory port_old port_new sink_old sink_new = Unit {0}
IsCause Ended port_old port_new sink_old sink_new = ⊥
IsCause Cut port_old port_new sink_old sink_new = ⊥
IsCause Bad port_old port_new sink_old sink_new = ⊥
IsCause ReadFault port_old port_new sink_old sink_new = ⊥
IsCause Spent port_old port_new sink_old sink_new = ⊥

-- The first pieces were fetched, so many of them, and some of the text and their content was written. These are not all,
-- unless it was the sink that failed.
pub record BreaksOff {K : Type 0} (end : ConnEnd) (alone : Bool) (old new : Kept) (before after : Option (List ℕ)) (held : K → Option (List ℕ)) (sink sink_now : K)
    (text : List ℕ) (pieces : List Piece) : Type 0 where
  pub count : ℕ
  pub sent : List ℕ
  pub part : List ℕ
  pub fetches : Fetches alone old new before after (take count pieces) sent
  pub fewer : end ≢ WriteFault → count < length pieces
  pub some : IsPart (text ++ sent) part
  pub wrote : Holds held sink sink_now part
