-- What stands in a connection, for clauses.
use Rattle.std.specs.Prelude.{◌≡◌, []}
use Rattle.http_in.specs.declared.place.State.TheVariants.{Between}
use Rattle.session_http.specs.declared.conn.Conn.{Conn}

abbrev pub source_of : {S K : Type 0} → Conn S K → S
source_of conn = conn.source

abbrev pub sink_of : {S K : Type 0} → Conn S K → K
sink_of conn = conn.sink

-- no byte was read on it yet, and so no request was answered
pub record IsNew {S K : Type 0} (conn : Conn S K) : Type 0 where
  pub unread : conn.reader.held ≡ []
  pub between : conn.reader.state ≡ Between
  pub none : conn.answered ≡ 0
