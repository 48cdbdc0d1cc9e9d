-- What the head of a request says of its sender and of the connection.
use Rattle.std.specs.Prelude.{ℕ, ◌==◌, ◌&&◌, ◌||◌, codes, Bool, false, List, Option, None, Some, option_and_then}
use Rattle.httparse.specs.Grammar.{RequestHead}
use Rattle.http_in.specs.declared.head.Length.{Length}
use Rattle.http_in.specs.Fields.{field_of}
use Rattle.http_in.specs.Framing.{framing_of}
use Rattle.http_in.specs.Parts.{awaits, limit_of, says, token_of}

-- the token that it carries
abbrev pub token_in : RequestHead → Option (List ℕ)
token_in h = option_and_then token_of (field_of (codes "authorization") h)

-- the argument that it carries
abbrev pub arg_in : RequestHead → Option (List ℕ)
arg_in h = field_of (codes "dropbox-api-arg") h

-- the connection ends with its reply
abbrev pub asks_last : RequestHead → Bool
asks_last h = (h.minor == 0) || says (codes "close") (field_of (codes "connection") h)

-- the sender holds the body back, and one of this framing is to come
abbrev pub holds_back : RequestHead → Length → Bool
holds_back h framing = (h.minor == 1) && says (codes "100-continue") (field_of (codes "expect") h) && awaits (limit_of h.target) framing

abbrev pub waits_by : RequestHead → Option Length → Bool
waits_by h None = false
waits_by h (Some framing) = holds_back h framing

-- the sender waits for `100 Continue` before it sends the body
abbrev pub waits : RequestHead → Bool
waits h = waits_by h (framing_of h)
