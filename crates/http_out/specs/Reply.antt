-- The text of a reply: a status line, header lines, an empty line and the body.
use Rattle.std.specs.Prelude.{ℕ, ◌≡◌, ◌==◌, ◌||◌, codes, decimal, Bool, true, if◌then◌else◌, List, [], ◌++◌, length, unwrap_or}
use Rattle.http.specs.StatusCode.{reason_phrase}
use Rattle.http_out.specs.declared.replying.BodyKind.{BodyKind}
use Rattle.http_out.specs.declared.replying.BodyKind.TheVariants.{Json, Plain}

abbrev pub is_reply_status : ℕ → Bool
is_reply_status n = n == 200 || (n == 400 || (n == 401 || (n == 404 || (n == 405 || (n == 409 || (n == 413 || (n == 431
    || (n == 500 || n == 503))))))))

abbrev pub IsReplyStatus : ℕ → Type 0
IsReplyStatus n = is_reply_status n ≡ true

abbrev pub type_of : BodyKind → List ℕ
type_of Json = codes "application/json"
type_of Plain = codes "text/plain; charset=utf-8"

-- a header line
unfoldable pub line : List ℕ → List ℕ → List ℕ
line name value = name ++ (codes ": " ++ (value ++ codes "\r\n"))

unfoldable pub status_line : ℕ → List ℕ
status_line status = codes "HTTP/1.1 " ++ (decimal status ++ (codes " " ++ (unwrap_or (reason_phrase status) [] ++ codes "\r\n")))

-- the type and size of the body
unfoldable pub body_lines : List ℕ → ℕ → List ℕ
body_lines kind size = line (codes "Content-Type") kind ++ line (codes "Content-Length") (decimal size)

unfoldable pub start_text : ℕ → List ℕ → ℕ → List ℕ
start_text status kind size = status_line status ++ body_lines kind size

unfoldable pub close_line : Bool → List ℕ
close_line close = if close then line (codes "Connection") (codes "close") else []

-- whether the connection ends, and an empty line
unfoldable pub end_text : Bool → List ℕ
end_text close = close_line close ++ codes "\r\n"

abbrev pub reply_text : ℕ → BodyKind → List ℕ → Bool → List ℕ
reply_text status kind body close = start_text status (type_of kind) (length body) ++ (end_text close ++ body)

-- a download's head goes on with the file's metadata
unfoldable pub download_end : List ℕ → Bool → List ℕ
download_end metadata close = line (codes "Dropbox-API-Result") metadata ++ end_text close

-- the reply to a download, up to its body
abbrev pub download_head_text : List ℕ → ℕ → Bool → List ℕ
download_head_text metadata size close = start_text 200 (codes "application/octet-stream") size ++ download_end metadata close
