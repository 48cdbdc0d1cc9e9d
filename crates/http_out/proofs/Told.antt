-- The constant replies, as they are computed.
use Rattle.std.proofs.Common.{◌≡◌, true, false, codes, refl}
use Rattle.std.specs.Fmt.{digits}
use Rattle.http_out.specs.Reply.{body_lines, close_line, end_text, line, reply_text, start_text, status_line}
use Rattle.http_out.specs.declared.replying.BodyKind.TheVariants.{Plain}

pub disk_fault_closed : codes "HTTP/1.1 500 Internal Server Error\r\nContent-Type: text/plain; charset=utf-8\r\nContent-Length: 10\r\nConnection: close\r\n\r\ndisk fault"
    ≡ reply_text 500 Plain (codes "disk fault") true
unfolding body_lines close_line digits end_text line start_text status_line
disk_fault_closed = refl

pub disk_fault_kept : codes "HTTP/1.1 500 Internal Server Error\r\nContent-Type: text/plain; charset=utf-8\r\nContent-Length: 10\r\n\r\ndisk fault"
    ≡ reply_text 500 Plain (codes "disk fault") false
unfolding body_lines close_line digits end_text line start_text status_line
disk_fault_kept = refl

pub out_of_memory_closed : codes "HTTP/1.1 503 Service Unavailable\r\nContent-Type: text/plain; charset=utf-8\r\nContent-Length: 13\r\nConnection: close\r\n\r\nout of memory"
    ≡ reply_text 503 Plain (codes "out of memory") true
unfolding body_lines close_line digits end_text line start_text status_line
out_of_memory_closed = refl

pub out_of_memory_kept : codes "HTTP/1.1 503 Service Unavailable\r\nContent-Type: text/plain; charset=utf-8\r\nContent-Length: 13\r\n\r\nout of memory"
    ≡ reply_text 503 Plain (codes "out of memory") false
unfolding body_lines close_line digits end_text line start_text status_line
out_of_memory_kept = refl
