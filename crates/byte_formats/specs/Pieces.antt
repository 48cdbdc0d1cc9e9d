-- A piece of a file: its place, its length, and the digest of its bytes.
use Rattle.std.specs.Prelude.{ℕ, ◌==◌, ◌&&◌, if◌then◌else◌, List, [], ◌∷◌, get_or}
use Rattle.std.specs.Int.{w32, from_be_bytes, to_be_bytes}
use Rattle.fh_model.specs.declared.pieces.Bytes32.{Bytes32}
use Rattle.fh_model.specs.declared.pieces.Piece.{Piece}
use Rattle.byte_formats.specs.Fields.{n64, octets}
use Rattle.byte_formats.specs.Formats.{Format, both, byte_where, follows, made}
use Rattle.byte_formats.specs.Texts.{between}

-- one byte of a range
abbrev pub byte_in : ℕ → ℕ → Format ℕ
byte_in least most = byte_where (between least most) least

-- ---- the length: a number of four bytes from 1 to 4,194,304, which is 00 40 00 00

-- the most that a byte may be behind the second one
abbrev pub most_behind : ℕ → ℕ
most_behind second = if second == 0x40 then 0 else 255

-- the least that the last one may be
abbrev pub least_behind : ℕ → ℕ → ℕ
least_behind second third = if (second == 0) && (third == 0) then 1 else 0

abbrev pub last_byte : ℕ → ℕ → Format ℕ
last_byte second third = byte_in (least_behind second third) (most_behind second)

abbrev pub last_bytes : ℕ → Format (ℕ × ℕ)
last_bytes second = follows (byte_in 0 (most_behind second)) (last_byte second)

abbrev pub len_bytes : Format (ℕ × (ℕ × (ℕ × ℕ)))
len_bytes = both (byte_in 0 0) (follows (byte_in 0 0x40) last_bytes)

abbrev pub len_of : ℕ × (ℕ × (ℕ × ℕ)) → ℕ
len_of x = from_be_bytes w32 (x.0 ∷ x.1.0 ∷ x.1.1.0 ∷ x.1.1.1 ∷ [])

abbrev pub bytes_of_len : ℕ → ℕ × (ℕ × (ℕ × ℕ))
bytes_of_len n =
    let bytes = to_be_bytes w32 n in
    (get_or bytes 0 0, (get_or bytes 1 0, (get_or bytes 2 0, get_or bytes 3 0)))

unfoldable pub piece_len : Format ℕ
piece_len = made len_of bytes_of_len len_bytes

-- ---- the whole

abbrev pub digest_of : List ℕ → Bytes32
digest_of bytes = record { bytes = bytes }

abbrev pub digest_format : Format Bytes32
digest_format = made digest_of (λ digest. digest.bytes) (octets 32)

abbrev pub piece_fields : Format (ℕ × (ℕ × Bytes32))
piece_fields = both n64 (both piece_len digest_format)

abbrev pub piece_of : ℕ × (ℕ × Bytes32) → Piece
piece_of x = record { place = x.0; len = x.1.0; digest = x.1.1 }

unfoldable pub piece_format : Format Piece
piece_format = made piece_of (λ piece. (piece.place, (piece.len, piece.digest))) piece_fields
