-- Pieces, their digests and their ends.
use Rattle.std.proofs.Common.{◌≡◌, ℕ, ◌+◌, max, List, [], ◌∷◌, ◌++◌, map, refl, ap, ◌∙◌, arith}
use Rattle.std.proofs.lemmas.Grind.{flat_map-append}
use Rattle.std.specs.List.{flat_map}
use Rattle.content_hash.specs.Digests.{joined}
use Rattle.fh_model.specs.declared.files.Revision.{Revision}
use Rattle.fh_model.specs.declared.pieces.Piece.{Piece}
use Rattle.fh_model.specs.declared.sessions.BlockPiece.{BlockPiece}
use Rattle.fh_model.specs.declared.sessions.Session.{Session}
use Rattle.fh_model.specs.Pieces.{last_end, numbered, session_pieces}
use Rattle.fh_model.proofs.PieceLaws.{last_end-append}

pub joined_digests : (pieces : List Piece) → joined (map (λ piece. piece.digest) pieces) ≡ flat_map (λ piece. piece.digest.bytes) pieces
joined_digests [] = refl
joined_digests (piece ∷ pieces) = rw (joined_digests pieces) refl

numbered_pieces : (block : ℕ) (pieces : List Piece) → map (λ held. held.piece) (numbered block pieces) ≡ pieces
numbered_pieces block [] = refl
numbered_pieces block (piece ∷ pieces) = ap (λ (l : List Piece). piece ∷ l) (numbered_pieces (block + 1) pieces)

-- one member more
push_end : {A : Type 0} (of : A → List Piece) (list : List A) (one : A) → last_end (flat_map of (list ++ one ∷ [])) ≡ max (last_end (flat_map of list)) (last_end (of one))
push_end of list one =
    ap last_end (flat_map-append of list (one ∷ []))
    ∙ last_end-append (flat_map of list) (flat_map of (one ∷ []))
    ∙ ap (λ n. max (last_end (flat_map of list)) n) (last_end-append (of one) [] ∙ omega arith)

-- the end of a state with one version more
pub revision_end : (revisions : List Revision) (sessions : List Session) (one : Revision)
    → last_end (flat_map (λ kept. kept.file.pieces) (revisions ++ one ∷ []) ++ flat_map session_pieces sessions)
    ≡ max (last_end (flat_map (λ kept. kept.file.pieces) revisions ++ flat_map session_pieces sessions)) (last_end one.file.pieces)
revision_end revisions sessions one =
    let of : Revision → List Piece = λ kept. kept.file.pieces in
    omega (
      arith,
      push_end of revisions one,
      last_end-append (flat_map of revisions) (flat_map session_pieces sessions),
      last_end-append (flat_map of (revisions ++ one ∷ [])) (flat_map session_pieces sessions),
    )

-- the end of a state with one session more, which holds these pieces
pub session_end : (revisions : List Revision) (sessions : List Session) (one : Session) (pieces : List Piece) → one.pieces ≡ numbered 0 pieces
    → last_end (flat_map (λ kept. kept.file.pieces) revisions ++ flat_map session_pieces (sessions ++ one ∷ []))
    ≡ max (last_end (flat_map (λ kept. kept.file.pieces) revisions ++ flat_map session_pieces sessions)) (last_end pieces)
session_end revisions sessions one pieces holds =
    let of : Revision → List Piece = λ kept. kept.file.pieces in
    let same : last_end (session_pieces one) ≡ last_end pieces =
    ap (λ (held : List BlockPiece). last_end (map (λ held. held.piece) held)) holds ∙ ap last_end (numbered_pieces 0 pieces) in
    omega (
      arith,
      same,
      push_end session_pieces sessions one,
      last_end-append (flat_map of revisions) (flat_map session_pieces sessions),
      last_end-append (flat_map of revisions) (flat_map session_pieces (sessions ++ one ∷ [])),
    )
