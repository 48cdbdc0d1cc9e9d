-- Uploads worked out, by user 1 with home 1.
use Rattle.std.proofs.Common.{◌≡◌, ℕ, Bool, true, false, List, [], ◌∷◌, None, Some, codes, refl}
use Rattle.fh_model.specs.declared.changes.Change.TheVariants.{Put, Gone}
use Rattle.fh_model.specs.declared.changes.Node.TheVariants as node
use Rattle.fh_model.specs.declared.commands.Act.TheVariants as act
use Rattle.fh_model.specs.declared.commands.Commit.{Commit}
use Rattle.fh_model.specs.declared.commands.Mode.{Mode}
use Rattle.fh_model.specs.declared.commands.Mode.TheVariants.{Add, Overwrite, Update}
use Rattle.fh_model.specs.declared.files.FileMeta.{FileMeta}
use Rattle.fh_model.specs.declared.names.Name.{Name}
use Rattle.fh_model.specs.declared.pieces.Piece.{Piece}
use Rattle.fh_model.specs.declared.replies.Entry.TheVariants as entry
use Rattle.fh_model.specs.declared.replies.Reply.TheVariants as reply
use Rattle.fh_model.specs.declared.verdicts.Kind.TheVariants as kinds
use Rattle.fh_model.specs.declared.verdicts.Verdict.TheVariants.{Write, Same, Conflict}
use Rattle.fh_model.specs.Commits.{commit_in, commit_over, judged, turned_down, written}
use Rattle.fh_model.specs.Content.{are_blocks, size_of}
use Rattle.fh_model.specs.Files.{file_of, hash_on, id_over}
use Rattle.fh_model.specs.Pieces.{blocks_with, end_in, lies_within}
use Rattle.fh_model.specs.Resolve.{found, look_from, not_found}
use Rattle.fh_model.specs.State.{State, opening}
use Rattle.fh_model.specs.Stamps.{stamp_text}
use Rattle.fh_model.specs.Trees.{tree_after}
use Rattle.fh_model.specs.Uploads.{has_gap, uploaded}
use Rattle.fh_model.specs.Verdicts.{absent, file, folder, verdict}
use Rattle.fh_model.specs.declared.paths.PathArg.TheVariants.{Rev}

abbrev now : ℕ
now = 1700000000

-- ---- moments as texts

now_text : stamp_text now ≡ codes "2023-11-14T22:13:20Z"
unfolding stamp_text
now_text = refl

first_text : stamp_text 0 ≡ codes "1970-01-01T00:00:00Z"
unfolding stamp_text
first_text = refl

leap_text : stamp_text 951825599 ≡ codes "2000-02-29T11:59:59Z"
unfolding stamp_text
leap_text = refl

-- ---- the data

abbrev digest : List ℕ
digest = 7 ∷ 8 ∷ []

abbrev hello : Piece
hello = record { place = 0; len = 5; digest = record { bytes = digest } }

abbrev whole : Piece
whole = record { place = 5; len = 4194304; digest = record { bytes = digest } }

abbrev empty_piece : Piece
empty_piece = record { place = 5; len = 0; digest = record { bytes = digest } }

abbrev over : Piece
over = record { place = 5; len = 4194305; digest = record { bytes = digest } }

-- a block, and a block with one byte behind it, are two files' pieces; a short block is the last one
blocks : (are_blocks [] ≡ true) × (are_blocks (hello ∷ []) ≡ true) × (are_blocks (whole ∷ hello ∷ []) ≡ true)
    × (are_blocks (hello ∷ whole ∷ []) ≡ false) × (are_blocks (empty_piece ∷ []) ≡ false) × (are_blocks (over ∷ []) ≡ false)
blocks = (refl, refl, refl, refl, refl, refl)

size : size_of (whole ∷ hello ∷ []) ≡ 4194309
size = refl

gaps : (has_gap 0 (hello ∷ []) ≡ false) × (has_gap 1 (hello ∷ []) ≡ true) × (has_gap 0 (over ∷ []) ≡ true)
gaps = (refl, refl, refl)

-- ---- commits

abbrev a_txt : Name
a_txt = record { shown = codes "A.txt"; folded = codes "a.txt" }

abbrev loud : Name
loud = record { shown = codes "A.TXT"; folded = codes "a.txt" }

abbrev d : Name
d = record { shown = codes "d"; folded = codes "d" }

abbrev commit_by : Mode → Bool → Commit
commit_by mode strict = record { path = codes "/A.txt"; mode = mode; rename = false; strict = strict; client = None }

-- an empty file in an empty home: rev 1, id 1, no piece, both moments that of the command
abbrev empty_file : FileMeta
empty_file = record { id = 1; rev = 1; size = 0; hash = hash_on []; client = now; server = now; pieces = [] }

abbrev with_empty : State
with_empty = record opening {
  namespaces = record { number = 1; shared = false; floor = 0; changes = Put (a_txt ∷ []) (node.File empty_file) ∷ []; members = [] } ∷ [];
  revisions = record { ns = 1; names = a_txt ∷ []; file = empty_file } ∷ [];
  next = record opening.next { rev = 2; id = 2 };
  moment = now;
}

first_upload : commit_in opening now 1 1 (a_txt ∷ []) (commit_by Add false) [] ≡ written with_empty (entry.File (a_txt ∷ []) empty_file)
first_upload = refl

-- a client's moment is kept beside that of the command
dated : (file_of 1 1 now (record (commit_by Add false) { client = Some 5 }) []).client ≡ 5
dated = refl

-- the parents draw their ids first
abbrev behind_d : FileMeta
behind_d = record { id = 2; rev = 1; size = 5; hash = hash_on (hello ∷ []); client = now; server = now; pieces = hello ∷ [] }

with_parents : commit_in opening now 1 1 (d ∷ a_txt ∷ []) (commit_by Add false) (hello ∷ []) ≡ written (record opening {
  namespaces = record {
    number = 1;
    shared = false;
    floor = 0;
    members = [];
    changes = Put (d ∷ []) (node.Folder 1) ∷ Put (d ∷ a_txt ∷ []) (node.File behind_d) ∷ [];
  } ∷ [];
  revisions = record { ns = 1; names = d ∷ a_txt ∷ []; file = behind_d } ∷ [];
  next = record opening.next { rev = 2; id = 3 };
  moment = now;
}) (entry.File (d ∷ a_txt ∷ []) behind_d)
with_parents = refl

-- ---- the table

abbrev old : FileMeta
old = record { id = 9; rev = 4; size = 5; hash = record { bytes = digest }; client = 1; server = 2; pieces = hello ∷ [] }

on_nothing : (verdict absent Add true 5 old.hash ≡ Write) × (verdict absent Overwrite true 5 old.hash ≡ Write)
    × (verdict absent (Update 4) false 5 old.hash ≡ Write) × (verdict absent (Update 4) true 5 old.hash ≡ Conflict kinds.File)
on_nothing = (refl, refl, refl, refl)

on_folder : (verdict folder Add false 5 old.hash ≡ Conflict kinds.Folder) × (verdict folder Overwrite false 5 old.hash ≡ Conflict kinds.Folder)
    × (verdict folder (Update 4) true 5 old.hash ≡ Conflict kinds.Folder)
on_folder = (refl, refl, refl)

on_itself : (verdict (file old) Add false 5 old.hash ≡ Same) × (verdict (file old) Overwrite false 5 old.hash ≡ Same)
    × (verdict (file old) (Update 3) false 5 old.hash ≡ Same)
on_itself = (refl, refl, refl)

on_itself_strict : (verdict (file old) Add true 5 old.hash ≡ Conflict kinds.File) × (verdict (file old) Overwrite true 5 old.hash ≡ Write)
    × (verdict (file old) (Update 4) true 5 old.hash ≡ Write) × (verdict (file old) (Update 3) true 5 old.hash ≡ Conflict kinds.File)
on_itself_strict = (refl, refl, refl, refl)

on_another : (verdict (file old) Add false 6 old.hash ≡ Conflict kinds.File) × (verdict (file old) Overwrite false 6 old.hash ≡ Write)
    × (verdict (file old) (Update 4) false 6 old.hash ≡ Write) × (verdict (file old) (Update 3) true 6 old.hash ≡ Conflict kinds.File)
on_another = (refl, refl, refl, refl)

-- ---- over a file

abbrev s : State
s = record opening {
  namespaces = record { number = 1; shared = false; floor = 0; changes = Put (a_txt ∷ []) (node.File old) ∷ []; members = [] } ∷ [];
  revisions = record { ns = 1; names = a_txt ∷ []; file = old } ∷ [];
  next = record opening.next { rev = 5; id = 10 };
  moment = 2;
}

-- the same content stays, and is told by the name that stands there; the moment goes on
same : judged s now 1 1 (a_txt ∷ []) (file old) (commit_by Add false) (hello ∷ []) Same ≡ written (record s { moment = now }) (entry.File (a_txt ∷ []) old)
same = refl

-- a file that replaces it keeps its id and draws a rev
abbrev next_file : FileMeta
next_file = record { id = 9; rev = 5; size = 0; hash = hash_on []; client = now; server = now; pieces = [] }

replaced : commit_in s now 1 1 (loud ∷ []) (commit_by Overwrite false) [] ≡ written (record s {
  namespaces = record {
    number = 1;
    shared = false;
    floor = 0;
    members = [];
    changes = Put (a_txt ∷ []) (node.File old) ∷ Put (a_txt ∷ []) (node.File next_file) ∷ [];
  } ∷ [];
  revisions = record { ns = 1; names = a_txt ∷ []; file = old } ∷ record { ns = 1; names = a_txt ∷ []; file = next_file } ∷ [];
  next = record s.next { rev = 6 };
  moment = now;
}) (entry.File (a_txt ∷ []) next_file)
replaced = refl

-- below a file, over a folder and at the root
refusals : (commit_in s now 1 1 (a_txt ∷ d ∷ []) (commit_by Add false) [] ≡ turned_down (codes "path" ∷ codes "conflict" ∷ codes "file_ancestor" ∷ []))
    × (commit_in s now 1 1 [] (commit_by Add false) [] ≡ turned_down (codes "path" ∷ codes "conflict" ∷ codes "folder" ∷ []))
    × (commit_over s now 1 1 (d ∷ []) folder (commit_by Overwrite false) [] ≡ turned_down (codes "path" ∷ codes "conflict" ∷ codes "folder" ∷ []))
refusals = (refl, refl, refl)

-- a refused upload keeps its data in session 1, and enters
kept : uploaded s now 1 (hello ∷ []) (turned_down (codes "path" ∷ [])) ≡ record {
  state = record s {
    sessions = record {
      number = 1;
      user = 1;
      concurrent = false;
      closed = true;
      start = now;
      size = 5;
      pieces = record { block = 0; piece = hello } ∷ [];
    } ∷ [];
    next = record s.next { session = 2 };
    moment = now;
  };
  reply = reply.Refused (record { tags = codes "path" ∷ []; session = Some 1; offset = None });
  enters = true;
}
kept = refl

-- ---- trees, revisions and pieces

-- a file takes away what stands under it
alone : tree_after [] (Put (d ∷ []) (node.Folder 1) ∷ Put (d ∷ a_txt ∷ []) (node.File old) ∷ Put (d ∷ []) (node.File empty_file) ∷ [])
    ≡ record { names = d ∷ []; node = node.File empty_file } ∷ []
alone = refl

-- a version is found when its file is gone
abbrev gone : State
gone = record s {
  namespaces = record { number = 1; shared = false; floor = 0; changes = Put (a_txt ∷ []) (node.File old) ∷ Gone (a_txt ∷ []) ∷ []; members = [] } ∷ [];
}

by_rev : look_from gone 1 (Rev 4) ≡ found (record { place = record { ns = 1; names = a_txt ∷ [] }; node = Some (node.File old); names = a_txt ∷ [] })
by_rev = refl

no_rev : (look_from gone 1 (Rev 5) ≡ not_found) × (look_from gone 1 (Rev 0) ≡ not_found) × (look_from gone 2 (Rev 4) ≡ not_found)
no_rev = (refl, refl, refl)

-- a file that is made where one was deleted has a new id
again : id_over absent s.next.id ≡ 10
again = refl

-- new data goes behind the pieces that are kept
placed : (end_in s ≡ 5) × (blocks_with s (9 ∷ []) (1 ∷ 2 ∷ 3 ∷ 4 ∷ 5 ∷ 6 ∷ []) ≡ 1 ∷ 2 ∷ 3 ∷ 4 ∷ 5 ∷ 9 ∷ [])
placed = (refl, refl)

-- a block file that was cut to 4 bytes has not the piece of a command any more
cut : (lies_within 4 (record { seat = 1; at = now; act = act.Upload 1 (commit_by Add false) 0 (Some hello) }) ≡ false)
    × (lies_within 5 (record { seat = 1; at = now; act = act.Upload 1 (commit_by Add false) 0 (Some hello) }) ≡ true)
cut = (refl, refl)
