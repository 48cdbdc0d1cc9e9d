-- What the calls of a port did for one request, each at its point of the history.
use Rattle.std.specs.Prelude.{ℕ, ◌≡◌, ◌≤◌, Bool, true, false, if◌then◌else◌, List, [], ◌∷◌, ◌++◌, length, IsTrue, Option, None, Some, IfSome, Result, Ok, Err}
use Rattle.fh_model.specs.declared.commands.Act.{Act}
use Rattle.fh_model.specs.declared.commands.Cmd.{Cmd}
use Rattle.fh_model.specs.declared.files.FileMeta.{FileMeta}
use Rattle.fh_model.specs.declared.memory.NoMemory.{NoMemory}
use Rattle.fh_model.specs.declared.names.Name.{Name}
use Rattle.fh_model.specs.declared.replies.Entry.TheVariants as entry
use Rattle.fh_model.specs.Content.{size_of}
use Rattle.fh_model.specs.History.{Kept, state_of, state_after, with_more}
use Rattle.fh_model.specs.KeptFiles.{IsKept}
use Rattle.fh_model.specs.Pieces.{SamePieces, end_in}
use Rattle.fh_model.specs.Resolve.{resolve}
use Rattle.fh_model.specs.State.{State}
use Rattle.host_seat.specs.Port.{KeepsPieces, Leaves, OfBoth}
use Rattle.api_types.specs.declared.answer.Answer.TheVariants.{Plain}
use Rattle.api_types.specs.declared.route.Route.{Route}
use Rattle.session_rules.specs.Connection.{Kind, told, unavailable, asked_by, cmd_with, entered_as, entered_by, put_as, put_by, size_by, told_by}
use Rattle.session_rules.specs.Decisions.{Called, refused, calls, called, Decision, enters, loads}
use Rattle.session_rules.specs.Judged.{fault_said}
use Rattle.session_rules.specs.Replies.{head_of, load_of, text_of}
use Rattle.session_rules.specs.declared.deciding.HeadFault.{HeadFault}
use Rattle.session_rules.specs.declared.loading.Load.TheVariants as load
use Rattle.session_http.specs.declared.answering.Answered.{Answered}
use Rattle.session_http.specs.declared.answering.Answered.TheVariants.{Text, Content}

-- a user who calls a route, or why nobody does
abbrev pub called_as : Result (Route × ℕ) HeadFault → Called
called_as (Ok call) = calls call.0 call.1
called_as (Err fault) = refused (fault_said fault)

-- the same, or nothing where memory was wanting
abbrev pub called_if : Result (Result (Route × ℕ) HeadFault) NoMemory → Option Called
called_if (Ok call) = Some (called_as call)
called_if (Err fault) = None

-- a user is known to call a route
abbrev pub is_called : Option Called → Bool
is_called (Some (calls route user)) = true
is_called (Some (refused it)) = false
is_called None = false

-- who calls was decided, or memory was wanting for it, at a point that begins with what was seen
pub record Calls (alone : Bool) (admin : List ℕ) (old new : Kept) (method target : List ℕ) (token : Option (List ℕ)) (call : Option Called) : Type 0 where
  pub others : List Cmd
  pub grown : new ≡ with_more old others
  pub is : IfSome call (λ it. called admin (state_of new) method target token ≡ it)
  pub mine : IsTrue alone → others ≡ []

-- What became of the block file, where the port is alone and tells it: the command of this decision put its data there,
-- if it entered.
abbrev pub Puts : Bool → Kind → ℕ → ℕ → State → Decision → Option (List ℕ) → Option (List ℕ) → Type 0
Puts alone kind seat at s d old new =
    IsTrue alone → OfBoth (λ before after. end_in s ≤ length before
    → SamePieces (state_after s (entered_as kind (entered_by seat at s d))) after (put_as kind before (put_by seat at s before d))) old new

-- A request that came to this decision has this reply, at a point that begins with what was seen, and its command
-- entered. No content is sent.
pub record Acts (alone : Bool) (seat at : ℕ) (old new : Kept) (before after : Option (List ℕ)) (d : Decision) (close : Bool) (text : List ℕ) : Type 0 where
  pub others : List Cmd
  pub says : text ≡ text_of (told_by seat at (state_after (state_of old) others) [] d) close
  pub none : asked_by (state_after (state_of old) others) d ≡ []
  pub empty : size_by (state_after (state_of old) others) d ≡ 0
  pub grown : new ≡ with_more old (others ++ entered_by seat at (state_after (state_of old) others) d)
  pub mine : IsTrue alone → others ≡ []
  pub puts : Puts alone told seat at (state_of old) d before after

-- memory was wanting, and its command may have entered nevertheless
pub record Misses (alone : Bool) (seat at : ℕ) (old new : Kept) (before after : Option (List ℕ)) (d : Decision) : Type 0 where
  pub others : List Cmd
  pub any : Bool
  pub grown : new ≡ with_more old (others ++ (if any then entered_by seat at (state_after (state_of old) others) d else []))
  pub mine : IsTrue alone → others ≡ []
  pub puts : Puts alone (unavailable any) seat at (state_of old) d before after

-- the disk failed as the command of this decision was to enter, so that it may wait
pub record IsStuck (alone : Bool) (seat at : ℕ) (old new : Kept) (before after : Option (List ℕ)) (waited now : List Cmd) (d : Decision) : Type 0 where
  pub act : Act
  pub bytes : List ℕ
  pub others : List Cmd
  pub wanted : d ≡ enters act bytes
  pub grown : new ≡ with_more old others
  pub left : Leaves waited (cmd_with seat at (state_of old) act bytes ∷ []) now
  pub mine : IsTrue alone → others ≡ []
  pub below : IsTrue alone → KeepsPieces (state_of old) before after

-- A look found the file whose content this decision asks for: the version with this rev, which has so many blocks. The
-- head of its reply is this.
pub record Finds (alone : Bool) (old new : Kept) (d : Decision) (close : Bool) (head : List ℕ) (rev count : ℕ) : Type 0 where
  pub others : List Cmd
  pub user : ℕ
  pub path : List ℕ
  pub names : List Name
  pub meta : FileMeta
  pub wanted : d ≡ loads user path
  pub there : load_of (resolve (state_of new) user path) ≡ load.File names meta
  pub kept : IsKept (state_of new) meta
  pub sized : meta.size ≡ size_of meta.pieces
  pub says : head ≡ head_of (Plain (entry.File names meta)) meta.size close
  pub rev_is : rev ≡ meta.rev
  pub count_is : count ≡ length meta.pieces
  pub grown : new ≡ with_more old others
  pub mine : IsTrue alone → others ≡ []

-- this text
abbrev pub IsText : List ℕ → Answered → Type 0
IsText bytes (Text text) = text.items ≡ bytes
IsText bytes (Content head rev count) = ⊥

-- the head of the reply that sends this file, its rev, and how many blocks it has
abbrev pub IsHeadOfFile : List Name → FileMeta → Bool → Answered → Type 0
IsHeadOfFile names meta close (Text text) = ⊥
IsHeadOfFile names meta close (Content head rev count) =
    (head.items ≡ head_of (Plain (entry.File names meta)) meta.size close) × (rev ≡ meta.rev) × (count ≡ length meta.pieces)

-- what a request that came to this decision is answered: a text, or the content of a file
abbrev pub Answers : Bool → ℕ → ℕ → Kept → Kept → Option (List ℕ) → Option (List ℕ) → Decision → Bool → Answered → Type 0
Answers alone seat at old new before after d close (Text text) = Acts alone seat at old new before after d close text.items
Answers alone seat at old new before after d close (Content head rev count) =
    Finds alone old new d close head.items rev count × (after ≡ before)
